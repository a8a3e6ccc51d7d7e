use Rattle.std.proofs.Common.{Some, None, arith, ap, sym, ◌∙◌}
use Rattle.std.proofs.lemmas.Str.Pattern.{split_parts}
use Rattle.clap.specs.Lexer.{name_and_value}
use Rattle.clap.proofs.LexerLemmas.{name_and_value-at, name_and_value-without}
use Rattle.text_script.proofs.words.long.name_and_text.Goals as goal

pub returns-in-Some : goal.returns-in-Some
returns-in-Some c =
    let parts = split_parts 61 _ (Some (c.in-Some.name, c.in-Some.text)) c.in-Some.ensures.cases (omega arith) in
    sym (ap name_and_value parts.0 ∙ name_and_value-at _ _ parts.1)

pub returns-in-None : goal.returns-in-None
returns-in-None c = sym (name_and_value-without _ (split_parts 61 _ None c.in-None.ensures.cases (omega arith)))
