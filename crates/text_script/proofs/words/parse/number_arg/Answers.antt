use Rattle.std.proofs.Common.{◌∙◌, ap, true}
use Rattle.clap.specs.Words.{Rule, rule_of}
use Rattle.clap.specs.declared.builder.arg.Arg.{Arg}
use Rattle.text_script.proofs.words.parse.number_arg.Goals as goal

pub returns-clause-rule : goal.returns-clause-rule
returns-clause-rule c =
    let made : Arg = c.new.result in
    ap rule_of {y = record made { required = true }} c.required.ensures ∙ ap (λ (r : Rule). record r { required = true }) c.new.ensures.rule

pub returns-clause-local : goal.returns-clause-local
returns-clause-local c =
    let made : Arg = c.new.result in
    ap (λ (a : Arg). a.global) {y = record made { required = true }} c.required.ensures ∙ c.new.ensures.optional.1
