use Rattle.std.proofs.Common.{◌≡◌, ◌∙◌, ap, sym, false, true, rules}
use Rattle.std.specs.Prelude.{bytes_eq, codes, option_map}
use Rattle.text_script.specs.Number.{clipped}
use Rattle.table_text.proofs.OfSections.HeadingLemmas.{heading_number, no_heading, no_number, number_read}
use Rattle.table_text.proofs.sections.step.heading_of.Goals as goal

pub returns-then-ne : goal.returns-then-ne
returns-then-ne c =
    let other : bytes_eq c.first_text.result.0.now (codes "domain") ≡ false = search rules in
    ap (option_map clipped) (sym (no_heading c.args.text.now c.first_text.result.0.now _ c.first_text.ensures other))

pub returns-in_err-numbers : goal.returns-in_err-numbers
returns-in_err-numbers c =
    let is : bytes_eq c.first_text.result.0.now (codes "domain") ≡ true = search rules in
    c.from_residual.ensures ∙ no_number _ c.in_err-numbers.ensures.value ∙ ap (option_map clipped) (sym (heading_number c.args.text.now c.first_text.result.0.now _ c.first_text.ensures is))

pub returns : goal.returns
returns c =
    let is : bytes_eq c.first_text.result.0.now (codes "domain") ≡ true = search rules in
    number_read _ c.in_ok-numbers.numbers.items c.as_slice-2.result.now c.number_at.result c.in_ok-numbers.ensures.value c.in_ok-numbers.ensures.counted c.as_slice-2.ensures.value c.number_at.ensures
    ∙ ap (option_map clipped) (sym (heading_number c.args.text.now c.first_text.result.0.now _ c.first_text.ensures is))
