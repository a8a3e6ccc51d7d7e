use Rattle.std.proofs.Common.{◌≡◌, ◌<◌, List, ℤ, ap, sym, ◌∙◌, subst, rules, arith, length, None, Some}
use Rattle.std.specs.Prelude.{sum_by}
use Rattle.text_script.specs.Script.{with_last}
use Rattle.table_text.specs.declared.version.Version.TheVariants.{Two}
use Rattle.table_text.specs.Texts.{most_lines}
use Rattle.table_text.specs.Faults.{SaysRow, fault_of_shape, says}
use Rattle.table_text.specs.Sections.Faults.{number_at, place_in}
use Rattle.table_text.proofs.LineLemmas.{row_line}
use Rattle.table_text.proofs.OfSections.LineLemmas.{adds_line, read_fault}
use Rattle.table_text.proofs.OfSections.ReadLemmas.{is_first}
use Rattle.table_text.proofs.sections.step.take_line.Goals as goal

pub returns-in-Err-clause-fault : goal.returns-in-Err-clause-fault
returns-in-Err-clause-fault c =
    let p = place_in c.args.sections.now in
    let ns = c.as_slice.result.now in
    let some : 0 < length c.args.sections.now = omega (arith, c.if-len-eq0.false) in
    let row : SaysRow c.args.text.now c.in-Some.word ns = subst (λ (ns : List ℤ). SaysRow c.args.text.now c.in-Some.word ns) (sym c.as_slice.ensures.value) c.in-Some.ensures.row in
    let fault : fault_of_shape (most_lines Two) (number_at p) (sum_by length c.args.sections.now) (says c.in-Some.word ns) ≡ Some c.in-Err.fault = search rules in
    is_first _ _ (read_fault p c.args.text.now c.in-Some.word ns row c.in-Some.ensures.shared some ∙ fault)

pub returns-in-Ok-push-clause-added : goal.returns-in-Ok-push-clause-added
returns-in-Ok-push-clause-added c =
    let sections = c.args.sections.now in
    let p = place_in sections in
    let ns = c.as_slice.result.now in
    let some : 0 < length sections = omega (arith, c.if-len-eq0.false) in
    let row : SaysRow c.args.text.now c.in-Some.word ns = subst (λ (ns : List ℤ). SaysRow c.args.text.now c.in-Some.word ns) (sym c.as_slice.ensures.value) c.in-Some.ensures.row in
    let fine : fault_of_shape (most_lines Two) (number_at p) (sum_by length sections) (says c.in-Some.word ns) ≡ None = search rules in
    let line = row_line c.args.text.now c.in-Some.word ns (most_lines Two) (number_at p) (sum_by length sections) row (search rules) fine in
    adds_line sections c.push.new.self c.args.text.now c.in-Some.word ns line.said c.in-Some.ensures.shared some line.few (c.in-Ok-push.ensures ∙ ap (with_last sections) c.in-Ok.ensures.made)
