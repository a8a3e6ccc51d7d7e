use Rattle.std.proofs.Common.{◌≡◌, ◌∙◌, sym, None}
use Rattle.std.proofs.lemmas.Result.{err_from_is_err_and}
use Rattle.heap_rule.specs.Limits.{first_outside}
use Rattle.table_sections.proofs.Ending.{lists_length, made_fresh, made_length, none_of}
use Rattle.table_sections.proofs.together.run_sections.Goals as goal

pub returns-in_err-seats-clause-outside : goal.returns-in_err-seats-clause-outside
returns-in_err-seats-clause-outside g c k =
    let o = c.in_err-seats.ensures.outside k in
    let r = err_from_is_err_and c.from_residual.result c.from_residual.ensures.1 in
    let same = r.2 in
    let is = r.1 in
    (λ e. o.0 (let q = sym is ∙ e in cc), λ f. let q = o.1 f in is ∙ cc)

pub run_on-requires-clause-inside : goal.run_on-requires-clause-inside
run_on-requires-clause-inside g c κs within = none_of (first_outside c.args.config) (λ k f. let q = (c.in_ok-seats.ensures.outside k).1 f in cc)

pub run_on-requires-clause-fresh : goal.run_on-requires-clause-fresh
run_on-requires-clause-fresh g c κs within =
    let inside : first_outside c.args.config ≡ None = none_of (first_outside c.args.config) (λ k f. let q = (c.in_ok-seats.ensures.outside k).1 f in cc) in
    made_fresh c.args.config inside c.in_ok-seats.seats c.in_ok-seats.ensures.heap c.in_ok-seats.all.items c.in_ok-seats.ensures.seats

pub run_on-requires-clause-len : goal.run_on-requires-clause-len
run_on-requires-clause-len g c κs within =
    let inside : first_outside c.args.config ≡ None = none_of (first_outside c.args.config) (λ k f. let q = (c.in_ok-seats.ensures.outside k).1 f in cc) in
    made_length c.args.config inside c.in_ok-seats.seats c.in_ok-seats.ensures.heap c.in_ok-seats.all.items c.in_ok-seats.ensures.seats ∙ (c.requires.fits.domains ∙ lists_length c.args.sections.items)

pub returns-clause-outside : goal.returns-clause-outside
returns-clause-outside g c k = (λ e. absurd (c.run_on.ensures.outside k e), λ f. let q = (c.in_ok-seats.ensures.outside k).1 f in cc)
