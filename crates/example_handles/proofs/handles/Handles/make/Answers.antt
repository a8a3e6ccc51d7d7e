use Rattle.std.proofs.Common.{◌≡◌, ◌∙◌, None, ap, subst, sym}
use Rattle.std.specs.List.{AllByRecursion}
use Rattle.std.proofs.lemmas.Result.{err_from_is_err_and}
use Rattle.heap_rule.specs.declared.config.Config.{Config}
use Rattle.heap_rule.specs.Limits.{first_outside}
use Rattle.example_handles.specs.Handling.{IsUnused, config_for}
use Rattle.example_handles.proofs.Ending.{none_outside, unused_seats}
use Rattle.example_handles.proofs.handles.Handles.make.Goals as goal

pub returns-in_err-seats-clause-outside : goal.returns-in_err-seats-clause-outside
returns-in_err-seats-clause-outside g c k =
    let o = c.in_err-seats.ensures.outside k in
    let r = err_from_is_err_and c.from_residual.result c.from_residual.ensures.1 in
    let same = r.2 in
    let is = r.1 in
    (λ e. o.0 (let q = sym is ∙ e in cc), λ f. let q = o.1 f in is ∙ cc)

pub returns-in_err-all-clause-outside : goal.returns-in_err-all-clause-outside
returns-in_err-all-clause-outside g c k =
    let o = c.in_ok-seats.ensures.outside k in
    let r = err_from_is_err_and c.from_residual-in_err-all.result c.from_residual-in_err-all.ensures.1 in
    let same = r.2 in
    (λ e. let q = sym r.1 ∙ e in cc, λ f. let q = o.1 f in cc)

pub returns-clause-outside : goal.returns-clause-outside
returns-clause-outside g c k =
    let o = c.in_ok-seats.ensures.outside k in
    (λ e. cc, λ f. let q = o.1 f in cc)

pub with_none-requires : goal.with_none-requires
with_none-requires g c =
    let seats = c.in_ok-seats.ensures in
    let config = config_for c.args.domains c.args.minor_words c.args.pools c.args.most in
    let fits : first_outside config ≡ None = none_outside (first_outside config) (λ k is. let q = (seats.outside k).1 is in cc) in
    record {
      unused = subst (AllByRecursion (IsUnused c.args.most)) (sym seats.seats)
          (unused_seats c.in_ok-seats.seats c.args.most 0 c.args.domains (ap first_outside seats.heap ∙ fits) (ap (λ (k : Config). k.finals) seats.heap));
    }
