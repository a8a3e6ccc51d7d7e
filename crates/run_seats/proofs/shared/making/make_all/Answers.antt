use Rattle.std.proofs.Common.{◌∙◌, List, refl, sym, subst}
use Rattle.std.specs.List.{AllByRecursion}
use Rattle.std.proofs.lemmas.Result.{err_from_is_err_and}
use Rattle.heap_rule.specs.Token.{IsIn, SharedHeap}
use Rattle.run_turns.specs.Runs.{RunView}
use Rattle.run_seats.proofs.OfShared.Opened.{all_here}
use Rattle.run_seats.proofs.shared.making.make_all.Goals as goal

pub returns-in_err-heap-clause-outside : goal.returns-in_err-heap-clause-outside
returns-in_err-heap-clause-outside c k =
    let o = c.in_err-heap.ensures.outside k in
    let r = err_from_is_err_and c.from_residual.result c.from_residual.ensures.1 in
    let same = r.2 in
    let is = r.1 in
    (λ e. o.0 (let q = sym is ∙ e in cc), λ f. let q = o.1 f in is ∙ cc)

pub returns-in_err-heap-2-clause-outside : goal.returns-in_err-heap-2-clause-outside
returns-in_err-heap-2-clause-outside c k =
    let o = c.in_ok-heap.ensures.outside k in
    let r = err_from_is_err_and c.from_residual-in_err-heap-2.result c.from_residual-in_err-heap-2.ensures.1 in
    let same = r.2 in
    (λ e. let q = sym r.1 ∙ e in cc, λ f. let q = o.1 f in cc)

pub share_all-requires : goal.share_all-requires
share_all-requires c =
    let h : SharedHeap = c.in_ok-heap.heap in
    let here : AllByRecursion (λ (r : RunView). IsIn r.token h) c.in_ok-heap.runs.items = subst (λ (rs : List RunView). AllByRecursion (λ (r : RunView). IsIn r.token h) rs) (sym c.in_ok-heap.ensures.runs) (all_here h h.config 0 h.config.domains refl) in
    record { here = subst (λ (x : SharedHeap). AllByRecursion (λ (r : RunView). IsIn r.token x) c.in_ok-heap.runs.items) (sym c.in_ok-heap-2.ensures.ok) here }

pub returns-in_err-share_all-clause-outside : goal.returns-in_err-share_all-clause-outside
returns-in_err-share_all-clause-outside c k =
    let o = c.in_ok-heap.ensures.outside k in
    let r = err_from_is_err_and c.from_residual-in_err-share_all.result c.from_residual-in_err-share_all.ensures.1 in
    let same = r.2 in
    (λ e. let q = sym r.1 ∙ e in cc, λ f. let q = o.1 f in cc)

pub returns-clause-outside : goal.returns-clause-outside
returns-clause-outside c k =
    let o = c.in_ok-heap.ensures.outside k in
    (λ e. cc, λ f. let q = o.1 f in cc)
