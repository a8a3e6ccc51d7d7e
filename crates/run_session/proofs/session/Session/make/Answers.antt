use Rattle.std.proofs.Common.{◌∙◌, sym}
use Rattle.std.proofs.lemmas.Result.{err_from_is_err_and}
use Rattle.run_session.proofs.session.Session.make.Goals as goal

pub returns-in_err-heap-clause-outside : goal.returns-in_err-heap-clause-outside
returns-in_err-heap-clause-outside c k =
    let o = c.in_err-heap.ensures.outside k in
    let r = err_from_is_err_and c.from_residual.result c.from_residual.ensures.1 in
    let same = r.2 in
    let is = r.1 in
    (λ e. o.0 (let q = sym is ∙ e in cc), λ f. let q = o.1 f in is ∙ cc)

pub returns-in_err-decks-clause-outside : goal.returns-in_err-decks-clause-outside
returns-in_err-decks-clause-outside c k =
    let o = c.in_ok-heap.ensures.outside k in
    let r = err_from_is_err_and c.from_residual-in_err-decks.result c.from_residual-in_err-decks.ensures.1 in
    let same = r.2 in
    (λ e. let q = sym r.1 ∙ e in cc, λ f. let q = o.1 f in cc)

pub returns-in_err-run-clause-outside : goal.returns-in_err-run-clause-outside
returns-in_err-run-clause-outside c k =
    let o = c.in_ok-heap.ensures.outside k in
    let r = err_from_is_err_and c.from_residual-in_err-run.result c.from_residual-in_err-run.ensures.1 in
    let same = r.2 in
    (λ e. let q = sym r.1 ∙ e in cc, λ f. let q = o.1 f in cc)

pub returns-clause-outside : goal.returns-clause-outside
returns-clause-outside c k =
    let o = c.in_ok-heap.ensures.outside k in
    (λ e. cc, λ f. let q = o.1 f in cc)

pub returns-in_err-room-clause-outside : goal.returns-in_err-room-clause-outside
returns-in_err-room-clause-outside c k =
    let o = c.in_ok-heap.ensures.outside k in
    let r = err_from_is_err_and c.from_residual-in_err-room.result c.from_residual-in_err-room.ensures.1 in
    let same = r.2 in
    (λ e. let q = sym r.1 ∙ e in cc, λ f. let q = o.1 f in cc)
