use Rattle.std.proofs.Common.{◌∙◌, sym}
use Rattle.std.proofs.lemmas.Result.{err_from_is_err_and}
use Rattle.run_session.proofs.tables.TableSession.make.Goals as goal

pub returns-in_err-session-clause-outside : goal.returns-in_err-session-clause-outside
returns-in_err-session-clause-outside c k =
    let o = c.in_err-session.ensures.outside k in
    let r = err_from_is_err_and c.from_residual.result c.from_residual.ensures.1 in
    let same = r.2 in
    let is = r.1 in
    (λ e. o.0 (let q = sym is ∙ e in cc), λ f. let q = o.1 f in is ∙ cc)
