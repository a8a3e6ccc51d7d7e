use Rattle.std.proofs.Common.{◌≡◌, subst, sym}
use Rattle.heap_rule.specs.declared.config.Config.{Config}
use Rattle.heap_rule.specs.Limits.{sizes_in}
use Rattle.weak_laws.specs.Tables.Performing.{Performed}
use Rattle.run_session.specs.Sessions.{MayPerform, SessionView}
use Rattle.run_session.proofs.Plain.{no_run, plainly, unregistered}
use Rattle.run_session.proofs.tables.TableSession.perform.Goals as goal

pub invariant_of-self : goal.invariant_of-self
invariant_of-self c =
    let old : SessionView = c.self.inside.session in
    let new : SessionView = c.perform-reply.new.self in
    let p = c.perform-reply.ensures in
    let may : MayPerform old c.args.command = subst (λ (v : SessionView). MayPerform v c.args.command) (sym c.self.view_is) c.requires.may in
    let none = c.self.invariant in (
      subst (λ (k : Config). k.finals ≡ 0) (sym p.config) none.0,
      no_run old new c.args.command c.perform-reply.result c.shows_legal.ensures.limits c.shows_legal.ensures.alone none.0 c.shows_legal.ensures.finals c.shows_legal-2.ensures.finals p.config may p.performed,
      unregistered old new c.args.command c.perform-reply.result c.shows_legal.ensures.limits c.shows_legal.ensures.alone none.0 c.shows_legal.ensures.finals c.shows_legal-2.ensures.finals p.config may p.performed none.2,
    )

pub returns-clause-performed : goal.returns-clause-performed
returns-clause-performed c =
    let old : SessionView = c.self.inside.session in
    let new : SessionView = c.perform-reply.new.self in
    let p = c.perform-reply.ensures in
    let may : MayPerform old c.args.command = subst (λ (v : SessionView). MayPerform v c.args.command) (sym c.self.view_is) c.requires.may in
    subst (λ (v : SessionView). Performed (sizes_in v.config) v.front new.front c.args.command c.perform-reply.result) c.self.view_is
    (plainly old new c.args.command c.perform-reply.result c.shows_legal.ensures.limits c.shows_legal.ensures.alone c.self.invariant.0 c.shows_legal.ensures.finals c.shows_legal-2.ensures.finals p.config may p.performed)
