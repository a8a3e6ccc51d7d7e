use Rattle.std.proofs.Common.{◌≡◌, ◌∙◌, Some, ap, subst, sym}
use Rattle.run_session.specs.Driving.{session_of}
use Rattle.run_session.specs.Stopping.{EndsIn}
use Rattle.run_session.specs.Sessions.{SessionView}
use Rattle.run_session.proofs.Driven.{ends_in}
use Rattle.run_session.proofs.session.Session.end.Goals as goal

pub returns : goal.returns
returns c =
    let h = c.self.inside.heap in
    let seen : session_of h.config (Some c.in-Some.run') ≡ c.args.self = sym (ap (session_of h.config) c.in-Some.is) ∙ c.self.view_is in
    subst (λ (v : SessionView). EndsIn v c.new.result) seen
    (ends_in h c.self.inside.run c.in-Some.run' c.come_back-run.result c.close.new.self c.end.new.run c.new.result c.self.invariant.0 c.in-Some.is c.come_back-run.ensures.back c.close.ensures c.end.ensures.over c.end.ensures.ran c.new.ensures.config c.new.ensures.front c.new.ensures.ran)
