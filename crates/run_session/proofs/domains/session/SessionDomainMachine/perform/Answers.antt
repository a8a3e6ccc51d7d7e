use Rattle.std.proofs.Common.{subst}
use Rattle.heap_rule.specs.Limits.{sizes_in}
use Rattle.run_session.specs.Sessions.{SessionView}
use Rattle.weak_laws.specs.Maps.Calls.{PerformedBy}
use Rattle.weak_maps.proofs.OfLists.PerformLemmas.{performs}
use Rattle.run_session.proofs.domains.session.SessionDomainMachine.perform.Goals as goal

pub returns-clause-performed : goal.returns-clause-performed
returns-clause-performed g c =
    let old : SessionView = c.self.inside.session in
    let new : SessionView = c.perform.new.self in
    subst (λ (v : SessionView). PerformedBy (sizes_in v.config) 0 v.front new.front c.args.c c.perform.result) c.self.view_is
    (performs (sizes_in old.config) old.front new.front c.args.c c.perform.result c.perform.ensures.performed)
