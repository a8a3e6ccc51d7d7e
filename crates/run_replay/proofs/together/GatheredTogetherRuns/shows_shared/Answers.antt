use Rattle.std.proofs.Common.{subst}
use Rattle.model_core.specs.Domains.{IsWithinLimits}
use Rattle.heap_rule.specs.Limits.{sizes_in}
use Rattle.run_replay.specs.Gathered.{GatheredView, IsGathered}
use Rattle.run_replay.proofs.Joining.{stands_of}
use Rattle.run_replay.proofs.Sharing.{shared_is}
use Rattle.run_replay.proofs.together.GatheredTogetherRuns.shows_shared.Goals as goal

pub returns-clause-shared : goal.returns-clause-shared
returns-clause-shared c = λ h ms. shared_is c.args.self.now (subst IsGathered c.self.view_is c.self.invariant.0) h ms

pub returns-clause-stands : goal.returns-clause-stands
returns-clause-stands c =
    let limits = subst (λ (v : GatheredView). IsWithinLimits (sizes_in v.heap.config)) c.self.view_is c.config-limits.ensures.limits in
    stands_of c.args.self.now (subst IsGathered c.self.view_is c.self.invariant.0) limits
