-- A run that may go on.
use Rattle.std.specs.Prelude.{◌≡◌, length}
use Rattle.model_core.specs.declared.state.Sizes.{Sizes}
use Rattle.model_core.specs.Domains.{IsWithinLimits}
use Rattle.model_traces.specs.Schedules.Scheduled.{Played}
use Rattle.model_traces.specs.Scheduled.Runs.{IsPlayed}

-- a run of a heap of some sizes within the limits, with a section for each domain, that has come so far by what may be made
pub record IsUnderWay (p : Played) : Type 0 where
  pub sizes : Sizes
  pub limits : IsWithinLimits sizes
  pub sections : length p.left ≡ sizes.domains
  pub played : IsPlayed sizes p
