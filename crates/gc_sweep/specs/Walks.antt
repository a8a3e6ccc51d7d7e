-- Places of pools, as a sweep comes to them.
use Rattle.std.specs.Prelude.{◌<◌, List, [], ◌∷◌}
use Rattle.heap_rule.specs.declared.view.Spot.{Spot}
use Rattle.heap_rule.specs.Pools.{IsBefore}
use Rattle.step_sweep.specs.Freeing.{IsNoLater}

-- a sweep comes to these places on its way from one place to another, to each of them once. The last one stands first
abbrev pub IsWalk : Spot → List Spot → Spot → Type 0
IsWalk from [] to = IsNoLater from to
IsWalk from (s ∷ ss) to = (s.slot < 1024) × IsBefore s.pool s.slot to × IsWalk from ss s
