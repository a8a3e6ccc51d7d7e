-- How many steps are left of a pause, and how often the domains may still arrive.
use Rattle.std.specs.Prelude.{ℕ, ◌+◌, ◌-◌, ◌*◌, ◌^◌, if◌then◌else◌, List, ◌∷◌, sum_by, Option, Some, None}
use Rattle.heap_rule.specs.declared.config.Config.{Config}
use Rattle.heap_rule.specs.declared.phase.Kind.{Kind}
use Rattle.heap_rule.specs.declared.phase.Progress.{Progress}
use Rattle.gc_pause.specs.Phases.Measure.{any_left, any_named}
use Rattle.run_turns.specs.Runs.{RunView}
use Rattle.run_replay.specs.Gathered.{GatheredView, is_even}

-- how often domain 0 has arrived at most where a pause is over, if as many blocks may live as a heap has places in its pools: by how often it has arrived so far, the kind of the last even phase that it knows of, and what it keeps. Each even phase that is left has an odd one before it, and in the last one nobody arrives
abbrev pub last_arrival : ℕ → ℕ → Option Kind → Progress → ℕ → ℕ
last_arrival all arrivals None p unmarked = arrivals + 1
last_arrival all arrivals (Some kind) p unmarked = if is_even arrivals then arrivals + 1 + any_named all kind p unmarked * 2 else arrivals + any_left all kind p unmarked * 2

-- by its run
abbrev pub last_of : Config → RunView → ℕ
last_of k r = last_arrival (k.pools * 1024) r.token.view.own.arrivals r.left r.token.view.seen.share.progress r.token.view.seen.share.unmarked

-- and by the first of the runs
abbrev pub last_by : Config → List (Option RunView) → ℕ
last_by k (Some r ∷ rs) = last_of k r
last_by k _ = 0

-- how many steps a domain makes at most before it runs again, where it arrives so often at most
abbrev pub steps_of : ℕ → Option Kind → ℕ → ℕ
steps_of last None arrivals = 0
steps_of last (Some kind) arrivals = last + 1 - arrivals

abbrev pub steps_at : ℕ → Option RunView → ℕ
steps_at last None = 0
steps_at last (Some r) = steps_of last r.left r.token.view.own.arrivals

-- and all domains together
abbrev pub pace_of : GatheredView → ℕ
pace_of g = sum_by (steps_at (last_by g.heap.config g.runs)) g.runs

-- how often each may still arrive once the pause is over
abbrev pub spare_of : GatheredView → ℕ
spare_of g = 2 ^ 60 - last_by g.heap.config g.runs
