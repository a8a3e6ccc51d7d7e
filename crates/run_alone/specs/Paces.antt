-- How many steps are left of a pause of a heap's only domain, and how often it has arrived at most where the pause is over.
use Rattle.std.specs.Prelude.{ℕ, ◌<◌, Bool, ◌+◌, ◌-◌, ◌*◌, ◌%◌, ◌==◌, if◌then◌else◌, Option, Some, None}
use Rattle.heap_rule.specs.declared.config.Config.{Config}
use Rattle.heap_rule.specs.declared.phase.Kind.{Kind}
use Rattle.heap_rule.specs.declared.phase.Progress.{Progress}
use Rattle.gc_pause.specs.Phases.Measure.{any_left, any_named}
use Rattle.run_turns.specs.Runs.{RunView}

-- whether a number is even
abbrev pub is_even : ℕ → Bool
is_even n = n % 2 == 0

-- how often domain 0 has arrived at most where a pause is over, if as many blocks may live as a heap has places in its pools: by how often it has arrived so far, the kind of the last even phase that it knows of, and what it keeps. Each even phase that is left has an odd one before it, and in the last one nobody arrives
abbrev pub last_arrival : ℕ → ℕ → Option Kind → Progress → ℕ → ℕ
last_arrival all arrivals None p unmarked = arrivals + 1
last_arrival all arrivals (Some kind) p unmarked = if is_even arrivals then arrivals + 1 + any_named all kind p unmarked * 2 else arrivals + any_left all kind p unmarked * 2

-- by its run
abbrev pub last_of : Config → RunView → ℕ
last_of k r = last_arrival (k.pools * 1024) r.token.view.own.arrivals r.left r.token.view.seen.share.progress r.token.view.seen.share.unmarked

-- how many steps it makes at most before it runs again, where it arrives so often at most
abbrev pub steps_of : ℕ → Option Kind → ℕ → ℕ
steps_of last None arrivals = 0
steps_of last (Some kind) arrivals = last + 1 - arrivals

abbrev pub steps_left : Config → RunView → ℕ
steps_left k r = steps_of (last_of k r) r.left r.token.view.own.arrivals

-- how often it arrives at most in one pause
abbrev pub most_in_pause : ℕ
most_in_pause = 67108864

-- wherever it stands, a pause that goes on ends before it has arrived so often more
abbrev pub IsPaced : Config → RunView → Type 0
IsPaced k r = last_of k r < r.token.view.own.arrivals + most_in_pause
