-- What the clauses of a pause refuse: where a clause holds a wrong outcome doesn't, whatever body met it.
use Rattle.std.proofs.Common.{◌≡◌, ◌<◌, ◌*◌, ℕ, arith}
use Rattle.heap_rule.specs.declared.config.Config.{Config}
use Rattle.heap_rule.specs.declared.phase.Kind.{Kind}
use Rattle.heap_rule.specs.declared.phase.Kind.TheVariants.{Run, Mark}
use Rattle.heap_rule.specs.declared.phase.Progress.{Progress}
use Rattle.gc_pause.specs.Phases.Measure.{IsNearer}
use Rattle.run_replay.specs.Gathered.{GatheredView}
use Rattle.run_replay.specs.Pace.{pace_of}
use Rattle.run_replay.proofs.Pace.{named_left}

-- no step of a pause leaves as many as were left before
pub no_step_is_in_vain : (g after : GatheredView) → pace_of after < pace_of g → pace_of after ≡ pace_of g → ⊥
no_step_is_in_vain g after nearer same = omega (arith, nearer, same)

-- domain 0 names no kind once more where as much is unmarked as before
pub no_kind_comes_again : (k : Config) (kind : Kind) (p : Progress) (unmarked : ℕ) → (kind ≡ Run → ⊥) → IsNearer k kind kind p p unmarked unmarked → ⊥
no_kind_comes_again k kind p unmarked other nearer =
    let same = named_left (k.pools * 1024) kind p unmarked other in
    omega (arith, nearer, same)

-- so a changed word that is never cleared is found: blocks aren't marked again and again where none is marked
pub no_marking_goes_on_for_ever : (k : Config) (p : Progress) (unmarked : ℕ) → IsNearer k Mark Mark p p unmarked unmarked → ⊥
no_marking_goes_on_for_ever k p unmarked nearer = no_kind_comes_again k Mark p unmarked (λ e. cc) nearer
