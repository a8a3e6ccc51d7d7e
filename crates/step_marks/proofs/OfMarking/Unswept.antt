-- Where a collection is under way no garbage of the last one is left.
use Rattle.std.proofs.Common.{◌≡◌, ℕ, ◌⊎◌, true, false, true≢false, IsTrue, List, sym, ◌∙◌, subst, ⊎_elim}
use Rattle.std.proofs.lemmas.Bool.{cases_Bool}
use Rattle.model_core.specs.declared.state.State as model
use Rattle.heap_rule.specs.declared.config.Config.{Config}
use Rattle.heap_rule.specs.declared.phase.Kind.{Kind}
use Rattle.heap_rule.specs.declared.phase.Kind.TheVariants.{Run, Promote, Reset, Sweep}
use Rattle.heap_rule.specs.Cycles.{Cycled, Cycling, HasNoCycle, LeftUnswept}
use Rattle.heap_rule.specs.Phases.{Pause}
use Rattle.heap_rule.specs.Places.{Live}
use Rattle.heap_rule.specs.Pools.{Tenancy}

-- a collection is under way in a phase of this kind, and nothing is freed
abbrev pub IsTracing : Kind → Type 0
IsTracing Run = ⊥
IsTracing Promote = ⊥
IsTracing Reset = ⊥
IsTracing Sweep = ⊥
IsTracing _ = Unit {0}

-- so no garbage is left to such a phase
leaves_none : (kind : Kind) → IsTracing kind → HasNoCycle kind ⊎ (kind ≡ Sweep) → ⊥
leaves_none Run traces left = traces
leaves_none Promote traces left = traces
leaves_none Reset traces left = traces
leaves_none Sweep traces left = traces
leaves_none _ traces left = ⊎_elim (λ none. none) (λ e. cc) left

module _ (k : Config) (s : model.State) (live : Live) (p : Pause) (t : Tenancy) (c : Cycling) (words : List ℕ) (y : Cycled k s live p t c words) where
  -- nothing is left unswept where what would follow from it is wrong
  all_swept : (LeftUnswept c.kind c.armed c.rotated → ⊥) → c.unswept ≡ false
  all_swept wrong = ⊎_elim (λ (is : c.unswept ≡ true). absurd (wrong (y.unswept is))) (λ (none : c.unswept ≡ false). none) (cases_Bool c.unswept)

  pub swept_tracing : (kind : Kind) → IsTracing kind → c.kind ≡ kind → c.unswept ≡ false
  swept_tracing kind traces is = all_swept (λ left. leaves_none c.kind (subst IsTracing (sym is) traces) left.kind_is)

  -- and beside running domains
  pub swept_armed : IsTrue c.armed → c.unswept ≡ false
  swept_armed armed = all_swept (λ left. true≢false (sym armed ∙ left.unarmed))

  -- before the colours are rotated there is no garbage then
  pub none_unswept : (kind : Kind) → IsTracing kind → c.kind ≡ kind → c.rotated ≡ false → (a : ℕ) → t.garbage a ≡ false
  none_unswept kind traces is unrotated = y.leaves.none unrotated (swept_tracing kind traces is)
