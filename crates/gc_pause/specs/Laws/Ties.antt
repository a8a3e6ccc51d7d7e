-- What two domains in one pause know of the kinds of its phases.
use Rattle.std.specs.Prelude.{◌≡◌, ◌⊎◌, ◌≤◌, ℕ, ◌+◌, ◌*◌, Option, Some, None}
use Rattle.heap_rule.specs.declared.phase.Kind.{Kind}
use Rattle.heap_rule.specs.declared.phase.Kind.TheVariants.{Run, Answer}
use Rattle.heap_rule.specs.declared.phase.Stage.{Stage}
use Rattle.heap_rule.specs.declared.phase.Stage.TheVariants.{In, Gone}
use Rattle.heap_rule.specs.Phases.{AtStage, IsOdd, Pause}

-- a domain runs, or it has arrived and knows this kind as that of the last even phase
abbrev pub StandsAt : Option Kind → Stage → Type 0
StandsAt None stage = stage ≡ In Run
StandsAt (Some kind) stage = stage ≡ Gone kind

-- domain d stands in a pause
pub record InPause (t : Pause) (d arrivals : ℕ) (left : Option Kind) : Type 0 where
  pub stage : Stage
  pub stands : StandsAt left stage
  pub at : AtStage t d arrivals stage
  pub low : t.phase ≤ arrivals
  pub high : arrivals ≤ t.phase + 1

-- domain 0 has named that the domains run behind the j-th even phase, or runs there
abbrev pub NamesRun : ℕ → Option Kind → ℕ → Type 0
NamesRun arrivals left j = (arrivals ≡ j * 2 + 2) × ((left ≡ Some Run) ⊎ (left ≡ None))

-- a domain that has arrived knows the kind of the j-th even phase
abbrev pub KnowsKind : ℕ → ℕ → Type 0
KnowsKind arrivals j = (arrivals ≡ j * 2 + 1) ⊎ (arrivals ≡ j * 2 + 2)

-- In a pause with a complete collection: where domain 0 has named that the domains run behind a phase whose kind another domain knows, that is the phase in which the collection was answered
abbrev pub Tied : ℕ → Option Kind → ℕ → Option Kind → Type 0
Tied first first_left arrivals left = (j : ℕ) (kind : Kind) → left ≡ Some kind → KnowsKind arrivals j → NamesRun first first_left j → kind ≡ Answer

-- while domain 0 has arrived and led nowhere so far, no domain has arrived less often
abbrev pub Started : ℕ → Option Kind → ℕ → Type 0
Started first first_left arrivals = first_left ≡ Some Run → IsOdd first → first ≤ arrivals
