-- All runs of a heap at once: they meet, or one of them looks at the barrier as they do.
use Rattle.std.specs.Prelude.{◌≡◌, ◌≢◌, ◌⊎◌, ◌<◌, ◌≤◌, ◌^◌, ℕ, zero, suc, List, [], ◌∷◌, ◌++◌, length, map, slice_get, Option, Some, None}
use Rattle.std.proofs.Common.{inl, inr}
use Rattle.model_core.specs.declared.entry.Entry.{Entry}
use Rattle.model_core.specs.History.{Legal}
use Rattle.heap_rule.specs.declared.config.Config.{Config}
use Rattle.heap_rule.specs.declared.view.DomainView.{DomainView}
use Rattle.heap_rule.specs.Limits.{sizes_in}
use Rattle.heap_rule.specs.Meeting.{Meeting, TakesPart, each_seeing}
use Rattle.heap_rule.specs.Phases.{Pause, Staged}
use Rattle.heap_rule.specs.Standing.{with_front}
use Rattle.heap_rule.specs.Token.{Token, SharedHeap, IsIn, views_of}
use Rattle.heap_rule.specs.Views.{AllDomains, domain_in}
use Rattle.step_pauses.specs.Pauses.{IsGone}
use Rattle.gc_pause.specs.Stops.Looks.{LookAnswers}
use Rattle.gc_pause.specs.declared.stops.answer.Look.{Look}
use Rattle.gc_pause.specs.declared.stops.answer.Look.TheVariants.{NotAll}
use Rattle.gc_pause.specs.declared.phases.decider.Decider.{Decider}
use Rattle.run_turns.specs.declared.turned.Turned.TheVariants.{Did}
use Rattle.run_turns.specs.Runs.{RunView, PassesOn, run_seeing}

-- the run at this place
abbrev pub HasRun : List (Option RunView) → ℕ → RunView → Type 0
HasRun runs d r = slice_get runs d ≡ Some (Some r)

-- each run that is there is one of the heap's
abbrev pub AreHere : SharedHeap → List (Option RunView) → Type 0
AreHere h runs = (d : ℕ) (r : RunView) → HasRun runs d r → IsIn r.token h

-- there is a place for each domain of the heap, and a run at each but one, whose run was taken out
pub record AllButOne (h : SharedHeap) (runs : List (Option RunView)) : Type 0 where
  pub count : length runs ≡ h.config.domains
  pub at : ℕ
  pub away : slice_get runs at ≡ Some None
  pub there : (d : ℕ) → d < length runs → d ≢ at → (r : RunView) × HasRun runs d r

-- none of these domains has arrived less often
abbrev pub ArrivedLeast : RunView → List (Option RunView) → Type 0
ArrivedLeast r runs = (d : ℕ) (q : RunView) → HasRun runs d q → r.token.view.own.arrivals ≤ q.token.view.own.arrivals

-- a run whose domain has arrived may pass among these: with it all domains of the heap are there, and none has arrived less often
pub record MayPassAmong (h : SharedHeap) (one : RunView) (others : List (Option RunView)) : Type 0 where
  pub arrived : one.left ≢ None
  pub few : one.token.view.own.arrivals < 2 ^ 60
  pub here : AreHere h others
  pub all : AllButOne h others
  pub least : ArrivedLeast one others

-- the run at a place whose domain has seen this history, if one is there
abbrev pub slot_seeing : List Entry → Option RunView → Option RunView
slot_seeing history None = None
slot_seeing history (Some r) = Some (run_seeing r history)

-- the tokens of the runs at these places, from one place on
abbrev pub tokens_from : ℕ → List (Option RunView) → List Token
tokens_from n [] = []
tokens_from zero (None ∷ runs) = tokens_from zero runs
tokens_from zero (Some r ∷ runs) = r.token ∷ tokens_from zero runs
tokens_from (suc n) (slot ∷ runs) = tokens_from n runs

-- the runs at these places, of which those from one place on have seen this history
abbrev pub seeing_from : List Entry → ℕ → List (Option RunView) → List (Option RunView)
seeing_from history n [] = []
seeing_from history zero (slot ∷ runs) = slot_seeing history slot ∷ seeing_from history zero runs
seeing_from history (suc n) (slot ∷ runs) = slot ∷ seeing_from history n runs

-- the first of these domains may look at the barrier
abbrev pub MayLook : List Token → Type 0
MayLook ts = IsGone (domain_in (views_of ts)) × ((domain_in (views_of ts)).own.arrivals ≤ 2 ^ 60)

-- what the first of those that meet does at the same step: nothing, or it looks at the barrier, behind which it stands in the same pause
abbrev pub DidFirst : Config → Pause → DomainView → DomainView → Option Look → Type 0
DidFirst k pause x y None = y ≡ x
DidFirst k pause x y (Some answer) = LookAnswers k x y answer × Staged pause y

-- The domains of these tokens and those of the runs from a place on have met. The first did what is said, and where they are all domains of the heap, and none has arrived less often than the first, its look found that all have arrived
pub record Brought (k : Config) (old new : List Token) (from : ℕ) (runs met : List (Option RunView)) (answer : Option Look) : Type 0 where
  pub history : List Entry
  pub pause : Pause
  pub one : Token
  pub behind : List Token
  pub was : old ≡ one ∷ behind
  pub meets : Meeting k history pause (views_of (old ++ tokens_from from runs))
  pub did : Token
  pub is : new ≡ did ∷ each_seeing history behind
  pub first : DidFirst k pause (with_front one.view history) did.view answer
  pub acts : length (views_of (old ++ tokens_from from runs)) ≡ k.domains → AllDomains (λ x. one.view.own.arrivals ≤ x.own.arrivals) (views_of (old ++ tokens_from from runs)) → (b : ℕ) → answer ≡ Some (NotAll b) → ⊥
  pub slots : met ≡ seeing_from history from runs

-- some domain, that of this run or of one of those, has arrived as often as this number
abbrev pub SomeArrived : ℕ → RunView → List (Option RunView) → Type 0
SomeArrived n r runs = (r.token.view.own.arrivals ≡ n) ⊎ ((d : ℕ) × (q : RunView) × HasRun runs d q × (q.token.view.own.arrivals ≡ n))

-- A run and all those at these places have met: their domains stand in one pause and see one history, and are else as they were. Where they are all domains of the heap, one of them acts in the phase
pub record AllRunsMet (h : SharedHeap) (one met : RunView) (old new : List (Option RunView)) : Type 0 where
  pub history : List Entry
  pub pause : Pause
  pub legal : Legal (sizes_in h.config) history
  pub own : TakesPart history pause one.token.view
  pub each : (d : ℕ) (r : RunView) → HasRun old d r → TakesPart history pause r.token.view
  pub acts : AllButOne h old → SomeArrived pause.phase one old
  pub own_is : met ≡ run_seeing one history
  pub each_is : new ≡ map (slot_seeing history) old

-- behind its look at the barrier the domain stands in the pause too
abbrev pub StandsBehind : (h : SharedHeap) (decider : Decider) (pause : Pause) (old new : RunView) → PassesOn h decider old new Did → Type 0
StandsBehind h decider pause old new (inl goes) = Staged pause goes.passes.begun
StandsBehind h decider pause old new (inr (inl answered)) = Staged pause answered.answers.begun
StandsBehind h decider pause old new (inr (inr (inl sees))) = Staged pause sees.gives.begun
StandsBehind h decider pause old new (inr (inr (inr resumes))) = Staged pause new.token.view

-- they have met, and at the same step the first one, which had arrived, found that all have: it didn't wait
pub record PassesAmong (h : SharedHeap) (decider : Decider) (one passed : RunView) (old new : List (Option RunView)) : Type 0 where
  pub met : RunView
  pub all_met : AllRunsMet h one met old new
  pub passes : PassesOn h decider met passed Did
  pub stands : StandsBehind h decider all_met.pause met passed passes
