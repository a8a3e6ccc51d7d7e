-- Domains of one heap that meet, and that end.
use Rattle.std.specs.Prelude.{◌≡◌, ℕ, true, List, Option, Some, None, map, IsTrue}
use Rattle.std.specs.List.{AllByRecursion, list_any}
use Rattle.model_core.specs.declared.entry.Entry.{Entry}
use Rattle.model_core.specs.declared.state.Sizes.{Sizes}
use Rattle.model_core.specs.Fronts.{IsFrontOf}
use Rattle.model_core.specs.History.{Legal, commands, replies}
use Rattle.heap_rule.specs.Limits.{sizes_in}
use Rattle.heap_rule.specs.Meeting.{Trails}
use Rattle.heap_rule.specs.Token.{SharedHeap}
use Rattle.run_turns.specs.Kept.{answers, finalised}
use Rattle.run_turns.specs.Meeting.{slot_seeing}
use Rattle.run_turns.specs.Runs.{IsRun, RunView, is_end_of, run_seeing}
use Rattle.run_seats.specs.Shared.Sharing.{SharedView}

-- all are of this heap
abbrev pub OfHeap : SharedHeap → List SharedView → Type 0
OfHeap h xs = AllByRecursion (λ (s : SharedView). s.heap ≡ h) xs

-- all are of one heap
pub record IsOneHeap (xs : List SharedView) : Type 0 where
  pub heap : SharedHeap
  pub here : OfHeap heap xs

-- a domain that has seen this history, and is else as it was
abbrev pub shared_seeing : List Entry → SharedView → SharedView
shared_seeing history s = record s { run = run_seeing s.run history }

-- the history begins with the front of each, and has no other entry of it
abbrev pub TrailsEach : List Entry → List SharedView → Type 0
TrailsEach history xs = AllByRecursion (λ (s : SharedView). Trails history s.run.token.view) xs

abbrev pub TrailsSlot : List Entry → Option RunView → Type 0
TrailsSlot history None = Unit {0}
TrailsSlot history (Some r) = Trails history r.token.view

abbrev pub AreRuns : List SharedView → Type 0
AreRuns xs = AllByRecursion (λ (s : SharedView). IsRun s.run) xs

-- the domain of one run has met all these, and those at some places besides
pub record MetBelow (h : SharedHeap) (first met : RunView) (old new : List SharedView) (others seen : List (Option RunView)) : Type 0 where
  pub history : List Entry
  pub legal : Legal (sizes_in h.config) history
  pub own : Trails history first.token.view
  pub own_is : met ≡ run_seeing first history
  pub each : TrailsEach history old
  pub are : AreRuns old
  pub each_is : new ≡ map (shared_seeing history) old
  pub besides : AllByRecursion (TrailsSlot history) others
  pub besides_is : seen ≡ map (slot_seeing history) others

-- these domains of one heap have met: one legal history begins with the front of each and has no other entry of it, and each has seen it
pub record MetRuns (old new : List SharedView) : Type 0 where
  pub heap : SharedHeap
  pub here : OfHeap heap old
  pub history : List Entry
  pub legal : Legal (sizes_in heap.config) history
  pub each : TrailsEach history old
  pub are : AreRuns old
  pub is : new ≡ map (shared_seeing history) old

-- the traces of all have ended
abbrev pub AreOver : List SharedView → Type 0
AreOver xs = AllByRecursion (λ (s : SharedView). s.run.ended ≡ true) xs

abbrev pub OfSizes : Sizes → List SharedView → Type 0
OfSizes z xs = AllByRecursion (λ (s : SharedView). sizes_in s.heap.config ≡ z) xs

-- the history has of a domain exactly what the domain did: its commands with their replies, each once and in order, the replies of its finalisers, and its end
pub record Ends (z : Sizes) (history : List Entry) (s : SharedView) : Type 0 where
  pub front : IsFrontOf s.run.token.view.own.number history s.run.token.view.seen.front
  pub commands_are : commands history s.run.token.view.own.number ≡ commands s.run.token.view.seen.front s.run.token.view.own.number
  pub replies_are : replies z history s.run.token.view.own.number ≡ replies z s.run.token.view.seen.front s.run.token.view.own.number
  pub answers_are : answers z history s.run.token.view.own.number ≡ answers z s.run.token.view.seen.front s.run.token.view.own.number
  pub ran_are : finalised z history s.run.token.view.own.number ≡ finalised z s.run.token.view.seen.front s.run.token.view.own.number
  pub ended : IsTrue (list_any (is_end_of s.run.token.view.own.number) history)

abbrev pub EndsEach : Sizes → List Entry → List SharedView → Type 0
EndsEach z history xs = AllByRecursion (Ends z history) xs
