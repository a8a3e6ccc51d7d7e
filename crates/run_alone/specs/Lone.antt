-- A run whose domain is the only one of its heap, and whose commands are handed in.
use Rattle.std.specs.Prelude.{◌≡◌, ◌≢◌, ◌⊎◌, ◌≤◌, ◌<◌, ◌+◌, ℕ, Bool, true, false, List, [], slice_get, Option, Some, None}
use Rattle.model_core.specs.declared.command.Command.TheVariants.{FullMajor}
use Rattle.model_core.specs.declared.entry.Entry.{Entry}
use Rattle.heap_rule.specs.declared.phase.Kind.{Kind}
use Rattle.heap_rule.specs.declared.phase.Kind.TheVariants.{Run, Answer}
use Rattle.heap_rule.specs.Ending.{Begins}
use Rattle.heap_rule.specs.Limits.{sizes_in}
use Rattle.heap_rule.specs.Phases.{IsEven, IsOdd}
use Rattle.heap_rule.specs.Token.{SharedHeap, IsIn}
use Rattle.gc_pause.specs.declared.phases.decider.Decider.{Decider}
use Rattle.gc_pause.specs.declared.phases.decider.Decider.TheVariants.{Wishes, Caller}
use Rattle.run_turns.specs.declared.supply.Supply.TheVariants.{Open}
use Rattle.run_turns.specs.declared.turned.Turned.TheVariants.{Did}
use Rattle.run_turns.specs.Runs.{AddsRan, RunView, IsRun, PassesOn, WaitsForAnswer, answer_of, is_asked, run_seeing, served_since}
use Rattle.run_turns.specs.Singly.Driving.{AnswersAwaited}
use Rattle.step_finalisers.specs.Registering.{count_of}
use Rattle.run_alone.specs.Idling.{StaysIdle}
use Rattle.run_alone.specs.Paces.{IsPaced, last_of, most_in_pause}

-- who decides in a pause: a complete collection is made for the domain's next command, or what the domain wishes for is done
abbrev pub decides : Bool → Decider
decides true = Caller true
decides false = Wishes

-- a domain had arrived no more often when it asked for a pause than it has, and less often where it has arrived. Where it runs again since then it remembers no field
pub record AsksOnce (r : RunView) : Type 0 where
  pub before : (n : ℕ) → r.asked ≡ Some n → n ≤ r.token.view.own.arrivals
  pub arrived : r.left ≢ None → (n : ℕ) → r.asked ≡ Some n → n < r.token.view.own.arrivals
  pub forgotten : r.left ≡ None → served_since r.asked r.token.view.own.arrivals ≡ true → r.token.view.own.remembered.items ≡ []

-- it has asked for a pause for its next command, and none has come since
abbrev pub Wants : RunView → Type 0
Wants r = (is_asked r.asked ≡ true) × (served_since r.asked r.token.view.own.arrivals ≡ false)

-- the run of the heap's only domain. Where it has asked for a pause, and none has come since, no finaliser waits
pub record IsLone (h : SharedHeap) (r : RunView) : Type 0 where
  pub here : IsIn r.token h
  pub is : IsRun r
  pub alone : h.config.domains ≡ 1
  pub more : r.supply ≡ Open
  pub asks : AsksOnce r
  pub unqueued : r.left ≡ None → Wants r → r.token.view.own.finalisers.queue.items ≡ []

-- whatever command it had to make, it has made it, or has it to make still. What finalisers replied meanwhile waits behind what waited
pub record Tells (h : SharedHeap) (old new : RunView) : Type 0 where
  pub answers : AnswersAwaited h old new (answer_of new)
  pub ran : AddsRan (sizes_in h.config) old new

-- its domain has arrived, and a step later it has gone through the phase that had begun, or runs again: nobody is there that it could wait for
pub record PassesAlone (h : SharedHeap) (decider : Decider) (old new : RunView) : Type 0 where
  pub history : List Entry
  pub begins : Begins history old.token.view
  pub met : IsRun (run_seeing old history)
  pub passes : PassesOn h decider (run_seeing old history) new Did

-- the domain has gone through the phase in which a collection is answered, in a pause that ends behind that alone
abbrev pub IsBehindAnswer : ℕ → Option Kind → Type 0
IsBehindAnswer arrivals left = (left ≡ None) ⊎ (((left ≡ Some Answer) × IsOdd arrivals) ⊎ ((left ≡ Some Run) × IsEven arrivals))

-- where a complete collection was made for its next command that is answered if it is a `full_major`, and if it is an allocation it may be answered `full`
pub record IsServed (r : RunView) : Type 0 where
  pub answered : WaitsForAnswer r → ⊥
  pub counts : is_asked r.asked ≡ true → r.collected ≡ true

-- a run in a pause that began with another one
pub record IsPausing (h : SharedHeap) (complete : Bool) (start r : RunView) : Type 0 where
  pub lone : IsLone h r
  pub commands : r.commands ≡ start.commands
  pub tells : Tells h start r
  pub idles : StaysIdle h start r
  pub within : last_of h.config r ≤ last_of h.config start
  pub more : start.token.view.own.arrivals ≤ r.token.view.own.arrivals
  pub stays : r.next ≡ start.next → r.asked ≡ start.asked
  pub asked : r.next ≢ start.next → is_asked start.asked ≡ true
  pub owes : r.next ≡ start.next → r.due ≡ start.due
  pub served : complete ≡ true → r.next ≡ start.next → IsBehindAnswer r.token.view.own.arrivals r.left → IsServed r

-- a step of a running domain that comes to nothing but the run of a finaliser: its next command is to be made as before, and fewer finalisers are left
pub record OnlyFinalises (old new : RunView) : Type 0 where
  pub asked : new.asked ≡ old.asked
  pub collected : new.collected ≡ old.collected
  pub fewer : count_of new.token.view.own.finalisers < count_of old.token.view.own.finalisers

-- where its next command is to be made as before
pub record StandsAs (old new : RunView) : Type 0 where
  pub left : new.left ≡ None
  pub commands : new.commands ≡ old.commands
  pub next : new.next ≡ old.next
  pub asked : new.asked ≡ old.asked
  pub collected : new.collected ≡ old.collected
  pub arrivals : new.token.view.own.arrivals ≡ old.token.view.own.arrivals

-- the tries of its next command: it was made, or the domain has asked for a pause. Once a pause has come for it that isn't so but for an allocation that is refused, and where a complete collection was made for it neither
pub record TriesOn (h : SharedHeap) (old new : RunView) : Type 0 where
  pub lone : IsLone h new
  pub left : new.left ≡ None
  pub commands : new.commands ≡ old.commands
  pub tells : Tells h old new
  pub arrivals : new.token.view.own.arrivals ≡ old.token.view.own.arrivals
  pub paced : IsPaced h.config new
  pub wants : new.next ≡ old.next → Wants new
  pub made : served_since old.asked old.token.view.own.arrivals ≡ true → (slice_get old.commands old.next ≡ Some FullMajor → ⊥) → old.collected ≡ true → new.next ≢ old.next

-- a pause came for its next command: it was answered in it, or the domain runs again. If a complete collection was made it is no `full_major` then, and may be answered `full`
pub record ServesOn (h : SharedHeap) (complete : Bool) (old new : RunView) : Type 0 where
  pub lone : IsLone h new
  pub commands : new.commands ≡ old.commands
  pub tells : Tells h old new
  pub spends : last_of h.config new ≤ last_of h.config old + most_in_pause
  pub paced : IsPaced h.config new
  pub runs : new.next ≡ old.next → new.left ≡ None
  pub served : new.next ≡ old.next → served_since new.asked new.token.view.own.arrivals ≡ true
  pub full : complete ≡ true → new.next ≡ old.next → slice_get new.commands new.next ≡ Some FullMajor → ⊥
  pub counts : complete ≡ true → new.next ≡ old.next → new.collected ≡ true

-- it runs again, and has the command to make that it had, or still none
pub record ComesBack (h : SharedHeap) (old new : RunView) : Type 0 where
  pub lone : IsLone h new
  pub runs : new.left ≡ None
  pub commands : new.commands ≡ old.commands
  pub next : new.next ≡ old.next
  pub asked : new.asked ≡ old.asked
  pub tells : Tells h old new
  pub idles : StaysIdle h old new
  pub spends : last_of h.config new ≤ last_of h.config old

-- the first turn of a command: the domain found a wish that was left over and arrived, or went on
pub record LooksFirst (h : SharedHeap) (old new : RunView) : Type 0 where
  pub lone : IsLone h new
  pub commands : new.commands ≡ old.commands
  pub tells : Tells h old new
  pub spends : last_of h.config new ≤ last_of h.config old + most_in_pause
  pub paced : IsPaced h.config new
  pub unasked : new.left ≢ None → new.asked ≡ None
  pub rests : new.next ≡ old.next → Wants new ⊎ (new.asked ≡ None)
