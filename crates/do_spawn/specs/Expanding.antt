-- What a call leaves that makes a few commands of its domain, one behind the other.
use Rattle.std.specs.Prelude.{◌≡◌, ℕ, Bool, true, false, Option, Some, None, List, [], ◌∷◌, ◌++◌, slice_index_or, ℤ, pos}
use Rattle.model_core.specs.declared.command.Command.{Command}
use Rattle.model_core.specs.declared.command.Command.TheVariants.{PutInt, Store}
use Rattle.model_core.specs.declared.reply.Reply.{Reply}
use Rattle.model_core.specs.declared.graph.Value.{Value}
use Rattle.model_core.specs.declared.graph.Value.TheVariants.{Nothing}
use Rattle.model_core.specs.Commands.{is_full_value}
use Rattle.model_core.specs.Domains.{domain_at, opening, register}
use Rattle.model_core.specs.History.{IsPrefix, Legal}
use Rattle.heap_rule.specs.Changes.{value_at}
use Rattle.heap_rule.specs.Limits.{sizes_in}
use Rattle.heap_rule.specs.Places.{Shows}
use Rattle.heap_rule.specs.Rule.{state_of}
use Rattle.heap_rule.specs.Running.{Runs, Stays}
use Rattle.heap_rule.specs.Token.{Token, SharedHeap}
use Rattle.model_traces.specs.Spawns.Hidden.{hidden, scratch, argument_of}
use Rattle.model_traces.specs.Spawns.Expansion.{Step, steps_from, is_int, flag_load, IsExpansion, Make}
use Rattle.model_traces.specs.Spawns.Printed.{printed_of, printed_replies}

-- the domain runs on, its part of the history has grown by entries of others and by these steps, and it owes no finaliser
pub record MakesSteps (h : SharedHeap) (old new : Token) (xs : List Step) : Type 0 where
  pub runs : Runs h new
  pub number : new.view.own.number ≡ old.view.own.number
  pub front : IsPrefix old.view.seen.front new.view.seen.front
  pub legal : Legal (sizes_in old.config) new.view.seen.front
  pub steps : steps_from (opening (sizes_in old.config)) new.view.seen.front old.view.own.number ≡ steps_from (opening (sizes_in old.config)) old.view.seen.front old.view.own.number ++ xs
  pub printed : printed_replies (sizes_in old.config) new.view.seen.front old.view.own.number ≡ printed_replies (sizes_in old.config) old.view.seen.front old.view.own.number ++ printed_of old.view.own.number xs
  pub owes : (domain_at (state_of old.config new.view.seen.front) old.view.own.number).due ≡ 0
  pub heap : (new.table ≡ old.table) × (new.config ≡ old.config)
  pub stays : Stays old.view new.view

-- what the domain owns is as before, but for its registers and the fields that it remembers
pub record ChangesWords (old new : Token) : Type 0 where
  pub own : new.view.own ≡ record old.view.own { registers = new.view.own.registers; remembered = new.view.own.remembered }

-- a register of the domain shows what its trace gave it
abbrev pub ShowsAt : SharedHeap → Token → ℕ → Type 0
ShowsAt h t r = Shows (value_at t.view.own.registers r) (register (state_of h.config t.view.seen.front) t.view.own.number r)

-- what a domain's registers hold at its part of the history
abbrev pub held_at : Token → List Value
held_at t = (domain_at (state_of t.config t.view.seen.front) t.view.own.number).registers

-- one step: this command, with this answer
abbrev pub MakesOne : SharedHeap → Token → Token → Command → Reply → Type 0
MakesOne h old new c r = MakesSteps h old new (record { held = held_at old; command = c; answer = r } ∷ [])

-- one load of a section's flag, and whether it is this number
pub record LooksAt (h : SharedHeap) (old new : Token) (section : ℕ) (until : ℤ) (seen : Bool) : Type 0 where
  pub answer : Reply
  pub makes : MakesOne h old new (flag_load section) answer
  pub told : seen ≡ is_int until answer

-- what the last of some steps answered
abbrev pub last_answer : List Step → Option Reply
last_answer [] = None
last_answer (x ∷ []) = Some x.answer
last_answer (x ∷ y ∷ xs) = last_answer (y ∷ xs)

-- the steps of a command, of which the last has this answer
pub record Expands (h : SharedHeap) (old new : Token) (c : Command) (r : Reply) : Type 0 where
  pub steps : List Step
  pub makes : MakesSteps h old new steps
  pub is : IsExpansion old.view.own.number c steps
  pub tells : last_answer steps ≡ Some r

-- steps that make these commands
pub record MakesAll (h : SharedHeap) (old new : Token) (cs : List Command) : Type 0 where
  pub steps : List Step
  pub makes : MakesSteps h old new steps
  pub are : Make cs steps

-- the commands that pass an argument, by whether there is one
abbrev pub argument_commands : Bool → ℕ → ℕ → List Command
argument_commands true section item = Store hidden (argument_of section) item ∷ []
argument_commands false section item = PutInt scratch (pos 0) ∷ Store hidden (argument_of section) scratch ∷ []

-- the steps by which an argument is passed: there is one where the register held something before the first of them
pub record PassesArgument (h : SharedHeap) (old new : Token) (section item : ℕ) : Type 0 where
  pub first : Step
  pub more : List Step
  pub makes : MakesSteps h old new (first ∷ more)
  pub are : Make (argument_commands (is_full_value (slice_index_or first.held item Nothing)) section item) (first ∷ more)
