-- What the contracts of step calls have in common.
use Rattle.std.specs.Prelude.{◌≡◌, ℕ, ◌+◌, ◌<◌, ◌≤◌, false, List, [], ◌∷◌, ◌++◌, None}
use Rattle.model_core.specs.declared.entry.Entry.{Entry}
use Rattle.model_core.specs.declared.reply.Applied.{Applied}
use Rattle.model_core.specs.Domains.{domain_at, register}
use Rattle.model_core.specs.History.{Legal}
use Rattle.model_core.specs.Fronts.{AreCalls, IsFrontOf, Answers, HoldsFields, unseen}
use Rattle.heap_words.specs.declared.value.Value.{Value}
use Rattle.heap_words.specs.declared.value.Value.TheVariants.{Ref, Nothing}
use Rattle.heap_rule.specs.declared.change.Change.{Change}
use Rattle.heap_rule.specs.declared.config.Config.{Config}
use Rattle.heap_rule.specs.declared.view.DomainView.{DomainView}
use Rattle.heap_rule.specs.declared.view.Own.{Own}
use Rattle.heap_rule.specs.Limits.{sizes_in}
use Rattle.heap_rule.specs.Layout.{heap_words}
use Rattle.heap_rule.specs.declared.phase.Kind.TheVariants.{Run}
use Rattle.heap_rule.specs.declared.phase.Note.{Note}
use Rattle.heap_rule.specs.declared.phase.Stage.TheVariants.{In}
use Rattle.heap_rule.specs.Places.{Shows}
use Rattle.heap_rule.specs.Changes.{value_at, changed}
use Rattle.heap_rule.specs.Rule.{state_of}
use Rattle.heap_rule.specs.Token.{Holds}

-- an address of the heap
abbrev pub IsInHeap : Config → ℕ → Type 0
IsInHeap k a = (1 ≤ a) × (a ≤ heap_words k)

-- the domain runs, its trace hasn't ended, and it owes no darkening
pub record GoesOn (k : Config) (x : DomainView) : Type 0 where
  pub goes_on : (domain_at (state_of k x.seen.front) x.own.number).ended ≡ false
  pub runs : x.seen.stage ≡ In Run
  pub paid : x.seen.share.weak ≡ None

-- and no finaliser waits in its queue
pub record Acts (k : Config) (x : DomainView) : Type 0 where
  pub goes_on : (domain_at (state_of k x.seen.front) x.own.number).ended ≡ false
  pub runs : x.seen.stage ≡ In Run
  pub paid : x.seen.share.weak ≡ None
  pub unqueued : x.own.finalisers.queue.items ≡ []

-- register r holds this address
pub record IsAt (x : DomainView) (r a : ℕ) : Type 0 where
  pub few : r < 16
  pub holds : value_at x.own.registers r ≡ Ref a

-- what the domain's registers hold shows what they hold in the state after its front: an integer that integer, an address some block, and nothing nothing
abbrev pub ShowsRegisters : Config → DomainView → Type 0
ShowsRegisters k x = (r : ℕ) → r < 16 → Shows (value_at x.own.registers r) (register (state_of k x.seen.front) x.own.number r)

-- field i of the plain or raw block in register r, of which the size is known
pub record FieldMay (k : Config) (x : DomainView) (at r i : ℕ) : Type 0 where
  pub address : ℕ
  pub size : ℕ
  pub block : IsAt x r address
  pub field : at ≡ address + 2 + i
  pub known : HoldsFields (state_of k x.seen.front) x.own.number r size
  pub inside : i < size

-- the changes leave the token's own data as it is
abbrev pub LeavesOwn : List Change → DomainView → Type 0
LeavesOwn changes x = changed Nothing changes x.own ≡ x.own

-- the domain with another front, with other own data, and with other registers
abbrev pub with_front : DomainView → List Entry → DomainView
with_front x front = record x { seen = record x.seen { front = front } }

abbrev pub with_own : DomainView → Own → DomainView
with_own x own = record x { own = own }

abbrev pub with_registers : DomainView → List Value → DomainView
with_registers x registers = record x { own = record x.own { registers = registers } }

-- the domain with one note more, and all else as it was
abbrev pub noted : DomainView → Note → DomainView
noted x note = record x { seen = record x.seen { notes = x.seen.notes ++ note ∷ [] } }

-- The entry stands at the step: the front ends with it, and the changes were made with the value that was read
pub record Entered (k : Config) (e : Entry) (answer : Applied) (read : Value) (changes : List Change) (x y : DomainView) : Type 0 where
  pub answers : Answers (sizes_in k) x.own.number x.seen.front y.seen.front e answer
  pub view : y ≡ with_front (with_own x (changed read changes x.own)) y.seen.front
  pub holds : Holds k y.own.registers

-- No entry stands at the step of a domain that runs: the front is the history so far, which has gone on by entries of domains
pub record Looked (k : Config) (x y : DomainView) : Type 0 where
  pub seen : IsFrontOf x.own.number y.seen.front x.seen.front
  pub calls : AreCalls (unseen y.seen.front x.seen.front)
  pub legal : Legal (sizes_in k) y.seen.front
  pub view : y ≡ with_front x y.seen.front
