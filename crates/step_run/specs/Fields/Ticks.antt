-- Ticks: the entries that the registers alone decide, and the answer `full`.
use Rattle.std.specs.Prelude.{◌≡◌, ℕ, ◌<◌, ◌≤◌, ◌⊎◌, Bool, true, false, List, slice_set, Some}
use Rattle.model_core.specs.declared.command.Command as model
use Rattle.model_core.specs.declared.command.Command.TheVariants.{PutInt, Copy, Forget, Load, Store, Cas, SetKey, UnsetKey, GetKey, CheckKey, SetData, UnsetData, GetData, CheckData, Finalise, FinaliseLast, Poll, Minor, Major}
use Rattle.model_core.specs.declared.entry.Entry.{Entry}
use Rattle.model_core.specs.declared.entry.Entry.TheVariants.{Command}
use Rattle.model_core.specs.declared.reply.Reply.{Reply}
use Rattle.model_core.specs.declared.reply.Reply.TheVariants.{Done, BadType, Full}
use Rattle.model_core.specs.declared.reply.Applied.{Applied}
use Rattle.model_core.specs.declared.reply.Applied.TheVariants.{Replied, Silent}
use Rattle.model_core.specs.Commands.{is_allocation}
use Rattle.model_core.specs.Domains.{domain_at, reserve}
use Rattle.heap_words.specs.declared.value.Value.{Value}
use Rattle.heap_words.specs.declared.value.Value.TheVariants.{Int, Nothing}
use Rattle.heap_words.specs.Values.{IsPackable}
use Rattle.heap_rule.specs.Pools.{last_found}
use Rattle.heap_rule.specs.declared.change.Change.{Change}
use Rattle.heap_rule.specs.declared.config.Config.{Config}
use Rattle.heap_rule.specs.declared.view.DomainView.{DomainView}
use Rattle.heap_rule.specs.Limits.{sizes_in}
use Rattle.heap_rule.specs.Places.{IsNoBlock}
use Rattle.heap_rule.specs.Changes.{value_at, changed, FitChanges}
use Rattle.heap_rule.specs.Rule.{state_of}
use Rattle.heap_rule.specs.Standing.{Acts, LeavesOwn, Entered}

-- the changes make the registers these
abbrev pub Makes : List Change → DomainView → List Value → Type 0
Makes changes x registers = changed Nothing changes x.own ≡ record x.own { registers = registers }

-- a command that changes nothing
abbrev pub is_quiet : model.Command → Bool
is_quiet Poll = true
is_quiet Minor = true
is_quiet Major = true
is_quiet _ = false

-- the register holds no block
abbrev pub HoldsNoBlock : DomainView → ℕ → Type 0
HoldsNoBlock x r = (r < 16) × IsNoBlock (value_at x.own.registers r)

-- a command that the registers alone decide, and what its changes do
abbrev pub TickCommand : DomainView → List Change → model.Command → Type 0
TickCommand x changes (PutInt dst z) = (dst < 16) × IsPackable (Int z) × Makes changes x (slice_set x.own.registers dst (Int z))
TickCommand x changes (Copy dst src) = (dst < 16) × (src < 16) × Makes changes x (slice_set x.own.registers dst (value_at x.own.registers src))
TickCommand x changes (Forget dst) = (dst < 16) × Makes changes x (slice_set x.own.registers dst Nothing)
TickCommand x changes (Load dst src i) = (src < 16) × IsNoBlock (value_at x.own.registers src) × LeavesOwn changes x
TickCommand x changes (Store block i item) =
    (block < 16) × (item < 16) × (IsNoBlock (value_at x.own.registers block) ⊎ (value_at x.own.registers item ≡ Nothing)) × LeavesOwn changes x
TickCommand x changes (Cas block i expected item) =
    (block < 16) × (expected < 16) × (item < 16) × (IsNoBlock (value_at x.own.registers block) ⊎ (value_at x.own.registers expected ≡ Nothing) ⊎ (value_at x.own.registers item ≡ Nothing)) × LeavesOwn changes x
TickCommand x changes (SetKey ephe i item) =
    (ephe < 16) × (item < 16) × (IsNoBlock (value_at x.own.registers ephe) ⊎ IsNoBlock (value_at x.own.registers item)) × LeavesOwn changes x
TickCommand x changes (UnsetKey ephe i) = HoldsNoBlock x ephe × LeavesOwn changes x
TickCommand x changes (GetKey dst ephe i) = HoldsNoBlock x ephe × LeavesOwn changes x
TickCommand x changes (CheckKey ephe i) = HoldsNoBlock x ephe × LeavesOwn changes x
TickCommand x changes (SetData ephe item) =
    (ephe < 16) × (item < 16) × (IsNoBlock (value_at x.own.registers ephe) ⊎ (value_at x.own.registers item ≡ Nothing)) × LeavesOwn changes x
TickCommand x changes (UnsetData ephe) = HoldsNoBlock x ephe × LeavesOwn changes x
TickCommand x changes (GetData dst ephe) = HoldsNoBlock x ephe × LeavesOwn changes x
TickCommand x changes (CheckData ephe) = HoldsNoBlock x ephe × LeavesOwn changes x
TickCommand x changes (Finalise item number dst) = HoldsNoBlock x item × LeavesOwn changes x
TickCommand x changes (FinaliseLast item number) = HoldsNoBlock x item × LeavesOwn changes x
TickCommand x changes Poll = LeavesOwn changes x
TickCommand x changes Minor = LeavesOwn changes x
TickCommand x changes Major = LeavesOwn changes x
TickCommand x changes _ = ⊥

-- the pools are used up for a domain: a complete collection has been since its last command, and it found no more free pools than the reserve
pub record IsUsedUp (k : Config) (x : DomainView) : Type 0 where
  pub fresh : (domain_at (state_of k x.seen.front) x.own.number).fresh ≡ true
  pub free : ℕ
  pub found : last_found x ≡ Some free
  pub few : free ≤ reserve (sizes_in k)

-- an own entry of a tick: such a command, or `full` for an allocation where the pools are used up
abbrev pub TickEntry : Config → DomainView → List Change → Entry → Type 0
TickEntry k x changes (Command d c false) = (d ≡ x.own.number) × TickCommand x changes c
TickEntry k x changes (Command d c true) = (d ≡ x.own.number) × (is_allocation c ≡ true) × IsUsedUp k x × LeavesOwn changes x
TickEntry k x changes _ = ⊥

-- what a tick asks
pub record TickMay (k : Config) (x : DomainView) (changes : List Change) (e : Entry) : Type 0 where
  pub acts : Acts k x
  pub entry : TickEntry k x changes e
  pub fits : FitChanges changes

-- what a tick's entry answers: its loads, stores and registrations have no block to look into, or nothing to store
abbrev pub command_answer : model.Command → Reply
command_answer (Load dst src i) = BadType
command_answer (Store block i item) = BadType
command_answer (Cas block i expected item) = BadType
command_answer (SetKey ephe i item) = BadType
command_answer (UnsetKey ephe i) = BadType
command_answer (GetKey dst ephe i) = BadType
command_answer (CheckKey ephe i) = BadType
command_answer (SetData ephe item) = BadType
command_answer (UnsetData ephe) = BadType
command_answer (GetData dst ephe) = BadType
command_answer (CheckData ephe) = BadType
command_answer (Finalise item number dst) = BadType
command_answer (FinaliseLast item number) = BadType
command_answer _ = Done

abbrev pub tick_answer : Entry → Applied
tick_answer (Command d c false) = Replied (command_answer c)
tick_answer (Command d c true) = Replied Full
tick_answer _ = Silent

-- the entry stands at the tick, whatever word it finds: a domain that has begun a command makes it
abbrev pub TickTold : Config → Entry → List Change → DomainView → ℕ → DomainView → Type 0
TickTold k e changes x found y = Entered k e (tick_answer e) Nothing changes x y
