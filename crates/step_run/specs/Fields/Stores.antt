-- Stores to fields.
use Rattle.std.specs.Prelude.{◌≡◌, ◌≢◌, ◌⊎◌, ◌↔◌, ℕ, ◌*◌, ◌-◌, ◌<◌, ◌≤◌, Bool, true, false, List, [], ◌∷◌, ◌++◌}
use Rattle.model_core.specs.declared.command.Command.TheVariants.{Store}
use Rattle.model_core.specs.declared.entry.Entry.{Entry}
use Rattle.model_core.specs.declared.entry.Entry.TheVariants.{Command}
use Rattle.model_core.specs.declared.reply.Applied.TheVariants.{Replied}
use Rattle.model_core.specs.declared.reply.Reply.{Reply}
use Rattle.model_core.specs.declared.reply.Reply.TheVariants.{Done}
use Rattle.model_core.specs.Fronts.{Answers, HoldsShape, PlainShape}
use Rattle.heap_rule.specs.Rule.{state_of}
use Rattle.step_run.specs.Fields.Loads.{is_block}
use Rattle.heap_words.specs.declared.value.Value.{Value}
use Rattle.heap_words.specs.declared.value.Value.TheVariants.{Ref, Nothing}
use Rattle.heap_words.specs.Values.{value_word}
use Rattle.heap_rule.specs.declared.change.Change.{Change}
use Rattle.heap_rule.specs.declared.config.Config.{Config}
use Rattle.heap_rule.specs.declared.view.DomainView.{DomainView}
use Rattle.heap_rule.specs.declared.view.Own.{Own}
use Rattle.heap_rule.specs.Beside.{Barrier}
use Rattle.heap_rule.specs.Changes.{value_at, changed, FitChanges}
use Rattle.heap_rule.specs.Limits.{sizes_in}
use Rattle.heap_rule.specs.Places.{IsOldAt}
use Rattle.heap_rule.specs.Standing.{Acts, FieldMay, LeavesOwn, with_front, with_own}
use Rattle.heap_rule.specs.Token.{Holds}

-- the address of a block in a pool
abbrev pub IsOldBlock : Config → Value → Type 0
IsOldBlock k (Ref a) = IsOldAt k a
IsOldBlock k _ = ⊥

-- and of one in a minor area
abbrev pub IsYoungBlock : Config → Value → Type 0
IsYoungBlock k (Ref a) = k.pools * 4096 < a
IsYoungBlock k _ = ⊥

-- a field that gets the value must be remembered: its block lies in a pool, and the value is a block in a minor area
abbrev pub MustRemember : Config → Value → Value → Type 0
MustRemember k block value = IsOldBlock k block × IsYoungBlock k value

-- the fields, and behind them one more where it is to be remembered
abbrev pub with_field : Bool → ℕ → List ℕ → List ℕ
with_field true at fields = fields ++ at ∷ []
with_field false at fields = fields

-- the room that is left then
abbrev pub room_left : Bool → ℕ → ℕ
room_left true room = room - 1
room_left false room = room

-- the token's own data, with one more remembered field where it is to be remembered
abbrev pub remembering_own : Bool → ℕ → Own → Own
remembering_own remembers at own = record own { remembered = record { items = with_field remembers at own.remembered.items; room = room_left remembers own.remembered.room } }

-- the domain with one more remembered field: it stands in its list, and among those that it may still have to look through
abbrev pub remembering : Bool → ℕ → DomainView → DomainView
remembering remembers at x = record { own = remembering_own remembers at x.own; seen = record x.seen { remembered = with_field remembers at x.seen.remembered } }

-- the block in a register takes the value into its fields: a plain block takes any, and a raw one an integer
abbrev pub SuitsField : Config → DomainView → ℕ → ℕ → Value → Type 0
SuitsField k x block size value = ((tag : ℕ) × HoldsShape (state_of k x.seen.front) x.own.number block (PlainShape size tag)) ⊎ (is_block value ≡ false)

-- the field gets the word of what a register holds, and is remembered exactly where it must be. Where a cycle goes on beside, what it referred to is darkened
pub record FieldStoreMay (k : Config) (x : DomainView) (at new : ℕ) (remembers : Bool) (changes : List Change) (d block i item : ℕ) : Type 0 where
  pub own : d ≡ x.own.number
  pub acts : Acts k x
  pub target : FieldMay k x at block i
  pub from : item < 16
  pub full : value_at x.own.registers item ≢ Nothing
  pub word : new ≡ value_word (value_at x.own.registers item)
  pub suits : SuitsField k x block target.size (value_at x.own.registers item)
  pub exact : (remembers ≡ true) ↔ MustRemember k (value_at x.own.registers block) (value_at x.own.registers item)
  pub room : remembers ≡ true → 1 ≤ x.own.remembered.room
  pub same : LeavesOwn changes x
  pub fits : FitChanges changes
  pub barrier : Barrier x.seen.share target.address i

-- the same of the entry that is told, an own store
abbrev pub FieldStoreEntry : Config → DomainView → ℕ → ℕ → Bool → List Change → Entry → Type 0
FieldStoreEntry k x at new remembers changes (Command d (Store block i item) false) = FieldStoreMay k x at new remembers changes d block i item
FieldStoreEntry k x at new remembers changes _ = ⊥

-- the entry stands with this reply, and the field is remembered where it is to be
pub record WroteTold (k : Config) (e : Entry) (at : ℕ) (remembers : Bool) (changes : List Change) (reply : Reply) (x y : DomainView) : Type 0 where
  pub answers : Answers (sizes_in k) x.own.number x.seen.front y.seen.front e (Replied reply)
  pub view : y ≡ with_front (remembering remembers at (with_own x (changed Nothing changes x.own))) y.seen.front
  pub holds : Holds k y.own.registers

-- a store answers `ok`
abbrev pub StoreTold : Config → Entry → ℕ → Bool → List Change → DomainView → DomainView → Type 0
StoreTold k e at remembers changes x y = WroteTold k e at remembers changes Done x y

-- the changes can be made, and one more field can be remembered where it is to be
abbrev pub CanStore : Bool → List Change → Own → Type 0
CanStore remembers changes own = FitChanges changes × (remembers ≡ true → 1 ≤ own.remembered.room)

-- and this is done
abbrev pub Stores : ℕ → Bool → List Change → Own → Own → Type 0
Stores at remembers changes own after = after ≡ remembering_own remembers at (changed Nothing changes own)
