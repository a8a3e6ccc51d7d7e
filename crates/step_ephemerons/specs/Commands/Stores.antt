-- Stores to keys and data.
use Rattle.std.specs.Prelude.{◌≡◌, ◌↔◌, ℕ, ◌≤◌, Bool, true, false, List}
use Rattle.model_core.specs.declared.command.Command as model
use Rattle.model_core.specs.declared.command.Command.TheVariants.{SetKey, UnsetKey, SetData, UnsetData}
use Rattle.model_core.specs.declared.entry.Entry.{Entry}
use Rattle.model_core.specs.declared.entry.Entry.TheVariants.{Command}
use Rattle.heap_words.specs.declared.value.Value.{Value}
use Rattle.heap_words.specs.declared.value.Value.TheVariants.{Nothing}
use Rattle.heap_words.specs.Values.{value_word}
use Rattle.heap_rule.specs.declared.change.Change.{Change}
use Rattle.heap_rule.specs.declared.config.Config.{Config}
use Rattle.heap_rule.specs.declared.view.DomainView.{DomainView}
use Rattle.heap_rule.specs.Changes.{value_at, FitChanges}
use Rattle.heap_rule.specs.Standing.{Acts, LeavesOwn}
use Rattle.step_run.specs.Fields.Stores.{MustRemember}
use Rattle.step_ephemerons.specs.Commands.Heads.{ephemeron_in, key_in, HasItem}
use Rattle.step_ephemerons.specs.Commands.Loads.{WeakMay}

-- what a command stores: what the register of its item holds, or nothing
abbrev pub stored_value : DomainView → model.Command → Value
stored_value x (SetKey ephe i item) = value_at x.own.registers item
stored_value x (SetData ephe item) = value_at x.own.registers item
stored_value x _ = Nothing

-- the word gets what the command stores, and is remembered exactly where it must be
pub record WeakStoreMay (k : Config) (x : DomainView) (at new : ℕ) (remembers : Bool) (changes : List Change) (d : ℕ) (c : model.Command) : Type 0 where
  pub own : d ≡ x.own.number
  pub acts : Acts k x
  pub target : WeakMay k x at (ephemeron_in c) (key_in c)
  pub item : HasItem x c
  pub word : new ≡ value_word (stored_value x c)
  pub exact : (remembers ≡ true) ↔ MustRemember k (value_at x.own.registers (ephemeron_in c)) (stored_value x c)
  pub room : remembers ≡ true → 1 ≤ x.own.remembered.room
  pub same : LeavesOwn changes x
  pub fits : FitChanges changes

-- the same of the entry that is told, an own `set_key` or `unset_key`
abbrev pub KeyStoreEntry : Config → DomainView → ℕ → ℕ → Bool → List Change → Entry → Type 0
KeyStoreEntry k x at new remembers changes (Command d (SetKey ephe i item) false) = WeakStoreMay k x at new remembers changes d (SetKey ephe i item)
KeyStoreEntry k x at new remembers changes (Command d (UnsetKey ephe i) false) = WeakStoreMay k x at new remembers changes d (UnsetKey ephe i)
KeyStoreEntry k x at new remembers changes _ = ⊥

-- an own `set_data` or `unset_data`
abbrev pub DataStoreEntry : Config → DomainView → ℕ → ℕ → Bool → List Change → Entry → Type 0
DataStoreEntry k x at new remembers changes (Command d (SetData ephe item) false) = WeakStoreMay k x at new remembers changes d (SetData ephe item)
DataStoreEntry k x at new remembers changes (Command d (UnsetData ephe) false) = WeakStoreMay k x at new remembers changes d (UnsetData ephe)
DataStoreEntry k x at new remembers changes _ = ⊥
