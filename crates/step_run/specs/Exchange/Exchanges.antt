-- Exchanges of fields.
use Rattle.std.specs.Prelude.{◌≡◌, ◌≢◌, ◌⊎◌, ◌↔◌, ℕ, ◌<◌, ◌≤◌, Bool, true, false, ◌&&◌, ◌==◌, List, [], Some}
use Rattle.model_core.specs.declared.command.Command.TheVariants.{Cas}
use Rattle.model_core.specs.declared.entry.Entry.{Entry}
use Rattle.model_core.specs.declared.entry.Entry.TheVariants.{Command}
use Rattle.model_core.specs.declared.reply.Applied.TheVariants.{Replied}
use Rattle.model_core.specs.declared.reply.Reply.TheVariants.{Yes, No}
use Rattle.heap_words.specs.declared.value.Value.{Value}
use Rattle.heap_words.specs.declared.value.Value.TheVariants.{Ref, Nothing}
use Rattle.heap_words.specs.Values.{value_word}
use Rattle.heap_rule.specs.declared.change.Change.{Change}
use Rattle.heap_rule.specs.declared.config.Config.{Config}
use Rattle.heap_rule.specs.declared.view.DomainView.{DomainView}
use Rattle.heap_rule.specs.declared.view.Known.TheVariants.{Marked}
use Rattle.heap_rule.specs.declared.view.Own.{Own}
use Rattle.heap_rule.specs.declared.view.Share.{Share}
use Rattle.heap_rule.specs.Beside.{IsKnown}
use Rattle.heap_rule.specs.Changes.{value_at, changed, FitChanges}
use Rattle.heap_rule.specs.Places.{IsOldAt}
use Rattle.heap_rule.specs.Standing.{Acts, Entered, FieldMay, LeavesOwn}
use Rattle.step_run.specs.Fields.Stores.{CanStore, MustRemember, SuitsField, WroteTold, remembering_own}

-- no cycle goes on beside, or the block of the pools that is expected is known to be marked
abbrev pub ExpectedMarked : Config → Share → Value → Type 0
ExpectedMarked k share expected = (share.armed ≡ Some false) ⊎ ((b : ℕ) → expected ≡ Ref b → IsOldAt k b → IsKnown share.known (Marked b))

-- the field gets the word of what a register holds, where it holds what another does
pub record ExchangeMay (k : Config) (x : DomainView) (at old new : ℕ) (remembers : Bool) (changes : List Change) (d block i expected item : ℕ) : Type 0 where
  pub own : d ≡ x.own.number
  pub acts : Acts k x
  pub target : FieldMay k x at block i
  pub expects : expected < 16
  pub expected_full : value_at x.own.registers expected ≢ Nothing
  pub old_is : old ≡ value_word (value_at x.own.registers expected)
  pub from : item < 16
  pub full : value_at x.own.registers item ≢ Nothing
  pub new_is : new ≡ value_word (value_at x.own.registers item)
  pub suits : SuitsField k x block target.size (value_at x.own.registers item)
  pub exact : (remembers ≡ true) ↔ MustRemember k (value_at x.own.registers block) (value_at x.own.registers item)
  pub room : remembers ≡ true → 1 ≤ x.own.remembered.room
  pub same : LeavesOwn changes x
  pub fits : FitChanges changes
  pub barrier : ExpectedMarked k x.seen.share (value_at x.own.registers expected)

-- the same of the entry that is told, an own compare-and-set
abbrev pub ExchangeEntry : Config → DomainView → ℕ → ℕ → ℕ → Bool → List Change → Entry → Type 0
ExchangeEntry k x at old new remembers changes (Command d (Cas block i expected item) false) = ExchangeMay k x at old new remembers changes d block i expected item
ExchangeEntry k x at old new remembers changes _ = ⊥

-- the entry stands: where the word was the one expected the field has the other now, and is remembered where it is to be; else nothing changes
pub record ExchangeTold (k : Config) (e : Entry) (at old : ℕ) (remembers : Bool) (changes : List Change) (x : DomainView) (found : ℕ) (y : DomainView) : Type 0 where
  pub won : found ≡ old → WroteTold k e at remembers changes Yes x y
  pub lost : found ≢ old → Entered k e (Replied No) Nothing changes x y

-- the changes can be made, and one more field can be remembered where it is to be
abbrev pub CanExchange : Bool → List Change → Own → Type 0
CanExchange remembers changes own = CanStore remembers changes own

-- and this is done
abbrev pub Exchanges : ℕ → ℕ → Bool → ℕ → List Change → Own → Own → Type 0
Exchanges at old remembers found changes own after = after ≡ remembering_own (found == old && remembers) at (changed Nothing changes own)
