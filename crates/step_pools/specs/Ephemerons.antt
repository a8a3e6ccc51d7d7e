-- The making of an ephemeron at a free place of an own pool.
use Rattle.heap_words.specs.Remembered.Bounded.{Bounded}
use Rattle.std.specs.Prelude.{◌≡◌, ℕ, ◌+◌, ◌-◌, ◌^◌, ◌<◌, ◌≤◌, true, false, List, [], ◌∷◌, ◌++◌, replicate, slice_set, None}
use Rattle.model_core.specs.declared.command.Command.TheVariants.{Ephe}
use Rattle.model_core.specs.declared.entry.Entry.{Entry}
use Rattle.model_core.specs.declared.entry.Entry.TheVariants.{Command}
use Rattle.model_core.specs.declared.reply.Reply.TheVariants.{Block}
use Rattle.model_core.specs.declared.reply.Applied.TheVariants.{Replied}
use Rattle.model_core.specs.Fronts.{EpheShape, Answers}
use Rattle.heap_words.specs.declared.value.Value.TheVariants.{Ref, Nothing}
use Rattle.heap_words.specs.Labels.{label_word}
use Rattle.heap_words.specs.Values.{value_word}
use Rattle.heap_rule.specs.declared.change.Change.{Change}
use Rattle.heap_rule.specs.declared.config.Config.{Config}
use Rattle.heap_rule.specs.declared.view.DomainView.{DomainView}
use Rattle.heap_rule.specs.declared.view.Hunt.TheVariants.{Rests, Fills}
use Rattle.heap_rule.specs.declared.view.Own.{Own}
use Rattle.heap_rule.specs.Limits.{sizes_in}
use Rattle.heap_rule.specs.Places.{IsNewHead}
use Rattle.heap_rule.specs.Changes.{changed, FitChanges}
use Rattle.heap_rule.specs.Pools.{place_in}
use Rattle.heap_rule.specs.Standing.{Acts}
use Rattle.heap_rule.specs.Token.{Holds, next_label}

-- the word of an empty key, and of an empty datum
abbrev pub empty_word : ℕ
empty_word = value_word Nothing

-- one more ephemeron is listed
abbrev pub with_ephemeron : ℕ → Bounded ℕ → Bounded ℕ
with_ephemeron at list = record { items = list.items ++ at ∷ []; room = list.room - 1 }

-- the store of the head at the place taken: all other words are written, the label, the empty datum and so many empty keys
pub record EpheMay (k : Config) (x : DomainView) (at new : ℕ) (changes : List Change) (d dst keys : ℕ) : Type 0 where
  pub pool : ℕ
  pub class : ℕ
  pub slot : ℕ
  pub own : d ≡ x.own.number
  pub acts : Acts k x
  pub hunt : x.seen.hunt ≡ Fills pool class slot (label_word x.own.number (x.own.serial + 1) ∷ replicate (keys + 1) empty_word)
  pub word : at ≡ place_in pool class slot
  pub some_key : 1 ≤ keys
  pub few_keys : keys ≤ 8
  pub head : IsNewHead x.seen.share.colours x.seen.share.armed true (EpheShape keys) new
  pub serial : x.own.serial + 1 < 2 ^ 32
  pub room : 1 ≤ x.own.ephemerons.room
  pub goes : dst < 16
  pub written : changed Nothing changes x.own ≡ record x.own { registers = slice_set x.own.registers dst (Ref at) }
  pub fits : FitChanges changes

abbrev pub EpheEntry : Config → DomainView → ℕ → ℕ → List Change → Entry → Type 0
EpheEntry k x at new changes (Command d (Ephe dst keys) false) = EpheMay k x at new changes d dst keys
EpheEntry k x at new changes _ = ⊥

-- the ephemeron lives and is listed, and the entry of its allocation stands
pub record EpheTold (k : Config) (e : Entry) (at : ℕ) (changes : List Change) (x y : DomainView) : Type 0 where
  pub answers : Answers (sizes_in k) x.own.number x.seen.front y.seen.front e (Replied (Block (next_label x)))
  pub view : y ≡ record {
    own = record (changed Nothing changes x.own) { serial = x.own.serial + 1; ephemerons = with_ephemeron at x.own.ephemerons };
    seen = record x.seen { front = y.seen.front; hunt = Rests; spare = None };
  }
  pub holds : Holds k y.own.registers

-- the changes can be made, the label counted and the ephemeron listed
abbrev pub CanList : List Change → Own → Type 0
CanList changes own = FitChanges changes × (own.serial + 1 < 2 ^ 32) × (1 ≤ own.ephemerons.room)

-- and this is done
abbrev pub ListsEphemeron : ℕ → List Change → Own → Own → Type 0
ListsEphemeron at changes own after = after ≡ record (changed Nothing changes own) { serial = own.serial + 1; ephemerons = with_ephemeron at own.ephemerons }
