-- Stores of the words of a new block in the own minor area: its label and its fields first, and its head last.
use Rattle.std.specs.Prelude.{◌≡◌, ℕ, ◌+◌, ◌^◌, ◌<◌, ◌≤◌, false, List, [], ◌∷◌, ◌++◌, length, replicate, slice_set, Some}
use Rattle.model_core.specs.declared.command.Command.TheVariants.{Alloc, Raw as NewRaw}
use Rattle.model_core.specs.declared.entry.Entry.{Entry}
use Rattle.model_core.specs.declared.entry.Entry.TheVariants.{Command}
use Rattle.model_core.specs.declared.reply.Reply.TheVariants.{Block}
use Rattle.model_core.specs.declared.reply.Applied.TheVariants.{Replied}
use Rattle.model_core.specs.Domains.{reserve}
use Rattle.model_core.specs.Fronts.{Shape, PlainShape, RawShape, Answers}
use Rattle.heap_words.specs.declared.value.Value.TheVariants.{Ref, Nothing}
use Rattle.heap_words.specs.Labels.{label_word}
use Rattle.heap_rule.specs.Pools.{last_found}
use Rattle.heap_rule.specs.declared.change.Change.{Change}
use Rattle.heap_rule.specs.declared.config.Config.{Config}
use Rattle.heap_rule.specs.declared.view.DomainView.{DomainView}
use Rattle.heap_rule.specs.declared.view.Own.{Own}
use Rattle.heap_rule.specs.Limits.{sizes_in}
use Rattle.heap_rule.specs.Places.{IsNewHead, IsPackableShape, class_words}
use Rattle.heap_rule.specs.Changes.{changed, FitChanges}
use Rattle.heap_rule.specs.Standing.{Acts, LeavesOwn}
use Rattle.heap_rule.specs.Token.{Holds, next_address, next_label}
use Rattle.heap_rule.specs.declared.phase.Kind.TheVariants.{Run}
use Rattle.heap_rule.specs.declared.phase.Stage.TheVariants.{In}

-- as many pools were found free as promotion may need
pub record IsOpen (k : Config) (x : DomainView) : Type 0 where
  pub free : ℕ
  pub found : last_found x ≡ Some free
  pub enough : reserve (sizes_in k) ≤ free

-- a word behind the head: the next one of the block that the domain makes
pub record WordMay (k : Config) (x : DomainView) (at : ℕ) (changes : List Change) : Type 0 where
  pub runs : x.seen.stage ≡ In Run
  pub word : at ≡ next_address k x + 1 + length x.seen.made
  pub room : x.own.used + length x.seen.made + 1 < k.minor_words
  pub same : LeavesOwn changes x
  pub fits : FitChanges changes

-- the word was written behind the others
pub record WordTold (new : ℕ) (x y : DomainView) : Type 0 where
  pub view : y ≡ record x { seen = record x.seen { made = x.seen.made ++ new ∷ [] } }

-- the head: all other words are written, the label and so many zeros
pub record AllocMay (k : Config) (x : DomainView) (at new : ℕ) (changes : List Change) (d dst fields : ℕ) (shape : Shape) : Type 0 where
  pub own : d ≡ x.own.number
  pub acts : Acts k x
  pub word : at ≡ next_address k x
  pub packable : IsPackableShape shape
  pub few_fields : fields ≤ 1022
  pub head : IsNewHead x.seen.share.colours x.seen.share.armed false shape new
  pub made : x.seen.made ≡ label_word x.own.number (x.own.serial + 1) ∷ replicate fields 1
  pub room : x.own.used + class_words (fields + 2) ≤ k.minor_words
  pub opened : IsOpen k x
  pub serial : x.own.serial + 1 < 2 ^ 32
  pub goes : dst < 16
  pub written : changed Nothing changes x.own ≡ record x.own { registers = slice_set x.own.registers dst (Ref at) }
  pub fits : FitChanges changes

-- the same of the entry that is told, an own allocation
abbrev pub AllocEntry : Config → DomainView → ℕ → ℕ → List Change → Entry → Type 0
AllocEntry k x at new changes (Command d (Alloc dst tag fields) false) = AllocMay k x at new changes d dst fields (PlainShape fields tag)
AllocEntry k x at new changes (Command d (NewRaw dst tag fields) false) = AllocMay k x at new changes d dst fields (RawShape fields tag)
AllocEntry k x at new changes _ = ⊥

-- the fields of an allocation
abbrev pub fields_of : Entry → ℕ
fields_of (Command d (Alloc dst tag fields) full) = fields
fields_of (Command d (NewRaw dst tag fields) full) = fields
fields_of _ = 0

-- the block lives, and the entry of its allocation stands
pub record AllocTold (k : Config) (e : Entry) (changes : List Change) (x y : DomainView) : Type 0 where
  pub answers : Answers (sizes_in k) x.own.number x.seen.front y.seen.front e (Replied (Block (next_label x)))
  pub view : y ≡ record {
    own = record (changed Nothing changes x.own) { used = x.own.used + class_words (fields_of e + 2); serial = x.own.serial + 1 };
    seen = record x.seen { front = y.seen.front; made = [] };
  }
  pub holds : Holds k y.own.registers

-- a block of so many class words and its label can be counted
abbrev pub CanCount : ℕ → List Change → Own → Type 0
CanCount words changes own = FitChanges changes × (own.used + words < 2 ^ 32) × (own.serial + 1 < 2 ^ 32)

-- and they are, after the changes
abbrev pub CountsWords : ℕ → List Change → Own → Own → Type 0
CountsWords words changes own after = after ≡ record (changed Nothing changes own) { used = own.used + words; serial = own.serial + 1 }
