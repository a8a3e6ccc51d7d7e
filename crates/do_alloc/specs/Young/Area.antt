-- What an allocation finds and leaves.
use Rattle.std.specs.Prelude.{◌≡◌, ◌⊎◌, ◌∷◌, ℕ, ◌+◌, ◌<◌, ◌≤◌, Bool, Some, nat_le, if◌then◌else◌, slice_set}
use Rattle.model_core.specs.declared.command.Command.{Command}
use Rattle.model_core.specs.declared.command.Command.TheVariants.{Alloc, Raw as NewRaw}
use Rattle.model_core.specs.declared.label.Label.{Label}
use Rattle.model_core.specs.declared.reply.Reply.TheVariants.{Block}
use Rattle.model_core.specs.Domains.{reserve}
use Rattle.heap_rule.specs.declared.config.Config.{Config}
use Rattle.heap_rule.specs.declared.view.DomainView.{DomainView}
use Rattle.heap_rule.specs.declared.view.Hunt.TheVariants.{Rests}
use Rattle.heap_rule.specs.Limits.{sizes_in}
use Rattle.heap_rule.specs.Running.{Did}
use Rattle.heap_rule.specs.Token.{Holds, Token, SharedHeap, next_address}
use Rattle.heap_words.specs.declared.colours.Colours.{Colours}
use Rattle.heap_words.specs.declared.value.Value.TheVariants.{Ref}
use Rattle.heap_rule.specs.Places.{class_words, new_colour}
use Rattle.step_pools.specs.Takes.{found_free}
use Rattle.do_alloc.specs.declared.young.need.Need.{Need}
use Rattle.do_alloc.specs.declared.young.need.Need.TheVariants.{AreaFull, Closed}

-- the tags of blocks with fields: up to 245 of plain ones, and from 251 on of raw ones
abbrev pub IsBlockTag : ℕ → Type 0
IsBlockTag tag = (tag ≤ 245) ⊎ ((251 ≤ tag) × (tag < 256))

-- the command that allocates a young block with this tag
abbrev pub young_command : ℕ → ℕ → ℕ → Command
young_command dst tag fields = if nat_le 251 tag then NewRaw dst tag fields else Alloc dst tag fields

-- the colour is that of a new block, whose domain knows the colours and whether a cycle goes on beside running domains
pub record IsNewColour (x : DomainView) (colour : ℕ) : Type 0 where
  pub colours : Colours
  pub known_is : x.seen.share.colours ≡ Some colours
  pub beside : Bool
  pub armed_is : x.seen.share.armed ≡ Some beside
  pub colour_is : colour ≡ new_colour beside colours
  pub fits : colour < 3

-- besides its registers, the token has used so many words more and given out one label more
pub record Grows (old new : Token) (words : ℕ) : Type 0 where
  pub own : new.view.own ≡ record old.view.own { registers = new.view.own.registers; used = old.view.own.used + words; serial = old.view.own.serial + 1 }

-- the domain's minor area has room for a block of so many fields
abbrev pub HasRoom : Config → DomainView → ℕ → Type 0
HasRoom k x fields = x.own.used + class_words (fields + 2) ≤ k.minor_words

-- the domain found so many pools free, and knows and holds all else as before
abbrev pub FoundFree : DomainView → ℕ → DomainView → Type 0
FoundFree x free y = y ≡ found_free x free Rests

-- it was looked once how many pools are free, and fewer were found than promotion may need
pub record IsShut (k : Config) (x y : DomainView) : Type 0 where
  pub free : ℕ
  pub found : y.seen.free ≡ free ∷ x.seen.free
  pub few : free < reserve (sizes_in k)

-- it was looked once, and as many are listed. Of these the reserve is free
pub record IsOpened (k : Config) (x y : DomainView) : Type 0 where
  pub free : ℕ
  pub found : y.seen.free ≡ free ∷ x.seen.free
  pub enough : reserve (sizes_in k) ≤ free

-- the area has no room, and nothing was looked at
pub record IsFull (h : SharedHeap) (old new : Token) (fields used : ℕ) : Type 0 where
  pub used_is : used ≡ old.view.own.used
  pub no_room : h.config.minor_words < old.view.own.used + class_words (fields + 2)
  pub same : new ≡ old

-- the area has room, and fewer pools were found free than promotion may need
pub record IsClosed (h : SharedHeap) (old new : Token) (fields free : ℕ) : Type 0 where
  pub room : HasRoom h.config old.view fields
  pub found : FoundFree old.view free new.view
  pub few : free < reserve (sizes_in h.config)

-- why no block was allocated
abbrev pub Needs : SharedHeap → Token → Token → ℕ → Need → Type 0
Needs h old new fields (AreaFull used) = IsFull h old new fields used
Needs h old new fields (Closed free) = IsClosed h old new fields free

-- a block is made in the minor area, which has room for it, at the next address, and register dst holds it
pub record MadeYoung (h : SharedHeap) (dst tag fields : ℕ) (label : Label) (old new : Token) : Type 0 where
  pub did : Did h old new (young_command dst tag fields) (Block label)
  pub grows : Grows old new (class_words (fields + 2))
  pub registers : new.view.own.registers ≡ slice_set old.view.own.registers dst (Ref (next_address h.config old.view))
  pub holds : Holds h.config new.view.own.registers
  pub room : HasRoom h.config old.view fields
  pub opened : IsOpened h.config old.view new.view
