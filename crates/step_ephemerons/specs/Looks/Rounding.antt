-- What the looks at ephemerons in Rounds ask and tell.
use Rattle.std.specs.Prelude.{◌≡◌, ℕ, ◌+◌, ◌<◌, ◌≤◌, ◌⊎◌, IsTrue, ◌∷◌, Some}
use Rattle.model_core.specs.Fronts.{EpheShape}
use Rattle.heap_words.specs.declared.colours.Colours.{Colours}
use Rattle.heap_words.specs.declared.value.Value.{Value}
use Rattle.heap_words.specs.declared.value.Value.TheVariants.{Int, Ref, Nothing}
use Rattle.heap_words.specs.Values.{IsPackable, value_word}
use Rattle.heap_rule.specs.declared.config.Config.{Config}
use Rattle.heap_rule.specs.declared.phase.Kind.TheVariants.{Rounds}
use Rattle.heap_rule.specs.declared.phase.Stage.TheVariants.{In}
use Rattle.heap_rule.specs.declared.view.DomainView.{DomainView}
use Rattle.heap_rule.specs.declared.view.Scan.{Scan}
use Rattle.heap_rule.specs.declared.view.Scan.TheVariants.{Idle, Keys, Key, Datum}
use Rattle.heap_rule.specs.declared.view.Share.{Share}
use Rattle.heap_rule.specs.Cycles.{seen_by}
use Rattle.heap_rule.specs.Layout.{heap_words}
use Rattle.heap_rule.specs.Token.{IsAddress}
use Rattle.step_marks.specs.Marking.Looks.{with_share}
use Rattle.step_marks.specs.Marking.Marking.{IsMarked, IsUnmarked, seen_through}

-- the domain has been at a place
abbrev pub place_seen : ℕ → Share → Share
place_seen at share = record share { places_seen = at ∷ share.places_seen }

-- and at that of the ephemeron whose keys it looks at, which it looks at no more
abbrev pub looked_through : Share → Share
looked_through share = record share { scan = Idle; places_seen = seen_through share.scan share.places_seen }

-- the word is the head of a marked ephemeron with so many keys
pub record IsMarkedEphemeron (colours : Colours) (word keys : ℕ) : Type 0 where
  pub block : IsMarked colours word
  pub shape : block.shape ≡ EpheShape keys

-- in Rounds, a load of the head of a listed ephemeron
pub record EphemeronMay (x : DomainView) (at : ℕ) : Type 0 where
  pub stage : x.seen.stage ≡ In Rounds
  pub listed : IsTrue (seen_by x.own.ephemerons.items at)
  pub colours : Colours
  pub known : x.seen.share.colours ≡ Some colours

-- it isn't marked, and the domain has seen its place; or it is, its keys lie in the heap, and the look at them begins
pub record EphemeronTold (k : Config) (at : ℕ) (x : DomainView) (found : ℕ) (y : DomainView) : Type 0 where
  pub colours : Colours
  pub known : x.seen.share.colours ≡ Some colours
  pub told : (IsUnmarked colours found × (y ≡ with_share x (place_seen at x.seen.share)))
      ⊎ ((keys : ℕ) × IsMarkedEphemeron colours found keys × (at + keys + 2 ≤ heap_words k) × (y ≡ with_share x (record x.seen.share { scan = Keys at 0 keys })))

-- in Rounds, a load of the next key of a marked ephemeron
pub record KeyMay (x : DomainView) (at : ℕ) : Type 0 where
  pub stage : x.seen.stage ≡ In Rounds
  pub block : ℕ
  pub done : ℕ
  pub count : ℕ
  pub scan : x.seen.share.scan ≡ Keys block done count
  pub more : done < count
  pub word : at ≡ block + 3 + done

-- it refers to a block, or it is empty and done
abbrev pub key_on : Scan → Value → Scan
key_on (Keys block done count) (Ref address) = Key block done count address
key_on (Keys block done count) (Int z) = Keys block (done + 1) count
key_on (Keys block done count) Nothing = Keys block (done + 1) count
key_on other value = other

pub record KeyTold (k : Config) (x : DomainView) (found : ℕ) (y : DomainView) : Type 0 where
  pub value : Value
  pub packable : IsPackable value
  pub word : found ≡ value_word value
  pub inside : (a : ℕ) → value ≡ Ref a → IsAddress k a
  pub view : y ≡ with_share x (record x.seen.share { scan = key_on x.seen.share.scan value })

-- in Rounds, a load of the head of the block to which the next key refers
pub record KeyLookMay (x : DomainView) (at : ℕ) : Type 0 where
  pub stage : x.seen.stage ≡ In Rounds
  pub block : ℕ
  pub done : ℕ
  pub count : ℕ
  pub scan : x.seen.share.scan ≡ Key block done count at
  pub colours : Colours
  pub known : x.seen.share.colours ≡ Some colours

-- once the key's block is marked the key is done
abbrev pub next_key : Scan → Scan
next_key (Key block done count address) = Keys block (done + 1) count
next_key other = other

-- the key's block is marked, and the key is done; or it isn't, and in this phase nothing is to be done for the ephemeron
pub record KeyLookTold (x : DomainView) (found : ℕ) (y : DomainView) : Type 0 where
  pub colours : Colours
  pub known : x.seen.share.colours ≡ Some colours
  pub told : (IsMarked colours found × (y ≡ with_share x (record x.seen.share { scan = next_key x.seen.share.scan })))
      ⊎ (IsUnmarked colours found × (y ≡ with_share x (looked_through x.seen.share)))

-- in Rounds, a load of the datum of an ephemeron whose full keys are all marked
pub record DatumMay (x : DomainView) (at : ℕ) : Type 0 where
  pub stage : x.seen.stage ≡ In Rounds
  pub block : ℕ
  pub count : ℕ
  pub scan : x.seen.share.scan ≡ Keys block count count
  pub word : at ≡ block + 2

-- it refers to a block, which is to be marked; or the domain is done with the ephemeron
abbrev pub datum_of : Scan → ℕ → Scan
datum_of (Keys block done count) address = Datum block address
datum_of other address = other

abbrev pub datum_on : Share → Value → Share
datum_on share (Ref address) = record share { scan = datum_of share.scan address }
datum_on share (Int z) = looked_through share
datum_on share Nothing = looked_through share

pub record DatumTold (k : Config) (x : DomainView) (found : ℕ) (y : DomainView) : Type 0 where
  pub value : Value
  pub packable : IsPackable value
  pub word : found ≡ value_word value
  pub inside : (a : ℕ) → value ≡ Ref a → IsAddress k a
  pub view : y ≡ with_share x (datum_on x.seen.share value)
