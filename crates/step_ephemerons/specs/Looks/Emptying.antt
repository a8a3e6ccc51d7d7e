-- What the looks at ephemerons in Clean ask and tell. The stores by which keys and data are emptied stand in `step_ephemerons::wipes`.
use Rattle.std.specs.Prelude.{◌≡◌, ℕ, ◌+◌, ◌<◌, ◌≤◌, ◌⊎◌, IsTrue, [], ◌∷◌, Some, None}
use Rattle.heap_words.specs.declared.colours.Colours.{Colours}
use Rattle.heap_words.specs.declared.value.Value.{Value}
use Rattle.heap_words.specs.declared.value.Value.TheVariants.{Int, Ref, Nothing}
use Rattle.heap_words.specs.Values.{IsPackable, value_word}
use Rattle.heap_words.specs.Labels.{IsPackableLabel, label_word}
use Rattle.model_core.specs.declared.label.Label.{Label}
use Rattle.heap_rule.specs.declared.config.Config.{Config}
use Rattle.heap_rule.specs.declared.phase.Kind.TheVariants.{Clean}
use Rattle.heap_rule.specs.declared.phase.Stage.TheVariants.{In}
use Rattle.heap_rule.specs.declared.view.Cleaning.{Cleaning}
use Rattle.heap_rule.specs.declared.view.DomainView.{DomainView}
use Rattle.heap_rule.specs.declared.view.NextKey.TheVariants.{Unknown, Refers, Dead}
use Rattle.heap_rule.specs.declared.view.Share.{Share}
use Rattle.heap_rule.specs.Cycles.{seen_by}
use Rattle.heap_rule.specs.Layout.{heap_words}
use Rattle.heap_rule.specs.Token.{IsAddress}
use Rattle.step_marks.specs.Marking.Looks.{with_share}
use Rattle.step_marks.specs.Marking.Marking.{IsMarked, IsUnmarked}
use Rattle.step_ephemerons.specs.Looks.Rounding.{IsMarkedEphemeron, place_seen}

-- the domain cleans an ephemeron, and so far it is there
abbrev pub cleaning_on : Cleaning → Share → Share
cleaning_on w share = record share { cleaning = Some w }

-- it has been at an ephemeron, and cleans it no more
abbrev pub cleaned : ℕ → Share → Share
cleaned at share = record share { places_seen = at ∷ share.places_seen; cleaning = None }

-- a cleaning begins
abbrev pub cleaning_from : ℕ → ℕ → Cleaning
cleaning_from at keys = record { block = at; label = None; done = 0; count = keys; emptied = []; next = Unknown }

-- the next key stays as it is
abbrev pub key_passed : Cleaning → Cleaning
key_passed w = record w { done = w.done + 1; next = Unknown }

-- in Clean, a load of the head of a listed ephemeron by a domain that cleans none
pub record CleanMay (x : DomainView) (at : ℕ) : Type 0 where
  pub stage : x.seen.stage ≡ In Clean
  pub listed : IsTrue (seen_by x.own.ephemerons.items at)
  pub none : x.seen.share.cleaning ≡ None
  pub colours : Colours
  pub known : x.seen.share.colours ≡ Some colours

-- it isn't marked, and the domain has seen its place; or it is, its keys lie in the heap, and its cleaning begins
pub record CleanTold (k : Config) (at : ℕ) (x : DomainView) (found : ℕ) (y : DomainView) : Type 0 where
  pub colours : Colours
  pub known : x.seen.share.colours ≡ Some colours
  pub told : (IsUnmarked colours found × (y ≡ with_share x (place_seen at x.seen.share)))
      ⊎ ((keys : ℕ) × IsMarkedEphemeron colours found keys × (at + keys + 2 ≤ heap_words k) × (y ≡ with_share x (cleaning_on (cleaning_from at keys) x.seen.share)))

-- a load of the next key of the ephemeron that the domain cleans
pub record CleanKeyMay (x : DomainView) (at : ℕ) : Type 0 where
  pub cleaning : Cleaning
  pub cleans : x.seen.share.cleaning ≡ Some cleaning
  pub unknown : cleaning.next ≡ Unknown
  pub more : cleaning.done < cleaning.count
  pub word : at ≡ cleaning.block + 3 + cleaning.done

-- it refers to a block, or it is empty and stays so
abbrev pub key_read : Value → Cleaning → Cleaning
key_read (Ref address) w = record w { next = Refers address }
key_read (Int z) w = key_passed w
key_read Nothing w = key_passed w

pub record CleanKeyTold (k : Config) (x : DomainView) (found : ℕ) (y : DomainView) : Type 0 where
  pub cleaning : Cleaning
  pub cleans : x.seen.share.cleaning ≡ Some cleaning
  pub value : Value
  pub packable : IsPackable value
  pub word : found ≡ value_word value
  pub inside : (a : ℕ) → value ≡ Ref a → IsAddress k a
  pub view : y ≡ with_share x (cleaning_on (key_read value cleaning) x.seen.share)

-- a load of the head of the block to which the next key refers
pub record CleanLookMay (x : DomainView) (at : ℕ) : Type 0 where
  pub cleaning : Cleaning
  pub cleans : x.seen.share.cleaning ≡ Some cleaning
  pub refers : cleaning.next ≡ Refers at
  pub colours : Colours
  pub known : x.seen.share.colours ≡ Some colours

-- the block is marked, and the key stays; or it isn't, and the key is to be emptied
pub record CleanLookTold (x : DomainView) (found : ℕ) (y : DomainView) : Type 0 where
  pub cleaning : Cleaning
  pub cleans : x.seen.share.cleaning ≡ Some cleaning
  pub colours : Colours
  pub known : x.seen.share.colours ≡ Some colours
  pub told : (IsMarked colours found × (y ≡ with_share x (cleaning_on (key_passed cleaning) x.seen.share)))
      ⊎ (IsUnmarked colours found × (y ≡ with_share x (cleaning_on (record cleaning { next = Dead }) x.seen.share)))

-- a load of the label of the ephemeron that the domain cleans
pub record CleanLabelMay (x : DomainView) (at : ℕ) : Type 0 where
  pub cleaning : Cleaning
  pub cleans : x.seen.share.cleaning ≡ Some cleaning
  pub word : at ≡ cleaning.block + 1

-- the domain knows it
abbrev pub labelled : Label → Cleaning → Cleaning
labelled label w = record w { label = Some label }

pub record CleanLabelTold (x : DomainView) (found : ℕ) (y : DomainView) : Type 0 where
  pub cleaning : Cleaning
  pub cleans : x.seen.share.cleaning ≡ Some cleaning
  pub label : Label
  pub packable : IsPackableLabel (label.domain, label.serial)
  pub word : found ≡ label_word label.domain label.serial
  pub view : y ≡ with_share x (cleaning_on (labelled label cleaning) x.seen.share)

-- all keys are done, and none was emptied
pub record CleanEndMay (x : DomainView) (at : ℕ) : Type 0 where
  pub cleaning : Cleaning
  pub cleans : x.seen.share.cleaning ≡ Some cleaning
  pub all : cleaning.done ≡ cleaning.count
  pub none : cleaning.emptied ≡ []
  pub word : at ≡ cleaning.block + 2

pub record CleanEndTold (x : DomainView) (found : ℕ) (y : DomainView) : Type 0 where
  pub cleaning : Cleaning
  pub cleans : x.seen.share.cleaning ≡ Some cleaning
  pub view : y ≡ with_share x (cleaned cleaning.block x.seen.share)
