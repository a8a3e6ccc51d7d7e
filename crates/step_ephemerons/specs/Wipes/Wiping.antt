-- What the stores ask and tell by which keys of ephemerons are emptied, in Clean.
use Rattle.std.specs.Prelude.{◌≡◌, ◌≢◌, ℕ, ◌+◌, List, [], ◌∷◌, ◌++◌, Some}
use Rattle.model_core.specs.declared.entry.Entry.{Entry}
use Rattle.model_core.specs.declared.entry.Entry.TheVariants.{Wipe}
use Rattle.model_core.specs.declared.label.Label.{Label}
use Rattle.model_core.specs.Fronts.{IsFrontOf}
use Rattle.model_core.specs.History.{Legal}
use Rattle.model_core.specs.Controls.Led.{IsLed}
use Rattle.heap_rule.specs.declared.config.Config.{Config}
use Rattle.heap_rule.specs.declared.view.Cleaning.{Cleaning}
use Rattle.heap_rule.specs.declared.view.DomainView.{DomainView}
use Rattle.heap_rule.specs.declared.view.NextKey.TheVariants.{Unknown, Dead}
use Rattle.heap_rule.specs.declared.view.Scan.TheVariants.{Idle}
use Rattle.heap_rule.specs.declared.view.Share.{Share}
use Rattle.heap_rule.specs.Limits.{sizes_in}
use Rattle.heap_rule.specs.Standing.{with_front}
use Rattle.step_marks.specs.Marking.Looks.{with_share}
use Rattle.step_ephemerons.specs.Looks.Emptying.{cleaned, cleaning_on}

-- a store of nothing in the next key of the ephemeron that the domain cleans, which is full and whose block isn't marked
pub record WipeKeyMay (x : DomainView) (at : ℕ) : Type 0 where
  pub cleaning : Cleaning
  pub cleans : x.seen.share.cleaning ≡ Some cleaning
  pub dead : cleaning.next ≡ Dead
  pub word : at ≡ cleaning.block + 3 + cleaning.done

-- the key is emptied, and it is done
abbrev pub key_wiped : Cleaning → Cleaning
key_wiped w = record w { done = w.done + 1; emptied = w.emptied ++ w.done ∷ []; next = Unknown }

pub record WipeKeyTold (x : DomainView) (new : ℕ) (y : DomainView) : Type 0 where
  pub cleaning : Cleaning
  pub cleans : x.seen.share.cleaning ≡ Some cleaning
  pub view : y ≡ with_share x (cleaning_on (key_wiped cleaning) x.seen.share)

-- a store of nothing in the datum of the ephemeron that the domain cleans, of which it has looked at all keys and emptied some, and loaded the label
pub record WipeDataMay (x : DomainView) (at : ℕ) : Type 0 where
  pub cleaning : Cleaning
  pub cleans : x.seen.share.cleaning ≡ Some cleaning
  pub all : cleaning.done ≡ cleaning.count
  pub some : cleaning.emptied ≢ []
  pub label : Label
  pub labelled : cleaning.label ≡ Some label
  pub word : at ≡ cleaning.block + 2

-- the domain is done with an ephemeron that it cleaned, and is in no block
abbrev pub wiped_through : ℕ → Share → Share
wiped_through at share = record (cleaned at share) { scan = Idle }

-- the Wipe of the keys that were emptied, of the label that was loaded, stands at the step: the front ends with it
pub record WipeDataTold (k : Config) (x : DomainView) (new : ℕ) (y : DomainView) : Type 0 where
  pub cleaning : Cleaning
  pub cleans : x.seen.share.cleaning ≡ Some cleaning
  pub label : Label
  pub labelled : cleaning.label ≡ Some label
  pub before : List Entry
  pub front : y.seen.front ≡ before ++ Wipe label cleaning.emptied ∷ []
  pub seen : IsFrontOf x.own.number before x.seen.front
  pub led : IsLed x.own.number before x.seen.front
  pub legal : Legal (sizes_in k) y.seen.front
  pub view : y ≡ with_front (with_share x (wiped_through cleaning.block x.seen.share)) y.seen.front
