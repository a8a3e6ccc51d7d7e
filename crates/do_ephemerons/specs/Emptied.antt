-- What becomes of a domain's view while it empties keys of its ephemerons in Clean.
use Rattle.std.specs.Prelude.{◌≡◌, ◌≢◌, ℕ, Bool, cond, MatchBool, List, [], ◌∷◌, Some, None}
use Rattle.model_core.specs.Fronts.{IsFrontOf}
use Rattle.model_core.specs.History.{Legal}
use Rattle.model_core.specs.Controls.Led.{IsLed}
use Rattle.heap_rule.specs.declared.config.Config.{Config}
use Rattle.heap_rule.specs.declared.view.Cleaning.{Cleaning}
use Rattle.heap_rule.specs.declared.view.DomainView.{DomainView}
use Rattle.heap_rule.specs.declared.view.NextKey.TheVariants.{Unknown}
use Rattle.heap_rule.specs.Limits.{sizes_in}
use Rattle.heap_rule.specs.Standing.{with_front}
use Rattle.step_marks.specs.Marking.Looks.{with_share}
use Rattle.step_ephemerons.specs.Wipes.Wiping.{key_wiped}
use Rattle.step_ephemerons.specs.Looks.Emptying.{cleaning_on, key_passed}
use Rattle.do_ephemerons.specs.Looking.{SeesListed}

-- the next key of the ephemeron that the domain cleans is done: it was emptied, or it stays
pub record KeyCleaned (won : Bool) (x y : DomainView) : Type 0 where
  pub cleaning : Cleaning
  pub cleans : x.seen.share.cleaning ≡ Some cleaning
  pub view : y ≡ with_share x (cleaning_on (cond won (key_wiped cleaning) (key_passed cleaning)) x.seen.share)

-- so many keys of an ephemeron are done, and one was emptied or none was
pub record KeysCleaned (at keys done : ℕ) (won : Bool) (x y : DomainView) : Type 0 where
  pub emptied : List ℕ
  pub some : MatchBool won (emptied ≢ []) (emptied ≡ [])
  pub view : y ≡ with_share x (cleaning_on (record { block = at; label = None; done = done; count = keys; emptied = emptied; next = Unknown }) x.seen.share)

-- the domain with a longer front, and with what it knows of the colours and the places that it has seen as another has it
abbrev pub with_places : DomainView → DomainView → DomainView
with_places x y = with_front (with_share x (record x.seen.share { colours = y.seen.share.colours; places_seen = y.seen.share.places_seen })) y.seen.front

-- the domain has been at an ephemeron, and cleans none. The front has grown by no entry of its own
pub record Cleaned (at : ℕ) (x y : DomainView) : Type 0 where
  pub seen : IsFrontOf x.own.number y.seen.front x.seen.front
  pub led : IsLed x.own.number y.seen.front x.seen.front
  pub view : y ≡ with_front (with_share x (record x.seen.share { places_seen = at ∷ x.seen.share.places_seen })) y.seen.front

-- the front is legal if it was
abbrev pub StaysLegal : Config → DomainView → DomainView → Type 0
StaysLegal k x y = Legal (sizes_in k) x.seen.front → Legal (sizes_in k) y.seen.front

-- it has been at each one of its list, and nothing else has changed
pub record AllCleaned (x y : DomainView) : Type 0 where
  pub seen : IsFrontOf x.own.number y.seen.front x.seen.front
  pub led : IsLed x.own.number y.seen.front x.seen.front
  pub view : y ≡ with_places x y
  pub all : SeesListed y
