-- The colour and the scanned mark of a new block.
use Rattle.std.specs.Prelude.{◌≡◌, ℕ, ◌<◌, Bool, Some}
use Rattle.heap_words.specs.declared.colours.Colours.{Colours}
use Rattle.heap_rule.specs.declared.view.DomainView.{DomainView}
use Rattle.heap_rule.specs.Places.{new_colour}

-- they are those of a new block of the pools, whose domain knows the colours and whether a cycle goes on beside running domains
pub record AreNewMarks (x : DomainView) (colour : ℕ) (scanned : Bool) : Type 0 where
  pub colours : Colours
  pub known_is : x.seen.share.colours ≡ Some colours
  pub armed_is : x.seen.share.armed ≡ Some scanned
  pub colour_is : colour ≡ new_colour scanned colours
  pub fits : colour < 3
