-- What the word of a head says of its block's marks.
use Rattle.std.specs.Prelude.{◌≡◌, ℕ, true, false, None}
use Rattle.heap_words.specs.declared.colours.Colours.{Colours}
use Rattle.heap_rule.specs.Places.{HeadIs, needs_no_scan}
use Rattle.step_marks.specs.Marking.Marking.{IsGrey, IsUnmarked, fields_in}

-- the head of an unmarked block, and that by which the block is marked, and scanned where it needs no scan
pub record IsDarkened (colours : Colours) (word new : ℕ) : Type 0 where
  pub unmarked : IsUnmarked colours word
  pub marks : HeadIs None unmarked.shape colours.marked (needs_no_scan unmarked.shape) new

-- the head of a grey block, how many of its fields are to be scanned, and the head by which it is marked and scanned
pub record IsScanOf (colours : Colours) (word fields new : ℕ) : Type 0 where
  pub grey : IsGrey colours word
  pub count : fields ≡ fields_in grey.block.shape
  pub marks : HeadIs None grey.block.shape colours.marked true new
