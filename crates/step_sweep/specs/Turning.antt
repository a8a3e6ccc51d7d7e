-- What the rotation of the colours asks and tells, and the start of the count of what lives.
use Rattle.std.specs.Prelude.{◌≡◌, ◌⊎◌, ℕ, true, false, Some}
use Rattle.heap_words.specs.declared.colours.Colours.{Colours}
use Rattle.heap_words.specs.ColourWords.{colours_word, rotated}
use Rattle.heap_rule.specs.declared.phase.Kind.TheVariants.{Lasts, Reset}
use Rattle.heap_rule.specs.declared.phase.Stage.TheVariants.{Leads}
use Rattle.heap_rule.specs.declared.view.DomainView.{DomainView}
use Rattle.step_marks.specs.Marking.Looks.{with_share}

-- domain 0 leads after Lasts, knows the colours, and hasn't rotated them yet
pub record TurnMay (x : DomainView) (new : ℕ) : Type 0 where
  pub first : x.own.number ≡ 0
  pub stage : x.seen.stage ≡ Leads Lasts
  pub not_yet : x.seen.share.rotated ≡ false
  pub colours : Colours
  pub known : x.seen.share.colours ≡ Some colours
  pub word : new ≡ colours_word (rotated colours)

-- it has rotated them, and knows their new meanings
pub record TurnTold (x : DomainView) (found : ℕ) (y : DomainView) : Type 0 where
  pub colours : Colours
  pub known : x.seen.share.colours ≡ Some colours
  pub view : y ≡ with_share x (record x.seen.share { colours = Some (rotated colours); rotated = true })

-- domain 0 leads after Lasts or after Reset, and clears a word of what lives
pub record ClearMay (x : DomainView) : Type 0 where
  pub first : x.own.number ≡ 0
  pub stage : (x.seen.stage ≡ Leads Lasts) ⊎ (x.seen.stage ≡ Leads Reset)

abbrev pub BlocksCleared : DomainView → ℕ → DomainView → Type 0
BlocksCleared x found y = y ≡ with_share x (record x.seen.share { blocks = Some 0 })

abbrev pub WordsCleared : DomainView → ℕ → DomainView → Type 0
WordsCleared x found y = y ≡ with_share x (record x.seen.share { words = Some 0 })
