-- The word of the colours, and their rotation.
use Rattle.std.specs.Prelude.{◌≡◌, ◌≢◌, ℕ, ◌+◌, ◌*◌, ◌<◌}
use Rattle.heap_words.specs.declared.colours.Colours.{Colours}

-- the three meanings are three different numbers below 3
pub record IsPermutation (c : Colours) : Type 0 where
  pub marked_fits : c.marked < 3
  pub unmarked_fits : c.unmarked < 3
  pub garbage_fits : c.garbage < 3
  pub marked_differs : c.marked ≢ c.unmarked
  pub unmarked_differs : c.unmarked ≢ c.garbage
  pub garbage_differs : c.garbage ≢ c.marked

-- the word of the colours: two bits each
abbrev pub colours_word : Colours → ℕ
colours_word c = c.marked + 4 * c.unmarked + 16 * c.garbage

-- the colours of the next cycle ("Retrofitting Parallelism onto OCaml", section 3.2)
abbrev pub rotated : Colours → Colours
rotated c = record { marked = c.garbage; unmarked = c.marked; garbage = c.unmarked }
