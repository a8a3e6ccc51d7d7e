-- A command as its word and its numbers.
use Rattle.std.specs.Prelude.{ℕ, ℤ, pos, slice_index_or, unsigned_abs}
use Rattle.model_core.specs.declared.command.Command.{Command}
use Rattle.model_core.specs.declared.command.Command.TheVariants.{PutInt}
use Rattle.text_script.specs.Forms.{parts}
use Rattle.judge_plain.specs.declared.history.command.Row.{Row}

-- the number at a place of a command's line, or 0
abbrev pub number_at : Command → ℕ → ℕ
number_at c i = unsigned_abs (slice_index_or (parts c).numbers i (pos 0))

-- the integer of `int`, or 0
abbrev pub integer_of : Command → ℤ
integer_of (PutInt dst value) = value
integer_of _ = pos 0

-- the numbers of a command but for the integer of `int`
abbrev pub later_number_at : Command → ℕ → ℕ
later_number_at (PutInt dst value) i = 0
later_number_at c i = number_at c i

-- the row of a command
abbrev pub row_of : Command → Row
row_of c = record {
  word = (parts c).word;
  value = integer_of c;
  a = number_at c 0;
  b = later_number_at c 1;
  c = later_number_at c 2;
  d = later_number_at c 3;
}
