use Rattle.std.proofs.Common.{◌≡◌, ◌++◌, string_bytes, drop}
use Rattle.heap_picture.specs.Text.{placed, key_cell}
use Rattle.heap_picture.proofs.ephemerons.push_key_cells.Given as goal

-- what is written, and what is still to come
abbrev pub invariant-loop-place : goal.invariant-loop-place
invariant-loop-place l = string_bytes l.out ++ placed key_cell l.place (drop l.place l.keys) ≡ string_bytes l.initial.out ++ placed key_cell 0 l.keys
