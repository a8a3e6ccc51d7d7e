use Rattle.std.proofs.Common.{◌≡◌, ◌++◌, string_bytes, drop}
use Rattle.heap_picture.specs.Text.{placed, register_cell}
use Rattle.heap_picture.proofs.registers.push_register_cells.Given as goal

-- what is written, and what is still to come
abbrev pub invariant-loop-place : goal.invariant-loop-place
invariant-loop-place l = string_bytes l.out ++ placed (register_cell l.hides) l.place (drop l.place l.values) ≡ string_bytes l.initial.out ++ placed (register_cell l.hides) 0 l.values
