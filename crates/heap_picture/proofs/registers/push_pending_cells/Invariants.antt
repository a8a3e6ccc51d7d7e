use Rattle.std.proofs.Common.{◌≡◌, ◌++◌, string_bytes, drop}
use Rattle.heap_picture.specs.Text.{placed, pending_cell}
use Rattle.heap_picture.proofs.registers.push_pending_cells.Given as goal

-- what is written, and what is still to come
abbrev pub invariant-loop-place : goal.invariant-loop-place
invariant-loop-place l = string_bytes l.out ++ placed pending_cell l.place (drop l.place l.queue) ≡ string_bytes l.initial.out ++ placed pending_cell 0 l.queue
