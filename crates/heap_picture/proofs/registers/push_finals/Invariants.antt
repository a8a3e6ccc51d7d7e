use Rattle.std.proofs.Common.{◌≡◌, ◌++◌, string_bytes, drop}
use Rattle.heap_picture.specs.Fates.{fate_of}
use Rattle.heap_picture.specs.Text.{placed, final_text}
use Rattle.heap_picture.proofs.registers.push_finals.Given as goal

-- what is written, and what is still to come
abbrev pub invariant-loop-place : goal.invariant-loop-place
invariant-loop-place l = string_bytes l.out ++ placed (final_text (fate_of l.fates)) l.place (drop l.place l.finals) ≡ string_bytes l.initial.out ++ placed (final_text (fate_of l.fates)) 0 l.finals
