use Rattle.std.proofs.Common.{◌≡◌, ◌++◌, string_bytes, drop}
use Rattle.heap_picture.specs.Text.{placed, field_arrow}
use Rattle.heap_picture.proofs.blocks.push_field_arrows.Given as goal

-- what is written, and what is still to come
abbrev pub invariant-loop-place : goal.invariant-loop-place
invariant-loop-place l = string_bytes l.out ++ placed (field_arrow l.l) l.place (drop l.place l.fields) ≡ string_bytes l.initial.out ++ placed (field_arrow l.l) 0 l.fields
