use Rattle.std.proofs.Common.{◌≡◌, ◌++◌, string_bytes, drop}
use Rattle.heap_picture.specs.Fates.{fate_of}
use Rattle.heap_picture.specs.Text.{placed, key_arrow}
use Rattle.heap_picture.proofs.ephemerons.push_key_arrows.Given as goal

-- what is written, and what is still to come
abbrev pub invariant-loop-place : goal.invariant-loop-place
invariant-loop-place l = string_bytes l.out ++ placed (key_arrow (fate_of l.fates) l.l) l.place (drop l.place l.keys) ≡ string_bytes l.initial.out ++ placed (key_arrow (fate_of l.fates) l.l) 0 l.keys
