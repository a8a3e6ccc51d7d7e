use Rattle.std.proofs.Common.{◌≡◌, ◌++◌, string_bytes, flat_map, take}
use Rattle.heap_picture.specs.Fates.{fate_of}
use Rattle.heap_picture.specs.Text.{block_text}
use Rattle.heap_picture.proofs.blocks.push_blocks.Given as goal

-- what is written so far
abbrev pub invariant-loop-block : goal.invariant-loop-block
invariant-loop-block l = string_bytes l.out ≡ string_bytes l.fn.out ++ flat_map (block_text (fate_of l.fates)) (take l.block-index l.graph)
