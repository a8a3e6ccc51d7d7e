use Rattle.std.proofs.Common.{◌≡◌, ◌++◌, take}
use Rattle.model_core.specs.Entries.{opened}
use Rattle.judge_plain.proofs.opened.add_blocks.Given as goal

-- the blocks so far
abbrev pub invariant-loop-block : goal.invariant-loop-block
invariant-loop-block l = l.made.items ≡ l.fn.made.items ++ opened (take l.block-index l.blocks)
