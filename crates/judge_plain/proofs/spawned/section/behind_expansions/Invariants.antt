use Rattle.std.proofs.Common.{take}
use Rattle.model_traces.specs.Spawns.Expansion.{AreExpansions}
use Rattle.judge_plain.specs.Spawned.Parts.{BeginsWith}
use Rattle.judge_plain.proofs.spawned.section.behind_expansions.Given as goal

abbrev pub invariant-loop-command : goal.invariant-loop-command
invariant-loop-command l = BeginsWith (AreExpansions l.d (take l.command-index l.commands)) l.steps l.rest
