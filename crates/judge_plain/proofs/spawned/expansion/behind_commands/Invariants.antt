use Rattle.std.proofs.Common.{take}
use Rattle.model_traces.specs.Spawns.Expansion.{Make}
use Rattle.judge_plain.specs.Spawned.Parts.{BeginsWith}
use Rattle.judge_plain.proofs.spawned.expansion.behind_commands.Given as goal

abbrev pub invariant-loop-command : goal.invariant-loop-command
invariant-loop-command l = BeginsWith (Make (take l.command-index l.commands)) l.steps l.rest
