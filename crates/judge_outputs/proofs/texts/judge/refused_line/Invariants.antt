use Rattle.std.proofs.Common.{◌≡◌, ◌≤◌, ◌*◌, take}
use Rattle.table_text.specs.Machine.Machine.{all_made}
use Rattle.judge_outputs.proofs.OfTexts.RunLemmas.{RunsBefore}
use Rattle.judge_outputs.proofs.texts.judge.refused_line.Given as goal

-- however the machine goes on from here, all replies are its own
abbrev pub invariant-loop-i : goal.invariant-loop-i
invariant-loop-i l = record {
  runs : RunsBefore l.fn.text.version l.fn.sizes l.fn.gone l.fn.text.lines l.fn.replies l.i l.machine;
  made : l.made ≡ all_made l.fn.text.version (take l.i l.fn.text.lines);
  few : l.made ≤ 7 * l.i;
}
