use Rattle.std.proofs.Common.{◌≡◌, ◌≤◌, ◌+◌, drop}
use Rattle.judge_plain.specs.Scheduled.Lines.{differs_from}
use Rattle.judge_plain.proofs.scheduled.compare.first_difference.Given as goal

-- where the rest of both differs
abbrev pub invariant-bytes : goal.invariant-bytes
invariant-bytes l = record {
  line : l.line ≤ l.byte-index + 1;
  rest : differs_from l.line (drop l.byte-index l.expected) l.rest ≡ differs_from 1 l.expected l.output;
}
