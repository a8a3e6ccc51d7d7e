use Rattle.std.proofs.Common.{◌≡◌, drop}
use Rattle.table_text.specs.Machine.Machine.{MayGo}
use Rattle.judge_outputs.specs.Texts.Playing.{once_gone}
use Rattle.judge_outputs.proofs.texts.machine.Machine.let_go.Given as goal

-- what has gone so far may go, and what is left goes on
abbrev pub invariant-loop-one : goal.invariant-loop-one
invariant-loop-one l = record {
  goes : MayGo l.fn.self l.self;
  gone : once_gone (drop l.one-index l.gone) l.fn.line l.self ≡ once_gone l.gone l.fn.line l.fn.self;
}
