use Rattle.std.proofs.Common.{◌≡◌, subst}
use Rattle.judge_outputs.specs.declared.judged.Judged.TheVariants as judged
use Rattle.judge_outputs.specs.declared.scheduling.TurnsJudged.TheVariants.{Other}
use Rattle.judge_outputs.specs.Scheduling.{IsTurnsTold, TellsTurns}
use Rattle.judge_outputs.specs.Written.{WritesAnswer, WritesFront}
use Rattle.judge_outputs.proofs.WroteLemmas.{wrote_turns}
use Rattle.judge_outputs.proofs.scheduling.judge_turns.Goals as goal

pub returns-in-Ok-clause-wrote : goal.returns-in-Ok-clause-wrote
returns-in-Ok-clause-wrote g c = wrote_turns c.args.sizes.now c.judge_bytes.result (g.S.Source.left c.args.src.now) (g.S.Source.left c.read_bytes.new.src) (g.K.Sink.written c.args.out.now) (g.K.Sink.written c.judge_bytes.new.out) c.in-Ok.bytes.items c.in-Ok.ensures.bytes
    (subst (λ t. IsTurnsTold c.judge_bytes.result → WritesAnswer (TellsTurns c.args.sizes.now t) c.judge_bytes.result (g.K.Sink.written c.args.out.now) (g.K.Sink.written c.judge_bytes.new.out)) c.deref.ensures.value c.judge_bytes.ensures.told)
    (subst (λ t. c.judge_bytes.result ≡ Other judged.WriteFault → WritesFront (TellsTurns c.args.sizes.now t) (g.K.Sink.written c.args.out.now) (g.K.Sink.written c.judge_bytes.new.out)) c.deref.ensures.value c.judge_bytes.ensures.cut)
