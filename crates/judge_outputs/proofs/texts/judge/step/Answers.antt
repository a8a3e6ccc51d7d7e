use Rattle.std.proofs.Common.{sym, subst}
use Rattle.table_text.specs.declared.machine.reply.LineReply.{LineReply}
use Rattle.judge_outputs.specs.Texts.Playing.{StepBy}
use Rattle.judge_outputs.proofs.OfTexts.RunLemmas.{refused_step}
use Rattle.judge_outputs.proofs.texts.judge.step.Goals as goal

pub returns-in-Full : goal.returns-in-Full
returns-in-Full c = λ lines made yes.
    subst (λ (a : LineReply). StepBy c.args.version c.args.sizes.now c.args.gone.now lines c.args.number c.args.line c.args.machine.now a c.let_go.new.self) (sym c.in-Full.is)
    (refused_step c.args.version c.args.sizes.now c.args.gone.now c.args.number c.args.line c.args.machine.now c.let_go.new.self lines (c.in_ok-let_go.ensures.goes c.if-not-branch.false) (c.in_ok-let_go.ensures.gone c.if-not-branch.false) (c.may_be_refused.ensures lines yes made))
