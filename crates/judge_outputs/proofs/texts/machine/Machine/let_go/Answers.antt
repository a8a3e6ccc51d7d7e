use Rattle.std.proofs.Common.{rules, ◌≡◌, ◌+◌, ap, sym, ◌∙◌, drop, refl, subst, false}
use Rattle.table_text.specs.Machine.Machine.{MayGo}
use Rattle.judge_outputs.specs.Texts.Keys.{is_held, taken_out}
use Rattle.judge_outputs.specs.Texts.Playing.{once_gone}
use Rattle.judge_outputs.proofs.OfTexts.GoneLemmas.{stays, one_more, gone_here, gone_elsewhere}
use Rattle.judge_outputs.proofs.texts.machine.Machine.let_go.Goals.{then-one-line+else-is_held+in_ok-take_out, else-one-line}
use Rattle.judge_outputs.proofs.texts.machine.Machine.let_go.Goals as goal

pub loop-one-init : goal.loop-one-init
loop-one-init c = record { goes = stays c.args.self.now; gone = refl }

pub loop-one-preserved : goal.loop-one-preserved
loop-one-preserved c = elim c.if-one-line.branch [
  | then-one-line+else-is_held+in_ok-take_out w ↦
      let unheld : is_held c.loop-one.self.registers w.label_of-key.result ≡ false = search rules in
      record {
        goes = subst (MayGo c.args.self.now) (sym w.self-is) (subst (MayGo c.args.self.now) (sym w.in_ok-take_out.ensures) (one_more c.args.self.now c.loop-one.self w.label_of-key.result c.loop-one.invariant.goes unheld));
        gone = ap (once_gone (drop (c.loop-one.one-index + 1) c.args.gone.now) c.args.line) (w.self-is ∙ w.in_ok-take_out.ensures ∙ ap (λ k. taken_out k c.loop-one.self) w.label_of-key.ensures)
            ∙ gone_here c.args.gone.now c.loop-one.one-index (c.loop-one.one-index + 1) c.args.line c.loop-one.self _ refl c.loop-one-test.true w.if-one-line.true ∙ c.loop-one.invariant.gone;
      }
  | else-one-line w ↦ record {
    goes = subst (MayGo c.args.self.now) (sym w.self-is) c.loop-one.invariant.goes;
    gone = ap (once_gone (drop (c.loop-one.one-index + 1) c.args.gone.now) c.args.line) w.self-is
        ∙ gone_elsewhere c.args.gone.now c.loop-one.one-index (c.loop-one.one-index + 1) c.args.line c.loop-one.self _ refl c.loop-one-test.true w.if-one-line.false ∙ c.loop-one.invariant.gone;
  }
]
