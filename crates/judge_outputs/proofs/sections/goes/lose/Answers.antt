use Rattle.std.proofs.Common.{rules, ◌≡◌, sym, subst, false}
use Rattle.table_text.specs.Machine.Machine.{MayGo}
use Rattle.judge_outputs.specs.Texts.Keys.{is_held}
use Rattle.judge_outputs.proofs.OfTexts.GoneLemmas.{one_more}
use Rattle.judge_outputs.proofs.sections.goes.lose.Goals as goal

pub returns-in_ok-take_out : goal.returns-in_ok-take_out
returns-in_ok-take_out c = λ s goes.
    let unheld : is_held c.args.machine.now.registers c.args.key ≡ false = search rules in
    subst (MayGo s) (sym c.in_ok-take_out.ensures) (one_more s c.args.machine.now c.args.key goes unheld)
