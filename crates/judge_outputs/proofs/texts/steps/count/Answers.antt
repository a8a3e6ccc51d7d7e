use Rattle.std.proofs.Common.{rules, ◌≡◌, length}
use Rattle.judge_outputs.proofs.OfTexts.EffectLemmas.{counts}
use Rattle.judge_outputs.proofs.texts.steps.count.Goals as goal

pub returns-in-Counted : goal.returns-in-Counted
returns-in-Counted c = λ yes.
    let all : c.in-Counted.number ≡ length c.args.machine.now.bindings = search (rules, yes) in
    counts c.args.machine.now c.args.reply c.in-Counted.number c.in-Counted.is all
