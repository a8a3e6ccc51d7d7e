use Rattle.std.proofs.Common.{rules, IsTrue}
use Rattle.std.specs.List.{list_all}
use Rattle.judge_outputs.specs.Texts.Keys.{is_held, is_kept}
use Rattle.judge_outputs.proofs.OfTexts.EffectLemmas.{all_gone}
use Rattle.judge_outputs.proofs.texts.steps.is_all_held.Goals as goal

pub returns : goal.returns
returns c = λ yes.
    let bound : IsTrue (list_all (λ b. is_held c.args.machine.now.registers b.0) c.args.machine.now.bindings) = search rules in
    let slots : IsTrue (list_all (is_kept c.args.machine.now.registers) c.args.machine.now.slots) = search (rules, yes) in
    all_gone c.args.machine.now bound slots
