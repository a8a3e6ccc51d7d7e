use Rattle.std.proofs.Common.{rules, ◌≡◌, false, None}
use Rattle.weak_laws.specs.Tables.Structures.{datum_at}
use Rattle.judge_outputs.specs.Texts.Keys.{is_held}
use Rattle.judge_outputs.proofs.OfTexts.EffectLemmas as effect
use Rattle.judge_outputs.proofs.texts.steps.is_new.Goals as goal

pub returns-in-None : goal.returns-in-None
returns-in-None c = λ yes.
    let register : is_held c.args.machine.now.registers c.args.label ≡ false = search rules in
    let unbound : datum_at c.args.machine.now.bindings c.args.label ≡ None = search rules in
    let slot : is_held c.args.machine.now.slots c.args.label ≡ false = search rules in
    effect.is_new c.args.machine.now c.args.label register unbound slot
