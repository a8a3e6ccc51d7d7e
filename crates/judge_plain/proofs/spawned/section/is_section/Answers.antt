use Rattle.std.proofs.Common.{rules, ◌≡◌, length}
use Rattle.std.proofs.lemmas.List.{nil_from_length}
use Rattle.judge_plain.proofs.OfSpawned.StepLemmas.{whole_section}
use Rattle.judge_plain.proofs.spawned.section.is_section.Goals as goal

pub returns-in-Some : goal.returns-in-Some
returns-in-Some c = λ yes.
    let none : length c.in-Some.rest.now ≡ 0 = search rules in
    whole_section c.args.d c.args.spawned c.args.commands.now c.args.steps.now c.in-Some.rest.now c.in-Some.ensures (nil_from_length c.in-Some.rest.now none)
