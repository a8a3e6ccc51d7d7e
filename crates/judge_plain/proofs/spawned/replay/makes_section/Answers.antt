use Rattle.std.proofs.Common.{rules}
use Rattle.judge_plain.proofs.OfSpawned.MakeLemmas.{section_made}
use Rattle.judge_plain.proofs.spawned.replay.makes_section.Goals as goal

pub returns-then-told : goal.returns-then-told
returns-then-told c = λ yes.
    section_made c.args.script.now.sections c.args.d c.is_spawned-spawned.result c.section-commands.result.now c.args.told.now.steps.items c.args.told.now.ended c.is_spawned-spawned.ensures c.section-commands.ensures
    (search rules) (rw c.deref.ensures.value at (c.is_section.ensures yes))
