use Rattle.std.proofs.Common.{arith}
use Rattle.weak_direct.proofs.StepLemmas.{ephemerons_none, labels_none, makes_none, tried_made, tried_passes, tried_quiet, tried_stopped}
use Rattle.weak_direct.proofs.direct.step.Goals as goal

pub returns-clause-goes : goal.returns-clause-goes
returns-clause-goes g c =
    let labels = c.perform.ensures.labels in
    let no_label = labels_none c.args.c c.requires.between c.perform.result in
    let room = c.perform.ensures.room in
    let no_room = ephemerons_none c.args.c c.requires.between c.perform.result in record {
      keeps = record { stays = c.perform.ensures.stays; labels = omega (arith, labels, no_label); room = omega (arith, room, no_room) };
      passes = tried_passes _ _ _ _ c.args.c c.perform.result c.requires.between c.perform.ensures.tried;
    }

pub returns-clause-quiet : goal.returns-clause-quiet
returns-clause-quiet g c = tried_quiet _ _ _ _ c.args.c c.perform.result (makes_none c.args.c c.requires.between) c.perform.ensures.tried

pub returns-clause-performed : goal.returns-clause-performed
returns-clause-performed g c = tried_made _ _ _ _ c.args.c c.perform.result c.perform.ensures.tried

pub returns-clause-stopped : goal.returns-clause-stopped
returns-clause-stopped g c = tried_stopped _ _ _ _ c.args.c c.perform.result c.perform.ensures.tried
