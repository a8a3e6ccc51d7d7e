use Rattle.weak_direct.proofs.AllocLemmas.{make_label, make_lost, make_made, make_room, make_stopped, make_strides}
use Rattle.weak_direct.proofs.direct.allocate.Goals as goal

pub perform-requires : goal.perform-requires
perform-requires g c = record { fits = c.requires.fits; label = make_label c.args.c c.requires.make _ c.requires.label; room = c.requires.room }

pub returns-clause-spends : goal.returns-clause-spends
returns-clause-spends g c = record {
  stays = c.perform.ensures.stays;
  lost = make_lost (g.M.Direct.sizes c.args.m.now) (g.M.Direct.domain c.args.m.now) _ _ c.args.c c.perform.result c.requires.make c.perform.ensures.tried _ _ c.perform.ensures.labels;
  room = make_room c.args.c c.perform.result _ _ c.perform.ensures.room;
  strides = make_strides _ _ _ _ c.args.c c.perform.result c.requires.make c.perform.ensures.tried;
}

pub returns-clause-stopped : goal.returns-clause-stopped
returns-clause-stopped g c = make_stopped _ _ _ _ c.args.c c.perform.result c.perform.ensures.tried

pub returns-clause-made : goal.returns-clause-made
returns-clause-made g c = make_made g.M.Direct.sizes g.M.Direct.domain g.M.Direct.front g.M.Direct.labels_left c.args.m.now c.perform.new.self c.args.c c.perform.result c.requires.make c.perform.ensures.tried c.perform.ensures.labels
