use Rattle.weak_maps.proofs.MakeLemmas.{made_map}
use Rattle.weak_maps.proofs.FrameLemmas.{spends_allocates}
use Rattle.weak_maps.proofs.making.map_make.Goals as goal

pub returns-clause-allocates : goal.returns-clause-allocates
returns-clause-allocates g c = spends_allocates c.perform.ensures.spends

pub returns-clause-made : goal.returns-clause-made
returns-clause-made g c = made_map (g.M.Machine.sizes c.args.m.now) c.shows_legal.ensures.limits (g.M.Machine.domain c.args.m.now) _ _ _ c.args.dst c.requires.few c.perform.ensures.performed
