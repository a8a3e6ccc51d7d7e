use Rattle.weak_direct.proofs.MakeLemmas.{map_made, map_off}
use Rattle.weak_direct.proofs.StepLemmas.{tried_grows}
use Rattle.weak_direct.proofs.making.map_make.Goals as goal

pub returns-clause-grows : goal.returns-clause-grows
returns-clause-grows g c = tried_grows (g.M.Direct.sizes c.args.m.now) (g.M.Direct.domain c.args.m.now) _ _ _ c.perform.result c.perform.ensures.tried

pub returns-clause-made : goal.returns-clause-made
returns-clause-made g c = map_made g.M.Direct.sizes g.M.Direct.domain g.M.Direct.front g.M.Direct.labels_left c.args.m.now c.perform.new.self c.args.dst c.shows_inside.ensures.limits c.requires.few c.perform.result c.perform.ensures.tried c.perform.ensures.labels

pub returns-clause-stopped : goal.returns-clause-stopped
returns-clause-stopped g c = map_off g.M.Direct.sizes g.M.Direct.domain g.M.Direct.front g.M.Direct.labels_left c.args.m.now c.perform.new.self c.args.dst c.perform.result c.perform.ensures.tried c.perform.ensures.labels
