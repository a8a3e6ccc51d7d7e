use Rattle.weak_cache.proofs.ReturnLemmas.{made_cache}
use Rattle.weak_maps.proofs.FrameLemmas.{spends_allocates}
use Rattle.weak_cache.proofs.cache.cache_make.Goals as goal

pub returns-clause-allocates : goal.returns-clause-allocates
returns-clause-allocates g c = spends_allocates c.perform.ensures.spends

pub returns-clause-made : goal.returns-clause-made
returns-clause-made g c = made_cache (g.M.Machine.sizes c.args.m.now) c.shows_legal.ensures.limits (g.M.Machine.domain c.args.m.now) _ _ c.perform.result c.args.dst c.args.size c.requires.few.0 c.requires.few.1 c.perform.ensures.performed
