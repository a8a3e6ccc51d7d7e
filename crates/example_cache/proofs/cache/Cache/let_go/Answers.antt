use Rattle.example_cache.proofs.Calls.{forgotten}
use Rattle.example_cache.proofs.cache.Cache.let_go.Goals as goal

pub returns-clause-none : goal.returns-clause-none
returns-clause-none g c = forgotten c.args.self.now c.make_spare.new.self c.make_spare.ensures.limits c.make_spare.ensures.sizes c.args.r c.requires.few c.make_spare.result c.make_spare.ensures.performed
