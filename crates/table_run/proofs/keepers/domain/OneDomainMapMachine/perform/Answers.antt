use Rattle.weak_maps.proofs.OfLists.PerformLemmas.{performs}
use Rattle.table_run.proofs.keepers.domain.OneDomainMapMachine.perform.Goals as goal

pub returns-clause-performed : goal.returns-clause-performed
returns-clause-performed g c =
    performs (g.M.Machine.sizes c.args.self.now.machine) (g.M.Machine.front c.args.self.now.machine) (g.M.Machine.front c.perform.new.self) c.args.c c.perform.result c.perform.ensures.performed
