use Rattle.std.proofs.Common.{arith}
use Rattle.model_core.proofs.OfCounts.Few.{ephemerons_few}
use Rattle.weak_maps.proofs.CountLemmas.{gives_one, refuses_one, writes_one}
use Rattle.weak_maps.proofs.GetLemmas.{grows_by}
use Rattle.weak_maps.proofs.machine.perform.Goals as goal

pub returns-clause-spends : goal.returns-clause-spends
returns-clause-spends g c =
    let few = ephemerons_few c.args.c c.perform.result in
    let p = c.perform.ensures.performed in record {
      stays = c.perform.ensures.stays;
      grows = grows_by (g.M.Machine.sizes c.args.m.now) (g.M.Machine.domain c.args.m.now) _ _ _ _ p;
      labels = c.perform.ensures.labels;
      room = omega (arith, few, c.perform.ensures.room);
      refused = refuses_one (g.M.Machine.sizes c.args.m.now) _ _ _ _ _ p;
      given = gives_one (g.M.Machine.sizes c.args.m.now) _ _ _ _ _ p;
      written = writes_one (g.M.Machine.sizes c.args.m.now) _ _ _ _ _ p;
    }
