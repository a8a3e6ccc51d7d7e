use Rattle.std.proofs.Common.{arith}
use Rattle.model_core.proofs.OfCounts.Few.{ephemerons_few}
use Rattle.weak_laws.proofs.OfTables.RefusalLemmas.{performed_refusals, performed_gives}
use Rattle.weak_laws.proofs.OfTables.WritingLemmas.{performed_writings}
use Rattle.weak_tables.proofs.machine.perform.Goals as goal

pub returns-clause-room : goal.returns-clause-room
returns-clause-room g c = let few = ephemerons_few c.args.c c.perform.result in omega (arith, few, c.perform.ensures.room)

pub returns-clause-refused : goal.returns-clause-refused
returns-clause-refused g c = performed_refusals (g.M.Machine.sizes c.args.m.now) _ _ _ _ c.perform.ensures.performed

pub returns-clause-given : goal.returns-clause-given
returns-clause-given g c = performed_gives (g.M.Machine.sizes c.args.m.now) c.shows_legal.ensures.limits _ _ _ _ c.perform.ensures.performed

pub returns-clause-written : goal.returns-clause-written
returns-clause-written g c = performed_writings (g.M.Machine.sizes c.args.m.now) _ _ _ _ c.perform.ensures.performed
