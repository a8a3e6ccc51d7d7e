use Rattle.weak_tables.proofs.MakingLemmas.{made_table}
use Rattle.weak_tables.proofs.making.table_make.Goals as goal

pub returns-clause-made : goal.returns-clause-made
returns-clause-made g c = made_table (g.M.Machine.sizes c.args.m.now) c.shows_legal.ensures.limits _ _ _ c.args.dst c.requires.few c.shows_legal.ensures.legal c.perform.ensures.performed
