use Rattle.table_sections.proofs.CommandLemmas.{forget_done}
use Rattle.table_sections.proofs.line.forget.Goals as goal

pub returns-clause-done : goal.returns-clause-done
returns-clause-done g c =
    forget_done (g.M.Machine.sizes c.args.m.now) (g.M.Machine.domain c.args.m.now) _ _ c.args.reg c.perform-forgotten.result c.requires.register c.perform-forgotten.ensures.performed c.said.result c.said.ensures
