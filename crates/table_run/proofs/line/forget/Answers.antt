use Rattle.std.proofs.Common.{List, [], ◌∷◌, ◌++◌}
use Rattle.model_core.specs.declared.entry.Entry.{Entry}
use Rattle.model_core.specs.declared.state.Sizes.{Sizes}
use Rattle.table_text.specs.declared.line.TableLine.TheVariants as line_of
use Rattle.table_run.proofs.LinesLemmas.{forgotten}
use Rattle.table_run.proofs.line.forget.Goals as goal

pub returns-clause-runs : goal.returns-clause-runs
returns-clause-runs g c =
    let z : Sizes = g.M.Machine.sizes c.args.m.now.machine in
    let old : List Entry = g.M.Machine.front c.args.m.now.machine in
    λ p s before x few. forgotten c.args.version z c.shows_legal.ensures.limits old (g.M.Machine.front c.perform-nothing.new.self) c.args.reg c.perform-nothing.result c.requires.register.0 c.requires.register.1 c.perform-nothing.ensures.performed p s (before ++ line_of.Forget c.args.reg ∷ []) x
