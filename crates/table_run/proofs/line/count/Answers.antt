use Rattle.std.proofs.Common.{List, [], ◌∷◌, ◌++◌}
use Rattle.model_core.specs.declared.entry.Entry.{Entry}
use Rattle.model_core.specs.declared.state.Sizes.{Sizes}
use Rattle.table_text.specs.declared.line.TableLine.TheVariants as line_of
use Rattle.table_run.proofs.LinesLemmas.{counted}
use Rattle.table_run.proofs.line.count.Goals as goal

pub returns-clause-runs : goal.returns-clause-runs
returns-clause-runs g c =
    let z : Sizes = g.M.Machine.sizes c.args.m.now.machine in
    let old : List Entry = g.M.Machine.front c.args.m.now.machine in
    λ p s before x few. counted c.args.version z c.shows_legal.ensures.limits old (g.M.Machine.front c.keeper_count.new.m.machine) c.keeper_count.result c.keeper_count.ensures.passes.written c.keeper_count.ensures.passes.given c.keeper_count.ensures.counts p s (before ++ line_of.Count ∷ []) x
