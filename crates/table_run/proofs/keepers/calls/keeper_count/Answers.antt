use Rattle.std.proofs.Common.{List, sym, subst}
use Rattle.model_core.specs.declared.entry.Entry.{Entry}
use Rattle.model_core.specs.declared.state.Sizes.{Sizes}
use Rattle.table_text.specs.declared.version.Version.{Version}
use Rattle.table_run.specs.Keepers.Answers.{CountsAt}
use Rattle.table_run.proofs.OfKeepers.TableLemmas.{table_counts}
use Rattle.table_run.proofs.OfKeepers.MapLemmas.{listed, map_counts}
use Rattle.table_run.proofs.keepers.calls.keeper_count.Goals as goal

pub returns-in-One-clause-counts : goal.returns-in-One-clause-counts
returns-in-One-clause-counts g c =
    let z : Sizes = g.M.Machine.sizes c.args.m.now.machine in
    let old : List Entry = g.M.Machine.front c.args.m.now.machine in
    let new : List Entry = g.M.Machine.front c.table_count.new.m in
    subst (λ (v : Version). CountsAt v z old new c.args.keeper c.table_count.result) (sym c.in-One.is)
    (λ root chains held x. table_counts z old new root chains x c.table_count.result (c.table_count.ensures.counts root chains held x.table))

pub returns-in-Two-clause-counts : goal.returns-in-Two-clause-counts
returns-in-Two-clause-counts g c =
    let z : Sizes = g.M.Machine.sizes c.args.m.now.machine in
    let old : List Entry = g.M.Machine.front c.args.m.now.machine in
    let new : List Entry = g.M.Machine.front c.map_count.new.m.machine in
    subst (λ (v : Version). CountsAt v z old new c.args.keeper c.map_count.result) (sym c.in-Two.is)
    (λ root shape held x. map_counts z old new root shape c.map_count.result (c.map_count.ensures.counts root held (listed z old root x)))
