use Rattle.std.proofs.Common.{List, sym, subst}
use Rattle.model_core.specs.declared.entry.Entry.{Entry}
use Rattle.model_core.specs.declared.state.Sizes.{Sizes}
use Rattle.model_core.specs.Graph.{label_of}
use Rattle.weak_laws.specs.Tables.Stages.{held_in}
use Rattle.table_text.specs.declared.version.Version.{Version}
use Rattle.table_run.specs.Keepers.Answers.{PutsAt}
use Rattle.table_run.proofs.OfKeepers.TableLemmas.{table_put_answers}
use Rattle.table_run.proofs.OfKeepers.MapLemmas.{listed, map_put_answers}
use Rattle.table_run.proofs.keepers.calls.keeper_put.Goals as goal

pub returns-in-One-clause-answer : goal.returns-in-One-clause-answer
returns-in-One-clause-answer g c =
    let z : Sizes = g.M.Machine.sizes c.args.m.now.machine in
    let old : List Entry = g.M.Machine.front c.args.m.now.machine in
    let new : List Entry = g.M.Machine.front c.table_put.new.m in
    subst (λ (v : Version). PutsAt v z old new c.args.keeper c.args.key c.args.item c.table_put.result) (sym c.in-One.is)
    (λ root chains held x. table_put_answers z old new root chains x (label_of (held_in z old c.args.key)) (held_in z old c.args.item) c.table_put.result (c.table_put.ensures.answer root chains held x.table))

pub returns-in-Two-clause-answer : goal.returns-in-Two-clause-answer
returns-in-Two-clause-answer g c =
    let z : Sizes = g.M.Machine.sizes c.args.m.now.machine in
    let old : List Entry = g.M.Machine.front c.args.m.now.machine in
    let new : List Entry = g.M.Machine.front c.list_put.new.m.machine in
    subst (λ (v : Version). PutsAt v z old new c.args.keeper c.args.key c.args.item c.list_put.result) (sym c.in-Two.is)
    (λ root shape held x. map_put_answers z old new root shape (label_of (held_in z old c.args.key)) (held_in z old c.args.item) c.list_put.result (c.list_put.ensures.answer root held (listed z old root x)))
