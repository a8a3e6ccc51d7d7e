use Rattle.std.proofs.Common.{◌≡◌, List, sym, subst, arith}
use Rattle.model_core.specs.declared.entry.Entry.{Entry}
use Rattle.model_core.specs.declared.state.Sizes.{Sizes}
use Rattle.model_core.specs.Graph.{label_of}
use Rattle.weak_laws.specs.Tables.Stages.{held_in}
use Rattle.weak_laws.specs.Tables.Performing.{full_of}
use Rattle.table_run.specs.Keepers.Keepers.{HoldsKeeper}
use Rattle.table_text.specs.declared.version.Version.{Version}
use Rattle.table_run.specs.Keepers.Answers.{TakesAt}
use Rattle.table_run.proofs.OfKeepers.TableLemmas.{table_take_answers}
use Rattle.table_text.specs.declared.version.Version.TheVariants.{Two}
use Rattle.table_run.proofs.OfKeepers.MapLemmas.{listed, map_take_answers, take_unrefused}
use Rattle.table_run.proofs.keepers.calls.keeper_take.Goals as goal

pub returns-in-One-clause-answer : goal.returns-in-One-clause-answer
returns-in-One-clause-answer g c =
    let z : Sizes = g.M.Machine.sizes c.args.m.now.machine in
    let old : List Entry = g.M.Machine.front c.args.m.now.machine in
    let new : List Entry = g.M.Machine.front c.table_take.new.m in
    subst (λ (v : Version). TakesAt v z old new c.args.keeper c.args.key c.table_take.result) (sym c.in-One.is)
    (λ root chains held x. table_take_answers z old new root chains x (label_of (held_in z old c.args.key)) c.table_take.result (c.table_take.ensures.answer root chains held x.table))

pub returns-in-Two-clause-refused : goal.returns-in-Two-clause-refused
returns-in-Two-clause-refused g c =
    let z : Sizes = g.M.Machine.sizes c.args.m.now.machine in
    let old : List Entry = g.M.Machine.front c.args.m.now.machine in
    let new : List Entry = g.M.Machine.front c.list_take.new.m.machine in
    let x : HoldsKeeper Two z old c.args.keeper = subst (λ (v : Version). HoldsKeeper v z old c.args.keeper) c.in-Two.is c.requires.keeper in
    let none : full_of c.list_take.result ≡ 0 = take_unrefused z old new x.root (label_of (held_in z old c.args.key)) c.list_take.result (c.list_take.ensures.answer x.root x.held (listed z old x.root x.keeper)) in
    let given = c.list_take.ensures.leaves.given in
    omega (arith, given, none)

pub returns-in-Two-clause-answer : goal.returns-in-Two-clause-answer
returns-in-Two-clause-answer g c =
    let z : Sizes = g.M.Machine.sizes c.args.m.now.machine in
    let old : List Entry = g.M.Machine.front c.args.m.now.machine in
    let new : List Entry = g.M.Machine.front c.list_take.new.m.machine in
    subst (λ (v : Version). TakesAt v z old new c.args.keeper c.args.key c.list_take.result) (sym c.in-Two.is)
    (λ root shape held x. map_take_answers z old new root shape (label_of (held_in z old c.args.key)) c.list_take.result (c.list_take.ensures.answer root held (listed z old root x)))
