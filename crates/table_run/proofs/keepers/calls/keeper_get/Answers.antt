use Rattle.std.proofs.Common.{◌≡◌, List, sym, subst, arith}
use Rattle.model_core.specs.declared.entry.Entry.{Entry}
use Rattle.model_core.specs.declared.state.Sizes.{Sizes}
use Rattle.model_core.specs.Graph.{label_of}
use Rattle.weak_laws.specs.Tables.Stages.{held_in}
use Rattle.weak_laws.specs.Tables.Performing.{full_of}
use Rattle.table_run.specs.Keepers.Keepers.{HoldsKeeper}
use Rattle.table_text.specs.declared.version.Version.{Version}
use Rattle.table_run.specs.Keepers.Answers.{GetsAt}
use Rattle.table_run.proofs.OfKeepers.TableLemmas.{table_get_answers}
use Rattle.table_text.specs.declared.version.Version.TheVariants.{Two}
use Rattle.table_run.proofs.OfKeepers.MapLemmas.{get_unrefused, listed, map_get_answers}
use Rattle.table_run.proofs.keepers.calls.keeper_get.Goals as goal

pub returns-in-One-clause-answer : goal.returns-in-One-clause-answer
returns-in-One-clause-answer g c =
    let z : Sizes = g.M.Machine.sizes c.args.m.now.machine in
    let old : List Entry = g.M.Machine.front c.args.m.now.machine in
    let new : List Entry = g.M.Machine.front c.table_get.new.m in
    subst (λ (v : Version). GetsAt v z old new c.args.dst c.args.keeper c.args.key c.table_get.result) (sym c.in-One.is)
    (λ root chains held x. table_get_answers z old new root chains x c.args.dst c.requires.few.0 (label_of (held_in z old c.args.key)) c.table_get.result (c.table_get.ensures.answer root chains held x.table))

pub returns-in-Two-clause-refused : goal.returns-in-Two-clause-refused
returns-in-Two-clause-refused g c =
    let z : Sizes = g.M.Machine.sizes c.args.m.now.machine in
    let old : List Entry = g.M.Machine.front c.args.m.now.machine in
    let new : List Entry = g.M.Machine.front c.list_get.new.m.machine in
    let x : HoldsKeeper Two z old c.args.keeper = subst (λ (v : Version). HoldsKeeper v z old c.args.keeper) c.in-Two.is c.requires.keeper in
    let none : full_of c.list_get.result ≡ 0 = get_unrefused z old new x.root c.args.dst (label_of (held_in z old c.args.key)) c.list_get.result (c.list_get.ensures.answer x.root x.held (listed z old x.root x.keeper)) in
    let given = c.list_get.ensures.reads.given in
    omega (arith, given, none)

pub returns-in-Two-clause-answer : goal.returns-in-Two-clause-answer
returns-in-Two-clause-answer g c =
    let z : Sizes = g.M.Machine.sizes c.args.m.now.machine in
    let old : List Entry = g.M.Machine.front c.args.m.now.machine in
    let new : List Entry = g.M.Machine.front c.list_get.new.m.machine in
    subst (λ (v : Version). GetsAt v z old new c.args.dst c.args.keeper c.args.key c.list_get.result) (sym c.in-Two.is)
    (λ root shape held x. map_get_answers z old new root shape c.args.dst (label_of (held_in z old c.args.key)) c.list_get.result (c.list_get.ensures.answer root held (listed z old root x)))
