use Rattle.std.proofs.Common.{◌∙◌, sym, subst, List, Some, None}
use Rattle.model_core.specs.declared.entry.Entry.{Entry}
use Rattle.model_core.specs.declared.state.Sizes.{Sizes}
use Rattle.weak_tables.specs.declared.find.Find.TheVariants.{Key, Spare, Nowhere}
use Rattle.weak_tables.specs.Held.{HoldsTable}
use Rattle.weak_tables.specs.Walks.{GrownAt, Searched}
use Rattle.weak_tables.proofs.SearchLemmas.{below_eight}
use Rattle.weak_tables.proofs.PutLemmas.{missed_holds, placed_after, ready_found}
use Rattle.weak_tables.proofs.putting.place.Goals as goal

pub returns-in-Key-clause-placed : goal.returns-in-Key-clause-placed
returns-in-Key-clause-placed g c =
    let z : Sizes = g.M.Machine.sizes c.args.m.now in
    let old : List Entry = g.M.Machine.front c.args.m.now in
    let s : Searched z old (g.M.Machine.front c.search.new.m) c.args.table c.args.label.now Key = subst (λ f. Searched z old (g.M.Machine.front c.search.new.m) c.args.table c.args.label.now f) c.in-Key.is c.search.ensures.searched in
    λ root chains held table. ready_found z old _ root chains c.args.label.now (Some c.args.label.now) _ (s root chains held table)

pub returns-in-Spare-clause-placed : goal.returns-in-Spare-clause-placed
returns-in-Spare-clause-placed g c =
    let z : Sizes = g.M.Machine.sizes c.args.m.now in
    let old : List Entry = g.M.Machine.front c.args.m.now in
    let s : Searched z old (g.M.Machine.front c.search.new.m) c.args.table c.args.label.now Spare = subst (λ f. Searched z old (g.M.Machine.front c.search.new.m) c.args.table c.args.label.now f) c.in-Spare.is c.search.ensures.searched in
    λ root chains held table. ready_found z old _ root chains c.args.label.now None _ (s root chains held table)

pub grow-requires-clause-table : goal.grow-requires-clause-table
grow-requires-clause-table g c =
    let z : Sizes = g.M.Machine.sizes c.args.m.now in
    let old : List Entry = g.M.Machine.front c.args.m.now in
    let s : Searched z old (g.M.Machine.front c.search.new.m) c.args.table c.args.label.now Nowhere = subst (λ f. Searched z old (g.M.Machine.front c.search.new.m) c.args.table c.args.label.now f) c.in-Nowhere.is c.search.ensures.searched in
    let t = c.requires.table in
    subst (λ (y : Sizes). HoldsTable y (g.M.Machine.front c.search.new.m) c.args.table) (sym c.search.ensures.passes.keeps.sizes)
    (missed_holds z old _ t.root t.chains c.args.label.now c.args.table c.requires.few.0 t.held (s t.root t.chains t.held t.table).0)

pub returns-in-Nowhere-clause-placed : goal.returns-in-Nowhere-clause-placed
returns-in-Nowhere-clause-placed g c =
    let z : Sizes = g.M.Machine.sizes c.args.m.now in
    let old : List Entry = g.M.Machine.front c.args.m.now in
    let f : List Entry = g.M.Machine.front c.search.new.m in
    let s : Searched z old f c.args.table c.args.label.now Nowhere = subst (λ x. Searched z old f c.args.table c.args.label.now x) c.in-Nowhere.is c.search.ensures.searched in
    let grown : GrownAt z f (g.M.Machine.front c.grow.new.m) c.args.table c.args.label.now c.grow.result = subst (λ (y : Sizes). GrownAt y f (g.M.Machine.front c.grow.new.m) c.args.table c.args.label.now c.grow.result) c.search.ensures.passes.keeps.sizes c.grow.ensures.placed in
    λ root chains held table.
    let m = s root chains held table in
    placed_after z old f _ root chains c.args.label.now _ c.grow.result m.0 (grown root chains (below_eight z old f c.args.table c.requires.few.0 m.0.keeps ∙ held) m.0.reads.table m.0.none _ m.1)
