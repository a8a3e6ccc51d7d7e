use Rattle.std.proofs.Common.{◌≡◌, ◌+◌, ◌<◌, ◌≤◌, sym, subst, List, ℕ, arith, length, add-one}
use Rattle.model_core.specs.declared.entry.Entry.{Entry}
use Rattle.model_core.specs.declared.state.Sizes.{Sizes}
use Rattle.weak_laws.specs.Tables.Structures.{bindings}
use Rattle.weak_laws.specs.Tables.Stages.{graph_of}
use Rattle.weak_tables.specs.Held.{HoldsTable}
use Rattle.weak_tables.specs.Walks.{CountedTo}
use Rattle.weak_tables.proofs.FrameLemmas.{passes_all, passes_on}
use Rattle.weak_tables.proofs.TakeLemmas.{cleared_sizes}
use Rattle.weak_tables.proofs.CountingLemmas.{counted_here, counted_none, counted_next, counted_fits, counted_all, counted_holds}
use Rattle.weak_laws.proofs.OfTables.SizeLemmas.{bindings_counted}
use Rattle.weak_tables.proofs.counting.table_count.Goals as goal

pub buckets-init : goal.buckets-init
buckets-init g c = record { passes = passes_all c.args.m.now; counted = λ root chains held table. counted_none (g.M.Machine.sizes c.args.m.now) c.shows_legal.ensures.limits root chains (g.M.Machine.front c.args.m.now) c.shows_legal.ensures.legal table }

pub count_bucket-count-requires-clause-table : goal.count_bucket-count-requires-clause-table
count_bucket-count-requires-clause-table g c =
    let z : Sizes = g.M.Machine.sizes c.args.m.now in
    let old : List Entry = g.M.Machine.front c.args.m.now in
    let t = c.requires.table in
    subst (λ (y : Sizes). HoldsTable y (g.M.Machine.front c.buckets.m) c.args.table) (sym c.buckets.invariant.passes.keeps.sizes) (counted_holds z old _ t.root t.chains c.args.table c.buckets.index c.buckets.count c.requires.few t.held (c.buckets.invariant.counted t.root t.chains t.held t.table))

pub overflow_add-count : goal.overflow_add-count
overflow_add-count g c =
    let z : Sizes = g.M.Machine.sizes c.args.m.now in
    let old : List Entry = g.M.Machine.front c.args.m.now in
    let f : List Entry = g.M.Machine.front c.buckets.m in
    let t = c.requires.table in
    let x : CountedTo z old f t.root t.chains c.buckets.index c.buckets.count = c.buckets.invariant.counted t.root t.chains t.held t.table in
    let y = counted_here z _ old f _ t.root t.chains c.args.table c.buckets.index c.buckets.count _ c.buckets.invariant.passes.keeps.sizes c.requires.few t.held x c.count_bucket-count.ensures.counted in
    let most = bindings_counted z old t.root t.chains c.shows_legal.ensures.alone c.shows_legal.ensures.legal t.table in
    let labels = c.shows_legal.ensures.labels in
    let below : c.buckets.index < 64 = omega arith in
    let fits : c.buckets.count + c.count_bucket-count.result ≤ length (bindings (graph_of z old) t.chains) = counted_fits z c.shows_legal.ensures.limits t.root t.chains old t.table f _ c.buckets.index c.buckets.count c.count_bucket-count.result below x y in
    omega (arith, fits, most, labels)

pub buckets-preserved : goal.buckets-preserved
buckets-preserved g c =
    let z : Sizes = g.M.Machine.sizes c.args.m.now in
    let old : List Entry = g.M.Machine.front c.args.m.now in
    let f : List Entry = g.M.Machine.front c.buckets.m in
    let below : c.buckets.index < 64 = omega arith in record {
      passes = passes_on c.buckets.invariant.passes c.count_bucket-count.ensures.passes;
      counted = λ root chains held table.
          let x : CountedTo z old f root chains c.buckets.index c.buckets.count = c.buckets.invariant.counted root chains held table in
          let y = counted_here z _ old f _ root chains c.args.table c.buckets.index c.buckets.count _ c.buckets.invariant.passes.keeps.sizes c.requires.few held x c.count_bucket-count.ensures.counted in
          subst (λ (k : ℕ). CountedTo z old (g.M.Machine.front c.count_bucket-count.new.m) root chains k (c.buckets.count + c.count_bucket-count.result)) (sym (add-one c.buckets.index))
          (counted_next z c.shows_legal.ensures.limits root chains old table f _ c.buckets.index c.buckets.count c.count_bucket-count.result below x y);
    }

pub returns-clause-counts : goal.returns-clause-counts
returns-clause-counts g c =
    let z : Sizes = g.M.Machine.sizes c.args.m.now in
    let old : List Entry = g.M.Machine.front c.args.m.now in
    let ends : c.buckets.index ≡ 64 = omega arith in
    λ root chains held table.
    counted_all z c.shows_legal.ensures.limits root chains old table (g.M.Machine.front c.buckets.m) _ c.buckets.count
    (subst (λ (k : ℕ). CountedTo z old (g.M.Machine.front c.buckets.m) root chains k c.buckets.count) ends (c.buckets.invariant.counted root chains held table))
    (cleared_sizes z _ _ _ c.buckets.invariant.passes.keeps.sizes c.clear.ensures.cleared)
