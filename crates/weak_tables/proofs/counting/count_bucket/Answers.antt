use Rattle.std.proofs.Common.{◌≡◌, ◌∙◌, ◌+◌, ◌≤◌, sym, subst, List, ℕ, true, false, arith, rules, length}
use Rattle.model_core.specs.declared.entry.Entry.{Entry}
use Rattle.model_core.specs.declared.state.Sizes.{Sizes}
use Rattle.weak_laws.specs.Tables.Structures.{bindings}
use Rattle.weak_laws.specs.Tables.Stages.{graph_of}
use Rattle.weak_tables.specs.Commands.{one_of}
use Rattle.weak_tables.specs.Walks.{Counting}
use Rattle.weak_laws.proofs.OfTables.SizeLemmas.{bindings_counted}
use Rattle.weak_tables.proofs.FrameLemmas.{passes_on}
use Rattle.weak_tables.proofs.CellCounts.{never_all}
use Rattle.weak_tables.proofs.TakeLemmas.{at_sizes}
use Rattle.weak_tables.proofs.CountingLemmas.{counting_begins, counting_ends, counting_fits, counting_round}
use Rattle.weak_tables.proofs.counting.count_bucket.Goals as goal

pub cells-init : goal.cells-init
cells-init g c =
    let z : Sizes = g.M.Machine.sizes c.args.m.now in
    let old : List Entry = g.M.Machine.front c.args.m.now in record {
      passes = c.load-at.ensures.passes;
      counting = λ root chains held table. counting_begins z c.shows_legal.ensures.limits root chains c.args.table c.args.index c.requires.few.0 old _ _ c.shows_legal.ensures.legal c.requires.few.1 held table c.load-at.ensures.performed;
    }

pub overflow_add-count : goal.overflow_add-count
overflow_add-count g c =
    let z : Sizes = g.M.Machine.sizes c.args.m.now in
    let old : List Entry = g.M.Machine.front c.args.m.now in
    let s1 : g.M.Machine.sizes c.load-ephe.new.m ≡ z = c.load-ephe.ensures.passes.keeps.sizes ∙ c.cells.invariant.passes.keeps.sizes in
    let t = c.requires.table in
    let fits : c.cells.count + one_of c.perform_between-full.result ≤ length (bindings (graph_of z old) t.chains) =
    counting_fits z c.shows_legal.ensures.limits t.root t.chains c.args.table c.args.index c.requires.few.0 old t.table (g.M.Machine.front c.cells.m) _ _ c.cells.at _ _ c.cells.count _ (c.cells.invariant.counting t.root t.chains t.held t.table)
    (c.is_block.ensures.0 c.if-not-is_block.false) (at_sizes z _ _ _ _ _ c.cells.invariant.passes.keeps.sizes c.load-ephe.ensures.performed) (at_sizes z _ _ _ _ _ s1 c.perform_between-full.ensures.performed) in
    let most = bindings_counted z old t.root t.chains c.shows_legal.ensures.alone c.shows_legal.ensures.legal t.table in
    let labels = c.shows_legal.ensures.labels in
    let one : c.one-count.result ≡ one_of c.perform_between-full.result = c.one-count.ensures.one in
    omega (arith, fits, most, labels, one)

pub cells-preserved : goal.cells-preserved
cells-preserved g c =
    let z : Sizes = g.M.Machine.sizes c.args.m.now in
    let old : List Entry = g.M.Machine.front c.args.m.now in
    let s1 : g.M.Machine.sizes c.load-ephe.new.m ≡ z = c.load-ephe.ensures.passes.keeps.sizes ∙ c.cells.invariant.passes.keeps.sizes in
    let s2 : g.M.Machine.sizes c.perform_between-full.new.m ≡ z = c.perform_between-full.ensures.passes.keeps.sizes ∙ s1 in record {
      passes = passes_on c.cells.invariant.passes (passes_on c.load-ephe.ensures.passes (passes_on c.perform_between-full.ensures.passes c.load-at-in-cells.ensures.passes));
      counting = λ root chains held table.
          subst (λ (n : ℕ). Counting z old (g.M.Machine.front c.load-at-in-cells.new.m) root chains c.args.index c.load-at-in-cells.result (c.cells.count + n) (c.cells.counter + 1)) (sym c.one-count.ensures.one)
          (counting_round z c.shows_legal.ensures.limits root chains c.args.table c.args.index c.requires.few.0 old table (g.M.Machine.front c.cells.m) _ _ c.cells.at _ _ c.cells.count _ (c.cells.invariant.counting root chains held table)
          (c.is_block.ensures.0 c.if-not-is_block.false) (at_sizes z _ _ _ _ _ c.cells.invariant.passes.keeps.sizes c.load-ephe.ensures.performed) (at_sizes z _ _ _ _ _ s1 c.perform_between-full.ensures.performed) _ _
          (at_sizes z _ _ _ _ _ s2 c.load-at-in-cells.ensures.performed));
    }

pub returns-then-not-is_block-clause-counted : goal.returns-then-not-is_block-clause-counted
returns-then-not-is_block-clause-counted g c =
    let z : Sizes = g.M.Machine.sizes c.args.m.now in
    let old : List Entry = g.M.Machine.front c.args.m.now in
    λ root chains held table. counting_ends z c.shows_legal.ensures.limits root chains c.args.table c.args.index c.requires.few.0 old _ c.cells.at c.cells.count _ (c.cells.invariant.counting root chains held table)
    (λ is. let clash : true ≡ false = sym (c.is_block.ensures.1 is) ∙ c.if-not-is_block.true in cc)

pub unreachable-requires : goal.unreachable-requires
unreachable-requires g c =
    let t = c.requires.table in
    let x = c.cells.invariant.counting t.root t.chains t.held t.table in
    never_all (g.M.Machine.sizes c.args.m.now) (g.M.Machine.front c.args.m.now) t.root t.chains _ x.done x.rest c.shows_legal.ensures.alone c.shows_legal.ensures.legal t.table x.walking.split _ _ x.passed_is (search rules) c.shows_legal.ensures.labels
