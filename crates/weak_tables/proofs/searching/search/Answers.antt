use Rattle.std.proofs.Common.{◌≡◌, ◌∙◌, sym, subst, List, ℕ, true, false, rules}
use Rattle.model_core.specs.declared.command.Command.TheVariants.{Load}
use Rattle.model_core.specs.declared.entry.Entry.{Entry}
use Rattle.model_core.specs.declared.state.Sizes.{Sizes}
use Rattle.weak_laws.specs.Tables.Performing.{Performed}
use Rattle.weak_tables.specs.declared.find.Find.{Find}
use Rattle.weak_tables.specs.Walks.{Searched}
use Rattle.weak_tables.proofs.SearchLemmas.{bucket_below, midst_begins, midst_found, midst_next, midst_passed}
use Rattle.weak_tables.proofs.FrameLemmas.{passes_on}
use Rattle.weak_tables.proofs.CellCounts.{never_all}
use Rattle.weak_tables.proofs.TakeLemmas.{at_sizes, kept_sizes}
use Rattle.weak_tables.proofs.searching.search.Goals as goal

pub cells-init : goal.cells-init
cells-init g c =
    let z : Sizes = g.M.Machine.sizes c.args.m.now in
    let old : List Entry = g.M.Machine.front c.args.m.now in
    let p = subst (λ (n : ℕ). Performed z old (g.M.Machine.front c.load-at.new.m) (Load 9 c.args.table n) c.load-at.result) c.bucket_of.ensures.bucket c.load-at.ensures.performed in
    record {
      passes = c.load-at.ensures.passes;
      midst = λ root chains held table. midst_begins z c.shows_legal.ensures.limits root chains c.args.label.now c.args.table c.args.key c.requires.few.0 c.requires.few.1 old table _ _ c.shows_legal.ensures.legal (bucket_below c.args.label.now.serial) held p;
    }

pub cells-preserved : goal.cells-preserved
cells-preserved g c =
    let z : Sizes = g.M.Machine.sizes c.args.m.now in
    let old : List Entry = g.M.Machine.front c.args.m.now in
    let s1 : g.M.Machine.sizes c.load-ephe.new.m ≡ z = c.load-ephe.ensures.passes.keeps.sizes ∙ c.cells.invariant.passes.keeps.sizes in
    let s2 : g.M.Machine.sizes c.perform_between-found.new.m ≡ z = c.perform_between-found.ensures.passes.keeps.sizes ∙ s1 in
    let s3 : g.M.Machine.sizes c.keep_spare-spare.new.m ≡ z = c.keep_spare-spare.ensures.passes.keeps.sizes ∙ s2 in
    let passes = passes_on c.cells.invariant.passes (passes_on c.load-ephe.ensures.passes (passes_on c.perform_between-found.ensures.passes (passes_on c.keep_spare-spare.ensures.passes c.load-at-in-cells.ensures.passes))) in record {
      passes = passes;
      midst = λ root chains held table.
          midst_next z c.shows_legal.ensures.limits root chains c.args.label.now c.args.table c.args.key c.requires.few.0 c.requires.few.1 old table (g.M.Machine.front c.cells.m) _ _ c.cells.at _ _ c.cells.spare _ (c.cells.invariant.midst root chains held table)
          (c.is_block.ensures.0 c.if-not-is_block.false) c.requires.key (at_sizes z _ _ _ _ _ c.cells.invariant.passes.keeps.sizes c.load-ephe.ensures.performed) (at_sizes z _ _ _ _ _ s1 c.perform_between-found.ensures.performed) _ _
          (kept_sizes z _ _ _ _ _ _ s2 c.keep_spare-spare.ensures.kept) (λ e. let clash : true ≡ false = sym (c.is_this.ensures.1 e) ∙ c.if-is_this.false in cc) _ _ (at_sizes z _ _ _ _ _ s3 c.load-at-in-cells.ensures.performed);
    }

pub returns-then-not-is_block-clause-searched : goal.returns-then-not-is_block-clause-searched
returns-then-not-is_block-clause-searched g c =
    let z : Sizes = g.M.Machine.sizes c.args.m.now in
    let old : List Entry = g.M.Machine.front c.args.m.now in
    subst (λ (f : Find). Searched z old (g.M.Machine.front c.cells.m) c.args.table c.args.label.now f) (sym c.after_all.ensures.met)
    (λ root chains held table. midst_passed z c.shows_legal.ensures.limits root chains c.args.label.now c.args.table c.args.key c.requires.few.0 c.requires.few.1 old table _ c.cells.at c.cells.spare _ (c.cells.invariant.midst root chains held table)
    (λ is. let clash : true ≡ false = sym (c.is_block.ensures.1 is) ∙ c.if-not-is_block.true in cc))

pub returns-then-is_this-clause-searched : goal.returns-then-is_this-clause-searched
returns-then-is_this-clause-searched g c =
    let z : Sizes = g.M.Machine.sizes c.args.m.now in
    let old : List Entry = g.M.Machine.front c.args.m.now in
    let s1 : g.M.Machine.sizes c.load-ephe.new.m ≡ z = c.load-ephe.ensures.passes.keeps.sizes ∙ c.cells.invariant.passes.keeps.sizes in
    let s2 : g.M.Machine.sizes c.perform_between-found.new.m ≡ z = c.perform_between-found.ensures.passes.keeps.sizes ∙ s1 in
    λ root chains held table.
    midst_found z c.shows_legal.ensures.limits root chains c.args.label.now c.args.table c.args.key c.requires.few.0 c.requires.few.1 old table (g.M.Machine.front c.cells.m) _ _ c.cells.at _ _ c.cells.spare _ (c.cells.invariant.midst root chains held table)
    (c.is_block.ensures.0 c.if-not-is_block.false) c.requires.key (at_sizes z _ _ _ _ _ c.cells.invariant.passes.keeps.sizes c.load-ephe.ensures.performed) (at_sizes z _ _ _ _ _ s1 c.perform_between-found.ensures.performed) _ _
    (at_sizes z _ _ _ _ _ s2 c.load-mine.ensures.performed) (c.is_this.ensures.0 c.if-is_this.true)

pub unreachable-requires : goal.unreachable-requires
unreachable-requires g c =
    let t = c.requires.table in
    let x = c.cells.invariant.midst t.root t.chains t.held t.table in
    never_all (g.M.Machine.sizes c.args.m.now) (g.M.Machine.front c.args.m.now) t.root t.chains _ x.done x.rest c.shows_legal.ensures.alone c.shows_legal.ensures.legal t.table x.searching.split _ _ x.passed_is (search rules) c.shows_legal.ensures.labels
