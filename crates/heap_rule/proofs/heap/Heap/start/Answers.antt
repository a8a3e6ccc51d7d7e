use Rattle.std.proofs.Common.{◌≡◌, ◌∙◌, [], arith, length, refl, sym, ap, subst, List, ℕ}
use Rattle.atomic_table.specs.Table.{opening}
use Rattle.model_core.specs.Domains.{IsWithinLimits}
use Rattle.heap_rule.specs.declared.config.Config.{Config}
use Rattle.heap_rule.specs.Layout.{before_heap, table_words}
use Rattle.heap_rule.specs.Limits.{sizes_in}
use Rattle.heap_rule.specs.Rule.{Rule}
use Rattle.heap_rule.specs.Views.{first_view}
use Rattle.heap_rule.proofs.Sizes.{within}
use Rattle.heap_rule.proofs.Starts.{starts}
use Rattle.heap_rule.proofs.heap.Heap.start.Goals as goal

pub of_words-requires : goal.of_words-requires
of_words-requires c =
    let limits = within c.args.config (sym c.in_default.ensures) in
    subst (λ (ws : List ℕ). Rule c.args.config (opening ws [] (first_view c.args.config))) (sym c.as_slice.ensures.value) (starts c.args.config limits c.in_ok-words.words.items c.in_ok-words.ensures)

pub invariant_of-heap-2 : goal.invariant_of-heap-2
invariant_of-heap-2 c =
    let made = c.in_ok-table.ensures in
    let limits = within c.args.config (sym c.in_default.ensures) in
    let words = made.0 ∙ (ap (λ (ws : List ℕ). length ws) c.as_slice.ensures.value ∙ c.in_ok-words.ensures.wide) in
    let before : c.index_of-before.result ≡ before_heap c.args.config = omega (arith, c.index_of-before.ensures) in
    subst (λ (k : Config). (c.in_ok-table.table.shared.table_id.words ≡ table_words k) × (c.args.config ≡ k) × (c.index_of-before.result ≡ before_heap k) × IsWithinLimits (sizes_in k)) (sym made.5) (words, refl, before, limits)
