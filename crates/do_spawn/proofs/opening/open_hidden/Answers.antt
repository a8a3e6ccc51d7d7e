use Rattle.std.proofs.Common.{◌≡◌, ◌∙◌, ◌++◌, ◌+◌, ℕ, List, ap, length, slice_get, Some, subst, sym}
use Rattle.heap_rule.specs.Token.{Token}
use Rattle.do_spawn.specs.Opening.{Has, clearing, making, takings}
use Rattle.do_spawn.proofs.Leveling.{all_opened}
use Rattle.do_spawn.proofs.Opens.{counted, first_is, handed_none, met_none, others_are, prelude_counts, tokens_count}
use Rattle.do_spawn.proofs.opening.open_hidden.Goals as goal

pub make_hidden-requires-clause-starts : goal.make_hidden-requires-clause-starts
make_hidden-requires-clause-starts c = first_is c.args.heap.now c.args.domains.now.items c.remove-first.result c.config-limits.ensures.limits.some_domain c.requires.tokens c.remove-first.ensures.value

pub hand_over_each-first-requires-clause-begun : goal.hand_over_each-first-requires-clause-begun
hand_over_each-first-requires-clause-begun c =
    let o = others_are c.args.heap.now c.args.domains.now.items c.remove-first.new.self.items c.config-limits.ensures.limits.some_domain c.requires.tokens c.remove-first.ensures.items in
    handed_none c.args.heap.now c.make_hidden.new.first c.remove-first.new.self.items o.0 o.1 c.make_hidden.ensures.made

pub hand_over_each-first-requires-clause-count : goal.hand_over_each-first-requires-clause-count
hand_over_each-first-requires-clause-count c =
    let o = others_are c.args.heap.now c.args.domains.now.items c.remove-first.new.self.items c.config-limits.ensures.limits.some_domain c.requires.tokens c.remove-first.ensures.items in
    ap (λ (l : List Token). length l + 1) o.1 ∙ (ap (λ (n : ℕ). n + 1) (tokens_count c.args.heap.now 1 o.0) ∙ o.2)

pub meet_each-first-requires : goal.meet_each-first-requires
meet_each-first-requires c = record { begun = met_none c.args.heap.now c.hand_over_each-first.result c.clear_shared.new.first c.hand_over_each-first.new.others.items c.hand_over_each-first.ensures.handed c.clear_shared.ensures.cleared }

pub returns-clause-count : goal.returns-clause-count
returns-clause-count c =
    let o = others_are c.args.heap.now c.args.domains.now.items c.remove-first.new.self.items c.config-limits.ensures.limits.some_domain c.requires.tokens c.remove-first.ensures.items in
    counted c.args.heap.now c.remove-first.new.self.items c.hand_over_each-first.new.others.items c.meet_each-first.new.others.items c.insert.new.self.items c.meet_each-first.result o.0 o.1 o.2 c.hand_over_each-first.ensures.count c.meet_each-first.ensures.count c.in-Ok.ensures.items

pub returns-clause-opened : goal.returns-clause-opened
returns-clause-opened c =
    let h = c.args.heap.now in
    let o = others_are h c.args.domains.now.items c.remove-first.new.self.items c.config-limits.ensures.limits.some_domain c.requires.tokens c.remove-first.ensures.items in
    let p = prelude_counts h c.hand_over_each-first.result c.clear_shared.new.first c.hand_over_each-first.new.others.items c.hand_over_each-first.ensures.handed c.clear_shared.ensures.cleared in
    let same : length c.hand_over_each-first.new.others.items ≡ length c.meet_each-first.new.others.items = sym c.meet_each-first.ensures.count in
    let all = all_opened h c.clear_shared.new.first.view.seen.front c.meet_each-first.result c.meet_each-first.new.others.items c.meet_each-first.ensures.met
    (sym (ap (λ (n : ℕ). n + 1) (sym c.hand_over_each-first.ensures.count ∙ same)) ∙ (ap (λ (l : List Token). length l + 1) o.1 ∙ (ap (λ (n : ℕ). n + 1) (tokens_count h 1 o.0) ∙ o.2)))
    (subst (λ (n : ℕ). Has ((making ++ takings n) ++ clearing) c.clear_shared.new.first.view.seen.front) same p.0) p.1 c.clear_shared.ensures.cleared.began.legal in
    λ d t at. all d t (subst (λ (l : List Token). slice_get l d ≡ Some t) c.in-Ok.ensures.items at)
