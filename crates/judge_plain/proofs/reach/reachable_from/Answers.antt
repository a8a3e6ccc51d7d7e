use Rattle.std.proofs.Common.{◌≡◌, ◌≤◌, rules, List, [], length, fold, add-one, arith, sym, ap, ◌∙◌}
use Rattle.model_core.specs.declared.label.Label.{Label}
use Rattle.model_core.specs.Reach.{with_label, grow, grow_rounds, reachable}
use Rattle.model_core.proofs.Reach.ReachLemmas.{grow_rounds-suc}
use Rattle.judge_plain.proofs.RoundLemmas.{grow_stays, rounds_stay}
use Rattle.judge_plain.proofs.reach.reachable_from.Goals as goal

pub loop-i-preserved : goal.loop-i-preserved
loop-i-preserved c =
    let start : List Label = fold with_label [] c.args.roots.now.items in
    rw add-one (c.in_ok-grow_once.ensures ∙ ap (grow c.args.graph.now) c.loop-i.invariant ∙ sym (grow_rounds-suc c.loop-i._i c.args.graph.now start))

pub returns : goal.returns
unfolding reachable
returns c =
    let start : List Label = fold with_label [] c.args.roots.now.items in
    let list : length c.graph.inside.items.items ≡ length c.args.graph.now = ap length c.graph.view_is in
    let all : c.loop-i._i ≡ length c.args.graph.now = omega (arith, c.graph.inside.items.ok.0) in
    c.loop-i.invariant ∙ ap (λ n. grow_rounds n c.args.graph.now start) all

pub returns-then-len-before : goal.returns-then-len-before
unfolding reachable
returns-then-len-before c =
    let g = c.args.graph.now in
    let start : List Label = fold with_label [] c.args.roots.now.items in
    let before : List Label = grow_rounds c.loop-i._i g start in
    let grown : c.grow_once.new.live.items ≡ grow g before = c.in_ok-grow_once.ensures ∙ ap (grow g) c.loop-i.invariant in
    let long : length (grow g before) ≡ length before = sym (ap length grown) ∙ search rules ∙ ap length c.loop-i.invariant in
    let same : grow g before ≡ before = grow_stays g before long in
    let list : length c.graph.inside.items.items ≡ length g = ap length c.graph.view_is in
    let few : c.loop-i._i ≤ length g = omega (arith, c.graph.inside.items.ok.0) in
    grown ∙ same ∙ sym (rounds_stay c.loop-i._i (length g) g start few same)
