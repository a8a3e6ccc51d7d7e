use Rattle.std.proofs.Common.{◌≡◌, ◌∙◌, ap, subst, sym}
use Rattle.heap_rule.specs.Limits.{sizes_in}
use Rattle.run_turns.specs.Singly.Turning.{CameTo}
use Rattle.run_turns.specs.declared.singly.turning.Came.{Came}
use Rattle.run_turns.proofs.Adding.{turn_adds}
use Rattle.run_seats.specs.Shared.Sharing.{SharedView}
use Rattle.camlheap_c.specs.declared.handle.CamlheapDomain.{CamlheapDomain}
use Rattle.camlheap_c.specs.Exported.{TakesTurn, TellsCame}
use Rattle.camlheap_c.specs.Forms.{came_form}
use Rattle.camlheap_c.proofs.driving.camlheap_turn.Goals as goal

pub returns-clause-turn : goal.returns-clause-turn
returns-clause-turn c full =
    let lent : c.lend-run.result.now ≡ c.args.handle.now.value = c.lend-run.ensures.value ∙ ap (λ (h : CamlheapDomain). h.value) c.is_full.ensures.1 in
    let e = c.turn.ensures in
    subst (λ (v : SharedView). TakesTurn v c.turn.new.self) lent (record {
      heap = e.heap;
      stretch = e.stretch;
      goes_on = e.goes_on;
      ran = λ handed. turn_adds (sizes_in c.lend-run.result.now.heap.config) c.lend-run.result.now.run c.turn.new.self.run handed e.goes_on e.stretch;
    })

pub returns-clause-came : goal.returns-clause-came
returns-clause-came c full =
    let lent : c.lend-run.result.now ≡ c.args.handle.now.value = c.lend-run.ensures.value ∙ ap (λ (h : CamlheapDomain). h.value) c.is_full.ensures.1 in
    subst (λ (v : SharedView). TellsCame v.heap v.run c.turn.new.self.run c.turn_code.result) lent (record { came = c.turn.result; told_is = c.turn_code.ensures; comes = c.turn.ensures.came })

pub returns-clause-exact : goal.returns-clause-exact
returns-clause-exact c full came_to comes =
    let lent : c.lend-run.result.now ≡ c.args.handle.now.value = c.lend-run.ensures.value ∙ ap (λ (h : CamlheapDomain). h.value) c.is_full.ensures.1 in
    let same = c.turn.ensures.exact came_to (subst (λ (v : SharedView). CameTo v.heap v.run c.turn.new.self.run came_to) (sym lent) comes) in
    c.turn_code.ensures ∙ ap (λ (x : Came). came_form x) (sym same)
