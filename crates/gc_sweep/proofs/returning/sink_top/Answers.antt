use Rattle.std.proofs.Common.{◌≡◌, ◌∙◌, ℕ, ◌+◌, ◌-◌, ◌<◌, arith}
use Rattle.heap_rule.specs.declared.view.DomainView.{DomainView}
use Rattle.gc_sweep.proofs.Returns.{sunk_returns, sunk_twice, top_sinks, top_view}
use Rattle.gc_sweep.proofs.returning.sink_top.Goals as goal

pub loop-passed-preserved : goal.loop-passed-preserved
loop-passed-preserved c =
    let v : DomainView = c.loop-passed.dom.view in
    let y : DomainView = c.top_load-word.new.dom.view in
    let top : ℕ = c.swept-top.result.top in
    let passed : ℕ = c.loop-passed.passed in
    let pool : ℕ = top - 1 - passed in
    let view = top_view pool c.top_load-word.result c.number.result v y c.top_load-word.ensures.told in record {
      here = c.top_load-word.ensures.here;
      returns = sunk_returns c.args.heap.now.config v y view c.loop-passed.invariant.returns;
      view = sunk_twice c.args.dom.now.view v y c.loop-passed.invariant.view view;
      top = top_sinks pool c.top_load-word.result c.number.result v y c.top_load-word.ensures.told c.number.ensures.value c.in-None.ensures ∙ (let less : passed < top = c.loop-passed-test.true in let same : top - 1 - passed ≡ top - (passed + 1) = omega arith in same);
    }
