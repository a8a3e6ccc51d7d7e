use Rattle.std.proofs.Common.{true≢false, ◌≡◌, ◌≢◌, ◌∙◌, None, arith, subst, sym}
use Rattle.gc_pause.specs.declared.phases.decider.Decider.{Decider}
use Rattle.run_alone.specs.Lone.{PassesAlone}
use Rattle.run_alone.proofs.Walking.{comes_nearer, goes_on}
use Rattle.run_alone.proofs.pausing.pause.Goals as goal

pub passes-smaller : goal.passes-smaller
passes-smaller c =
    let i = c.passes.invariant in
    let gone : c.passes.run.left ≢ None = λ none. true≢false (sym (c.running.ensures.value.1 none) ∙ c.if-running.false) in
    let same : c.passes.run.next ≡ c.args.run.next = (let no = c.if-next.false in let now = c.next.ensures.next in let was = c.next-next.ensures.next in omega (arith, no, now, was)) in
    comes_nearer c.args.heap.now c.args.complete c.args.run c.passes.run c.pass_alone-run.result i.0 gone same c.pass_alone-run.ensures.here c.shows_faithful.ensures (subst (λ (d : Decider). PassesAlone c.args.heap.now d c.passes.run c.pass_alone-run.result) i.2 c.pass_alone-run.ensures.passed)

pub passes-preserved : goal.passes-preserved
passes-preserved c =
    let i = c.passes.invariant in
    let gone : c.passes.run.left ≢ None = λ none. true≢false (sym (c.running.ensures.value.1 none) ∙ c.if-running.false) in
    let same : c.passes.run.next ≡ c.args.run.next = (let no = c.if-next.false in let now = c.next.ensures.next in let was = c.next-next.ensures.next in omega (arith, no, now, was)) in (
      goes_on c.args.heap.now c.args.complete c.args.run c.passes.run c.pass_alone-run.result i.0 gone same c.pass_alone-run.ensures.here c.shows_faithful.ensures (subst (λ (d : Decider). PassesAlone c.args.heap.now d c.passes.run c.pass_alone-run.result) i.2 c.pass_alone-run.ensures.passed),
      i.1,
      i.2,
      c.pass_alone-run.ensures.room.0,
      c.pass_alone-run.ensures.room.1 ∙ i.4,
    )
