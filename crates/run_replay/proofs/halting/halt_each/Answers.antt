use Rattle.std.proofs.Common.{◌∙◌, arith, sym}
use Rattle.run_replay.proofs.LevelLemmas.{halt_next, halts_here}
use Rattle.run_replay.proofs.halting.halt_each.Goals as goal

pub halt_at-requires-clause-here : goal.halt_at-requires-clause-here
halt_at-requires-clause-here c = let i = c.all.invariant in halts_here c.args.heap.now c.args.runs.now c.all.runs c.all.at c.requires.here i.3

pub all-preserved : goal.all-preserved
all-preserved c = let i = c.all.invariant in (i.0, omega (arith, c.all-test.true), i.2, halt_next c.args.heap.now c.args.runs.now c.all.runs c.halt_at.new.runs c.all.at i.3 c.halt_at.ensures.halts, i.4, i.5)

pub halt_at-requires-clause-few : goal.halt_at-requires-clause-few
halt_at-requires-clause-few c = let i = c.all.invariant in λ r there. i.5 c.all.at r (sym (i.3.others c.all.at (λ less. omega (arith, less))) ∙ there)
