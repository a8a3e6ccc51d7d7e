use Rattle.std.proofs.Common.{◌+◌, arith}
use Rattle.std.proofs.lemmas.Grind.{common_steps}
use Rattle.gc_mark.proofs.hints.Hints.make.Goals as goal

pub loop-number-preserved : goal.loop-number-preserved
loop-number-preserved c = (
  grind (arith, common_steps),
  (λ k d below. grind (arith, common_steps, c.loop-number.invariant.1 k d)),
  omega arith,
  omega arith,
  (λ k d below. grind (arith, common_steps, c.loop-number.invariant.4 (k + 1) d)),
  (λ k d below. grind (arith, common_steps, c.loop-number.invariant.5 (k + 1) d)),
)
