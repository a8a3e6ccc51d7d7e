use Rattle.std.proofs.Common.{◌≢◌, ◌++◌, ◌∷◌, List, ℕ, drop, arith}
use Rattle.std.proofs.lemmas.List.{take_rest}
use Rattle.judge_outputs.specs.Input.{between}
use Rattle.judge_outputs.proofs.InputLemmas.{none_more, no_parts, parts_at}
use Rattle.judge_outputs.proofs.input.split_input.Goals as goal

pub loop-at-preserved : goal.loop-at-preserved
loop-at-preserved c =
    none_more (λ k. (more : List ℕ) → drop k c.args.bytes.now ≢ (10 ∷ between) ++ more) c.loop-at.at c.loop-at.invariant (rw (take_rest c.args.bytes.now c.loop-at.at) at c.in_default.ensures.none)

pub returns-in-Some-clause-parts : goal.returns-in-Some-clause-parts
returns-in-Some-clause-parts c =
    parts_at c.args.bytes.now c.in-Some.output.now c.loop-at.at c.loop-at-test.true (rw (take_rest c.args.bytes.now c.loop-at.at) at c.in-Some.ensures.some)

pub returns-clause-none : goal.returns-clause-none
returns-clause-none c = no_parts c.args.bytes.now c.loop-at.at (omega (arith, c.loop-at-test.false, c.loop-at.auto.at-end)) c.loop-at.invariant
