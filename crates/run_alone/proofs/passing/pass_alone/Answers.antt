use Rattle.run_alone.proofs.Alone.{passes_alone}
use Rattle.run_alone.proofs.passing.pass_alone.Goals as goal

pub returns-clause-passed : goal.returns-clause-passed
returns-clause-passed c = passes_alone c.args.heap.now c.args.decider c.args.run c.pass_among.result _ _ c.requires.here c.requires.is c.pass_among.ensures.passed
