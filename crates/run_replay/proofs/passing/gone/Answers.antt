use Rattle.std.proofs.Common.{◌≡◌, ◌≢◌, ⊎_elim, arith, rules, sym, subst}
use Rattle.std.proofs.lemmas.Bool.{cases_eq}
use Rattle.run_replay.specs.Gathered.{GoneAt}
use Rattle.run_replay.specs.Moves.{IsSooner}
use Rattle.run_replay.proofs.InStep.{sooner_twice}
use Rattle.run_replay.proofs.passing.gone.Goals as goal

pub others-init : goal.others-init
others-init c = (c.first_gone-at.ensures.inside, c.first_gone-at.ensures.gone, λ d below gone. absurd (omega (arith, below)))

pub others-preserved : goal.others-preserved
others-preserved c =
    let i = c.others.invariant in
    let here = c.requires.filled c.others.at i.0 in (
      c.sooner-at.ensures.inside,
      c.sooner-at.ensures.gone,
      λ d below gone. ⊎_elim
          (λ (same : d ≡ c.others.other). subst (IsSooner c.args.runs.now c.sooner-at.result) (sym same) (c.sooner-at.ensures.second (subst (GoneAt c.args.runs.now) same gone)))
          (λ (other : d ≢ c.others.other). sooner_twice c.args.runs.now c.sooner-at.result c.others.at d here.0 here.1 c.sooner-at.ensures.first (i.2 d (omega (arith, below, other)) gone))
          (cases_eq d c.others.other),
    )

pub returns-clause-least : goal.returns-clause-least
returns-clause-least c = λ d below gone. c.others.invariant.2 d (search (rules, below)) gone
