use Rattle.std.proofs.Common.{◌≡◌, ℕ, ⊎_elim, subst, arith, rules}
use Rattle.std.proofs.lemmas.Bool.{cases_eq}
use Rattle.run_replay.specs.Gathered.{HasRun}
use Rattle.run_replay.proofs.SlotLemmas.{slot_at}
use Rattle.run_replay.proofs.passing.first_gone.Goals as goal

pub domains-preserved : goal.domains-preserved
domains-preserved c = λ d r below there.
    ⊎_elim
    (λ (same : d ≡ c.domains.at).
    c.has_gone.ensures.no c.if-has_gone.false r (slot_at c.args.runs.now c.domains.at r (subst (λ (k : ℕ). HasRun c.args.runs.now k r) same there) _ c.index-runs-at.is))
    (λ other. c.domains.invariant d r (omega (arith, below, other)) there)
    (cases_eq d c.domains.at)

pub returns-then-has_gone-clause-gone : goal.returns-then-has_gone-clause-gone
returns-then-has_gone-clause-gone c = λ r there. c.has_gone.ensures.yes c.if-has_gone.true r (slot_at c.args.runs.now c.domains.at r there _ c.index-runs-at.is)

pub unreachable-requires : goal.unreachable-requires
unreachable-requires c =
    let some = c.requires.some in
    let there = c.requires.filled some.0 some.1 in
    some.2 there.0 there.1 (c.domains.invariant some.0 there.0 (let below = some.1 in search (rules, below)) there.1)
