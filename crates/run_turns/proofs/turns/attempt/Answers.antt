use Rattle.run_turns.specs.Runs.CalmDid.{Tries}
use Rattle.run_turns.proofs.turns.attempt.Goals as goal

pub returns-in_default-try_next : goal.returns-in_default-try_next
returns-in_default-try_next c = record { here = c.try_next.ensures.here; did = Tries _ c.in_default.not-Poll c.in_default-try_next.ensures.answer }
