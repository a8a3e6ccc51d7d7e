use Rattle.std.proofs.Common.{refl, ap, sym, ◌∙◌}
use Rattle.run_seats.specs.Shared.Idling.{still_idle, stays_on}
use Rattle.run_seats.proofs.performing.attend_calls.Goals as goal

pub turns-init : goal.turns-init
turns-init g c = (c.requires.idle, still_idle _, refl, (c.requires.pool ∙ sym (ap (λ p. p.now) c.new-along.ensures), c.requires.keeps))

pub behind_turn-requires : goal.behind_turn-requires
behind_turn-requires g c = record { fits = c.before_turn.ensures.fits c.args.heap.now c.turns.keeper c.turns.invariant.3 }

pub turns-preserved : goal.turns-preserved
turns-preserved g c = (c.attend-came.ensures.here, stays_on _ _ _ c.turns.invariant.1 c.attend-came.ensures.stays, c.behind_turn.ensures.same ∙ c.turns.invariant.2, c.behind_turn.ensures.fits)

pub returns-then-eq-clause-stays : goal.returns-then-eq-clause-stays
returns-then-eq-clause-stays g c = stays_on _ _ _ c.turns.invariant.1 c.attend-came.ensures.stays
