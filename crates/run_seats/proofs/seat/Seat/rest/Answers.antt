use Rattle.run_seats.proofs.Seated.{resting_of, sits}
use Rattle.run_seats.proofs.seat.Seat.rest.Goals as goal

pub rest-requires-clause-pool : goal.rest-requires-clause-pool
rest-requires-clause-pool g c = (sits c.seats.inside.heap c.seats.inside.pool c.self.inside.run c.self.inside.keeper _ _ c.self.invariant c.self.view_is c.seats.view_is c.requires.here).in_pool

pub rest-requires-clause-here : goal.rest-requires-clause-here
rest-requires-clause-here g c = (sits c.seats.inside.heap c.seats.inside.pool c.self.inside.run c.self.inside.keeper _ _ c.self.invariant c.self.view_is c.seats.view_is c.requires.here).idle

pub rest-requires-clause-keeps : goal.rest-requires-clause-keeps
rest-requires-clause-keeps g c = (sits c.seats.inside.heap c.seats.inside.pool c.self.inside.run c.self.inside.keeper _ _ c.self.invariant c.self.view_is c.seats.view_is c.requires.here).keeps

pub invariant_of-result : goal.invariant_of-result
invariant_of-result g c = resting_of c.seats.inside.heap c.seats.inside.pool c.self.inside.run c.self.inside.keeper c.rest.new.keeper (sits c.seats.inside.heap c.seats.inside.pool c.self.inside.run c.self.inside.keeper _ _ c.self.invariant c.self.view_is c.seats.view_is c.requires.here) c.rest.ensures
