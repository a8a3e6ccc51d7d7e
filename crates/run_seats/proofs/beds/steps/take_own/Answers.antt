use Rattle.std.proofs.Common.{subst}
use Rattle.crossbeam_queue.specs.Passes.{view}
use Rattle.run_seats.specs.Beds.Bedding.{KeepsGuest}
use Rattle.run_seats.proofs.beds.steps.take_own.Goals as goal

pub returns-in-Err-Some-clause-guest : goal.returns-in-Err-Some-clause-guest
returns-in-Err-Some-clause-guest g c = subst (KeepsGuest g.T.Restful.follows (view c.look.new.pass)) c.in-Err-Some.field-0-is c.in-Err-Some.ensures.guest
