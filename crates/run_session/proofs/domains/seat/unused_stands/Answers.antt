use Rattle.run_session.proofs.OfDomains.Seats.{unused}
use Rattle.run_session.proofs.domains.seat.unused_stands.Goals as goal

pub returns : goal.returns
returns c = record { stands = unused c.args.resting.now c.requires.unused }
