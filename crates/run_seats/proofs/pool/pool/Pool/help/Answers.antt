use Rattle.std.proofs.Common.{ap, refl}
use Rattle.run_seats.proofs.pool.pool.Pool.help.Goals as goal

pub give-requires-clause-taken : goal.give-requires-clause-taken
give-requires-clause-taken g c = record { old = c.in-Some.found; turns = ap (λ v. v.turns) c.in-Some.ensures.took.0; number = refl; stamp = refl; follows_it = c.attend-went.ensures.follows; was = c.in-Some.ensures.took.2; is = c.attend-went.ensures.here }
