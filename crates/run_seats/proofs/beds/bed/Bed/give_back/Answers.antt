use Rattle.std.proofs.Common.{◌≡◌}
use Rattle.std.specs.Prelude.{Some}
use Rattle.run_seats.proofs.beds.bed.Bed.give_back.Goals as goal

pub give-requires-clause-taken : goal.give-requires-clause-taken
give-requires-clause-taken g c =
    let is : c.self.inside.guest ≡ Some c.in-Some.found = search in
    c.self.invariant.1.keeps c.in-Some.found is
