use Rattle.std.proofs.Common.{◌≡◌}
use Rattle.weak_maps.specs.Puts.{rest_of}
use Rattle.weak_maps.proofs.digits.rest_below.Given as goal

abbrev pub invariant-levels : goal.invariant-levels
invariant-levels l = record {
  rest : l.rest ≡ rest_of l.number l.counter;
}
