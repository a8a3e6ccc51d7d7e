use Rattle.std.proofs.Common.{◌≡◌, ◌∙◌, ℕ, suc, ◌+◌, ◌/◌, refl, ap, arith}
use Rattle.weak_laws.specs.Maps.Tries.{node_width}
use Rattle.weak_maps.specs.Puts.{rest_of}
use Rattle.weak_maps.proofs.digits.rest_below.Goals as goal

pub levels-init : goal.levels-init
levels-init c = record { rest = refl }

pub levels-preserved : goal.levels-preserved
levels-preserved c =
    let one_more : suc c.levels.counter ≡ c.levels.counter + 1 = omega arith in
    record { rest = ap (λ (n : ℕ). n / node_width) c.levels.invariant.rest ∙ ap (rest_of c.args.number) one_more }
