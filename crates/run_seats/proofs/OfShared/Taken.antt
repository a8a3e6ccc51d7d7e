-- A bed that isn't free.
use Rattle.std.proofs.Common.{◌≡◌, Bool, true, false, refl}
use Rattle.std.specs.Prelude.{Option, Some, None}

-- where something is told of none alone, and isn't told, there is one
pub rests_some : {A : Type 0} (o : Option A) (b : Bool) → (o ≡ None → b ≡ true) → b ≡ false → (y : A) × (o ≡ Some y)
rests_some None b told e = absurd (let t = told refl in let clash : false ≡ true = (let n = e in cc) in cc)
rests_some (Some y) b told e = (y, refl)
