-- The size of the least class that has room.
use Rattle.std.proofs.Common.{◌≡◌, ℕ, zero, suc, ◌<◌, ◌≤◌, cond, nat_le, List, [], ◌∷◌, get_or, ◌∙◌, arith}
use Rattle.std.proofs.lemmas.Bool.Decides.{nat_tests}
use Rattle.heap_words.specs.Classes.Table.{IsLeastFor}
use Rattle.heap_rule.specs.Places.{least_size}

first_fits : (size words rest : ℕ) → words ≤ size → size ≡ cond (nat_le words size) size rest
first_fits size words rest h = grind (arith, nat_tests)

first_small : (size words rest : ℕ) → size < words → rest ≡ cond (nat_le words size) size rest
first_small size words rest h = grind (arith, nat_tests)

pub least_is : (sizes : List ℕ) (words k : ℕ) → IsLeastFor sizes words k → get_or sizes k 0 ≡ least_size sizes words
least_is [] words k is = absurd (let h = is.inside in omega arith)
least_is (size ∷ sizes) words zero is = first_fits size words (least_size sizes words) is.fits
least_is (size ∷ sizes) words (suc k) is =
    least_is sizes words k record { inside = (let h = is.inside in omega arith); fits = is.fits; least = λ j h. is.least (suc j) (omega arith) }
    ∙ first_small size words (least_size sizes words) (is.least 0 (omega arith))
