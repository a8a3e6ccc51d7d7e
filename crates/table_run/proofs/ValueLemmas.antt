-- The value of a line is one that a word of 64 bits holds.
use Rattle.std.proofs.Common.{◌≡◌, ℕ, ◌<◌, ◌^◌, ℤ, pos, negsuc, neg_ℤ, ◌&&◌, true, int_le, arith, to_z, of_z, to_z-of_z, SFits, w64}
use Rattle.std.proofs.lemmas.Bool.{and_parts}
use Rattle.std.proofs.lemmas.Bool.Decides.{nat_tests}
use Rattle.std.proofs.lemmas.Int.{ints}
use Rattle.table_text.specs.declared.line.TableLine.TheVariants.{Put}
use Rattle.table_text.specs.Forms.{is_writable}

between : (v : ℤ) → int_le (neg_ℤ (pos 4611686018427387904)) v && int_le v (pos 4611686018427387903) ≡ true → SFits w64 v
between (pos n) e = record { sfits = (let small : n < 2 ^ 63 = grind (arith, ints, nat_tests) in small) }
between (negsuc n) e = record { sfits = (let small : n < 2 ^ 63 = grind (arith, ints, nat_tests) in small) }

pub value_held : (r : ℕ) (v : ℤ) → is_writable (Put r v) ≡ true → to_z w64 (of_z w64 v) ≡ v
value_held r v e = to_z-of_z (between v (and_parts _ _ (and_parts _ _ e).1).0)
