-- A clipped number is in a range where the number is.
use Rattle.text_script.specs.declared.version.Version.{Version}
use Rattle.text_script.specs.declared.version.Version.TheVariants.{One, Two, Three}
use Rattle.std.proofs.Common.{◌≡◌, ℕ, ◌+◌, ◌-◌, min, ℤ, pos, negsuc, List, [], ◌∷◌, map, length, Bool, true, false, cond, refl, ap, ◌∙◌, arith, None, Some}
use Rattle.std.specs.Prelude.{Option, ◌&&◌, int_le}
use Rattle.std.proofs.lemmas.Bool.Decides.{nat_tests}
use Rattle.std.proofs.lemmas.Int.{ints}
use Rattle.text_script.specs.declared.form.Operand.{Operand}
use Rattle.text_script.specs.declared.form.Operand.TheVariants.{Integer, Section}
use Rattle.text_script.specs.Number.{clipped}
use Rattle.text_script.specs.Forms.{fits, least, greatest}
use Rattle.text_script.specs.Faults.{first_out_of_range}

abbrev is_between : ℤ → ℤ → ℤ → Bool
is_between low high z = int_le low z && int_le z high

-- no range that clipping moves a number into or out of
clipped_between : (low high z : ℤ) → int_le (negsuc 9223372036854775800) low ≡ true → int_le high (pos 9223372036854775800) ≡ true → is_between low high (clipped z) ≡ is_between low high z
clipped_between low high (pos n) l h = grind (arith, ints, nat_tests)
clipped_between low high (negsuc n) l h = grind (arith, ints, nat_tests)

-- all ranges lie well within 64 bits
pub least_wide : (kind : Operand) → int_le (negsuc 9223372036854775800) (least kind) ≡ true
least_wide Integer = refl
least_wide _ = refl

section_wide : (domains : ℕ) → int_le (pos (min 7 (domains - 1))) (pos 9223372036854775800) ≡ true
section_wide domains = grind (arith, ints, nat_tests)

pub greatest_wide : (ver : Version) (domains : ℕ) (kind : Operand) → int_le (greatest ver domains kind) (pos 9223372036854775800) ≡ true
greatest_wide ver domains Section = section_wide domains
greatest_wide One domains Integer = refl
greatest_wide One domains _ = refl
greatest_wide Two domains Integer = refl
greatest_wide Two domains _ = refl
greatest_wide Three domains Integer = refl
greatest_wide Three domains _ = refl

pub fits-clipped : (ver : Version) (domains : ℕ) (kind : Operand) (z : ℤ) → fits ver domains kind (clipped z) ≡ fits ver domains kind z
fits-clipped ver domains kind z = clipped_between (least kind) (greatest ver domains kind) z (least_wide kind) (greatest_wide ver domains kind)

pub first_out_of_range-clipped : (ver : Version) (domains : ℕ) (which : ℕ) (kinds : List Operand) (zs : List ℤ) → first_out_of_range ver domains which kinds (map clipped zs) ≡ first_out_of_range ver domains which kinds zs
first_out_of_range-clipped ver domains which [] zs = refl
first_out_of_range-clipped ver domains which (kind ∷ kinds) [] = refl
first_out_of_range-clipped ver domains which (kind ∷ kinds) (z ∷ zs) =
    ap (λ b. cond b (first_out_of_range ver domains (which + 1) kinds (map clipped zs)) (Some which)) (fits-clipped ver domains kind z)
    ∙ ap (λ o. cond (fits ver domains kind z) o (Some which)) (first_out_of_range-clipped ver domains (which + 1) kinds zs)

-- a number in such a range is not clipped
between_kept : (low high z : ℤ) → int_le (negsuc 9223372036854775800) low ≡ true → int_le high (pos 9223372036854775800) ≡ true → is_between low high z ≡ true → clipped z ≡ z
between_kept low high (pos n) l h e = grind (arith, ints, nat_tests)
between_kept low high (negsuc n) l h e = grind (arith, ints, nat_tests)

pub clipped_kept : (ver : Version) (domains : ℕ) (kind : Operand) (z : ℤ) → fits ver domains kind z ≡ true → clipped z ≡ z
clipped_kept ver domains kind z e = between_kept (least kind) (greatest ver domains kind) z (least_wide kind) (greatest_wide ver domains kind) e

-- a test that let the walk go on
pub passed : (b : Bool) (o : Option ℕ) (which : ℕ) → cond b o (Some which) ≡ None → (b ≡ true) × (o ≡ None)
passed true o which e = (refl, e)
passed false o which e = cc

pub map-clipped_kept : (ver : Version) (domains : ℕ) (which : ℕ) (kinds : List Operand) (zs : List ℤ) → length zs ≡ length kinds → first_out_of_range ver domains which kinds zs ≡ None → map clipped zs ≡ zs
map-clipped_kept ver domains which kinds [] n e = refl
map-clipped_kept ver domains which [] (z ∷ zs) n e = absurd (omega arith)
map-clipped_kept ver domains which (kind ∷ kinds) (z ∷ zs) n e =
    let p = passed (fits ver domains kind z) (first_out_of_range ver domains (which + 1) kinds zs) which e in
    let head = clipped_kept ver domains kind z p.0 in
    let rest = map-clipped_kept ver domains (which + 1) kinds zs (omega arith) p.1 in
    cc
