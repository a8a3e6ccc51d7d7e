-- The laws of the table of lines, row by row.
use Rattle.std.proofs.Common.{◌≡◌, ◌⊎◌, inl, inr, ℕ, ◌+◌, ◌≤◌, ◌^◌, min, ℤ, pos, negsuc, List, [], ◌∷◌, length, Bool, true, false, cond, ◌&&◌, refl, ap, sym, ◌∙◌, arith, None, Some, map}
use Rattle.std.specs.Prelude.{Option, find, nat_lt, unsigned_abs, slice_index_or, bytes_eq, int_le}
use Rattle.std.proofs.lemmas.Bool.Decides.{nat_tests}
use Rattle.std.proofs.lemmas.Int.{ints}
use Rattle.std.proofs.lemmas.Slice.Eq.{bytes_eq-Decides}
use Rattle.std.proofs.lemmas.Bool.{and_parts}
use Rattle.text_script.specs.Number.{clipped}
use Rattle.text_script.proofs.DecimalLemmas.{is_free}
use Rattle.text_script.proofs.TextLemmas.{are_small}
use Rattle.table_text.specs.declared.line.TableLine.{TableLine}
use Rattle.table_text.specs.declared.line.TableLine.TheVariants.{Key, Forget, Put, Get, Del, SetWeak, GetWeak, Count, FullMajor}
use Rattle.table_text.specs.declared.word.Operand.{Operand}
use Rattle.table_text.specs.declared.word.Operand.TheVariants.{Register, Slot, Integer}
use Rattle.table_text.specs.declared.word.Word.{Word}
use Rattle.table_text.specs.declared.word.Word.TheVariants as word
use Rattle.table_text.specs.Forms.{form, fits, least, greatest, byte, word_of, all_words, made, parts, all_fit}
use Rattle.table_text.specs.Faults.{first_out_of_range}

-- neither a space nor a line feed stands in a word
pub word_without_space : (w : Word) → is_free 32 (form w).text ≡ true
word_without_space word.Key = refl
word_without_space _ = refl

pub word_without_line_feed : (w : Word) → is_free 10 (form w).text ≡ true
word_without_line_feed word.Key = refl
word_without_line_feed _ = refl

-- each word is found by its text
pub word_found : (w : Word) → word_of (form w).text ≡ Some w
word_found word.Key = refl
word_found _ = refl

chosen_first : (b : Bool) (v w : Word) (o : Option Word) → cond b (Some v) o ≡ Some w → ((b ≡ true) × (v ≡ w)) ⊎ (o ≡ Some w)
chosen_first true v w o e = inl (refl, cc)
chosen_first false v w o e = inr e

found_passes : (test : Word → Bool) (ws : List Word) (w : Word) → find test ws ≡ Some w → test w ≡ true
found_passes test [] w e = cc
found_passes test (v ∷ ws) w e =
    elim (chosen_first (test v) v w (find test ws) e) [ inl p ↦ ap test (sym p.1) ∙ p.0 | inr q ↦ found_passes test ws w q ]

-- a text by which a word was found is the word's
pub word_read : (text : List ℕ) (w : Word) → word_of text ≡ Some w → text ≡ (form w).text
word_read text w e = sym ((bytes_eq-Decides (form w).text text).0 (found_passes (λ v. bytes_eq (form v).text text) all_words w e))

-- a line has a number for each operand of its row
pub parts_counted : (l : TableLine) → length (parts l).numbers ≡ length (form (parts l).word).operands
parts_counted (Put reg value) = refl
parts_counted _ = refl

-- the line of a row and its numbers, whether or not a byte holds them
abbrev pub whole : Word → List ℤ → TableLine
whole word.Key zs = Key (unsigned_abs (slice_index_or zs 0 (pos 0)))
whole word.Forget zs = Forget (unsigned_abs (slice_index_or zs 0 (pos 0)))
whole word.Put zs = Put (unsigned_abs (slice_index_or zs 0 (pos 0))) (slice_index_or zs 1 (pos 0))
whole word.Get zs = Get (unsigned_abs (slice_index_or zs 0 (pos 0)))
whole word.Del zs = Del (unsigned_abs (slice_index_or zs 0 (pos 0)))
whole word.SetWeak zs = SetWeak (unsigned_abs (slice_index_or zs 0 (pos 0))) (unsigned_abs (slice_index_or zs 1 (pos 0)))
whole word.GetWeak zs = GetWeak (unsigned_abs (slice_index_or zs 0 (pos 0))) (unsigned_abs (slice_index_or zs 1 (pos 0)))
whole word.Count zs = Count
whole word.FullMajor zs = FullMajor

pub whole-parts : (l : TableLine) → whole (parts l).word (parts l).numbers ≡ l
whole-parts (Put reg value) = refl
whole-parts _ = refl

-- all ranges lie well within 64 bits
least_wide : (kind : Operand) → int_le (negsuc 9223372036854775800) (least kind) ≡ true
least_wide Integer = refl
least_wide _ = refl

greatest_wide : (kind : Operand) → int_le (greatest kind) (pos 9223372036854775800) ≡ true
greatest_wide Integer = refl
greatest_wide _ = refl

abbrev is_between : ℤ → ℤ → ℤ → Bool
is_between low high z = int_le low z && int_le z high

-- no range that clipping moves a number into or out of
clipped_between : (low high z : ℤ) → int_le (negsuc 9223372036854775800) low ≡ true → int_le high (pos 9223372036854775800) ≡ true → is_between low high (clipped z) ≡ is_between low high z
clipped_between low high (pos n) l h = grind (arith, ints, nat_tests)
clipped_between low high (negsuc n) l h = grind (arith, ints, nat_tests)

between_kept : (low high z : ℤ) → int_le (negsuc 9223372036854775800) low ≡ true → int_le high (pos 9223372036854775800) ≡ true → is_between low high z ≡ true → clipped z ≡ z
between_kept low high (pos n) l h e = grind (arith, ints, nat_tests)
between_kept low high (negsuc n) l h e = grind (arith, ints, nat_tests)

small_between : (low high z : ℤ) → int_le (negsuc 9223372036854775800) low ≡ true → int_le high (pos 9223372036854775800) ≡ true → is_between low high z ≡ true → nat_lt (unsigned_abs z) (2 ^ 63) ≡ true
small_between low high (pos n) l h e = grind (arith, ints, nat_tests)
small_between low high (negsuc n) l h e = grind (arith, ints, nat_tests)

-- a number that a byte holds
held_between : (high : ℕ) (low z : ℤ) → int_le (pos 0) low ≡ true → high ≤ 255 → is_between low (pos high) z ≡ true → pos (min (unsigned_abs z) 255) ≡ z
held_between high low (pos n) l h e = grind (arith, ints, nat_tests)
held_between high low (negsuc n) l h e = grind (arith, ints, nat_tests)

register_held : (z : ℤ) → fits Register z ≡ true → pos (byte z) ≡ z
register_held z e = held_between 5 (pos 1) z refl (omega arith) e

slot_held : (z : ℤ) → fits Slot z ≡ true → pos (byte z) ≡ z
slot_held z e = held_between 15 (pos 0) z refl (omega arith) e

-- the place of the first number out of range is that of the clipped ones
pub out_of_range-clipped : (which : ℕ) (kinds : List Operand) (zs : List ℤ) → first_out_of_range which kinds (map clipped zs) ≡ first_out_of_range which kinds zs
out_of_range-clipped which [] zs = refl
out_of_range-clipped which (kind ∷ kinds) [] = refl
out_of_range-clipped which (kind ∷ kinds) (z ∷ zs) =
    ap (λ b. cond b (first_out_of_range (which + 1) kinds (map clipped zs)) (Some which)) (clipped_between (least kind) (greatest kind) z (least_wide kind) (greatest_wide kind))
    ∙ ap (λ o. cond (fits kind z) o (Some which)) (out_of_range-clipped (which + 1) kinds zs)

-- a test that let the walk go on
passed : (b : Bool) (o : Option ℕ) (which : ℕ) → cond b o (Some which) ≡ None → (b ≡ true) × (o ≡ None)
passed true o which e = (refl, e)
passed false o which e = cc

pub clipped_kept : (which : ℕ) (kinds : List Operand) (zs : List ℤ) → length zs ≡ length kinds → first_out_of_range which kinds zs ≡ None → map clipped zs ≡ zs
clipped_kept which kinds [] n e = refl
clipped_kept which [] (z ∷ zs) n e = absurd (omega arith)
clipped_kept which (kind ∷ kinds) (z ∷ zs) n e =
    let p = passed (fits kind z) (first_out_of_range (which + 1) kinds zs) which e in
    let head = between_kept (least kind) (greatest kind) z (least_wide kind) (greatest_wide kind) p.0 in
    let rest = clipped_kept (which + 1) kinds zs (omega arith) p.1 in
    cc

pub small_if_inside : (which : ℕ) (kinds : List Operand) (zs : List ℤ) → length zs ≡ length kinds → first_out_of_range which kinds zs ≡ None → are_small zs ≡ true
small_if_inside which kinds [] n e = refl
small_if_inside which [] (z ∷ zs) n e = absurd (omega arith)
small_if_inside which (kind ∷ kinds) (z ∷ zs) n e =
    let p = passed (fits kind z) (first_out_of_range (which + 1) kinds zs) which e in
    ap (λ b. b && are_small zs) (small_between (least kind) (greatest kind) z (least_wide kind) (greatest_wide kind) p.0) ∙ small_if_inside (which + 1) kinds zs (omega arith) p.1

-- the two ways to say that numbers are in their ranges
pub inside_if_fit : (which : ℕ) (kinds : List Operand) (zs : List ℤ) → all_fit kinds zs ≡ true → first_out_of_range which kinds zs ≡ None
inside_if_fit which [] zs e = refl
inside_if_fit which (kind ∷ kinds) [] e = refl
inside_if_fit which (kind ∷ kinds) (z ∷ zs) e =
    let p = and_parts (fits kind z) (all_fit kinds zs) e in
    ap (λ b. cond b (first_out_of_range (which + 1) kinds zs) (Some which)) p.0 ∙ inside_if_fit (which + 1) kinds zs p.1

pub fit_if_inside : (which : ℕ) (kinds : List Operand) (zs : List ℤ) → first_out_of_range which kinds zs ≡ None → all_fit kinds zs ≡ true
fit_if_inside which [] zs e = refl
fit_if_inside which (kind ∷ kinds) [] e = refl
fit_if_inside which (kind ∷ kinds) (z ∷ zs) e =
    let p = passed (fits kind z) (first_out_of_range (which + 1) kinds zs) which e in
    ap (λ b. b && all_fit kinds zs) p.0 ∙ fit_if_inside (which + 1) kinds zs p.1

-- a number as the field of its kind holds it
abbrev held : Operand → ℤ → ℤ
held Integer z = z
held Register z = pos (byte z)
held Slot z = pos (byte z)

held_same : (kind : Operand) (z : ℤ) → fits kind z ≡ true → held kind z ≡ z
held_same Integer z e = refl
held_same Register z e = register_held z e
held_same Slot z e = slot_held z e

-- up to two numbers as their fields hold them
abbrev all_held : List Operand → List ℤ → List ℤ
all_held [] zs = []
all_held (a ∷ []) zs = held a (slice_index_or zs 0 (pos 0)) ∷ []
all_held (a ∷ b ∷ more) zs = held a (slice_index_or zs 0 (pos 0)) ∷ held b (slice_index_or zs 1 (pos 0)) ∷ []

numbers_made : (w : Word) (zs : List ℤ) → (parts (made w zs)).numbers ≡ all_held (form w).operands zs
numbers_made word.Key zs = refl
numbers_made _ zs = refl

pub word_made : (w : Word) (zs : List ℤ) → (parts (made w zs)).word ≡ w
word_made word.Key zs = refl
word_made _ zs = refl

few_operands : (w : Word) → length (form w).operands ≤ 2
few_operands word.Key = omega arith
few_operands _ = omega arith

all_held_same : (kinds : List Operand) (zs : List ℤ) → length kinds ≤ 2 → length zs ≡ length kinds → first_out_of_range 1 kinds zs ≡ None → all_held kinds zs ≡ zs
all_held_same [] [] few n e = refl
all_held_same [] (x ∷ zs) few n e = absurd (omega arith)
all_held_same (a ∷ kinds) [] few n e = absurd (omega arith)
all_held_same (a ∷ []) (x ∷ []) few n e =
    let p = passed (fits a x) None 1 e in
    let first = held_same a x p.0 in
    cc
all_held_same (a ∷ []) (x ∷ y ∷ zs) few n e = absurd (omega arith)
all_held_same (a ∷ b ∷ kinds) (x ∷ []) few n e = absurd (omega arith)
all_held_same (a ∷ b ∷ []) (x ∷ y ∷ []) few n e =
    let p = passed (fits a x) (first_out_of_range 2 (b ∷ []) (y ∷ [])) 1 e in
    let q = passed (fits b y) None 2 p.1 in
    let first = held_same a x p.0 in
    let second = held_same b y q.0 in
    cc
all_held_same (a ∷ b ∷ []) (x ∷ y ∷ z ∷ zs) few n e = absurd (omega arith)
all_held_same (a ∷ b ∷ d ∷ kinds) (x ∷ y ∷ zs) few n e = absurd (omega arith)

-- numbers in their ranges are those of the line that is made of them
pub numbers_kept : (w : Word) (zs : List ℤ) → length zs ≡ length (form w).operands → first_out_of_range 1 (form w).operands zs ≡ None → (parts (made w zs)).numbers ≡ zs
numbers_kept w zs n e = numbers_made w zs ∙ all_held_same (form w).operands zs (few_operands w) n e
