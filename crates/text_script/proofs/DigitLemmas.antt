-- A digit behind which no other stands.
use Rattle.std.proofs.Common.{◌≡◌, ℕ, ◌+◌, ◌-◌, ◌*◌, ◌^◌, ◌<◌, ◌≤◌, min, suc, pos, List, [], ◌∷◌, length, get_or, drop, Bool, true, false, cond, not, ◌&&◌, refl, ap, sym, ◌∙◌, arith, None, Some}
use Rattle.std.specs.Prelude.{option_map, ◌==◌}
use Rattle.std.specs.Char.{is_ascii_digit}
use Rattle.std.specs.Str.{all_ascii_digits}
use Rattle.std.proofs.lemmas.Bool.Decides.{nat_tests}
use Rattle.std.proofs.Math.Seq.{drop-cons}
use Rattle.text_script.specs.Decimals.Natural.{is_natural, value_on, natural}
use Rattle.text_script.specs.Split.{first_text, read_whole}
use Rattle.text_script.specs.Number.{number, negated, clipped}

-- whether a text begins with a digit
abbrev pub begins_digit : List ℕ → Bool
begins_digit [] = false
begins_digit (b ∷ bs) = is_ascii_digit b

front_by : (t u : Bool) (b : ℕ) (bs : List ℕ) → (b == 32) ≡ t → (b == 10) ≡ u → begins_digit (b ∷ bs) ≡ false → begins_digit (first_text (b ∷ bs)) ≡ false
front_by true u b bs e f none = ap (λ v. begins_digit (cond v [] (cond (b == 10) [] (b ∷ first_text bs)))) e
front_by false true b bs e f none = ap (λ v. begins_digit (cond v [] (cond (b == 10) [] (b ∷ first_text bs)))) e ∙ ap (λ v. begins_digit (cond v [] (b ∷ first_text bs))) f
front_by false false b bs e f none = ap (λ v. begins_digit (cond v [] (cond (b == 10) [] (b ∷ first_text bs)))) e ∙ ap (λ v. begins_digit (cond v [] (b ∷ first_text bs))) f ∙ none

front_kept : (bytes : List ℕ) → begins_digit bytes ≡ false → begins_digit (first_text bytes) ≡ false
front_kept [] none = refl
front_kept (b ∷ bs) none = front_by (b == 32) (b == 10) b bs refl refl none

-- a digit is no mark
digit_first : (b : ℕ) (bs : List ℕ) → is_ascii_digit b ≡ true → first_text (b ∷ bs) ≡ b ∷ first_text bs
digit_first b bs e =
    let space : (b == 32) ≡ false = grind (arith, nat_tests) in
    let feed : (b == 10) ≡ false = grind (arith, nat_tests) in
    ap (λ v. cond v [] (cond (b == 10) [] (b ∷ first_text bs))) space ∙ ap (λ v. cond v [] (b ∷ first_text bs)) feed

never : (a b : Bool) → (a && (b && false)) ≡ false
never true true = refl
never true false = refl
never false b = refl

digit_alone : (at b : ℕ) (bs : List ℕ) → is_ascii_digit b ≡ true → begins_digit bs ≡ false → read_whole (at + length (b ∷ bs)) (Some (pos (b - 48), at + 1)) ≡ option_map clipped (number (b ∷ bs))
digit_alone at b [] e none =
    let minus : (b == 45) ≡ false = grind (arith, nat_tests) in
    let here : (at + 1 == at + 1) ≡ true = grind (arith, nat_tests) in
    let small : b ≤ 57 = grind (arith, nat_tests) in
    let value : min (10 * 0 + (b - 48)) (2 ^ 63 - 1) ≡ b - 48 = omega arith in
    ap (λ v. cond v (Some (pos (b - 48))) None) here
    ∙ sym (ap (λ v. option_map clipped (cond v (negated (natural [])) (option_map pos (natural (b ∷ []))))) minus ∙ ap (λ v. option_map clipped (option_map pos (cond v (Some (value_on 0 (b ∷ []))) None))) e ∙ ap (λ n. Some (pos n)) value)
digit_alone at b (c ∷ bs) e none =
    let minus : (b == 45) ≡ false = grind (arith, nat_tests) in
    let far : (at + 1 == at + suc (suc (length bs))) ≡ false = grind (arith, nat_tests) in
    let digits : is_natural (b ∷ c ∷ bs) ≡ false = ap (λ v. not (b == 48) && (is_ascii_digit b && (v && all_ascii_digits bs))) none ∙ never (not (b == 48)) (is_ascii_digit b) in
    ap (λ v. cond v (Some (pos (b - 48))) None) far
    ∙ sym (ap (λ v. option_map clipped (cond v (negated (natural (c ∷ bs))) (option_map pos (natural (b ∷ c ∷ bs))))) minus ∙ ap (λ v. option_map clipped (option_map pos (cond v (Some (value_on 0 (b ∷ c ∷ bs))) None))) digits)

digit_behind : (at : ℕ) (bytes : List ℕ) → at + 1 < length bytes → is_ascii_digit (get_or bytes at 0) ≡ true → first_text (drop at bytes) ≡ get_or bytes at 0 ∷ first_text (drop (at + 1) bytes)
digit_behind at bytes h e =
    let next : suc at ≡ at + 1 = omega arith in
    ap first_text (drop-cons bytes at 0 (omega arith) ∙ ap (λ k. get_or bytes at 0 ∷ drop k bytes) next) ∙ digit_first (get_or bytes at 0) (drop (at + 1) bytes) e

none_behind : (at : ℕ) (bytes : List ℕ) → at < length bytes → is_ascii_digit (get_or bytes at 0) ≡ false → begins_digit (drop at bytes) ≡ false
none_behind at bytes h e = ap begins_digit (drop-cons bytes at 0 h) ∙ e

pub lone_read : (at : ℕ) (bytes : List ℕ) → at + 1 < length bytes → is_ascii_digit (get_or bytes at 0) ≡ true → is_ascii_digit (get_or bytes (at + 1) 0) ≡ false
    → read_whole (at + length (first_text (drop at bytes))) (Some (pos (get_or bytes at 0 - 48), at + 1)) ≡ option_map clipped (number (first_text (drop at bytes)))
lone_read at bytes h e none =
    let text = digit_behind at bytes h e in
    ap (λ t. read_whole (at + length t) (Some (pos (get_or bytes at 0 - 48), at + 1))) text
    ∙ digit_alone at (get_or bytes at 0) (first_text (drop (at + 1) bytes)) e (front_kept (drop (at + 1) bytes) (none_behind (at + 1) bytes h none)) ∙ ap (λ t. option_map clipped (number t)) (sym text)

pub lone_within : (at : ℕ) (bytes : List ℕ) → at + 1 < length bytes → is_ascii_digit (get_or bytes at 0) ≡ true → at + 1 ≤ at + length (first_text (drop at bytes))
lone_within at bytes h e = omega (arith, ap length (digit_behind at bytes h e))
