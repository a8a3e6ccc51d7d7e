-- The numbers behind a word, one after another.
use Rattle.std.proofs.Common.{◌≡◌, ◌≢◌, ℕ, ◌<◌, ℤ, List, [], ◌∷◌, ◌++◌, map, length, Bool, true, false, cond, eqb, refl, ap, sym, ◌∙◌, append_assoc, arith, None, Some}
use Rattle.std.specs.Prelude.{Option, is_some, option_map, option_and_then, ◌==◌}
use Rattle.std.proofs.lemmas.Bool.Decides.{nat_tests}
use Rattle.std.proofs.lemmas.List.Splits.{length-slice_split}
use Rattle.text_script.specs.Number.{number, numbers, counted_numbers, clipped}
use Rattle.table_text.specs.Faults.{texts_behind}

-- what the numbers so far make of those to come
abbrev pub behind : List ℤ → Option (List ℤ) → Option (List ℤ)
behind items o = option_map (λ zs. items ++ map clipped zs) o

-- a line with a space has a text behind it
pub behind_some : {V : Type 0} (view : V → List ℕ) (rest : Option V) → true ≡ is_some rest → 0 < length (texts_behind (option_map view rest))
behind_some view None e = cc
behind_some view (Some x) e = omega (arith, length-slice_split (λ b. eqb b 32) (view x))

-- the count that the line must have
counted_if : (count : ℕ) (b : Bool) (ts : List (List ℕ)) → b ≡ eqb (length ts) count → counted_numbers count ts ≡ cond b (numbers ts) None
counted_if count b ts e = ap (λ x. cond x (numbers ts) None) (sym e)

pub counted_wrong : (count : ℕ) (ts : List (List ℕ)) → length ts ≢ count → None ≡ option_map (map clipped) (counted_numbers count ts)
counted_wrong count ts ne = ap (option_map (map clipped)) (sym (counted_if count false ts (grind (arith, nat_tests))))

pub counted_right : (count : ℕ) (ts : List (List ℕ)) → length ts ≡ count → numbers ts ≡ counted_numbers count ts
counted_right count ts same = sym (counted_if count true ts (grind (arith, nat_tests)))

-- no text is left where there is none behind
pub none_behind : {V : Type 0} (view : V → List ℕ) (rest : Option V) → false ≡ is_some rest → texts_behind (option_map view rest) ≡ []
none_behind view None e = refl
none_behind view (Some x) e = cc

-- a text that is no number
not_read : (o : Option ℤ) → None ≡ option_map clipped o → o ≡ None
not_read None e = refl
not_read (Some z) e = cc

unchanged : (b : Bool) (o : Option (List ℤ)) → option_map (map clipped) o ≡ None → option_map (map clipped) (cond b o None) ≡ None
unchanged true o e = e
unchanged false o e = refl

pub number_wrong : (count : ℕ) (all : List (List ℕ)) (items : List ℤ) (text : List ℕ) (later : List (List ℕ)) → behind items (numbers (text ∷ later)) ≡ option_map (map clipped) (numbers all)
    → None ≡ option_map clipped (number text) → None ≡ option_map (map clipped) (counted_numbers count all)
number_wrong count all items text later said wrong =
    let none : numbers (text ∷ later) ≡ None = ap (option_and_then (λ z. option_map (λ zs. z ∷ zs) (numbers later))) (not_read (number text) wrong) in
    sym (unchanged (length all == count) (numbers all) (sym said ∙ ap (behind items) none))

-- a text that is a number
moved_over : (items : List ℤ) (y : ℤ) (o : Option (List ℤ)) → behind (items ++ clipped y ∷ []) o ≡ behind items (option_map (λ zs. y ∷ zs) o)
moved_over items y None = refl
moved_over items y (Some zs) = ap Some (append_assoc items (clipped y ∷ []) (map clipped zs))

was_read : (o : Option ℤ) (n : ℤ) → Some n ≡ option_map clipped o → (z : ℤ) × (o ≡ Some z) × (n ≡ clipped z)
was_read None n e = cc
was_read (Some z) n e = (z, refl, cc)

pub number_next : (items : List ℤ) (text : List ℕ) (later : List (List ℕ)) (n : ℤ) → Some n ≡ option_map clipped (number text) → behind (items ++ n ∷ []) (numbers later) ≡ behind items (numbers (text ∷ later))
number_next items text later n e =
    let p = was_read (number text) n e in
    ap (λ x. behind (items ++ x ∷ []) (numbers later)) p.2 ∙ moved_over items p.0 (numbers later)
    ∙ ap (λ o. behind items (option_and_then (λ z. option_map (λ zs. z ∷ zs) (numbers later)) o)) (sym p.1)
