-- What stays of a buffer behind the part that is put at its front.
use Rattle.std.proofs.Common.{◌≡◌, ℕ, ◌+◌, ◌-◌, ◌≤◌, List, ◌++◌, take, drop, sym, ap, ◌∙◌, arith}
use Rattle.std.proofs.lemmas.List.{drop-drop, take-append-drop}

-- what is the same behind a place is the same behind each later one
pub same_behind : (m n : ℕ) (xs ys : List ℕ) → drop m xs ≡ drop m ys → m ≤ n → drop n xs ≡ drop n ys
same_behind m n xs ys same later =
    let step : n ≡ m + (n - m) = omega arith in
    let behind : (l : List ℕ) → drop n l ≡ drop (n - m) (drop m l) = λ l. ap (λ k. drop k l) step ∙ sym (drop-drop (n - m) m l) in
    behind xs ∙ ap (drop (n - m)) same ∙ sym (behind ys)

-- a buffer is the part at its front, and what stayed behind it
pub front_and_rest : (n : ℕ) (new old text : List ℕ) → take n new ≡ text → drop n new ≡ drop n old → new ≡ text ++ drop n old
front_and_rest n new old text front rest = sym (take-append-drop n new) ∙ ap (λ (l : List ℕ). l ++ drop n new) front ∙ ap (λ (l : List ℕ). text ++ l) rest
