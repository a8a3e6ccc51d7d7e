-- Texts that are written one after the other.
use Rattle.std.proofs.Common.{◌≡◌, ℕ, List, ◌++◌, ap, ◌∙◌, append_assoc, Result, Ok, Err, OnOk}

-- two texts
pub joined : (s0 s1 s2 a b : List ℕ) → s1 ≡ s0 ++ a → s2 ≡ s1 ++ b → s2 ≡ s0 ++ (a ++ b)
joined s0 s1 s2 a b first second = second ∙ ap (λ t. t ++ b) first ∙ append_assoc s0 a b

-- two texts, the second of which may fail
pub joined_ok : {T E : Type 0} (r : Result T E) (s0 s1 s2 a b : List ℕ) → s1 ≡ s0 ++ a → OnOk r (s2 ≡ s1 ++ b) → OnOk r (s2 ≡ s0 ++ (a ++ b))
joined_ok (Ok x) s0 s1 s2 a b first second = joined s0 s1 s2 a b first second
joined_ok (Err e) s0 s1 s2 a b first second = tt
