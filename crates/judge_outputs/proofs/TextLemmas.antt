-- Texts that are put at the end one after the other.
use Rattle.std.proofs.Common.{◌≡◌, ℕ, List, ◌++◌, Result, Ok, Err, OnOk, ap, sym, ◌∙◌, append_assoc}

-- two parts, and the whole that they are
pub put_both : {T E : Type 0} (r : Result T E) (old middle new first second whole : List ℕ) → middle ≡ old ++ first → first ++ second ≡ whole → OnOk r (new ≡ middle ++ second) → OnOk r (new ≡ old ++ whole)
put_both (Ok x) old middle new first second whole front is put =
    put ∙ ap (λ (t : List ℕ). t ++ second) front ∙ append_assoc old first second ∙ ap (λ (t : List ℕ). old ++ t) is
put_both (Err e) old middle new first second whole front is put = tt

pub put_then : (old middle new first second : List ℕ) → middle ≡ old ++ first → new ≡ middle ++ second → new ≡ old ++ (first ++ second)
put_then old middle new first second front put = put ∙ ap (λ (t : List ℕ). t ++ second) front ∙ append_assoc old first second

pub last_parts : (front place end : List ℕ) → front ++ (place ++ end) ≡ (front ++ place) ++ end
last_parts front place end = sym (append_assoc front place end)

pub wipe_parts : (front of domain mark serial end : List ℕ) → (front ++ ((of ++ domain) ++ mark)) ++ (serial ++ end) ≡ ((((front ++ of) ++ domain) ++ mark) ++ serial) ++ end
wipe_parts front of domain mark serial end =
    ap (λ (t : List ℕ). t ++ (serial ++ end)) (sym (append_assoc front (of ++ domain) mark) ∙ ap (λ (t : List ℕ). t ++ mark) (sym (append_assoc front of domain)))
    ∙ sym (append_assoc (((front ++ of) ++ domain) ++ mark) serial end)
