-- The digit by which the way to another key goes on, where a leaf of it stands on the way to a key.
use Rattle.std.proofs.Common.{◌≡◌, ◌≢◌, ℕ, zero, suc, ◌+◌, ◌/◌, ◌%◌, ◌≤◌, List, [], ◌∷◌, ◌++◌, length, refl, ap, sym, ◌∙◌, arith, append_assoc, length-append}
use Rattle.model_core.specs.declared.label.Label.{Label}
use Rattle.weak_laws.specs.Maps.Tries.{low_digits, number_of, root_width, node_width, way_length, way_to, IsLabelOf}
use Rattle.weak_laws.proofs.OfMaps.WayLemmas.{ways_part}
use Rattle.weak_maps.specs.Puts.{rest_of}

-- the digits of a way behind so many
way_split : (n : ℕ) (j : Label) (t x : ℕ) → t + x ≡ 6 → (pre : List ℕ) × (length pre ≡ suc t) × (way_to n j ≡ pre ++ low_digits x (rest_of (number_of n j) t))
way_split n j zero x all = (number_of n j % root_width ∷ [], refl, (let six : 6 ≡ x = omega (arith, all) in ap (λ (y : ℕ). number_of n j % root_width ∷ low_digits y (number_of n j / root_width)) six))
way_split n j (suc t) x all =
    let rec = way_split n j t (suc x) (omega (arith, all)) in
    let r : ℕ = rest_of (number_of n j) t in
    let long = length-append rec.0 (r % node_width ∷ []) in
    let before = rec.1 in (
      rec.0 ++ r % node_width ∷ [],
      omega (arith, long, before),
      rec.2 ∙ sym (append_assoc rec.0 (r % node_width ∷ []) (low_digits x (r / node_width))),
    )

same_front : (a b x y : List ℕ) → length a ≡ length b → a ++ x ≡ b ++ y → a ≡ b
same_front [] [] x y long is = refl
same_front [] (c ∷ b) x y long is = cc
same_front (c ∷ a) [] x y long is = cc
same_front (c ∷ a) (e ∷ b) x y long is =
    let head : c ≡ e = cc in
    let tail : a ++ x ≡ b ++ y = cc in
    let rest = same_front a b x y (omega (arith, long)) tail in
    (λ i. head i ∷ rest i)

-- the ways of two keys part before they end
pub other_digit : (n : ℕ) (k j : Label) (p : List ℕ) (i rest left t : ℕ) → n ≤ 8 → IsLabelOf n k → IsLabelOf n j → j ≢ k → t ≡ length p → length p + suc left ≡ way_length → way_to n k ≡ p ++ i ∷ low_digits left rest → (x : List ℕ) × (way_to n j ≡ (p ++ i ∷ []) ++ x)
    → (q : List ℕ) × (way_to n j ≡ p ++ i ∷ (rest_of (number_of n j) t % node_width) ∷ q)
other_digit n k j p i rest zero t few is_k is_j differ deep all way (x, there) =
    let parted = ways_part n k j few is_k is_j (λ e. differ (sym e)) (p ++ i ∷ []) [] x (way ∙ sym (append_assoc p (i ∷ []) [])) there in
    let long = length-append p (i ∷ []) in
    absurd (omega (arith, parted, long, all))
other_digit n k j p i rest (suc left) t few is_k is_j differ deep all way (x, there) =
    let s = way_split n j t (suc left) (omega (arith, deep, all)) in
    let r : ℕ = rest_of (number_of n j) t in
    let long = length-append p (i ∷ []) in
    let before = s.1 in
    let same : s.0 ≡ p ++ i ∷ [] = same_front s.0 (p ++ i ∷ []) (low_digits (suc left) r) x (omega (arith, long, before, deep)) (sym s.2 ∙ there) in (
      low_digits left (r / node_width),
      s.2 ∙ (ap (λ (y : List ℕ). y ++ low_digits (suc left) r) same ∙ append_assoc p (i ∷ []) (low_digits (suc left) r)),
    )
