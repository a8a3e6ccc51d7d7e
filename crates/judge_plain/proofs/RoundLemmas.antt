-- A round that adds nothing is the last that could.
use Rattle.std.proofs.Common.{◌≡◌, ◌≤◌, ◌⊎◌, inl, inr, ℕ, zero, suc, ◌+◌, List, [], ◌∷◌, ◌++◌, cond, length, length-append, fold, refl, sym, ap, ◌∙◌, arith, ⊎_elim}
use Rattle.std.specs.Prelude.{flat_map, Bool, true, false}
use Rattle.model_core.specs.declared.label.Label.{Label}
use Rattle.model_core.specs.Graph.{Graph, has_label}
use Rattle.model_core.specs.Reach.{with_label, edges_at, grow, grow_rounds}

-- one label more, or none
with_is : (live : List Label) (l : Label) → (with_label live l ≡ live) ⊎ (length (with_label live l) ≡ suc (length live))
with_is live l = go (has_label live l) where
  go : (b : Bool) → (cond b live (live ++ l ∷ []) ≡ live) ⊎ (length (cond b live (live ++ l ∷ [])) ≡ suc (length live))
  go true = inl refl
  go false = inr (let more : length (live ++ l ∷ []) ≡ length live + 1 = length-append live (l ∷ []) in omega (arith, more))

fold_longer : (ls live : List Label) → length live ≤ length (fold with_label live ls)
fold_longer [] live = omega arith
fold_longer (l ∷ ls) live =
    let rest : length (with_label live l) ≤ length (fold with_label (with_label live l) ls) = fold_longer ls (with_label live l) in
    ⊎_elim
    (λ (same : with_label live l ≡ live). let long : length (with_label live l) ≡ length live = ap length same in omega (arith, rest, long))
    (λ (more : length (with_label live l) ≡ suc (length live)). omega (arith, rest, more))
    (with_is live l)

fold_stays : (ls live : List Label) → length (fold with_label live ls) ≡ length live → fold with_label live ls ≡ live
fold_stays [] live few = refl
fold_stays (l ∷ ls) live few =
    let rest : length (with_label live l) ≤ length (fold with_label (with_label live l) ls) = fold_longer ls (with_label live l) in
    ⊎_elim
    (λ (same : with_label live l ≡ live). let long : length (with_label live l) ≡ length live = ap length same in
    fold_stays ls (with_label live l) (few ∙ sym long) ∙ same)
    (λ (more : length (with_label live l) ≡ suc (length live)). absurd (omega (arith, rest, more, few)))
    (with_is live l)

-- a round that leaves as many labels as it found adds none
pub grow_stays : (g : Graph) (live : List Label) → length (grow g live) ≡ length live → grow g live ≡ live
grow_stays g live few = fold_stays (flat_map (edges_at g (has_label live)) live) live few

stays : (n : ℕ) (g : Graph) (live : List Label) → grow g live ≡ live → grow_rounds n g live ≡ live
stays zero g live same = refl
stays (suc n) g live same = ap (grow_rounds n g) same ∙ stays n g live same

-- all rounds leave what as many did after which one more added nothing
pub rounds_stay : (m n : ℕ) (g : Graph) (start : List Label) → m ≤ n → grow g (grow_rounds m g start) ≡ grow_rounds m g start → grow_rounds n g start ≡ grow_rounds m g start
rounds_stay zero n g start few same = stays n g start same
rounds_stay (suc m) zero g start few same = absurd (omega (arith, few))
rounds_stay (suc m) (suc n) g start few same = rounds_stay m n g (grow g start) (omega (arith, few)) same
