-- The labels of the blocks that a domain has counted, and their words; and sums of what domains have added.
use Rattle.std.proofs.Common.{◌≡◌, ℕ, zero, suc, ◌+◌, ◌*◌, ◌<◌, ◌≤◌, ◌==◌, ◌&&◌, Bool, true, false, not, cond, IsTrue, eq-eqb, List, [], ◌∷◌, length, slice_get, sum_by, Some, None, Option, sym, refl, ap, ◌∙◌, subst, ⊎_elim, arith, suc-mul}
use Rattle.std.specs.List.{cons_option}
use Rattle.std.proofs.lemmas.Bool.{cases_Bool}
use Rattle.model_core.specs.declared.label.Label.{Label}
use Rattle.model_core.specs.declared.graph.Node.{Node}
use Rattle.model_core.specs.declared.graph.Node.TheVariants.{Plain, Raw, Ephe}
use Rattle.model_core.specs.Fronts.{shape_of}
use Rattle.model_core.specs.Graph.{Graph, has_label, has_no_repeats, words_at, words_of}
use Rattle.model_core.proofs.Reach.ReachLemmas.{or_left, or_right}
use Rattle.model_cycle.specs.Counting.{added_up}
use Rattle.model_cycle.proofs.DomainParts.{listed_at, listed_cases}
use Rattle.heap_rule.specs.Cycles.{extent_in, label_in, labels_in, seen_by}
use Rattle.heap_rule.specs.Places.{Live, Place, extent}
use Rattle.step_sweep.proofs.Removals.{among, seen_at}
use Rattle.std.proofs.lemmas.List.Sums.{sum_by-cons}

label_same : (p : Place) (l : Label) → Some p.label ≡ Some l → p.label ≡ l
label_same p l e = cc

module _ (live : Live) where
  -- a counted label is that of a block that lives at a counted place
  pub label_from : (l : List ℕ) (m : Label) → IsTrue (has_label (labels_in live l) m) → (a : ℕ) × (p : Place) × IsTrue (seen_by l a) × (live a ≡ Some p) × (p.label ≡ m)
  label_from l m is =
      let t = listed_cases (λ a. label_in (live a)) l m is in
      let u = inner (live t.1) refl m t.3 in
      (t.1, u.0, among l t.0 t.1 t.2, u.1, u.2)
    where
      inner : {a : ℕ} (o : Option Place) → live a ≡ o → (m : Label) → label_in (live a) ≡ Some m → (p : Place) × (live a ≡ Some p) × (p.label ≡ m)
      inner None e m f = absurd (let clash : ◌≡◌ {A = Option Label} None (Some m) = sym (ap label_in e) ∙ f in cc)
      inner (Some p) e m f = (p, e, label_same p m (sym (ap label_in e) ∙ f))

  pub label_among : (l : List ℕ) (a : ℕ) (p : Place) → IsTrue (seen_by l a) → live a ≡ Some p → IsTrue (has_label (labels_in live l) p.label)
  label_among l a p is lives = let t = seen_at l a is in listed_at (λ b. label_in (live b)) l t.0 a p.label t.1 (ap label_in lives)

  -- each counted place has a block
  abbrev pub AllLive : List ℕ → Type 0
  AllLive l = (a : ℕ) → IsTrue (seen_by l a) → (p : Place) × (live a ≡ Some p)

  first_lives : (a : ℕ) (l : List ℕ) → AllLive (a ∷ l) → (p : Place) × (live a ≡ Some p)
  first_lives a l all = all a (or_left (a == a) (seen_by l a) (eq-eqb a a refl))

  rest_live : (a : ℕ) (l : List ℕ) → AllLive (a ∷ l) → AllLive l
  rest_live a l all b is = all b (or_right (b == a) (seen_by l b) is)

  pub as_many : (l : List ℕ) → AllLive l → length (labels_in live l) ≡ length l
  as_many [] all = refl
  as_many (a ∷ l) all = let t = first_lives a l all in
      ap (λ (o : Option Label). length (cons_option o (labels_in live l))) (ap label_in t.1) ∙ ap suc (as_many l (rest_live a l all))

  pub as_heavy : (g : Graph) → ((a : ℕ) (p : Place) → live a ≡ Some p → words_at g p.label ≡ extent p.shape) → (l : List ℕ) → AllLive l → sum_by (words_at g) (labels_in live l) ≡ sum_by (λ a. extent_in (live a)) l
  as_heavy g weigh [] all = refl
  as_heavy g weigh (a ∷ l) all =
      let t = first_lives a l all in
      let w : sum_by (words_at g) (cons_option (label_in (live a)) (labels_in live l)) ≡ sum_by (words_at g) (t.0.label ∷ labels_in live l) = ap (λ (o : Option Label). sum_by (words_at g) (cons_option o (labels_in live l))) (ap label_in t.1) in
      let e : words_at g t.0.label ≡ extent_in (live a) = weigh a t.0 t.1 ∙ sym (ap extent_in t.1) in
      let rest = as_heavy g weigh l (rest_live a l all) in
      w ∙ (sum_by-cons (words_at g) t.0.label (labels_in live l) ∙ ((λ i. e i + rest i) ∙ sym (sum_by-cons (λ b. extent_in (live b)) a l)))

  -- and no two have one label
  pub no_twice : ((a b : ℕ) (p q : Place) → live a ≡ Some p → live b ≡ Some q → p.label ≡ q.label → a ≡ b) → (l : List ℕ) → ((i j a : ℕ) → slice_get l i ≡ Some a → slice_get l j ≡ Some a → i ≡ j) → AllLive l → IsTrue (has_no_repeats (labels_in live l))
  no_twice apart [] once all = refl
  no_twice apart (a ∷ l) once all =
      let t = first_lives a l all in
      let rest = no_twice apart l (λ i j b e f. let s : suc i ≡ suc j = once (suc i) (suc j) b e f in omega arith) (rest_live a l all) in
      let first : has_label (labels_in live l) t.0.label ≡ false = ⊎_elim
      (λ (is : has_label (labels_in live l) t.0.label ≡ true). absurd (
      let u = label_from l t.0.label is in
      let same : a ≡ u.0 = apart a u.0 t.0 u.1 t.1 u.3 (sym u.4) in
      let v = seen_at l u.0 u.2 in
      let z : zero ≡ suc v.0 = once zero (suc v.0) a refl (v.1 ∙ ap Some (sym same)) in omega arith))
      (λ (is_not : has_label (labels_in live l) t.0.label ≡ false). is_not)
      (cases_Bool (has_label (labels_in live l) t.0.label)) in
      subst (λ (o : Option Label). IsTrue (has_no_repeats (cons_option o (labels_in live l)))) (sym (ap label_in t.1))
      (ap (λ (b : Bool). not b && has_no_repeats (labels_in live l)) first ∙ rest)

-- the words of a node are those of its shape
pub words_of_shape : (n : Node) → words_of n ≡ extent (shape_of n)
words_of_shape (Plain tag fields) = refl
words_of_shape (Raw tag fields) = refl
words_of_shape (Ephe keys datum) = refl

pub added_same : (added : ℕ → Bool) (f g : ℕ → ℕ) → ((d : ℕ) → IsTrue (added d) → f d ≡ g d) → (n : ℕ) → added_up added f n ≡ added_up added g n
added_same added f g same zero = refl
added_same added f g same (suc n) =
    let rest = added_same added f g same n in
    let here : cond (added n) (f n) 0 ≡ cond (added n) (g n) 0 = ⊎_elim
    (λ (is : added n ≡ true). ap (λ (b : Bool). cond b (f n) 0) is ∙ (same n is ∙ sym (ap (λ (b : Bool). cond b (g n) 0) is)))
    (λ (is : added n ≡ false). ap (λ (b : Bool). cond b (f n) 0) is ∙ sym (ap (λ (b : Bool). cond b (g n) 0) is))
    (cases_Bool (added n)) in
    λ i. rest i + here i

-- each adds little
pub added_few : (added : ℕ → Bool) (f : ℕ → ℕ) (m : ℕ) → ((d : ℕ) → IsTrue (added d) → f d < m) → (n : ℕ) → added_up added f n ≤ n * m
added_few added f m few zero = omega arith
added_few added f m few (suc n) =
    let rest : added_up added f n ≤ n * m = added_few added f m few n in
    let here : cond (added n) (f n) 0 ≤ m = ⊎_elim
    (λ (is : added n ≡ true). subst (λ (b : Bool). cond b (f n) 0 ≤ m) (sym is) (let v : ℕ = f n in let l : v < m = few n is in omega arith))
    (λ (is : added n ≡ false). subst (λ (b : Bool). cond b (f n) 0 ≤ m) (sym is) (omega arith))
    (cases_Bool (added n)) in
    let x : ℕ = added_up added f n in
    let y : ℕ = cond (added n) (f n) 0 in
    let z : ℕ = n * m in
    let e : suc n * m ≡ z + m = suc-mul n m in
    let g : x + y ≤ z + m = omega arith in
    subst (λ (w : ℕ). x + y ≤ w) (sym e) g
