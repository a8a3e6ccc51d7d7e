-- What may go: one key more, from the bindings and from all slots at once.
use Rattle.std.proofs.Common.{◌≡◌, inl, inr, ⊎_elim, ◌⊎◌, ℕ, zero, suc, ◌+◌, ◌<◌, ◌==◌, Bool, true, false, cond, ◌||◌, IsTrue, List, [], ◌∷◌, map, length, drop, get_or, slice_get, Option, Some, None, refl, ap, sym, ◌∙◌, subst, arith, eq-eqb, ne_eqb}
use Rattle.model_core.specs.declared.label.Label.{Label}
use Rattle.model_core.specs.Graph.{has_label, same_label}
use Rattle.model_core.proofs.Graphs.GraphLemmas.{same_label-true, same_label_refl}
use Rattle.model_core.proofs.Reach.ReachLemmas.{or_cases, or_left, or_right}
use Rattle.weak_laws.specs.Tables.Structures.{Binding, keys_of, without, datum_at}
use Rattle.weak_laws.specs.Tables.Thinning.{ThinnedBy, EmptiedBy}
use Rattle.weak_laws.proofs.OfTables.BindingLemmas.{thinned_same, thinned_datum}
use Rattle.table_text.specs.Machine.Machine.{TableState, Holds, IsLost, IsThere, KeepsKey, MayGo}
use Rattle.judge_outputs.specs.declared.texts.machine.Gone.{Gone}
use Rattle.judge_outputs.specs.Texts.Playing.{label_of, once_gone}
use Rattle.judge_outputs.specs.Texts.Keys.{is_at, is_held, left_at, taken_out}

thinned_out : (P : Label → Type 0) (k : Label) → P k → (bs left : List Binding) → ThinnedBy P bs left → ThinnedBy P bs (without k left)
thinned_out P k gone [] left t = ap (without k) t
thinned_out P k gone (b ∷ bs) left (inl (rest, is, t)) = subst (λ (l : List Binding). ThinnedBy P (b ∷ bs) (without k l)) (sym is) (go (same_label b.0 k) refl (thinned_out P k gone bs rest t))
  where
    go : (c : Bool) → same_label b.0 k ≡ c → ThinnedBy P bs (without k rest) → ThinnedBy P (b ∷ bs) (cond c (without k rest) (b ∷ without k rest))
    go true e u = inr (subst P (sym (same_label-true b.0 k e)) gone, u)
    go false e u = inl (without k rest, refl, u)
thinned_out P k gone (b ∷ bs) left (inr (lost, t)) = inr (lost, thinned_out P k gone bs left t)

emptied_out : (P : Label → Type 0) (k : Label) → P k → (ks left : List (Option Label)) → EmptiedBy P ks left → EmptiedBy P ks (map (left_at k) left)
emptied_out P k gone [] left t = ap (map (left_at k)) t
emptied_out P k gone (key ∷ ks) left (now, rest, is, here, later) = (left_at k now, map (left_at k) rest, ap (map (left_at k)) is, go now here, emptied_out P k gone ks rest later)
  where
    go : (p : Option Label) → ((p ≡ key) ⊎ ((p ≡ None) × ((j : Label) × (key ≡ Some j) × P j))) → ((left_at k p ≡ key) ⊎ ((left_at k p ≡ None) × ((j : Label) × (key ≡ Some j) × P j)))
    go None at = at
    go (Some l) (inl same) = step (same_label l k) refl
      where
        step : (c : Bool) → same_label l k ≡ c → ((cond c None (Some l) ≡ key) ⊎ ((cond c None (Some l) ≡ None) × ((j : Label) × (key ≡ Some j) × P j)))
        step true e = inr (refl, (l, sym same, subst P (sym (same_label-true l k e)) gone))
        step false e = inl same
    go (Some l) (inr (clash, lost)) = cc

-- what is there without a key was there, and isn't the key
bound_before : (k j : Label) (bs : List Binding) → IsTrue (has_label (keys_of (without k bs)) j) → (j ≡ k → ⊥) × IsTrue (has_label (keys_of bs) j)
bound_before k j [] h = absurd (let clash : false ≡ true = h in cc)
bound_before k j (b ∷ bs) h = go (same_label b.0 k) refl (bound_before k j bs) h
  where
    go : (c : Bool) → same_label b.0 k ≡ c → (IsTrue (has_label (keys_of (without k bs)) j) → (j ≡ k → ⊥) × IsTrue (has_label (keys_of bs) j))
        → IsTrue (has_label (keys_of (cond c (without k bs) (b ∷ without k bs))) j) → (j ≡ k → ⊥) × IsTrue (same_label b.0 j || has_label (keys_of bs) j)
    go true e rest g = let was = rest g in (was.0, or_right (same_label b.0 j) (has_label (keys_of bs) j) was.1)
    go false e rest g = ⊎_elim
        (λ same. ((λ is. let clash : true ≡ false = sym (subst (λ x. same_label b.0 x ≡ true) is same) ∙ e in cc), or_left (same_label b.0 j) (has_label (keys_of bs) j) same))
        (λ there. let was = rest there in (was.0, or_right (same_label b.0 j) (has_label (keys_of bs) j) was.1))
        (or_cases (same_label b.0 j) (has_label (keys_of (without k bs)) j) g)

slot_before : (k j : Label) (ps : List (Option Label)) (i : ℕ) → slice_get (map (left_at k) ps) i ≡ Some (Some j) → (j ≡ k → ⊥) × (slice_get ps i ≡ Some (Some j))
slot_before k j [] i at = absurd (let clash : None ≡ Some (Some j) = at in cc)
slot_before k j (None ∷ ps) zero at = absurd (let clash : Some None ≡ Some (Some j) = at in cc)
slot_before k j (Some l ∷ ps) zero at = go (same_label l k) refl at
  where
    go : (c : Bool) → same_label l k ≡ c → Some (cond c None (Some l)) ≡ Some (Some j) → (j ≡ k → ⊥) × (Some (Some l) ≡ Some (Some j))
    go true e here = absurd (let clash : Some None ≡ Some (Some j) = here in cc)
    go false e here = ((λ is. let same : l ≡ k = cc in let clash : true ≡ false = sym (subst (λ x. same_label l x ≡ true) same (same_label_refl l)) ∙ e in cc), here)
slot_before k j (p ∷ ps) (suc i) at = slot_before k j ps i at

slot_after : (k j : Label) → (j ≡ k → ⊥) → (ps : List (Option Label)) (i : ℕ) → slice_get ps i ≡ Some (Some j) → slice_get (map (left_at k) ps) i ≡ Some (Some j)
slot_after k j other [] i at = absurd (let clash : None ≡ Some (Some j) = at in cc)
slot_after k j other (None ∷ ps) zero at = absurd (let clash : Some None ≡ Some (Some j) = at in cc)
slot_after k j other (Some l ∷ ps) zero at = go (same_label l k) refl
  where
    go : (c : Bool) → same_label l k ≡ c → Some (cond c None (Some l)) ≡ Some (Some j)
    go true e = let is : l ≡ k = same_label-true l k e in let mine : l ≡ j = cc in absurd (other (sym mine ∙ is))
    go false e = at
slot_after k j other (p ∷ ps) (suc i) at = slot_after k j other ps i at

datum_other : (k j : Label) → (j ≡ k → ⊥) → (bs : List Binding) → datum_at (without k bs) j ≡ datum_at bs j
datum_other k j other bs = thinned_datum (λ x. x ≡ k) j other bs (without k bs) (thinned_out (λ x. x ≡ k) k refl bs bs (thinned_same (λ x. x ≡ k) bs))

-- a place that holds the key, and that none does
pub held : (ps : List (Option Label)) (k : Label) → IsTrue (is_held ps k) → Holds ps k
held [] k h = absurd (let clash : false ≡ true = h in cc)
held (p ∷ ps) k h = ⊎_elim (λ at. (zero, ap Some (here p at))) (λ later. let there = held ps k later in (suc there.0, there.1)) (or_cases (is_at k p) (is_held ps k) h)
  where
    here : (q : Option Label) → IsTrue (is_at k q) → q ≡ Some k
    here None at = absurd (let clash : false ≡ true = at in cc)
    here (Some l) at = ap Some (same_label-true l k at)

pub held_test : (ps : List (Option Label)) (k : Label) → Holds ps k → IsTrue (is_held ps k)
held_test [] k (i, at) = absurd (let clash : None ≡ Some (Some k) = at in cc)
held_test (None ∷ ps) k (zero, at) = absurd (let clash : Some None ≡ Some (Some k) = at in cc)
held_test (Some l ∷ ps) k (zero, at) = let is : l ≡ k = cc in or_left (same_label l k) (is_held ps k) (subst (λ x. IsTrue (same_label l x)) is (same_label_refl l))
held_test (p ∷ ps) k (suc i, at) = or_right (is_at k p) (is_held ps k) (held_test ps k (i, at))

pub unheld : (ps : List (Option Label)) (k : Label) → is_held ps k ≡ false → Holds ps k → ⊥
unheld ps k none h = let clash : true ≡ false = sym (held_test ps k h) ∙ none in cc

there_before : (t : TableState) (k j : Label) → IsThere (taken_out k t) j → (j ≡ k → ⊥) × IsThere t j
there_before t k j (inl bound) = let was = bound_before k j t.bindings bound in (was.0, inl was.1)
there_before t k j (inr (i, at)) = let was = slot_before k j t.slots i at in (was.0, inr (i, was.1))

-- a key that no register holds may go too
pub one_more : (s t : TableState) (k : Label) → MayGo s t → is_held t.registers k ≡ false → MayGo s (taken_out k t)
one_more s t k g none =
    let lost : IsLost s k = unheld s.registers k (subst (λ (rs : List (Option Label)). is_held rs k ≡ false) g.registers none) in
    record {
      registers = g.registers;
      bindings = thinned_out (IsLost s) k lost s.bindings t.bindings g.bindings;
      slots = emptied_out (IsLost s) k lost s.slots t.slots g.slots;
      together = λ j there. keeps j (there_before t k j there);
    }
  where
    keeps : (j : Label) → (j ≡ k → ⊥) × IsThere t j → KeepsKey s (taken_out k t) j
    keeps j (other, there) = let was = g.together j there in
        record { datum = datum_other k j other t.bindings ∙ was.datum; slots = λ i at. slot_after k j other t.slots i (was.slots i at) }

pub none_emptied : (P : Label → Type 0) (ks : List (Option Label)) → EmptiedBy P ks ks
none_emptied P [] = refl
none_emptied P (k ∷ ks) = (k, ks, refl, inl refl, none_emptied P ks)

-- nothing goes
pub stays : (s : TableState) → MayGo s s
stays s = record { registers = refl; bindings = thinned_same (IsLost s) s.bindings; slots = none_emptied (IsLost s) s.slots; together = λ k there. record { datum = refl; slots = λ i at. at } }

-- the next key of a witness goes before this line, or before another
at_key : (gone : List Gone) (i n : ℕ) (s : TableState) (d : Gone) → i < length gone
    → once_gone (drop i gone) n s ≡ once_gone (drop (suc i) gone) n (cond ((get_or gone i d).before == n) (taken_out (label_of (get_or gone i d).key) s) s)
at_key [] i n s d below = absurd (omega (arith, below))
at_key (g ∷ gone) zero n s d below = refl
at_key (g ∷ gone) (suc i) n s d below = at_key gone i n s d (omega (arith, below))

pub gone_here : (gone : List Gone) (i j n : ℕ) (s : TableState) (d : Gone) → j ≡ i + 1 → i < length gone → (get_or gone i d).before ≡ n
    → once_gone (drop j gone) n (taken_out (label_of (get_or gone i d).key) s) ≡ once_gone (drop i gone) n s
gone_here gone i j n s d next below is =
    let later : j ≡ suc i = omega (arith, next) in
    let test : ((get_or gone i d).before == n) ≡ true = eq-eqb (get_or gone i d).before n is in
    ap (λ k. once_gone (drop k gone) n (taken_out (label_of (get_or gone i d).key) s)) later
    ∙ ap (λ (c : Bool). once_gone (drop (suc i) gone) n (cond c (taken_out (label_of (get_or gone i d).key) s) s)) (sym test)
    ∙ sym (at_key gone i n s d below)

pub gone_elsewhere : (gone : List Gone) (i j n : ℕ) (s : TableState) (d : Gone) → j ≡ i + 1 → i < length gone → ((get_or gone i d).before ≡ n → ⊥)
    → once_gone (drop j gone) n s ≡ once_gone (drop i gone) n s
gone_elsewhere gone i j n s d next below other =
    let later : j ≡ suc i = omega (arith, next) in
    let test : ((get_or gone i d).before == n) ≡ false = ne_eqb (get_or gone i d).before n other in
    ap (λ k. once_gone (drop k gone) n s) later
    ∙ ap (λ (c : Bool). once_gone (drop (suc i) gone) n (cond c (taken_out (label_of (get_or gone i d).key) s) s)) (sym test)
    ∙ sym (at_key gone i n s d below)
