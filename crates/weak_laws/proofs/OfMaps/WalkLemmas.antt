-- A field of a tree is written: what each way leads to then.
use Rattle.std.proofs.Common.{◌≡◌, ◌⊎◌, inl, inr, ℕ, zero, suc, ◌<◌, Bool, true, false, eqb, eqb-true, eq-eqb, List, [], ◌∷◌, ◌++◌, length, get_or, set, Option, Some, None, refl, ap, sym, ◌∙◌, arith}
use Rattle.model_core.specs.declared.graph.Value.{Value}
use Rattle.model_core.specs.declared.graph.Value.TheVariants.{Nothing}
use Rattle.weak_laws.specs.Maps.Tries.{ends, at}

abbrev pub Walk : Type 0
Walk = Value → Option (List Value)

pub set_same : (xs : List Value) (i : ℕ) (w d : Value) → i < length xs → get_or (set xs i w) i d ≡ w
set_same [] i w d below = absurd (omega (arith, below))
set_same (x ∷ xs) zero w d below = refl
set_same (x ∷ xs) (suc i) w d below = set_same xs i w d (omega (arith, below))

pub set_else : (xs : List Value) (i j : ℕ) (w d : Value) → (j ≡ i → ⊥) → get_or (set xs i w) j d ≡ get_or xs j d
set_else [] i j w d other = refl
set_else (x ∷ xs) zero zero w d other = absurd (other refl)
set_else (x ∷ xs) zero (suc j) w d other = refl
set_else (x ∷ xs) (suc i) zero w d other = refl
set_else (x ∷ xs) (suc i) (suc j) w d other = set_else xs i j w d (λ e. other (ap suc e))

pub same_number : (i j : ℕ) → (i ≡ j) ⊎ (i ≡ j → ⊥)
same_number i j = go (eqb i j) refl
  where
    go : (b : Bool) → eqb i j ≡ b → (i ≡ j) ⊎ (i ≡ j → ⊥)
    go true e = inl (eqb-true i j e)
    go false e = inr (λ same. let clash : true ≡ false = sym (eq-eqb i j same) ∙ e in cc)

-- one step of a way
pub ends_step : (f : Walk) (i : ℕ) (is : List ℕ) (v : Value) (fields : List Value) → f v ≡ Some fields → ends f (i ∷ is) v ≡ ends f is (get_or fields i Nothing)
ends_step f i is v fields e = rw e refl

pub ends_stop : (f : Walk) (i : ℕ) (is : List ℕ) (v : Value) → f v ≡ None → ends f (i ∷ is) v ≡ v
ends_stop f i is v e = rw e refl

pub at_step : (f : Walk) (i : ℕ) (is : List ℕ) (v : Value) (fields : List Value) → f v ≡ Some fields → at f (i ∷ is) v ≡ at f is (get_or fields i Nothing)
at_step f i is v fields e = rw e refl

pub at_stop : (f : Walk) (i : ℕ) (is : List ℕ) (v : Value) → f v ≡ None → at f (i ∷ is) v ≡ None
at_stop f i is v e = rw e refl

-- a way that begins with one that leads to a value goes on from there
pub ends_at : (f : Walk) (p q : List ℕ) (v u : Value) → at f p v ≡ Some u → ends f (p ++ q) v ≡ ends f q u
ends_at f [] q v u e = let same : v ≡ u = cc in ap (ends f q) same
ends_at f (i ∷ p) q v u e = go (f v) refl (λ x here. ends_at f p q x u here)
  where
    go : (o : Option (List Value)) → f v ≡ o → ((x : Value) → at f p x ≡ Some u → ends f (p ++ q) x ≡ ends f q u) → ends f (i ∷ (p ++ q)) v ≡ ends f q u
    go None is rec = let clash : None ≡ Some u = sym (at_stop f i p v is) ∙ e in cc
    go (Some fields) is rec = ends_step f i (p ++ q) v fields is ∙ rec (get_or fields i Nothing) (sym (at_step f i p v fields is) ∙ e)

-- field i of the block n is written: it holds w
module _ (f h : Walk) (n : Value) (i : ℕ) (w : Value) (fields : List Value)
    (was : f n ≡ Some fields) (now : h n ≡ Some (set fields i w)) (others : (v : Value) → (v ≡ n → ⊥) → h v ≡ f v)
    (decide : (v : Value) → (v ≡ n) ⊎ (v ≡ n → ⊥)) (below : i < length fields) where
  -- a way that doesn't go through the field leads where it led
  pub ends_beside : (is : List ℕ) (v : Value) → ((p : List ℕ) (j : ℕ) (q : List ℕ) → is ≡ p ++ j ∷ q → at f p v ≡ Some n → j ≡ i → ⊥) → ends h is v ≡ ends f is v
  ends_beside [] v apart = refl
  ends_beside (j ∷ is) v apart = go (decide v) (λ x a. ends_beside is x a)
    where
      later : (fs : List Value) → f v ≡ Some fs → (p : List ℕ) (j2 : ℕ) (q : List ℕ) → is ≡ p ++ j2 ∷ q → at f p (get_or fs j Nothing) ≡ Some n → j2 ≡ i → ⊥
      later fs e p j2 q split here = apart (j ∷ p) j2 q (ap (λ (l : List ℕ). j ∷ l) split) (at_step f j p v fs e ∙ here)

      stays : ((x : Value) → ((p : List ℕ) (j2 : ℕ) (q : List ℕ) → is ≡ p ++ j2 ∷ q → at f p x ≡ Some n → j2 ≡ i → ⊥) → ends h is x ≡ ends f is x) → (o : Option (List Value)) → f v ≡ o → h v ≡ o → ends h (j ∷ is) v ≡ ends f (j ∷ is) v
      stays rec None e eh = ends_stop h j is v eh ∙ sym (ends_stop f j is v e)
      stays rec (Some fs) e eh = ends_step h j is v fs eh ∙ rec (get_or fs j Nothing) (later fs e) ∙ sym (ends_step f j is v fs e)

      go : (v ≡ n) ⊎ (v ≡ n → ⊥) → ((x : Value) → ((p : List ℕ) (j2 : ℕ) (q : List ℕ) → is ≡ p ++ j2 ∷ q → at f p x ≡ Some n → j2 ≡ i → ⊥) → ends h is x ≡ ends f is x) → ends h (j ∷ is) v ≡ ends f (j ∷ is) v
      go (inl same) rec =
          let e : f v ≡ Some fields = ap f same ∙ was in
          let eh : h v ≡ Some (set fields i w) = ap h same ∙ now in
          let other : j ≡ i → ⊥ = apart [] j is refl (ap Some same) in
          ends_step h j is v (set fields i w) eh ∙ ap (ends h is) (set_else fields i j w Nothing other) ∙ rec (get_or fields j Nothing) (later fields e) ∙ sym (ends_step f j is v fields e)
      go (inr other) rec = stays rec (f v) refl (others v other)

  -- a way to the block that meets it only at its end leads through the field to what was written
  pub at_through : (p : List ℕ) (v : Value) → at f p v ≡ Some n → ((p2 : List ℕ) (j : ℕ) (q : List ℕ) → p ≡ p2 ++ j ∷ q → at f p2 v ≡ Some n → ⊥) → at h (p ++ i ∷ []) v ≡ Some w
  at_through [] v here first =
      let same : v ≡ n = cc in
      at_step h i [] v (set fields i w) (ap h same ∙ now) ∙ ap Some (set_same fields i w Nothing below)
  at_through (j ∷ p) v here first = go (f v) refl (λ x a b. at_through p x a b)
    where
      other : v ≡ n → ⊥
      other same = first [] j p refl (ap Some same)

      go : (o : Option (List Value)) → f v ≡ o → ((x : Value) → at f p x ≡ Some n → ((p2 : List ℕ) (j2 : ℕ) (q : List ℕ) → p ≡ p2 ++ j2 ∷ q → at f p2 x ≡ Some n → ⊥) → at h (p ++ i ∷ []) x ≡ Some w) → at h (j ∷ (p ++ i ∷ [])) v ≡ Some w
      go None e rec = let clash : None ≡ Some n = sym (at_stop f j p v e) ∙ here in cc
      go (Some fs) e rec =
          at_step h j (p ++ i ∷ []) v fs (others v other ∙ e)
          ∙ rec (get_or fs j Nothing) (sym (at_step f j p v fs e) ∙ here)
          (λ p2 j2 q split there. first (j ∷ p2) j2 q (ap (λ (l : List ℕ). j ∷ l) split) (at_step f j p2 v fs e ∙ there))

  -- where what was written is no plain block, each way to a plain block leads to what it led to
  pub at_back : (h w ≡ None) → (is : List ℕ) (v u : Value) (gs : List Value) → at h is v ≡ Some u → h u ≡ Some gs → at f is v ≡ Some u
  at_back end [] v u gs here plain = here
  at_back end (j ∷ is) v u gs here plain = go (λ x a. at_back end is x u gs a plain) (decide v)
    where
      dead : (x : List ℕ) → at h x w ≡ Some u → ⊥
      dead [] e = let same : w ≡ u = cc in let clash : None ≡ Some gs = sym end ∙ ap h same ∙ plain in cc
      dead (k ∷ x) e = let clash : None ≡ Some u = sym (at_stop h k x w end) ∙ e in cc

      stays : ((x : Value) → at h is x ≡ Some u → at f is x ≡ Some u) → (o : Option (List Value)) → f v ≡ o → h v ≡ o → at f (j ∷ is) v ≡ Some u
      stays rec None e eh = let clash : None ≡ Some u = sym (at_stop h j is v eh) ∙ here in cc
      stays rec (Some fs) e eh = at_step f j is v fs e ∙ rec (get_or fs j Nothing) (sym (at_step h j is v fs eh) ∙ here)

      at_n : ((x : Value) → at h is x ≡ Some u → at f is x ≡ Some u) → (same : v ≡ n) → (j ≡ i) ⊎ (j ≡ i → ⊥) → at f (j ∷ is) v ≡ Some u
      at_n rec same (inr other) =
          at_step f j is v fields (ap f same ∙ was)
          ∙ rec (get_or fields j Nothing)
          (ap (at h is) (sym (set_else fields i j w Nothing other)) ∙ (sym (at_step h j is v (set fields i w) (ap h same ∙ now)) ∙ here))
      at_n rec same (inl hit) = absurd (dead is
          (ap (at h is) (sym (ap (λ (k : ℕ). get_or (set fields i w) k Nothing) hit ∙ set_same fields i w Nothing below)) ∙ (sym (at_step h j is v (set fields i w) (ap h same ∙ now)) ∙ here)))

      go : ((x : Value) → at h is x ≡ Some u → at f is x ≡ Some u) → (v ≡ n) ⊎ (v ≡ n → ⊥) → at f (j ∷ is) v ≡ Some u
      go rec (inl same) = at_n rec same (same_number j i)
      go rec (inr other) = stays rec (f v) refl (others v other)

  -- and any way leads to what it led to, or to what was written
  pub at_any : (h w ≡ None) → (is : List ℕ) (v u : Value) → at h is v ≡ Some u → (at f is v ≡ Some u) ⊎ (u ≡ w)
  at_any end [] v u here = inl here
  at_any end (j ∷ is) v u here = go (λ x a. at_any end is x u a) (decide v)
    where
      dead : (x : List ℕ) → at h x w ≡ Some u → u ≡ w
      dead [] e = let same : w ≡ u = cc in sym same
      dead (k ∷ x) e = let clash : None ≡ Some u = sym (at_stop h k x w end) ∙ e in cc

      further : (fs : List Value) → f v ≡ Some fs → (at f is (get_or fs j Nothing) ≡ Some u) ⊎ (u ≡ w) → (at f (j ∷ is) v ≡ Some u) ⊎ (u ≡ w)
      further fs e (inl old) = inl (at_step f j is v fs e ∙ old)
      further fs e (inr written) = inr written

      stays : ((x : Value) → at h is x ≡ Some u → (at f is x ≡ Some u) ⊎ (u ≡ w)) → (o : Option (List Value)) → f v ≡ o → h v ≡ o → (at f (j ∷ is) v ≡ Some u) ⊎ (u ≡ w)
      stays rec None e eh = let clash : None ≡ Some u = sym (at_stop h j is v eh) ∙ here in cc
      stays rec (Some fs) e eh = further fs e (rec (get_or fs j Nothing) (sym (at_step h j is v fs eh) ∙ here))

      at_n : ((x : Value) → at h is x ≡ Some u → (at f is x ≡ Some u) ⊎ (u ≡ w)) → (same : v ≡ n) → (j ≡ i) ⊎ (j ≡ i → ⊥) → (at f (j ∷ is) v ≡ Some u) ⊎ (u ≡ w)
      at_n rec same (inr other) = further fields (ap f same ∙ was)
          (rec (get_or fields j Nothing) (ap (at h is) (sym (set_else fields i j w Nothing other)) ∙ (sym (at_step h j is v (set fields i w) (ap h same ∙ now)) ∙ here)))
      at_n rec same (inl hit) = inr (dead is
          (ap (at h is) (sym (ap (λ (k : ℕ). get_or (set fields i w) k Nothing) hit ∙ set_same fields i w Nothing below)) ∙ (sym (at_step h j is v (set fields i w) (ap h same ∙ now)) ∙ here)))

      go : ((x : Value) → at h is x ≡ Some u → (at f is x ≡ Some u) ⊎ (u ≡ w)) → (v ≡ n) ⊎ (v ≡ n → ⊥) → (at f (j ∷ is) v ≡ Some u) ⊎ (u ≡ w)
      go rec (inl same) = at_n rec same (same_number j i)
      go rec (inr other) = stays rec (f v) refl (others v other)
