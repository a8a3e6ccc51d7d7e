-- What each line does to two states that look alike, and so all lines.
use Rattle.std.proofs.Common.{◌≡◌, ◌⊎◌, inl, inr, ⊎_elim, ℕ, zero, suc, ◌+◌, ◌-◌, ◌≤◌, Bool, true, false, not, ◌||◌, cond, IsTrue, List, [], ◌∷◌, ◌++◌, length, length-set, replicate, slice_set, slice_get, Option, Some, None, refl, ap, sym, ◌∙◌, subst, arith}
use Rattle.std.specs.List.{list_any}
use Rattle.model_core.specs.declared.label.Label.{Label}
use Rattle.model_core.specs.declared.graph.Value.{Value}
use Rattle.model_core.specs.declared.graph.Value.TheVariants as value
use Rattle.model_core.specs.declared.state.Sizes.{Sizes}
use Rattle.model_core.specs.Entries.{is_label}
use Rattle.model_core.specs.Graph.{has_label, has_no_repeats, same_label}
use Rattle.model_core.proofs.Graphs.GraphLemmas.{same_label-true, same_label_refl}
use Rattle.weak_laws.proofs.OfTables.ChangeLemmas.{not_first}
use Rattle.weak_laws.proofs.OfTables.WalkLemmas.{thinned_length}
use Rattle.weak_laws.specs.Tables.Structures.{Binding, datum_at, keys_of, without}
use Rattle.table_text.specs.declared.version.Version.{Version}
use Rattle.table_text.specs.declared.line.TableLine.{TableLine}
use Rattle.table_text.specs.declared.line.TableLine.TheVariants.{Key, Forget, Put, Get, Del, SetWeak, GetWeak, Count, FullMajor}
use Rattle.table_text.specs.declared.machine.reply.LineReply.{LineReply}
use Rattle.table_text.specs.declared.machine.reply.LineReply.TheVariants as reply
use Rattle.table_text.specs.Machine.Machine.{Binds, Deletes, Effect, Holds, IsLost, IsNew, LineStep, MachineRuns, MayBeRefused, MayGo, ReadsSlot, Shows, TableState, Tallies, WithKey, key_in, opened, with_key}
use Rattle.model_core.proofs.Reach.ReachLemmas.{and_left, and_right, is_false, or_left, or_right}
use Rattle.check_laws.specs.Texts.Agreeing.{Agree, is_held, loose, GivesBack, GoesOn, NoneRefused, Parallel, TextsAgree}
use Rattle.check_laws.proofs.OfTexts.Alike.{Alike, Fits, InBoth, Leans, Pair, flip, gets, got, in_place, leans_on, leans_with, may_same, pair_one, set_two, some_is}

-- the other way round
swap : {s t : TableState} → Alike s t → Alike t s
swap x = (x.1, x.0)

-- Data of bindings.
other_key : (k l : Label) → (l ≡ k → ⊥) → same_label k l ≡ false
other_key k l differ = go (same_label k l) refl
  where
    go : (c : Bool) → same_label k l ≡ c → c ≡ false
    go true e = absurd (differ (sym (same_label-true k l e)))
    go false e = refl

datum_without : (k l : Label) → (l ≡ k → ⊥) → (bs : List Binding) → datum_at (without k bs) l ≡ datum_at bs l
datum_without k l differ [] = refl
datum_without k l differ (b ∷ bs) = go (same_label b.0 k) refl (datum_without k l differ bs)
  where
    go : (c : Bool) → same_label b.0 k ≡ c → datum_at (without k bs) l ≡ datum_at bs l → datum_at (cond c (without k bs) (b ∷ without k bs)) l ≡ cond (same_label b.0 l) (Some b.1) (datum_at bs l)
    go true e rest = rest ∙ sym (ap (λ (d : Bool). cond d (Some b.1) (datum_at bs l)) (other_key b.0 l (λ same. differ (same ∙ same_label-true b.0 k e))))
    go false e rest = ap (cond (same_label b.0 l) (Some b.1)) rest

datum_gone : (k : Label) (bs : List Binding) → datum_at (without k bs) k ≡ None
datum_gone k [] = refl
datum_gone k (b ∷ bs) = go (same_label b.0 k) refl (datum_gone k bs)
  where
    go : (c : Bool) → same_label b.0 k ≡ c → datum_at (without k bs) k ≡ None → datum_at (cond c (without k bs) (b ∷ without k bs)) k ≡ None
    go true e rest = rest
    go false e rest = ap (λ (d : Bool). cond d (Some b.1) (datum_at (without k bs) k)) e ∙ rest

datum_unbound : (k : Label) (bs : List Binding) → has_label (keys_of bs) k ≡ false → datum_at bs k ≡ None
datum_unbound k [] none = refl
datum_unbound k (b ∷ bs) none = let first = not_first b.0 (keys_of bs) k none in
    ap (λ (d : Bool). cond d (Some b.1) (datum_at bs k)) first.0 ∙ datum_unbound k bs first.1

binds_other : (k l : Label) (v : Value) (old new : List Binding) → Binds k v old new → (l ≡ k → ⊥) → datum_at new l ≡ datum_at old l
binds_other k l v old new b differ = sym (datum_without k l differ new) ∙ (ap (λ (bs : List Binding). datum_at bs l) b.rest ∙ datum_without k l differ old)

-- A key that is new stands for another one that is new.
new_fits : (s t : TableState) (k m : Label) → IsNew s k → IsNew t m → Fits s t k m
new_fits s t k m new other = record {
  registers = λ j at. absurd (new.lost (j, gets s.registers j k at));
  datum = datum_unbound k s.bindings new.unbound ∙ sym (datum_unbound m t.bindings other.unbound);
  slots = λ j at. absurd (new.unset (j, gets s.slots j k at));
}

-- Changes of one state beside those of another.
alike_is : (s t u v : TableState) → u ≡ s → v ≡ t → Alike s t → Alike u v
alike_is s t u v a b x = subst (λ (w : TableState × TableState). Alike w.0 w.1) (λ i. (sym a i, sym b i)) x

-- a register of each state gets these keys
alike_with : (s t : TableState) (q : ℕ) (k m : Label) → Alike s t → Fits s t k m → Fits t s m k → Alike (record s { registers = slice_set s.registers q (Some k) }) (record t { registers = slice_set t.registers q (Some m) })
alike_with s t q k m x fit back = (leans_with s t q x.0 k m fit, leans_with t s q x.1 m k back)

-- or lets its key go
leans_without : (s t : TableState) (q : ℕ) → Leans s t → Leans (record s { registers = slice_set s.registers q None }) (record t { registers = slice_set t.registers q None })
leans_without s t q x = record {
  registers = length-set s.registers q None ∙ (x.registers ∙ sym (length-set t.registers q None));
  places = x.places;
  hold = λ i k at. (let a = was i k at in let h = x.hold i k a.0 in (h.0, a.1 ∙ h.1));
  pairs = λ k m pair. fitting k m (x.pairs k m (pair_was k m pair));
}
  where
    us : List (Option Label)
    us = slice_set s.registers q None

    vs : List (Option Label)
    vs = slice_set t.registers q None

    was : (i : ℕ) (k : Label) → in_place us i ≡ Some k → (in_place s.registers i ≡ Some k) × (in_place vs i ≡ in_place t.registers i)
    was i k at = ⊎_elim
        (λ (y : (in_place us i ≡ None) × (in_place vs i ≡ None)). let clash : None ≡ Some k = sym y.0 ∙ at in cc)
        (λ (y : (in_place us i ≡ in_place s.registers i) × (in_place vs i ≡ in_place t.registers i)). (sym y.0 ∙ at, y.1))
        (set_two s.registers t.registers q i None None x.registers)

    pair_was : (k m : Label) → Pair (record s { registers = us }) (record t { registers = vs }) k m → Pair s t k m
    pair_was k m (inl (i, a, b)) = let h = was i k a in inl (i, h.0, sym h.1 ∙ b)
    pair_was k m (inr found) = inr found

    fitting : (k m : Label) → Fits s t k m → Fits (record s { registers = us }) (record t { registers = vs }) k m
    fitting k m fit = record { registers = λ j at. (let h = was j k at in h.1 ∙ fit.registers j h.0); datum = fit.datum; slots = fit.slots }

alike_without : (s t : TableState) (q : ℕ) → Alike s t → Alike (record s { registers = slice_set s.registers q None }) (record t { registers = slice_set t.registers q None })
alike_without s t q x = (leans_without s t q x.0, leans_without t s q x.1)

-- the data change alike
leans_data : (s t u v : TableState) → Leans s t → u.registers ≡ s.registers → u.slots ≡ s.slots → v.registers ≡ t.registers → v.slots ≡ t.slots
    → ((k m : Label) → Pair s t k m → datum_at u.bindings k ≡ datum_at v.bindings m) → Leans u v
leans_data s t u v x ur us vr vs data_same = record {
  registers = ap length ur ∙ (x.registers ∙ sym (ap length vr));
  places = ap length us ∙ (x.places ∙ sym (ap length vs));
  hold = λ i k at. (let h = x.hold i k (at_first ur i k at) in (h.0, ap (λ (ps : List (Option Label)). in_place ps i) vr ∙ h.1));
  pairs = λ k m pair. fitting k m (was k m pair);
}
  where
    at_first : {ps qs : List (Option Label)} → ps ≡ qs → (i : ℕ) (k : Label) → in_place ps i ≡ Some k → in_place qs i ≡ Some k
    at_first same i k at = sym (ap (λ (ps : List (Option Label)). in_place ps i) same) ∙ at

    was : (k m : Label) → Pair u v k m → Pair s t k m
    was k m (inl (i, a, b)) = inl (i, at_first ur i k a, at_first vr i m b)
    was k m (inr (i, a, b)) = inr (i, at_first us i k a, at_first vs i m b)

    fitting : (k m : Label) → Pair s t k m → Fits u v k m
    fitting k m pair = let fit = x.pairs k m pair in record {
      registers = λ j at. at_first (sym vr) j m (fit.registers j (at_first ur j k at));
      datum = data_same k m pair;
      slots = λ j at. at_first (sym vs) j m (fit.slots j (at_first us j k at));
    }

same_or_not : (k l : Label) → (l ≡ k) ⊎ (l ≡ k → ⊥)
same_or_not k l = go (same_label k l) refl
  where
    go : (c : Bool) → same_label k l ≡ c → (l ≡ k) ⊎ (l ≡ k → ⊥)
    go true e = inl (sym (same_label-true k l e))
    go false e = inr (λ same. let clash : true ≡ false = sym (same_label_refl k) ∙ (ap (same_label k) (sym same) ∙ e) in cc)

-- one key gets the same datum in both, and the others keep theirs
leans_at : (s t u v : TableState) (q : ℕ) (k m : Label) (o p : Option Value) → Alike s t → in_place s.registers q ≡ Some k → in_place t.registers q ≡ Some m
    → u.registers ≡ s.registers → u.slots ≡ s.slots → v.registers ≡ t.registers → v.slots ≡ t.slots
    → datum_at u.bindings k ≡ o → datum_at v.bindings m ≡ p → o ≡ p
    → ((l : Label) → (l ≡ k → ⊥) → datum_at u.bindings l ≡ datum_at s.bindings l) → ((l : Label) → (l ≡ m → ⊥) → datum_at v.bindings l ≡ datum_at t.bindings l) → Leans u v
leans_at s t u v q k m o p x here there ur us vr vs uk vm equal others elsewhere = leans_data s t u v x.0 ur us vr vs same
  where
    pair : Pair s t k m
    pair = inl (q, here, there)

    same : (l n : Label) → Pair s t l n → datum_at u.bindings l ≡ datum_at v.bindings n
    same l n other_pair = ⊎_elim
        (λ is. (let other : m ≡ n = pair_one s t k m n (x.0.pairs k m pair) (subst (λ (y : Label). Pair s t y n) is other_pair) in ap (datum_at u.bindings) is ∙ (uk ∙ (equal ∙ (sym vm ∙ ap (datum_at v.bindings) other)))))
        (λ differs. others l differs ∙ ((x.0.pairs l n other_pair).datum
        ∙ sym (elsewhere n (λ is. differs (sym (pair_one t s m k l (x.1.pairs m k (flip s t k m pair)) (subst (λ (y : Label). Pair t s y l) is (flip s t l n other_pair))))))))
        (same_or_not k l)

-- a slot of each state gets these keys
leans_slot : (s t : TableState) (q at : ℕ) (k m : Label) → Alike s t → in_place s.registers q ≡ Some k → in_place t.registers q ≡ Some m
    → Leans (record s { slots = slice_set s.slots at (Some k) }) (record t { slots = slice_set t.slots at (Some m) })
leans_slot s t q at k m x here there = record {
  registers = x.0.registers;
  places = length-set s.slots at (Some k) ∙ (x.0.places ∙ sym (length-set t.slots at (Some m)));
  hold = x.0.hold;
  pairs = λ l n pair. fitting l n (was l n pair);
}
  where
    us : List (Option Label)
    us = slice_set s.slots at (Some k)

    vs : List (Option Label)
    vs = slice_set t.slots at (Some m)

    fit : Fits s t k m
    fit = x.0.pairs k m (inl (q, here, there))

    was : (l n : Label) → Pair (record s { slots = us }) (record t { slots = vs }) l n → Pair s t l n
    was l n (inl found) = inl found
    was l n (inr (i, a, b)) = ⊎_elim
        (λ (y : (in_place us i ≡ Some k) × (in_place vs i ≡ Some m)). inl (q, here ∙ (sym y.0 ∙ a), there ∙ (sym y.1 ∙ b)))
        (λ (y : (in_place us i ≡ in_place s.slots i) × (in_place vs i ≡ in_place t.slots i)). inr (i, sym y.0 ∙ a, sym y.1 ∙ b))
        (set_two s.slots t.slots at i (Some k) (Some m) x.0.places)

    fitting : (l n : Label) → Pair s t l n → Fits (record s { slots = us }) (record t { slots = vs }) l n
    fitting l n pair = let old = x.0.pairs l n pair in record {
      registers = old.registers;
      datum = old.datum;
      slots = λ j found. ⊎_elim
          (λ (y : (in_place us j ≡ Some k) × (in_place vs j ≡ Some m)). y.1 ∙ ap Some (pair_one s t k m n fit (subst (λ (w : Label). Pair s t w n) (some_is l k (sym found ∙ y.0)) pair)))
          (λ (y : (in_place us j ≡ in_place s.slots j) × (in_place vs j ≡ in_place t.slots j)). y.1 ∙ old.slots j (sym y.0 ∙ found))
          (set_two s.slots t.slots at j (Some k) (Some m) x.0.places);
    }

-- Counts.
without_few : (k : Label) (bs : List Binding) → length (without k bs) ≤ length bs
without_few k [] = omega arith
without_few k (b ∷ bs) = go (same_label b.0 k) (without_few k bs)
  where
    go : (c : Bool) → length (without k bs) ≤ length bs → length (cond c (without k bs) (b ∷ without k bs)) ≤ suc (length bs)
    go true few = omega (arith, few)
    go false few = omega (arith, few)

shorter : (k : Label) (d : Value) (bs : List Binding) → datum_at bs k ≡ Some d → length (without k bs) + 1 ≤ length bs
shorter k d [] e = let clash : None ≡ Some d = e in cc
shorter k d (b ∷ bs) e = go (same_label b.0 k) refl (without_few k bs) (shorter k d bs)
  where
    go : (c : Bool) → same_label b.0 k ≡ c → length (without k bs) ≤ length bs → (datum_at bs k ≡ Some d → length (without k bs) + 1 ≤ length bs) → length (cond c (without k bs) (b ∷ without k bs)) + 1 ≤ suc (length bs)
    go true is few rest = omega (arith, few)
    go false is few rest = let later = rest (sym (ap (λ (x : Bool). cond x (Some b.1) (datum_at bs k)) is) ∙ e) in omega (arith, later)

-- what a register holds is in a place
held_place : (ps : List (Option Label)) (k : Label) → IsTrue (list_any (is_label k) ps) → (i : ℕ) × (in_place ps i ≡ Some k)
held_place [] k held = let clash : false ≡ true = held in cc
held_place (p ∷ ps) k held = go p refl (is_label k p) refl (held_place ps k)
  where
    go : (o : Option Label) → p ≡ o → (c : Bool) → is_label k p ≡ c → (IsTrue (list_any (is_label k) ps) → (i : ℕ) × (in_place ps i ≡ Some k)) → (i : ℕ) × (in_place (p ∷ ps) i ≡ Some k)
    go (Some x) is true same rest = (0, is ∙ ap Some (same_label-true x k (sym (ap (is_label k) is) ∙ same)))
    go None is true same rest = let clash : false ≡ true = sym (ap (is_label k) is) ∙ same in cc
    go o is false other rest = let h = rest (sym (ap (λ (c : Bool). c || list_any (is_label k) ps) other) ∙ held) in (suc h.0, h.1)

-- what is bound has a datum
bound_datum : (bs : List Binding) (k : Label) → IsTrue (has_label (keys_of bs) k) → (d : Value) × (datum_at bs k ≡ Some d)
bound_datum [] k h = let clash : false ≡ true = h in cc
bound_datum (b ∷ bs) k h = go (same_label b.0 k) refl (bound_datum bs k)
  where
    go : (c : Bool) → same_label b.0 k ≡ c → (IsTrue (has_label (keys_of bs) k) → (d : Value) × (datum_at bs k ≡ Some d)) → (d : Value) × (cond (same_label b.0 k) (Some b.1) (datum_at bs k) ≡ Some d)
    go true e rest = (b.1, ap (λ (c : Bool). cond c (Some b.1) (datum_at bs k)) e)
    go false e rest = let r = rest (sym (ap (λ (c : Bool). c || has_label (keys_of bs) k) e) ∙ h) in (r.0, ap (λ (c : Bool). cond c (Some b.1) (datum_at bs k)) e ∙ r.1)

module _ (s t : TableState) (x : Alike s t) where
  -- the registers hold them
  abbrev HeldPair : Label → Label → Type 0
  HeldPair k m = InBoth s.registers t.registers k m

  one_key : (k l m : Label) → HeldPair k m → HeldPair l m → k ≡ l
  one_key k l m a b = pair_one t s m k l (x.1.pairs m k (flip s t k m (inl a))) (flip s t l m (inl b))

  -- bindings whose keys registers hold are no more than those of the other state
  few_bound : (bs others : List Binding) → IsTrue (has_no_repeats (keys_of bs)) → ((k : Label) → IsTrue (has_label (keys_of bs) k) → IsTrue (is_held s k) → (m : Label) × HeldPair k m × ((d : Value) × (datum_at others m ≡ Some d))) → length bs ≤ length others + length (loose s bs)
  few_bound [] others once found = omega arith
  few_bound (b ∷ bs) others once found = go (is_held s b.0) refl
      (λ ys each. few_bound bs ys (and_right (not (has_label (keys_of bs) b.0)) _ once) each)
    where
      later : (k : Label) → IsTrue (has_label (keys_of bs) k) → IsTrue (has_label (keys_of (b ∷ bs)) k)
      later k h = or_right (same_label b.0 k) (has_label (keys_of bs) k) h

      other : (k : Label) → IsTrue (has_label (keys_of bs) k) → k ≡ b.0 → ⊥
      other k h is = let new = is_false (has_label (keys_of bs) b.0) (and_left _ _ once) in let clash : true ≡ false = sym (subst (λ (l : Label). IsTrue (has_label (keys_of bs) l)) is h) ∙ new in cc

      go : (c : Bool) → is_held s b.0 ≡ c → ((ys : List Binding) → ((k : Label) → IsTrue (has_label (keys_of bs) k) → IsTrue (is_held s k) → (m : Label) × HeldPair k m × ((d : Value) × (datum_at ys m ≡ Some d))) → length bs ≤ length ys + length (loose s bs)) → suc (length bs) ≤ length others + length (cond c (loose s bs) (b ∷ loose s bs))
      go false e rest = let few = rest others (λ k h held. found k (later k h) held) in omega (arith, few)
      go true e rest =
          let here = found b.0 (or_left (same_label b.0 b.0) _ (same_label_refl b.0)) e in let m = here.0 in
          let few = rest (without m others) (λ k h held. (let f = found k (later k h) held in (f.0, f.1, (f.2.0, datum_without m f.0 (λ same. other k h (one_key k b.0 m (subst (λ (l : Label). HeldPair k l) same f.1) here.1)) others ∙ f.2.1)))) in
          let short = shorter m here.2.0 others here.2.1 in
          omega (arith, few, short)

  pub few_counted : IsTrue (has_no_repeats (keys_of s.bindings)) → length s.bindings ≤ length t.bindings + length (loose s s.bindings)
  few_counted once = few_bound s.bindings t.bindings once (λ k h held.
      let at = held_place s.registers k held in let over = x.0.hold at.0 k at.1 in let d = bound_datum s.bindings k h in
      (over.0, (at.0, at.1, over.1), (d.0, sym (x.0.pairs k over.0 (inl (at.0, at.1, over.1))).datum ∙ d.1)))

-- a count before which keys went, and while it was made, beside another one
tallies_few : (s t p q u v : TableState) (a b : LineReply) → Alike s t → MayGo s p → MayGo t q → (c : Tallies p a u) → (d : Tallies q b v) → IsTrue (has_no_repeats (keys_of s.bindings)) → c.number ≤ d.number + length (loose s s.bindings)
tallies_few s t p q u v a b x goes other c d once =
    let beside : Alike s q = (leans_on s t s q (may_same s) other x.0, leans_on t s q s other (may_same s) x.1) in
    let after : Alike s v = (leans_on s q s v (may_same s) d.goes beside.0, leans_on q s v s d.goes (may_same s) beside.1) in
    let few = few_counted s v after once in
    let short = thinned_length (IsLost s) s.bindings p.bindings goes.bindings in
    let most = c.most in
    let least = d.least in
    omega (arith, few, short, most, least)

-- What a line answers and leaves.
pub record Done (s t : TableState) (l : TableLine) (a b : LineReply) (u v : TableState) : Type 0 where
  pub agree : Agree s t l a b u v
  pub alike : GoesOn l a b → Alike u v

-- a line that needs the key of a register, where both find none or both find one
with_key_too : (s t u v : TableState) (q : ℕ) (a b : LineReply) (f g : Label → Type 0) → Alike s t
    → ((k m : Label) → in_place s.registers q ≡ Some k → in_place t.registers q ≡ Some m → f k → g m → (a ≡ b) × Alike u v)
    → (o p : Option Label) → in_place s.registers q ≡ o → in_place t.registers q ≡ p → WithKey o s a u f → WithKey p t b v g → (a ≡ b) × Alike u v
with_key_too s t u v q a b f g x both None None e d (ra, ua) (rb, vb) = (ra ∙ sym rb, alike_is s t u v ua vb x)
with_key_too s t u v q a b f g x both (Some k) (Some m) e d found other = both k m e d found other
with_key_too s t u v q a b f g x both None (Some m) e d found other = (let h = x.1.hold q m d in let clash : None ≡ Some h.0 = sym e ∙ h.1 in cc)
with_key_too s t u v q a b f g x both (Some k) None e d found other = (let h = x.0.hold q k e in let clash : None ≡ Some h.0 = sym d ∙ h.1 in cc)

shows_same : (o : Option Value) (a b : LineReply) → Shows o a → Shows o b → a ≡ b
shows_same None a b e d = e ∙ sym d
shows_same (Some (value.Int v)) a b e d = e ∙ sym d
shows_same (Some (value.Block l)) a b e d = absurd e
shows_same (Some value.Nothing) a b e d = absurd e

deletes_too : (s t u v : TableState) (q : ℕ) (a b : LineReply) (k m : Label) → Alike s t → in_place s.registers q ≡ Some k → in_place t.registers q ≡ Some m
    → (o : Option Value) → Deletes k s a u o → Deletes m t b v o → (a ≡ b) × Alike u v
deletes_too s t u v q a b k m x here there None (ra, ua) (rb, vb) = (ra ∙ sym rb, alike_is s t u v ua vb x)
deletes_too s t u v q a b k m x here there (Some d) (ra, ua) (rb, vb) = (
  ra ∙ sym rb,
  alike_is gone lost u v ua vb (
    leans_at s t gone lost q k m None None x here there refl refl refl refl (datum_gone k s.bindings) (datum_gone m t.bindings) refl
        (λ l differs. datum_without k l differs s.bindings) (λ l differs. datum_without m l differs t.bindings),
    leans_at t s lost gone q m k None None (swap x) there here refl refl refl refl (datum_gone m t.bindings) (datum_gone k s.bindings) refl
        (λ l differs. datum_without m l differs t.bindings) (λ l differs. datum_without k l differs s.bindings),
  ),
)
  where
    gone : TableState
    gone = record s { bindings = without k s.bindings }

    lost : TableState
    lost = record t { bindings = without m t.bindings }

-- A look at a slot.
gives_back : (s p u : TableState) (d slot : ℕ) (k : Label) → p.registers ≡ s.registers → slice_get p.slots slot ≡ Some (Some k) → u ≡ with_key p d (Some k) → (Holds p.registers k → ⊥) → GivesBack s slot u
gives_back s p u d slot k same found is lost = record {
  key = k;
  found = ap (λ (w : TableState). slice_get w.slots slot) is ∙ found;
  lost = λ held. lost (subst (λ (rs : List (Option Label)). Holds rs k) (sym same) held);
}

-- where the other run finds nothing, no register holds the key
gone_too : (p q : TableState) (slot : ℕ) (k : Label) → Leans p q → slice_get p.slots slot ≡ Some (Some k) → slice_get q.slots slot ≡ Some None → Holds p.registers k → ⊥
gone_too p q slot k x found none (i, at) =
    let here = got p.registers i (Some k) at in
    let h = x.hold i k here in
    let there = (x.pairs k h.0 (inl (i, here, h.1))).slots slot (got p.slots slot (Some k) found) in
    let clash : None ≡ Some h.0 = sym (got q.slots slot None none) ∙ there in cc

module _ (s t p q u v : TableState) (d slot : ℕ) (a b : LineReply) (ps : p.registers ≡ s.registers) (qt : q.registers ≡ t.registers) (x : Alike p q) where
  both_found : (k m : Label) → slice_get p.slots slot ≡ Some (Some k) → slice_get q.slots slot ≡ Some (Some m) → u ≡ with_key p d (Some k) → v ≡ with_key q d (Some m) → Alike u v
  both_found k m e f ua vb =
      let pair : Pair p q k m = inr (slot, got p.slots slot (Some k) e, got q.slots slot (Some m) f) in
      alike_is (with_key p d (Some k)) (with_key q d (Some m)) u v ua vb (alike_with p q (d - 1) k m x (x.0.pairs k m pair) (x.1.pairs m k (flip p q k m pair)))

  look_too : (o r : Option (Option Label)) → slice_get p.slots slot ≡ o → slice_get q.slots slot ≡ r → ReadsSlot p a u d o → ReadsSlot q b v d r → Done s t (GetWeak d slot) a b u v
  look_too None r e f reads looks = absurd reads
  look_too (Some o) None e f reads looks = absurd looks
  look_too (Some None) (Some None) e f (ra, ua) (rb, vb) = record {
    agree = inl (ra ∙ sym rb);
    alike = λ goes. alike_is (with_key p d None) (with_key q d None) u v ua vb (alike_without p q (d - 1) x);
  }
  look_too (Some (Some k)) (Some None) e f (ra, ua) (rb, vb) = record {
    agree = inr (inl (gives_back s p u d slot k ps e ua (gone_too p q slot k x.0 e f)));
    alike = λ goes. (let clash : reply.Yes ≡ reply.Empty = sym ra ∙ (goes ∙ rb) in cc);
  }
  look_too (Some None) (Some (Some m)) e f (ra, ua) (rb, vb) = record {
    agree = inr (inr (gives_back t q v d slot m qt f vb (gone_too q p slot m x.1 f e)));
    alike = λ goes. (let clash : reply.Yes ≡ reply.Empty = sym rb ∙ (sym goes ∙ ra) in cc);
  }
  look_too (Some (Some k)) (Some (Some m)) e f (ra, ua) (rb, vb) = record {
    agree = inl (ra ∙ sym rb);
    alike = λ goes. both_found k m e f ua vb;
  }

-- all other lines: they are answered the same, and leave states that look alike
same_done : (s t : TableState) (l : TableLine) (a b : LineReply) (u v : TableState) → ((a ≡ b) → Agree s t l a b u v) → (a ≡ b) × Alike u v → Done s t l a b u v
same_done s t l a b u v into r = record { agree = into r.0; alike = λ goes. r.1 }

module _ (s t p q u v : TableState) (a b : LineReply) (before : Alike s t) (goes : MayGo s p) (other : MayGo t q) (x : Alike p q) where
  put_too : (r : ℕ) (w : _) → Effect p (Put r w) a u → Effect q (Put r w) b v → (a ≡ b) × Alike u v
  put_too r w = with_key_too p q u v (r - 1) a b _ _ x (λ k m here there done did. (
    done.0 ∙ sym did.0,
    (
      leans_at p q u v (r - 1) k m (Some (value.Int w)) (Some (value.Int w)) x here there done.1 done.2 did.1 did.2 done.3.bound did.3.bound refl
          (λ l differs. binds_other k l (value.Int w) p.bindings u.bindings done.3 differs) (λ l differs. binds_other m l (value.Int w) q.bindings v.bindings did.3 differs),
      leans_at q p v u (r - 1) m k (Some (value.Int w)) (Some (value.Int w)) (swap x) there here did.1 did.2 done.1 done.2 did.3.bound done.3.bound refl
          (λ l differs. binds_other m l (value.Int w) q.bindings v.bindings did.3 differs) (λ l differs. binds_other k l (value.Int w) p.bindings u.bindings done.3 differs),
    ),
  )) (key_in p r) (key_in q r) refl refl

  get_too : (r : ℕ) → Effect p (Get r) a u → Effect q (Get r) b v → (a ≡ b) × Alike u v
  get_too r = with_key_too p q u v (r - 1) a b _ _ x (λ k m here there done did. (
    shows_same (datum_at q.bindings m) a b (subst (λ (o : Option Value). Shows o a) (x.0.pairs k m (inl (r - 1, here, there))).datum done.0) did.0,
    alike_is p q u v done.1 did.1 x,
  )) (key_in p r) (key_in q r) refl refl

  del_too : (r : ℕ) → Effect p (Del r) a u → Effect q (Del r) b v → (a ≡ b) × Alike u v
  del_too r = with_key_too p q u v (r - 1) a b _ _ x (λ k m here there done did.
      deletes_too p q u v (r - 1) a b k m x here there (datum_at q.bindings m) (subst (λ (o : Option Value). Deletes k p a u o) (x.0.pairs k m (inl (r - 1, here, there))).datum done) did
      ) (key_in p r) (key_in q r) refl refl

  set_too : (slot r : ℕ) → Effect p (SetWeak slot r) a u → Effect q (SetWeak slot r) b v → (a ≡ b) × Alike u v
  set_too slot r = with_key_too p q u v (r - 1) a b _ _ x (λ k m here there done did. (
    done.0 ∙ sym did.0,
    alike_is (record p { slots = slice_set p.slots slot (Some k) }) (record q { slots = slice_set q.slots slot (Some m) }) u v done.1 did.1
        (leans_slot p q (r - 1) slot k m x here there, leans_slot q p (r - 1) slot m k (swap x) there here),
  )) (key_in p r) (key_in q r) refl refl

  effects : (l : TableLine) → Effect p l a u → Effect q l b v → Done s t l a b u v
  effects (Key r) (ra, (k, new, ua)) (rb, (m, fresh, vb)) = same_done s t (Key r) a b u v (λ e. e) (
    ra ∙ sym rb,
    alike_is (with_key p r (Some k)) (with_key q r (Some m)) u v ua vb (alike_with p q (r - 1) k m x (new_fits p q k m new fresh) (new_fits q p m k fresh new)),
  )
  effects (Forget r) (ra, ua) (rb, vb) = same_done s t (Forget r) a b u v (λ e. e) (ra ∙ sym rb, alike_is (with_key p r None) (with_key q r None) u v ua vb (alike_without p q (r - 1) x))
  effects (Put r w) e f = same_done s t (Put r w) a b u v (λ e. e) (put_too r w e f)
  effects (Get r) e f = same_done s t (Get r) a b u v (λ e. e) (get_too r e f)
  effects (Del r) e f = same_done s t (Del r) a b u v (λ e. e) (del_too r e f)
  effects (SetWeak slot r) e f = same_done s t (SetWeak slot r) a b u v (λ e. e) (set_too slot r e f)
  effects (GetWeak d slot) e f = look_too s t p q u v d slot a b goes.registers other.registers x (slice_get p.slots slot) (slice_get q.slots slot) refl refl e f
  effects Count c d = record {
    agree = record {
      first = c.number;
      second = d.number;
      first_is = c.answers;
      second_is = d.answers;
      first_few = tallies_few s t p q u v a b before goes other c d;
      second_few = tallies_few t s q p v u b a (swap before) other goes d c;
    };
    alike = λ _. (leans_on p q u v c.goes d.goes x.0, leans_on q p v u d.goes c.goes x.1);
  }
  effects FullMajor (ra, ua, _) (rb, vb, _) = same_done s t FullMajor a b u v (λ e. e) (ra ∙ sym rb, alike_is p q u v ua vb x)

-- A line that isn't refused, from two states that look alike.
line_too : (first second : Version) (y z : Sizes) (before behind : List TableLine) (l : TableLine) (s t : TableState) (a b : LineReply) (u v : TableState) → Alike s t → (a ≡ reply.Full → ⊥) → (b ≡ reply.Full → ⊥)
    → LineStep first y before l s a u → LineStep second z behind l t b v → Done s t l a b u v
line_too first second y z before behind l s t a b u v x none neither step other = done step.does other.does
  where
    after : Alike step.left other.left
    after = (leans_on s t step.left other.left step.goes other.goes x.0, leans_on t s other.left step.left other.goes step.goes x.1)

    done : Effect step.left l a u ⊎ ((a ≡ reply.Full) × (u ≡ step.left) × MayBeRefused first y before l step.left) → Effect other.left l b v ⊎ ((b ≡ reply.Full) × (v ≡ other.left) × MayBeRefused second z behind l other.left) → Done s t l a b u v
    done (inl e) (inl f) = effects s t step.left other.left u v a b x step.goes other.goes after l e f
    done (inr e) _ = absurd (none e.0)
    done (inl e) (inr f) = absurd (neither f.0)

lines_too : (first second : Version) (y z : Sizes) (before behind : List TableLine) (s t : TableState) (lines : List TableLine) (answers others : List LineReply) (us vs : List TableState) → Alike s t
    → MachineRuns first y before s lines answers us → MachineRuns second z behind t lines others vs → NoneRefused answers → NoneRefused others → Parallel s t lines answers others us vs
lines_too first second y z before behind s t [] answers others us vs x runs again none neither = tt
lines_too first second y z before behind s t (l ∷ lines) (a ∷ answers) (b ∷ others) (u ∷ us) (v ∷ vs) x (step, runs) (other, again) none neither =
    let here = line_too first second y z (before ++ l ∷ []) (behind ++ l ∷ []) l s t a b u v x (λ e. none 0 (ap Some e)) (λ e. neither 0 (ap Some e)) step other in
    (here.agree, λ goes. lines_too first second y z (before ++ l ∷ []) (behind ++ l ∷ []) u v lines answers others us vs (here.alike goes) runs again (λ i e. none (suc i) e) (λ i e. neither (suc i) e))
lines_too first second y z before behind s t (l ∷ lines) [] others us vs x runs again none neither = absurd runs
lines_too first second y z before behind s t (l ∷ lines) (a ∷ answers) [] us vs x runs again none neither = absurd again
lines_too first second y z before behind s t (l ∷ lines) (a ∷ answers) (b ∷ others) [] vs x runs again none neither = absurd runs
lines_too first second y z before behind s t (l ∷ lines) (a ∷ answers) (b ∷ others) (u ∷ us) [] x runs again none neither = absurd again

-- before the first line nothing holds a key
none_there : (n i : ℕ) (k : Label) → in_place (replicate n None) i ≡ Some k → ⊥
none_there zero zero k e = cc
none_there zero (suc i) k e = cc
none_there (suc n) zero k e = cc
none_there (suc n) (suc i) k e = none_there n i k e

opened_leans : Leans opened opened
opened_leans = record { registers = refl; places = refl; hold = λ i k at. absurd (none_there 5 i k at); pairs = pairs }
  where
    pairs : (k m : Label) → Pair opened opened k m → Fits opened opened k m
    pairs k m (inl (i, a, b)) = absurd (none_there 5 i k a)
    pairs k m (inr (i, a, b)) = absurd (none_there 16 i k a)

pub texts_law : TextsAgree
texts_law first second y z lines answers others us vs runs again none neither = lines_too first second y z [] [] opened opened lines answers others us vs (opened_leans, opened_leans) runs again none neither
