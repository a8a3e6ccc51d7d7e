-- Lists of bindings and of places: what may go, and a key that stays.
use Rattle.std.proofs.Common.{◌≡◌, ◌⊎◌, inl, inr, ⊎_elim, ℕ, zero, suc, ◌<◌, ℤ, Bool, true, false, cond, not, IsTrue, List, [], ◌∷◌, length, get_or, set, slice_get, Option, Some, None, refl, ap, sym, ◌∙◌, subst, arith}
use Rattle.model_core.specs.declared.label.Label.{Label}
use Rattle.model_core.specs.declared.graph.Value.{Value}
use Rattle.model_core.specs.declared.graph.Value.TheVariants.{Int, Block, Nothing}
use Rattle.model_core.specs.Graph.{same_label, has_label, has_no_repeats}
use Rattle.model_core.proofs.Reach.ReachLemmas.{and_left, and_right, is_false}
use Rattle.model_core.proofs.Graphs.GraphLemmas.{same_label-true}
use Rattle.weak_laws.specs.Tables.Structures.{Binding, keys_of, without, datum_at}
use Rattle.weak_laws.specs.Tables.Thinning.{ThinnedBy, EmptiedBy}
use Rattle.weak_laws.proofs.OfTables.BindingLemmas.{thinned_datum, thinned_same, thinned_more, thinned_twice, thinned_keys}
use Rattle.weak_laws.proofs.OfTables.LookupLemmas.{key_unbound, without_unbound}
use Rattle.weak_laws.proofs.OfTables.ArrayLemmas.{emptied_more, emptied_twice}
use Rattle.weak_tables.proofs.SlotLemmas.{emptied_stays}
use Rattle.table_text.specs.Machine.Machine.{TableState, MayGo, IsLost, IsThere, Holds}
use Rattle.table_run.specs.Standing.{IsKnown, AreInts}

emptied_same : (P : Label → Type 0) (ks : List (Option Label)) → EmptiedBy P ks ks
emptied_same P [] = refl
emptied_same P (k ∷ ks) = (k, ks, refl, inl refl, emptied_same P ks)

pub may_same : (s : TableState) → MayGo s s
may_same s = record { registers = refl; bindings = thinned_same (IsLost s) s.bindings; slots = emptied_same (IsLost s) s.slots; together = λ k there. record { datum = refl; slots = λ i at. at } }

-- what is left is known
pub emptied_holds : (P : Label → Type 0) (a b : List (Option Label)) (k : Label) → EmptiedBy P a b → Holds b k → Holds a k
emptied_holds P [] b k e (i, at) = absurd (none i (sym (ap (λ (ks : List (Option Label)). slice_get ks i) e) ∙ at))
  where
    none : (j : ℕ) → slice_get [] j ≡ Some (Some k) → ⊥
    none zero h = cc
    none (suc j) h = cc
emptied_holds P (x ∷ a) b k (now, rest, is, here, later) (zero, at) =
    let first : now ≡ Some k = (let there : Some now ≡ Some (Some k) = sym (ap (λ (ks : List (Option Label)). slice_get ks 0) is) ∙ at in cc) in
    ⊎_elim (λ same. (0, ap Some (sym same ∙ first))) (λ gone. absurd (let clash : None ≡ Some k = sym gone.0 ∙ first in cc)) here
emptied_holds P (x ∷ a) b k (now, rest, is, here, later) (suc i, at) =
    let t = emptied_holds P a rest k later (i, sym (ap (λ (ks : List (Option Label)). slice_get ks (suc i)) is) ∙ at) in (suc t.0, t.1)

pub there_before : (s t : TableState) (k : Label) → MayGo s t → IsThere t k → IsThere s k
there_before s t k x (inl bound) = inl (thinned_keys (IsLost s) _ _ k x.bindings bound)
there_before s t k x (inr slot) = inr (emptied_holds (IsLost s) _ _ k x.slots slot)

pub known_before : (s t : TableState) (k : Label) → MayGo s t → IsKnown t k → IsKnown s k
known_before s t k x (inl held) = inl (subst (λ (rs : List (Option Label)). Holds rs k) x.registers held)
known_before s t k x (inr there) = inr (there_before s t k x there)

pub may_twice : (s t u : TableState) → MayGo s t → MayGo t u → MayGo s u
may_twice s t u x y =
    let lost : (k : Label) → IsLost t k → IsLost s k = λ k none held. none (subst (λ (rs : List (Option Label)). Holds rs k) (sym x.registers) held) in record {
      registers = y.registers ∙ x.registers;
      bindings = thinned_twice (IsLost s) _ _ _ x.bindings (thinned_more (IsLost t) (IsLost s) lost _ _ y.bindings);
      slots = emptied_twice (IsLost s) _ _ _ x.slots (emptied_more (IsLost t) (IsLost s) lost _ _ y.slots);
      together = λ k there. (let late = y.together k there in let early = x.together k (there_before t u k y there) in record { datum = late.datum ∙ early.datum; slots = λ i at. late.slots i (early.slots i at) });
    }

-- keys of which P holds went, and are nowhere afterwards
pub goes_of : (P : Label → Type 0) (s : TableState) (bs : List Binding) (ks : List (Option Label)) → ((k : Label) → P k → IsLost s k) → ThinnedBy P s.bindings bs → EmptiedBy P s.slots ks
    → ((k : Label) → P k → IsThere (record { registers = s.registers; bindings = bs; slots = ks }) k → ⊥) → MayGo s (record { registers = s.registers; bindings = bs; slots = ks })
goes_of P s bs ks lost thin emptied nowhere = record {
  registers = refl;
  bindings = thinned_more P (IsLost s) lost _ _ thin;
  slots = emptied_more P (IsLost s) lost _ _ emptied;
  together = λ k there. record {
    datum = thinned_datum P k (λ gone. nowhere k gone there) s.bindings bs thin;
    slots = λ i at. emptied_stays P i s.slots ks (Some k) emptied (λ j is gone. (let same : k ≡ j = cc in nowhere k (subst P (sym same) gone) there)) at;
  };
}

-- the bindings without a key were thinned: with it, if it was there
pub record Kept (P : Label → Type 0) (k : Label) (a rest : List Binding) : Type 0 where
  pub left : List Binding
  pub thinned : ThinnedBy P a left
  pub others : without k left ≡ rest
  pub datum : datum_at left k ≡ datum_at a k

pub key_kept : (P : Label → Type 0) (k : Label) (a rest : List Binding) → ThinnedBy P (without k a) rest → Kept P k a rest
key_kept P k [] rest t = record { left = []; thinned = refl; others = sym t; datum = refl }
key_kept P k (x ∷ a) rest t = go (same_label x.0 k) refl t (λ more u. key_kept P k a more u)
  where
    go : (b : Bool) → same_label x.0 k ≡ b → ThinnedBy P (cond b (without k a) (x ∷ without k a)) rest → ((more : List Binding) → ThinnedBy P (without k a) more → Kept P k a more) → Kept P k (x ∷ a) rest
    go true e t later =
        let m = later rest t in record {
          left = x ∷ m.left;
          thinned = inl (m.left, refl, m.thinned);
          others = ap (λ b. cond b (without k m.left) (x ∷ without k m.left)) e ∙ m.others;
          datum = ap (λ (o : Option Value). cond (same_label x.0 k) (Some x.1) o) m.datum;
        }
    go false e (inl (more, is, t)) later =
        let m = later more t in record {
          left = x ∷ m.left;
          thinned = inl (m.left, refl, m.thinned);
          others = ap (λ b. cond b (without k m.left) (x ∷ without k m.left)) e ∙ (ap (λ (bs : List Binding). x ∷ bs) m.others ∙ sym is);
          datum = ap (λ (o : Option Value). cond (same_label x.0 k) (Some x.1) o) m.datum;
        }
    go false e (inr (gone, t)) later =
        let m = later rest t in record {
          left = m.left;
          thinned = inr (gone, m.thinned);
          others = m.others;
          datum = m.datum ∙ sym (ap (λ b. cond b (Some x.1) (datum_at a k)) e);
        }

-- a place was set to a key that may not go, and the others were emptied: what it held before is kept or emptied
pub slot_chosen : (P : Label → Type 0) (k : Label) → (P k → ⊥) → (a b : List (Option Label)) (i : ℕ) → i < length a → EmptiedBy P (set a i (Some k)) b
    → (now : Option Label) → (now ≡ get_or a i None) ⊎ ((now ≡ None) × ((j : Label) × (get_or a i None ≡ Some j) × P j)) → EmptiedBy P a (set b i now) × (set (set b i now) i (Some k) ≡ b)
slot_chosen P k kept [] b i below e now choice = absurd (omega arith)
slot_chosen P k kept (x ∷ a) b zero below (n, rest, is, here, later) now choice =
    let first : n ≡ Some k = ⊎_elim (λ same. same) (λ gone. absurd (let was : k ≡ gone.1.0 = (let h = gone.1.1 in cc) in kept (subst P (sym was) gone.1.2))) here in
    ((now, rest, ap (λ (ks : List (Option Label)). set ks 0 now) is, choice, later), ap (λ (ks : List (Option Label)). set (set ks 0 now) 0 (Some k)) is ∙ (ap (λ (o : Option Label). o ∷ rest) (sym first) ∙ sym is))
slot_chosen P k kept (x ∷ a) b (suc i) below (n, rest, is, here, later) now choice =
    let m = slot_chosen P k kept a rest i (omega arith) later now choice in
    ((n, set rest i now, ap (λ (ks : List (Option Label)). set ks (suc i) now) is, here, m.0), ap (λ (ks : List (Option Label)). set (set ks (suc i) now) (suc i) (Some k)) is ∙ (ap (λ (ks : List (Option Label)). n ∷ ks) m.1 ∙ sym is))

-- integers stay integers
pub thinned_ints : (P : Label → Type 0) (a b : List Binding) → ThinnedBy P a b → AreInts a → AreInts b
thinned_ints P [] b t ints = subst AreInts (sym t) tt
thinned_ints P ((k, Int v) ∷ a) b (inl (rest, is, t)) ints = subst AreInts (sym is) (thinned_ints P a rest t ints)
thinned_ints P ((k, Int v) ∷ a) b (inr (gone, t)) ints = thinned_ints P a b t ints
thinned_ints P ((k, Block l) ∷ a) b t ints = absurd ints
thinned_ints P ((k, Nothing) ∷ a) b t ints = absurd ints

pub ints_without : (k : Label) (a : List Binding) → AreInts a → AreInts (without k a)
ints_without k [] ints = tt
ints_without k ((j, Int v) ∷ a) ints = go (same_label j k) (ints_without k a ints)
  where
    go : (b : Bool) → AreInts (without k a) → AreInts (cond b (without k a) ((j, Int v) ∷ without k a))
    go true rest = rest
    go false rest = rest
ints_without k ((j, Block l) ∷ a) ints = absurd ints
ints_without k ((j, Nothing) ∷ a) ints = absurd ints

pub datum_int : (k : Label) (a : List Binding) (v : Value) → AreInts a → datum_at a k ≡ Some v → (w : ℤ) × (v ≡ Int w)
datum_int k [] v ints is = cc
datum_int k ((j, Int w) ∷ a) v ints is = go (same_label j k) is (λ later. datum_int k a v ints later)
  where
    go : (b : Bool) → cond b (Some (Int w)) (datum_at a k) ≡ Some v → (datum_at a k ≡ Some v → (w : ℤ) × (v ≡ Int w)) → (w : ℤ) × (v ≡ Int w)
    go true e rest = (w, cc)
    go false e rest = rest e
datum_int k ((j, Block l) ∷ a) v ints is = absurd ints
datum_int k ((j, Nothing) ∷ a) v ints is = absurd ints

-- a key is bound to an integer, and the others are too
pub ints_with : (k : Label) (a : List Binding) (w : ℤ) → IsTrue (has_no_repeats (keys_of a)) → AreInts (without k a) → datum_at a k ≡ Some (Int w) → AreInts a
ints_with k [] w once ints is = tt
ints_with k ((j, v) ∷ a) w once ints is = go (same_label j k) refl ints is (λ others bound. ints_with k a w later others bound)
  where
    later : IsTrue (has_no_repeats (keys_of a))
    later = and_right (not (has_label (keys_of a) j)) _ once

    whole : (v : Value) → AreInts ((j, v) ∷ without k a) → AreInts (without k a)
    whole (Int z) h = h
    whole (Block l) h = absurd h
    whole (Nothing) h = absurd h

    joined : (v : Value) → AreInts ((j, v) ∷ without k a) → AreInts a → AreInts ((j, v) ∷ a)
    joined (Int z) h rest = rest
    joined (Block l) h rest = absurd h
    joined (Nothing) h rest = absurd h

    go : (b : Bool) → same_label j k ≡ b → AreInts (cond b (without k a) ((j, v) ∷ without k a)) → cond b (Some v) (datum_at a k) ≡ Some (Int w) → (AreInts (without k a) → datum_at a k ≡ Some (Int w) → AreInts a) → AreInts ((j, v) ∷ a)
    go true e ints is rest =
        let same : v ≡ Int w = cc in
        let none : has_label (keys_of a) k ≡ false = subst (λ (x : Label). has_label (keys_of a) x ≡ false) (same_label-true j k e) (is_false _ (and_left (not (has_label (keys_of a) j)) _ once)) in
        subst (λ (x : Value). AreInts ((j, x) ∷ a)) (sym same) (subst AreInts (without_unbound k a (key_unbound k a none)) ints)
    go false e ints is rest = joined v ints (rest (whole v ints) is)

-- a place that holds a key, by its number
pub place_holds : (ps : List (Option Label)) (i : ℕ) (k : Label) → get_or ps i None ≡ Some k → slice_get ps i ≡ Some (Some k)
place_holds [] i k is = absurd (none i is)
  where
    none : (j : ℕ) → get_or [] j None ≡ Some k → ⊥
    none zero h = cc
    none (suc j) h = cc
place_holds (p ∷ ps) zero k is = ap Some is
place_holds (p ∷ ps) (suc i) k is = place_holds ps i k is

pub holds_place : (ps : List (Option Label)) (i : ℕ) (k : Label) → slice_get ps i ≡ Some (Some k) → (get_or ps i None ≡ Some k) × (i < length ps)
holds_place [] zero k at = cc
holds_place [] (suc i) k at = cc
holds_place (p ∷ ps) zero k at = (cc, omega arith)
holds_place (p ∷ ps) (suc i) k at = let t = holds_place ps i k at in (t.0, (let below = t.1 in omega arith))
