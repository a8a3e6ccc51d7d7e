-- Two states of the machine that look alike from their registers.
use Rattle.std.proofs.Common.{◌≡◌, ◌⊎◌, inl, inr, ⊎_elim, ℕ, zero, suc, Bool, true, false, List, [], ◌∷◌, length, length-set, get_or, slice_set, slice_get, Option, Some, None, refl, ap, sym, ◌∙◌, subst, arith}
use Rattle.model_core.specs.declared.label.Label.{Label}
use Rattle.model_core.specs.Graph.{same_label}
use Rattle.model_core.proofs.Graphs.GraphLemmas.{same_label-true, same_label_refl}
use Rattle.weak_laws.specs.Tables.Structures.{datum_at}
use Rattle.weak_laws.specs.Tables.Thinning.{EmptiedBy}
use Rattle.weak_laws.proofs.OfTables.BindingLemmas.{thinned_datum, thinned_same}
use Rattle.weak_laws.proofs.OfTables.ChangeLemmas.{emptied_same}
use Rattle.table_text.specs.Machine.Machine.{Holds, IsLost, KeepsKey, MayGo, TableState}

-- the key in a place
abbrev pub in_place : List (Option Label) → ℕ → Option Label
in_place ps i = get_or ps i None

-- the same place of two lists holds the one label and the other
abbrev pub InBoth : List (Option Label) → List (Option Label) → Label → Label → Type 0
InBoth ps qs k m = (i : ℕ) × (in_place ps i ≡ Some k) × (in_place qs i ≡ Some m)

-- the same register of two states holds them, or the same slot
abbrev pub Pair : TableState → TableState → Label → Label → Type 0
Pair s t k m = InBoth s.registers t.registers k m ⊎ InBoth s.slots t.slots k m

-- wherever the one key is, the other one is, and it is bound alike
pub record Fits (s t : TableState) (k m : Label) : Type 0 where
  pub registers : (j : ℕ) → in_place s.registers j ≡ Some k → in_place t.registers j ≡ Some m
  pub datum : datum_at s.bindings k ≡ datum_at t.bindings m
  pub slots : (j : ℕ) → in_place s.slots j ≡ Some k → in_place t.slots j ≡ Some m

-- the first state is the second, seen from its registers and from what slots of both hold
pub record Leans (s t : TableState) : Type 0 where
  pub registers : length s.registers ≡ length t.registers
  pub places : length s.slots ≡ length t.slots
  pub hold : (i : ℕ) (k : Label) → in_place s.registers i ≡ Some k → (m : Label) × (in_place t.registers i ≡ Some m)
  pub pairs : (k m : Label) → Pair s t k m → Fits s t k m

abbrev pub Alike : TableState → TableState → Type 0
Alike s t = Leans s t × Leans t s

-- Places.
pub some_is : (k m : Label) → Some k ≡ Some m → k ≡ m
some_is k m e = let f : Option Label → Label = λ o. (case_or o k) in ap f e
  where
    case_or : Option Label → Label → Label
    case_or None d = d
    case_or (Some x) d = x

not_none : {A : Type 0} (a b : Option A) → a ≡ None → b ≡ a → (x : A) → b ≡ Some x → ⊥
not_none a b none is x some = let clash : Some x ≡ None = sym some ∙ (is ∙ none) in cc

pub got : (ps : List (Option Label)) (i : ℕ) (o : Option Label) → slice_get ps i ≡ Some o → in_place ps i ≡ o
got [] zero o e = cc
got [] (suc i) o e = cc
got (p ∷ ps) zero o e = let same : p ≡ o = cc in same
got (p ∷ ps) (suc i) o e = got ps i o e

pub gets : (ps : List (Option Label)) (i : ℕ) (k : Label) → in_place ps i ≡ Some k → slice_get ps i ≡ Some (Some k)
gets [] zero k e = cc
gets [] (suc i) k e = cc
gets (p ∷ ps) zero k e = ap Some e
gets (p ∷ ps) (suc i) k e = gets ps i k e

-- a place of two lists of one length is set in both or in none
pub set_two : (xs ys : List (Option Label)) (q i : ℕ) (o p : Option Label) → length xs ≡ length ys
    → ((in_place (slice_set xs q o) i ≡ o) × (in_place (slice_set ys q p) i ≡ p)) ⊎ ((in_place (slice_set xs q o) i ≡ in_place xs i) × (in_place (slice_set ys q p) i ≡ in_place ys i))
set_two [] [] q i o p same = inr (refl, refl)
set_two [] (b ∷ ys) q i o p same = cc
set_two (a ∷ xs) [] q i o p same = cc
set_two (a ∷ xs) (b ∷ ys) zero zero o p same = inl (refl, refl)
set_two (a ∷ xs) (b ∷ ys) zero (suc i) o p same = inr (refl, refl)
set_two (a ∷ xs) (b ∷ ys) (suc q) zero o p same = inr (refl, refl)
set_two (a ∷ xs) (b ∷ ys) (suc q) (suc i) o p same = set_two xs ys q i o p (let e : suc (length xs) ≡ suc (length ys) = same in omega (arith, e))

-- A register holds the key, or none does.
pub held_or_lost : (ps : List (Option Label)) (k : Label) → ((i : ℕ) × (in_place ps i ≡ Some k)) ⊎ (Holds ps k → ⊥)
held_or_lost [] k = inr (λ h. none h.0 h.1)
  where
    none : (i : ℕ) → slice_get [] i ≡ Some (Some k) → ⊥
    none zero e = cc
    none (suc i) e = cc
held_or_lost (p ∷ ps) k = first p refl (held_or_lost ps k)
  where
    later : (p ≡ Some k → ⊥) → (Holds ps k → ⊥) → (i : ℕ) → slice_get (p ∷ ps) i ≡ Some (Some k) → ⊥
    later other lost zero e = other (let same : p ≡ Some k = cc in same)
    later other lost (suc i) e = lost (i, e)

    rest : (p ≡ Some k → ⊥) → ((i : ℕ) × (in_place ps i ≡ Some k)) ⊎ (Holds ps k → ⊥) → ((i : ℕ) × (in_place (p ∷ ps) i ≡ Some k)) ⊎ (Holds (p ∷ ps) k → ⊥)
    rest other (inl (i, at)) = inl (suc i, at)
    rest other (inr lost) = inr (λ h. later other lost h.0 h.1)

    tested : (x : Label) → p ≡ Some x → (c : Bool) → same_label x k ≡ c → ((i : ℕ) × (in_place ps i ≡ Some k)) ⊎ (Holds ps k → ⊥) → ((i : ℕ) × (in_place (p ∷ ps) i ≡ Some k)) ⊎ (Holds (p ∷ ps) k → ⊥)
    tested x is true same below = inl (0, is ∙ ap Some (same_label-true x k same))
    tested x is false other below = rest (λ e. (let equal : x ≡ k = some_is x k (sym is ∙ e) in let clash : true ≡ false = sym (same_label_refl k) ∙ (ap (λ (y : Label). same_label y k) (sym equal) ∙ other) in cc)) below

    first : (o : Option Label) → p ≡ o → ((i : ℕ) × (in_place ps i ≡ Some k)) ⊎ (Holds ps k → ⊥) → ((i : ℕ) × (in_place (p ∷ ps) i ≡ Some k)) ⊎ (Holds (p ∷ ps) k → ⊥)
    first None is below = rest (λ e. let clash : None ≡ Some k = sym is ∙ e in cc) below
    first (Some x) is below = tested x is (same_label x k) refl below

-- Slots that were emptied.
pub emptied_was : (P : Label → Type 0) (a b : List (Option Label)) (j : ℕ) (k : Label) → EmptiedBy P a b → in_place b j ≡ Some k → in_place a j ≡ Some k
emptied_was P [] b j k e at = absurd (none j (sym (ap (λ (ks : List (Option Label)). in_place ks j) e) ∙ at))
  where
    none : (j : ℕ) → in_place [] j ≡ Some k → ⊥
    none zero e = cc
    none (suc j) e = cc
emptied_was P (x ∷ a) b zero k (now, rest, is, here, later) at =
    let first : now ≡ Some k = sym (ap (λ (ks : List (Option Label)). in_place ks 0) is) ∙ at in
    ⊎_elim (λ same. sym same ∙ first) (λ (gone : (now ≡ None) × ((m : Label) × (x ≡ Some m) × P m)). let clash : None ≡ Some k = sym gone.0 ∙ first in cc) here
emptied_was P (x ∷ a) b (suc j) k (now, rest, is, here, later) at = emptied_was P a rest j k later (sym (ap (λ (ks : List (Option Label)). in_place ks (suc j)) is) ∙ at)

pub emptied_keeps : (P : Label → Type 0) (a b : List (Option Label)) (j : ℕ) (k : Label) → EmptiedBy P a b → (P k → ⊥) → in_place a j ≡ Some k → in_place b j ≡ Some k
emptied_keeps P [] b j k e stays at = ap (λ (ks : List (Option Label)). in_place ks j) e ∙ at
emptied_keeps P (x ∷ a) b zero k (now, rest, is, here, later) stays at =
    ap (λ (ks : List (Option Label)). in_place ks 0) is ∙ ⊎_elim (λ same. same ∙ at) (λ (gone : (now ≡ None) × ((m : Label) × (x ≡ Some m) × P m)). absurd (stays (subst P (some_is gone.1.0 k (sym gone.1.1 ∙ at)) gone.1.2))) here
emptied_keeps P (x ∷ a) b (suc j) k (now, rest, is, here, later) stays at = ap (λ (ks : List (Option Label)). in_place ks (suc j)) is ∙ emptied_keeps P a rest j k later stays at

pub emptied_length : (P : Label → Type 0) (a b : List (Option Label)) → EmptiedBy P a b → length b ≡ length a
emptied_length P [] b e = ap length e
emptied_length P (x ∷ a) b (now, rest, is, here, later) = ap length is ∙ ap suc (emptied_length P a rest later)

-- what a register holds isn't lost
held_stays : (s : TableState) (i : ℕ) (k : Label) → in_place s.registers i ≡ Some k → IsLost s k → ⊥
held_stays s i k at lost = lost (i, gets s.registers i k at)

-- so it has lost nothing where keys have gone, nor has what a slot still holds
kept_held : (s u : TableState) (i : ℕ) (k : Label) → MayGo s u → in_place s.registers i ≡ Some k → KeepsKey s u k
kept_held s u i k goes at = record {
  datum = thinned_datum (IsLost s) k (held_stays s i k at) s.bindings u.bindings goes.bindings;
  slots = λ j found. gets u.slots j k (emptied_keeps (IsLost s) s.slots u.slots j k goes.slots (held_stays s i k at) (got s.slots j (Some k) found));
}

kept_slot : (s u : TableState) (i : ℕ) (k : Label) → MayGo s u → in_place u.slots i ≡ Some k → KeepsKey s u k
kept_slot s u i k goes at = goes.together k (inr (i, gets u.slots i k at))

pub may_same : (s : TableState) → MayGo s s
may_same s = record { registers = refl; bindings = thinned_same (IsLost s) s.bindings; slots = emptied_same (IsLost s) s.slots; together = λ k there. record { datum = refl; slots = λ i at. at } }

module _ (s t u v : TableState) (goes : MayGo s u) (other : MayGo t v) where
  back : (i : ℕ) (k : Label) → in_place u.registers i ≡ Some k → in_place s.registers i ≡ Some k
  back i k at = ap (λ (ps : List (Option Label)). in_place ps i) (sym goes.registers) ∙ at

  back_other : (i : ℕ) (k : Label) → in_place v.registers i ≡ Some k → in_place t.registers i ≡ Some k
  back_other i k at = ap (λ (ps : List (Option Label)). in_place ps i) (sym other.registers) ∙ at

  fits_on : (k m : Label) → Fits s t k m → KeepsKey s u k → KeepsKey t v m → Fits u v k m
  fits_on k m fit kept same = record {
    registers = λ j at. ap (λ (ps : List (Option Label)). in_place ps j) other.registers ∙ fit.registers j (back j k at);
    datum = kept.datum ∙ (fit.datum ∙ sym same.datum);
    slots = λ j found. got v.slots j (Some m) (same.slots j (gets t.slots j m (fit.slots j (emptied_was (IsLost s) s.slots u.slots j k goes.slots found))));
  }

  -- what may go changes nothing that a register leads to, or a slot that still holds its key in both
  pub leans_on : Leans s t → Leans u v
  leans_on x = record {
    registers = ap length goes.registers ∙ (x.registers ∙ sym (ap length other.registers));
    places = emptied_length (IsLost s) s.slots u.slots goes.slots ∙ (x.places ∙ sym (emptied_length (IsLost t) t.slots v.slots other.slots));
    hold = λ i k at. (let h = x.hold i k (back i k at) in (h.0, ap (λ (ps : List (Option Label)). in_place ps i) other.registers ∙ h.1));
    pairs = pairs;
  }
    where
      pairs : (k m : Label) → Pair u v k m → Fits u v k m
      pairs k m (inl (i, a, b)) = fits_on k m (x.pairs k m (inl (i, back i k a, back_other i m b))) (kept_held s u i k goes (back i k a)) (kept_held t v i m other (back_other i m b))
      pairs k m (inr (i, a, b)) =
          fits_on k m (x.pairs k m (inr (i, emptied_was (IsLost s) s.slots u.slots i k goes.slots a, emptied_was (IsLost t) t.slots v.slots i m other.slots b))) (kept_slot s u i k goes a) (kept_slot t v i m other b)

-- one key stands for one other
pub pair_one : (s t : TableState) (k m n : Label) → Fits s t k m → Pair s t k n → m ≡ n
pair_one s t k m n fit (inl (i, a, b)) = some_is m n (sym (fit.registers i a) ∙ b)
pair_one s t k m n fit (inr (i, a, b)) = some_is m n (sym (fit.slots i a) ∙ b)

pub flip : (s t : TableState) (k m : Label) → Pair s t k m → Pair t s m k
flip s t k m (inl (i, a, b)) = inl (i, b, a)
flip s t k m (inr (i, a, b)) = inr (i, b, a)

module _ (s t : TableState) (q : ℕ) (x : Leans s t) where
  -- the registers' places are the same
  both_set : (o p : Option Label) → length (slice_set s.registers q o) ≡ length (slice_set t.registers q p)
  both_set o p = length-set s.registers q o ∙ (x.registers ∙ sym (length-set t.registers q p))

  -- one register of each state gets a key
  pub leans_with : (k m : Label) → Fits s t k m → Leans (record s { registers = slice_set s.registers q (Some k) }) (record t { registers = slice_set t.registers q (Some m) })
  leans_with k m fit = record {
    registers = both_set (Some k) (Some m);
    places = x.places;
    hold = hold;
    pairs = λ l n pair. fits l n (was l n pair);
  }
    where
      us : List (Option Label)
      us = slice_set s.registers q (Some k)

      vs : List (Option Label)
      vs = slice_set t.registers q (Some m)

      new : TableState
      new = record s { registers = us }

      other : TableState
      other = record t { registers = vs }

      Was : Label → Label → Type 0
      Was l n = ((l ≡ k) × (n ≡ m)) ⊎ Pair s t l n

      was : (l n : Label) → Pair new other l n → Was l n
      was l n (inl (i, a, b)) = ⊎_elim
          (λ (y : (in_place us i ≡ Some k) × (in_place vs i ≡ Some m)). inl (some_is l k (sym a ∙ y.0), some_is n m (sym b ∙ y.1)))
          (λ (y : (in_place us i ≡ in_place s.registers i) × (in_place vs i ≡ in_place t.registers i)). inr (inl (i, sym y.0 ∙ a, sym y.1 ∙ b)))
          (set_two s.registers t.registers q i (Some k) (Some m) x.registers)
      was l n (inr found) = inr (inr found)

      hold : (i : ℕ) (l : Label) → in_place us i ≡ Some l → (n : Label) × (in_place vs i ≡ Some n)
      hold i l at = ⊎_elim
          (λ (y : (in_place us i ≡ Some k) × (in_place vs i ≡ Some m)). (m, y.1))
          (λ (y : (in_place us i ≡ in_place s.registers i) × (in_place vs i ≡ in_place t.registers i)). (let h = x.hold i l (sym y.0 ∙ at) in (h.0, y.1 ∙ h.1)))
          (set_two s.registers t.registers q i (Some k) (Some m) x.registers)

      -- a key that fits the other one does so afterwards
      fitting : (l n : Label) → Fits s t l n → (l ≡ k → n ≡ m) → Fits new other l n
      fitting l n old one = record {
        registers = λ j at. ⊎_elim
            (λ (y : (in_place us j ≡ Some k) × (in_place vs j ≡ Some m)). y.1 ∙ ap Some (sym (one (some_is l k (sym at ∙ y.0)))))
            (λ (y : (in_place us j ≡ in_place s.registers j) × (in_place vs j ≡ in_place t.registers j)). y.1 ∙ old.registers j (sym y.0 ∙ at))
            (set_two s.registers t.registers q j (Some k) (Some m) x.registers);
        datum = old.datum;
        slots = old.slots;
      }

      fits : (l n : Label) → Was l n → Fits new other l n
      fits l n (inl (e, f)) = fitting l n (subst (λ (y : Label × Label). Fits s t y.0 y.1) (λ i. (sym e i, sym f i)) fit) (λ _. f)
      fits l n (inr pair) = fitting l n (x.pairs l n pair) (λ e. sym (pair_one s t k m n fit (subst (λ (y : Label). Pair s t y n) e pair)))
