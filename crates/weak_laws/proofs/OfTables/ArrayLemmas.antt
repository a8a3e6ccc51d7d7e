-- A weak array: its slots, read and written.
use Rattle.std.proofs.Common.{◌≡◌, ◌⊎◌, inl, inr, ⊎_elim, ℕ, zero, suc, Bool, true, false, not, IsTrue, List, [], ◌∷◌, map, length, set, slice_get, Option, Some, None, refl, ap, sym, ◌∙◌, subst}
use Rattle.std.specs.List.{list_all}
use Rattle.std.proofs.lemmas.List.{length-map}
use Rattle.model_core.specs.declared.label.Label.{Label}
use Rattle.model_core.specs.declared.graph.Value.{Value}
use Rattle.model_core.specs.declared.graph.Value.TheVariants.{Block}
use Rattle.model_core.specs.declared.graph.Node.TheVariants.{Ephe}
use Rattle.model_core.specs.Graph.{Graph, same_label, has_label, has_no_repeats, node_at}
use Rattle.model_core.proofs.Graphs.GraphLemmas.{same_label-true, same_label_refl, same_label-false}
use Rattle.model_core.proofs.Reach.ReachLemmas.{or_left, or_right, and_left, and_right, and_both, is_false}
use Rattle.weak_laws.specs.Tables.Structures.{is_weak, key_of, IsWeakArray, slot_keys}
use Rattle.weak_laws.specs.Tables.Thinning.{EmptiedBy, Changes}
use Rattle.weak_laws.proofs.OfTables.OnceLemmas.{lacks, not_both}
use Rattle.weak_laws.proofs.OfTables.ChangeLemmas.{weak_kept}
use Rattle.weak_laws.proofs.OfTables.CellLemmas.{node_is_plain}
use Rattle.weak_laws.proofs.OfTables.LawLemmas.{key_emptied}

-- the field of a slot
pub slot_field : (slots : List Label) (i : ℕ) (e : Label) → slice_get slots i ≡ Some e → slice_get (map Block slots) i ≡ Some (Block e)
slot_field [] i e at = cc
slot_field (x ∷ slots) zero e at = let same : x ≡ e = cc in ap (λ (l : Label). Some (Block l)) same
slot_field (x ∷ slots) (suc i) e at = slot_field slots i e at

pub slot_weak : (g : Graph) (slots : List Label) (i : ℕ) (e : Label) → slice_get slots i ≡ Some e → IsTrue (list_all (λ x. is_weak (node_at g x)) slots) → IsTrue (is_weak (node_at g e))
slot_weak g [] i e at all = cc
slot_weak g (x ∷ slots) zero e at all = let same : x ≡ e = cc in subst (λ (l : Label). IsTrue (is_weak (node_at g l))) same (and_left (is_weak (node_at g x)) _ all)
slot_weak g (x ∷ slots) (suc i) e at all = slot_weak g slots i e at (and_right (is_weak (node_at g x)) _ all)

pub slot_there : (slots : List Label) (i : ℕ) (e : Label) → slice_get slots i ≡ Some e → IsTrue (has_label slots e)
slot_there [] i e at = cc
slot_there (x ∷ slots) zero e at = let same : x ≡ e = cc in or_left (same_label x e) _ (subst (λ (l : Label). IsTrue (same_label x l)) same (same_label_refl x))
slot_there (x ∷ slots) (suc i) e at = or_right (same_label x e) _ (slot_there slots i e at)

pub slots_fields : (slots : List Label) → length (map Block slots) ≡ length slots
slots_fields slots = length-map slots Block

alone : (e l : Label) → same_label e l ≡ false → has_label (e ∷ []) l ≡ false
alone e l differ = rw differ refl

-- one slot's ephemeron gets another key or datum
module _ (P : Label → Type 0) (g h : Graph) (e : Label) (changes : Changes P (e ∷ []) g h) (key : Option Label) (datum : Value) (at : node_at h e ≡ Some (Ephe (key ∷ []) datum)) where
  weak_after : (x : Label) → IsTrue (is_weak (node_at g x)) → IsTrue (is_weak (node_at h x))
  weak_after x weak = go (same_label e x) refl
    where
      go : (b : Bool) → same_label e x ≡ b → IsTrue (is_weak (node_at h x))
      go true same = subst (λ o. IsTrue (is_weak o)) (sym (ap (node_at h) (sym (same_label-true e x same)) ∙ at)) refl
      go false differ = (weak_kept P (e ∷ []) g h changes x (alone e x differ) weak).0

  slots_after : (slots : List Label) → IsTrue (list_all (λ x. is_weak (node_at g x)) slots) → IsTrue (list_all (λ x. is_weak (node_at h x)) slots)
  slots_after [] all = refl
  slots_after (x ∷ slots) all = and_both _ _ (weak_after x (and_left (is_weak (node_at g x)) _ all)) (slots_after slots (and_right (is_weak (node_at g x)) _ all))

  pub array_changed : (root : Label) (slots : List Label) → IsTrue (is_weak (node_at g e)) → IsWeakArray g root slots → IsWeakArray h root slots
  array_changed root slots weak array = record {
    tag = array.tag;
    node = changes root _ array.node (alone e root (node_is_plain g root e array.tag _ array.node weak));
    weak = slots_after slots array.weak;
    once = array.once;
  }

  others_emptied : (slots : List Label) → has_label slots e ≡ false → IsTrue (list_all (λ x. is_weak (node_at g x)) slots) → EmptiedBy P (slot_keys g slots) (slot_keys h slots)
  others_emptied [] none all = refl
  others_emptied (x ∷ slots) none all =
      let differ : same_label e x ≡ false = same_label-false e x (λ same. not_both (x ∷ slots) e (or_left (same_label x e) _ (subst (λ (l : Label). IsTrue (same_label x l)) (sym same) (same_label_refl x))) none) in (
        key_of (node_at h x),
        slot_keys h slots,
        refl,
        key_emptied P (e ∷ []) g h changes (node_at g x) (and_left (is_weak (node_at g x)) _ all) (node_at h x) (λ n is. changes x n is (alone e x differ)),
        others_emptied slots (lacks slots e (λ there. not_both (x ∷ slots) e (or_right (same_label x e) _ there) none)) (and_right (is_weak (node_at g x)) _ all),
      )

  pub keys_changed : (slots : List Label) (i : ℕ) → slice_get slots i ≡ Some e → IsTrue (has_no_repeats slots) → IsTrue (list_all (λ x. is_weak (node_at g x)) slots) → EmptiedBy P (set (slot_keys g slots) i key) (slot_keys h slots)
  keys_changed [] i is once all = cc
  keys_changed (x ∷ slots) zero is once all =
      let same : x ≡ e = cc in
      let none : has_label slots e ≡ false = subst (λ (l : Label). has_label slots l ≡ false) same (is_false _ (and_left (not (has_label slots x)) _ once)) in
      (key_of (node_at h x), slot_keys h slots, refl, inl (ap key_of (ap (node_at h) same ∙ at)), others_emptied slots none (and_right (is_weak (node_at g x)) _ all))
  keys_changed (x ∷ slots) (suc i) is once all =
      let new : has_label slots x ≡ false = is_false _ (and_left (not (has_label slots x)) _ once) in
      let differ : same_label e x ≡ false = same_label-false e x (λ same. not_both slots x (subst (λ (l : Label). IsTrue (has_label slots l)) same (slot_there slots i e is)) new) in (
        key_of (node_at h x),
        slot_keys h slots,
        refl,
        key_emptied P (e ∷ []) g h changes (node_at g x) (and_left (is_weak (node_at g x)) _ all) (node_at h x) (λ n here. changes x n here (alone e x differ)),
        keys_changed slots i is (and_right (not (has_label slots x)) _ once) (and_right (is_weak (node_at g x)) _ all),
      )

-- keys that are emptied in two steps, and where one is set between
pub emptied_more : (P Q : Label → Type 0) → ((k : Label) → P k → Q k) → (a b : List (Option Label)) → EmptiedBy P a b → EmptiedBy Q a b
emptied_more P Q more [] b e = e
emptied_more P Q more (key ∷ a) b (now, rest, is, here, later) = (now, rest, is, ⊎_elim (λ same. inl same) (λ gone. inr (gone.0, (gone.1.0, gone.1.1, more gone.1.0 gone.1.2))) here, emptied_more P Q more a rest later)

pub emptied_set : (P : Label → Type 0) (a b : List (Option Label)) (i : ℕ) (x : Option Label) → EmptiedBy P a b → EmptiedBy P (set a i x) (set b i x)
emptied_set P [] b i x e = ap (λ (l : List (Option Label)). set l i x) e
emptied_set P (key ∷ a) b zero x (now, rest, is, here, later) = (x, rest, ap (λ (l : List (Option Label)). set l zero x) is, inl refl, later)
emptied_set P (key ∷ a) b (suc i) x (now, rest, is, here, later) = (now, set rest i x, ap (λ (l : List (Option Label)). set l (suc i) x) is, here, emptied_set P a rest i x later)

pub emptied_twice : (P : Label → Type 0) (a b c : List (Option Label)) → EmptiedBy P a b → EmptiedBy P b c → EmptiedBy P a c
emptied_twice P [] b c e f = subst (λ (l : List (Option Label)). EmptiedBy P l c) e f
emptied_twice P (key ∷ a) b c (now, rest, is, here, later) f = go (subst (λ (l : List (Option Label)). EmptiedBy P l c) is f) (λ more g. emptied_twice P a rest more later g)
  where
    join : (last : Option Label) → (last ≡ now) ⊎ ((last ≡ None) × ((k : Label) × (now ≡ Some k) × P k)) → (last ≡ key) ⊎ ((last ≡ None) × ((k : Label) × (key ≡ Some k) × P k))
    join last (inl same) = ⊎_elim (λ still. inl (same ∙ still)) (λ gone. inr (same ∙ gone.0, gone.1)) here
    join last (inr (empty, (k, full, p))) = ⊎_elim (λ still. inr (empty, (k, sym still ∙ full, p))) (λ gone. inr (empty, gone.1)) here

    go : EmptiedBy P (now ∷ rest) c → ((more : List (Option Label)) → EmptiedBy P rest more → EmptiedBy P a more) → EmptiedBy P (key ∷ a) c
    go (last, more, ends, there, g) rec = (last, more, ends, join last there, rec more g)
