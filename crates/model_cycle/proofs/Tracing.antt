-- Where nothing is grey and the ephemerons' data follows, the marked blocks are closed; and darkening for a reason marks only what is reachable.
use Rattle.std.proofs.Common.{◌≡◌, ◌≢◌, ◌⊎◌, inl, inr, ⊎_elim, Bool, true, false, cond, not, ◌&&◌, ◌||◌, IsTrue, List, [], option_to_list, Option, Some, None, refl, sym, ap, ◌∙◌, subst}
use Rattle.std.specs.List.{list_all}
use Rattle.std.specs.Option.{option_map_or}
use Rattle.model_core.specs.declared.label.Label.{Label}
use Rattle.model_core.specs.declared.graph.Node.{Node}
use Rattle.model_core.specs.declared.graph.Node.TheVariants.{Plain, Raw, Ephe}
use Rattle.model_core.specs.Graph.{Graph, same_label, has_label, label_of, node_at}
use Rattle.model_core.specs.Reach.{key_holds, edges_of, reachable, is_reachable, HoldsRoots, IsClosedUnder, IsClosedGraph, IsLeastClosed}
use Rattle.model_core.specs.Entries.{full_keys}
use Rattle.model_core.proofs.Reach.ReachLemmas.{not_true, not_false, keys_all, all_keys, or_cases, or_left, or_right, and_left, and_right, and_both, reachable_least, reach_law}
use Rattle.model_core.proofs.Graphs.GraphLemmas.{same_label-false, same_label-true, same_label_refl}
use Rattle.model_cycle.specs.Marks.{Marks, darkened, darkened_as, with_scanned, fields_of, data_of, FieldsMarked, KeysMarked, IsTraced, NoneGrey, DataFollows, IsWhole, MayDarken}

-- more is marked
abbrev pub More : (Label → Bool) → (Label → Bool) → Type 0
More marked other = (l : Label) → IsTrue (marked l) → IsTrue (other l)

pub holds_more : (marked other : Label → Bool) → More marked other → (ls : List Label) → HoldsRoots ls marked → HoldsRoots ls other
holds_more marked other more ls holds l h = more l (holds l h)

-- the marks after a darkening
pub darkened_more : (m : Marks) (l : Label) → More m.marked (darkened m l).marked
darkened_more m l x h = or_right (same_label l x) (m.marked x) h

pub darkened_cases : (m : Marks) (l x : Label) → IsTrue ((darkened m l).marked x) → (l ≡ x) ⊎ IsTrue (m.marked x)
darkened_cases m l x h = ⊎_elim (λ here. inl (same_label-true l x here)) (λ old. inr old) (or_cases (same_label l x) (m.marked x) h)

pub never : (b : Bool) → b ≡ false → IsTrue b → ⊥
never b e h = let clash : false ≡ true = sym e ∙ h in cc

pub darkened_scanned : (m : Marks) (l x : Label) → (l ≡ x → ⊥) → IsTrue (m.scanned x) → IsTrue ((darkened m l).scanned x)
darkened_scanned m l x differ h = and_both (not (same_label l x)) (m.scanned x) (not_false (same_label l x) (same_label-false l x differ)) h

pub unlike : (marked : Label → Bool) (l x : Label) → marked l ≡ false → IsTrue (marked x) → l ≡ x → ⊥
unlike marked l x un h same = never (marked l) un (subst (λ z. IsTrue (marked z)) (sym same) h)

-- what a node keeps alive: its fields, or its data where its keys are alive
module _ (alive other : Label → Bool) where
  abbrev edges : Option Node → List Label
  edges o = option_map_or (edges_of alive) o []

  pub edges_hold : (o : Option Node) → HoldsRoots (fields_of o) other → (HoldsRoots (full_keys o) alive → HoldsRoots (data_of o) other) → HoldsRoots (edges o) other
  edges_hold None fields data_held l h = cc
  edges_hold (Some (Plain tag fs)) fields data_held l h = fields l h
  edges_hold (Some (Raw tag fs)) fields data_held l h = cc
  edges_hold (Some (Ephe keys datum)) fields data_held l h = go (list_all (key_holds alive) keys) refl h
    where
      go : (b : Bool) → list_all (key_holds alive) keys ≡ b → IsTrue (has_label (cond b (option_to_list (label_of datum)) []) l) → IsTrue (other l)
      go true e at = data_held (all_keys alive keys e) l at
      go false e at = cc

  pub held_fields : (o : Option Node) → HoldsRoots (edges o) other → HoldsRoots (fields_of o) other
  held_fields None held l h = cc
  held_fields (Some (Plain tag fs)) held l h = held l h
  held_fields (Some (Raw tag fs)) held l h = cc
  held_fields (Some (Ephe keys datum)) held l h = cc

  pub held_data : (o : Option Node) → HoldsRoots (edges o) other → HoldsRoots (full_keys o) alive → HoldsRoots (data_of o) other
  held_data None held keys_held l h = cc
  held_data (Some (Plain tag fs)) held keys_held l h = cc
  held_data (Some (Raw tag fs)) held keys_held l h = cc
  held_data (Some (Ephe keys datum)) held keys_held l h = go (list_all (key_holds alive) keys) (keys_all alive keys keys_held) held
    where
      go : (b : Bool) → IsTrue b → HoldsRoots (cond b (option_to_list (label_of datum)) []) other → IsTrue (other l)
      go true e all = all l h
      go false e all = cc

-- where nothing is grey and the data follows, the marked blocks are closed
pub closed_when : (g : Graph) (m : Marks) → IsTraced g m → NoneGrey m → DataFollows g m.marked → IsClosedUnder g m.marked
closed_when g m traced none follows l x marked h =
    edges_hold m.marked m.marked (node_at g l) (traced l marked (none l marked)) (follows l marked) x h

-- what is darkened for a reason is reachable
pub reached_by : (g : Graph) (roots : List Label) (marked : Label → Bool) → IsClosedGraph g roots → IsWhole g roots marked
    → (l : Label) → MayDarken g roots marked l → IsTrue (is_reachable g roots l)
reached_by g roots marked graph whole l may = ⊎_elim (λ root. law.holds_roots l root) (λ rest. ⊎_elim (λ t. field t.0 t.1 t.2) (λ t. datum t.0 t.1 t.2 t.3) rest) may
  where
    law : IsLeastClosed g roots (reachable g roots)
    law = reach_law g roots graph

    field : (k : Label) → IsTrue (marked k) → IsTrue (has_label (fields_of (node_at g k)) l) → IsTrue (is_reachable g roots l)
    field k at h = held_fields (is_reachable g roots) (is_reachable g roots) (node_at g k) (λ x e. law.closed k x (whole k at) e) l h

    datum : (k : Label) → IsTrue (marked k) → KeysMarked g marked k → IsTrue (has_label (data_of (node_at g k)) l) → IsTrue (is_reachable g roots l)
    datum k at keys h = held_data (is_reachable g roots) (is_reachable g roots) (node_at g k) (λ x e. law.closed k x (whole k at) e) (holds_more marked (is_reachable g roots) whole (full_keys (node_at g k)) keys) l h

-- a darkening keeps the cycle whole
pub darken_whole : (g : Graph) (roots : List Label) (m : Marks) → IsClosedGraph g roots → IsWhole g roots m.marked
    → (l : Label) → MayDarken g roots m.marked l → IsWhole g roots (darkened m l).marked
darken_whole g roots m graph whole l may x h = ⊎_elim
    (λ same. subst (λ z. IsTrue (is_reachable g roots z)) same (reached_by g roots m.marked graph whole l may))
    (λ old. whole x old)
    (darkened_cases m l x h)

-- a darkening and a scan keep what was scanned free of unmarked fields
pub darken_traced : (g : Graph) (m : Marks) (l : Label) → IsTraced g m → IsTraced g (darkened m l)
darken_traced g m l traced x marked scanned = ⊎_elim
    (λ same. absurd (not_true (same_label l x) (and_left (not (same_label l x)) (m.scanned x) scanned) (subst (λ z. IsTrue (same_label l z)) same (same_label_refl l))))
    (λ old. holds_more m.marked (darkened m l).marked (darkened_more m l) (fields_of (node_at g x)) (traced x old (and_right (not (same_label l x)) (m.scanned x) scanned)))
    (darkened_cases m l x marked)

pub scan_traced : (g : Graph) (m : Marks) (l : Label) → FieldsMarked g m.marked l → IsTraced g m → IsTraced g (with_scanned m l)
scan_traced g m l fields traced x marked scanned = ⊎_elim
    (λ here. subst (FieldsMarked g m.marked) (same_label-true l x here) fields)
    (λ old. traced x marked old)
    (or_cases (same_label l x) (m.scanned x) scanned)

-- a block that is darkened and scanned at once where it needs no scan: what holds of its marks, and which blocks have the scanned mark
pub darkens_as : (P : Marks → Type 0) (m : Marks) (l : Label) (done : Bool) → (done ≡ true → P (with_scanned (darkened m l) l)) → P (darkened m l) → P (darkened_as done m l)
darkens_as P m l true at_once later = at_once refl
darkens_as P m l false at_once later = later

pub scanned_here : (done : Bool) (m : Marks) (l : Label) → done ≡ true → IsTrue ((darkened_as done m l).scanned l)
scanned_here true m l e = or_left (same_label l l) ((darkened m l).scanned l) (same_label_refl l)
scanned_here false m l e = cc

pub scanned_else : (done : Bool) (m : Marks) (l x : Label) → l ≢ x → (darkened_as done m l).scanned x ≡ m.scanned x
scanned_else true m l x differ = ap (λ (b : Bool). b || (not b && m.scanned x)) (same_label-false l x differ)
scanned_else false m l x differ = ap (λ (b : Bool). not b && m.scanned x) (same_label-false l x differ)

-- so at the end of a whole cycle the marked blocks are the reachable ones
pub marked_reach : (g : Graph) (roots : List Label) (marked : Label → Bool) → IsClosedUnder g marked → HoldsRoots roots marked → IsWhole g roots marked
    → (l : Label) → marked l ≡ is_reachable g roots l
marked_reach g roots marked closed holds whole l = go (marked l) (is_reachable g roots l) (whole l) (reachable_least g marked closed roots holds l)
  where
    go : (a b : Bool) → (IsTrue a → IsTrue b) → (IsTrue b → IsTrue a) → a ≡ b
    go true b f g = sym (f refl)
    go false true f g = g refl
    go false false f g = refl
