-- Where all blocks of a table but emptied ephemerons are as they were, it is a table with the same chains, and its bindings are thinned. So with weak arrays.
use Rattle.std.proofs.Common.{◌≡◌, ◌⊎◌, inl, inr, ⊎_elim, ℕ, zero, suc, ◌<◌, Bool, true, false, ◌||◌, IsTrue, List, [], ◌∷◌, ◌++◌, get_or, flat_map, Option, Some, None, refl, sym, ◌∙◌, subst}
use Rattle.std.specs.List.{list_all}
use Rattle.model_core.specs.declared.label.Label.{Label}
use Rattle.model_core.specs.declared.graph.Value.{Value}
use Rattle.model_core.specs.declared.graph.Value.TheVariants.{Nothing}
use Rattle.model_core.specs.declared.graph.Node.{Node}
use Rattle.model_core.specs.declared.graph.Node.TheVariants.{Plain, Raw, Ephe}
use Rattle.model_core.specs.Graph.{Graph, same_label, has_label, node_at, with_node}
use Rattle.model_core.proofs.Graphs.GraphLemmas.{same_label_refl, node_at-with_node_other, node_at-append_old}
use Rattle.model_core.proofs.Reach.ReachLemmas.{or_left, or_right, and_left, and_right, and_both, has-append_left, has-append_right}
use Rattle.weak_laws.specs.Tables.Structures.{Cell, is_weak, binding_of, chain_bindings, bindings, Links, cell_labels, table_labels, IsTable, IsWeakArray, Apart}
use Rattle.weak_laws.specs.Tables.Thinning.{EmptiedBy, LosesSome, ThinnedBy, Thin, Changes}
use Rattle.weak_laws.proofs.OfTables.BindingLemmas.{thinned_same, thinned_append, thinned_bucket, thinned_flat}

-- what an ephemeron of one key has
pub weak_parts : (o : Option Node) → IsTrue (is_weak o) → (key : Option Label) × (datum : Value) × (o ≡ Some (Ephe (key ∷ []) datum))
weak_parts None w = cc
weak_parts (Some (Plain tag fields)) w = cc
weak_parts (Some (Raw tag fields)) w = cc
weak_parts (Some (Ephe [] datum)) w = cc
weak_parts (Some (Ephe (key ∷ []) datum)) w = (key, datum, refl)
weak_parts (Some (Ephe (key ∷ other ∷ keys) datum)) w = cc

-- a label that a list lacks is neither its first nor in the rest
pub not_first : (x : Label) (ls : List Label) (l : Label) → has_label (x ∷ ls) l ≡ false → (same_label x l ≡ false) × (has_label ls l ≡ false)
not_first x ls l none = go (same_label x l) (has_label ls l) none
  where
    go : (a b : Bool) → (a || b) ≡ false → (a ≡ false) × (b ≡ false)
    go true b e = cc
    go false b e = (refl, e)

-- keys of which some are emptied, and then some more
pub emptied_same : (P : Label → Type 0) (keys : List (Option Label)) → EmptiedBy P keys keys
emptied_same P [] = refl
emptied_same P (key ∷ keys) = (key, keys, refl, inl refl, emptied_same P keys)

pub loses_emptied : (P : Label → Type 0) (keys now : List (Option Label)) → LosesSome P keys now → EmptiedBy P keys now
loses_emptied P [] now loses = absurd loses
loses_emptied P (key ∷ keys) now (k, rest, is, inl (none, full, more)) = (k, rest, is, inr (none, full), more)
loses_emptied P (key ∷ keys) now (k, rest, is, inr (same, more)) = (k, rest, is, inl same, loses_emptied P keys rest more)

-- a place that was emptied, or is now
key_twice : (P : Label → Type 0) (key now later : Option Label) → (now ≡ key) ⊎ ((now ≡ None) × ((k : Label) × (key ≡ Some k) × P k)) → (later ≡ now) ⊎ ((later ≡ None) × ((k : Label) × (now ≡ Some k) × P k)) → (later ≡ key) ⊎ ((later ≡ None) × ((k : Label) × (key ≡ Some k) × P k))
key_twice P key now later (inl same) (inl again) = inl (again ∙ same)
key_twice P key now later (inl same) (inr (none, (k, full, gone))) = inr (none, (k, sym same ∙ full, gone))
key_twice P key now later (inr (none, gone)) (inl again) = inr (again ∙ none, gone)
key_twice P key now later (inr (none, gone)) (inr (last, (k, full, more))) = inr (last, gone)

pub emptied_twice : (P : Label → Type 0) (keys now later : List (Option Label)) → EmptiedBy P keys now → EmptiedBy P now later → EmptiedBy P keys later
emptied_twice P [] now later first second = subst (λ (ks : List (Option Label)). EmptiedBy P ks later) first second
emptied_twice P (key ∷ keys) now later (k, rest, is, head, more) second =
    let t = subst (λ (ks : List (Option Label)). EmptiedBy P ks later) is second in
    (t.0, t.1, t.2, key_twice P key k t.0 head t.3, emptied_twice P keys rest t.1 more t.4)

pub loses_twice : (P : Label → Type 0) (keys now later : List (Option Label)) → LosesSome P keys now → EmptiedBy P now later → LosesSome P keys later
loses_twice P [] now later first second = absurd first
loses_twice P (key ∷ keys) now later (k, rest, is, head) second =
    go (λ others more after. loses_twice P keys rest others more after) head (subst (λ (ks : List (Option Label)). EmptiedBy P ks later) is second)
  where
    none_stays : (later k : Option Label) → k ≡ None → (later ≡ k) ⊎ ((later ≡ None) × ((l : Label) × (k ≡ Some l) × P l)) → later ≡ None
    none_stays later k none (inl same) = same ∙ none
    none_stays later k none (inr (empty, gone)) = empty

    go : ((others : List (Option Label)) → LosesSome P keys rest → EmptiedBy P rest others → LosesSome P keys others) → ((k ≡ None) × ((l : Label) × (key ≡ Some l) × P l) × EmptiedBy P keys rest) ⊎ ((k ≡ key) × LosesSome P keys rest) → EmptiedBy P (k ∷ rest) later → LosesSome P (key ∷ keys) later
    go on (inl (none, gone, more)) (j, others, at, place, after) = (j, others, at, inl (none_stays j k none place, gone, emptied_twice P keys rest others more after))
    go on (inr (same, more)) (j, others, at, inl again, after) = (j, others, at, inr (again ∙ same, on others more after))
    go on (inr (same, more)) (j, others, at, inr (empty, (l, full, gone)), after) = (j, others, at, inl (empty, (l, sym same ∙ full, gone), emptied_twice P keys rest others (loses_emptied P keys rest more) after))

-- under a weaker condition
pub emptied_more : (P Q : Label → Type 0) → ((k : Label) → P k → Q k) → (keys now : List (Option Label)) → EmptiedBy P keys now → EmptiedBy Q keys now
emptied_more P Q more [] now e = e
emptied_more P Q more (key ∷ keys) now (k, rest, is, inl same, others) = (k, rest, is, inl same, emptied_more P Q more keys rest others)
emptied_more P Q more (key ∷ keys) now (k, rest, is, inr (none, (l, full, gone)), others) = (k, rest, is, inr (none, (l, full, more l gone)), emptied_more P Q more keys rest others)

pub loses_more : (P Q : Label → Type 0) → ((k : Label) → P k → Q k) → (keys now : List (Option Label)) → LosesSome P keys now → LosesSome Q keys now
loses_more P Q more [] now loses = loses
loses_more P Q more (key ∷ keys) now (k, rest, is, inl (none, (l, full, gone), others)) = (k, rest, is, inl (none, (l, full, more l gone), emptied_more P Q more keys rest others))
loses_more P Q more (key ∷ keys) now (k, rest, is, inr (same, others)) = (k, rest, is, inr (same, loses_more P Q more keys rest others))

module _ (P : Label → Type 0) where
  pub thin_same : (n : Node) → Thin P n (Some n)
  thin_same (Plain tag fields) = refl
  thin_same (Raw tag fields) = refl
  thin_same (Ephe [] datum) = inl refl
  thin_same (Ephe (key ∷ []) datum) = inl refl
  thin_same (Ephe (key ∷ other ∷ keys) datum) = inl refl

  pub thin_is : (n : Node) (o : Option Node) → o ≡ Some n → Thin P n o
  thin_is n o e = subst (Thin P n) (sym e) (thin_same n)

  pub changes_same : (own : List Label) (g : Graph) → Changes P own g g
  changes_same own g l n at other = thin_is n (node_at g l) at

  -- a write to one of the labels, and a new block
  pub changes_write : (own : List Label) (g h : Graph) (l : Label) (new : Node) → IsTrue (has_label own l) → Changes P own g h → Changes P own g (with_node h l new)
  changes_write own g h l new mine changes k n at other =
      let differ : k ≡ l → ⊥ = λ same. let there : has_label own l ≡ false = subst (λ x. has_label own x ≡ false) same other in let clash : true ≡ false = sym mine ∙ there in cc in
      subst (Thin P n) (sym (node_at-with_node_other h l k new differ)) (changes k n at other)

  -- a block is left, if it is no ephemeron
  pub changes_plain : (own : List Label) (g h : Graph) (l : Label) (tag : ℕ) (fields : List Value) → Changes P own g h → has_label own l ≡ false
      → node_at g l ≡ Some (Plain tag fields) → node_at h l ≡ Some (Plain tag fields)
  changes_plain own g h l tag fields changes other at = changes l (Plain tag fields) at other

  -- what a thinned ephemeron of one key is and binds
  thin_weak : (key : Option Label) (datum : Value) (left : Option Node) → Thin P (Ephe (key ∷ []) datum) left
      → IsTrue (is_weak left) × ThinnedBy P (binding_of (Some (Ephe (key ∷ []) datum))) (binding_of left)
  thin_weak key datum left (inl same) =
      (subst (λ o. IsTrue (is_weak o)) (sym same) refl, subst (λ o. ThinnedBy P (binding_of (Some (Ephe (key ∷ []) datum))) (binding_of o)) (sym same) (thinned_same P _))
  thin_weak key datum left (inr (k, is, gone, empty)) = (
    subst (λ o. IsTrue (is_weak o)) (sym empty) refl,
    subst (λ o. ThinnedBy P (binding_of (Some (Ephe (key ∷ []) datum))) (binding_of o)) (sym empty)
        (subst (λ x. ThinnedBy P (binding_of (Some (Ephe (x ∷ []) datum))) []) (sym is) (inr (gone, refl))),
  )

  module _ (own : List Label) (g h : Graph) (changes : Changes P own g h) where
    -- an ephemeron of one key
    pub weak_kept : (e : Label) → has_label own e ≡ false → IsTrue (is_weak (node_at g e)) → IsTrue (is_weak (node_at h e)) × ThinnedBy P (binding_of (node_at g e)) (binding_of (node_at h e))
    weak_kept e other w =
        let f = weak_parts (node_at g e) w in
        let left = thin_weak f.0 f.1 (node_at h e) (changes e (Ephe (f.0 ∷ []) f.1) f.2 other) in
        (left.0, subst (λ o. ThinnedBy P (binding_of o) (binding_of (node_at h e))) (sym f.2) left.1)

    -- a chain
    pub links_kept : (v : Value) (cells : List Cell) → Apart (cell_labels cells) own → Links g v cells → Links h v cells
    links_kept v [] apart links = links
    links_kept v (c ∷ cs) apart (here, (rest, cell, later)) = (
      here,
      (
        rest,
        record {
          tag = cell.tag;
          node = changes c.node _ cell.node (apart c.node (or_left (same_label c.node c.node) _ (same_label_refl c.node)));
          weak = (weak_kept c.ephe (apart c.ephe (or_right (same_label c.node c.ephe) _ (or_left (same_label c.ephe c.ephe) _ (same_label_refl c.ephe)))) cell.weak).0;
        },
        links_kept rest cs (λ l in_rest. apart l (or_right (same_label c.node l) _ (or_right (same_label c.ephe l) _ in_rest))) later,
      ),
    )

    pub chain_thinned : (v : Value) (cells : List Cell) → Apart (cell_labels cells) own → Links g v cells → ThinnedBy P (chain_bindings g cells) (chain_bindings h cells)
    chain_thinned v [] apart links = refl
    chain_thinned v (c ∷ cs) apart (here, (rest, cell, later)) =
        thinned_append P _ _ _ _
        (weak_kept c.ephe (apart c.ephe (or_right (same_label c.node c.ephe) _ (or_left (same_label c.ephe c.ephe) _ (same_label_refl c.ephe)))) cell.weak).1
        (chain_thinned rest cs (λ l in_rest. apart l (or_right (same_label c.node l) _ (or_right (same_label c.ephe l) _ in_rest))) later)

    -- the labels of one chain are the table's
    chain_label : (css : List (List Cell)) (i : ℕ) (l : Label) → IsTrue (has_label (cell_labels (get_or css i [])) l) → IsTrue (has_label (flat_map cell_labels css) l)
    chain_label [] i l h = cc
    chain_label (cs ∷ css) zero l h = has-append_left (cell_labels cs) (flat_map cell_labels css) l h
    chain_label (cs ∷ css) (suc i) l h = has-append_right (cell_labels cs) (flat_map cell_labels css) l (chain_label css i l h)

    module _ (root : Label) (chains : List (List Cell)) (apart : Apart (table_labels root chains) own) (table : IsTable g root chains) where
      chain_apart : (i : ℕ) → Apart (cell_labels (get_or chains i [])) own
      chain_apart i l h = apart l (or_right (same_label root l) _ (chain_label chains i l h))

      pub table_kept : IsTable h root chains
      table_kept = record {
        tag = table.tag;
        fields = table.fields;
        node = changes root _ table.node (apart root (or_left (same_label root root) _ (same_label_refl root)));
        size = table.size;
        count = table.count;
        linked = λ i below. links_kept _ _ (chain_apart i) (table.linked i below);
        once = table.once;
        bucket = λ i below. thinned_bucket P i _ _ (chain_thinned _ _ (chain_apart i) (table.linked i below)) (table.bucket i below);
      }

      pub bindings_thinned : ThinnedBy P (bindings g chains) (bindings h chains)
      bindings_thinned = thinned_flat P (chain_bindings g) (chain_bindings h) chains
          (λ i below. chain_thinned _ _ (chain_apart i) (table.linked i (subst (λ n. i < n) table.count below)))

    -- a weak array, slot by slot
    slots_kept : (slots : List Label) → Apart slots own → IsTrue (list_all (λ e. is_weak (node_at g e)) slots) → IsTrue (list_all (λ e. is_weak (node_at h e)) slots)
    slots_kept [] apart all = refl
    slots_kept (e ∷ slots) apart all =
        and_both _ _ (weak_kept e (apart e (or_left (same_label e e) _ (same_label_refl e))) (and_left (is_weak (node_at g e)) _ all)).0
        (slots_kept slots (λ l later. apart l (or_right (same_label e l) _ later)) (and_right (is_weak (node_at g e)) _ all))

    pub array_kept : (root : Label) (slots : List Label) → Apart (root ∷ slots) own → IsWeakArray g root slots → IsWeakArray h root slots
    array_kept root slots apart array = record {
      tag = array.tag;
      node = changes root _ array.node (apart root (or_left (same_label root root) _ (same_label_refl root)));
      weak = slots_kept slots (λ l later. apart l (or_right (same_label root l) _ later)) array.weak;
      once = array.once;
    }

-- what is left of a block after two changes, one after the other
pub thin_twice : (P : Label → Type 0) (n : Node) (o left : Option Node) → Thin P n o → ((m : Node) → o ≡ Some m → Thin P m left) → Thin P n left
thin_twice P (Plain tag fields) o left t more = more (Plain tag fields) t
thin_twice P (Raw tag fields) o left t more = more (Raw tag fields) t
thin_twice P (Ephe [] datum) o left (inl same) more = more (Ephe [] datum) same
thin_twice P (Ephe [] datum) o left (inr lost) more = absurd lost.1
thin_twice P (Ephe (key ∷ []) datum) o left (inl same) more = more (Ephe (key ∷ []) datum) same
thin_twice P (Ephe (key ∷ []) datum) o left (inr (k, is, gone, empty)) more =
    ⊎_elim (λ still. inr (k, is, gone, still)) (λ again. absurd (let clash : ◌≡◌ {A = Option Label} None (Some again.0) = again.1 in cc)) (more (Ephe (None ∷ []) Nothing) empty)
thin_twice P (Ephe (key ∷ other ∷ keys) datum) o left (inl same) more = more (Ephe (key ∷ other ∷ keys) datum) same
thin_twice P (Ephe (key ∷ other ∷ keys) datum) o left (inr (now, loses, is)) more = inr (again now loses (more (Ephe now Nothing) is))
  where
    whole : List (Option Label)
    whole = key ∷ other ∷ keys

    Left : Type 0
    Left = (later : List (Option Label)) × LosesSome P whole later × (left ≡ Some (Ephe later Nothing))

    again : (now : List (Option Label)) → LosesSome P whole now → Thin P (Ephe now Nothing) left → Left
    again [] loses (inl still) = ([], loses, still)
    again [] loses (inr lost) = absurd lost.1
    again (j ∷ []) loses (inl still) = (j ∷ [], loses, still)
    again (j ∷ []) (k, rest, is, head) (inr (l, full, gone, empty)) = (None ∷ [], loses_twice P whole (j ∷ []) (None ∷ []) (k, rest, is, head) (None, [], refl, inr (refl, (l, full, gone)), refl), empty)
    again (j ∷ i ∷ js) loses (inl still) = (j ∷ i ∷ js, loses, still)
    again (j ∷ i ∷ js) loses (inr (later, more, empty)) = (later, loses_twice P whole (j ∷ i ∷ js) later loses (loses_emptied P (j ∷ i ∷ js) later more), empty)

pub changes_twice : (P : Label → Type 0) (own : List Label) (f g h : Graph) → Changes P own f g → Changes P own g h → Changes P own f h
changes_twice P own f g h a b l n at other = thin_twice P n (node_at g l) (node_at h l) (a l n at other) (λ m here. b l m here other)

-- the second may change besides what is new since the first
pub changes_on : (P : Label → Type 0) (own more : List Label) (f g h : Graph) → Changes P own f g → Changes P more g h → ((l : Label) → IsTrue (has_label more l) → IsTrue (has_label own l) ⊎ (node_at f l ≡ None)) → Changes P own f h
changes_on P own more f g h a b fresh l n at other = thin_twice P n (node_at g l) (node_at h l) (a l n at other) (λ m here. b l m here (go (has_label more l) refl))
  where
    go : (c : Bool) → has_label more l ≡ c → c ≡ false
    go true e = absurd (⊎_elim
        (λ mine. let clash : true ≡ false = sym mine ∙ other in cc)
        (λ none. let clash : ◌≡◌ {A = Option Node} None (Some n) = sym none ∙ at in cc)
        (fresh l e))
    go false e = refl

-- under a weaker condition, and with more labels of one's own
pub thin_more : (P Q : Label → Type 0) → ((k : Label) → P k → Q k) → (n : Node) (o : Option Node) → Thin P n o → Thin Q n o
thin_more P Q more (Plain tag fields) o t = t
thin_more P Q more (Raw tag fields) o t = t
thin_more P Q more (Ephe [] datum) o (inl same) = inl same
thin_more P Q more (Ephe [] datum) o (inr lost) = absurd lost.1
thin_more P Q more (Ephe (key ∷ []) datum) o (inl same) = inl same
thin_more P Q more (Ephe (key ∷ []) datum) o (inr (k, is, gone, empty)) = inr (k, is, more k gone, empty)
thin_more P Q more (Ephe (key ∷ other ∷ keys) datum) o (inl same) = inl same
thin_more P Q more (Ephe (key ∷ other ∷ keys) datum) o (inr (now, loses, is)) = inr (now, loses_more P Q more (key ∷ other ∷ keys) now loses, is)

pub changes_more : (P Q : Label → Type 0) (own more_own : List Label) (g h : Graph) → ((k : Label) → P k → Q k) → ((l : Label) → IsTrue (has_label own l) → IsTrue (has_label more_own l))
    → Changes P own g h → Changes Q more_own g h
changes_more P Q own more_own g h more within changes l n at other = thin_more P Q more n (node_at h l) (changes l n at (go (has_label own l) refl))
  where
    go : (b : Bool) → has_label own l ≡ b → b ≡ false
    go true e = absurd (let there = within l e in let clash : true ≡ false = sym there ∙ other in cc)
    go false e = refl

-- a new block is nowhere in the way
pub changes_append : (P : Label → Type 0) (own : List Label) (g h : Graph) (e : Label × Node) → Changes P own g h → Changes P own g (h ++ e ∷ [])
changes_append P own g h e changes l n at other = go (node_at h l) refl
  where
    grown : (m : Node) → node_at h l ≡ Some m → node_at (h ++ e ∷ []) l ≡ Some m
    grown m here = node_at-append_old h e l m here

    lost : (n : Node) → Thin P n None → (o : Option Node) → Thin P n o
    lost (Plain tag fields) t o = let clash : ◌≡◌ {A = Option Node} None (Some (Plain tag fields)) = t in cc
    lost (Raw tag fields) t o = let clash : ◌≡◌ {A = Option Node} None (Some (Raw tag fields)) = t in cc
    lost (Ephe [] datum) (inl same) o = let clash : ◌≡◌ {A = Option Node} None (Some (Ephe [] datum)) = same in cc
    lost (Ephe [] datum) (inr loses) o = absurd loses.1
    lost (Ephe (key ∷ []) datum) (inl same) o = let clash : ◌≡◌ {A = Option Node} None (Some (Ephe (key ∷ []) datum)) = same in cc
    lost (Ephe (key ∷ []) datum) (inr (k, is, gone, empty)) o = let clash : ◌≡◌ {A = Option Node} None (Some (Ephe (None ∷ []) Nothing)) = empty in cc
    lost (Ephe (key ∷ other ∷ keys) datum) (inl same) o = let clash : ◌≡◌ {A = Option Node} None (Some (Ephe (key ∷ other ∷ keys) datum)) = same in cc
    lost (Ephe (key ∷ other ∷ keys) datum) (inr (now, loses, empty)) o = let clash : ◌≡◌ {A = Option Node} None (Some (Ephe now Nothing)) = empty in cc

    go : (o : Option Node) → node_at h l ≡ o → Thin P n (node_at (h ++ e ∷ []) l)
    go None here = lost n (subst (Thin P n) here (changes l n at other)) (node_at (h ++ e ∷ []) l)
    go (Some m) here = subst (Thin P n) (here ∙ sym (grown m here)) (changes l n at other)
