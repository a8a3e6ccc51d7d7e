-- A scan of the graph finds the node of a label, and the place at which to write another.
use Rattle.std.proofs.Common.{◌≡◌, ◌⊎◌, inl, inr, ℕ, zero, suc, ◌<◌, Bool, true, false, cond, ◌&&◌, eqb, [], ◌∷◌, ◌++◌, length, get_or, Some, None, refl, ap, sym, ◌∙◌, arith, eq-eqb, eqb-true}
use Rattle.std.proofs.lemmas.Option.{get_or_from_slice_get}
use Rattle.model_core.specs.declared.label.Label.{Label}
use Rattle.model_core.specs.declared.graph.Node.{Node}
use Rattle.model_core.specs.Graph.{Graph, same_label, labels, node_at, with_node, IsPlaceOf}

-- both of two tests
pub and_parts : (a b : Bool) → (a && b) ≡ true → (a ≡ true) × (b ≡ true)
and_parts true true e = (refl, refl)
and_parts true false e = cc
and_parts false b e = cc

-- the test tells equal labels
pub same_label-true : (k l : Label) → same_label k l ≡ true → k ≡ l
same_label-true k l e =
    let both = and_parts (eqb k.domain l.domain) (eqb k.serial l.serial) e in
    let domain = eqb-true k.domain l.domain both.0 in
    let serial = eqb-true k.serial l.serial both.1 in
    λ i. record { domain = domain i; serial = serial i }

pub same_label_refl : (l : Label) → same_label l l ≡ true
same_label_refl l = rw (eq-eqb l.domain l.domain refl, eq-eqb l.serial l.serial refl)

-- a graph in which no block has the label
pub node_at_none : (g : Graph) (l : Label) → ((k : ℕ) (d : Label × Node) → k < length g → same_label (get_or g k d).0 l ≡ false) → node_at g l ≡ None
node_at_none [] l none = refl
node_at_none (e ∷ g) l none = rw (none zero e (omega arith)) (node_at_none g l (λ k d h. none (suc k) d (omega arith)))

-- the first block with the label is its place
pub first_place : (g : Graph) (l : Label) (i : ℕ) (d : Label × Node) → i < length g → (get_or g i d).0 ≡ l
    → ((k : ℕ) (d : Label × Node) → k < i → same_label (get_or g k d).0 l ≡ false) → IsPlaceOf g l i
first_place [] l i d lt is before = absurd (omega arith)
first_place (e ∷ g) l zero d lt is before =
    let same : same_label e.0 l ≡ true = rw is (same_label_refl l) in
    let label : ◌≡◌ {A = Label × Node} e (l, e.1) = λ i. (is i, e.1) in
    record {
      node = e.1;
      stands = ap Some label;
      found = rw same refl;
      written = λ n. rw (same, is) refl;
    }
first_place (e ∷ g) l (suc i) d lt is before =
    let other : same_label e.0 l ≡ false = before zero d (omega arith) in
    let later : IsPlaceOf g l i = first_place g l i d (omega arith) is (λ k d h. before (suc k) d (omega arith)) in
    record {
      node = later.node;
      stands = later.stands;
      found = rw other later.found;
      written = λ n. rw other (ap (λ t. e ∷ t) (later.written n));
    }

-- and it tells different ones
pub same_label-false : (k l : Label) → (k ≡ l → ⊥) → same_label k l ≡ false
same_label-false k l differ = go (same_label k l) refl
  where
    go : (b : Bool) → same_label k l ≡ b → b ≡ false
    go true e = absurd (differ (same_label-true k l e))
    go false e = refl

-- what the graph holds after a change: a new node at a label that the graph has
with_node_same_step : (b : Bool) (e : Label × Node) (g h : Graph) (l : Label) (n m : Node) → same_label e.0 l ≡ b
    → (node_at g l ≡ Some m → node_at h l ≡ Some n) → cond b (Some e.1) (node_at g l) ≡ Some m
    → node_at (cond b ((e.0, n) ∷ g) (e ∷ h)) l ≡ Some n
with_node_same_step true e g h l n m is rest has = rw is refl
with_node_same_step false e g h l n m is rest has = rw is (rest has)

pub node_at-with_node_same : (g : Graph) (l : Label) (n m : Node) → node_at g l ≡ Some m → node_at (with_node g l n) l ≡ Some n
node_at-with_node_same [] l n m has = cc
node_at-with_node_same (e ∷ g) l n m has =
    with_node_same_step (same_label e.0 l) e g (with_node g l n) l n m refl (node_at-with_node_same g l n m) has

-- the nodes of other labels stay
with_node_other_step : (b : Bool) (e : Label × Node) (g h : Graph) (l k : Label) (n : Node) → same_label e.0 l ≡ b → (k ≡ l → ⊥)
    → node_at h k ≡ node_at g k → node_at (cond b ((e.0, n) ∷ g) (e ∷ h)) k ≡ cond (same_label e.0 k) (Some e.1) (node_at g k)
with_node_other_step true e g h l k n is other rest =
    let differ : same_label e.0 k ≡ false = same_label-false e.0 k (λ at. other (sym at ∙ same_label-true e.0 l is)) in
    rw differ refl
with_node_other_step false e g h l k n is other rest = ap (cond (same_label e.0 k) (Some e.1)) rest

pub node_at-with_node_other : (g : Graph) (l k : Label) (n : Node) → (k ≡ l → ⊥) → node_at (with_node g l n) k ≡ node_at g k
node_at-with_node_other [] l k n other = refl
node_at-with_node_other (e ∷ g) l k n other =
    with_node_other_step (same_label e.0 l) e g (with_node g l n) l k n refl other (node_at-with_node_other g l k n other)

-- a new block comes last: the nodes that were there stay, and a new label has the new node
pub node_at-append_old : (g : Graph) (e : Label × Node) (l : Label) (n : Node) → node_at g l ≡ Some n → node_at (g ++ e ∷ []) l ≡ Some n
node_at-append_old [] e l n has = cc
node_at-append_old (x ∷ g) e l n has = go (same_label x.0 l) (node_at-append_old g e l n) has
  where
    go : (b : Bool) → (node_at g l ≡ Some n → node_at (g ++ e ∷ []) l ≡ Some n) → cond b (Some x.1) (node_at g l) ≡ Some n
        → cond b (Some x.1) (node_at (g ++ e ∷ []) l) ≡ Some n
    go true rest h = h
    go false rest h = rest h

pub node_at-append_new : (g : Graph) (l : Label) (n : Node) → node_at g l ≡ None → node_at (g ++ (l, n) ∷ []) l ≡ Some n
node_at-append_new [] l n new = rw (same_label_refl l) refl
node_at-append_new (x ∷ g) l n new = go (same_label x.0 l) (node_at-append_new g l n) new
  where
    go : (b : Bool) → (node_at g l ≡ None → node_at (g ++ (l, n) ∷ []) l ≡ Some n) → cond b (Some x.1) (node_at g l) ≡ None
        → cond b (Some x.1) (node_at (g ++ (l, n) ∷ []) l) ≡ Some n
    go true rest h = cc
    go false rest h = rest h

pub labels-with_node : (g : Graph) (l : Label) (n : Node) → labels (with_node g l n) ≡ labels g
labels-with_node [] l n = refl
labels-with_node (e ∷ g) l n =
    elim (same_label e.0 l) as (λ b. labels (cond b ((e.0, n) ∷ g) (e ∷ with_node g l n)) ≡ e.0 ∷ labels g) [
      | true ↦ refl
      | false ↦ ap (λ t. e.0 ∷ t) (labels-with_node g l n)
    ]

-- the block at a label's place is the label's
pub place_node : (g : Graph) (l : Label) (i : ℕ) (x : Label × Node) → IsPlaceOf g l i → x ≡ get_or g i x → node_at g l ≡ Some x.1
place_node g l i x place here =
    let same : ◌≡◌ {A = Label × Node} (l, place.node) x = sym (get_or_from_slice_get g i _ x place.stands) ∙ sym here in
    place.found ∙ ap (λ (e : Label × Node). Some e.1) same

-- the nodes after a change are the new one and the old ones
with_cases_step : (b c : Bool) (e : Label × Node) (g h : Graph) (k : Label) (n m : Node) → same_label e.0 k ≡ c
    → (node_at h k ≡ Some m → (m ≡ n) ⊎ (node_at g k ≡ Some m)) → node_at (cond b ((e.0, n) ∷ g) (e ∷ h)) k ≡ Some m
    → (m ≡ n) ⊎ (cond c (Some e.1) (node_at g k) ≡ Some m)
with_cases_step true true e g h k n m is rest has = inl (let new = rw is at has in cc)
with_cases_step true false e g h k n m is rest has = inr (rw is at has)
with_cases_step false true e g h k n m is rest has = inr (rw is at has)
with_cases_step false false e g h k n m is rest has = rest (rw is at has)

pub node_at-with_node_cases : (g : Graph) (l k : Label) (n m : Node) → node_at (with_node g l n) k ≡ Some m → (m ≡ n) ⊎ (node_at g k ≡ Some m)
node_at-with_node_cases [] l k n m h = inr h
node_at-with_node_cases (e ∷ g) l k n m h =
    with_cases_step (same_label e.0 l) (same_label e.0 k) e g (with_node g l n) k n m refl (node_at-with_node_cases g l k n m) h

pub node_at-append_cases : (g : Graph) (e : Label × Node) (k : Label) (m : Node) → node_at (g ++ e ∷ []) k ≡ Some m → (m ≡ e.1) ⊎ (node_at g k ≡ Some m)
node_at-append_cases [] e k m h = go (same_label e.0 k) h
  where
    go : (b : Bool) → cond b (Some e.1) None ≡ Some m → (m ≡ e.1) ⊎ (None ≡ Some m)
    go true h = inl cc
    go false h = inr h
node_at-append_cases (x ∷ g) e k m h = go (same_label x.0 k) (node_at-append_cases g e k m) h
  where
    go : (b : Bool) → (node_at (g ++ e ∷ []) k ≡ Some m → (m ≡ e.1) ⊎ (node_at g k ≡ Some m)) → cond b (Some x.1) (node_at (g ++ e ∷ []) k) ≡ Some m
        → (m ≡ e.1) ⊎ (cond b (Some x.1) (node_at g k) ≡ Some m)
    go true rest h = inr h
    go false rest h = rest h
