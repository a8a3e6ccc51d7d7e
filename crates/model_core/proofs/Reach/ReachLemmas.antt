-- Reachability is the least closed set that holds the roots.
use Rattle.std.proofs.Common.{◌≡◌, ◌⊎◌, ℕ, zero, suc, ◌<◌, ◌≤◌, Bool, true, false, cond, not, ◌&&◌, ◌||◌, IsTrue, List, [], ◌∷◌, ◌++◌, length, filter_map, flat_map, fold, option_to_list, Option, Some, None, refl, sym, subst, inl, inr, ⊎_elim, arith}
use Rattle.std.specs.List.{list_all}
use Rattle.std.specs.Option.{option_map_or}
use Rattle.model_core.specs.declared.label.Label.{Label}
use Rattle.model_core.specs.declared.graph.Node.{Node}
use Rattle.model_core.specs.declared.graph.Node.TheVariants.{Plain, Raw, Ephe}
use Rattle.model_core.specs.Graph.{Graph, same_label, labels, has_label, label_of, node_at}
use Rattle.model_core.specs.Reach.{key_holds, edges_of, edges_at, with_label, grow, grow_rounds, reachable, HoldsRoots, IsClosedUnder, ReachLaw}
use Rattle.model_core.proofs.Graphs.GraphLemmas.{same_label-true, same_label_refl}

-- truth tables
pub or_cases : (a b : Bool) → IsTrue (a || b) → IsTrue a ⊎ IsTrue b
or_cases true b e = inl refl
or_cases false b e = inr e

pub or_left : (a b : Bool) → IsTrue a → IsTrue (a || b)
or_left true b e = refl
or_left false b e = cc

pub or_right : (a b : Bool) → IsTrue b → IsTrue (a || b)
or_right true b e = refl
or_right false b e = e

pub and_left : (a b : Bool) → IsTrue (a && b) → IsTrue a
and_left true b e = refl
and_left false b e = cc

pub and_right : (a b : Bool) → IsTrue (a && b) → IsTrue b
and_right true b e = e
and_right false b e = cc

pub and_both : (a b : Bool) → IsTrue a → IsTrue b → IsTrue (a && b)
and_both true b e f = f
and_both false b e f = cc

pub is_false : (b : Bool) → IsTrue (not b) → b ≡ false
is_false true e = cc
is_false false e = refl

pub not_false : (b : Bool) → b ≡ false → IsTrue (not b)
not_false true e = cc
not_false false e = refl

pub never_true : (b : Bool) → (IsTrue b → ⊥) → b ≡ false
never_true true never = absurd (never refl)
never_true false never = refl

pub never_not : (b : Bool) → (IsTrue b → ⊥) → IsTrue (not b)
never_not b never = not_false b (never_true b never)

pub not_true : (b : Bool) → IsTrue (not b) → IsTrue b → ⊥
not_true true n h = let clash : false ≡ true = n in cc
not_true false n h = let clash : false ≡ true = h in cc

pub true_or_false : (b : Bool) → IsTrue b ⊎ (b ≡ false)
true_or_false true = inl refl
true_or_false false = inr refl

-- each label of the first set is in the second
abbrev pub Within : List Label → List Label → Type 0
Within a b = (x : Label) → IsTrue (has_label a x) → IsTrue (has_label b x)

has_same : (a : List Label) (x y : Label) → x ≡ y → IsTrue (has_label a x) → IsTrue (has_label a y)
has_same a x y e h = subst (λ z. IsTrue (has_label a z)) e h

-- membership in lists made of lists
pub has-append_cases : (a b : List Label) (x : Label) → IsTrue (has_label (a ++ b) x) → IsTrue (has_label a x) ⊎ IsTrue (has_label b x)
has-append_cases [] b x h = inr h
has-append_cases (k ∷ a) b x h = ⊎_elim
    (λ here. inl (or_left (same_label k x) (has_label a x) here))
    (λ later. ⊎_elim (λ l. inl (or_right (same_label k x) (has_label a x) l)) (λ r. inr r) (has-append_cases a b x later))
    (or_cases (same_label k x) (has_label (a ++ b) x) h)

pub has-append_left : (a b : List Label) → Within a (a ++ b)
has-append_left [] b x h = cc
has-append_left (k ∷ a) b x h = ⊎_elim
    (λ here. or_left (same_label k x) (has_label (a ++ b) x) here)
    (λ later. or_right (same_label k x) (has_label (a ++ b) x) (has-append_left a b x later))
    (or_cases (same_label k x) (has_label a x) h)

pub has-append_right : (a b : List Label) → Within b (a ++ b)
has-append_right [] b x h = h
has-append_right (k ∷ a) b x h = or_right (same_label k x) (has_label (a ++ b) x) (has-append_right a b x h)

pub has-flat_map_cases : (f : Label → List Label) (a : List Label) (x : Label) → IsTrue (has_label (flat_map f a) x)
    → (l : Label) × IsTrue (has_label a l) × IsTrue (has_label (f l) x)
has-flat_map_cases f [] x h = cc
has-flat_map_cases f (k ∷ a) x h = ⊎_elim
    (λ here. (k, or_left (same_label k k) (has_label a k) (same_label_refl k), here))
    (λ later. let t = has-flat_map_cases f a x later in (t.0, or_right (same_label k t.0) (has_label a t.0) t.1, t.2))
    (has-append_cases (f k) (flat_map f a) x h)

has-flat_map : (f : Label → List Label) (a : List Label) (l x : Label) → IsTrue (has_label a l) → IsTrue (has_label (f l) x) → IsTrue (has_label (flat_map f a) x)
has-flat_map f [] l x h e = cc
has-flat_map f (k ∷ a) l x h e = ⊎_elim
    (λ here. has-append_left (f k) (flat_map f a) x (subst (λ z. IsTrue (has_label (f z) x)) (sym (same_label-true k l here)) e))
    (λ later. has-append_right (f k) (flat_map f a) x (has-flat_map f a l x later e))
    (or_cases (same_label k l) (has_label a l) h)

-- a set with one more label, or with several
pub with_label_old : (live : List Label) (l : Label) → Within live (with_label live l)
with_label_old live l x h =
    elim (has_label live l) as (λ b. IsTrue (has_label (cond b live (live ++ l ∷ [])) x)) [
      | true ↦ h
      | false ↦ has-append_left live (l ∷ []) x h
    ]

with_label_new : (live : List Label) (l : Label) → IsTrue (has_label (with_label live l) l)
with_label_new live l = go (has_label live l) refl
  where
    go : (b : Bool) → has_label live l ≡ b → IsTrue (has_label (cond b live (live ++ l ∷ [])) l)
    go true e = e
    go false e = has-append_right live (l ∷ []) l (or_left (same_label l l) false (same_label_refl l))

with_label_cases : (live : List Label) (l x : Label) → IsTrue (has_label (with_label live l) x) → IsTrue (has_label live x) ⊎ (l ≡ x)
with_label_cases live l x = go (has_label live l)
  where
    one : IsTrue (has_label (l ∷ []) x) → l ≡ x
    one h = ⊎_elim (λ here. same_label-true l x here) (λ no. cc) (or_cases (same_label l x) false h)

    go : (b : Bool) → IsTrue (has_label (cond b live (live ++ l ∷ [])) x) → IsTrue (has_label live x) ⊎ (l ≡ x)
    go true h = inl h
    go false h = ⊎_elim (λ a. inl a) (λ b. inr (one b)) (has-append_cases live (l ∷ []) x h)

fold_old : (ls live : List Label) → Within live (fold with_label live ls)
fold_old [] live x h = h
fold_old (l ∷ ls) live x h = fold_old ls (with_label live l) x (with_label_old live l x h)

pub fold_new : (ls live : List Label) → Within ls (fold with_label live ls)
fold_new [] live x h = cc
fold_new (l ∷ ls) live x h = ⊎_elim
    (λ here. fold_old ls (with_label live l) x (has_same (with_label live l) l x (same_label-true l x here) (with_label_new live l)))
    (λ later. fold_new ls (with_label live l) x later)
    (or_cases (same_label l x) (has_label ls x) h)

pub fold_within : (ls live : List Label) (alive : Label → Bool) → HoldsRoots live alive → HoldsRoots ls alive → HoldsRoots (fold with_label live ls) alive
fold_within [] live alive a b = a
fold_within (l ∷ ls) live alive a b = fold_within ls (with_label live l) alive
    (λ x h. ⊎_elim (λ old. a x old) (λ e. subst (λ z. IsTrue (alive z)) e (b l (or_left (same_label l l) (has_label ls l) (same_label_refl l)))) (with_label_cases live l x h))
    (λ x h. b x (or_right (same_label l x) (has_label ls x) h))

-- the fold adds nothing where all is there
fold_nothing : (ls live : List Label) → Within ls live → fold with_label live ls ≡ live
fold_nothing [] live a = refl
fold_nothing (l ∷ ls) live a =
    let there : has_label live l ≡ true = a l (or_left (same_label l l) (has_label ls l) (same_label_refl l)) in
    rw there (fold_nothing ls live (λ x h. a x (or_right (same_label l x) (has_label ls x) h)))

data_kept : (b c : Bool) → (IsTrue b → IsTrue c) → (ls : List Label) (x : Label) → IsTrue (has_label (cond b ls []) x) → IsTrue (has_label (cond c ls []) x)
data_kept true true f ls x h = h
data_kept true false f ls x h = absurd (let e : IsTrue false = f refl in cc)
data_kept false c f ls x h = cc

-- more live labels keep more alive
module _ (alive other : Label → Bool) (more : (l : Label) → IsTrue (alive l) → IsTrue (other l)) where
  keys_grow : (keys : List (Option Label)) → IsTrue (list_all (key_holds alive) keys) → IsTrue (list_all (key_holds other) keys)
  keys_grow [] h = refl
  keys_grow (None ∷ keys) h = keys_grow keys h
  keys_grow (Some k ∷ keys) h = and_both (other k) (list_all (key_holds other) keys)
      (more k (and_left (alive k) (list_all (key_holds alive) keys) h))
      (keys_grow keys (and_right (alive k) (list_all (key_holds alive) keys) h))

  edges_grow : (n : Option Node) → Within (option_map_or (edges_of alive) n []) (option_map_or (edges_of other) n [])
  edges_grow None x h = h
  edges_grow (Some (Plain tag fields)) x h = h
  edges_grow (Some (Raw tag fields)) x h = cc
  edges_grow (Some (Ephe keys datum)) x h =
      data_kept (list_all (key_holds alive) keys) (list_all (key_holds other) keys) (keys_grow keys) (option_to_list (label_of datum)) x h

-- full keys that are all alive, as a test of each and as a list
pub keys_all : (alive : Label → Bool) (keys : List (Option Label)) → HoldsRoots (filter_map (λ k. k) keys) alive → IsTrue (list_all (key_holds alive) keys)
keys_all alive [] h = refl
keys_all alive (None ∷ keys) h = keys_all alive keys h
keys_all alive (Some k ∷ keys) h = and_both (alive k) (list_all (key_holds alive) keys)
    (h k (or_left (same_label k k) (has_label (filter_map (λ k. k) keys) k) (same_label_refl k)))
    (keys_all alive keys (λ l at. h l (or_right (same_label k l) (has_label (filter_map (λ k. k) keys) l) at)))

pub all_keys : (alive : Label → Bool) (keys : List (Option Label)) → IsTrue (list_all (key_holds alive) keys) → HoldsRoots (filter_map (λ k. k) keys) alive
all_keys alive [] h l at = cc
all_keys alive (None ∷ keys) h l at = all_keys alive keys h l at
all_keys alive (Some k ∷ keys) h l at = ⊎_elim
    (λ here. subst (λ z. IsTrue (alive z)) (same_label-true k l here) (and_left (alive k) (list_all (key_holds alive) keys) h))
    (λ later. all_keys alive keys (and_right (alive k) (list_all (key_holds alive) keys) h) l later)
    (or_cases (same_label k l) (has_label (filter_map (λ k. k) keys) l) at)

-- a set is closed where it holds what its labels keep alive
abbrev IsClosed : Graph → List Label → Type 0
IsClosed g live = Within (flat_map (edges_at g (has_label live)) live) live

closed_edges : (g : Graph) (live : List Label) → IsClosed g live → IsClosedUnder g (has_label live)
closed_edges g live closed l m h e = closed m (has-flat_map (edges_at g (has_label live)) live l m h e)

pub grow_old : (g : Graph) (live : List Label) → Within live (grow g live)
grow_old g live = fold_old (flat_map (edges_at g (has_label live)) live) live

pub rounds_old : (n : ℕ) (g : Graph) (live : List Label) → Within live (grow_rounds n g live)
rounds_old zero g live x h = h
rounds_old (suc n) g live x h = rounds_old n g (grow g live) x (grow_old g live x h)

-- a closed set that holds the labels at the start holds those of each round
module _ (g : Graph) (alive : Label → Bool) (closed : IsClosedUnder g alive) where
  grow_within : (live : List Label) → HoldsRoots live alive → HoldsRoots (grow g live) alive
  grow_within live a = fold_within (flat_map (edges_at g (has_label live)) live) live alive a
      (λ x h. let t = has-flat_map_cases (edges_at g (has_label live)) live x h in
      closed t.0 x (a t.0 t.1) (edges_grow (has_label live) alive a (node_at g t.0) x t.2))

  rounds_within : (n : ℕ) (live : List Label) → HoldsRoots live alive → HoldsRoots (grow_rounds n g live) alive
  rounds_within zero live a = a
  rounds_within (suc n) live a = rounds_within n (grow g live) (grow_within live a)

-- the labels of the graph that a set lacks
pub missing : Graph → List Label → ℕ
missing [] live = 0
missing (e ∷ g) live = cond (has_label live e.0) (missing g live) (suc (missing g live))

pub missing_most : (g : Graph) (live : List Label) → missing g live ≤ length g
unfolding missing
missing_most [] live = omega arith
missing_most (e ∷ g) live =
    elim (has_label live e.0) as (λ b. cond b (missing g live) (suc (missing g live)) ≤ suc (length g)) [
      | true ↦ omega (arith, missing_most g live)
      | false ↦ omega (arith, missing_most g live)
    ]

missing_none : (g : Graph) (live : List Label) → missing g live ≤ 0 → Within (labels g) live
unfolding missing
missing_none [] live few x h = cc
missing_none (e ∷ g) live few x h = go (has_label live e.0) refl few (λ none. missing_none g live none x)
  where
    go : (b : Bool) → has_label live e.0 ≡ b → cond b (missing g live) (suc (missing g live)) ≤ 0
        → (missing g live ≤ 0 → IsTrue (has_label (labels g) x) → IsTrue (has_label live x)) → IsTrue (has_label live x)
    go true is none later = ⊎_elim
        (λ here. has_same live e.0 x (same_label-true e.0 x here) is)
        (λ rest. later none rest)
        (or_cases (same_label e.0 x) (has_label (labels g) x) h)
    go false is none later = absurd (omega arith)

fewer_step : (b c : Bool) (p q : ℕ) → (IsTrue b → IsTrue c) → q ≤ p → cond c q (suc q) ≤ cond b p (suc p)
fewer_step true true p q f le = le
fewer_step true false p q f le = absurd (let e : IsTrue false = f refl in cc)
fewer_step false true p q f le = omega arith
fewer_step false false p q f le = omega arith

missing_fewer : (g : Graph) (live more : List Label) → Within live more → missing g more ≤ missing g live
unfolding missing
missing_fewer [] live more a = omega arith
missing_fewer (e ∷ g) live more a =
    fewer_step (has_label live e.0) (has_label more e.0) (missing g live) (missing g more) (a e.0) (missing_fewer g live more a)

drop_step : (b c : Bool) (p q : ℕ) → (IsTrue b → IsTrue c) → q ≤ p → (b ≡ c → q < p) → cond c q (suc q) < cond b p (suc p)
drop_step true true p q f le lt = lt refl
drop_step true false p q f le lt = absurd (let e : IsTrue false = f refl in cc)
drop_step false true p q f le lt = omega arith
drop_step false false p q f le lt = let h : q < p = lt refl in omega arith

-- a new label of the graph leaves fewer missing
pub missing_drops : (g : Graph) (live more : List Label) (m : Label) → Within live more → IsTrue (has_label (labels g) m)
    → has_label live m ≡ false → IsTrue (has_label more m) → missing g more < missing g live
unfolding missing
missing_drops [] live more m a known lacks gets = cc
missing_drops (e ∷ g) live more m a known lacks gets =
    drop_step (has_label live e.0) (has_label more e.0) (missing g live) (missing g more) (a e.0) (missing_fewer g live more a)
    (λ same. ⊎_elim
    (λ here. absurd (let at_m = same_label-true e.0 m here in
    let clash : has_label live m ≡ has_label more m = subst (λ z. has_label live z ≡ has_label more z) at_m same in cc))
    (λ rest. missing_drops g live more m a rest lacks gets)
    (or_cases (same_label e.0 m) (has_label (labels g) m) known))

-- whether a set is within another, or lacks a label of it
decide_within : (ls live : List Label) → Within ls live ⊎ ((x : Label) × IsTrue (has_label ls x) × (has_label live x ≡ false))
decide_within [] live = inl (λ x h. cc)
decide_within (l ∷ ls) live = ⊎_elim
    (λ here. ⊎_elim
    (λ rest. inl (λ x h. ⊎_elim (λ e. has_same live l x (same_label-true l x e) here) (λ later. rest x later) (or_cases (same_label l x) (has_label ls x) h)))
    (λ t. inr (t.0, or_right (same_label l t.0) (has_label ls t.0) t.1, t.2))
    (decide_within ls live))
    (λ not_here. inr (l, or_left (same_label l l) (has_label ls l) (same_label_refl l), not_here))
    (true_or_false (has_label live l))

rounds_stay : (n : ℕ) (g : Graph) (live : List Label) → IsClosed g live → grow_rounds n g live ≡ live
rounds_stay zero g live closed = refl
rounds_stay (suc n) g live closed =
    let same : grow g live ≡ live = fold_nothing (flat_map (edges_at g (has_label live)) live) live closed in
    rw same (rounds_stay n g live closed)

-- as many rounds as labels are missing close the set
rounds_closed : (n : ℕ) (g : Graph) (live : List Label)
    → ((alive : Label → Bool) (l m : Label) → IsTrue (has_label (edges_at g alive l) m) → IsTrue (has_label (labels g) m))
    → missing g live ≤ n → IsClosed g (grow_rounds n g live)
rounds_closed zero g live nodes few = λ x h.
    let t = has-flat_map_cases (edges_at g (has_label live)) live x h in
    missing_none g live few x (nodes (has_label live) t.0 x t.2)
rounds_closed (suc n) g live nodes few = ⊎_elim
    (λ closed. subst (IsClosed g) (sym (rounds_stay (suc n) g live closed)) closed)
    (λ t.
    let at = has-flat_map_cases (edges_at g (has_label live)) live t.0 t.1 in
    let drops = missing_drops g live (grow g live) t.0 (grow_old g live) (nodes (has_label live) at.0 t.0 at.2) t.2
    (fold_new (flat_map (edges_at g (has_label live)) live) live t.0 t.1) in
    rounds_closed n g (grow g live) nodes (omega arith))
    (decide_within (flat_map (edges_at g (has_label live)) live) live)

pub reach_law : ReachLaw
unfolding reachable
reach_law g roots whole = record {
  holds_roots = λ l h. rounds_old (length g) g (fold with_label [] roots) l (fold_new roots [] l h);
  closed = closed_edges g _ (rounds_closed (length g) g (fold with_label [] roots) whole.edges_have_nodes (missing_most g _));
  least = λ alive holds closed. rounds_within g alive closed (length g) (fold with_label [] roots) (fold_within roots [] alive (λ x h. cc) holds);
}

-- one more round comes last as well as first
pub grow_rounds-suc : (n : ℕ) (g : Graph) (live : List Label) → grow_rounds (suc n) g live ≡ grow g (grow_rounds n g live)
grow_rounds-suc zero g live = refl
grow_rounds-suc (suc n) g live = grow_rounds-suc n g (grow g live)

-- each root is reachable
pub reachable_roots : (g : Graph) (roots : List Label) → Within roots (reachable g roots)
unfolding reachable
reachable_roots g roots l h = rounds_old (length g) g (fold with_label [] roots) l (fold_new roots [] l h)

-- what is reachable lies in each closed set that holds the roots
pub reachable_least : (g : Graph) (alive : Label → Bool) → IsClosedUnder g alive → (roots : List Label) → HoldsRoots roots alive → HoldsRoots (reachable g roots) alive
unfolding reachable
reachable_least g alive closed roots holds = rounds_within g alive closed (length g) (fold with_label [] roots) (fold_within roots [] alive (λ x h. cc) holds)

-- from more roots more is reachable
module _ (g : Graph) where
  grow_more : (live more : List Label) → Within live more → Within (grow g live) (grow g more)
  grow_more live more within = fold_within (flat_map (edges_at g (has_label live)) live) live (has_label (grow g more))
      (λ x h. grow_old g more x (within x h))
      (λ x h.
      let t = has-flat_map_cases (edges_at g (has_label live)) live x h in
      fold_new (flat_map (edges_at g (has_label more)) more) more x
      (has-flat_map (edges_at g (has_label more)) more t.0 x (within t.0 t.1) (edges_grow (has_label live) (has_label more) within (node_at g t.0) x t.2)))

  rounds_more : (n : ℕ) (live more : List Label) → Within live more → Within (grow_rounds n g live) (grow_rounds n g more)
  rounds_more zero live more within = within
  rounds_more (suc n) live more within = rounds_more n (grow g live) (grow g more) (grow_more live more within)

  pub reachable_more : (roots others : List Label) → Within roots others → Within (reachable g roots) (reachable g others)
  unfolding reachable
  reachable_more roots others within = rounds_more (length g) (fold with_label [] roots) (fold with_label [] others)
      (fold_within roots [] (has_label (fold with_label [] others)) (λ x h. cc) (λ x h. fold_new others [] x (within x h)))
