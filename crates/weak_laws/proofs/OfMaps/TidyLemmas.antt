-- How many blocks a map without spent ones has.
use Rattle.std.proofs.Common.{◌≡◌, ◌≢◌, inl, inr, ℕ, zero, suc, ◌+◌, ◌*◌, ◌<◌, ◌≤◌, Bool, true, false, ◌||◌, IsTrue, List, [], ◌∷◌, ◌++◌, length, map, get_or, pos, Option, Some, None, cond, refl, ap, sym, ◌∙◌, subst, arith, append_assoc, length-append}
use Rattle.std.specs.Option.{option_map_or}
use Rattle.std.proofs.lemmas.List.{length-map}
use Rattle.model_core.specs.declared.label.Label.{Label}
use Rattle.model_core.specs.declared.entry.Entry.{Entry}
use Rattle.model_core.specs.declared.graph.Value.{Value}
use Rattle.model_core.specs.declared.graph.Value.TheVariants.{Int, Block, Nothing}
use Rattle.model_core.specs.declared.graph.Node.TheVariants.{Plain}
use Rattle.model_core.specs.declared.state.Sizes.{Sizes}
use Rattle.model_core.specs.Graph.{Graph, has_label, node_at, same_label}
use Rattle.model_core.proofs.Graphs.GraphLemmas.{same_label-true, same_label_refl}
use Rattle.weak_laws.specs.Tables.Stages.{graph_of}
use Rattle.weak_laws.specs.Maps.Tries.{at, bound_by, bound_in, ends, inside, fields_of, is_leaf, node_width, way_length, way_to, IsInPlace, IsMap}
use Rattle.weak_laws.specs.Maps.Calls.{bound_after, CleanAnswers, IsTidy}
use Rattle.weak_laws.specs.Maps.Tidy.{AreDistinct, CleanedBlocksAreFew, CleanedLeavesAreFew, IsIn, IsInner, IsLeafAt, TidyBlocksAreFew, TidyBlocksLead}
use Rattle.weak_laws.proofs.OfMaps.FieldLemmas.{FieldHolds, Deeper, Leaf, Zero, at_field, field_holds, plain_is}
use Rattle.weak_laws.proofs.OfMaps.SetLemmas.{stays}
use Rattle.weak_laws.proofs.OfMaps.WalkLemmas.{Walk, at_step, at_stop, ends_at}

module _ (z : Sizes) (h : List Entry) (root : Label) (map_is : IsMap (graph_of z h) root) (tidy : IsTidy (graph_of z h) root) where
  abbrev g : Graph
  g = graph_of z h

  abbrev Leads : List ℕ → Type 0
  Leads p = (r : List ℕ) × IsLeafAt g root (p ++ r)

  -- so many steps may follow
  lead : (steps : ℕ) (p : List ℕ) → length p + steps ≡ way_length → IsInner g root p → Leads p
  lead steps [] many (some, inner) = absurd (some refl)
  lead zero (i ∷ q) many (some, (l, fields, there, plain)) = absurd (let low = map_is.low (i ∷ q) (Block l) fields there plain in omega (arith, low, many))
  lead (suc steps) (i ∷ q) many (some, (l, fields, there, plain)) = by_field (λ p2 long inner. lead steps p2 long inner) (field_holds z h root map_is (i ∷ q) l node.0 fields j there node.1 t.1).3
    where
      t : (j : ℕ) × (j < node_width) × (get_or fields j Nothing ≢ Int (pos 0))
      t = tidy i q (Block l) fields there plain

      j : ℕ
      j = t.0

      node : (tag : ℕ) × (node_at g l ≡ Some (Plain tag fields))
      node = plain_is g l fields plain

      at_it : at (inside g) ((i ∷ q) ++ j ∷ []) (Block root) ≡ Some (get_or fields j Nothing)
      at_it = at_field g (i ∷ q) (Block root) l fields j there plain

      by_field : ((p2 : List ℕ) → length p2 + steps ≡ way_length → IsInner g root p2 → Leads p2) → FieldHolds g (get_or fields j Nothing) → Leads (i ∷ q)
      by_field rec (Zero is) = absurd (t.2 is)
      by_field rec (Leaf m key datum is leaf) = (j ∷ [], (m, at_it ∙ ap Some is, subst is_leaf (sym leaf) tt))
      by_field rec (Deeper m tag fs is inner) =
          let long = length-append (i ∷ q) (j ∷ []) in
          let rest = rec ((i ∷ q) ++ j ∷ []) (omega (arith, long, many)) ((λ e. cc), (m, fs, at_it ∙ ap Some is, ap fields_of inner)) in
          (j ∷ rest.0, subst (IsLeafAt g root) (append_assoc (i ∷ q) (j ∷ []) rest.0) rest.1)

  leads_to_leaf : (p : List ℕ) → IsInner g root p → Leads p
  leads_to_leaf p inner =
      let low = map_is.low p (Block inner.1.0) inner.1.1 inner.1.2 inner.1.3 in
      let s = left_over (length p) way_length low in
      lead s.0 p s.1 inner
    where
      left_over : (n m : ℕ) → n < m → (s : ℕ) × (n + s ≡ m)
      left_over zero m less = (m, omega arith)
      left_over (suc n) zero less = absurd (omega (arith, less))
      left_over (suc n) (suc m) less = let rest = left_over n m (omega (arith, less)) in let is = rest.1 in (rest.0, omega (arith, is))

pub tidy_lead : TidyBlocksLead
tidy_lead z h root map_is tidy p inner = leads_to_leaf z h root map_is tidy p inner

-- the first so many places on the way to one
abbrev heads : ℕ → List ℕ → List (List ℕ)
heads zero p = []
heads (suc n) [] = []
heads (suc n) (a ∷ p) = (a ∷ []) ∷ map (λ (q : List ℕ). a ∷ q) (heads n p)

heads_few : (n : ℕ) (p : List ℕ) → length (heads n p) ≤ n
heads_few zero p = omega arith
heads_few (suc n) [] = omega arith
heads_few (suc n) (a ∷ p) = let rest = heads_few n p in let same = length-map (heads n p) (λ (q : List ℕ). a ∷ q) in omega (arith, rest, same)

in_map : (a : ℕ) (p : List ℕ) (ps : List (List ℕ)) → IsIn p ps → IsIn (a ∷ p) (map (λ (q : List ℕ). a ∷ q) ps)
in_map a p [] here = here
in_map a p (q ∷ ps) (inl same) = inl (ap (λ (w : List ℕ). a ∷ w) same)
in_map a p (q ∷ ps) (inr later) = inr (in_map a p ps later)

heads_has : (n : ℕ) (p r : List ℕ) → p ≢ [] → length p ≤ n → IsIn p (heads n (p ++ r))
heads_has n [] r some few = absurd (some refl)
heads_has zero (a ∷ p) r some few = absurd (omega (arith, few))
heads_has (suc n) (a ∷ []) r some few = inl refl
heads_has (suc n) (a ∷ b ∷ p) r some few = inr (in_map a (b ∷ p) (heads n ((b ∷ p) ++ r)) (heads_has n (b ∷ p) r (λ e. cc) (omega (arith, few))))

in_front : (p : List ℕ) (xs ys : List (List ℕ)) → IsIn p xs → IsIn p (xs ++ ys)
in_front p [] ys here = absurd here
in_front p (x ∷ xs) ys (inl same) = inl same
in_front p (x ∷ xs) ys (inr later) = inr (in_front p xs ys later)

behind : (p : List ℕ) (xs ys : List (List ℕ)) → IsIn p ys → IsIn p (xs ++ ys)
behind p [] ys here = here
behind p (x ∷ xs) ys here = inr (behind p xs ys here)

abbrev all_heads : List (List ℕ) → List (List ℕ)
all_heads [] = []
all_heads (x ∷ xs) = heads 6 x ++ all_heads xs

all_few : (xs : List (List ℕ)) → length (all_heads xs) ≤ 6 * length xs
all_few [] = omega arith
all_few (x ∷ xs) = let rest = all_few xs in let first = heads_few 6 x in let long = length-append (heads 6 x) (all_heads xs) in omega (arith, rest, first, long)

all_have : (p x : List ℕ) (xs : List (List ℕ)) → IsIn x xs → IsIn p (heads 6 x) → IsIn p (all_heads xs)
all_have p x [] there here = absurd there
all_have p x (y ∷ xs) (inl same) here = in_front p (heads 6 y) (all_heads xs) (subst (λ (w : List ℕ). IsIn p (heads 6 w)) same here)
all_have p x (y ∷ xs) (inr later) here = behind p (heads 6 y) (all_heads xs) (all_have p x xs later here)

-- where no place is there twice, and each is one of others, there are no more
split_in : (p : List ℕ) (ys : List (List ℕ)) → IsIn p ys → (a b : List (List ℕ)) × (ys ≡ a ++ p ∷ b)
split_in p [] there = absurd there
split_in p (y ∷ ys) (inl same) = ([], ys, ap (λ (w : List ℕ). w ∷ ys) (sym same))
split_in p (y ∷ ys) (inr later) = let rest = split_in p ys later in (y ∷ rest.0, rest.1, ap (λ (w : List (List ℕ)). y ∷ w) rest.2)

without_it : (q p : List ℕ) (a b : List (List ℕ)) → (q ≡ p → ⊥) → IsIn q (a ++ p ∷ b) → IsIn q (a ++ b)
without_it q p [] b other (inl same) = absurd (other same)
without_it q p [] b other (inr later) = later
without_it q p (c ∷ a) b other (inl same) = inl same
without_it q p (c ∷ a) b other (inr later) = inr (without_it q p a b other later)

no_more : (xs ys : List (List ℕ)) → AreDistinct xs → ((p : List ℕ) → IsIn p xs → IsIn p ys) → length xs ≤ length ys
no_more [] ys distinct all = omega arith
no_more (x ∷ xs) ys (apart, rest) all =
    let s = split_in x ys (all x (inl refl)) in
    let fewer = no_more xs (s.0 ++ s.1) rest (λ p there. without_it p x s.0 s.1 (λ same. apart (subst (λ (w : List ℕ). IsIn w xs) same there)) (subst (IsIn p) s.2 (all p (inr there)))) in
    let whole = ap length s.2 in
    let long = length-append s.0 (x ∷ s.1) in
    let short = length-append s.0 s.1 in
    omega (arith, fewer, whole, long, short)

-- what is told of one of some keys is among what is told of all
way_in : (way : Label → List ℕ) (k : Label) (keys : List Label) → IsTrue (has_label keys k) → IsIn (way k) (map way keys)
way_in way k [] there = let clash : false ≡ true = there in cc
way_in way k (m ∷ keys) there = by (same_label m k) refl (λ later. way_in way k keys later) there
  where
    by : (b : Bool) → same_label m k ≡ b → (IsTrue (has_label keys k) → IsIn (way k) (map way keys)) → IsTrue (has_label (m ∷ keys) k) → IsIn (way k) (map way (m ∷ keys))
    by true same rec here = inl (ap way (sym (same_label-true m k same)))
    by false other rec here = inr (rec (subst (λ (b : Bool). IsTrue (b || has_label keys k)) other here))

-- where each leaf stands on one of some ways, there are at most six blocks for each way
few_on_ways : (z : Sizes) (h : List Entry) (root : Label) → IsMap (graph_of z h) root → (ways blocks : List (List ℕ)) → AreDistinct blocks → ((p : List ℕ) → IsIn p blocks → IsInner (graph_of z h) root p) → IsTidy (graph_of z h) root
    → ((p : List ℕ) → IsLeafAt (graph_of z h) root p → (way : List ℕ) × (q : List ℕ) × IsIn way ways × (way ≡ p ++ q)) → length blocks ≤ 6 * length ways
few_on_ways z h root map_is ways blocks distinct inner tidy on =
    let few = no_more blocks (all_heads ways) distinct each in
    let most = all_few ways in
    omega (arith, few, most)
  where
    each : (p : List ℕ) → IsIn p blocks → IsIn p (all_heads ways)
    each p there =
        let x = inner p there in
        let low = map_is.low p (Block x.1.0) x.1.1 x.1.2 x.1.3 in
        let leaf = tidy_lead z h root map_is tidy p x in
        let w = on (p ++ leaf.0) leaf.1 in
        let split : w.0 ≡ p ++ (leaf.0 ++ w.1) = w.3 ∙ append_assoc p leaf.0 w.1 in
        all_have p w.0 ways w.2 (subst (λ (y : List ℕ). IsIn p (heads 6 y)) (sym split) (heads_has 6 p (leaf.0 ++ w.1) x.0 (omega (arith, low))))

pub tidy_few : TidyBlocksAreFew
tidy_few z h root map_is tidy keys binds placed blocks distinct inner =
    let few = few_on_ways z h root map_is (map (way_to z.domains) keys) blocks distinct inner tidy on in
    let same = length-map keys (way_to z.domains) in
    omega (arith, few, same)
  where
    on : (p : List ℕ) → IsLeafAt (graph_of z h) root p → (way : List ℕ) × (q : List ℕ) × IsIn way (map (way_to z.domains) keys) × (way ≡ p ++ q)
    on p leaf =
        let key = binds p leaf.0 leaf.1 leaf.2 in
        let way = placed p leaf.0 key.0 leaf.1 key.2 in
        (way_to z.domains key.0, way.0, way_in (way_to z.domains) key.0 keys key.1, way.1)

-- the steps of a way that are at plain blocks
abbrev walked : Walk → List ℕ → Value → List ℕ
walked f [] v = []
walked f (i ∷ is) v = option_map_or (λ fields. i ∷ walked f is (get_or fields i Nothing)) (f v) []

walked_to : (f : Walk) (p q : List ℕ) (v u : Value) → at f p v ≡ Some u → f u ≡ None → walked f (p ++ q) v ≡ p
walked_to f [] [] v u there end = refl
walked_to f [] (j ∷ q) v u there end = let same : v ≡ u = cc in let none : f v ≡ None = ap f same ∙ end in rw none refl
walked_to f (i ∷ p) q v u there end = go (f v) refl (λ x here. walked_to f p q x u here end)
  where
    go : (o : Option (List Value)) → f v ≡ o → ((x : Value) → at f p x ≡ Some u → walked f (p ++ q) x ≡ p) → walked f (i ∷ (p ++ q)) v ≡ i ∷ p
    go None e rec = let clash : None ≡ Some u = sym (at_stop f i p v e) ∙ there in cc
    go (Some fields) e rec = rw e (ap (λ (w : List ℕ). i ∷ w) (rec (get_or fields i Nothing) (sym (at_step f i p v fields e) ∙ there)))

-- a leaf that a clean leaves had a key that was bound when the clean began, on whose way it stands
module _ (z : Sizes) (root : Label) (d : ℕ) (old new : List Entry) (empty : Bool) (placed : IsInPlace z.domains (graph_of z old) root) (x : CleanAnswers z root d old new empty) where
  abbrev f : Walk
  f = inside (graph_of z old)

  record Bound (p : List ℕ) : Type 0 where
    pub key : Label
    pub bound : bound_after z root old key ≢ None
    pub q : List ℕ
    pub way : way_to z.domains key ≡ p ++ q
    pub steps : walked f (way_to z.domains key) (Block root) ≡ p

  bound_leaf : (p : List ℕ) → IsLeafAt (graph_of z new) root p → Bound p
  bound_leaf p (l, there, leaf) =
      let had = x.live p l there leaf in
      let end : f (Block l) ≡ None = ap fields_of had.node in
      let own : bound_by (graph_of z old) had.key (Block l) ≡ Some had.datum = ap (bound_in had.key) had.node ∙ ap (λ (b : Bool). cond b (Some had.datum) None) (same_label_refl had.key) in
      let way = placed p l had.key had.there (λ none. let clash : Some had.datum ≡ None = sym own ∙ none in cc) in
      let ends_it : ends f (way_to z.domains had.key) (Block root) ≡ Block l = ap (λ (w : List ℕ). ends f w (Block root)) way.1 ∙ (ends_at f p way.0 (Block root) (Block l) had.there ∙ stays f way.0 (Block l) end) in
      let is : bound_after z root old had.key ≡ Some had.datum = ap (bound_by (graph_of z old) had.key) ends_it ∙ own in record {
        key = had.key;
        bound = λ none. (let clash : Some had.datum ≡ None = sym is ∙ none in cc);
        q = way.0;
        way = way.1;
        steps = ap (λ (w : List ℕ). walked f w (Block root)) way.1 ∙ walked_to f p way.0 (Block root) (Block l) had.there end;
      }

pub cleaned_blocks : CleanedBlocksAreFew
cleaned_blocks z root d old new empty placed map_is x keys all blocks distinct inner =
    let few = few_on_ways z new root map_is (map (way_to z.domains) keys) blocks distinct inner x.tidy
    (λ p leaf. let b = bound_leaf z root d old new empty placed x p leaf in (way_to z.domains b.key, b.q, way_in (way_to z.domains) b.key keys (all b.key b.bound), b.way)) in
    let same = length-map keys (way_to z.domains) in
    omega (arith, few, same)

pub cleaned_leaves : CleanedLeavesAreFew
cleaned_leaves z root d old new empty placed x keys all leaves distinct are =
    let places : List (List ℕ) = map (λ (k : Label). walked (inside (graph_of z old)) (way_to z.domains k) (Block root)) keys in
    let few = no_more leaves places distinct (λ p there.
    let b = bound_leaf z root d old new empty placed x p (are p there) in
    subst (λ (w : List ℕ). IsIn w places) b.steps (way_in (λ (k : Label). walked (inside (graph_of z old)) (way_to z.domains k) (Block root)) b.key keys (all b.key b.bound))) in
    let same = length-map keys (λ (k : Label). walked (inside (graph_of z old)) (way_to z.domains k) (Block root)) in
    omega (arith, few, same)
