-- What a call's own entries do to a map, and how the entries of a call come together.
use Rattle.std.proofs.Common.{◌≡◌, ◌≢◌, ◌⊎◌, inl, inr, ⊎_elim, ℕ, zero, suc, true, false, List, [], ◌∷◌, ◌++◌, length, get_or, replicate, pos, Option, Some, None, refl, ap, sym, ◌∙◌, subst, arith, append_assoc, append-nil}
use Rattle.model_core.specs.declared.label.Label.{Label}
use Rattle.model_core.specs.declared.command.Command.{Command}
use Rattle.model_core.specs.declared.entry.Entry.{Entry}
use Rattle.model_core.specs.declared.entry.Entry.TheVariants.{Command as CommandOf}
use Rattle.model_core.specs.declared.graph.Value.{Value}
use Rattle.model_core.specs.declared.graph.Value.TheVariants.{Int, Block, Nothing}
use Rattle.model_core.specs.declared.graph.Node.{Node}
use Rattle.model_core.specs.declared.graph.Node.TheVariants.{Plain, Raw, Ephe}
use Rattle.model_core.specs.declared.reply.Reply.{Reply}
use Rattle.model_core.specs.declared.state.Sizes.{Sizes}
use Rattle.model_core.specs.Graph.{Graph, node_at, with_node}
use Rattle.model_core.specs.Entries.{next}
use Rattle.model_core.specs.Fronts.{EpheShape, shape_of, Grew}
use Rattle.model_core.specs.History.{IsPrefix, is_entry_of}
use Rattle.model_core.proofs.Commands.FrameLemmas.{grew_same, grew_after, grew_next}
use Rattle.model_core.proofs.Graphs.GraphLemmas.{node_at-with_node_other, node_at-append_old}
use Rattle.weak_laws.specs.Tables.Thinning.{IsOutside, state_of}
use Rattle.weak_laws.specs.Tables.Stages.{graph_of}
use Rattle.weak_laws.specs.Tables.Performing.{Performed}
use Rattle.weak_laws.proofs.OfTables.ChangeLemmas.{thin_is}
use Rattle.weak_laws.proofs.OfTables.StepLemmas.{collector_none}
use Rattle.weak_laws.specs.Maps.Tries.{inside, fields_of, at, is_leaf, way_to, root_width, width_at, IsSlot, IsMap, found, ends, bound_by}
use Rattle.weak_laws.specs.Maps.Steps.{Untouched, IsUntouched, SparesLeaves, RespectsMap, OwnRespect}
use Rattle.weak_laws.specs.Maps.Calls.{bound_after, OwnKeep, Looks, ChangesOne, PerformedBy}
use Rattle.weak_laws.specs.Maps.MapLaws.{NewMapIsEmpty}
use Rattle.weak_laws.proofs.OfMaps.MapLemmas.{untouched_binds}
use Rattle.weak_laws.proofs.OfMaps.RespectLemmas.{graph_push}
use Rattle.weak_laws.proofs.OfMaps.FrontLemmas.{prefix_trans, walk_along, before_or_behind, drop_front, other_between, own_is_last}
use Rattle.weak_laws.proofs.OfMaps.CallLemmas.{to_middle, from_middle}
use Rattle.weak_laws.proofs.OfMaps.WalkLemmas.{at_step, at_stop, ends_step, ends_stop}

-- an entry that leaves the graph
pub reading_untouched : (g h : Graph) (root : Label) → h ≡ g → IsUntouched g h root
reading_untouched g h root same p l there = ap (λ (x : Graph). node_at x l) same

pub reading_respects : (z : Sizes) (root : Label) (front : List Entry) (e : Entry) → (next (state_of z front) e).graph ≡ graph_of z front → RespectsMap z root front e
reading_respects z root front e same = record {
  step = Untouched (reading_untouched (graph_of z front) (next (state_of z front) e).graph root same);
  leaves = λ former p l n before there leaf node. thin_is (IsOutside (state_of z front)) n (node_at (next (state_of z front) e).graph l) (ap (λ (x : Graph). node_at x l) same ∙ node);
}

-- where a block stands in a map, there is one
pub there_is : (g : Graph) (root : Label) → IsMap g root → (p : List ℕ) (l : Label) → at (inside g) p (Block root) ≡ Some (Block l) → (n : Node) × (node_at g l ≡ Some n)
there_is g root map p l there = go (node_at g l) refl (map.slots p (Block l) there)
  where
    go : (o : Option Node) → node_at g l ≡ o → (is_leaf o ⊎ ((fields : List Value) × (fields_of o ≡ Some fields))) → (n : Node) × (node_at g l ≡ Some n)
    go None e (inl leaf) = absurd leaf
    go None e (inr (fs, is)) = cc
    go (Some n) e slot = (n, e)

-- one that makes a new block
pub fresh_untouched : (g h : Graph) (root : Label) → IsMap g root → (x : Label × Node) → h ≡ g ++ x ∷ [] → IsUntouched g h root
fresh_untouched g h root map x grown p l there =
    let n = there_is g root map p l there in
    ap (λ (y : Graph). node_at y l) grown ∙ (node_at-append_old g x l n.0 n.1 ∙ sym n.1)

pub fresh_respects : (z : Sizes) (root : Label) (front : List Entry) (e : Entry) → IsMap (graph_of z front) root → (x : Label × Node) → (next (state_of z front) e).graph ≡ graph_of z front ++ x ∷ [] → RespectsMap z root front e
fresh_respects z root front e map x grown = record {
  step = Untouched (fresh_untouched (graph_of z front) (next (state_of z front) e).graph root map x grown);
  leaves = λ former p l n before there leaf node.
      thin_is (IsOutside (state_of z front)) n (node_at (next (state_of z front) e).graph l) (ap (λ (y : Graph). node_at y l) grown ∙ node_at-append_old (graph_of z front) x l n node);
}

-- a block that doesn't stand in a map, and never stood there as a leaf
pub record IsApart (z : Sizes) (root : Label) (front : List Entry) (l : Label) : Type 0 where
  pub now : (p : List ℕ) → at (inside (graph_of z front)) p (Block root) ≡ Some (Block l) → ⊥
  pub never : (former : List Entry) (p : List ℕ) → IsPrefix former front → at (inside (graph_of z former)) p (Block root) ≡ Some (Block l) → is_leaf (node_at (graph_of z former) l) → ⊥

-- one that writes such a block
pub apart_untouched : (g h : Graph) (root l : Label) (n : Node) → ((p : List ℕ) → at (inside g) p (Block root) ≡ Some (Block l) → ⊥) → h ≡ with_node g l n → IsUntouched g h root
apart_untouched g h root l n apart written p k there =
    ap (λ (y : Graph). node_at y k) written ∙ node_at-with_node_other g l k n (λ same. apart p (there ∙ ap (λ (x : Label). Some (Block x)) same))

pub apart_respects : (z : Sizes) (root : Label) (front : List Entry) (e : Entry) (l : Label) (n : Node) → IsApart z root front l → (next (state_of z front) e).graph ≡ with_node (graph_of z front) l n → RespectsMap z root front e
apart_respects z root front e l n apart written = record {
  step = Untouched (apart_untouched (graph_of z front) (next (state_of z front) e).graph root l n apart.now written);
  leaves = λ former p k m before there leaf node. thin_is (IsOutside (state_of z front)) m (node_at (next (state_of z front) e).graph k)
      (ap (λ (y : Graph). node_at y k) written
      ∙ (node_at-with_node_other (graph_of z front) l k n (λ same.
      let at_l : at (inside (graph_of z former)) p (Block root) ≡ Some (Block l) = there ∙ ap (λ (x : Label). Some (Block x)) same in
      let leaf_l : is_leaf (node_at (graph_of z former) l) = subst (λ (x : Label). is_leaf (node_at (graph_of z former) x)) same leaf in
      apart.never former p before at_l leaf_l) ∙ node));
}

-- a leaf stays an ephemeron of one key
pub grew_along : (z : Sizes) (old new : List Entry) → IsPrefix old new → Grew (graph_of z old) (graph_of z new)
grew_along z old new grows = walk_along (λ h. Grew (graph_of z old) (graph_of z h)) old new grows
    (λ f e a b grew. subst (λ (g : Graph). Grew (graph_of z old) g) (sym (graph_push z f e)) (grew_after (graph_of z old) (graph_of z f) (next (state_of z f) e).graph grew (grew_next (state_of z f) e)))
    (grew_same (graph_of z old) (graph_of z old) refl)

ephe_of : (m : Node) → shape_of m ≡ EpheShape 1 → (key : Option Label) × (datum : Value) × (m ≡ Ephe (key ∷ []) datum)
ephe_of (Plain tag fields) e = cc
ephe_of (Raw tag fields) e = cc
ephe_of (Ephe [] datum) e = cc
ephe_of (Ephe (key ∷ []) datum) e = (key, datum, refl)
ephe_of (Ephe (key ∷ key2 ∷ keys) datum) e = cc

pub leaf_stays : (z : Sizes) (old new : List Entry) (l : Label) → IsPrefix old new → is_leaf (node_at (graph_of z old) l) → (key : Option Label) × (datum : Value) × (node_at (graph_of z new) l ≡ Some (Ephe (key ∷ []) datum))
leaf_stays z old new l grows leaf = go (node_at (graph_of z old) l) refl leaf
  where
    go : (o : Option Node) → node_at (graph_of z old) l ≡ o → is_leaf o → (key : Option Label) × (datum : Value) × (node_at (graph_of z new) l ≡ Some (Ephe (key ∷ []) datum))
    go None e x = absurd x
    go (Some (Plain tag fields)) e x = absurd x
    go (Some (Raw tag fields)) e x = absurd x
    go (Some (Ephe [] datum)) e x = absurd x
    go (Some (Ephe (key ∷ key2 ∷ keys) datum)) e x = absurd x
    go (Some (Ephe (key ∷ []) datum)) e x =
        let grew = grew_along z old new grows l (Ephe (key ∷ []) datum) e in
        let is = ephe_of grew.0 grew.2 in
        (is.0, is.1, grew.1 ∙ ap Some is.2)

-- one that writes a plain block spares all leaves
pub plain_spares : (z : Sizes) (root : Label) (front : List Entry) (e : Entry) (block : Label) (tag : ℕ) (fields : List Value) (n : Node) → node_at (graph_of z front) block ≡ Some (Plain tag fields)
    → (next (state_of z front) e).graph ≡ with_node (graph_of z front) block n → SparesLeaves z root front e
plain_spares z root front e block tag fields n plain written former p l m before there leaf node =
    thin_is (IsOutside (state_of z front)) m (node_at (next (state_of z front) e).graph l)
    (ap (λ (y : Graph). node_at y l) written
    ∙ (node_at-with_node_other (graph_of z front) block l n (λ same.
    let is = leaf_stays z former front l before leaf in
    let clash : Some (Plain tag fields) ≡ Some (Ephe (is.0 ∷ []) is.1) = sym plain ∙ (ap (node_at (graph_of z front)) (sym same) ∙ is.2) in
    cc) ∙ node))

-- an untouched map binds what it bound
pub untouched_keeps : (z : Sizes) (root : Label) (front : List Entry) (e : Entry) → IsMap (graph_of z front) root → IsUntouched (graph_of z front) (next (state_of z front) e).graph root
    → (l : Label) → bound_after z root (front ++ e ∷ []) l ≡ bound_after z root front l
untouched_keeps z root front e map same l =
    ap (λ (g : Graph). found z.domains g root l) (graph_push z front e) ∙ untouched_binds z.domains (graph_of z front) (next (state_of z front) e).graph root map same l

-- no entry stands behind a front and before it
pub nothing_between : (h front : List Entry) (e : Entry) → IsPrefix h front → IsPrefix (front ++ e ∷ []) h → ⊥
nothing_between h front e since until = clash since.rest (drop_front h [] (since.rest ++ e ∷ until.rest)
    (append-nil h ∙ (until.appends ∙ (append_assoc front (e ∷ []) until.rest ∙ (ap (λ (x : List Entry). x ++ e ∷ until.rest) since.appends ∙ append_assoc h since.rest (e ∷ until.rest))))))
  where
    clash : (x : List Entry) → [] ≡ x ++ e ∷ until.rest → ⊥
    clash [] is = cc
    clash (a ∷ x) is = cc

module _ (z : Sizes) (root : Label) (d : ℕ) where
  -- a call that has made no entry looks
  pub keeps_none : (h : List Entry) → OwnKeep z root d h h
  keeps_none h f e a b own l = absurd (nothing_between h f e a b)

  pub looks_none : (h : List Entry) → Looks z root d h h
  looks_none h = record { keeps = keeps_none h; respects = λ f e a b own. absurd (nothing_between h f e a b) }

  pub keeps_twice : (old now new : List Entry) → IsPrefix now new → OwnKeep z root d old now → OwnKeep z root d now new → OwnKeep z root d old new
  keeps_twice old now new grows first last f e a b own l = ⊎_elim (λ before. first f e a before own l) (λ behind. last f e behind b own l) (before_or_behind now new f e grows b)

  respects_twice : (old now new : List Entry) → IsPrefix now new → OwnRespect z root d old now → OwnRespect z root d now new → OwnRespect z root d old new
  respects_twice old now new grows first last f e a b own = ⊎_elim (λ before. first f e a before own) (λ behind. last f e behind b own) (before_or_behind now new f e grows b)

  pub looks_twice : (old now new : List Entry) → IsPrefix now new → Looks z root d old now → Looks z root d now new → Looks z root d old new
  looks_twice old now new grows first last = record { keeps = keeps_twice old now new grows first.keeps last.keeps; respects = respects_twice old now new grows first.respects last.respects }

  -- a change with looks before and behind
  pub changes_behind : (old now new : List Entry) (k : Label) (before after : Option Value) → IsPrefix old now → Looks z root d old now → IsPrefix now new → ChangesOne z root d now new k before after → ChangesOne z root d old new k before after
  changes_behind old now new k before after first looks grows x = record {
    front = x.front;
    entry = x.entry;
    since = prefix_trans old now x.front first x.since;
    until = x.until;
    own = x.own;
    was = x.was;
    binds = x.binds;
    others = x.others;
    first = keeps_twice old now x.front x.since looks.keeps x.first;
    last = x.last;
    respects = respects_twice old now new grows looks.respects x.respects;
  }

  pub changes_before : (old now new : List Entry) (k : Label) (before after : Option Value) → IsPrefix now new → ChangesOne z root d old now k before after → Looks z root d now new → ChangesOne z root d old new k before after
  changes_before old now new k before after grows x looks = record {
    front = x.front;
    entry = x.entry;
    since = x.since;
    until = prefix_trans (x.front ++ x.entry ∷ []) now new x.until grows;
    own = x.own;
    was = x.was;
    binds = x.binds;
    others = x.others;
    first = x.first;
    last = keeps_twice (x.front ++ x.entry ∷ []) now new grows x.last looks.keeps;
    respects = respects_twice old now new grows x.respects looks.respects;
  }

  -- one command
  module _ (old new : List Entry) (c : Command) (r : Reply) (p : PerformedBy z d old new c r) where
    pub at_the_end : (f : List Entry) (e : Entry) → IsPrefix old f → IsPrefix (f ++ e ∷ []) new → is_entry_of d e ≡ true → (f ≡ old ++ p.between) × (e ≡ CommandOf d c p.full)
    at_the_end f e a b own = own_is_last d old p.between (CommandOf d c p.full) f e p.others a (subst (λ (h : List Entry). IsPrefix (f ++ e ∷ []) h) p.appends b) own

    pub keeps_once : ((l : Label) → bound_after z root (old ++ p.between ++ CommandOf d c p.full ∷ []) l ≡ bound_after z root (old ++ p.between) l) → OwnKeep z root d old new
    keeps_once kept f e a b own l =
        let same = at_the_end f e a b own in
        (λ i. bound_after z root (same.0 i ++ same.1 i ∷ []) l) ∙ (kept l ∙ ap (λ (x : List Entry). bound_after z root x l) (sym same.0))

  module _ (old new : List Entry) (c : Command) (r : Reply) (p : PerformedBy z d old new c r) (respects : RespectsMap z root (old ++ p.between) (CommandOf d c p.full)) where
    pub own_respects : OwnRespect z root d old new
    own_respects f e a b own =
        let same = at_the_end old new c r p f e a b own in
        subst (λ (x : List Entry). RespectsMap z root x e) (sym same.0) (subst (λ (x : Entry). RespectsMap z root (old ++ p.between) x) (sym same.1) respects)

    pub looks_once : ((l : Label) → bound_after z root (old ++ p.between ++ CommandOf d c p.full ∷ []) l ≡ bound_after z root (old ++ p.between) l) → Looks z root d old new
    looks_once kept = record { respects = own_respects; keeps = keeps_once old new c r p kept }

    pub changes_once : (k : Label) (after : Option Value) → bound_after z root (old ++ p.between ++ CommandOf d c p.full ∷ []) k ≡ after
        → ((l : Label) → l ≢ k → bound_after z root (old ++ p.between ++ CommandOf d c p.full ∷ []) l ≡ bound_after z root (old ++ p.between) l) → is_entry_of d (CommandOf d c p.full) ≡ true
        → ChangesOne z root d old new k (bound_after z root (old ++ p.between) k) after
    changes_once k after binds others own = record {
      front = old ++ p.between;
      entry = CommandOf d c p.full;
      since = to_middle z d old new c r p;
      until = from_middle z d old new c r p;
      own = own;
      was = refl;
      binds = binds;
      others = others;
      first = λ f e a b mine l. let clash : true ≡ false = sym mine ∙ other_between d old p.between f e p.others a b in cc;
      last = λ f e a b mine l. absurd (nothing_between (old ++ p.between ++ CommandOf d c p.full ∷ []) f e a (subst (λ (h : List Entry). IsPrefix (f ++ e ∷ []) h) p.appends b));
      respects = own_respects;
    }

-- a command of the one domain of a heap is one of domain 0
pub performed_by : (z : Sizes) (old new : List Entry) (c : Command) (r : Reply) → Performed z old new c r → PerformedBy z 0 old new c r
performed_by z old new c r p = record { between = p.between; others = collector_none p.between 0 p.collector; full = p.full; appends = p.appends; legal = p.legal; replies = p.replies }

-- a new map: a root whose fields are 0, alone
module _ (g : Graph) (root : Label) (tag : ℕ) (node : node_at g root ≡ Some (Plain tag (replicate root_width (Int (pos 0))))) where
  plain : inside g (Block root) ≡ Some (replicate root_width (Int (pos 0)))
  plain = ap fields_of node

  -- a field holds 0, or is none
  abbrev IsZero : Value → Type 0
  IsZero v = (v ≡ Int (pos 0)) ⊎ (v ≡ Nothing)

  zero_field : (m j : ℕ) → IsZero (get_or (replicate m (Int (pos 0))) j Nothing)
  zero_field zero j = inr refl
  zero_field (suc m) zero = inl refl
  zero_field (suc m) (suc j) = zero_field m j

  zero_end : (v : Value) → IsZero v → inside g v ≡ None
  zero_end v (inl is) = ap (inside g) is
  zero_end v (inr is) = ap (inside g) is

  zero_slot : (v : Value) → IsZero v → IsSlot g v
  zero_slot v (inl is) = subst (IsSlot g) (sym is) refl
  zero_slot v (inr is) = subst (IsSlot g) (sym is) tt

  abbrev field : ℕ → Value
  field i = get_or (replicate root_width (Int (pos 0))) i Nothing

  field_ends : (i : ℕ) → inside g (field i) ≡ None
  field_ends i = zero_end (field i) (zero_field root_width i)

  only_root : (p : List ℕ) (v : Value) → at (inside g) p (Block root) ≡ Some v → ((p ≡ []) × (v ≡ Block root)) ⊎ IsZero v
  only_root [] v there = let same : Block root ≡ v = cc in inl (refl, sym same)
  only_root (i ∷ []) v there =
      let same : Some (field i) ≡ Some v = sym (at_step (inside g) i [] (Block root) (replicate root_width (Int (pos 0))) plain) ∙ there in
      let is : field i ≡ v = cc in
      inr (subst IsZero is (zero_field root_width i))
  only_root (i ∷ j ∷ p) v there =
      let clash : None ≡ Some v = sym (at_stop (inside g) j p (field i) (field_ends i)) ∙ (sym (at_step (inside g) i (j ∷ p) (Block root) (replicate root_width (Int (pos 0))) plain) ∙ there) in cc

  is_root : (p : List ℕ) (v : Value) (fields : List Value) → at (inside g) p (Block root) ≡ Some v → inside g v ≡ Some fields → (p ≡ []) × (v ≡ Block root)
  is_root p v fields there block = go (only_root p v there)
    where
      go : ((p ≡ []) × (v ≡ Block root)) ⊎ IsZero v → (p ≡ []) × (v ≡ Block root)
      go (inl is) = is
      go (inr none) = let clash : None ≡ Some fields = sym (zero_end v none) ∙ block in cc

  length_zeroes : (m : ℕ) → length (replicate m (Int (pos 0))) ≡ m
  length_zeroes zero = refl
  length_zeroes (suc m) = ap suc (length_zeroes m)

  pub new_map : IsMap g root
  new_map = record {
    tree = λ p q v fields there_p there_q block. (is_root p v fields there_p block).0 ∙ sym (is_root q v fields there_q block).0;
    slots = λ p v there. slot p v (only_root p v there);
    wide = λ p v fields there block.
        let is = is_root p v fields there block in
        let same : Some (replicate root_width (Int (pos 0))) ≡ Some fields = sym plain ∙ (ap (inside g) (sym is.1) ∙ block) in
        let fields_are : replicate root_width (Int (pos 0)) ≡ fields = cc in
        ap length (sym fields_are) ∙ (length_zeroes root_width ∙ ap width_at (sym is.0));
    low = λ p v fields there block. let is = (is_root p v fields there block).0 in let none : length p ≡ 0 = ap length is in omega (arith, none);
    own = (replicate root_width (Int (pos 0)), plain);
  }
    where
      slot : (p : List ℕ) (v : Value) → ((p ≡ []) × (v ≡ Block root)) ⊎ IsZero v → IsSlot g v
      slot p v (inl (none, is)) = subst (IsSlot g) (sym is) (inr (replicate root_width (Int (pos 0)), plain))
      slot p v (inr none) = zero_slot v none

  -- it binds nothing
  pub new_map_binds_nothing : (n : ℕ) (k : Label) → found n g root k ≡ None
  new_map_binds_nothing n k = go (way_to n k) refl
    where
      empty : (v : Value) → IsZero v → bound_by g k v ≡ None
      empty v (inl is) = ap (bound_by g k) is
      empty v (inr is) = ap (bound_by g k) is

      stop : (i : ℕ) (q : List ℕ) → ends (inside g) q (field i) ≡ field i
      stop i [] = refl
      stop i (j ∷ q) = ends_stop (inside g) j q (field i) (field_ends i)

      go : (w : List ℕ) → way_to n k ≡ w → found n g root k ≡ None
      go [] way = cc
      go (i ∷ q) way =
          ap (λ (w : List ℕ). bound_by g k (ends (inside g) w (Block root))) way
          ∙ (ap (bound_by g k) (ends_step (inside g) i q (Block root) (replicate root_width (Int (pos 0))) plain ∙ stop i q) ∙ empty (field i) (zero_field root_width i))

pub new_map_is_empty : NewMapIsEmpty
new_map_is_empty n g root tag node = (new_map g root tag node, λ k. new_map_binds_nothing g root tag node n k)
