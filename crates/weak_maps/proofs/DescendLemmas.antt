-- The walk of a call to the end of a key's way, command by command.
use Rattle.std.proofs.Common.{◌≡◌, ◌≢◌, ◌⊎◌, inl, inr, ⊎_elim, ℕ, zero, suc, ◌<◌, ◌/◌, ◌%◌, Bool, true, false, List, [], ◌∷◌, ◌++◌, length, get_or, Option, Some, None, refl, ap, sym, ◌∙◌, subst, arith, append_assoc, length-append, cond}
use Rattle.std.proofs.lemmas.Option.{slice_get-get_or}
use Rattle.model_core.specs.declared.label.Label.{Label}
use Rattle.model_core.specs.declared.command.Command.TheVariants.{Load}
use Rattle.model_core.specs.declared.entry.Entry.{Entry}
use Rattle.model_core.specs.declared.reply.Reply.{Reply}
use Rattle.model_core.specs.declared.reply.Reply.TheVariants as reply
use Rattle.model_core.specs.declared.graph.Value.{Value}
use Rattle.model_core.specs.declared.graph.Value.TheVariants.{Int, Block, Nothing}
use Rattle.model_core.specs.declared.graph.Node.{Node}
use Rattle.model_core.specs.declared.graph.Node.TheVariants.{Plain, Raw, Ephe}
use Rattle.model_core.specs.declared.state.Sizes.{Sizes}
use Rattle.model_core.specs.Graph.{Graph, same_label, node_at}
use Rattle.model_core.specs.Domains.{IsWithinLimits}
use Rattle.model_core.specs.Commands.{shown}
use Rattle.model_core.specs.History.{IsPrefix}
use Rattle.model_core.proofs.Graphs.GraphLemmas.{same_label-true, same_label_refl}
use Rattle.weak_laws.specs.Tables.Stages.{graph_of}
use Rattle.weak_laws.proofs.OfTables.StageLemmas.{prefix_trans}
use Rattle.weak_laws.specs.Maps.Tries.{at, ends, inside, fields_of, found, bound_by, bound_in, is_leaf, IsSlot, low_digits, number_of, way_to, way_length, width_at, root_width, node_width, IsMap}
use Rattle.weak_laws.specs.Maps.Steps.{OthersRespect}
use Rattle.weak_laws.specs.Maps.Calls.{PerformedBy}
use Rattle.weak_laws.proofs.OfMaps.CallLemmas.{load_step, load_leaf_step}
use Rattle.weak_laws.proofs.OfMaps.WalkLemmas.{Walk, ends_at, at_step, at_stop}
use Rattle.weak_laws.proofs.OfMaps.SetLemmas.{stays}
use Rattle.weak_maps.specs.Commands.{IsBlock}
use Rattle.weak_maps.specs.Beside.{held_by}
use Rattle.weak_maps.specs.Walks.{Looking, Descends, LeafTells, Meets, Met}
use Rattle.weak_maps.proofs.BesideLemmas.{sixteen, set_here, set_other, same_held, since_old, until_new}
use Rattle.weak_maps.proofs.StayLemmas.{prefix_same, leaf_middle, looking_from, looking_on, stays_middle}
use Rattle.weak_maps.specs.Fields.{MapStays}

-- a way goes on from where its first part leads
pub at_append : (f : Walk) (p q : List ℕ) (v u : Value) → at f p v ≡ Some u → at f (p ++ q) v ≡ at f q u
at_append f [] q v u e = let same : v ≡ u = cc in ap (at f q) same
at_append f (i ∷ p) q v u e = go (f v) refl (λ x here. at_append f p q x u here)
  where
    go : (o : Option (List Value)) → f v ≡ o → ((x : Value) → at f p x ≡ Some u → at f (p ++ q) x ≡ at f q u) → at f (i ∷ (p ++ q)) v ≡ at f q u
    go None is rec = let clash : None ≡ Some u = sym (at_stop f i p v is) ∙ e in cc
    go (Some fields) is rec = at_step f i (p ++ q) v fields is ∙ rec (get_or fields i Nothing) (sym (at_step f i p v fields is) ∙ e)

-- one step behind a way
pub at_one : (f : Walk) (p : List ℕ) (i : ℕ) (v u : Value) (fields : List Value) → at f p v ≡ Some u → f u ≡ Some fields → at f (p ++ i ∷ []) v ≡ Some (get_or fields i Nothing)
at_one f p i v u fields there plain = at_append f p (i ∷ []) v u there ∙ at_step f i [] u fields plain

-- a block with fields is a plain one
pub plain_node : (o : Option Node) (fields : List Value) → fields_of o ≡ Some fields → (tag : ℕ) × (o ≡ Some (Plain tag fields))
plain_node None fields is = cc
plain_node (Some (Plain tag fs)) fields is = (tag, (let same : fs ≡ fields = cc in ap (λ (x : List Value). Some (Plain tag x)) same))
plain_node (Some (Raw tag fs)) fields is = cc
plain_node (Some (Ephe keys datum)) fields is = cc

-- a leaf is an ephemeron of one key
pub leaf_node : (o : Option Node) → is_leaf o → (key : Option Label) × (datum : Value) × (o ≡ Some (Ephe (key ∷ []) datum))
leaf_node None leaf = absurd leaf
leaf_node (Some (Plain tag fields)) leaf = absurd leaf
leaf_node (Some (Raw tag fields)) leaf = absurd leaf
leaf_node (Some (Ephe [] datum)) leaf = absurd leaf
leaf_node (Some (Ephe (key ∷ []) datum)) leaf = (key, datum, refl)
leaf_node (Some (Ephe (key ∷ other ∷ keys) datum)) leaf = absurd leaf

pub leaf_none : (o : Option Node) → is_leaf o → fields_of o ≡ None
leaf_none o leaf = let n = leaf_node o leaf in ap fields_of n.2

-- a block of a map that is a leaf at a later front was one before, if it has no fields in either
pub still_leaf : (g h : Graph) (root : Label) (q : List ℕ) (l : Label) → IsMap g root → at (inside g) q (Block root) ≡ Some (Block l) → inside h (Block l) ≡ inside g (Block l) → is_leaf (node_at h l) → is_leaf (node_at g l)
still_leaf g h root q l map there same leaf = ⊎_elim
    (λ old. old)
    (λ plain. let clash : Some plain.0 ≡ None = sym plain.1 ∙ (sym same ∙ leaf_none (node_at h l) leaf) in cc)
    (map.slots q (Block l) there)

-- what a leaf tells of a key
pub leaf_tells : (g : Graph) (l k : Label) → is_leaf (node_at g l) → LeafTells g l k (bound_by g k (Block l))
leaf_tells g l k leaf = go n.0 n.2
  where
    n : (key : Option Label) × (datum : Value) × (node_at g l ≡ Some (Ephe (key ∷ []) datum))
    n = leaf_node (node_at g l) leaf

    some : (j : Label) → node_at g l ≡ Some (Ephe (Some j ∷ []) n.1) → (b : Bool) → same_label j k ≡ b → LeafTells g l k (bound_in k (Some (Ephe (Some j ∷ []) n.1)))
    some j is true e = subst (λ (c : Bool). LeafTells g l k (cond c (Some n.1) None)) (sym e) (is ∙ ap (λ (x : Label). Some (Ephe (Some x ∷ []) n.1)) (same_label-true j k e))
    some j is false e = subst (λ (c : Bool). LeafTells g l k (cond c (Some n.1) None)) (sym e)
        (Some j, n.1, (λ same. let at : j ≡ k = cc in let clash : true ≡ false = sym (same_label_refl k) ∙ (ap (λ (x : Label). same_label x k) (sym at) ∙ e) in cc), is)

    go : (key : Option Label) → node_at g l ≡ Some (Ephe (key ∷ []) n.1) → LeafTells g l k (bound_by g k (Block l))
    go None is = subst (λ (o : Option Node). LeafTells g l k (bound_in k o)) (sym is) (None, n.1, (λ e. cc), is)
    go (Some j) is = subst (λ (o : Option Node). LeafTells g l k (bound_in k o)) (sym is) (some j is (same_label j k) refl)

-- where a way ends, and so what its key is bound to
pub ends_there : (n : ℕ) (g : Graph) (root k : Label) (p q : List ℕ) (v : Value) → way_to n k ≡ p ++ q → at (inside g) p (Block root) ≡ Some v → inside g v ≡ None → ends (inside g) (way_to n k) (Block root) ≡ v
ends_there n g root k p q v way there end = ap (λ (l : List ℕ). ends (inside g) l (Block root)) way ∙ (ends_at (inside g) p q (Block root) v there ∙ stays (inside g) q v end)

pub way_ends : (n : ℕ) (g : Graph) (root k : Label) (p q : List ℕ) (v : Value) → way_to n k ≡ p ++ q → at (inside g) p (Block root) ≡ Some v → inside g v ≡ None → found n g root k ≡ bound_by g k v
way_ends n g root k p q v way there end = ap (bound_by g k) (ends_there n g root k p q v way there end)

pub below_width : (m : ℕ) → m % node_width < node_width
below_width m = omega arith

pub below_root : (m : ℕ) → m % root_width < root_width
below_root m = omega arith

pub shown_no_type : (v : Value) → shown v ≡ reply.BadType → ⊥
shown_no_type (Int i) e = cc
shown_no_type (Block l) e = cc
shown_no_type Nothing e = cc

module _ (z : Sizes) (limits : IsWithinLimits z) (root : Label) (d : ℕ) (first : List Entry) (k : Label) where
  abbrev number : ℕ
  number = number_of z.domains k

  -- a load from a block of the map: a register holds what one step more leads to
  module _ (now new : List Entry) (r : Reply) (dst i src : ℕ) (small : dst < 16) (p : PerformedBy z d now new (Load dst src i) r) (respects : OthersRespect z root d first new) (looking : Looking z root d first now) where
    abbrev mid : List Entry
    mid = now ++ p.between

    pub stay : MapStays z root now mid
    stay = stays_middle z root d first now new (Load dst src i) r p respects looking.grows looking.map

    abbrev pub Loaded : List ℕ → Type 0
    Loaded way = (v : Value) × (at (inside (graph_of z new)) (way ++ i ∷ []) (Block root) ≡ Some v) × (held_by z d new dst ≡ v) × (r ≡ shown v) × Looking z root d first new × ((j : ℕ) → j ≢ dst → held_by z d new j ≡ held_by z d now j) × (graph_of z new ≡ graph_of z mid)

    pub loads_inner : (l : Label) (fields : List Value) (way : List ℕ) → held_by z d now src ≡ Block l → at (inside (graph_of z now)) way (Block root) ≡ Some (Block l) → inside (graph_of z now) (Block l) ≡ Some fields → i < width_at way → Loaded way
    loads_inner l fields way holds there plain below =
        let moved = stay.block way (Block l) fields there plain in
        let node = plain_node (node_at (graph_of z mid) l) moved.1.0 moved.1.1 in
        let wide : length moved.1.0 ≡ width_at way = stay.map.wide way (Block l) moved.1.0 moved.0 moved.1.1 in
        let v : Value = get_or moved.1.0 i Nothing in
        let all = load_step z d now new r dst src i p l node.0 moved.1.0 v holds node.1 (slice_get-get_or moved.1.0 i Nothing (subst (λ (m : ℕ). i < m) (sym wide) below)) in (
          v,
          subst (λ (g : Graph). at (inside g) (way ++ i ∷ []) (Block root) ≡ Some v) (sym all.0) (at_one (inside (graph_of z mid)) way i (Block root) (Block l) moved.1.0 moved.0 moved.1.1),
          set_here z d now new dst v all.1 (sixteen z d now new (Load dst src i) r p limits) small,
          all.2,
          looking_on z root d first now new (Load dst src i) r p all.0 respects looking,
          (λ j other. set_other z d now new dst v all.1 j other),
          all.0,
        )

    -- a load from a leaf: nothing changes
    pub loads_leaf : (l : Label) (key : Option Label) (datum : Value) → held_by z d now src ≡ Block l → node_at (graph_of z mid) l ≡ Some (Ephe (key ∷ []) datum)
        → (r ≡ reply.BadType) × Looking z root d first new × ((j : ℕ) → held_by z d new j ≡ held_by z d now j) × (graph_of z new ≡ graph_of z mid)
    loads_leaf l key datum holds at_mid =
        let all = load_leaf_step z d now new r dst src i p l (key ∷ []) datum holds at_mid in
        (all.2, looking_on z root d first now new (Load dst src i) r p all.0 respects looking, (λ j. same_held z d now new all.1 j), all.0)

  -- the first load
  pub descend_begins : (now : List Entry) (r : Reply) (map : ℕ) → IsMap (graph_of z first) root → held_by z d first map ≡ Block root → (p : PerformedBy z d first now (Load 8 map (number % root_width)) r) → OthersRespect z root d first now
      → Descends z d first now root k r 1 (number / root_width)
  descend_begins now r map is_map holds p respects =
      let own = is_map.own in
      let x = loads_inner first now r 8 (number % root_width) map (omega arith) p respects (looking_from z root d first is_map) root own.0 [] holds refl own.1 (below_root number) in record {
        looking = x.4;
        keeps = x.5;
        p = number % root_width ∷ [];
        many = refl;
        left = 6;
        all = refl;
        way = refl;
        v = x.0;
        there = x.1;
        held = x.2;
        shows = x.3;
      }

  -- the node of a block that tells of a key
  pub tells_node : (g : Graph) (l : Label) (o : Option Value) → LeafTells g l k o → (key : Option Label) × (datum : Value) × (node_at g l ≡ Some (Ephe (key ∷ []) datum))
  tells_node g l (Some datum) is = (Some k, datum, is)
  tells_node g l None (key, datum, other, is) = (key, datum, is)

  pub block_of : (v : Value) → IsBlock (shown v) → (l : Label) × (v ≡ Block l)
  block_of (Int i) is = absurd is
  block_of (Block l) is = (l, refl)
  block_of Nothing is = absurd is

  pub none_bound : (g : Graph) (v : Value) → IsSlot g v → (IsBlock (shown v) → ⊥) → (inside g v ≡ None) × (bound_by g k v ≡ None)
  none_bound g (Int i) slot none = (refl, refl)
  none_bound g (Block l) slot none = absurd (none tt)
  none_bound g Nothing slot none = (refl, refl)

  wide_below : (p : List ℕ) (done : ℕ) → length p ≡ suc done → width_at p ≡ node_width
  wide_below [] done many = cc
  wide_below (i ∷ p) done many = refl

  -- where a field that isn't a block was met, the key isn't bound
  pub descend_none : (now : List Entry) (r : Reply) (done rest : ℕ) → Descends z d first now root k r done rest → (IsBlock r → ⊥) → Meets z d first now root k None
  descend_none now r done rest x none =
      let n = none_bound (graph_of z now) x.v (x.looking.map.slots x.p x.v x.there) (λ is. none (subst IsBlock (sym x.shows) is)) in record {
        looking = x.looking;
        keeps = x.keeps;
        front = now;
        since = x.looking.grows;
        until = prefix_same now;
        bound = way_ends z.domains (graph_of z now) root k x.p _ x.v x.way x.there n.0 ∙ n.1;
      }

  -- where a leaf was met, at a front and then at a later one
  meets_leaf : (now new : List Entry) (r : Reply) (done rest : ℕ) (x : Descends z d first now root k r done rest) (l : Label) → x.v ≡ Block l → is_leaf (node_at (graph_of z now) l) → IsPrefix now new → Looking z root d first new
      → ((j : ℕ) → held_by z d new j ≡ held_by z d now j) → LeafTells (graph_of z new) l k (bound_by (graph_of z now) k (Block l)) → Met z d first new root k true
  meets_leaf now new r done rest x l is leaf later looking same tells =
      let there : at (inside (graph_of z now)) x.p (Block root) ≡ Some (Block l) = x.there ∙ ap Some is in (
        bound_by (graph_of z now) k (Block l),
        record {
          looking = looking;
          keeps = λ j other. same j ∙ x.keeps j other;
          front = now;
          since = x.looking.grows;
          until = later;
          bound = way_ends z.domains (graph_of z now) root k x.p _ (Block l) x.way there (leaf_none (node_at (graph_of z now) l) leaf);
        },
        record { l = l; held = same 8 ∙ (x.held ∙ is); tells = tells; former = now; before = later; p = x.p; there = there; leaf = leaf },
      )

  -- at the end of the way there is no block of the map
  pub descend_last : (now : List Entry) (r : Reply) (rest : ℕ) → Descends z d first now root k r way_length rest → IsBlock r → Met z d first now root k true
  descend_last now r rest x is =
      let b = block_of x.v (subst IsBlock x.shows is) in
      ⊎_elim (λ leaf. meets_leaf now now r way_length rest x b.0 b.1 leaf (prefix_same now) x.looking (λ j. refl) (leaf_tells (graph_of z now) b.0 k leaf))
      (λ inner. absurd (let low = x.looking.map.low x.p (Block b.0) inner.0 (x.there ∙ ap Some b.1) inner.1 in let many = x.many in omega (arith, low, many)))
      (subst (IsSlot (graph_of z now)) b.1 (x.looking.map.slots x.p x.v x.there))

  -- once all of the way was followed
  pub descend_ends : (now : List Entry) (r : Reply) (done rest : ℕ) (b : Bool) → done ≡ way_length → Descends z d first now root k r done rest → (b ≡ true → IsBlock r) → (IsBlock r → b ≡ true) → Met z d first now root k b
  descend_ends now r done rest true all x there back = descend_last now r rest (subst (λ (m : ℕ). Descends z d first now root k r m rest) all x) (there refl)
  descend_ends now r done rest false all x there back = descend_none now r done rest x (λ is. let clash : false ≡ true = back is in cc)

  module _ (kr : ℕ) (few : kr < 8) (key : held_by z d first kr ≡ Block k) where
    -- one step more
    descend_step : (now new : List Entry) (r r2 : Reply) (done rest : ℕ) → PerformedBy z d now new (Load 8 8 (rest % node_width)) r2 → OthersRespect z root d first new → Descends z d first now root k r (suc done) rest → IsBlock r
        → ((r2 ≡ reply.BadType) × Met z d first new root k true) ⊎ Descends z d first new root k r2 (suc (suc done)) (rest / node_width)
    descend_step now new r r2 done rest p respects x is =
        ⊎_elim (λ leaf. inl (at_leaf leaf)) (λ inner. inr (at_inner inner.0 inner.1 x.left refl)) (subst (IsSlot (graph_of z now)) b.1 (x.looking.map.slots x.p x.v x.there))
      where
        b : (l : Label) × (x.v ≡ Block l)
        b = block_of x.v (subst IsBlock x.shows is)

        there : at (inside (graph_of z now)) x.p (Block root) ≡ Some (Block b.0)
        there = x.there ∙ ap Some b.1

        holds : held_by z d now 8 ≡ Block b.0
        holds = x.held ∙ b.1

        at_leaf : is_leaf (node_at (graph_of z now) b.0) → (r2 ≡ reply.BadType) × Met z d first new root k true
        at_leaf leaf =
            let c = Load 8 8 (rest % node_width) in
            let o : Option Value = bound_by (graph_of z now) k (Block b.0) in
            let held : held_by z d now kr ≡ Block k = x.keeps kr (λ e. absurd (omega (arith, few, e))) ∙ key in
            let tells : LeafTells (graph_of z (now ++ p.between)) b.0 k o =
            leaf_middle z root d first now new c r2 p respects x.looking.grows k o kr b.0 now x.p (prefix_same now) there leaf held (leaf_tells (graph_of z now) b.0 k leaf) in
            let n = tells_node (graph_of z (now ++ p.between)) b.0 o tells in
            let all = loads_leaf now new r2 8 (rest % node_width) 8 (omega arith) p respects x.looking b.0 n.0 n.1 holds n.2 in (
              all.0,
              meets_leaf now new r (suc done) rest x b.0 b.1 leaf (prefix_trans now (now ++ p.between) new (since_old z d now new c r2 p) (until_new z d now new c r2 p)) all.1 all.2
                  (subst (λ (g : Graph). LeafTells g b.0 k o) (sym all.3) tells),
            )

        at_inner : (fields : List Value) → fields_of (node_at (graph_of z now) b.0) ≡ Some fields → (left : ℕ) → x.left ≡ left → Descends z d first new root k r2 (suc (suc done)) (rest / node_width)
        at_inner fields plain zero none = absurd (
            let low = x.looking.map.low x.p (Block b.0) fields there plain in
            let many = x.many in
            let all = x.all in
            omega (arith, low, many, all, none))
        at_inner fields plain (suc left) more =
            let i : ℕ = rest % node_width in
            let y = loads_inner now new r2 8 i 8 (omega arith) p respects x.looking b.0 fields x.p holds there plain (subst (λ (m : ℕ). i < m) (sym (wide_below x.p done x.many)) (below_width rest)) in record {
              looking = y.4;
              keeps = λ j other. y.5 j other ∙ x.keeps j other;
              p = x.p ++ i ∷ [];
              many = let a = length-append x.p (i ∷ []) in let many = x.many in omega (arith, a, many);
              left = left;
              all = let all = x.all in omega (arith, all, more);
              way = x.way ∙ (ap (λ (m : ℕ). x.p ++ low_digits m rest) more ∙ sym (append_assoc x.p (i ∷ []) (low_digits left (rest / node_width))));
              v = y.0;
              there = y.1;
              held = y.2;
              shows = y.3;
            }

    pub descend_next : (now new : List Entry) (r r2 : Reply) (done rest : ℕ) → PerformedBy z d now new (Load 8 8 (rest % node_width)) r2 → OthersRespect z root d first new → Descends z d first now root k r (suc done) rest → IsBlock r → (r2 ≡ reply.BadType → ⊥)
        → Descends z d first new root k r2 (suc (suc done)) (rest / node_width)
    descend_next now new r r2 done rest p respects x is other = ⊎_elim (λ met. absurd (other met.0)) (λ on. on) (descend_step now new r r2 done rest p respects x is)

    pub descend_met : (now new : List Entry) (r r2 : Reply) (done rest : ℕ) → PerformedBy z d now new (Load 8 8 (rest % node_width)) r2 → OthersRespect z root d first new → Descends z d first now root k r (suc done) rest → IsBlock r → r2 ≡ reply.BadType → Met z d first new root k true
    descend_met now new r r2 done rest p respects x is kind = ⊎_elim (λ met. met.1) (λ on. absurd (shown_no_type on.v (sym on.shows ∙ kind))) (descend_step now new r r2 done rest p respects x is)
