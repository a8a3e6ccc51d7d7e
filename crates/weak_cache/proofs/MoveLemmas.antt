-- A leaf is looked for, and comes first, command by command.
use Rattle.std.proofs.Common.{◌≡◌, ◌≢◌, ◌↔◌, inl, inr, ⊎_elim, ℕ, suc, ◌+◌, ◌<◌, ◌≤◌, Bool, true, false, List, [], ◌∷◌, ◌++◌, length, get_or, set, Option, Some, None, refl, ap, sym, ◌∙◌, subst, arith, add-one}
use Rattle.std.proofs.lemmas.List.{get_or_past}
use Rattle.std.proofs.lemmas.Option.{slice_get-get_or}
use Rattle.model_core.specs.declared.label.Label.{Label}
use Rattle.model_core.specs.declared.command.Command.TheVariants.{Copy, GetKey, Load, Store}
use Rattle.model_core.specs.declared.entry.Entry.{Entry}
use Rattle.model_core.specs.declared.reply.Reply.{Reply}
use Rattle.model_core.specs.declared.reply.Reply.TheVariants as reply
use Rattle.model_core.specs.declared.graph.Value.{Value}
use Rattle.model_core.specs.declared.graph.Value.TheVariants.{Int, Block, Nothing}
use Rattle.model_core.specs.declared.graph.Node.{Node}
use Rattle.model_core.specs.declared.graph.Node.TheVariants.{Plain, Raw, Ephe}
use Rattle.model_core.specs.declared.state.Sizes.{Sizes}
use Rattle.model_core.specs.Graph.{Graph, node_at, same_label, with_node}
use Rattle.model_core.specs.Commands.{shown, key_value}
use Rattle.model_core.specs.Domains.{IsWithinLimits}
use Rattle.model_core.specs.History.{IsPrefix}
use Rattle.model_core.proofs.Graphs.GraphLemmas.{node_at-with_node_other, node_at-with_node_same, same_label-true, same_label_refl}
use Rattle.weak_laws.specs.Tables.Structures.{Binding}
use Rattle.weak_laws.specs.Tables.Stages.{graph_of}
use Rattle.weak_laws.specs.Maps.Tries.{fields_of, is_leaf}
use Rattle.weak_laws.specs.Maps.Steps.{WasUnreached}
use Rattle.weak_laws.specs.Maps.Calls.{PerformedBy, registers_after}
use Rattle.weak_laws.proofs.OfMaps.CallLemmas.{copy_step, get_key_step, load_step, store_step}
use Rattle.weak_laws.proofs.OfMaps.FieldLemmas.{at_field}
use Rattle.weak_laws.proofs.OfMaps.FrontLemmas.{prefix_same, prefix_trans}
use Rattle.weak_maps.specs.Beside.{held_by}
use Rattle.weak_maps.specs.Commands.{IsBlock}
use Rattle.weak_maps.proofs.BesideLemmas.{same_held, set_here, set_other, sixteen}
use Rattle.weak_maps.proofs.CleanedLemmas.{less_or}
use Rattle.weak_maps.proofs.DescendLemmas.{leaf_node}
use Rattle.weak_maps.proofs.FreshLemmas.{held_not_outside, own_middle, own_on, thin_held}
use Rattle.weak_maps.proofs.GetLemmas.{grows_by}
use Rattle.weak_cache.specs.Uses.{SlotLeft, is_of}
use Rattle.weak_cache.specs.Caches.{Gone, OthersSpare, slot_in, slot_of}
use Rattle.weak_cache.specs.Passes.{Core, Finding, FoundLeaf, IsAtHand, Keeping, KeepsBeside, Moved, Moving, NoneIsOf, StoodIn, Tells, UseLeft, carried, moved, was_of}
use Rattle.weak_cache.proofs.CoreLemmas.{core_mid, core_own, core_quiet, leaf_mid, leaf_quiet, spared_on, spared_quiet, spares_within, stood_more, use_mid}
use Rattle.weak_cache.proofs.ListLemmas.{carried_next, carried_some, is_of_some, left_of, moved_all, moved_long, moved_stop, read_moved, store_moved, stored_there}

-- what a field held is something
pub use_some : (z : Sizes) (c k : Label) (first now : List Entry) (v : Value) → UseLeft z c k first now v → v ≢ Nothing
use_some z c k first now (Int a) x e = cc
use_some z c k first now (Block l) x e = cc
use_some z c k first now Nothing x e = x

-- a leaf that has a key and a value
pub leaf_slot : (o : Option Node) (k : Label) (v : Value) → slot_in o ≡ Some (k, v) → is_leaf o → o ≡ Some (Ephe (Some k ∷ []) v)
leaf_slot None k v is leaf = absurd leaf
leaf_slot (Some (Plain tag fields)) k v is leaf = absurd leaf
leaf_slot (Some (Raw tag fields)) k v is leaf = absurd leaf
leaf_slot (Some (Ephe [] datum)) k v is leaf = absurd leaf
leaf_slot (Some (Ephe (None ∷ []) datum)) k v is leaf = let clash : None ≡ Some (k, v) = is in cc
leaf_slot (Some (Ephe (Some m ∷ []) datum)) k v is leaf = let both : (m, datum) ≡ (k, v) = cc in let key : m ≡ k = ap (λ (b : Binding). b.0) both in let value : datum ≡ v = ap (λ (b : Binding). b.1) both in (λ i. Some (Ephe (Some (key i) ∷ []) (value i)))
leaf_slot (Some (Ephe (key ∷ other ∷ keys) datum)) k v is leaf = absurd leaf

-- the leaf of the key in hand is as it was
pub kept_leaf : (z : Sizes) (c k l : Label) (first now : List Entry) (v : Value) → UseLeft z c k first now (Block l) → slot_of (graph_of z first) (Block l) ≡ Some (k, v) → node_at (graph_of z now) l ≡ Some (Ephe (Some k ∷ []) v)
kept_leaf z c k l first now v (stood, leaf, inl same) had = leaf_slot (node_at (graph_of z now) l) k v (same ∙ had) leaf
kept_leaf z c k l first now v (stood, leaf, inr (m, w, was, gone, none)) had =
    let both : Some (m, w) ≡ Some (k, v) = sym was ∙ had in
    let pair : (m, w) ≡ (k, v) = cc in
    absurd (gone.1 (ap (λ (b : Binding). b.0) pair))

not_true : (b : Bool) → (b ≡ true → ⊥) → b ≡ false
not_true true not_so = absurd (not_so refl)
not_true false not_so = refl

-- whether the key that was read is the one that was asked for
tells_same : (k m : Label) (r : Reply) (mine : Bool) → r ≡ reply.Block m → (mine ≡ true) ↔ (r ≡ reply.Block k) → mine ≡ same_label m k
tells_same k m r mine shows iff = by (same_label m k) refl
  where
    by : (b : Bool) → same_label m k ≡ b → mine ≡ b
    by true e = iff.1 (shows ∙ ap reply.Block (same_label-true m k e))
    by false e = not_true mine (λ so. let both : reply.Block m ≡ reply.Block k = sym shows ∙ iff.0 so in let same : m ≡ k = cc in let clash : true ≡ false = sym (same_label_refl k) ∙ (ap (λ (y : Label). same_label y k) (sym same) ∙ e) in cc)

module _ (z : Sizes) (limits : IsWithinLimits z) (d : ℕ) (first : List Entry) (c k : Label) (fs : List Value) where
  -- a slot was read
  module _ (now new : List Entry) (r : Reply) (dst n : ℕ) (high : 9 ≤ dst) (few : dst < 12) (p : PerformedBy z d now new (Load dst 13 n) r) (spares : OthersSpare z c d first new) (gs : List Value) (x : Keeping z d first now c k fs gs) (small : n < length gs) where
    abbrev value : Value
    value = get_or gs n Nothing

    read : (graph_of z new ≡ graph_of z (now ++ p.between)) × (registers_after z d new ≡ set (registers_after z d now) dst value) × (r ≡ shown value)
    read =
        let y = core_mid z c k d first now new (Load dst 13 n) r p spares x.core.grows 12 x.key fs gs x.core in
        load_step z d now new r dst 13 n p c y.tag gs value x.cache y.block (slice_get-get_or gs n Nothing small)

    pub read_others : (j : ℕ) → j ≢ dst → held_by z d new j ≡ held_by z d now j
    read_others = set_other z d now new dst value read.1

    pub read_held : held_by z d new dst ≡ value
    read_held = set_here z d now new dst value read.1 (sixteen z d now new (Load dst 13 n) r p limits) (omega (arith, few))

    pub read_shows : r ≡ shown value
    read_shows = read.2

    pub read_quiet : graph_of z new ≡ graph_of z (now ++ p.between)
    read_quiet = read.0

    pub read_keeps : Keeping z d first new c k fs gs
    read_keeps = record {
      core = core_quiet z c k d first now new (Load dst 13 n) r p spares x.core.grows 12 x.key read.0 fs gs x.core;
      key = read_others 12 (λ e. absurd (omega (arith, few, e))) ∙ x.key;
      cache = read_others 13 (λ e. absurd (omega (arith, few, e))) ∙ x.cache;
      spared = spared_quiet z c d first now new (Load dst 13 n) r p read.0 x.spared;
    }

  -- what was told of a register's leaf
  pub record Told (now new : List Entry) (gs : List Value) (v : Value) (mine : Bool) : Type 0 where
    pub keeps : Keeping z d first new c k fs gs
    pub others : (j : ℕ) → j ≢ 11 → held_by z d new j ≡ held_by z d now j
    pub is : mine ≡ was_of z first k v
    pub leaf : (l : Label) (w : Value) → StoodIn z c now l → node_at (graph_of z now) l ≡ Some (Ephe (Some k ∷ []) w) → StoodIn z c new l × (node_at (graph_of z new) l ≡ Some (Ephe (Some k ∷ []) w))

  module _ (now new : List Entry) (slot : ℕ) (apart : slot < 11) (spares : OthersSpare z c d first new) (gs : List Value) (x : Keeping z d first now c k fs gs) where
    read_key : (l : Label) (r : Reply) (mine : Bool) → held_by z d now slot ≡ Block l → UseLeft z c k first now (Block l) → PerformedBy z d now new (GetKey 11 slot 0) r → (mine ≡ true) ↔ (r ≡ reply.Block k) → Told now new gs (Block l) mine
    read_key l r mine held had_it p iff = record {
      keeps = record {
        core = core_quiet z c k d first now new (GetKey 11 slot 0) r p spares x.core.grows 12 x.key all.0 fs gs x.core;
        key = others 12 (λ e. absurd (omega (arith, e))) ∙ x.key;
        cache = others 13 (λ e. absurd (omega (arith, e))) ∙ x.cache;
        spared = spared_quiet z c d first now new (GetKey 11 slot 0) r p all.0 x.spared;
      };
      others = others;
      is = told n.0 refl ∙ left_of (WasUnreached z first mid) k (slot_of (graph_of z first) (Block l)) (slot_of (graph_of z mid) (Block l)) mid_use.2;
      leaf = λ m w stood node. leaf_quiet z c k d first now new (GetKey 11 slot 0) r p spares x.core.grows 12 x.key all.0 m w stood node;
    }
      where
        mid : List Entry
        mid = now ++ p.between

        mid_use : StoodIn z c (now ++ p.between) l × is_leaf (node_at (graph_of z (now ++ p.between)) l) × SlotLeft (Gone z k first (now ++ p.between)) (slot_of (graph_of z first) (Block l)) (slot_of (graph_of z (now ++ p.between)) (Block l))
        mid_use = use_mid z c k d first now new (GetKey 11 slot 0) r p spares x.core.grows 12 x.key (Block l) had_it

        n : (key : Option Label) × (datum : Value) × (node_at (graph_of z (now ++ p.between)) l ≡ Some (Ephe (key ∷ []) datum))
        n = leaf_node (node_at (graph_of z (now ++ p.between)) l) mid_use.1

        all : (graph_of z new ≡ graph_of z (now ++ p.between)) × (registers_after z d new ≡ set (registers_after z d now) 11 (key_value n.0)) × (r ≡ shown (key_value n.0))
        all = get_key_step z d now new r 11 slot p l n.0 n.1 held n.2

        others : (j : ℕ) → j ≢ 11 → held_by z d new j ≡ held_by z d now j
        others = set_other z d now new 11 (key_value n.0) all.1

        told : (key : Option Label) → n.0 ≡ key → mine ≡ is_of k (slot_of (graph_of z (now ++ p.between)) (Block l))
        told None is =
            let none : slot_of (graph_of z (now ++ p.between)) (Block l) ≡ None = ap slot_in n.2 ∙ ap (λ (o : Option Label). slot_in (Some (Ephe (o ∷ []) n.1))) is in
            not_true mine (λ so. let clash : reply.Empty ≡ reply.Block k = sym (all.2 ∙ ap (λ (o : Option Label). shown (key_value o)) is) ∙ iff.0 so in cc) ∙ sym (ap (is_of k) none)
        told (Some m) is =
            let some : slot_of (graph_of z (now ++ p.between)) (Block l) ≡ Some (m, n.1) = ap slot_in n.2 ∙ ap (λ (o : Option Label). slot_in (Some (Ephe (o ∷ []) n.1))) is in
            let shows : r ≡ reply.Block m = all.2 ∙ ap (λ (o : Option Label). shown (key_value o)) is in
            tells_same k m r mine shows iff ∙ sym (ap (is_of k) some)

    pub told_by : (v : Value) (shows : Reply) (mine : Bool) → shows ≡ shown v → held_by z d now slot ≡ v → UseLeft z c k first now v → Tells z d now new slot shows k mine → Told now new gs v mine
    told_by (Int a) shows mine is held had_it (inl (none, same, not_so)) = record {
      keeps = subst (λ (h : List Entry). Keeping z d first h c k fs gs) (sym same) x;
      others = λ j other. ap (λ (h : List Entry). held_by z d h j) same;
      is = not_so;
      leaf = λ m w stood node. subst (λ (h : List Entry). StoodIn z c h m × (node_at (graph_of z h) m ≡ Some (Ephe (Some k ∷ []) w))) (sym same) (stood, node);
    }
    told_by (Int a) shows mine is held had_it (inr (r, some, p, iff)) = absurd (subst IsBlock is some)
    told_by (Block l) shows mine is held had_it (inl (none, same, not_so)) = absurd (none (subst IsBlock (sym is) tt))
    told_by (Block l) shows mine is held had_it (inr (r, some, p, iff)) = read_key l r mine held had_it p iff
    told_by Nothing shows mine is held had_it t = absurd had_it

  -- one slot more was passed by a search
  none_more : (n : ℕ) → NoneIsOf z first k fs n → was_of z first k (get_or fs n Nothing) ≡ false → NoneIsOf z first k fs (n + 1)
  none_more n none last j less = ⊎_elim (λ small. none j small) (λ far. let same : j ≡ n = omega (arith, less, far) in ap (λ (i : ℕ). was_of z first k (get_or fs i Nothing)) same ∙ last) (less_or j n)

  module _ (now n0 new : List Entry) (r : Reply) (n : ℕ) (p : PerformedBy z d now n0 (Load 10 13 n) r) (spares : OthersSpare z c d first new) (x : Finding z d first now c k fs n) (small : n < length fs) (grows : IsPrefix n0 new) where
    early : OthersSpare z c d first n0
    early = spares_within z c d first new first n0 (prefix_same first) grows spares

    abbrev field : Value
    field = get_or fs n Nothing

    at_slot : Keeping z d first n0 c k fs fs
    at_slot = read_keeps now n0 r 10 n (omega arith) (omega arith) p early fs x.0 small

    found_told : (mine : Bool) → Tells z d n0 new 10 r k mine → Told n0 new fs field mine
    found_told mine t = told_by n0 new 10 (omega arith) spares fs at_slot field r mine (read_shows now n0 r 10 n (omega arith) (omega arith) p early fs x.0 small) (read_held now n0 r 10 n (omega arith) (omega arith) p early fs x.0 small) (at_slot.core.uses n small) t

    pub search_low : (mine : Bool) → Tells z d n0 new 10 r k mine → KeepsBeside z d now new
    search_low mine t j beside = (found_told mine t).others j beside.2 ∙ read_others now n0 r 10 n (omega arith) (omega arith) p early fs x.0 small j beside.1

    pub search_on : Tells z d n0 new 10 r k false → Finding z d first new c k fs (n + 1)
    search_on t = let y = found_told false t in (y.keeps, none_more n x.1 (sym y.is))

    pub search_found : Tells z d n0 new 10 r k true → FoundLeaf z d first new c k fs n
    search_found t = by field refl
      where
        y : Told n0 new fs field true
        y = found_told true t

        by : (v : Value) → field ≡ v → FoundLeaf z d first new c k fs n
        by (Int a) is = let clash : true ≡ false = y.is ∙ ap (was_of z first k) is in cc
        by Nothing is = let clash : true ≡ false = y.is ∙ ap (was_of z first k) is in cc
        by (Block l) is =
            let own = is_of_some k (slot_of (graph_of z first) (Block l)) (sym (ap (was_of z first k) is) ∙ sym y.is) in
            let had_it : UseLeft z c k first new (Block l) = subst (UseLeft z c k first new) is (y.keeps.core.uses n small) in record {
              keeps = y.keeps;
              inner = small;
              none = x.1;
              l = l;
              v = own.0;
              field = is;
              held = y.others 10 (λ e. absurd (omega (arith, e))) ∙ (read_held now n0 r 10 n (omega arith) (omega arith) p early fs x.0 small ∙ is);
              node = kept_leaf z c k l first new own.0 had_it own.1;
              had = own.1;
            }

  -- a leaf comes into one slot more
  module _ (l : Label) (v : Value) (now n0 n1 n2 : List Entry) (r0 r1 : Reply) (n : ℕ) (p0 : PerformedBy z d now n0 (Load 9 13 n) r0) (p1 : PerformedBy z d n0 n1 (Store 13 n 10) r1) (mine : Bool) (t : Tells z d n1 n2 9 r0 k mine) (spares : OthersSpare z c d first n2)
      (x : Moving z d first now c k l v fs n) (small : n < length fs) (later : IsPrefix n1 n2) where
    abbrev gs : List Value
    gs = moved n (Block l) fs

    abbrev leaf : Node
    leaf = Ephe (Some k ∷ []) v

    small_gs : n < length gs
    small_gs = let long = moved_long n (Block l) fs in omega (arith, long, small)

    g1 : IsPrefix n0 n1
    g1 = grows_by z d n0 n1 (Store 13 n 10) r1 p1

    e0 : OthersSpare z c d first n0
    e0 = spares_within z c d first n2 first n0 (prefix_same first) (prefix_trans n0 n1 n2 g1 later) spares

    e1 : OthersSpare z c d first n1
    e1 = spares_within z c d first n2 first n1 (prefix_same first) later spares

    keeps0 : Keeping z d first n0 c k fs gs
    keeps0 = read_keeps now n0 r0 9 n (omega arith) (omega arith) p0 e0 gs x.keeps small_gs

    others0 : (j : ℕ) → j ≢ 9 → held_by z d n0 j ≡ held_by z d now j
    others0 = read_others now n0 r0 9 n (omega arith) (omega arith) p0 e0 gs x.keeps small_gs

    quiet0 : graph_of z n0 ≡ graph_of z (now ++ p0.between)
    quiet0 = read_quiet now n0 r0 9 n (omega arith) (omega arith) p0 e0 gs x.keeps small_gs

    ten0 : held_by z d n0 10 ≡ carried n (Block l) fs
    ten0 = others0 10 (λ e. absurd (omega (arith, e))) ∙ x.held

    nine0 : held_by z d n0 9 ≡ get_or fs n Nothing
    nine0 = read_held now n0 r0 9 n (omega arith) (omega arith) p0 e0 gs x.keeps small_gs ∙ read_moved n (Block l) fs small

    -- the leaf in the making, or in the cache
    hand0 : IsAtHand z d n0 c k l v n × (node_at (graph_of z n0) l ≡ Some leaf)
    hand0 = by x.at_hand
      where
        by : IsAtHand z d now c k l v n → IsAtHand z d n0 c k l v n × (node_at (graph_of z n0) l ≡ Some leaf)
        by (inl (zeroth, own)) =
            let there = own_middle z d c now n0 (Load 9 13 n) r0 p0 10 l leaf (λ o. thin_held (WasUnreached z now (now ++ p0.between)) k v o (held_not_outside z d now p0.between k 12 p0.others x.keeps.key)) own in
            let count = sixteen z d now n0 (Load 9 13 n) r0 p0 limits in
            let past : held_by z d now 16 ≡ Nothing = get_or_past (registers_after z d now) 16 Nothing (omega (arith, count)) in
            let node : node_at (graph_of z n0) l ≡ Some leaf = ap (λ (g : Graph). node_at g l) quiet0 ∙ there.node in (
              inl (
                zeroth,
                own_on z d c now n0 (Load 9 13 n) r0 p0 10 l leaf leaf 16 there (λ j is. let clash : false ≡ true = is in cc) (λ e. let clash : Nothing ≡ Block l = sym past ∙ e in cc) (others0 10 (λ e. absurd (omega (arith, e)))) node,
              ),
              node,
            )
        by (inr stood) = let y = leaf_quiet z c k d first now n0 (Load 9 13 n) r0 p0 e0 x.keeps.core.grows 12 x.keeps.key quiet0 l v stood x.node in (inr y.0, y.1)

    -- the store
    abbrev mid : List Entry
    mid = n0 ++ p1.between

    core_then : Core z first mid c k fs gs
    core_then = core_mid z c k d first n0 n1 (Store 13 n 10) r1 p1 e1 keeps0.core.grows 12 keeps0.key fs gs keeps0.core

    stored : (graph_of z n1 ≡ with_node (graph_of z mid) c (Plain core_then.tag (set gs n (carried n (Block l) fs)))) × ((j : ℕ) → held_by z d n1 j ≡ held_by z d n0 j)
    stored =
        let all = store_step z d n0 n1 r1 13 n 10 p1 c core_then.tag gs (carried n (Block l) fs) (get_or gs n Nothing) keeps0.cache core_then.block (slice_get-get_or gs n Nothing small_gs) ten0
        (carried_some n (Block l) fs (λ e. cc) (λ j less. use_some z c k first n0 (get_or fs j Nothing) (keeps0.core.uses j less))) in
        (all.0, same_held z d n0 n1 all.1)

    block1 : node_at (graph_of z n1) c ≡ Some (Plain core_then.tag (moved (suc n) (Block l) fs))
    block1 = ap (λ (g : Graph). node_at g c) stored.0
        ∙ (node_at-with_node_same (graph_of z mid) c (Plain core_then.tag (set gs n (carried n (Block l) fs))) (Plain core_then.tag gs) core_then.block
        ∙ ap (λ (ys : List Value). Some (Plain core_then.tag ys)) (store_moved n (Block l) fs small))

    leaves1 : (m : Label) (o : Option Label) (w : Value) → node_at (graph_of z mid) m ≡ Some (Ephe (o ∷ []) w) → node_at (graph_of z n1) m ≡ Some (Ephe (o ∷ []) w)
    leaves1 m o w node = ap (λ (g : Graph). node_at g m) stored.0
        ∙ (node_at-with_node_other (graph_of z mid) c m (Plain core_then.tag (set gs n (carried n (Block l) fs)))
        (λ same. let clash : Some (Ephe (o ∷ []) w) ≡ Some (Plain core_then.tag gs) = sym node ∙ (ap (node_at (graph_of z mid)) same ∙ core_then.block) in cc) ∙ node)

    keeps1 : Keeping z d first n1 c k fs (moved (suc n) (Block l) fs)
    keeps1 = record {
      core = core_own z c k d first n0 n1 (Store 13 n 10) r1 p1 e1 keeps0.core.grows 12 keeps0.key (λ m o w stood node. leaves1 m o w node) fs gs (moved (suc n) (Block l) fs) core_then.tag core_then block1;
      key = stored.1 12 ∙ keeps0.key;
      cache = stored.1 13 ∙ keeps0.cache;
      spared = spared_on z c d first n0 n1 (Store 13 n 10) r1 p1
          (λ m o there other. ap (λ (g : Graph). node_at g m) stored.0 ∙ node_at-with_node_other (graph_of z mid) c m (Plain core_then.tag (set gs n (carried n (Block l) fs))) other) keeps0.spared;
    }

    node1 : node_at (graph_of z n1) l ≡ Some leaf
    node1 = leaves1 l (Some k) v (by hand0.0)
      where
        by : IsAtHand z d n0 c k l v n → node_at (graph_of z mid) l ≡ Some leaf
        by (inl (zeroth, own)) = (own_middle z d c n0 n1 (Store 13 n 10) r1 p1 10 l leaf (λ o. thin_held (WasUnreached z n0 mid) k v o (held_not_outside z d n0 p1.between k 12 p1.others keeps0.key)) own).node
        by (inr stood) = leaf_mid z c k d first n0 n1 (Store 13 n 10) r1 p1 e1 keeps0.core.grows 12 keeps0.key l v stood hand0.1

    stood1 : StoodIn z c n1 l
    stood1 = by hand0.0
      where
        by : IsAtHand z d n0 c k l v n → StoodIn z c n1 l
        by (inl (zeroth, own)) = record {
          former = n1;
          before = prefix_same n1;
          place = n ∷ [];
          there = at_field (graph_of z n1) [] (Block c) c (moved (suc n) (Block l) fs) n refl (ap fields_of block1) ∙ ap Some (stored_there n (Block l) fs small ∙ ap (λ (i : ℕ). carried i (Block l) fs) zeroth);
          leaf = subst is_leaf (sym node1) tt;
        }
        by (inr stood) = stood_more z c l n0 n1 g1 stood

    -- what the slot held is told
    told_it : Told n1 n2 (moved (suc n) (Block l) fs) (get_or fs n Nothing) mine
    told_it = told_by n1 n2 9 (omega arith) spares (moved (suc n) (Block l) fs) keeps1 (get_or fs n Nothing) r0 mine
        (read_shows now n0 r0 9 n (omega arith) (omega arith) p0 e0 gs x.keeps small_gs ∙ ap shown (read_moved n (Block l) fs small)) (stored.1 9 ∙ nine0) (keeps1.core.uses n small) t

    pub pass_low : KeepsBeside z d now n2
    pass_low j beside = told_it.others j beside.2 ∙ (stored.1 j ∙ others0 j beside.0)

    pub pass_met : mine ≡ true → Moved z d first n2 c k l v fs
    pass_met so =
        let y = told_it.leaf l v stood1 node1 in record {
          keeps = subst (λ (ys : List Value). Keeping z d first n2 c k fs ys) (moved_stop (was_of z first k) n (Block l) fs small x.none (sym told_it.is ∙ so)) told_it.keeps;
          stood = y.0;
          node = y.1;
        }

    -- and taken
    module _ (not_so : mine ≡ false) (new : List Entry) (r3 : Reply) (p3 : PerformedBy z d n2 new (Copy 10 9) r3) (spares3 : OthersSpare z c d first new) where
      copied : (graph_of z new ≡ graph_of z (n2 ++ p3.between)) × (registers_after z d new ≡ set (registers_after z d n2) 10 (held_by z d n2 9))
      copied = let all = copy_step z d n2 new r3 10 9 p3 in (all.0, all.1)

      others3 : (j : ℕ) → j ≢ 10 → held_by z d new j ≡ held_by z d n2 j
      others3 = set_other z d n2 new 10 (held_by z d n2 9) copied.1

      pub pass_low_on : KeepsBeside z d now new
      pass_low_on j beside = others3 j beside.1 ∙ pass_low j beside

      pub pass_on : Moving z d first new c k l v fs (n + 1)
      pass_on =
          let two = told_it.leaf l v stood1 node1 in
          let y = leaf_quiet z c k d first n2 new (Copy 10 9) r3 p3 spares3 told_it.keeps.core.grows 12 told_it.keeps.key copied.0 l v two.0 two.1 in
          let next : suc n ≡ n + 1 = sym (add-one n) in record {
            keeps = record {
              core = subst (λ (i : ℕ). Core z first new c k fs (moved i (Block l) fs)) next (core_quiet z c k d first n2 new (Copy 10 9) r3 p3 spares3 told_it.keeps.core.grows 12 told_it.keeps.key copied.0 fs (moved (suc n) (Block l) fs) told_it.keeps.core);
              key = others3 12 (λ e. absurd (omega (arith, e))) ∙ told_it.keeps.key;
              cache = others3 13 (λ e. absurd (omega (arith, e))) ∙ told_it.keeps.cache;
              spared = spared_quiet z c d first n2 new (Copy 10 9) r3 p3 copied.0 told_it.keeps.spared;
            };
            none = none_more n x.none (sym told_it.is ∙ not_so);
            held = set_here z d n2 new 10 (held_by z d n2 9) copied.1 (sixteen z d n2 new (Copy 10 9) r3 p3 limits) (omega arith)
                ∙ (told_it.others 9 (λ e. absurd (omega (arith, e))) ∙ (stored.1 9 ∙ (nine0 ∙ (sym (carried_next n (Block l) fs small) ∙ ap (λ (i : ℕ). carried i (Block l) fs) next))));
            at_hand = inr y.0;
            node = y.1;
          }

  -- all were passed, and none was the key's
  pub all_moved : (now : List Entry) (l : Label) (v : Value) → 1 ≤ length fs → Moving z d first now c k l v fs (length fs) → Moved z d first now c k l v fs
  all_moved now l v some x = record {
    keeps = subst (λ (ys : List Value). Keeping z d first now c k fs ys) (moved_all (was_of z first k) (Block l) fs x.none) x.keeps;
    stood = by x.at_hand;
    node = x.node;
  }
    where
      by : IsAtHand z d now c k l v (length fs) → StoodIn z c now l
      by (inl (none, own)) = absurd (omega (arith, some, none))
      by (inr stood) = stood
