-- What the calls on a cache answer.
use Rattle.std.proofs.Common.{◌≡◌, ◌≢◌, inl, inr, ⊎_elim, ℕ, zero, suc, ◌<◌, ◌≤◌, true, false, eqb-true, List, [], ◌∷◌, ◌++◌, length, map, get_or, set, replicate, pos, Option, Some, None, refl, ap, sym, ◌∙◌, subst, arith}
use Rattle.std.proofs.lemmas.List.{length-replicate}
use Rattle.model_core.specs.declared.label.Label.{Label}
use Rattle.model_core.specs.declared.command.Command.TheVariants.{Alloc, Ephe as NewEphe, Forget, GetData, SetData, SetKey}
use Rattle.model_core.specs.declared.entry.Entry.{Entry}
use Rattle.model_core.specs.declared.reply.Reply.{Reply}
use Rattle.model_core.specs.declared.reply.Reply.TheVariants as reply
use Rattle.model_core.specs.declared.graph.Value.{Value}
use Rattle.model_core.specs.declared.graph.Value.TheVariants.{Int, Block, Nothing}
use Rattle.model_core.specs.declared.graph.Node.{Node}
use Rattle.model_core.specs.declared.graph.Node.TheVariants.{Plain, Ephe}
use Rattle.model_core.specs.declared.state.Sizes.{Sizes}
use Rattle.model_core.specs.Graph.{Graph, node_at}
use Rattle.model_core.specs.Commands.{new_plain, shown}
use Rattle.model_core.specs.Domains.{IsWithinLimits}
use Rattle.model_core.specs.History.{IsPrefix}
use Rattle.model_core.proofs.Graphs.GraphLemmas.{node_at-append_new, node_at-append_old, node_at-with_node_other, node_at-with_node_same, same_label_refl}
use Rattle.weak_laws.specs.Tables.Structures.{Binding}
use Rattle.weak_laws.specs.Tables.Stages.{graph_of}
use Rattle.weak_laws.specs.Maps.Tries.{fields_of, is_leaf}
use Rattle.weak_laws.specs.Maps.Steps.{WasUnreached}
use Rattle.weak_laws.specs.Maps.Calls.{PerformedBy, registers_after, value_of}
use Rattle.weak_laws.proofs.OfMaps.CallLemmas.{alloc_step, ephe_step, get_data_step, made, set_data_step, set_key_step}
use Rattle.weak_laws.proofs.OfMaps.FrontLemmas.{prefix_same, prefix_trans}
use Rattle.weak_laws.proofs.OfMaps.OwnLemmas.{grew_along}
use Rattle.weak_maps.specs.Beside.{held_by}
use Rattle.weak_maps.specs.Puts.{OwnBlock, FilledLeaf}
use Rattle.weak_maps.proofs.BesideLemmas.{same_held, set_here, set_other, since_old, sixteen, until_new}
use Rattle.weak_maps.proofs.FreshLemmas.{not_held_before, own_born, own_middle, own_on, thin_empty}
use Rattle.weak_maps.proofs.GetLemmas.{grows_by}
use Rattle.weak_maps.proofs.StayLemmas.{no_entry, quiet_on}
use Rattle.weak_cache.specs.Uses.{AreOnce, cached_in, is_of, touched}
use Rattle.weak_cache.specs.Caches.{IsCache, IsUse, OthersSpare, OwnSpare, slot_of, slots_after}
use Rattle.weak_cache.specs.Calls.{GetReturns, LeavesCache, MakeReturns, PutReturns, PutsOrFull, TakeReturns}
use Rattle.weak_cache.specs.Passes.{Cleared, Core, Finding, FoundLeaf, Keeping, KeepsBeside, Moved, Moving, StoodIn, UseLeft, cut_out, moved_by, was_of}
use Rattle.weak_cache.proofs.CoreLemmas.{core_mid, core_own, core_quiet, leaf_mid, leaf_quiet, spared_on, spared_quiet, spares_within}
use Rattle.weak_cache.proofs.EndLemmas.{low_beside, cleared_clean, cleared_core, cleared_leaf, cleared_low, cleared_spared, forgot_core, forgot_here, forgot_others, forgot_spared, left_alone, left_first, left_taken, slots_are}
use Rattle.weak_cache.proofs.ListLemmas.{cached_found, cached_none, taken_none}
use Rattle.weak_cache.proofs.OnceLemmas.{once_empty}

module _ (z : Sizes) (limits : IsWithinLimits z) (d : ℕ) (c k : Label) (first : List Entry) (size : ℕ) (cache_is : IsCache (graph_of z first) c size) where
  abbrev fs : List Value
  fs = cache_is.fields

  -- a leaf is made
  module _ (now new : List Entry) (key item : ℕ) (few_key : key < 8) (few_item : item < 8) (e : FilledLeaf z d now new key item) (spares : OthersSpare z c d first new) (x : Keeping z d first now c k fs fs) (holds_key : held_by z d now key ≡ Block k) (some : held_by z d now item ≢ Nothing) where
    abbrev l : Label
    l = made z d now e.one (NewEphe 10 1) e.made_reply e.makes

    abbrev v : Value
    v = held_by z d now item

    g2 : IsPrefix e.two new
    g2 = grows_by z d e.two new (SetKey 10 0 key) e.key_reply e.keys

    g1 : IsPrefix e.one new
    g1 = prefix_trans e.one e.two new (grows_by z d e.one e.two (SetData 10 item) e.data_reply e.sets) g2

    upto : (h : List Entry) → IsPrefix h new → OthersSpare z c d first h
    upto h until = spares_within z c d first new first h (prefix_same first) until spares

    core_a : Core z first (now ++ e.makes.between) c k fs fs
    core_a = core_mid z c k d first now e.one (NewEphe 10 1) e.made_reply e.makes (upto e.one g1) x.core.grows 12 x.key fs fs x.core

    abbrev First : Type 0
    First = Core z first e.one c k fs fs × ((i : ℕ) → i ≢ 10 → held_by z d e.one i ≡ held_by z d now i) × OwnBlock z d e.one c 10 l (Ephe (None ∷ []) Nothing)
        × (node_at (graph_of z (now ++ e.makes.between)) l ≡ None) × OwnSpare z c d first e.one

    there_then : (m : Label) (n : Node) → node_at (graph_of z first) m ≡ Some n → (h : List Entry) → IsPrefix first h → (n2 : Node) × (node_at (graph_of z h) m ≡ Some n2)
    there_then m n there h until = let x = grew_along z first h until m n there in (x.0, x.1)

    first_made : First
    first_made = ⊎_elim
        (λ refused. absurd (e.granted refused.1.2))
        (λ granted.
        let g : Graph = graph_of z (now ++ e.makes.between) in (
          core_own z c k d first now e.one (NewEphe 10 1) e.made_reply e.makes (upto e.one g1) x.core.grows 12 x.key
              (λ m o w stood node. ap (λ (y : Graph). node_at y m) granted.2.0 ∙ node_at-append_old g (l, Ephe (None ∷ []) Nothing) m (Ephe (o ∷ []) w) node) fs fs fs core_a.tag core_a
              (ap (λ (y : Graph). node_at y c) granted.2.0 ∙ node_at-append_old g (l, Ephe (None ∷ []) Nothing) c (Plain core_a.tag fs) core_a.block),
          set_other z d now e.one 10 (Block l) granted.2.1,
          own_born z d c now e.one (NewEphe 10 1) e.made_reply e.makes 10 (Ephe (None ∷ []) Nothing) (λ j is. let clash : false ≡ true = is in cc) (fs, ap fields_of core_a.block) granted.1 granted.2.0
              (set_here z d now e.one 10 (Block l) granted.2.1 (sixteen z d now e.one (NewEphe 10 1) e.made_reply e.makes limits) (omega arith)),
          granted.1,
          spared_on z c d first now e.one (NewEphe 10 1) e.made_reply e.makes
              (λ m n there other.
              let old = there_then m n there (now ++ e.makes.between) core_a.grows in
              ap (λ (y : Graph). node_at y m) granted.2.0 ∙ (node_at-append_old g (l, Ephe (None ∷ []) Nothing) m old.0 old.1 ∙ sym old.1)) x.spared,
        ))
        (ephe_step z d now e.one e.made_reply 10 e.makes)

    key_one : held_by z d e.one 12 ≡ Block k
    key_one = first_made.1 12 (λ s. absurd (omega (arith, s))) ∙ x.key

    -- a leaf in the making is written: each leaf of the cache stays
    apart_leaf : (h : List Entry) (n : Node) → OwnBlock z d h c 10 l n → (m : Label) → StoodIn z c h m → m ≢ l
    apart_leaf h n own m stood same = own.never stood.former stood.place stood.before (stood.there ∙ ap (λ (y : Label). Some (Block y)) same) (subst (λ (y : Label). is_leaf (node_at (graph_of z stood.former) y)) same stood.leaf)

    -- and so does each block that was there
    apart_old : (m : Label) (n : Node) → node_at (graph_of z first) m ≡ Some n → m ≢ l
    apart_old m n there same =
        let old = there_then m n there (now ++ e.makes.between) core_a.grows in
        let clash : None ≡ Some old.0 = sym first_made.3 ∙ (ap (node_at (graph_of z (now ++ e.makes.between))) (sym same) ∙ old.1) in cc

    -- the value
    own_mid1 : OwnBlock z d (e.one ++ e.sets.between) c 10 l (Ephe (None ∷ []) Nothing)
    own_mid1 = own_middle z d c e.one e.two (SetData 10 item) e.data_reply e.sets 10 l (Ephe (None ∷ []) Nothing) (thin_empty (WasUnreached z e.one (e.one ++ e.sets.between)) Nothing) first_made.2

    core_b : Core z first (e.one ++ e.sets.between) c k fs fs
    core_b = core_mid z c k d first e.one e.two (SetData 10 item) e.data_reply e.sets (upto e.two g2) first_made.0.grows 12 key_one fs fs first_made.0

    abbrev Second : Type 0
    Second = Core z first e.two c k fs fs × ((i : ℕ) → held_by z d e.two i ≡ held_by z d e.one i) × OwnBlock z d e.two c 10 l (Ephe (None ∷ []) v) × OwnSpare z c d first e.two

    second_made : Second
    second_made =
        let is : held_by z d e.one item ≡ v = first_made.1 item (λ s. absurd (omega (arith, few_item, s))) in
        let all = set_data_step z d e.one e.two e.data_reply 10 item e.sets l v None Nothing first_made.2.held is some own_mid1.node in
        let g : Graph = graph_of z (e.one ++ e.sets.between) in (
          core_own z c k d first e.one e.two (SetData 10 item) e.data_reply e.sets (upto e.two g2) first_made.0.grows 12 key_one
              (λ m o w stood node. ap (λ (y : Graph). node_at y m) all.0 ∙ (node_at-with_node_other g l m (Ephe (None ∷ []) v) (apart_leaf (e.one ++ e.sets.between) (Ephe (None ∷ []) Nothing) own_mid1 m stood) ∙ node)) fs fs fs core_b.tag core_b
              (ap (λ (y : Graph). node_at y c) all.0 ∙ (node_at-with_node_other g l c (Ephe (None ∷ []) v) own_mid1.apart ∙ core_b.block)),
          same_held z d e.one e.two all.1,
          own_on z d c e.one e.two (SetData 10 item) e.data_reply e.sets 10 l (Ephe (None ∷ []) Nothing) (Ephe (None ∷ []) v) item own_mid1 (λ j s. sym (eqb-true item j s))
              (λ s. not_held_before z d c now e.one (NewEphe 10 1) e.made_reply e.makes item (sym is ∙ s)) (same_held z d e.one e.two all.1 10)
              (ap (λ (y : Graph). node_at y l) all.0 ∙ node_at-with_node_same g l (Ephe (None ∷ []) v) (Ephe (None ∷ []) Nothing) own_mid1.node),
          spared_on z c d first e.one e.two (SetData 10 item) e.data_reply e.sets (λ m n there other. ap (λ (y : Graph). node_at y m) all.0 ∙ node_at-with_node_other g l m (Ephe (None ∷ []) v) (apart_old m n there)) first_made.4,
        )

    -- and the key
    own_mid2 : OwnBlock z d (e.two ++ e.keys.between) c 10 l (Ephe (None ∷ []) v)
    own_mid2 = own_middle z d c e.two new (SetKey 10 0 key) e.key_reply e.keys 10 l (Ephe (None ∷ []) v) (thin_empty (WasUnreached z e.two (e.two ++ e.keys.between)) v) second_made.2

    key_two : held_by z d e.two 12 ≡ Block k
    key_two = second_made.1 12 ∙ key_one

    core_c : Core z first (e.two ++ e.keys.between) c k fs fs
    core_c = core_mid z c k d first e.two new (SetKey 10 0 key) e.key_reply e.keys spares second_made.0.grows 12 key_two fs fs second_made.0

    pub leaf_made : Moving z d first new c k l v fs 0 × KeepsBeside z d now new
    leaf_made =
        let is : held_by z d e.two key ≡ held_by z d now key = second_made.1 key ∙ first_made.1 key (λ s. absurd (omega (arith, few_key, s))) in
        let all = set_key_step z d e.two new e.key_reply 10 key e.keys l k None v second_made.2.held (is ∙ holds_key) own_mid2.node in
        let g : Graph = graph_of z (e.two ++ e.keys.between) in
        let keeps : (i : ℕ) → held_by z d new i ≡ held_by z d e.two i = same_held z d e.two new all.1 in
        let others : (i : ℕ) → i ≢ 10 → held_by z d new i ≡ held_by z d now i = (λ i other. keeps i ∙ (second_made.1 i ∙ first_made.1 i other)) in
        let node : node_at (graph_of z new) l ≡ Some (Ephe (Some k ∷ []) v) = ap (λ (y : Graph). node_at y l) all.0 ∙ node_at-with_node_same g l (Ephe (Some k ∷ []) v) (Ephe (None ∷ []) v) own_mid2.node in
        let own = own_on z d c e.two new (SetKey 10 0 key) e.key_reply e.keys 10 l (Ephe (None ∷ []) v) (Ephe (Some k ∷ []) v) key own_mid2 (λ j s. sym (eqb-true key j s))
        (λ s. not_held_before z d c now e.one (NewEphe 10 1) e.made_reply e.makes key (sym is ∙ s)) (keeps 10) node in (
          record {
            keeps = record {
              core = core_own z c k d first e.two new (SetKey 10 0 key) e.key_reply e.keys spares second_made.0.grows 12 key_two
                  (λ m o w stood n. ap (λ (y : Graph). node_at y m) all.0 ∙ (node_at-with_node_other g l m (Ephe (Some k ∷ []) v) (apart_leaf (e.two ++ e.keys.between) (Ephe (None ∷ []) v) own_mid2 m stood) ∙ n)) fs fs fs core_c.tag core_c
                  (ap (λ (y : Graph). node_at y c) all.0 ∙ (node_at-with_node_other g l c (Ephe (Some k ∷ []) v) own_mid2.apart ∙ core_c.block));
              key = others 12 (λ s. absurd (omega (arith, s))) ∙ x.key;
              cache = others 13 (λ s. absurd (omega (arith, s))) ∙ x.cache;
              spared = spared_on z c d first e.two new (SetKey 10 0 key) e.key_reply e.keys (λ m n there other. ap (λ (y : Graph). node_at y m) all.0 ∙ node_at-with_node_other g l m (Ephe (Some k ∷ []) v) (apart_old m n there)) second_made.3;
            };
            none = λ j less. absurd (omega (arith, less));
            held = own.held;
            at_hand = inl (refl, own);
            node = node;
          },
          (λ i beside. others i beside.1),
        )

  -- `put` is done
  pub put_done : (now new : List Entry) (l : Label) (v : Value) → KeepsBeside z d first now → Moved z d first now c k l v fs → Cleared z d now new → OthersSpare z c d first new → PutsOrFull z d first new c size k v reply.Done
  put_done now new l v low x e spares =
      let gs = moved_by (was_of z first k) (Block l) fs in (
        (
          cleared_clean z limits d c k first size cache_is now new e spares gs x.keeps,
          (λ i small other. cleared_low z limits d c k first size cache_is now new e spares gs x.keeps i small ∙ low i small),
        ),
        inl (refl, left_first z limits d c k first size cache_is new l v (cleared_spared z limits d c k first size cache_is now new e spares gs x.keeps) (cleared_core z limits d c k first size cache_is now new e spares gs x.keeps) (cleared_leaf z limits d c k first size cache_is now new e spares gs x.keeps l v x.stood x.node)),
      )

  -- or refused
  pub put_full : (now one new : List Entry) (r : Reply) (v : Value) → KeepsBeside z d first now → Keeping z d first now c k fs fs → PerformedBy z d now one (NewEphe 10 1) r → r ≡ reply.Full → Cleared z d one new → IsPrefix one new → OthersSpare z c d first new → PutsOrFull z d first new c size k v reply.Full
  put_full now one new r v low x p full e later spares = ⊎_elim
      (λ refused.
      let others : (i : ℕ) → held_by z d one i ≡ held_by z d now i = same_held z d now one refused.1.1 in
      let y : Keeping z d first one c k fs fs = record {
        core = core_quiet z c k d first now one (NewEphe 10 1) r p (spares_within z c d first new first one (prefix_same first) later spares) x.core.grows 12 x.key refused.1.0 fs fs x.core;
        key = others 12 ∙ x.key;
        cache = others 13 ∙ x.cache;
        spared = spared_quiet z c d first now one (NewEphe 10 1) r p refused.1.0 x.spared;
      } in (
        (
          cleared_clean z limits d c k first size cache_is one new e spares fs y,
          (λ i small other. cleared_low z limits d c k first size cache_is one new e spares fs y i small ∙ (others i ∙ low i small)),
        ),
        inr (refl, left_alone z limits d c k first size cache_is new (cleared_spared z limits d c k first size cache_is one new e spares fs y) (cleared_core z limits d c k first size cache_is one new e spares fs y)),
      ))
      (λ granted. let clash : reply.Block (made z d now one (NewEphe 10 1) r p) ≡ reply.Full = sym granted.2.2 ∙ full in cc)
      (ephe_step z d now one r 10 p)

  long_fs : length fs ≡ size
  long_fs = cache_is.many

  -- `get` finds a leaf, and reads its value
  module _ (now n0 : List Entry) (r : Reply) (dst : ℕ) (few : dst < 8) (p : PerformedBy z d now n0 (GetData dst 10) r) (spares : OthersSpare z c d first n0) (slot : ℕ) (x : FoundLeaf z d first now c k fs slot) where
    stood : StoodIn z c now x.l
    stood = (subst (UseLeft z c k first now) x.field (x.keeps.core.uses slot x.inner)).0

    core_read : Core z first (now ++ p.between) c k fs fs
    core_read = core_mid z c k d first now n0 (GetData dst 10) r p spares x.keeps.core.grows 12 x.keeps.key fs fs x.keeps.core

    read : (graph_of z n0 ≡ graph_of z (now ++ p.between)) × (registers_after z d n0 ≡ set (registers_after z d now) dst x.v) × (r ≡ shown x.v)
    read = get_data_step z d now n0 r dst 10 p x.l (Some k) x.v x.held (leaf_mid z c k d first now n0 (GetData dst 10) r p spares x.keeps.core.grows 12 x.keeps.key x.l x.v stood x.node)

    others : (j : ℕ) → j ≢ dst → held_by z d n0 j ≡ held_by z d now j
    others = set_other z d now n0 dst x.v read.1

    pub found_moves : Moving z d first n0 c k x.l x.v fs 0
    found_moves =
        let y = leaf_quiet z c k d first now n0 (GetData dst 10) r p spares x.keeps.core.grows 12 x.keeps.key read.0 x.l x.v stood x.node in record {
          keeps = record {
            core = core_quiet z c k d first now n0 (GetData dst 10) r p spares x.keeps.core.grows 12 x.keeps.key read.0 fs fs x.keeps.core;
            key = others 12 (λ s. absurd (omega (arith, few, s))) ∙ x.keeps.key;
            cache = others 13 (λ s. absurd (omega (arith, few, s))) ∙ x.keeps.cache;
            spared = spared_quiet z c d first now n0 (GetData dst 10) r p read.0 x.keeps.spared;
          };
          none = λ j less. absurd (omega (arith, less));
          held = others 10 (λ s. absurd (omega (arith, few, s))) ∙ x.held;
          at_hand = inr y.0;
          node = y.1;
        }

    had : slot_of (graph_of z first) (get_or fs slot Nothing) ≡ Some (k, x.v)
    had = ap (slot_of (graph_of z first)) x.field ∙ x.had

    own : was_of z first k (get_or fs slot Nothing) ≡ true
    own = ap (is_of k) had ∙ same_label_refl k

    cached : cached_in k (slots_after z first c) ≡ Some x.v
    cached = ap (cached_in k) (slots_are z first c cache_is.tag fs cache_is.node) ∙ cached_found k x.v (graph_of z first) fs slot x.inner x.none had own

    pub get_found : (n1 new : List Entry) → KeepsBeside z d first now → Moved z d first n1 c k x.l x.v fs → KeepsBeside z d n0 n1 → Cleared z d n1 new → OthersSpare z c d first new → GetReturns z d first new c size dst (Block k) r
    get_found n1 new low y low1 e spares1 =
        let gs = moved_by (was_of z first k) (Block x.l) fs in
        let low2 = cleared_low z limits d c k first size cache_is n1 new e spares1 gs y.keeps in
        let holds : held_by z d new dst ≡ x.v = low2 dst (low_beside dst few) ∙ (low1 dst (low_beside dst few) ∙ set_here z d now n0 dst x.v read.1 (sixteen z d now n0 (GetData dst 10) r p limits) (omega (arith, few))) in (
          read.2 ∙ sym (ap (λ (o : Option Value). shown (value_of o)) cached),
          ap shown holds ∙ sym read.2,
          subst (λ (o : Option Value). LeavesCache z d k first new c size (touched k o (slots_after z first c))) (sym cached)
              (left_first z limits d c k first size cache_is new x.l x.v (cleared_spared z limits d c k first size cache_is n1 new e spares1 gs y.keeps) (cleared_core z limits d c k first size cache_is n1 new e spares1 gs y.keeps) (cleared_leaf z limits d c k first size cache_is n1 new e spares1 gs y.keeps x.l x.v y.stood y.node)),
          (
            cleared_clean z limits d c k first size cache_is n1 new e spares1 gs y.keeps,
            (λ i small other. low2 i small ∙ (low1 i small ∙ (others i other ∙ low i small))),
          ),
        )

    -- and takes it out
    pub take_found : (n1 new : List Entry) → KeepsBeside z d first now → Keeping z d first n1 c k fs (cut_out slot fs) → KeepsBeside z d n0 n1 → Cleared z d n1 new → OthersSpare z c d first new → TakeReturns z d first new c size dst (Block k) r
    take_found n1 new low y low1 e spares1 =
        let gs = cut_out slot fs in
        let low2 = cleared_low z limits d c k first size cache_is n1 new e spares1 gs y in
        let holds : held_by z d new dst ≡ x.v = low2 dst (low_beside dst few) ∙ (low1 dst (low_beside dst few) ∙ set_here z d now n0 dst x.v read.1 (sixteen z d now n0 (GetData dst 10) r p limits) (omega (arith, few))) in (
          read.2 ∙ sym (ap (λ (o : Option Value). shown (value_of o)) cached),
          ap shown holds ∙ sym read.2,
          left_taken z limits d c k first size cache_is new slot x.inner x.none own (cleared_spared z limits d c k first size cache_is n1 new e spares1 gs y) (cleared_core z limits d c k first size cache_is n1 new e spares1 gs y),
          (
            cleared_clean z limits d c k first size cache_is n1 new e spares1 gs y,
            (λ i small other. low2 i small ∙ (low1 i small ∙ (others i other ∙ low i small))),
          ),
        )

  -- or finds none
  pub get_none : (now n0 new : List Entry) (r : Reply) (dst : ℕ) → dst < 8 → KeepsBeside z d first now → Finding z d first now c k fs (length fs) → PerformedBy z d now n0 (Forget dst) r → IsPrefix n0 new → Cleared z d n0 new → OthersSpare z c d first new → GetReturns z d first new c size dst (Block k) reply.Empty
  get_none now n0 new r dst few low x p later e spares =
      let others : (j : ℕ) → j ≢ dst → held_by z d n0 j ≡ held_by z d now j = forgot_others z limits d c k first size cache_is now n0 r dst p in
      let y : Keeping z d first n0 c k fs fs = record {
        core = forgot_core z limits d c k first size cache_is now n0 r dst p fs (spares_within z c d first new first n0 (prefix_same first) later spares) x.0.key x.0.core;
        key = others 12 (λ s. absurd (omega (arith, few, s))) ∙ x.0.key;
        cache = others 13 (λ s. absurd (omega (arith, few, s))) ∙ x.0.cache;
        spared = forgot_spared z limits d c k first size cache_is now n0 r dst p x.0.spared;
      } in
      let none : cached_in k (slots_after z first c) ≡ None = ap (cached_in k) (slots_are z first c cache_is.tag fs cache_is.node) ∙ cached_none k (graph_of z first) fs x.1 in
      let low2 = cleared_low z limits d c k first size cache_is n0 new e spares fs y in (
        sym (ap (λ (o : Option Value). shown (value_of o)) none),
        ap shown (low2 dst (low_beside dst few) ∙ forgot_here z limits d c k first size cache_is now n0 r dst p (omega (arith, few))),
        subst (λ (o : Option Value). LeavesCache z d k first new c size (touched k o (slots_after z first c))) (sym none) (left_alone z limits d c k first size cache_is new (cleared_spared z limits d c k first size cache_is n0 new e spares fs y) (cleared_core z limits d c k first size cache_is n0 new e spares fs y)),
        (
          cleared_clean z limits d c k first size cache_is n0 new e spares fs y,
          (λ i small other. low2 i small ∙ (others i other ∙ low i small)),
        ),
      )

  -- so there is none to take out
  pub take_none : (now n0 new : List Entry) (r : Reply) (dst : ℕ) → dst < 8 → KeepsBeside z d first now → Finding z d first now c k fs (length fs) → PerformedBy z d now n0 (Forget dst) r → IsPrefix n0 new → Cleared z d n0 new → OthersSpare z c d first new → TakeReturns z d first new c size dst (Block k) reply.Empty
  take_none now n0 new r dst few low x p later e spares =
      let none : cached_in k (slots_after z first c) ≡ None = ap (cached_in k) (slots_are z first c cache_is.tag fs cache_is.node) ∙ cached_none k (graph_of z first) fs x.1 in
      let got = get_none now n0 new r dst few low x p later e spares in (
        got.0,
        got.1,
        subst (λ (ss : List (Option Binding)). LeavesCache z d k first new c size ss) (ap (λ (o : Option Value). touched k o (slots_after z first c)) none ∙ sym (taken_none k (slots_after z first c) none)) got.2,
        got.3,
      )

-- a new cache
zeros_use : (g : Graph) (n i : ℕ) → i < n → IsUse g (get_or (replicate n (Int (pos 0))) i Nothing)
zeros_use g zero i small = absurd (omega (arith, small))
zeros_use g (suc n) zero small = refl
zeros_use g (suc n) (suc i) small = zeros_use g n i (omega (arith, small))

zeros_slots : (g : Graph) (n : ℕ) → map (slot_of g) (replicate n (Int (pos 0))) ≡ replicate n None
zeros_slots g zero = refl
zeros_slots g (suc n) = ap (λ (ss : List (Option Binding)). None ∷ ss) (zeros_slots g n)

pub made_cache : (z : Sizes) (limits : IsWithinLimits z) (d : ℕ) (old new : List Entry) (r : Reply) (dst size : ℕ) → dst < 8 → 1 ≤ size → PerformedBy z d old new (Alloc dst 0 size) r → MakeReturns z d old new dst size r
made_cache z limits d old new r dst size few some p = ⊎_elim
    (λ refused. inr (
      refused.1.2,
      record {
        quiet = quiet_on z root_of d old old new (Alloc dst 0 size) r p refused.1.0 (λ front e since until mine. absurd (no_entry old front e since until));
        keeps = same_held z d old new refused.1.1;
      },
    ))
    (λ granted.
    let l : Label = made z d old new (Alloc dst 0 size) r p in
    let node : node_at (graph_of z new) l ≡ Some (new_plain 0 size) = ap (λ (g : Graph). node_at g l) granted.2.0 ∙ node_at-append_new (graph_of z (old ++ p.between)) l (new_plain 0 size) granted.1 in
    inl (
      l,
      granted.2.2,
      record {
        cache = record { some = some; tag = 0; fields = replicate size (Int (pos 0)); node = node; many = length-replicate size (Int (pos 0)); uses = zeros_use (graph_of z new) size; once = subst AreOnce (sym (zeros_slots (graph_of z new) size)) (once_empty size) };
        empty = slots_are z new l 0 (replicate size (Int (pos 0))) node ∙ zeros_slots (graph_of z new) size;
        holds = set_here z d old new dst (Block l) granted.2.1 (sixteen z d old new (Alloc dst 0 size) r p limits) (omega (arith, few));
        keeps = set_other z d old new dst (Block l) granted.2.1;
        front = old ++ p.between;
        since = since_old z d old new (Alloc dst 0 size) r p;
        until = until_new z d old new (Alloc dst 0 size) r p;
        fresh = granted.1;
        made = granted.2.0;
      },
    ))
    (alloc_step z d old new r dst 0 size p)
  where
    root_of : Label
    root_of = made z d old new (Alloc dst 0 size) r p

-- what is answered, by what the register of the key holds
pub put_returns : (z : Sizes) (d : ℕ) (old new : List Entry) (c : Label) (size : ℕ) (u v : Value) (k : Label) (r : Reply) → u ≡ Block k → v ≢ Nothing → PutsOrFull z d old new c size k v r → PutReturns z d old new c size u v r
put_returns z d old new c size u v k r held some x = subst (λ (w : Value). PutReturns z d old new c size w v r) (sym held) (of v some x)
  where
    of : (w : Value) → w ≢ Nothing → PutsOrFull z d old new c size k w r → PutReturns z d old new c size (Block k) w r
    of (Int a) is y = y
    of (Block l) is y = y
    of Nothing is y = absurd (is refl)
