-- What a put makes before it is published: the leaf.
use Rattle.std.proofs.Common.{◌≡◌, ◌≢◌, ⊎_elim, ℕ, ◌<◌, true, false, eqb-true, List, [], ◌∷◌, ◌++◌, Some, None, ap, sym, ◌∙◌, arith, Bool, refl}
use Rattle.model_core.specs.declared.label.Label.{Label}
use Rattle.model_core.specs.declared.command.Command.{Command}
use Rattle.model_core.specs.declared.command.Command.TheVariants.{Ephe as NewEphe, SetKey, SetData}
use Rattle.model_core.specs.declared.entry.Entry.{Entry}
use Rattle.model_core.specs.declared.reply.Reply.{Reply}
use Rattle.model_core.specs.declared.reply.Reply.TheVariants as reply
use Rattle.model_core.specs.declared.graph.Value.{Value}
use Rattle.model_core.specs.declared.graph.Value.TheVariants.{Block, Nothing}
use Rattle.model_core.specs.declared.graph.Node.TheVariants.{Ephe}
use Rattle.model_core.specs.declared.state.Sizes.{Sizes}
use Rattle.model_core.specs.Graph.{Graph, node_at}
use Rattle.model_core.specs.Domains.{IsWithinLimits}
use Rattle.model_core.specs.History.{IsPrefix}
use Rattle.model_core.proofs.Graphs.GraphLemmas.{node_at-with_node_same}
use Rattle.weak_laws.specs.Tables.Stages.{graph_of}
use Rattle.weak_laws.specs.Maps.Tries.{IsMap}
use Rattle.weak_laws.specs.Maps.Steps.{OthersRespect, WasUnreached}
use Rattle.weak_laws.specs.Maps.Calls.{Looks, PerformedBy}
use Rattle.weak_laws.specs.Maps.Within.{IsMadeBehind, OwnWithin}
use Rattle.weak_laws.proofs.OfMaps.CallLemmas.{ephe_step, made, set_data_step, set_key_step}
use Rattle.weak_laws.proofs.OfMaps.FrontLemmas.{prefix_same, prefix_trans}
use Rattle.weak_laws.proofs.OfMaps.OwnLemmas.{looks_none, looks_twice}
use Rattle.weak_laws.proofs.OfMaps.WithinLemmas.{within_earlier, within_none, within_twice}
use Rattle.weak_maps.specs.Beside.{held_by}
use Rattle.weak_maps.specs.Guards.{Guards, LeafGuards}
use Rattle.weak_maps.specs.Puts.{FillsLeaf, GoesOn, LeafMade, LeafRefused, MakesLeaf, OwnBlock}
use Rattle.weak_maps.proofs.BesideLemmas.{sixteen, set_here, set_other, same_held}
use Rattle.weak_maps.proofs.FreshLemmas.{made_behind, makes_on, map_mid, not_held_before, own_born, own_middle, own_on, reads_on, thin_empty, writes_on}
use Rattle.weak_maps.proofs.GetLemmas.{grows_by}
use Rattle.weak_maps.proofs.GuardLemmas.{guards_since, guards_twice}
use Rattle.weak_maps.proofs.StayLemmas.{respects_within}

pub goes_none : (z : Sizes) (root : Label) (d : ℕ) (old : List Entry) → IsMap (graph_of z old) root → GoesOn z root d old old
goes_none z root d old map = record { looks = looks_none z root d old; within = within_none z root d old old; grows = prefix_same old; map = map }

-- two stretches
pub goes_twice : (z : Sizes) (root : Label) (d : ℕ) (old now new : List Entry) → GoesOn z root d old now → GoesOn z root d now new → GoesOn z root d old new
goes_twice z root d old now new first last = record { looks = looks_twice z root d old now new last.grows first.looks last.looks; within = within_twice z root d old old now new last.grows first.within (within_earlier z root d old now now new first.grows last.within); grows = prefix_trans old now new first.grows last.grows; map = last.map }

-- one command more
pub goes_by : (z : Sizes) (root : Label) (d : ℕ) (old now new : List Entry) (c : Command) (r : Reply) → PerformedBy z d now new c r → GoesOn z root d old now → Looks z root d now new → IsMap (graph_of z new) root → OwnWithin z root d old now new → GoesOn z root d old new
goes_by z root d old now new c r p first looks map within =
    let grows = grows_by z d now new c r p in
    record { looks = looks_twice z root d old now new grows first.looks looks; within = within_twice z root d old old now new grows first.within within; grows = prefix_trans old now new first.grows grows; map = map }

module _ (z : Sizes) (limits : IsWithinLimits z) (root : Label) (d : ℕ) where
  -- the allocation is refused
  pub leaf_refused : (old new : List Entry) (r : Reply) → PerformedBy z d old new (NewEphe 10 1) r → r ≡ reply.Full → IsMap (graph_of z old) root → OthersRespect z root d old new → LeafRefused z d old new root
  leaf_refused old new r p full map respects = ⊎_elim
      (λ refused.
      let on = reads_on z d root old new (NewEphe 10 1) r p respects map refused.1.0 in record {
        on = record { looks = on.0; within = on.2 old; grows = grows_by z d old new (NewEphe 10 1) r p; map = on.1 };
        keeps = same_held z d old new refused.1.1;
      })
      (λ granted. let clash : reply.Block (made z d old new (NewEphe 10 1) r p) ≡ reply.Full = sym granted.2.2 ∙ full in cc)
      (ephe_step z d old new r 10 p)

  module _ (old n0 : List Entry) (r0 : Reply) (map : IsMap (graph_of z old) root) (p0 : PerformedBy z d old n0 (NewEphe 10 1) r0) (other : r0 ≡ reply.Full → ⊥) (e0 : OthersRespect z root d old n0) where
    abbrev l : Label
    l = made z d old n0 (NewEphe 10 1) r0 p0

    g0 : IsPrefix old n0
    g0 = grows_by z d old n0 (NewEphe 10 1) r0 p0

    abbrev First : Type 0
    First = GoesOn z root d old n0 × ((i : ℕ) → i ≢ 10 → held_by z d n0 i ≡ held_by z d old i) × OwnBlock z d n0 root 10 l (Ephe (None ∷ []) Nothing) × IsMadeBehind z d old l

    pub leaf_begun : First
    leaf_begun = ⊎_elim
        (λ refused. absurd (other refused.1.2))
        (λ granted.
        let mine = made_behind z d root old n0 (NewEphe 10 1) r0 p0 old (prefix_same old) granted.1 in
        let on = makes_on z d root old n0 (NewEphe 10 1) r0 p0 e0 map (l, Ephe (None ∷ []) Nothing) granted.2.0 in (
          record { looks = on.0; within = on.2 old mine; grows = g0; map = on.1 },
          set_other z d old n0 10 (Block l) granted.2.1,
          own_born z d root old n0 (NewEphe 10 1) r0 p0 10 (Ephe (None ∷ []) Nothing) (λ j is. let clash : false ≡ true = is in cc) (map_mid z d root old n0 (NewEphe 10 1) r0 p0 e0 map).own granted.1 granted.2.0
              (set_here z d old n0 10 (Block l) granted.2.1 (sixteen z d old n0 (NewEphe 10 1) r0 p0 limits) (omega arith)),
          mine,
        ))
        (ephe_step z d old n0 r0 10 p0)

    -- the datum
    module _ (n1 : List Entry) (r1 : Reply) (item : ℕ) (few_item : item < 8) (some : held_by z d old item ≢ Nothing) (p1 : PerformedBy z d n0 n1 (SetData 10 item) r1) (e1 : OthersRespect z root d n0 n1) where
      abbrev v : Value
      v = held_by z d old item

      abbrev Second : Type 0
      Second = GoesOn z root d old n1 × ((i : ℕ) → held_by z d n1 i ≡ held_by z d n0 i) × OwnBlock z d n1 root 10 l (Ephe (None ∷ []) v)

      pub leaf_filled : Second
      leaf_filled =
          let x = own_middle z d root n0 n1 (SetData 10 item) r1 p1 10 l (Ephe (None ∷ []) Nothing) (thin_empty (WasUnreached z n0 (n0 ++ p1.between)) Nothing) leaf_begun.2 in
          let is : held_by z d n0 item ≡ v = leaf_begun.1 item (λ e. absurd (omega (arith, few_item, e))) in
          let all = set_data_step z d n0 n1 r1 10 item p1 l v None Nothing leaf_begun.2.held is some x.node in
          let on = writes_on z d root n0 n1 (SetData 10 item) r1 p1 e1 leaf_begun.0.map 10 l (Ephe (None ∷ []) Nothing) (Ephe (None ∷ []) v) x all.0 in (
            goes_by z root d old n0 n1 (SetData 10 item) r1 p1 leaf_begun.0 on.0 on.1 (on.2 old leaf_begun.3),
            same_held z d n0 n1 all.1,
            own_on z d root n0 n1 (SetData 10 item) r1 p1 10 l (Ephe (None ∷ []) Nothing) (Ephe (None ∷ []) v) item x (λ j e. sym (eqb-true item j e))
                (λ e. not_held_before z d root old n0 (NewEphe 10 1) r0 p0 item (sym is ∙ e)) (same_held z d n0 n1 all.1 10)
                (ap (λ (g : Graph). node_at g l) all.0 ∙ node_at-with_node_same (graph_of z (n0 ++ p1.between)) l (Ephe (None ∷ []) v) (Ephe (None ∷ []) Nothing) x.node),
          )

      -- the key
      pub leaf_made : (n2 : List Entry) (r2 : Reply) (key : ℕ) → key < 8 → (k : Label) → held_by z d old key ≡ Block k → (p2 : PerformedBy z d n1 n2 (SetKey 10 0 key) r2) → OthersRespect z root d n1 n2 → LeafMade z d old n2 root k v
      leaf_made n2 r2 key few_key k holds_key p2 e2 =
          let x = own_middle z d root n1 n2 (SetKey 10 0 key) r2 p2 10 l (Ephe (None ∷ []) v) (thin_empty (WasUnreached z n1 (n1 ++ p2.between)) v) leaf_filled.2 in
          let is : held_by z d n1 key ≡ held_by z d old key = leaf_filled.1 key ∙ leaf_begun.1 key (λ e. absurd (omega (arith, few_key, e))) in
          let all = set_key_step z d n1 n2 r2 10 key p2 l k None v leaf_filled.2.held (is ∙ holds_key) x.node in
          let on = writes_on z d root n1 n2 (SetKey 10 0 key) r2 p2 e2 leaf_filled.0.map 10 l (Ephe (None ∷ []) v) (Ephe (Some k ∷ []) v) x all.0 in record {
            on = goes_by z root d old n1 n2 (SetKey 10 0 key) r2 p2 leaf_filled.0 on.0 on.1 (on.2 old leaf_begun.3);
            keeps = λ i apart. same_held z d n1 n2 all.1 i ∙ (leaf_filled.1 i ∙ leaf_begun.1 i apart);
            l = l;
            made = leaf_begun.3;
            leaf = own_on z d root n1 n2 (SetKey 10 0 key) r2 p2 10 l (Ephe (None ∷ []) v) (Ephe (Some k ∷ []) v) key x (λ j e. sym (eqb-true key j e))
                (λ e. not_held_before z d root old n0 (NewEphe 10 1) r0 p0 key (sym is ∙ e)) (same_held z d n1 n2 all.1 10)
                (ap (λ (g : Graph). node_at g l) all.0 ∙ node_at-with_node_same (graph_of z (n1 ++ p2.between)) l (Ephe (Some k ∷ []) v) (Ephe (None ∷ []) v) x.node);
          }

  -- the three commands one after the other
  module _ (old n0 n1 n2 : List Entry) (r0 r1 r2 : Reply) (key item : ℕ) (few_key : key < 8) (few_item : item < 8) (k : Label) (holds_key : held_by z d old key ≡ Block k) (some : held_by z d old item ≢ Nothing)
      (map : IsMap (graph_of z old) root) (p0 : PerformedBy z d old n0 (NewEphe 10 1) r0) (p1 : PerformedBy z d n0 n1 (SetData 10 item) r1) (p2 : PerformedBy z d n1 n2 (SetKey 10 0 key) r2)
      (other : r0 ≡ reply.Full → ⊥) where
    g2 : IsPrefix n1 n2
    g2 = grows_by z d n1 n2 (SetKey 10 0 key) r2 p2

    g1 : IsPrefix n0 n1
    g1 = grows_by z d n0 n1 (SetData 10 item) r1 p1

    g_first : IsPrefix old n0
    g_first = grows_by z d old n0 (NewEphe 10 1) r0 p0

    filled : OthersRespect z root d old n1 → GoesOn z root d old n1
    filled e = (leaf_filled old n0 r0 map p0 other (respects_within z root d old n1 old n0 (prefix_same old) g1 e) n1 r1 item few_item some p1 (respects_within z root d old n1 n0 n1 g_first (prefix_same n1) e)).0

    pub leaf_whole : OthersRespect z root d old n2 → LeafMade z d old n2 root k (held_by z d old item)
    leaf_whole e =
        leaf_made old n0 r0 map p0 other (respects_within z root d old n2 old n0 (prefix_same old) (prefix_trans n0 n1 n2 g1 g2) e) n1 r1 item few_item some p1 (respects_within z root d old n2 n0 n1 g_first g2 e) n2 r2 key few_key k holds_key p2
        (respects_within z root d old n2 n1 n2 (prefix_trans old n0 n1 g_first g1) (prefix_same n2) e)

    -- each of them respects the map, if others did up to it
    pub leaf_guards : Guards z root d old old n2
    leaf_guards =
        guards_twice z root d old old n0 n2 (prefix_trans n0 n1 n2 g1 g2) (guards_since z root d old old n0 (NewEphe 10 1) r0 p0 (prefix_same old) (λ e. (leaf_begun old n0 r0 map p0 other e).0.looks.respects))
        (guards_twice z root d old n0 n1 n2 g2 (guards_since z root d old n0 n1 (SetData 10 item) r1 p1 g_first (λ e. (filled e).looks.respects))
        (guards_since z root d old n1 n2 (SetKey 10 0 key) r2 p2 (prefix_trans old n0 n1 g_first g1) (λ e. (leaf_whole e).on.looks.respects)))

-- a leaf that was made command by command, whatever map it is for
pub leaf_told : (z : Sizes) → IsWithinLimits z → (d : ℕ) (old new : List Entry) (key item : ℕ) → key < 8 → item < 8 → (made : Bool) → FillsLeaf z d old new key item made → MakesLeaf z d old new key item made
leaf_told z limits d old new key item few_key few_item true e root k held some map respects =
    leaf_whole z limits root d old e.one e.two new e.made_reply e.data_reply e.key_reply key item few_key few_item k held some map e.makes e.sets e.keys e.granted respects
leaf_told z limits d old new key item few_key few_item false p root k held some map respects = leaf_refused z limits root d old new reply.Full p refl map respects

pub leaf_guarded : (z : Sizes) → IsWithinLimits z → (d : ℕ) (old new : List Entry) (key item : ℕ) → key < 8 → item < 8 → (made : Bool) → FillsLeaf z d old new key item made → LeafGuards z d old new key item
leaf_guarded z limits d old new key item few_key few_item true e root k held some map =
    leaf_guards z limits root d old e.one e.two new e.made_reply e.data_reply e.key_reply key item few_key few_item k held some map e.makes e.sets e.keys e.granted
leaf_guarded z limits d old new key item few_key few_item false p root k held some map =
    guards_since z root d old old new (NewEphe 10 1) reply.Full p (prefix_same old) (λ others. (leaf_refused z limits root d old new reply.Full p refl map others).on.looks.respects)
