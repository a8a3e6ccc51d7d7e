-- What a walk tells of the field to which it came.
use Rattle.std.proofs.Common.{◌≡◌, ◌≢◌, inl, inr, ⊎_elim, ℕ, Bool, true, false, cond, List, [], ◌∷◌, ◌++◌, length, get_or, Option, Some, None, refl, ap, sym, ◌∙◌, subst, arith}
use Rattle.model_core.specs.declared.label.Label.{Label}
use Rattle.model_core.specs.declared.command.Command.{Command}
use Rattle.model_core.specs.declared.command.Command.TheVariants.{GetKey}
use Rattle.model_core.specs.declared.entry.Entry.{Entry}
use Rattle.model_core.specs.declared.reply.Reply.{Reply}
use Rattle.model_core.specs.declared.reply.Reply.TheVariants as reply
use Rattle.model_core.specs.declared.graph.Value.{Value}
use Rattle.model_core.specs.declared.graph.Value.TheVariants.{Int, Block, Nothing}
use Rattle.model_core.specs.declared.graph.Node.TheVariants.{Ephe}
use Rattle.model_core.specs.declared.state.Sizes.{Sizes}
use Rattle.model_core.specs.Graph.{Graph, same_label, node_at}
use Rattle.model_core.specs.Domains.{IsWithinLimits}
use Rattle.model_core.specs.Commands.{shown, key_value}
use Rattle.model_core.proofs.Graphs.GraphLemmas.{same_label-true, same_label_refl}
use Rattle.weak_laws.specs.Tables.Stages.{graph_of}
use Rattle.weak_laws.specs.Maps.Tries.{at, inside, fields_of, bound_by, bound_in, is_leaf, IsSlot}
use Rattle.weak_laws.specs.Maps.Steps.{OthersRespect}
use Rattle.weak_laws.specs.Maps.Calls.{PerformedBy}
use Rattle.weak_laws.proofs.OfMaps.CallLemmas.{get_key_step, get_key_plain_step}
use Rattle.weak_laws.proofs.OfMaps.FieldLemmas.{field_holds}
use Rattle.weak_maps.specs.Commands.{IsBlock}
use Rattle.weak_maps.specs.Beside.{held_by}
use Rattle.weak_maps.specs.Walks.{Looking}
use Rattle.weak_maps.specs.Fields.{AtField}
use Rattle.weak_maps.specs.Puts.{BindsOnly, FieldBinds, FieldFound, IsLeafOf, key_or, other_block}
use Rattle.weak_maps.proofs.BesideLemmas.{set_other, until_new}
use Rattle.weak_maps.proofs.DescendLemmas.{at_one, block_of, leaf_node, plain_node}
use Rattle.weak_maps.proofs.GetLemmas.{grows_by}
use Rattle.weak_maps.proofs.PublishLemmas.{binds_along}
use Rattle.weak_maps.proofs.StayLemmas.{looking_on, prefix_same, respects_within, stays_middle, stays_same, stays_twice, field_as}
use Rattle.weak_laws.proofs.OfTables.StageLemmas.{prefix_trans}

module _ (z : Sizes) (limits : IsWithinLimits z) (root : Label) (d : ℕ) (first : List Entry) (k : Label) where
  -- a field of a block of the map isn't nothing
  field_full : (front now : List Entry) (i rest : ℕ) (s : Reply) (x : AtField z d first front now root k i rest s) → x.v ≢ Nothing
  field_full front now i rest s x none =
      let n = plain_node (node_at (graph_of z front) x.l) x.fields x.plain in
      let f = field_holds z front root x.map x.p x.l n.0 x.fields i x.there n.1 x.narrow in
      let one : Some (get_or x.fields i Nothing) ≡ Some x.v = sym (at_one (inside (graph_of z front)) x.p i (Block root) (Block x.l) x.fields x.there x.plain) ∙ x.was in
      let same : get_or x.fields i Nothing ≡ x.v = cc in
      f.2 (same ∙ none)

  -- the field holds no block
  pub found_free : (now : List Entry) (i rest : ℕ) (s : Reply) (depth : ℕ) (x : AtField z d first now now root k i rest s) → depth ≡ length x.p → (IsBlock s → ⊥) → FieldFound z d first now root k i rest depth None
  found_free now i rest s depth x deep none = record {
    shows = s;
    front = now;
    field = x;
    deep = deep;
    binds = go x.v (x.map.slots (x.p ++ i ∷ []) x.v x.was) (λ is. none (subst IsBlock (sym x.shows) is)) (field_full now now i rest s x);
    differs = λ j e. cc;
    alive = λ j e. cc;
  }
    where
      go : (v : Value) → IsSlot (graph_of z now) v → (IsBlock (shown v) → ⊥) → v ≢ Nothing → FieldBinds z now now v k
      go (Int a) slot no_block full = record { binds = slot; leaf = λ l e. cc }
      go (Block l) slot no_block full = absurd (no_block tt)
      go Nothing slot no_block full = absurd (full refl)

  other_tells : (g : Graph) (l : Label) (key : Option Label) (datum : Value) → node_at g l ≡ Some (Ephe (key ∷ []) datum) → IsLeafOf g (key_or k (other_block k (shown (key_value key)))) l × ((j : Label) → other_block k (shown (key_value key)) ≡ Some j → j ≢ k)
  other_tells g l None datum node = ((datum, inr node), (λ j e. cc))
  other_tells g l (Some m) datum node = go (same_label m k) refl
    where
      go : (b : Bool) → same_label m k ≡ b → IsLeafOf g (key_or k (cond (same_label m k) None (Some m))) l × ((j : Label) → cond (same_label m k) None (Some m) ≡ Some j → j ≢ k)
      go true e = subst (λ (b : Bool). IsLeafOf g (key_or k (cond b None (Some m))) l × ((j : Label) → cond b None (Some m) ≡ Some j → j ≢ k)) (sym e)
          ((datum, inl (node ∙ ap (λ (x : Label). Some (Ephe (Some x ∷ []) datum)) (same_label-true m k e))), (λ j is. cc))
      go false e = subst (λ (b : Bool). IsLeafOf g (key_or k (cond b None (Some m))) l × ((j : Label) → cond b None (Some m) ≡ Some j → j ≢ k)) (sym e) (
        (datum, inl node),
        (λ j is same.
            let there : m ≡ j = cc in
            let clash : true ≡ false = sym (same_label_refl k) ∙ (ap (λ (x : Label). same_label x k) (sym (there ∙ same)) ∙ e) in cc),
      )

  other_some : (key : Option Label) (j : Label) → other_block k (shown (key_value key)) ≡ Some j → key ≡ Some j
  other_some None j e = cc
  other_some (Some m) j e = go (same_label m k) e
    where
      go : (b : Bool) → cond b None (Some m) ≡ Some j → Some m ≡ Some j
      go true is = cc
      go false is = is

  -- the field holds a leaf, whose key was read into register 11
  module _ (now new : List Entry) (r : Reply) (i rest : ℕ) (s : Reply) (depth : ℕ) (p : PerformedBy z d now new (GetKey 11 9 0) r) (respects : OthersRespect z root d first new) (looking : Looking z root d first now) (x : AtField z d first now now root k i rest s) (deep : depth ≡ length x.p)
      (is : IsBlock s) (other : r ≡ reply.BadType → ⊥) where
    abbrev c : Command
    c = GetKey 11 9 0

    abbrev mid : List Entry
    mid = now ++ p.between

    abbrev Leaves : Type 0
    Leaves = Looking z root d first new × ((j : ℕ) → j ≢ 11 → held_by z d new j ≡ held_by z d now j) × FieldFound z d first new root k i rest depth (other_block k r)

    at_inner : (l : Label) → x.v ≡ Block l → (fields : List Value) → fields_of (node_at (graph_of z now) l) ≡ Some fields → Leaves
    at_inner l is_l fields plain =
        let stay = stays_middle z root d first now new c r p respects looking.grows looking.map in
        let moved = stay.block (x.p ++ i ∷ []) (Block l) fields (x.was ∙ ap Some is_l) plain in
        let node = plain_node (node_at (graph_of z mid) l) moved.1.0 moved.1.1 in
        let all = get_key_plain_step z d now new r 11 9 p l node.0 moved.1.0 (x.holds ∙ is_l) node.1 in
        absurd (other all.2)

    at_leaf : (l : Label) → x.v ≡ Block l → is_leaf (node_at (graph_of z now) l) → Leaves
    at_leaf l is_l leaf =
        let n = leaf_node (node_at (graph_of z now) l) leaf in
        let m = still n.0 n.1 n.2 in
        let all = get_key_step z d now new r 11 9 p l m.0 m.1 (x.holds ∙ is_l) m.2 in
        let keeps : (j : ℕ) → j ≢ 11 → held_by z d new j ≡ held_by z d now j = set_other z d now new 11 (key_value m.0) all.1 in
        let tells = other_tells (graph_of z new) l m.0 m.1 (ap (λ (g : Graph). node_at g l) all.0 ∙ m.2) in
        let answer : other_block k r ≡ other_block k (shown (key_value m.0)) = ap (other_block k) all.2 in (
          looking_on z root d first now new c r p all.0 respects looking,
          keeps,
          record {
            shows = s;
            front = now;
            field = field_as z d first first now now new root k i rest s x (keeps 8 (λ e. absurd (omega (arith, e)))) (keeps 9 (λ e. absurd (omega (arith, e)))) x.since (prefix_trans now now new x.until (grows_by z d now new c r p))
                (stays_same z root now mid new all.0 (stays_twice z root now now mid x.stays (stays_middle z root d first now new c r p respects looking.grows looking.map)));
            deep = deep;
            binds = record {
              binds = subst (λ (v : Value). BindsOnly (graph_of z new) (key_or k (other_block k r)) v) (sym is_l) (subst (λ (o : Option Label). IsLeafOf (graph_of z new) (key_or k o) l) (sym answer) tells.0);
              leaf = λ j e. let same : l ≡ j = (let both : Block l ≡ Block j = sym is_l ∙ e in cc) in subst (λ (y : Label). is_leaf (node_at (graph_of z now) y)) same leaf;
            };
            differs = λ j e. tells.1 j (sym answer ∙ e);
            alive = λ j e none.
                let was_key : n.0 ≡ Some j = m.3 j (tells.1 j (sym answer ∙ e)) (other_some m.0 j (sym answer ∙ e)) in
                let some : bound_by (graph_of z now) j x.v ≡ Some n.1 = ap (bound_by (graph_of z now) j) is_l ∙ (ap (bound_in j) (n.2 ∙ ap (λ (o : Option Label). Some (Ephe (o ∷ []) n.1)) was_key) ∙ ap (λ (b : Bool). cond b (Some n.1) None) (same_label_refl j)) in
                let clash : None ≡ Some n.1 = sym none ∙ some in cc;
          },
        )
      where
        -- it is one still when its key is read
        still : (key : Option Label) (datum : Value) → node_at (graph_of z now) l ≡ Some (Ephe (key ∷ []) datum)
            → (now_key : Option Label) × (now_datum : Value) × (node_at (graph_of z mid) l ≡ Some (Ephe (now_key ∷ []) now_datum)) × ((j : Label) → j ≢ k → now_key ≡ Some j → key ≡ Some j)
        still key datum node = of key (kept key node).binds
          where
            kept_as : (j : Label) → IsLeafOf (graph_of z now) j l → FieldBinds z now mid (Block l) j
            kept_as j is_leaf_of = binds_along z root d now p.between p.others (respects_within z root d first new now mid looking.grows (until_new z d now new c r p) respects) now (x.p ++ i ∷ []) (Block l) j (prefix_same now) (x.was ∙ ap Some is_l)
                (record { binds = is_leaf_of; leaf = λ m e. let same : l ≡ m = cc in subst (λ (y : Label). is_leaf (node_at (graph_of z now) y)) same leaf })

            name : Option Label → Label
            name None = k
            name (Some j) = j

            kept : (o : Option Label) → node_at (graph_of z now) l ≡ Some (Ephe (o ∷ []) datum) → FieldBinds z now mid (Block l) (name o)
            kept None at = kept_as k (datum, inr at)
            kept (Some j) at = kept_as j (datum, inl at)

            of : (o : Option Label) → IsLeafOf (graph_of z mid) (name o) l → (now_key : Option Label) × (now_datum : Value) × (node_at (graph_of z mid) l ≡ Some (Ephe (now_key ∷ []) now_datum)) × ((j : Label) → j ≢ k → now_key ≡ Some j → o ≡ Some j)
            of None (now_datum, inl some) = (Some k, now_datum, some, (λ j apart e. absurd (apart (let same : k ≡ j = cc in sym same))))
            of None (now_datum, inr empty) = (None, now_datum, empty, (λ j apart e. cc))
            of (Some m) (now_datum, inl some) = (Some m, now_datum, some, (λ j apart e. e))
            of (Some m) (now_datum, inr empty) = (None, now_datum, empty, (λ j apart e. cc))

    pub found_leaf : Leaves
    found_leaf =
        let b = block_of z limits root d first k x.v (subst IsBlock x.shows is) in
        ⊎_elim (λ leaf. at_leaf b.0 b.1 leaf) (λ inner. at_inner b.0 b.1 inner.0 inner.1) (subst (IsSlot (graph_of z now)) b.1 (x.map.slots (x.p ++ i ∷ []) x.v x.was))
