-- The walk of a call to the field at which a key's way ends, command by command.
use Rattle.std.proofs.Common.{◌≡◌, ◌≢◌, ◌⊎◌, inl, inr, ⊎_elim, ℕ, zero, suc, ◌+◌, ◌<◌, ◌/◌, ◌%◌, Bool, true, false, List, [], ◌∷◌, ◌++◌, length, Option, Some, None, refl, ap, sym, ◌∙◌, subst, arith, append_assoc, length-append}
use Rattle.model_core.specs.declared.label.Label.{Label}
use Rattle.model_core.specs.declared.command.Command.{Command}
use Rattle.model_core.specs.declared.command.Command.TheVariants.{Copy, Load, GetKey}
use Rattle.model_core.specs.declared.entry.Entry.{Entry}
use Rattle.model_core.specs.declared.reply.Reply.{Reply}
use Rattle.model_core.specs.declared.reply.Reply.TheVariants as reply
use Rattle.model_core.specs.declared.graph.Value.{Value}
use Rattle.model_core.specs.declared.graph.Value.TheVariants.{Block}
use Rattle.model_core.specs.declared.state.Sizes.{Sizes}
use Rattle.model_core.specs.Graph.{Graph, node_at}
use Rattle.model_core.specs.Domains.{IsWithinLimits}
use Rattle.model_core.specs.Commands.{shown, key_value}
use Rattle.weak_laws.specs.Tables.Stages.{graph_of}
use Rattle.weak_laws.proofs.OfTables.StageLemmas.{prefix_trans}
use Rattle.weak_laws.specs.Maps.Tries.{at, inside, fields_of, bound_by, is_leaf, IsSlot, low_digits, number_of, way_to, way_length, width_at, root_width, node_width, IsMap}
use Rattle.weak_laws.specs.Maps.Steps.{OthersRespect}
use Rattle.weak_laws.specs.Maps.Calls.{PerformedBy, bound_after}
use Rattle.weak_laws.proofs.OfMaps.CallLemmas.{copy_step, get_key_step, get_key_plain_step}
use Rattle.weak_maps.specs.Commands.{IsBlock}
use Rattle.weak_maps.specs.Beside.{held_by}
use Rattle.weak_maps.specs.Walks.{LeafTells, Looking}
use Rattle.weak_maps.specs.Fields.{AtField, FoundBy, FoundMine, FoundNone, KeepsWalked, MapStays, Walked}
use Rattle.weak_maps.proofs.BesideLemmas.{sixteen, set_here, set_other, same_held}
use Rattle.weak_maps.proofs.StayLemmas.{leaf_middle, looking_on, prefix_same, stays_middle, stays_same, stays_twice, field_as}
use Rattle.weak_maps.proofs.DescendLemmas.{below_root, below_width, block_of, leaf_none, leaf_tells, loads_inner, none_bound, plain_node, shown_no_type, way_ends}
use Rattle.weak_maps.proofs.GetLemmas.{grows_by}
use Rattle.weak_maps.proofs.KeyLemmas.{KeyTells, key_shown, leaf_key}

stays_here : (z : Sizes) (root : Label) (a : List Entry) → IsMap (graph_of z a) root → MapStays z root a a
stays_here z root a map = record { map = map; block = λ q u fields there plain. (there, (fields, plain)) }

module _ (z : Sizes) (limits : IsWithinLimits z) (root : Label) (d : ℕ) (first : List Entry) (k : Label) where
  -- a field is read into register 9, of a block in register 8 to which a part of the key's way leads
  pub field_load : (now new : List Entry) (r : Reply) (i rest left : ℕ) (q : List ℕ) → length q + suc left ≡ way_length → way_to z.domains k ≡ q ++ i ∷ low_digits left rest → i < width_at q → (l : Label) (fields : List Value) → held_by z d now 8 ≡ Block l
      → at (inside (graph_of z now)) q (Block root) ≡ Some (Block l) → inside (graph_of z now) (Block l) ≡ Some fields → (p : PerformedBy z d now new (Load 9 8 i) r) → OthersRespect z root d first new → Looking z root d first now
      → Looking z root d first new × ((y : AtField z d first new new root k i rest r) × (y.p ≡ q)) × ((j : ℕ) → j ≢ 9 → held_by z d new j ≡ held_by z d now j)
  field_load now new r i rest left q all way below l fields holds there plain p respects looking =
      let c = Load 9 8 i in
      let y = loads_inner z limits root d first k now new r 9 i 8 (omega arith) p respects looking l fields q holds there plain below in
      let mid_stays = stays_middle z root d first now new c r p respects looking.grows looking.map in
      let moved = mid_stays.block q (Block l) fields there plain in (
        y.4,
        (
          record {
            p = q;
            left = left;
            all = all;
            way = way;
            l = l;
            held = y.5 8 (λ e. absurd (omega (arith, e))) ∙ holds;
            v = y.0;
            holds = y.2;
            shows = y.3;
            since = y.4.grows;
            until = prefix_same new;
            there = subst (λ (g : Graph). at (inside g) q (Block root) ≡ Some (Block l)) (sym y.6) moved.0;
            fields = moved.1.0;
            plain = subst (λ (g : Graph). inside g (Block l) ≡ Some moved.1.0) (sym y.6) moved.1.1;
            was = y.1;
            narrow = below;
            map = y.4.map;
            stays = stays_here z root new y.4.map;
          },
          refl,
        ),
        y.5,
      )

  -- before the first load register 8 gets the root
  pub field_begins : (now n1 new : List Entry) (r r2 : Reply) (map : ℕ) → held_by z d now map ≡ Block root → PerformedBy z d now n1 (Copy 8 map) r → PerformedBy z d n1 new (Load 9 8 (number_of z.domains k % root_width)) r2 → OthersRespect z root d first n1 → OthersRespect z root d first new → Looking z root d first now
      → Looking z root d first new × AtField z d first new new root k (number_of z.domains k % root_width) (number_of z.domains k / root_width) r2 × ((j : ℕ) → j ≢ 8 → j ≢ 9 → held_by z d new j ≡ held_by z d now j)
  field_begins now n1 new r r2 map holds p p2 earlier respects looking =
      let all = copy_step z d now n1 r 8 map p in
      let v : Value = held_by z d now map in
      let looking1 = looking_on z root d first now n1 (Copy 8 map) r p all.0 earlier looking in
      let own = looking1.map.own in
      let y = field_load n1 new r2 (number_of z.domains k % root_width) (number_of z.domains k / root_width) 6 [] refl refl (below_root (number_of z.domains k)) root own.0
      (set_here z d now n1 8 v all.1 (sixteen z d now n1 (Copy 8 map) r p limits) (omega arith) ∙ holds) refl own.1 p2 respects looking1 in
      (y.0, y.1.0, (λ j a b. y.2 j b ∙ set_other z d now n1 8 v all.1 j a))

  -- while a command that writes neither the map nor registers 8 and 9 is made
  pub field_on : (front now new : List Entry) (c : Command) (r : Reply) (i rest : ℕ) (s : Reply) → (p : PerformedBy z d now new c r) → graph_of z new ≡ graph_of z (now ++ p.between) → held_by z d new 8 ≡ held_by z d now 8 → held_by z d new 9 ≡ held_by z d now 9
      → OthersRespect z root d first new → Looking z root d first now → AtField z d first front now root k i rest s → AtField z d first front new root k i rest s
  field_on front now new c r i rest s p same eight nine respects looking x =
      field_as z d first first front now new root k i rest s x eight nine x.since (prefix_trans front now new x.until (grows_by z d now new c r p))
      (stays_same z root front (now ++ p.between) new same (stays_twice z root front now (now ++ p.between) x.stays (stays_middle z root d first now new c r p respects looking.grows looking.map)))

  -- the way to the field, and the digits behind it
  field_way : (front now : List Entry) (i rest : ℕ) (s : Reply) (x : AtField z d first front now root k i rest s) → way_to z.domains k ≡ (x.p ++ i ∷ []) ++ low_digits x.left rest
  field_way front now i rest s x = x.way ∙ sym (append_assoc x.p (i ∷ []) (low_digits x.left rest))

  -- no block was there: the key wasn't bound
  pub field_none : (front now : List Entry) (i rest : ℕ) (s : Reply) → AtField z d first front now root k i rest s → (IsBlock s → ⊥) → FoundNone z first now root k
  field_none front now i rest s x none =
      let n = none_bound z limits root d first k (graph_of z front) x.v (x.map.slots (x.p ++ i ∷ []) x.v x.was) (λ is. none (subst IsBlock (sym x.shows) is)) in record {
        front = front;
        since = x.since;
        until = x.until;
        bound = way_ends z.domains (graph_of z front) root k (x.p ++ i ∷ []) (low_digits x.left rest) x.v (field_way front now i rest s x) x.was n.0 ∙ n.1;
      }

  key_no_type : (key : Option Label) → shown (key_value key) ≡ reply.BadType → ⊥
  key_no_type key is = shown_no_type (key_value key) is

  -- the key in the field is read into register 11: a block of the map has none, and a leaf tells whether it is the key's
  module _ (kr : ℕ) (now new : List Entry) (r : Reply) (i rest : ℕ) (s : Reply) (p : PerformedBy z d now new (GetKey 11 9 0) r) (respects : OthersRespect z root d first new) (looking : Looking z root d first now)
      (x : AtField z d first now now root k i rest s) (is : IsBlock s) (key : held_by z d now kr ≡ Block k) where
    abbrev c : Command
    c = GetKey 11 9 0

    abbrev mid : List Entry
    mid = now ++ p.between

    abbrev pub KeyAnswers : Type 0
    KeyAnswers = ((r ≡ reply.BadType) × Looking z root d first new × KeepsWalked z d now new × ((y : AtField z d first now new root k i rest s) × ((fields : List Value) × (inside (graph_of z now) y.v ≡ Some fields)) × (length y.p ≡ length x.p)))
        ⊎ ((r ≡ reply.BadType → ⊥) × Looking z root d first new × KeepsWalked z d now new × ((mine : Bool) → (mine ≡ true → r ≡ reply.Block k) → (r ≡ reply.Block k → mine ≡ true) → FoundBy z d first new root k i rest mine))

    at_inner : (l : Label) → x.v ≡ Block l → (fields : List Value) → fields_of (node_at (graph_of z now) l) ≡ Some fields → KeyAnswers
    unfolding field_on
    at_inner l is_l fields plain =
        let stay = stays_middle z root d first now new c r p respects looking.grows looking.map in
        let moved = stay.block (x.p ++ i ∷ []) (Block l) fields (x.was ∙ ap Some is_l) plain in
        let node = plain_node (node_at (graph_of z mid) l) moved.1.0 moved.1.1 in
        let all = get_key_plain_step z d now new r 11 9 p l node.0 moved.1.0 (x.holds ∙ is_l) node.1 in
        inl (
          all.2,
          looking_on z root d first now new c r p all.0 respects looking,
          (λ j e8 e9 e11. same_held z d now new all.1 j),
          (field_on now now new c r i rest s p all.0 (same_held z d now new all.1 8) (same_held z d now new all.1 9) respects looking x, (fields, ap (inside (graph_of z now)) is_l ∙ plain), refl),
        )

    at_leaf : (l : Label) → x.v ≡ Block l → is_leaf (node_at (graph_of z now) l) → KeyAnswers
    unfolding field_on
    at_leaf l is_l leaf =
        let o : Option Value = bound_by (graph_of z now) k (Block l) in
        let was : at (inside (graph_of z now)) (x.p ++ i ∷ []) (Block root) ≡ Some (Block l) = x.was ∙ ap Some is_l in
        let tells : LeafTells (graph_of z mid) l k o = leaf_middle z root d first now new c r p respects looking.grows k o kr l now (x.p ++ i ∷ []) (prefix_same now) was leaf key (leaf_tells (graph_of z now) l k leaf) in
        let n = leaf_key k (graph_of z mid) l o tells in
        let all = get_key_step z d now new r 11 9 p l n.0 n.1 (x.holds ∙ is_l) n.2 in
        let other : (j : ℕ) → j ≢ 11 → held_by z d new j ≡ held_by z d now j = set_other z d now new 11 (key_value n.0) all.1 in
        let looking2 = looking_on z root d first now new c r p all.0 respects looking in
        let nine : held_by z d new 9 ≡ held_by z d now 9 = other 9 (λ e. absurd (omega (arith, e))) in
        let y = field_on now now new c r i rest s p all.0 (other 8 (λ e. absurd (omega (arith, e)))) nine respects looking x in
        let told : bound_after z root now k ≡ o = way_ends z.domains (graph_of z now) root k (x.p ++ i ∷ []) (low_digits x.left rest) (Block l) (field_way now now i rest s x) was (leaf_none (node_at (graph_of z now) l) leaf) in
        inr (
          (λ e. key_no_type n.0 (sym all.2 ∙ e)),
          looking2,
          (λ j e8 e9 e11. other j e11),
          met o told n.0 n.3 all.2
              (λ datum same. record {
                shows = s;
                front = now;
                field = y;
                datum = datum;
                leaf = record { l = l; held = nine ∙ (x.holds ∙ is_l); tells = subst (λ (w : Graph × Option Value). LeafTells w.0 l k w.1) (λ e. (sym all.0 e, same e)) tells; former = now; before = grows_by z d now new c r p; p = x.p ++ i ∷ []; there = was; leaf = leaf };
                same = nine ∙ x.holds;
              })
              (λ none. record { front = now; since = looking.grows; until = grows_by z d now new c r p; bound = told ∙ none }),
        )
      where
        met : (o : Option Value) → bound_after z root now k ≡ o → (key : Option Label) → KeyTells k o key → r ≡ shown (key_value key) → ((datum : Value) → o ≡ Some datum → FoundMine z d first new root k i rest) → (o ≡ None → FoundNone z first new root k)
            → (mine : Bool) → (mine ≡ true → r ≡ reply.Block k) → (r ≡ reply.Block k → mine ≡ true) → FoundBy z d first new root k i rest mine
        met (Some datum) told key tells shows mine_is none_is true there back = mine_is datum refl
        met (Some datum) told key tells shows mine_is none_is false there back = let clash : false ≡ true = back (shows ∙ ap (λ (j : Option Label). shown (key_value j)) tells) in cc
        met None told key tells shows mine_is none_is true there back = absurd (tells (key_shown k key (sym shows ∙ there refl)))
        met None told key tells shows mine_is none_is false there back = none_is refl

    pub field_key : KeyAnswers
    field_key =
        let b = block_of z limits root d first k x.v (subst IsBlock x.shows is) in
        ⊎_elim (λ leaf. at_leaf b.0 b.1 leaf) (λ inner. at_inner b.0 b.1 inner.0 inner.1) (subst (IsSlot (graph_of z now)) b.1 (x.map.slots (x.p ++ i ∷ []) x.v x.was))

  -- one block down
  pub field_down : (front now n1 new : List Entry) (r r2 : Reply) (i rest : ℕ) (s : Reply) (x : AtField z d first front now root k i rest s) (fields : List Value) → inside (graph_of z front) x.v ≡ Some fields → IsBlock s → PerformedBy z d now n1 (Copy 8 9) r → PerformedBy z d n1 new (Load 9 8 (rest % node_width)) r2
      → OthersRespect z root d first n1 → OthersRespect z root d first new → Looking z root d first now
      → Looking z root d first new × ((y : AtField z d first new new root k (rest % node_width) (rest / node_width) r2) × (length y.p ≡ suc (length x.p))) × ((j : ℕ) → j ≢ 8 → j ≢ 9 → held_by z d new j ≡ held_by z d now j)
  field_down front now n1 new r r2 i rest s x fields plain is p p2 earlier respects looking = go x.left refl
    where
      go : (left : ℕ) → x.left ≡ left → Looking z root d first new × ((y : AtField z d first new new root k (rest % node_width) (rest / node_width) r2) × (length y.p ≡ suc (length x.p))) × ((j : ℕ) → j ≢ 8 → j ≢ 9 → held_by z d new j ≡ held_by z d now j)
      go zero none = absurd (
          let low = x.map.low (x.p ++ i ∷ []) x.v fields x.was plain in
          let more = length-append x.p (i ∷ []) in
          let all = x.all in
          omega (arith, low, more, all, none))
      go (suc left) more =
          let all = copy_step z d now n1 r 8 9 p in
          let v : Value = held_by z d now 9 in
          let looking1 = looking_on z root d first now n1 (Copy 8 9) r p all.0 earlier looking in
          let b = block_of z limits root d first k x.v (subst IsBlock x.shows is) in
          let stay = stays_same z root front (now ++ p.between) n1 all.0 (stays_twice z root front now (now ++ p.between) x.stays (stays_middle z root d first now n1 (Copy 8 9) r p earlier looking.grows looking.map)) in
          let moved = stay.block (x.p ++ i ∷ []) x.v fields x.was plain in
          let eight : held_by z d n1 8 ≡ Block b.0 = set_here z d now n1 8 v all.1 (sixteen z d now n1 (Copy 8 9) r p limits) (omega arith) ∙ (x.holds ∙ b.1) in
          let long = length-append x.p (i ∷ []) in
          let whole = x.all in
          let y = field_load n1 new r2 (rest % node_width) (rest / node_width) left (x.p ++ i ∷ []) (omega (arith, long, whole, more))
          (field_way front now i rest s x ∙ ap (λ (m : ℕ). (x.p ++ i ∷ []) ++ low_digits m rest) more)
          (subst (λ (m : ℕ). rest % node_width < m) (sym (wide x.p)) (below_width rest)) b.0 moved.1.0 eight (moved.0 ∙ ap Some b.1) (ap (inside (graph_of z n1)) (sym b.1) ∙ moved.1.1) p2 respects looking1 in
          (y.0, (y.1.0, (let e = ap length y.1.1 in omega (arith, e, long))), (λ j e8 e9. y.2 j e9 ∙ set_other z d now n1 8 v all.1 j e8))
        where
          wide : (q : List ℕ) → width_at (q ++ i ∷ []) ≡ node_width
          wide [] = refl
          wide (a ∷ q) = refl

  -- the field is read again
  pub field_again : (front now new : List Entry) (r : Reply) (i rest : ℕ) (s : Reply) (x : AtField z d first front now root k i rest s) → PerformedBy z d now new (Load 9 8 i) r → OthersRespect z root d first new → Looking z root d first now
      → Looking z root d first new × AtField z d first new new root k i rest r × ((j : ℕ) → j ≢ 9 → held_by z d new j ≡ held_by z d now j)
  field_again front now new r i rest s x p respects looking =
      let moved = x.stays.block x.p (Block x.l) x.fields x.there x.plain in
      let y = field_load now new r i rest x.left x.p x.all x.way x.narrow x.l moved.1.0 x.held moved.0 moved.1.1 p respects looking in
      (y.0, y.1.0, y.2)

  pub still_key : (old now : List Entry) (kr : ℕ) → kr < 8 → held_by z d old kr ≡ Block k → KeepsWalked z d old now → held_by z d now kr ≡ Block k
  still_key old now kr few key keeps = keeps kr (λ e. absurd (omega (arith, few, e))) (λ e. absurd (omega (arith, few, e))) (λ e. absurd (omega (arith, few, e))) ∙ key

  pub walk_key : (old now new : List Entry) (r : Reply) (i rest : ℕ) (s : Reply) (start n kr : ℕ) → kr < 8 → held_by z d old kr ≡ Block k → PerformedBy z d now new (GetKey 11 9 0) r → OthersRespect z root d first new → Walked z root d first k old now i rest s start n → IsBlock s → (r ≡ reply.BadType → ⊥)
      → (mine : Bool) → (mine ≡ true → r ≡ reply.Block k) → (r ≡ reply.Block k → mine ≡ true) → Looking z root d first new × KeepsWalked z d old new × FoundBy z d first new root k i rest mine
  walk_key old now new r i rest s start n kr few key p respects w is other mine there back =
      ⊎_elim (λ inner. absurd (other inner.0)) (λ leaf. (leaf.1, (λ j e8 e9 e11. leaf.2 j e8 e9 e11 ∙ w.1 j e8 e9 e11), leaf.3 mine there back))
      (field_key kr now new r i rest s p respects w.0 w.2.0 is (still_key old now kr few key w.1))

  pub walk_down : (old now n0 n1 new : List Entry) (r r1 r2 : Reply) (i rest : ℕ) (s : Reply) (start n kr : ℕ) → kr < 8 → held_by z d old kr ≡ Block k → PerformedBy z d now n0 (GetKey 11 9 0) r → PerformedBy z d n0 n1 (Copy 8 9) r1 → PerformedBy z d n1 new (Load 9 8 (rest % node_width)) r2
      → OthersRespect z root d first n0 → OthersRespect z root d first n1 → OthersRespect z root d first new → Walked z root d first k old now i rest s start n → IsBlock s → r ≡ reply.BadType → Walked z root d first k old new (rest % node_width) (rest / node_width) r2 start (n + 1)
  walk_down old now n0 n1 new r r1 r2 i rest s start n kr few key p p1 p2 e0 e1 respects w is kind =
      ⊎_elim
      (λ inner.
      let x = inner.3.0 in
      let y = field_down now n0 n1 new r1 r2 i rest s x inner.3.1.0 inner.3.1.1 is p1 p2 e1 respects inner.1 in
      (y.0, (λ j e8 e9 e11. y.2 j e8 e9 ∙ (inner.2 j e8 e9 e11 ∙ w.1 j e8 e9 e11)), (y.1.0, (let low = w.2.1 in let deeper = y.1.1 in let same = inner.3.2 in omega (arith, low, deeper, same)))))
      (λ leaf. absurd (leaf.0 kind))
      (field_key kr now n0 r i rest s p e0 w.0 w.2.0 is (still_key old now kr few key w.1))

  -- no walk comes down so far
  pub walk_ends : (old now : List Entry) (i rest : ℕ) (s : Reply) (start n : ℕ) → n ≡ way_length → Walked z root d first k old now i rest s start n → ⊥
  walk_ends old now i rest s start n all w = let low = w.2.1 in let long = w.2.0.all in omega (arith, all, low, long)
