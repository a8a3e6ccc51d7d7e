-- A field of a map is cleaned, command by command.
use Rattle.std.proofs.Common.{◌≡◌, ◌≢◌, ◌⊎◌, inl, inr, ⊎_elim, ℕ, zero, suc, ◌+◌, ◌-◌, ◌<◌, ◌≤◌, ◌==◌, eqb-true, Bool, true, false, cond, List, [], ◌∷◌, ◌++◌, length, get_or, set, pos, Option, Some, None, refl, ap, sym, ◌∙◌, subst, arith, append_assoc, append-nil}
use Rattle.model_core.specs.declared.label.Label.{Label}
use Rattle.model_core.specs.declared.command.Command.TheVariants.{Load, GetKey, Store}
use Rattle.model_core.specs.declared.entry.Entry.{Entry}
use Rattle.model_core.specs.declared.reply.Reply.{Reply}
use Rattle.model_core.specs.declared.reply.Reply.TheVariants as reply
use Rattle.model_core.specs.declared.graph.Value.{Value}
use Rattle.model_core.specs.declared.graph.Value.TheVariants.{Int, Block, Nothing}
use Rattle.model_core.specs.declared.graph.Node.TheVariants.{Plain, Ephe}
use Rattle.model_core.specs.declared.state.Sizes.{Sizes}
use Rattle.model_core.specs.Graph.{Graph, node_at, with_node}
use Rattle.model_core.specs.Commands.{shown, key_value}
use Rattle.model_core.specs.Domains.{IsWithinLimits}
use Rattle.model_core.proofs.Commands.FrameLemmas.{label_cases}
use Rattle.model_core.proofs.Graphs.GraphLemmas.{node_at-with_node_other}
use Rattle.weak_laws.specs.Tables.Stages.{graph_of}
use Rattle.weak_laws.specs.Maps.Tries.{at, bound_by, bound_in, fields_of, inside, is_leaf, node_width, root_width, width_at, IsSlot, IsInPlace}
use Rattle.weak_laws.specs.Maps.Steps.{Empties, HoldsNothing, OthersLeave}
use Rattle.weak_laws.specs.Maps.Calls.{AreZero, HasKey, PerformedBy}
use Rattle.weak_laws.proofs.OfMaps.CallLemmas.{get_key_plain_step, get_key_step, load_step, store_step}
use Rattle.weak_laws.proofs.OfMaps.EmptyLemmas.{emptied_any, emptied_binds, emptied_blocks, emptied_places, empty_keeps, leaf_nothing, now_in, spent_nothing}
use Rattle.weak_laws.proofs.OfMaps.FieldLemmas.{at_field, field_holds}
use Rattle.weak_laws.proofs.OfMaps.SetLemmas.{no_longer}
use Rattle.weak_laws.proofs.OfMaps.WalkLemmas.{at_stop, same_number, set_else, set_same}
use Rattle.weak_maps.specs.Beside.{held_by}
use Rattle.weak_maps.specs.Cleans.{AtBlock, Below, BlockCleaned, Cleans, Elsewhere, FieldCleaned, HadKeysAt, IsTidyAt, IsZero, KeepsLow, LeftAlone, width_of}
use Rattle.weak_maps.specs.Commands.{IsBlock}
use Rattle.weak_maps.proofs.BesideLemmas.{same_held, set_here, set_other, sixteen}
use Rattle.weak_laws.specs.Maps.Within.{IsMadeBehind}
use Rattle.weak_laws.proofs.OfMaps.WithinLemmas.{within_emptied}
use Rattle.weak_maps.proofs.CleanLemmas.{behind_command, below_more, below_same, cleans_none, cleans_twice, left_command, left_twice, not_below, other_below, to_command}
use Rattle.weak_maps.proofs.DescendLemmas.{at_append, leaf_node, leaf_none, plain_node, still_leaf}
use Rattle.weak_maps.proofs.PlaceLemmas.{only_there, plain_unbound}

-- there is no field behind the last
pub beyond : (fs : List Value) (j : ℕ) → length fs ≤ j → get_or fs j Nothing ≡ Nothing
beyond [] j far = refl
beyond (f ∷ fs) zero far = absurd (omega (arith, far))
beyond (f ∷ fs) (suc j) far = beyond fs j (omega (arith, far))

pub less_or : (j n : ℕ) → (j < n) ⊎ (n ≤ j)
less_or j zero = inr (omega arith)
less_or zero (suc n) = inl (omega arith)
less_or (suc j) (suc n) = ⊎_elim (λ a. inl (omega (arith, a))) (λ a. inr (omega (arith, a))) (less_or j n)

narrow : (p : List ℕ) (i : ℕ) → width_at (p ++ i ∷ []) ≡ node_width
narrow [] i = refl
narrow (a ∷ p) i = refl

pub width_below : (left : ℕ) → left < 6 → width_of left ≡ node_width
width_below left few = ap (λ (b : Bool). cond b root_width node_width) (not_six (left == 6) refl)
  where
    not_six : (b : Bool) → (left == 6) ≡ b → b ≡ false
    not_six true is = let same : left ≡ 6 = eqb-true left 6 is in absurd (omega (arith, same, few))
    not_six false is = refl

pub positive : (m : ℕ) → m ≢ 0 → m - 1 + 1 ≡ m
positive zero other = absurd (other refl)
positive (suc m) other = omega arith

-- how wide the block at a place is
pub wide_at : (p : List ℕ) (left : ℕ) → length p + left ≡ 6 → width_at p ≡ width_of left
wide_at [] left deep = let six : 6 ≡ left = omega (arith, deep) in ap width_of six
wide_at (a ∷ p) left deep = sym (width_below left (omega (arith, deep)))

-- nothing stands where there is no block, nor below
pub nothing_there : (g : Graph) (root : Label) (here q : List ℕ) (v u : Value) (fields : List Value) → at (inside g) here (Block root) ≡ Some v → inside g v ≡ None → at (inside g) (here ++ q) (Block root) ≡ Some u → inside g u ≡ Some fields → ⊥
nothing_there g root here [] v u fields there end at_it plain =
    let same : Some v ≡ Some u = sym there ∙ (ap (λ (l : List ℕ). at (inside g) l (Block root)) (sym (append-nil here)) ∙ at_it) in
    let is : v ≡ u = cc in
    let clash : None ≡ Some fields = sym end ∙ (ap (inside g) is ∙ plain) in cc
nothing_there g root here (j ∷ q) v u fields there end at_it plain =
    let clash : None ≡ Some u = sym (at_append (inside g) here (j ∷ q) (Block root) v there ∙ at_stop (inside g) j q v end) ∙ at_it in cc

tidy_end : (g : Graph) (root : Label) (here : List ℕ) (v : Value) → at (inside g) here (Block root) ≡ Some v → inside g v ≡ None → IsTidyAt g root here
tidy_end g root here v there end q u fields at_it plain = absurd (nothing_there g root here q v u fields there end at_it plain)

-- of a place that holds no block of the map: if that is a leaf that had its key, then each there had
end_had : (z : Sizes) (root : Label) (old now : List Entry) (here : List ℕ) (v : Value) → at (inside (graph_of z now)) here (Block root) ≡ Some v → inside (graph_of z now) v ≡ None → ((l : Label) → v ≡ Block l → HasKey (graph_of z old) root here l) → HadKeysAt z root old now here
end_had z root old now here v there end had q l at_it leaf =
    let only = only_there (graph_of z now) q v l end (sym (at_append (inside (graph_of z now)) here q (Block root) v there) ∙ at_it) in
    subst (λ (w : List ℕ). HasKey (graph_of z old) root w l) (sym (append-nil here) ∙ ap (λ (r : List ℕ). here ++ r) (sym only.0)) (had l only.1)

module _ (z : Sizes) (limits : IsWithinLimits z) (root : Label) (d : ℕ) (p : List ℕ) (l : Label) (i block left value : ℕ) (few : (left ≤ 6) × (block < value)) (is_value : value + left ≡ 14) where
  abbrev here : List ℕ
  here = p ++ i ∷ []

  -- the field was read, and nothing was written so far: a register holds what the field holds
  pub record Read (old now : List Entry) (v : Value) : Type 0 where
    pub alone : LeftAlone z root d old now
    pub fields : List Value
    pub plain_was : inside (graph_of z old) (Block l) ≡ Some fields
    pub there : at (inside (graph_of z now)) p (Block root) ≡ Some (Block l)
    pub plain : inside (graph_of z now) (Block l) ≡ Some fields
    pub field : get_or fields i Nothing ≡ v
    pub below : i < length fields
    pub at_it : at (inside (graph_of z now)) here (Block root) ≡ Some v
    pub full : v ≢ Nothing
    pub held : held_by z d now block ≡ Block l
    pub low : KeepsLow z d old now value

  -- all below the field was cleaned, which holds what it held: a value that a register held
  pub record Ready (old now : List Entry) (v : Value) : Type 0 where
    pub cleans : Cleans z root d old now
    pub elsewhere : Elsewhere (graph_of z old) (graph_of z now) root here p
    pub fields : List Value
    pub plain_was : inside (graph_of z old) (Block l) ≡ Some fields
    pub there : at (inside (graph_of z now)) p (Block root) ≡ Some (Block l)
    pub plain : inside (graph_of z now) (Block l) ≡ Some fields
    pub field : get_or fields i Nothing ≡ v
    pub below : i < length fields
    pub held : held_by z d now block ≡ Block l
    pub low : KeepsLow z d old now value

  value_few : value < 16
  value_few = let a = few.0 in omega (arith, is_value)

  value_high : 8 ≤ value
  value_high = let a = few.0 in omega (arith, a, is_value)

  not_value : (r : ℕ) → r < value → r ≢ value
  not_value r small same = absurd (omega (arith, small, same))

  zero_apart : 15 ≢ value
  zero_apart same = absurd (omega (arith, is_value, same))

  pub reads : (old new : List Entry) (r : Reply) → AtBlock z d old root p l block left → i < width_at p → PerformedBy z d old new (Load value block i) r → OthersLeave z root d old new → (v : Value) × Read old new v × (held_by z d new value ≡ v) × (r ≡ shown v)
  reads old new r x narrow q leaves =
      let c = Load value block i in
      let to = to_command z root d old new c r q leaves x.map x.placed in
      let mid : List Entry = old ++ q.between in
      let there_mid : at (inside (graph_of z mid)) p (Block root) ≡ Some (Block l) = to.places p ∙ x.there in
      let plain_mid : inside (graph_of z mid) (Block l) ≡ Some x.fields = to.blocks p (Block l) x.there ∙ x.plain in
      let n = plain_node (node_at (graph_of z mid) l) x.fields plain_mid in
      let f = field_holds z mid root to.cleans.map p l n.0 x.fields i there_mid n.1 narrow in
      let v : Value = get_or x.fields i Nothing in
      let all = load_step z d old new r value block i q l n.0 x.fields v x.held n.1 f.1 in
      let alone = left_command z root d old new c r q leaves x.map x.placed all.0 in
      let there_new : at (inside (graph_of z new)) p (Block root) ≡ Some (Block l) = alone.places p ∙ x.there in
      let plain_new : inside (graph_of z new) (Block l) ≡ Some x.fields = alone.blocks p (Block l) x.there ∙ x.plain in
      let keeps : (j : ℕ) → j ≢ value → held_by z d new j ≡ held_by z d old j = set_other z d old new value v all.1 in (
        v,
        record {
          alone = alone;
          fields = x.fields;
          plain_was = x.plain;
          there = there_new;
          plain = plain_new;
          field = refl;
          below = f.0;
          at_it = at_field (graph_of z new) p (Block root) l x.fields i there_new plain_new;
          full = f.2;
          held = keeps block (not_value block few.1) ∙ x.held;
          low = ((λ j small. keeps j (not_value j small)), keeps 15 zero_apart ∙ x.zero);
        },
        set_here z d old new value v all.1 (sixteen z d old new c r q limits) value_few,
        all.2,
      )

  -- while the domain writes no block the field holds what it held
  pub read_on : (old now new : List Entry) (v : Value) → Read old now v → LeftAlone z root d now new → ((j : ℕ) → j < value → held_by z d new j ≡ held_by z d now j) → held_by z d new 15 ≡ held_by z d now 15 → Read old new v
  read_on old now new v x y keeps fifteen = record {
    alone = left_twice z root d old now new x.alone y;
    fields = x.fields;
    plain_was = x.plain_was;
    there = y.places p ∙ x.there;
    plain = y.blocks p (Block l) x.there ∙ x.plain;
    field = x.field;
    below = x.below;
    at_it = y.places here ∙ x.at_it;
    full = x.full;
    held = keeps block few.1 ∙ x.held;
    low = ((λ j small. keeps j small ∙ x.low.0 j small), fifteen ∙ x.low.1);
  }

  read_ready : (old now : List Entry) (v : Value) → Read old now v → Ready old now v
  read_ready old now v x = record {
    cleans = x.alone.cleans;
    elsewhere = record { places = λ q apart. x.alone.places q; blocks = λ q u apart other there. x.alone.blocks q u there };
    fields = x.fields;
    plain_was = x.plain_was;
    there = x.there;
    plain = x.plain;
    field = x.field;
    below = x.below;
    held = x.held;
    low = x.low;
  }

  -- a field that keeps what it holds
  kept_field : (old now : List Entry) (v : Value) (empty : Bool) → Ready old now v → IsZero empty v → IsTidyAt (graph_of z now) root here → HadKeysAt z root old now here → FieldCleaned z d old now root p i l value empty
  kept_field old now v empty x is_zero tidy live = record {
    cleans = x.cleans;
    elsewhere = x.elsewhere;
    fields = x.fields;
    plain = x.plain;
    others = λ was plain j other. let both : Some x.fields ≡ Some was = sym x.plain_was ∙ plain in let same : x.fields ≡ was = cc in ap (λ (fs : List Value). get_or fs j Nothing) same;
    holds = subst (IsZero empty) (sym x.field) is_zero;
    tidy = tidy;
    live = live;
    low = x.low;
  }

  end_field : (old now : List Entry) (v : Value) (empty : Bool) → Read old now v → inside (graph_of z now) v ≡ None → IsZero empty v → ((b : Label) → v ≡ Block b → HasKey (graph_of z old) root here b) → FieldCleaned z d old now root p i l value empty
  end_field old now v empty x end is_zero had = kept_field old now v empty (read_ready old now v x) is_zero (tidy_end (graph_of z now) root here v x.at_it end) (end_had z root old now here v x.at_it end had)

  -- it holds no block
  pub free_field : (old now : List Entry) (v : Value) → Read old now v → (IsBlock (shown v) → ⊥) → FieldCleaned z d old now root p i l value true
  free_field old now v x none = go v x (x.alone.cleans.map.slots here v x.at_it) none
    where
      go : (w : Value) → Read old now w → IsSlot (graph_of z now) w → (IsBlock (shown w) → ⊥) → FieldCleaned z d old now root p i l value true
      go (Int a) y slot none = end_field old now (Int a) true y refl (ap Int slot) (λ b same. cc)
      go (Block b) y slot none = absurd (none tt)
      go Nothing y slot none = absurd (y.full refl)

  -- a block: a leaf, whose key was read, or an inner block
  abbrev pub Met : List Entry → List Entry → Label → Reply → Type 0
  Met old now b r = ((key : Option Label) × (datum : Value) × (node_at (graph_of z now) b ≡ Some (Ephe (key ∷ []) datum)) × (r ≡ shown (key_value key)))
      ⊎ ((fields : List Value) × (inside (graph_of z now) (Block b) ≡ Some fields) × (held_by z d now value ≡ Block b) × (r ≡ reply.BadType))

  pub meets : (old now new : List Entry) (b : Label) (r : Reply) → Read old now (Block b) → held_by z d now value ≡ Block b → PerformedBy z d now new (GetKey value value 0) r → OthersLeave z root d now new → Read old new (Block b) × Met old new b r
  meets old now new b r x held q leaves = ⊎_elim at_leaf (λ inner. at_inner inner.0 inner.1) (to.cleans.map.slots here (Block b) (to.places here ∙ x.at_it))
    where
      to : LeftAlone z root d now (now ++ q.between)
      to = to_command z root d now new (GetKey value value 0) r q leaves x.alone.cleans.map x.alone.cleans.placed

      mid : Graph
      mid = graph_of z (now ++ q.between)

      at_inner : (fields : List Value) → fields_of (node_at mid b) ≡ Some fields → Read old new (Block b) × Met old new b r
      at_inner fields plain =
          let n = plain_node (node_at mid b) fields plain in
          let all = get_key_plain_step z d now new r value value q b n.0 fields held n.1 in
          let keeps : (j : ℕ) → held_by z d new j ≡ held_by z d now j = same_held z d now new all.1 in
          let y = left_command z root d now new (GetKey value value 0) r q leaves x.alone.cleans.map x.alone.cleans.placed all.0 in
          (read_on old now new (Block b) x y (λ j small. keeps j) (keeps 15), inr (fields, ap (λ (g : Graph). inside g (Block b)) all.0 ∙ plain, keeps value ∙ held, all.2))

      at_leaf : is_leaf (node_at mid b) → Read old new (Block b) × Met old new b r
      at_leaf leaf =
          let n = leaf_node (node_at mid b) leaf in
          let all = get_key_step z d now new r value value q b n.0 n.1 held n.2 in
          let keeps : (j : ℕ) → j ≢ value → held_by z d new j ≡ held_by z d now j = set_other z d now new value (key_value n.0) all.1 in
          let y = left_command z root d now new (GetKey value value 0) r q leaves x.alone.cleans.map x.alone.cleans.placed all.0 in
          (read_on old now new (Block b) x y (λ j small. keeps j (not_value j small)) (keeps 15 zero_apart), inl (n.0, n.1, ap (λ (g : Graph). node_at g b) all.0 ∙ n.2, all.2))

  not_zero : (b : Label) → IsZero false (Block b)
  not_zero b same = cc

  -- a leaf that has its key stays
  pub live_field : (old now : List Entry) (b : Label) (r : Reply) → Read old now (Block b) → Met old now b r → (r ≡ reply.BadType → ⊥) → (r ≡ reply.Empty → ⊥) → FieldCleaned z d old now root p i l value false
  live_field old now b r x (inl (None, datum, node, is)) other empty = absurd (empty is)
  live_field old now b r x (inl (Some k, datum, node, is)) other empty = end_field old now (Block b) false x (ap fields_of node) (not_zero b)
      (λ m same. let it : b ≡ m = cc in subst (HasKey (graph_of z old) root here) it (x.alone.cleans.stood here b (record { there = x.at_it; key = k; datum = datum; node = node })))
  live_field old now b r x (inr (fields, plain, held, is)) other empty = absurd (other is)

  -- 0 comes into a field that holds nothing
  module _ (old now new : List Entry) (r : Reply) (v : Value) (x : Ready old now v) (q : PerformedBy z d now new (Store block i 15) r) (leaves : OthersLeave z root d now new) (narrow : i < width_at p) (nothing : HoldsNothing (graph_of z (now ++ q.between)) v) where
    abbrev g : Graph
    g = graph_of z (now ++ q.between)

    abbrev h : Graph
    h = graph_of z new

    abbrev left_over : List Value
    left_over = set x.fields i (Int (pos 0))

    alone : LeftAlone z root d now (now ++ q.between)
    alone = to_command z root d now new (Store block i 15) r q leaves x.cleans.map x.cleans.placed

    node : (tag : ℕ) × (node_at g l ≡ Some (Plain tag x.fields))
    node = plain_node (node_at g l) x.fields (alone.blocks p (Block l) x.there ∙ x.plain)

    stored : (h ≡ with_node g l (Plain node.0 left_over)) × ((j : ℕ) → held_by z d new j ≡ held_by z d now j)
    stored =
        let f = field_holds z (now ++ q.between) root alone.cleans.map p l node.0 x.fields i (alone.places p ∙ x.there) node.1 narrow in
        let all = store_step z d now new r block i 15 q l node.0 x.fields (Int (pos 0)) (get_or x.fields i Nothing) x.held node.1 f.1 x.low.1 (λ e. cc) in
        (all.0, same_held z d now new all.1)

    abbrev empties : Empties g h root
    empties = record {
      p = p;
      i = i;
      held = v;
      block = l;
      tag = node.0;
      fields = x.fields;
      there = alone.places p ∙ x.there;
      node = node.1;
      below = x.below;
      was = x.field;
      nothing = nothing;
      now = stored.0;
    }

    placed_new : IsInPlace z.domains h root
    placed_new y m k at_m binds = ⊎_elim
        (λ old_one. alone.cleans.placed y m k old_one (λ none. binds (emptied_binds g h root alone.cleans.map empties k (Block m) ∙ none)))
        (λ same. cc)
        (emptied_any g h root alone.cleans.map empties y (Block m) at_m)

    plain_left : inside h (Block l) ≡ Some left_over
    plain_left = now_in g h root alone.cleans.map empties

    -- a leaf that has its key then stood there before
    stood_new : (y : List ℕ) (m : Label) → HasKey h root y m → HasKey g root y m
    stood_new y m had = ⊎_elim
        (λ there. record {
          there = there;
          key = had.key;
          datum = had.datum;
          node = label_cases (node_at g m ≡ Some (Ephe (Some had.key ∷ []) had.datum)) m l
              (λ same. let clash : None ≡ Some left_over = sym (ap fields_of had.node) ∙ (ap (λ (n : Label). inside h (Block n)) same ∙ plain_left) in cc)
              (λ other. sym (ap (λ (x : Graph). node_at x m) stored.0 ∙ node_at-with_node_other g l m (Plain node.0 left_over) other) ∙ had.node);
        })
        (λ same. cc)
        (emptied_any g h root alone.cleans.map empties y (Block m) had.there)

    cleans_it : Cleans z root d now new
    cleans_it =
        let laws = empty_keeps z.domains g h root alone.cleans.map empties in
        behind_command z root d now new (Store block i 15) r q leaves x.cleans.map x.cleans.placed laws.0 placed_new laws.1 stood_new (within_emptied (IsMadeBehind z d now) g h root alone.cleans.map empties)

    places_left : (y : List ℕ) → (Below here y → ⊥) → at (inside h) y (Block root) ≡ at (inside (graph_of z now)) y (Block root)
    places_left y apart = emptied_places g h root alone.cleans.map empties y (λ t is. apart (t, is)) ∙ alone.places y

    zero_left : get_or left_over i Nothing ≡ Int (pos 0)
    zero_left = set_same x.fields i (Int (pos 0)) Nothing x.below

    zero_there : at (inside h) here (Block root) ≡ Some (Int (pos 0))
    zero_there = at_field h p (Block root) l left_over i (places_left p (not_below p i) ∙ x.there) plain_left ∙ ap Some zero_left

    pub emptied_field : FieldCleaned z d old new root p i l value true
    emptied_field = record {
      cleans = cleans_twice z root d old now new x.cleans cleans_it;
      elsewhere = record {
        places = λ y apart. places_left y apart ∙ x.elsewhere.places y apart;
        blocks = λ y u apart other at_y.
            let at_now = x.elsewhere.places y apart ∙ at_y in
            emptied_blocks g h root alone.cleans.map empties y u other (alone.places y ∙ at_now) ∙ (alone.blocks y u at_now ∙ x.elsewhere.blocks y u apart other at_y);
      };
      fields = left_over;
      plain = plain_left;
      others = λ was plain j other. let both : Some x.fields ≡ Some was = sym x.plain_was ∙ plain in let same : x.fields ≡ was = cc in set_else x.fields i j (Int (pos 0)) Nothing other ∙ ap (λ (fs : List Value). get_or fs j Nothing) same;
      holds = zero_left;
      tidy = tidy_end h root here (Int (pos 0)) zero_there refl;
      live = end_had z root old new here (Int (pos 0)) zero_there refl (λ b same. cc);
      low = ((λ j small. stored.1 j ∙ x.low.0 j small), stored.1 15 ∙ x.low.1);
    }

  -- a leaf that has lost its key goes
  pub dead_field : (old now new : List Entry) (b : Label) (r r2 : Reply) → i < width_at p → Read old now (Block b) → Met old now b r → r ≡ reply.Empty → PerformedBy z d now new (Store block i 15) r2 → OthersLeave z root d now new → FieldCleaned z d old new root p i l value true
  dead_field old now new b r r2 narrow x (inr (fields, plain, held, is)) empty q leaves = let clash : reply.BadType ≡ reply.Empty = sym is ∙ empty in cc
  dead_field old now new b r r2 narrow x (inl (Some k, datum, node, is)) empty q leaves = let clash : reply.Block k ≡ reply.Empty = sym is ∙ empty in cc
  dead_field old now new b r r2 narrow x (inl (None, datum, node, is)) empty q leaves =
      let to = to_command z root d now new (Store block i 15) r2 q leaves x.alone.cleans.map x.alone.cleans.placed in
      let gone : node_at (graph_of z (now ++ q.between)) b ≡ Some (Ephe (None ∷ []) datum) = to.dead here b datum x.at_it node in
      emptied_field old now new r2 (Block b) (read_ready old now (Block b) x) q leaves narrow (leaf_nothing (graph_of z (now ++ q.between)) (Block b) (ap fields_of gone) (λ k. ap (bound_in k) gone))

  -- an inner block was cleaned
  module _ (old now n2 : List Entry) (b : Label) (x : Read old now (Block b)) (deeper : ℕ) (few_deeper : deeper < 6) where
    -- before it is
    pub inner_block : (fields : List Value) → inside (graph_of z now) (Block b) ≡ Some fields → held_by z d now value ≡ Block b → length here + deeper ≡ 6 → AtBlock z d now root here b value deeper
    inner_block fields plain held deep = record { map = x.alone.cleans.map; placed = x.alone.cleans.placed; deep = deep; there = x.at_it; fields = fields; plain = plain; held = held; zero = x.low.1 }

    module _ (e : Bool) (y : BlockCleaned z d now n2 root here b (14 - deeper) (width_of deeper) e) (wider : value ≤ 14 - deeper) where
      here_apart : (q : List ℕ) → (Below here q → ⊥) → q ≢ here
      here_apart q apart same = apart (subst (Below here) (sym same) (below_same here))

      block_ready : Ready old n2 (Block b)
      block_ready = record {
        cleans = cleans_twice z root d old now n2 x.alone.cleans y.cleans;
        elsewhere = record {
          places = λ q apart. y.elsewhere.places q apart ∙ x.alone.places q;
          blocks = λ q u apart other at_q. y.elsewhere.blocks q u apart (here_apart q apart) (x.alone.places q ∙ at_q) ∙ x.alone.blocks q u at_q;
        };
        fields = x.fields;
        plain_was = x.plain_was;
        there = y.elsewhere.places p (not_below p i) ∙ x.there;
        plain = y.elsewhere.blocks p (Block l) (not_below p i) (here_apart p (not_below p i)) x.there ∙ x.plain;
        field = x.field;
        below = x.below;
        held = y.low.0 block (let a = few.1 in omega (arith, a, wider)) ∙ x.held;
        low = ((λ j small. y.low.0 j (omega (arith, small, wider)) ∙ x.low.0 j small), y.low.1);
      }

      wide_it : width_of deeper ≡ node_width
      wide_it = width_below deeper few_deeper

      length_it : length y.fields ≡ node_width
      length_it = y.cleans.map.wide here (Block b) y.fields y.there y.plain ∙ narrow p i

      -- it holds something
      pub kept_block : e ≡ false → FieldCleaned z d old n2 root p i l value false
      kept_block is = kept_field old n2 (Block b) false block_ready (not_zero b) tidy live
        where
          some : (j : ℕ) × (j < node_width) × (get_or y.fields j Nothing ≢ Int (pos 0))
          some = subst (λ (w : Bool × ℕ). AreZero w.0 w.1 y.fields) (λ k. (is k, wide_it k)) y.holds

          past : (j : ℕ) (q : List ℕ) (u : Value) (fields : List Value) → node_width ≤ j → at (inside (graph_of z n2)) (here ++ j ∷ q) (Block root) ≡ Some u → inside (graph_of z n2) u ≡ Some fields → ⊥
          past j q u fields far at_it plain =
              let none : get_or y.fields j Nothing ≡ Nothing = beyond y.fields j (omega (arith, far, length_it)) in
              let there : at (inside (graph_of z n2)) (here ++ j ∷ []) (Block root) ≡ Some Nothing = at_field (graph_of z n2) here (Block root) b y.fields j y.there y.plain ∙ ap Some none in
              nothing_there (graph_of z n2) root (here ++ j ∷ []) q Nothing u fields there refl (ap (λ (w : List ℕ). at (inside (graph_of z n2)) w (Block root)) (append_assoc here (j ∷ []) q) ∙ at_it) plain

          tidy : IsTidyAt (graph_of z n2) root here
          tidy [] u fields at_it plain =
              let same : Some (Block b) ≡ Some u = sym y.there ∙ (ap (λ (w : List ℕ). at (inside (graph_of z n2)) w (Block root)) (sym (append-nil here)) ∙ at_it) in
              let block_it : Block b ≡ u = cc in
              let both : Some y.fields ≡ Some fields = sym y.plain ∙ (ap (inside (graph_of z n2)) block_it ∙ plain) in
              let fields_it : y.fields ≡ fields = cc in
              (some.0, some.1, subst (λ (fs : List Value). get_or fs some.0 Nothing ≢ Int (pos 0)) fields_it some.2)
          tidy (j ∷ q) u fields at_it plain = ⊎_elim
              (λ small. y.tidy j (subst (λ (w : ℕ). j < w) (sym wide_it) small) q u fields (ap (λ (w : List ℕ). at (inside (graph_of z n2)) w (Block root)) (append_assoc here (j ∷ []) q) ∙ at_it) plain)
              (λ far. absurd (past j q u fields far at_it plain))
              (less_or j node_width)

          live : HadKeysAt z root old n2 here
          live [] m at_it leaf =
              let same : Some (Block b) ≡ Some (Block m) = sym y.there ∙ (ap (λ (w : List ℕ). at (inside (graph_of z n2)) w (Block root)) (sym (append-nil here)) ∙ at_it) in
              let block_it : b ≡ m = cc in
              let clash : Some y.fields ≡ None = sym y.plain ∙ (ap (λ (n : Label). inside (graph_of z n2) (Block n)) block_it ∙ leaf_none (node_at (graph_of z n2) m) leaf) in cc
          live (j ∷ q) m at_it leaf = ⊎_elim
              (λ small.
              let split = append_assoc here (j ∷ []) q in
              let had = y.live j (subst (λ (w : ℕ). j < w) (sym wide_it) small) q m (ap (λ (w : List ℕ). at (inside (graph_of z n2)) w (Block root)) split ∙ at_it) leaf in
              x.alone.cleans.stood (here ++ j ∷ q) m (subst (λ (w : List ℕ). HasKey (graph_of z now) root w m) split had))
              (λ far.
              let none : get_or y.fields j Nothing ≡ Nothing = beyond y.fields j (omega (arith, far, length_it)) in
              let there : at (inside (graph_of z n2)) (here ++ j ∷ []) (Block root) ≡ Some Nothing = at_field (graph_of z n2) here (Block root) b y.fields j y.there y.plain ∙ ap Some none in
              let only = only_there (graph_of z n2) q Nothing m refl (sym (at_append (inside (graph_of z n2)) (here ++ j ∷ []) q (Block root) Nothing there) ∙ (ap (λ (w : List ℕ). at (inside (graph_of z n2)) w (Block root)) (append_assoc here (j ∷ []) q) ∙ at_it)) in
              let clash : Nothing ≡ Block m = only.1 in cc)
              (less_or j node_width)

      -- it is spent, and goes
      pub spent_block : e ≡ true → i < width_at p → (new : List Entry) (r : Reply) → PerformedBy z d n2 new (Store block i 15) r → OthersLeave z root d n2 new → FieldCleaned z d old new root p i l value true
      spent_block is narrow_i new r q leaves =
          emptied_field old n2 new r (Block b) block_ready q leaves narrow_i
          (spent_nothing mid b y.fields plain_mid (λ j. of_zero (get_or y.fields j Nothing) (zeros j)) (λ k. plain_unbound mid b k y.fields plain_mid))
        where
          mid : Graph
          mid = graph_of z (n2 ++ q.between)

          to : LeftAlone z root d n2 (n2 ++ q.between)
          to = to_command z root d n2 new (Store block i 15) r q leaves block_ready.cleans.map block_ready.cleans.placed

          plain_mid : inside mid (Block b) ≡ Some y.fields
          plain_mid = to.blocks here (Block b) y.there ∙ y.plain

          zero_at : (j : ℕ) → j < node_width → get_or y.fields j Nothing ≡ Int (pos 0)
          zero_at = subst (λ (w : Bool × ℕ). AreZero w.0 w.1 y.fields) (λ k. (is k, wide_it k)) y.holds

          zeros : (j : ℕ) → (get_or y.fields j Nothing ≡ Int (pos 0)) ⊎ (get_or y.fields j Nothing ≡ Nothing)
          zeros j = ⊎_elim (λ small. inl (zero_at j small)) (λ far. inr (beyond y.fields j (omega (arith, far, length_it)))) (less_or j node_width)

          of_zero : (w : Value) → (w ≡ Int (pos 0)) ⊎ (w ≡ Nothing) → (inside mid w ≡ None) × ((k : Label) → bound_by mid k w ≡ None)
          of_zero w (inl same) = (ap (inside mid) same, (λ k. ap (bound_by mid k) same))
          of_zero w (inr same) = (ap (inside mid) same, (λ k. ap (bound_by mid k) same))

-- the fields of a block, one more
holds_next : (e zero_it : Bool) (n : ℕ) (was now : List Value) → AreZero e n was → ((j : ℕ) → j ≢ n → get_or now j Nothing ≡ get_or was j Nothing) → IsZero zero_it (get_or now n Nothing) → AreZero (cond zero_it e false) (n + 1) now
holds_next true true n was now before others is = λ j small. ⊎_elim
    (λ same. ap (λ (m : ℕ). get_or now m Nothing) same ∙ is)
    (λ other. others j other ∙ before j (below_it j n small other))
    (same_number j n)
  where
    below_it : (j n : ℕ) → j < n + 1 → (j ≡ n → ⊥) → j < n
    below_it j n small other = ⊎_elim (λ less. less) (λ far. absurd (other (omega (arith, small, far)))) (less_or j n)
holds_next false true n was now before others is =
    let small = before.1 in (before.0, omega (arith, small), (λ none. before.2 (sym (others before.0 (λ same. absurd (omega (arith, small, same)))) ∙ none)))
holds_next e false n was now before others is = (n, omega arith, is)

module _ (z : Sizes) (root : Label) (d : ℕ) (old : List Entry) (p : List ℕ) (l : Label) (value : ℕ) where
  pub block_begins : (block left : ℕ) → AtBlock z d old root p l block left → BlockCleaned z d old old root p l value 0 true
  block_begins block left x = record {
    cleans = cleans_none z root d old x.map x.placed;
    elsewhere = record { places = λ q apart. refl; blocks = λ q u apart other there. refl };
    there = x.there;
    fields = x.fields;
    plain = x.plain;
    holds = λ j small. absurd (omega (arith, small));
    tidy = λ j small. absurd (omega (arith, small));
    live = λ j small. absurd (omega (arith, small));
    low = ((λ j small. refl), x.zero);
  }

  -- where it stands between
  pub block_stands : (block left n : ℕ) (now : List Entry) (e : Bool) → block < value → AtBlock z d old root p l block left → BlockCleaned z d old now root p l value n e → AtBlock z d now root p l block left
  block_stands block left n now e small x y = record { map = y.cleans.map; placed = y.cleans.placed; deep = x.deep; there = y.there; fields = y.fields; plain = y.plain; held = y.low.0 block small ∙ x.held; zero = y.low.1 }

  pub block_next : (now new : List Entry) (n : ℕ) (e zero_it : Bool) → BlockCleaned z d old now root p l value n e → FieldCleaned z d now new root p n l value zero_it → BlockCleaned z d old new root p l value (n + 1) (cond zero_it e false)
  block_next now new n e zero_it y f = record {
    cleans = cleans_twice z root d old now new y.cleans f.cleans;
    elsewhere = record {
      places = λ q apart. f.elsewhere.places q (below_more p n q apart) ∙ y.elsewhere.places q apart;
      blocks = λ q u apart other there. f.elsewhere.blocks q u (below_more p n q apart) other (y.elsewhere.places q apart ∙ there) ∙ y.elsewhere.blocks q u apart other there;
    };
    there = f.elsewhere.places p (not_below p n) ∙ y.there;
    fields = f.fields;
    plain = f.plain;
    holds = holds_next e zero_it n y.fields f.fields y.holds (f.others y.fields y.plain) f.holds;
    tidy = λ j small. ⊎_elim (λ same. subst (λ (m : ℕ). IsTidyAt (graph_of z new) root (p ++ m ∷ [])) (sym same) f.tidy) (λ other. tidy_still j other (before j small other)) (same_number j n);
    live = λ j small. ⊎_elim (λ same. subst (λ (m : ℕ). HadKeysAt z root old new (p ++ m ∷ [])) (sym same) live_last) (λ other. live_still j other (before j small other)) (same_number j n);
    low = ((λ j small. f.low.0 j small ∙ y.low.0 j small), f.low.1);
  }
    where
      before : (j : ℕ) → j < n + 1 → (j ≡ n → ⊥) → j < n
      before j small other = ⊎_elim (λ less. less) (λ far. absurd (other (omega (arith, small, far)))) (less_or j n)

      -- what stands below another field
      split : (j : ℕ) (q : List ℕ) → (p ++ j ∷ []) ++ q ≡ p ++ j ∷ q
      split j q = append_assoc p (j ∷ []) q

      apart : (j : ℕ) → (j ≡ n → ⊥) → (q : List ℕ) → Below (p ++ n ∷ []) ((p ++ j ∷ []) ++ q) → ⊥
      apart j other q below = other_below p n j q other (subst (Below (p ++ n ∷ [])) (split j q) below)

      at_now : (j : ℕ) → (j ≡ n → ⊥) → (q : List ℕ) (u : Value) → at (inside (graph_of z new)) ((p ++ j ∷ []) ++ q) (Block root) ≡ Some u → at (inside (graph_of z now)) ((p ++ j ∷ []) ++ q) (Block root) ≡ Some u
      at_now j other q u there = sym (f.elsewhere.places ((p ++ j ∷ []) ++ q) (apart j other q)) ∙ there

      inside_now : (j : ℕ) → (j ≡ n → ⊥) → (q : List ℕ) (u : Value) → at (inside (graph_of z now)) ((p ++ j ∷ []) ++ q) (Block root) ≡ Some u → inside (graph_of z new) u ≡ inside (graph_of z now) u
      inside_now j other q u = f.elsewhere.blocks ((p ++ j ∷ []) ++ q) u (apart j other q) (λ same. no_longer p j q (sym same ∙ split j q))

      tidy_still : (j : ℕ) → (j ≡ n → ⊥) → j < n → IsTidyAt (graph_of z new) root (p ++ j ∷ [])
      tidy_still j other small q u fields there plain =
          let here = at_now j other q u there in
          y.tidy j small q u fields here (sym (inside_now j other q u here) ∙ plain)

      live_still : (j : ℕ) → (j ≡ n → ⊥) → j < n → HadKeysAt z root old new (p ++ j ∷ [])
      live_still j other small q m there leaf =
          let here = at_now j other q (Block m) there in
          y.live j small q m here (still_leaf (graph_of z now) (graph_of z new) root ((p ++ j ∷ []) ++ q) m y.cleans.map here (inside_now j other q (Block m) here) leaf)

      live_last : HadKeysAt z root old new (p ++ n ∷ [])
      live_last q m there leaf = y.cleans.stood ((p ++ n ∷ []) ++ q) m (f.live q m there leaf)
