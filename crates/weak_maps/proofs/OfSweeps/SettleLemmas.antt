-- A field of a map is read and a dead leaf taken out of it, command by command, beside others.
use Rattle.std.proofs.Common.{◌≡◌, ◌≢◌, ◌↔◌, ◌⊎◌, inl, inr, ⊎_elim, ℕ, ◌+◌, ◌<◌, ◌≤◌, Bool, true, false, List, [], ◌∷◌, ◌++◌, length, get_or, set, pos, Option, Some, None, refl, ap, sym, ◌∙◌, subst, arith, append_assoc}
use Rattle.std.proofs.lemmas.Option.{slice_get-get_or}
use Rattle.model_core.specs.declared.label.Label.{Label}
use Rattle.model_core.specs.declared.command.Command.TheVariants.{Cas, GetKey, Load, PutInt}
use Rattle.model_core.specs.declared.entry.Entry.{Entry}
use Rattle.model_core.specs.declared.graph.Value.{Value}
use Rattle.model_core.specs.declared.graph.Value.TheVariants.{Int, Block, Nothing}
use Rattle.model_core.specs.declared.graph.Node.TheVariants.{Plain, Ephe}
use Rattle.model_core.specs.declared.reply.Reply.{Reply}
use Rattle.model_core.specs.declared.reply.Reply.TheVariants as reply
use Rattle.model_core.specs.declared.state.Sizes.{Sizes}
use Rattle.model_core.specs.Graph.{Graph, node_at, with_node}
use Rattle.model_core.specs.Commands.{key_value, same_value, shown}
use Rattle.model_core.specs.Domains.{IsWithinLimits}
use Rattle.model_core.specs.History.{IsPrefix}
use Rattle.model_core.proofs.Graphs.GraphLemmas.{same_label-true, same_label_refl}
use Rattle.weak_laws.specs.Tables.Stages.{graph_of}
use Rattle.weak_laws.specs.Maps.Tries.{at, bound_in, fields_of, inside, is_leaf, width_at, IsMap}
use Rattle.weak_laws.specs.Maps.Steps.{Clears, OthersRespect}
use Rattle.weak_laws.specs.Maps.Calls.{PerformedBy, registers_after}
use Rattle.weak_laws.proofs.OfMaps.CallLemmas.{cas_step, get_key_plain_step, get_key_step, load_step, put_step}
use Rattle.weak_laws.proofs.OfMaps.FieldLemmas.{at_field, field_holds}
use Rattle.weak_laws.proofs.OfMaps.FrontLemmas.{prefix_more, prefix_same, prefix_trans}
use Rattle.weak_laws.proofs.OfMaps.OwnLemmas.{leaf_stays}
use Rattle.weak_laws.proofs.OfMaps.SetLemmas.{now_inside}
use Rattle.weak_laws.proofs.OfMaps.WalkLemmas.{set_same}
use Rattle.weak_maps.specs.Beside.{held_by}
use Rattle.weak_maps.specs.Commands.{IsBlock}
use Rattle.weak_maps.proofs.BesideLemmas.{same_held, set_here, set_other, sixteen, until_new}
use Rattle.weak_maps.proofs.DescendLemmas.{at_append, at_one, leaf_none, plain_node, shown_no_type}
use Rattle.weak_maps.proofs.GetLemmas.{grows_by}
use Rattle.weak_maps.proofs.PlaceLemmas.{only_there}
use Rattle.weak_maps.specs.declared.sweeps.sweeping.Held.{Held}
use Rattle.weak_maps.specs.declared.sweeps.sweeping.Held.TheVariants.{Free, Live, Dead, Inner}
use Rattle.weak_maps.specs.Sweeps.Dead.{IsDeadLeaf, OthersBringNoDead, StoodDead}
use Rattle.weak_maps.specs.Sweeps.Sweeps.{AtBlock, Exchanged, FieldSettled, KeepsBelow, LeavesField, NoDeadAt, Peeks, ReadsBlock}
use Rattle.weak_maps.proofs.OfSweeps.SpanLemmas.{Span, brings_within, clear_twice, no_dead_earlier, span_block, span_dead, span_map, span_once, span_pinned, span_to, span_twice, span_within}

-- two values that are the same where the second is a block
block_same : (v : Value) (l : Label) → same_value v (Block l) ≡ true → v ≡ Block l
block_same (Int i) l is = cc
block_same (Block j) l is = ap Block (same_label-true j l is)
block_same Nothing l is = cc

block_differs : (v : Value) (l : Label) → same_value v (Block l) ≡ false → v ≢ Block l
block_differs v l other is = let clash : true ≡ false = sym (same_label_refl l) ∙ subst (λ (w : Value). same_value w (Block l) ≡ false) is other in cc

-- an empty way is made of empty ones
none_of_none : (s t : List ℕ) → [] ≡ s ++ t → s ≡ []
none_of_none [] t is = refl
none_of_none (a ∷ s) t is = cc

-- a block of a map stays in its register and in the map
pub block_later : (z : Sizes) (root : Label) (d : ℕ) (p : List ℕ) (l : Label) (block left value : ℕ) (old now : List Entry) → block < value → AtBlock z d old root p l block left → Span z root d old now → KeepsBelow z d old now value → AtBlock z d now root p l block left
block_later z root d p l block left value old now few x over low =
    let moved = span_block z root d old now over p (Block l) x.fields x.there x.plain in record {
      map = span_map z root d old now over;
      deep = x.deep;
      there = moved.0;
      fields = moved.1.0;
      plain = moved.1.1;
      held = low block few ∙ x.held;
    }

module _ (z : Sizes) (limits : IsWithinLimits z) (root : Label) (d : ℕ) (p : List ℕ) (l : Label) (i block left value : ℕ) (few : (left ≤ 6) × (block < value)) (is_value : value + left ≡ 14) (narrow : i < width_at p) where
  abbrev here : List ℕ
  here = p ++ i ∷ []

  value_few : value < 16
  value_few = let a = few.0 in omega (arith, is_value)

  value_low : value < 15
  value_low = let a = few.0 in omega (arith, is_value)

  low_other : (r : ℕ) → r < value → r ≢ value
  low_other r small same = absurd (omega (arith, small, same))

  low_fifteen : (r : ℕ) → r ≤ value → r ≢ 15
  low_fifteen r small same = absurd (omega (arith, small, same, value_low))

  abbrev At : List Entry → Type 0
  At now = AtBlock z d now root p l block left

  abbrev Over : List Entry → List Entry → Type 0
  Over a b = Span z root d a b

  at_later : (old now : List Entry) → At old → Over old now → KeepsBelow z d old now value → At now
  at_later old now x over low = block_later z root d p l block left value old now few.1 x over low

  -- at a front of a stretch the field held this
  record Seen (old new : List Entry) (v : Value) : Type 0 where
    start : At old
    over : Over old new
    front : List Entry
    since : IsPrefix old front
    until : IsPrefix front new
    block_there : at (inside (graph_of z front)) p (Block root) ≡ Some (Block l)
    fields : List Value
    plain : inside (graph_of z front) (Block l) ≡ Some fields
    at_it : at (inside (graph_of z front)) here (Block root) ≡ Some v
    low : KeepsBelow z d old new value

  before : (old new : List Entry) (v : Value) (x : Seen old new v) → Over old x.front
  before old new v x = span_within z root d old new x.over old x.front (prefix_same old) x.since x.until

  behind : (old new : List Entry) (v : Value) (x : Seen old new v) → Over x.front new
  behind old new v x = span_within z root d old new x.over x.front new x.since x.until (prefix_same new)

  seen_earlier : (old now new : List Entry) (v : Value) → At old → Over old now → KeepsBelow z d old now value → Seen now new v → Seen old new v
  seen_earlier old now new v at_old over low x = record {
    start = at_old;
    over = span_twice z root d old now new over x.over;
    front = x.front;
    since = prefix_trans old now x.front over.grows x.since;
    until = x.until;
    block_there = x.block_there;
    fields = x.fields;
    plain = x.plain;
    at_it = x.at_it;
    low = λ r small. x.low r small ∙ low r small;
  }

  seen_later : (old now new : List Entry) (v : Value) → Seen old now v → Over now new → KeepsBelow z d now new value → Seen old new v
  seen_later old now new v x over low = record {
    start = x.start;
    over = span_twice z root d old now new x.over over;
    front = x.front;
    since = x.since;
    until = prefix_trans x.front now new x.until over.grows;
    block_there = x.block_there;
    fields = x.fields;
    plain = x.plain;
    at_it = x.at_it;
    low = λ r small. low r small ∙ x.low r small;
  }

  -- where it held no block of the map, nor a leaf that was dead, none stands there or below
  gone_seen : (old new : List Entry) (v : Value) (x : Seen old new v) → inside (graph_of z x.front) v ≡ None → (OthersBringNoDead z root d old new → (m : Label) → StoodDead z root old m → v ≡ Block m → ⊥) → NoDeadAt z root d old new here
  gone_seen old new v x end none brings m s q there =
      let g : Graph = graph_of z x.front in
      let there_new : at (inside (graph_of z new)) (p ++ i ∷ q) (Block root) ≡ Some (Block m) = ap (λ (w : List ℕ). at (inside (graph_of z new)) w (Block root)) (sym (append_assoc p (i ∷ []) q)) ∙ there in
      let s_front = span_dead z root d old x.front (before old new v x) m s in
      let y = span_pinned z root d x.front new (behind old new v x) (brings_within z root d old new x.front new x.since (prefix_same new) brings) m s_front p (Block l) x.fields x.block_there x.plain i q there_new in
      let there_front : at (inside g) (here ++ y.0) (Block root) ≡ Some (Block m) = ap (λ (w : List ℕ). at (inside g) w (Block root)) (append_assoc p (i ∷ []) y.0) ∙ y.3 in
      let only = only_there g y.0 v m end (sym (at_append (inside g) here y.0 (Block root) v x.at_it) ∙ there_front) in
      none brings m s only.1

  -- a dead leaf that the field holds at the end of a stretch it held at its beginning
  held_before : (a b : List Entry) (over : Over a b) (fields : List Value) → at (inside (graph_of z a)) p (Block root) ≡ Some (Block l) → inside (graph_of z a) (Block l) ≡ Some fields → OthersBringNoDead z root d a b → (m : Label) → StoodDead z root a m
      → at (inside (graph_of z b)) here (Block root) ≡ Some (Block m) → at (inside (graph_of z a)) here (Block root) ≡ Some (Block m)
  held_before a b over fields there plain brings m s at_b =
      let y = span_pinned z root d a b over brings m s p (Block l) fields there plain i [] at_b in
      ap (λ (w : List ℕ). at (inside (graph_of z a)) (p ++ i ∷ w) (Block root)) (sym (none_of_none y.0 y.1 y.2)) ∙ y.3

  -- the field is read
  sees : (old new : List Entry) (r : Reply) → At old → PerformedBy z d old new (Load value block i) r → OthersRespect z root d old new → (v : Value) × Seen old new v × (held_by z d new value ≡ v) × (r ≡ shown v)
  sees old new r x q respects =
      let c = Load value block i in
      let mid : List Entry = old ++ q.between in
      let to = span_to z root d old new c r q respects x.map in
      let moved = span_block z root d old mid to p (Block l) x.fields x.there x.plain in
      let fields : List Value = moved.1.0 in
      let n = plain_node (node_at (graph_of z mid) l) fields moved.1.1 in
      let f = field_holds z mid root (span_map z root d old mid to) p l n.0 fields i moved.0 n.1 narrow in
      let v : Value = get_or fields i Nothing in
      let all = load_step z d old new r value block i q l n.0 fields v x.held n.1 f.1 in
      let over = span_once z root d old new c r q respects x.map (inl all.0) in (
        v,
        record {
          start = x;
          over = over;
          front = mid;
          since = prefix_more old q.between;
          until = until_new z d old new c r q;
          block_there = moved.0;
          fields = fields;
          plain = moved.1.1;
          at_it = at_field (graph_of z mid) p (Block root) l fields i moved.0 moved.1.1;
          low = λ j small. set_other z d old new value v all.1 j (low_other j small);
        },
        set_here z d old new value v all.1 (sixteen z d old new c r q limits) value_few,
        all.2,
      )

  -- what the key of a block tells: a leaf, at the front of that command, or an inner block
  abbrev Told : List Entry → Value → List Entry → List Entry → Label → Reply → Type 0
  Told front v mid new b r = ((key : Option Label) × is_leaf (node_at (graph_of z front) b) × ((datum : Value) × (node_at (graph_of z mid) b ≡ Some (Ephe (key ∷ []) datum))) × (graph_of z new ≡ graph_of z mid) × (r ≡ shown (key_value key)))
      ⊎ (((fields : List Value) × (inside (graph_of z front) (Block b) ≡ Some fields)) × (r ≡ reply.BadType))

  tells : (old now new : List Entry) (b : Label) (r : Reply) (x : Seen old now (Block b)) → held_by z d now value ≡ Block b → (q : PerformedBy z d now new (GetKey 15 value 0) r) → OthersRespect z root d now new
      → (s : Seen old new (Block b)) × (held_by z d new value ≡ Block b) × Over old (now ++ q.between) × Told s.front (Block b) (now ++ q.between) new b r
  unfolding seen_later
  tells old now new b r x held q respects = ⊎_elim at_leaf (λ inner. at_inner inner.0 inner.1) ((span_map z root d old x.front (before old now (Block b) x)).slots here (Block b) x.at_it)
    where
      mid : List Entry
      mid = now ++ q.between

      to : Over now mid
      to = span_to z root d now new (GetKey 15 value 0) r q respects (span_map z root d old now x.over)

      since_front : Over x.front mid
      since_front = span_twice z root d x.front now mid (behind old now (Block b) x) to

      Out : Type 0
      Out = (s : Seen old new (Block b)) × (held_by z d new value ≡ Block b) × Over old mid × Told s.front (Block b) mid new b r

      over_it : graph_of z new ≡ graph_of z mid → Over now new
      over_it same = span_once z root d now new (GetKey 15 value 0) r q respects (span_map z root d old now x.over) (inl same)

      at_inner : (fields : List Value) → fields_of (node_at (graph_of z x.front) b) ≡ Some fields → Out
      at_inner fields plain =
          let moved = span_block z root d x.front mid since_front here (Block b) fields x.at_it plain in
          let n = plain_node (node_at (graph_of z mid) b) moved.1.0 moved.1.1 in
          let all = get_key_plain_step z d now new r 15 value q b n.0 moved.1.0 held n.1 in
          let keeps : (j : ℕ) → held_by z d new j ≡ held_by z d now j = same_held z d now new all.1 in
          (seen_later old now new (Block b) x (over_it all.0) (λ j small. keeps j), keeps value ∙ held, span_twice z root d old now mid x.over to, inr ((fields, plain), all.2))

      at_leaf : is_leaf (node_at (graph_of z x.front) b) → Out
      at_leaf leaf =
          let n = leaf_stays z x.front mid b since_front.grows leaf in
          let all = get_key_step z d now new r 15 value q b n.0 n.1 held n.2 in
          let keeps : (j : ℕ) → j ≢ 15 → held_by z d new j ≡ held_by z d now j = set_other z d now new 15 (key_value n.0) all.1 in (
            seen_later old now new (Block b) x (over_it all.0) (λ j small. keeps j (low_fifteen j (omega (arith, small)))),
            keeps value (low_fifteen value (omega arith)) ∙ held,
            span_twice z root d old now mid x.over to,
            inl (n.0, leaf, (n.1, n.2), all.0, all.2),
          )

  -- a field that was read and asked for a key: what it held at a front, and what the answer says of it
  pub record Asked (old new : List Entry) (key : Reply) : Type 0 where
    b : Label
    seen : Seen old new (Block b)
    held : held_by z d new value ≡ Block b
    mid : List Entry
    over : Over old mid
    told : Told seen.front (Block b) mid new b key

  asks : (old new : List Entry) (key : Reply) → At old → ReadsBlock z d old new block value i key → OthersRespect z root d old new → Asked old new key
  asks old new key x y respects = go s.0 s.1 s.2 (subst IsBlock s.3 y.some)
    where
      g0 : IsPrefix old y.between
      g0 = grows_by z d old y.between (Load value block i) y.shows y.reads

      g1 : IsPrefix y.between new
      g1 = grows_by z d y.between new (GetKey 15 value 0) key y.asks

      s : (v : Value) × Seen old y.between v × (held_by z d y.between value ≡ v) × (y.shows ≡ shown v)
      s = sees old y.between y.shows x y.reads (λ f e since until other. respects f e since (prefix_trans (f ++ e ∷ []) y.between new until g1) other)

      go : (v : Value) → Seen old y.between v → held_by z d y.between value ≡ v → IsBlock (shown v) → Asked old new key
      go (Int a) seen held some = absurd some
      go (Block b) seen held some =
          let t = tells old y.between new b key seen held y.asks (λ f e since until other. respects f e (prefix_trans old y.between f g0 since) until other) in
          record { b = b; seen = t.0; held = t.1; mid = y.between ++ y.asks.between; over = t.2; told = t.3 }
      go Nothing seen held some = absurd some

  -- the field held no block
  none_gone : (old new : List Entry) (shows : Reply) → At old → PerformedBy z d old new (Load value block i) shows → (IsBlock shows → ⊥) → OthersRespect z root d old new → FieldSettled z d old new root here value false
  none_gone old new shows x q none respects = let s = sees old new shows x q respects in go s.0 s.1 (λ is. none (subst IsBlock (sym s.3) is))
    where
      go : (v : Value) → Seen old new v → (IsBlock (shown v) → ⊥) → FieldSettled z d old new root here value false
      go (Int a) seen free = record { clear = seen.over.clear; low = seen.low; leaves = gone_seen old new (Int a) seen refl (λ brings m s same. cc) }
      go (Block b) seen free = absurd (free tt)
      go Nothing seen free = record { clear = seen.over.clear; low = seen.low; leaves = gone_seen old new Nothing seen refl (λ brings m s same. cc) }

  -- it held an inner block
  inner_held : (old new : List Entry) (key : Reply) → key ≡ reply.BadType → Asked old new key → FieldSettled z d old new root here value true
  inner_held old new key kind x = go x.told
    where
      go : Told x.seen.front (Block x.b) x.mid new x.b key → FieldSettled z d old new root here value true
      go (inl (k, leaf, node, same, is)) = absurd (shown_no_type (key_value k) (sym is ∙ kind))
      go (inr ((fields, plain), is)) =
          let moved = span_block z root d x.seen.front new (behind old new (Block x.b) x.seen) here (Block x.b) fields x.seen.at_it plain in
          record { clear = x.seen.over.clear; low = x.seen.low; leaves = record { l = x.b; held = x.held; there = moved.0; fields = moved.1.0; plain = moved.1.1 } }

  -- it held a leaf that had its key
  live_held : (old new : List Entry) (key : Reply) → key ≢ reply.Empty → key ≢ reply.BadType → Asked old new key → FieldSettled z d old new root here value false
  live_held old new key some kind x = record { clear = x.seen.over.clear; low = x.seen.low; leaves = go x.told }
    where
      go : Told x.seen.front (Block x.b) x.mid new x.b key → NoDeadAt z root d old new here
      go (inl (None, leaf, node, same, is)) = absurd (some is)
      go (inl (Some k, leaf, (datum, node), same, is)) = gone_seen old new (Block x.b) x.seen (leaf_none (node_at (graph_of z x.seen.front) x.b) leaf)
          (λ brings m s it.
          let dead = (span_dead z root d old x.mid x.over m s).dead in
          let is_m : x.b ≡ m = cc in
          let clash : Some (Ephe (Some k ∷ []) datum) ≡ Some (Ephe (None ∷ []) dead.0) = sym node ∙ (ap (node_at (graph_of z x.mid)) is_m ∙ dead.1) in cc)
      go (inr (inner, is)) = absurd (kind is)

  -- what a peek and an exchange have grown
  asked_grows : (old new : List Entry) (key : Reply) → ReadsBlock z d old new block value i key → IsPrefix old new
  asked_grows old new key y = prefix_trans old y.between new (grows_by z d old y.between (Load value block i) y.shows y.reads) (grows_by z d y.between new (GetKey 15 value 0) key y.asks)

  exchange_grows : (old new : List Entry) (won : Bool) → Exchanged z d old new block value i won → IsPrefix old new
  exchange_grows old new won e = prefix_trans old e.between new (grows_by z d old e.between (PutInt 15 (pos 0)) e.done e.zero) (grows_by z d e.between new (Cas block i value 15) e.told e.tries)

  -- by what is told of an inner block
  left_false : {old new : List Entry} {held : Held} (inner : Bool) → (inner ≡ true) ↔ (held ≡ Inner) → (held ≢ Inner) → FieldSettled z d old new root here value false → FieldSettled z d old new root here value inner
  left_false true is other x = absurd (other (is.0 refl))
  left_false false is other x = x

  left_true : {old new : List Entry} (inner : Bool) → (inner ≡ true) ↔ (Inner ≡ Inner) → FieldSettled z d old new root here value true → FieldSettled z d old new root here value inner
  left_true true is x = x
  left_true false is x = let clash : false ≡ true = is.1 refl in cc

  -- a field that was settled behind a stretch
  settled_earlier : (old now new : List Entry) (inner : Bool) → Over old now → KeepsBelow z d old now value → IsPrefix now new → FieldSettled z d now new root here value inner → FieldSettled z d old new root here value inner
  settled_earlier old now new inner over low grows x = record { clear = clear_twice z root d old now new grows over.clear x.clear; low = λ r small. x.low r small ∙ low r small; leaves = lifts inner x.leaves }
    where
      lifts : (b : Bool) → LeavesField z d now new root here value b → LeavesField z d old new root here value b
      lifts true y = y
      lifts false y = no_dead_earlier z root d old now new here over grows y

  -- it held a leaf that had lost its key
  module _ (old n1 : List Entry) (x : Asked old n1 reply.Empty) where
    abbrev b : Label
    b = x.b

    dead_now : StoodDead z root n1 b
    dead_now = go x.told
      where
        go : Told x.seen.front (Block b) x.mid n1 b reply.Empty → StoodDead z root n1 b
        go (inl (None, leaf, (datum, node), same, is)) = record { former = x.seen.front; before = x.seen.until; p = here; there = x.seen.at_it; leaf = leaf; dead = (datum, ap (λ (g : Graph). node_at g b) same ∙ node) }
        go (inl (Some k, leaf, node, same, is)) = cc
        go (inr (inner, is)) = cc

    -- 0 is to come in its place
    module _ (n2 n3 : List Entry) (r2 r3 : Reply) (zero : PerformedBy z d n1 n2 (PutInt 15 (pos 0)) r2) (cas : PerformedBy z d n2 n3 (Cas block i value 15) r3) (respects : OthersRespect z root d n1 n3) where
      put : (graph_of z n2 ≡ graph_of z (n1 ++ zero.between)) × (registers_after z d n2 ≡ set (registers_after z d n1) 15 (Int (pos 0))) × (r2 ≡ reply.Done)
      put = put_step z d n1 n2 r2 15 (pos 0) zero

      g1 : IsPrefix n1 n2
      g1 = grows_by z d n1 n2 (PutInt 15 (pos 0)) r2 zero

      g2 : IsPrefix n2 n3
      g2 = grows_by z d n2 n3 (Cas block i value 15) r3 cas

      zeroed : Over n1 n2
      zeroed = span_once z root d n1 n2 (PutInt 15 (pos 0)) r2 zero (λ f e since until other. respects f e since (prefix_trans (f ++ e ∷ []) n2 n3 until g2) other) (span_map z root d old n1 x.seen.over) (inl put.0)

      keeps2 : (r : ℕ) → r ≢ 15 → held_by z d n2 r ≡ held_by z d n1 r
      keeps2 = set_other z d n1 n2 15 (Int (pos 0)) put.1

      fifteen : held_by z d n2 15 ≡ Int (pos 0)
      fifteen = set_here z d n1 n2 15 (Int (pos 0)) put.1 (sixteen z d n1 n2 (PutInt 15 (pos 0)) r2 zero limits) (omega arith)

      seen2 : Seen old n2 (Block b)
      seen2 = seen_later old n1 n2 (Block b) x.seen zeroed (λ r small. keeps2 r (low_fifteen r (omega (arith, small))))

      here2 : At n2
      here2 = at_later old n2 seen2.start seen2.over seen2.low

      respects3 : OthersRespect z root d n2 n3
      respects3 f e since until other = respects f e (prefix_trans n1 n2 f g1 since) until other

      abbrev mid : List Entry
      mid = n2 ++ cas.between

      abbrev g : Graph
      g = graph_of z mid

      to : Over n2 mid
      to = span_to z root d n2 n3 (Cas block i value 15) r3 cas respects3 here2.map

      moved : (at (inside g) p (Block root) ≡ Some (Block l)) × ((now : List Value) × (inside g (Block l) ≡ Some now))
      moved = span_block z root d n2 mid to p (Block l) here2.fields here2.there here2.plain

      abbrev fields : List Value
      fields = moved.1.0

      node : (tag : ℕ) × (node_at g l ≡ Some (Plain tag fields))
      node = plain_node (node_at g l) fields moved.1.1

      map_mid : IsMap g root
      map_mid = span_map z root d n2 mid to

      below : i < length fields
      below = subst (λ (m : ℕ). i < m) (sym (map_mid.wide p (Block l) fields moved.0 moved.1.1)) narrow

      abbrev was : Value
      was = get_or fields i Nothing

      abbrev h : Graph
      h = with_node g l (Plain node.0 (set fields i (Int (pos 0))))

      took : ((same_value was (Block b) ≡ true) × ((graph_of z n3 ≡ h) × (registers_after z d n3 ≡ registers_after z d n2) × (r3 ≡ reply.Yes)))
          ⊎ ((same_value was (Block b) ≡ false) × ((graph_of z n3 ≡ g) × (registers_after z d n3 ≡ registers_after z d n2) × (r3 ≡ reply.No)))
      took = cas_step z d n2 n3 r3 block i value 15 cas l node.0 fields (Block b) (Int (pos 0)) was here2.held node.1 (slice_get-get_or fields i Nothing below) (keeps2 value (low_fifteen value (omega arith)) ∙ x.held) (λ e. cc) fifteen (λ e. cc)

      dead_mid : IsDeadLeaf g b
      dead_mid = (span_dead z root d n1 mid (span_twice z root d n1 n2 mid zeroed to) b dead_now).dead

      -- it did
      clears : was ≡ Block b → graph_of z n3 ≡ h → Clears g (graph_of z n3) root
      clears is now = record {
        p = p;
        i = i;
        held = Block b;
        writes = record { block = l; tag = node.0; fields = fields; there = moved.0; node = node.1; below = below; was = is; end = ap fields_of dead_mid.1; now = now };
        empty = λ m. ap (bound_in m) dead_mid.1;
      }

      settled_it : was ≡ Block b → graph_of z n3 ≡ h → registers_after z d n3 ≡ registers_after z d n2 → FieldSettled z d old n3 root here value false
      unfolding clears
      settled_it is now kept =
          let c = clears is now in
          let over : Over n2 n3 = span_once z root d n2 n3 (Cas block i value 15) r3 cas respects3 here2.map (inr c) in
          let block3 = span_block z root d n2 n3 over p (Block l) here2.fields here2.there here2.plain in
          let plain3 : inside (graph_of z n3) (Block l) ≡ Some (set fields i (Int (pos 0))) = now_inside g (graph_of z n3) root p i (Block b) (Int (pos 0)) c.writes map_mid.tree in
          let zero3 : at (inside (graph_of z n3)) here (Block root) ≡ Some (Int (pos 0)) = at_one (inside (graph_of z n3)) p i (Block root) (Block l) (set fields i (Int (pos 0))) block3.0 plain3 ∙ ap Some (set_same fields i (Int (pos 0)) Nothing below) in
          record {
            clear = (span_twice z root d old n2 n3 seen2.over over).clear;
            low = λ r small. same_held z d n2 n3 kept r ∙ seen2.low r small;
            leaves = λ brings m s q there.
                let only = only_there (graph_of z n3) q (Int (pos 0)) m refl (sym (at_append (inside (graph_of z n3)) here q (Block root) (Int (pos 0)) zero3) ∙ there) in
                let clash : Int (pos 0) ≡ Block m = only.1 in cc;
          }

      pub won_settled : r3 ≡ reply.Yes → FieldSettled z d old n3 root here value false
      won_settled answered = ⊎_elim (λ won. settled_it (block_same was b won.0) won.1.0 won.1.1) (λ lost. let clash : reply.No ≡ reply.Yes = sym lost.1.2 ∙ answered in cc) took

      -- another call wrote the field first
      lost : (r3 ≡ reply.Yes → ⊥) → (was ≢ Block b) × (graph_of z n3 ≡ g) × (registers_after z d n3 ≡ registers_after z d n2)
      lost refused = ⊎_elim (λ won. absurd (refused won.1.2)) (λ kept. (block_differs was b kept.0, kept.1.0, kept.1.1)) took

      module _ (refused : r3 ≡ reply.Yes → ⊥) where
        over3 : Over n2 n3
        over3 = span_once z root d n2 n3 (Cas block i value 15) r3 cas respects3 here2.map (inl (lost refused).1)

        seen3 : Seen old n3 (Block b)
        seen3 = seen_later old n2 n3 (Block b) seen2 over3 (λ r small. same_held z d n2 n3 (lost refused).2 r)

        pub here3 : At n3
        here3 = at_later old n3 seen3.start seen3.over seen3.low

        -- a leaf that stands there now is none that was dead when the field was read first
        fresh_leaf : (new : List Entry) (b2 : Label) (y : Seen n3 new (Block b2)) (brings : OthersBringNoDead z root d old new) (m : Label) → StoodDead z root old m → Block b2 ≡ Block m → ⊥
        unfolding seen2 seen_later
        fresh_leaf new b2 y brings m s same =
            let first = x.seen in
            let to_front = before old n1 (Block b) first in
            let front_mid = span_twice z root d first.front n2 mid (behind old n2 (Block b) seen2) to in
            let old_mid = span_twice z root d old n2 mid seen2.over to in
            let to_second = span_within z root d n3 new y.over n3 y.front (prefix_same n3) y.since y.until in
            let mid_front : Over mid y.front = record {
              grows = prefix_trans mid n3 y.front (until_new z d n2 n3 (Cas block i value 15) r3 cas) y.since;
              clear = (span_within z root d old new (span_twice z root d old n3 new seen3.over y.over) mid y.front (prefix_trans old n2 mid seen2.over.grows (prefix_more n2 cas.between))
                  (prefix_trans mid n3 y.front (until_new z d n2 n3 (Cas block i value 15) r3 cas) y.since) y.until).clear;
              others = (span_within z root d old new (span_twice z root d old n3 new seen3.over y.over) mid y.front (prefix_trans old n2 mid seen2.over.grows (prefix_more n2 cas.between))
                  (prefix_trans mid n3 y.front (until_new z d n2 n3 (Cas block i value 15) r3 cas) y.since) y.until).others;
              map = map_mid;
            } in
            let at_second : at (inside (graph_of z y.front)) here (Block root) ≡ Some (Block m) = y.at_it ∙ ap Some same in
            let whole = span_twice z root d old n3 new seen3.over y.over in
            let at_mid = held_before mid y.front mid_front fields moved.0 moved.1.1 (brings_within z root d old new mid y.front old_mid.grows y.until brings) m (span_dead z root d old mid old_mid m s) at_second in
            let mid_new : IsPrefix mid new = prefix_trans mid y.front new mid_front.grows y.until in
            let at_first = held_before first.front mid front_mid first.fields first.block_there first.plain (brings_within z root d old new first.front mid first.since mid_new brings) m (span_dead z root d old first.front to_front m s) at_mid in
            let was_m : Some was ≡ Some (Block m) = sym (at_field g p (Block root) l fields i moved.0 moved.1.1) ∙ at_mid in
            let was_b : Some (Block b) ≡ Some (Block m) = sym first.at_it ∙ at_first in
            (lost refused).0 (let both : Some was ≡ Some (Block b) = was_m ∙ sym was_b in cc)

        -- it is read once more: a leaf there is to stay
        leaf_again : (new : List Entry) (key : Reply) → key ≢ reply.BadType → Asked n3 new key → FieldSettled z d old new root here value false
        unfolding seen_earlier
        leaf_again new key kind y = go y.told
          where
            whole : Seen old new (Block y.b)
            whole = seen_earlier old n3 new (Block y.b) seen3.start seen3.over seen3.low y.seen

            go : Told y.seen.front (Block y.b) y.mid new y.b key → FieldSettled z d old new root here value false
            go (inl (k, leaf, at_key, same, is)) = record {
              clear = whole.over.clear;
              low = whole.low;
              leaves = gone_seen old new (Block y.b) whole (leaf_none (node_at (graph_of z y.seen.front) y.b) leaf) (λ brings m s it. fresh_leaf new y.b y.seen brings m s it);
            }
            go (inr (inner, is)) = absurd (kind is)

        pub again : (new : List Entry) (held : Held) (inner : Bool) → (inner ≡ true) ↔ (held ≡ Inner) → Peeks z d n3 new block value i held → OthersRespect z root d n3 new → FieldSettled z d old new root here value inner
        again new Free inner is y later = left_false inner is (λ e. cc) (settled_earlier old n3 new false seen3.over seen3.low (grows_by z d n3 new (Load value block i) y.shows y.reads) (none_gone n3 new y.shows here3 y.reads y.none later))
        again new Live inner is y later = left_false inner is (λ e. cc) (leaf_again new y.0 y.2 (asks n3 new y.0 here3 y.3 later))
        again new Dead inner is y later = left_false inner is (λ e. cc) (leaf_again new reply.Empty (λ e. cc) (asks n3 new reply.Empty here3 y later))
        again new Inner inner is y later =
            left_true inner is (settled_earlier old n3 new true seen3.over seen3.low (asked_grows n3 new reply.BadType y) (inner_held n3 new reply.BadType refl (asks n3 new reply.BadType here3 y later)))

  -- what was read first, where that was no dead leaf
  pub settled_first : (old new : List Entry) (held : Held) (inner : Bool) → (held ≢ Dead) → (inner ≡ true) ↔ (held ≡ Inner) → At old → Peeks z d old new block value i held → OthersRespect z root d old new → FieldSettled z d old new root here value inner
  settled_first old new Free inner other is x y respects = left_false inner is (λ e. cc) (none_gone old new y.shows x y.reads y.none respects)
  settled_first old new Live inner other is x y respects = left_false inner is (λ e. cc) (live_held old new y.0 y.1 y.2 (asks old new y.0 x y.3 respects))
  settled_first old new Dead inner other is x y respects = absurd (other refl)
  settled_first old new Inner inner other is x y respects = left_true inner is (inner_held old new reply.BadType refl (asks old new reply.BadType x y respects))

  -- where it was one, and was taken out
  pub settled_won : (old n1 new : List Entry) → At old → Peeks z d old n1 block value i Dead → Exchanged z d n1 new block value i true → OthersRespect z root d old new → FieldSettled z d old new root here value false
  settled_won old n1 new x y e respects =
      let g0 = asked_grows old n1 reply.Empty y in
      let g1 = exchange_grows n1 new true e in
      let asked = asks old n1 reply.Empty x y (λ f a since until other. respects f a since (prefix_trans (f ++ a ∷ []) n1 new until g1) other) in
      won_settled old n1 asked e.between new e.done e.told e.zero e.tries (λ f a since until other. respects f a (prefix_trans old n1 f g0 since) until other) (e.yes.0 refl)

  -- where another call was first
  pub settled_again : (old n1 n3 new : List Entry) (held : Held) (inner : Bool) → (inner ≡ true) ↔ (held ≡ Inner) → At old → Peeks z d old n1 block value i Dead → Exchanged z d n1 n3 block value i false → Peeks z d n3 new block value i held → IsPrefix n3 new → OthersRespect z root d old new
      → FieldSettled z d old new root here value inner
  settled_again old n1 n3 new held inner is x y e again_it g3 respects =
      let g0 = asked_grows old n1 reply.Empty y in
      let g1 = exchange_grows n1 n3 false e in
      let g2 = prefix_trans n1 n3 new g1 g3 in
      let asked = asks old n1 reply.Empty x y (λ f a since until other. respects f a since (prefix_trans (f ++ a ∷ []) n1 new until g2) other) in
      again old n1 asked e.between n3 e.done e.told e.zero e.tries (λ f a since until other. respects f a (prefix_trans old n1 f g0 since) (prefix_trans (f ++ a ∷ []) n3 new until g3) other)
      (λ answered. let clash : false ≡ true = e.yes.1 answered in cc) new held inner is again_it (λ f a since until other. respects f a (prefix_trans old n3 f (prefix_trans old n1 n3 g0 g1) since) until other)

-- what was promised of a machine before its numbers were seen to be the same
pub exchanged_at : (z now : Sizes) (d e : ℕ) (old new : List Entry) (block value i : ℕ) (won result : Bool) → now ≡ z → e ≡ d → result ≡ won → Exchanged now e old new block value i result → Exchanged z d old new block value i won
exchanged_at z now d e old new block value i won result sizes domain is x = subst (λ (w : Sizes × ℕ × Bool). Exchanged w.0 w.1 old new block value i w.2) (λ j. (sizes j, domain j, is j)) x

pub peeks_at : (z now : Sizes) (d e : ℕ) (old new : List Entry) (block value i : ℕ) (held : Held) → now ≡ z → e ≡ d → Peeks now e old new block value i held → Peeks z d old new block value i held
peeks_at z now d e old new block value i held sizes domain x = subst (λ (w : Sizes × ℕ). Peeks w.0 w.1 old new block value i held) (λ j. (sizes j, domain j)) x
