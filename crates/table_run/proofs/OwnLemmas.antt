-- The lines whose call writes what keeps the bindings, or the weak array: a key is bound, its binding is taken, a slot is set.
use Rattle.std.proofs.Common.{◌≡◌, ◌⊎◌, inl, inr, ⊎_elim, ℕ, zero, suc, ◌-◌, ◌<◌, ◌≤◌, ℤ, Bool, false, true, cond, IsTrue, List, [], ◌∷◌, map, length, get_or, set, Option, Some, None, refl, ap, sym, ◌∙◌, subst, arith, append-nil}
use Rattle.std.specs.List.{list_all}
use Rattle.model_core.specs.declared.label.Label.{Label}
use Rattle.model_core.specs.declared.entry.Entry.{Entry}
use Rattle.model_core.specs.declared.graph.Value.{Value}
use Rattle.model_core.specs.declared.graph.Value.TheVariants.{Int, Block, Nothing}
use Rattle.model_core.specs.declared.graph.Node.{Node}
use Rattle.model_core.specs.declared.graph.Node.TheVariants.{Plain}
use Rattle.model_core.specs.declared.state.Mode.TheVariants.{Open}
use Rattle.model_core.specs.declared.state.Sizes.{Sizes}
use Rattle.model_core.specs.Graph.{Graph, same_label, has_label, node_at}
use Rattle.model_core.specs.Domains.{IsWithinLimits}
use Rattle.model_core.specs.History.{IsPrefix, Legal}
use Rattle.model_laws.proofs.OfHistories.ApartLemmas.{IsKnownOut}
use Rattle.model_core.proofs.Graphs.GraphLemmas.{same_label-true}
use Rattle.model_core.proofs.Reach.ReachLemmas.{or_cases, or_left, or_right, and_left, and_right}
use Rattle.weak_laws.specs.Tables.Structures.{Binding, is_weak, keys_of, without, datum_at, IsWeakArray, slot_keys, Apart}
use Rattle.weak_laws.specs.Tables.Thinning.{ThinnedBy, EmptiedBy, WasOutside, state_of}
use Rattle.weak_laws.specs.Tables.Performing.{refusals, writings}
use Rattle.weak_laws.specs.Tables.Stages.{graph_of, held_in}
use Rattle.weak_laws.proofs.OfTables.BindingLemmas.{thinned_more, thinned_keys}
use Rattle.weak_laws.proofs.OfTables.ArrayLemmas.{emptied_more}
use Rattle.weak_laws.proofs.OfTables.ChangeLemmas.{array_kept}
use Rattle.weak_laws.proofs.OfTables.LawLemmas.{keys_emptied}
use Rattle.weak_laws.proofs.OfTables.OnceLemmas.{lacks, not_both}
use Rattle.weak_tables.specs.Held.{AllHave, IsBare}
use Rattle.weak_tables.proofs.TidyLemmas.{bare_lasts, has_kept}
use Rattle.weak_tables.specs.Arrays.{SetsSlot}
use Rattle.table_text.specs.declared.version.Version.{Version}
use Rattle.table_text.specs.declared.line.TableLine.{TableLine}
use Rattle.table_text.specs.declared.line.TableLine.TheVariants as line
use Rattle.table_text.specs.declared.machine.reply.LineReply.TheVariants as reply
use Rattle.table_text.specs.Machine.Machine.{Effect, TableState, MayGo, IsLost, IsThere, Holds, key_in, WithKey, Deletes, Binds}
use Rattle.table_run.specs.Keepers.Keepers.{Shape, IsKeeper, kept_bindings, kept_labels}
use Rattle.table_run.specs.Keepers.Answers.{Puts, Stays, Takes, Writes, bound_in}
use Rattle.table_run.specs.Standing.{Places, Stands, IsKnown, key_node, AreInts}
use Rattle.table_run.specs.Running.{LineDone}
use Rattle.table_run.proofs.KeyLemmas.{array_without, keeper_without}
use Rattle.table_run.proofs.KeeperLemmas.{keeper_kept, keeper_once}
use Rattle.table_run.proofs.MachineLemmas.{emptied_holds, goes_of, known_before, key_kept, slot_chosen, thinned_ints, ints_without, ints_with, place_holds}
use Rattle.table_run.proofs.RegisterLemmas.{register_at}
use Rattle.table_run.proofs.SettledLemmas.{from_places, held_keys, in_places}
use Rattle.table_run.proofs.StandLemmas.{outside_lost, line_ends}
use Rattle.table_run.proofs.TakenLemmas.{labelled, out_unbound, out_unset, taken_out}
use Rattle.table_run.proofs.LineLemmas.{holds_set}

without_keys : (k j : Label) (bs : List Binding) → IsTrue (has_label (keys_of (without k bs)) j) → IsTrue (has_label (keys_of bs) j)
without_keys k j [] h = h
without_keys k j (b ∷ bs) h = go (same_label b.0 k) h (λ later. without_keys k j bs later)
  where
    go : (c : Bool) → IsTrue (has_label (keys_of (cond c (without k bs) (b ∷ without k bs))) j) → (IsTrue (has_label (keys_of (without k bs)) j) → IsTrue (has_label (keys_of bs) j)) → IsTrue (has_label (keys_of (b ∷ bs)) j)
    go true h rest = or_right (same_label b.0 j) _ (rest h)
    go false h rest = ⊎_elim (λ same. or_left (same_label b.0 j) _ same) (λ later. or_right (same_label b.0 j) _ (rest later)) (or_cases (same_label b.0 j) (has_label (keys_of (without k bs)) j) h)

-- a key is another one, or is bound without it
other_key : (k j : Label) (bs : List Binding) → IsTrue (has_label (keys_of bs) j) → (k ≡ j) ⊎ IsTrue (has_label (keys_of (without k bs)) j)
other_key k j [] h = inr h
other_key k j (b ∷ bs) h = go (same_label b.0 k) refl (or_cases (same_label b.0 j) (has_label (keys_of bs) j) h) (λ later. other_key k j bs later)
  where
    go : (c : Bool) → same_label b.0 k ≡ c → IsTrue (same_label b.0 j) ⊎ IsTrue (has_label (keys_of bs) j) → (IsTrue (has_label (keys_of bs) j) → (k ≡ j) ⊎ IsTrue (has_label (keys_of (without k bs)) j))
        → (k ≡ j) ⊎ IsTrue (has_label (keys_of (cond c (without k bs) (b ∷ without k bs))) j)
    go true e (inl here) rest = inl (sym (same_label-true b.0 k e) ∙ same_label-true b.0 j here)
    go true e (inr later) rest = rest later
    go false e (inl here) rest = inr (or_left (same_label b.0 j) _ here)
    go false e (inr later) rest = ⊎_elim (λ same. inl same) (λ there. inr (or_right (same_label b.0 j) _ there)) (rest later)

-- What a slot held before it is set, where what is bound and in slots afterwards is this: it stays, unless no register holds it and it is nowhere afterwards
record Chosen (s : TableState) (bs : List Binding) (ks : List (Option Label)) (old : Option Label) : Type 0 where
  now : Option Label
  choice : (now ≡ old) ⊎ ((now ≡ None) × ((j : Label) × (old ≡ Some j) × (IsLost s j × (IsThere (record { registers = s.registers; bindings = bs; slots = ks }) j → ⊥))))
  stays : (j : Label) → now ≡ Some j → IsLost s j × (IsThere (record { registers = s.registers; bindings = bs; slots = ks }) j → ⊥) → ⊥

choose : (s : TableState) (bs : List Binding) (ks : List (Option Label)) (old : Option Label) → Chosen s bs ks old
choose s bs ks None = record { now = None; choice = inl refl; stays = λ j is gone. cc }
choose s bs ks (Some k) = held (has_label (held_keys s.registers) k) refl
  where
    kept : (IsLost s k → (IsThere (record { registers = s.registers; bindings = bs; slots = ks }) k → ⊥) → ⊥) → Chosen s bs ks (Some k)
    kept stays = record { now = Some k; choice = inl refl; stays = λ j is gone. (let same : k ≡ j = cc in stays (subst (IsLost s) (sym same) gone.0) (subst (λ (l : Label). IsThere (record { registers = s.registers; bindings = bs; slots = ks }) l → ⊥) (sym same) gone.1)) }

    nothing : (ps : List (Option Label)) → has_label (held_keys ps) k ≡ false → Holds ps k → ⊥
    nothing ps none there = let h = in_places ps k there in let clash : true ≡ false = sym h ∙ none in cc

    slot : has_label (held_keys s.registers) k ≡ false → has_label (keys_of bs) k ≡ false → (b : Bool) → has_label (held_keys ks) k ≡ b → Chosen s bs ks (Some k)
    slot lost unbound true e = kept (λ away nowhere. nowhere (inr (from_places ks k e)))
    slot lost unbound false e = record {
      now = None;
      choice = inr (refl, (k, refl, (nothing s.registers lost, λ there. ⊎_elim (λ bound. let clash : true ≡ false = sym bound ∙ unbound in cc) (λ found. nothing ks e found) there)));
      stays = λ j is gone. cc;
    }

    bound : has_label (held_keys s.registers) k ≡ false → (b : Bool) → has_label (keys_of bs) k ≡ b → Chosen s bs ks (Some k)
    bound lost true e = kept (λ away nowhere. nowhere (inl e))
    bound lost false e = slot lost e (has_label (held_keys ks) k) refl

    held : (b : Bool) → has_label (held_keys s.registers) k ≡ b → Chosen s bs ks (Some k)
    held true e = kept (λ away nowhere. away (from_places s.registers k e))
    held false e = bound e (has_label (keys_of bs) k) refl

prefix_end : (h : List Entry) → IsPrefix h h
prefix_end h = record { rest = []; appends = sym (append-nil h) }

flipped : (a b : List Label) → Apart a b → Apart b a
flipped a b apart l there = lacks a l (λ h. not_both b l there (apart l h))

-- each block of a weak array is there
slot_is : (g : Graph) (slots : List Label) (l : Label) → IsTrue (list_all (λ e. is_weak (node_at g e)) slots) → IsTrue (has_label slots l) → node_at g l ≡ None → ⊥
slot_is g [] l weak h none = let clash : false ≡ true = h in cc
slot_is g (e ∷ slots) l weak h none = ⊎_elim
    (λ same. (let there : IsTrue (is_weak None) = subst (λ (o : Option Node). IsTrue (is_weak o)) (ap (node_at g) (same_label-true e l same) ∙ none) (and_left (is_weak (node_at g e)) _ weak) in let clash : false ≡ true = there in cc))
    (λ later. slot_is g slots l (and_right (is_weak (node_at g e)) _ weak) later none) (or_cases (same_label e l) (has_label slots l) h)

array_there : (g : Graph) (l array : Label) (slots : List Label) → (w : IsWeakArray g array slots) → IsTrue (has_label (array ∷ slots) l) → node_at g l ≡ None → ⊥
array_there g l array slots w h none = ⊎_elim
    (λ same. let clash : ◌≡◌ {A = Option Node} None (Some (Plain w.tag (map Block slots))) = sym none ∙ (ap (node_at g) (sym (same_label-true array l same)) ∙ w.node) in cc)
    (λ later. slot_is g slots l w.weak later none) (or_cases (same_label array l) (has_label slots l) h)

module _ (version : Version) (z : Sizes) (limits : IsWithinLimits z) (p : Places) (s : TableState) (old new : List Entry) (x : Stands version z p s old) (quiet : writings new ≤ writings old) (others : (r : ℕ) → 8 ≤ r → held_in z new r ≡ Nothing) where
  abbrev shape : Shape version
  shape = x.shown.shape

  abbrev P : Label → Type 0
  P = WasOutside z old new

  lost : (k : Label) → P k → IsLost s k
  lost = outside_lost version z p s old new x quiet

  same : IsPrefix old new → (r : ℕ) → 1 ≤ r → r ≤ 7 → held_in z new r ≡ held_in z old r
  same grows r low high = register_at z old new new r low high grows (prefix_end new) quiet

  -- the heap stands for a state with the same registers
  stands_of : (grows : IsPrefix old new) (bs : List Binding) (ks : List (Option Label)) (now : Shape version) → IsKeeper version now z.domains (graph_of z new) p.keeper → IsWeakArray (graph_of z new) p.array p.slots
      → kept_bindings version now (graph_of z new) p.keeper ≡ bs → slot_keys (graph_of z new) p.slots ≡ ks → Apart (p.array ∷ p.slots) (kept_labels version now (graph_of z new) p.keeper) → ((k : Label) → IsKnown (record { registers = s.registers; bindings = bs; slots = ks }) k → node_at (graph_of z new) k ≡ Some key_node)
      → AreInts bs → AllHave IsBare (graph_of z new) p.slots → Stands version z p (record { registers = s.registers; bindings = bs; slots = ks }) new
  stands_of grows bs ks now keeper array bindings_are slots_are apart keys ints bare = record {
    shown = record { shape = now; keeper = keeper; array = array; registers = λ r low high. same grows r low (omega arith) ∙ x.shown.registers r low high; bindings_are = bindings_are; slots_are = slots_are };
    five = x.five;
    sixteen = x.sixteen;
    keeper_held = same grows 6 (omega arith) (omega arith) ∙ x.keeper_held;
    array_held = same grows 7 (omega arith) (omega arith) ∙ x.array_held;
    apart = apart;
    keys = keys;
    ints = ints;
    bare = bare;
    others = others;
  }

  keeper_now : IsPrefix old new → held_in z new 6 ≡ Block p.keeper
  keeper_now grows = same grows 6 (omega arith) (omega arith) ∙ x.keeper_held

  array_now : IsPrefix old new → held_in z new 7 ≡ Block p.array
  array_now grows = same grows 7 (omega arith) (omega arith) ∙ x.array_held

  -- what the collector took in a call is out when it is over
  out : Legal z new → (state_of z new).mode ≡ Open → (k : Label) → P k → IsKnown s k → IsKnownOut k (state_of z new)
  out legal calm k gone known = taken_out z old new k legal calm (labelled (graph_of z old) k key_node (x.keys k known)) gone

  -- what keeps the bindings was written, the weak array wasn't
  module _ (w : Writes version z old new p.keeper shape) where
    abbrev own : List Label
    own = kept_labels version shape (graph_of z old) p.keeper

    abbrev now_bound : List Binding
    now_bound = kept_bindings version w.now (graph_of z new) p.keeper

    array_t : IsWeakArray (graph_of z new) p.array p.slots
    array_t = array_kept P own (graph_of z old) (graph_of z new) w.goes.changes p.array p.slots x.apart x.shown.array

    emptied_p : EmptiedBy P s.slots (slot_keys (graph_of z new) p.slots)
    emptied_p = subst (λ (ks : List (Option Label)). EmptiedBy P ks (slot_keys (graph_of z new) p.slots)) x.shown.slots_are
        (keys_emptied P own (graph_of z old) (graph_of z new) w.goes.changes p.slots (λ l h. x.apart l (or_right (same_label p.array l) _ h)) x.shown.array.weak)

    key_t : (k : Label) → IsKnown s k → node_at (graph_of z new) k ≡ Some key_node
    key_t k known = w.goes.changes k key_node (x.keys k known) (keeper_without (graph_of z old) k (x.keys k known) version shape z.domains p.keeper x.shown.keeper)

    bare_t : AllHave IsBare (graph_of z new) p.slots
    bare_t l mine = has_kept IsBare bare_lasts P own (graph_of z old) (graph_of z new) w.goes.changes l (x.apart l (or_right (same_label p.array l) _ mine)) (x.bare l mine)

    -- the weak array is apart from what came to it
    apart_t : Apart (p.array ∷ p.slots) (kept_labels version w.now (graph_of z new) p.keeper)
    apart_t l mine = lacks (kept_labels version w.now (graph_of z new) p.keeper) l (λ h. ⊎_elim (λ before. not_both own l before (x.apart l mine)) (λ fresh. array_there (graph_of z old) l p.array p.slots x.shown.array mine fresh) (w.labels l h))

    -- what is bound besides a key was bound before
    before_p : (k : Label) (rest : List Binding) → ThinnedBy P (without k (bound_in version shape z old p.keeper)) rest → ThinnedBy P (without k s.bindings) rest
    before_p k rest t = subst (λ (bs : List Binding). ThinnedBy P (without k bs) rest) x.shown.bindings_are t

    before_t : (k : Label) (rest : List Binding) → ThinnedBy P (without k (bound_in version shape z old p.keeper)) rest → ThinnedBy (IsLost s) (without k s.bindings) rest
    before_t k rest t = thinned_more P (IsLost s) lost _ _ (before_p k rest t)

    -- what went besides the binding of a held key went from everywhere at once
    own_goes : (k : Label) → Holds s.registers k → (left : List Binding) → ThinnedBy P s.bindings left
        → ((j : Label) → IsTrue (has_label (keys_of (without k left)) j) → IsTrue (has_label (keys_of now_bound) j)) → MayGo s (record { registers = s.registers; bindings = left; slots = slot_keys (graph_of z new) p.slots })
    own_goes k held left thin within = goes_of P s left (slot_keys (graph_of z new) p.slots) lost thin emptied_p nowhere
      where
        nowhere : (j : Label) → P j → IsThere (record { registers = s.registers; bindings = left; slots = slot_keys (graph_of z new) p.slots }) j → ⊥
        nowhere j gone (inl bound) = ⊎_elim (λ equal. lost j gone (subst (Holds s.registers) equal held))
            (λ other. out_unbound z new j (out w.goes.legal w.settled.calm j gone (inr (inl (thinned_keys P _ _ j thin bound)))) 6 version w.now z.domains p.keeper (keeper_now w.goes.grows) w.keeper (within j other)) (other_key k j left bound)
        nowhere j gone (inr slot) = out_unset z new j (out w.goes.legal w.settled.calm j gone (inr (inr (emptied_holds P _ _ j emptied_p slot)))) 7 p.array p.slots (array_now w.goes.grows) array_t slot

    ints_t : (k : Label) (rest : List Binding) → ThinnedBy (IsLost s) (without k s.bindings) rest → AreInts rest
    ints_t k rest t = thinned_ints (IsLost s) _ _ t (ints_without k s.bindings x.ints)

    key_before : (k j : Label) (rest : List Binding) → ThinnedBy (IsLost s) (without k s.bindings) rest → IsTrue (has_label (keys_of rest) j) → IsKnown s j
    key_before k j rest t h = inr (inl (without_keys k j s.bindings (thinned_keys (IsLost s) _ _ j t h)))

    slot_before : (j : Label) → Holds (slot_keys (graph_of z new) p.slots) j → IsKnown s j
    slot_before j held = inr (inr (emptied_holds P _ _ j emptied_p held))

  -- a call that changed no binding
  module _ (w : Stays version z old new p.keeper shape) where
    abbrev pub stays_left : TableState
    stays_left = record { registers = s.registers; bindings = kept_bindings version w.writes.now (graph_of z new) p.keeper; slots = slot_keys (graph_of z new) p.slots }

    thin_w : ThinnedBy P s.bindings (kept_bindings version w.writes.now (graph_of z new) p.keeper)
    thin_w = subst (λ (bs : List Binding). ThinnedBy P bs (kept_bindings version w.writes.now (graph_of z new) p.keeper)) x.shown.bindings_are w.left

    known_w : (k : Label) → IsThere stays_left k → IsKnown s k
    known_w k (inl bound) = inr (inl (thinned_keys P _ _ k thin_w bound))
    known_w k (inr slot) = slot_before w.writes k slot

    pub stays_goes : MayGo s stays_left
    stays_goes = goes_of P s (kept_bindings version w.writes.now (graph_of z new) p.keeper) (slot_keys (graph_of z new) p.slots) lost thin_w (emptied_p w.writes) nowhere
      where
        nowhere : (k : Label) → P k → IsThere stays_left k → ⊥
        nowhere k gone (inl bound) = out_unbound z new k (out w.writes.goes.legal w.writes.settled.calm k gone (known_w k (inl bound))) 6 version w.writes.now z.domains p.keeper (keeper_now w.writes.goes.grows) w.writes.keeper bound
        nowhere k gone (inr slot) = out_unset z new k (out w.writes.goes.legal w.writes.settled.calm k gone (known_w k (inr slot))) 7 p.array p.slots (array_now w.writes.goes.grows) (array_t w.writes) slot

    pub stays_stands : Stands version z p stays_left new
    stays_stands = stands_of w.writes.goes.grows stays_left.bindings stays_left.slots w.writes.now w.writes.keeper (array_t w.writes) refl refl (apart_t w.writes) keys (thinned_ints P _ _ thin_w x.ints) (bare_t w.writes)
      where
        keys : (k : Label) → IsKnown stays_left k → node_at (graph_of z new) k ≡ Some key_node
        keys k (inl held) = key_t w.writes k (inl held)
        keys k (inr there) = key_t w.writes k (known_w k there)

  -- `del R` of a key that is bound
  pub take_done : (lines : List TableLine) (r : ℕ) (k : Label) → key_in s r ≡ Some k → Takes version z old new p.keeper shape k → refusals new ≡ refusals old → LineDone version z p lines (line.Del r) s old reply.Done new
  take_done lines r k key t none =
      let w = t.writes in
      let rest : List Binding = now_bound w in
      let thin = before_t w k rest t.left in
      let held : Holds s.registers k = (r - 1, place_holds s.registers (r - 1) k key) in
      let m = key_kept P k s.bindings rest (before_p w k rest t.left) in
      let mid : TableState = record { registers = s.registers; bindings = m.left; slots = slot_keys (graph_of z new) p.slots } in
      let after : TableState = record { registers = s.registers; bindings = without k m.left; slots = slot_keys (graph_of z new) p.slots } in
      let was : datum_at m.left k ≡ Some t.was = m.datum ∙ (ap (λ (bs : List Binding). datum_at bs k) (sym x.shown.bindings_are) ∙ t.bound) in
      let effect : Effect mid (line.Del r) reply.Done after =
      subst (λ (o : Option Label). WithKey o mid reply.Done after (λ j. Deletes j mid reply.Done after (datum_at mid.bindings j))) (sym key) (subst (λ (o : Option Value). Deletes k mid reply.Done after o) (sym was) (refl, refl)) in
      let known : (j : Label) → IsKnown after j → IsKnown s j =
      λ j known. ⊎_elim (λ held. inl held) (λ more. ⊎_elim (λ bound. key_before w k j rest thin (subst (λ (bs : List Binding). IsTrue (has_label (keys_of bs) j)) m.others bound)) (λ slot. slot_before w j slot) more) known in
      line_ends version z p lines (line.Del r) s old reply.Done after new
      (record { left = mid; goes = own_goes w k held m.left m.thinned (λ j there. subst (λ (bs : List Binding). IsTrue (has_label (keys_of bs) j)) m.others there); does = inl effect }) tt tt w.goes.grows (omega (arith, none))
      (stands_of w.goes.grows (without k m.left) _ w.now w.keeper (array_t w) (sym m.others) refl (apart_t w) (λ j is. key_t w j (known j is)) (subst AreInts (sym m.others) (ints_t w k rest thin)) (bare_t w))

  -- `put R V`
  pub put_done : (lines : List TableLine) (r : ℕ) (i : ℤ) (k : Label) → key_in s r ≡ Some k → Puts version z old new p.keeper shape k (Int i) → refusals new ≡ refusals old → LineDone version z p lines (line.Put r i) s old reply.Done new
  put_done lines r i k key g none =
      let w = g.writes in
      let all : List Binding = now_bound w in
      let thin = before_t w k (without k all) g.left in
      let place : Holds s.registers k = (r - 1, place_holds s.registers (r - 1) k key) in
      let bound : datum_at all k ≡ Some (Int i) = g.bound (λ gone. lost k gone place) in
      let m = key_kept P k s.bindings (without k all) (before_p w k (without k all) g.left) in
      let mid : TableState = record { registers = s.registers; bindings = m.left; slots = slot_keys (graph_of z new) p.slots } in
      let after : TableState = record { registers = s.registers; bindings = all; slots = slot_keys (graph_of z new) p.slots } in
      let effect : Effect mid (line.Put r i) reply.Done after =
      subst (λ (o : Option Label). WithKey o mid reply.Done after (λ j. (reply.Done ≡ reply.Done) × (s.registers ≡ s.registers) × (mid.slots ≡ mid.slots) × Binds j (Int i) mid.bindings all)) (sym key)
      (refl, refl, refl, record { rest = sym m.others; bound = bound }) in
      let held : IsKnown s k = inl place in
      let known : (j : Label) → IsKnown after j → IsKnown s j =
      λ j known. ⊎_elim (λ held. inl held)
      (λ more. ⊎_elim (λ bound. ⊎_elim (λ same. subst (IsKnown s) same held) (λ other. key_before w k j (without k all) thin other) (other_key k j all bound)) (λ slot. slot_before w j slot) more) known in
      line_ends version z p lines (line.Put r i) s old reply.Done after new
      (record {
        left = mid;
        goes = own_goes w k place m.left m.thinned (λ j there. without_keys k j all (subst (λ (bs : List Binding). IsTrue (has_label (keys_of bs) j)) m.others there));
        does = inl effect;
      })
      tt tt w.goes.grows (omega (arith, none))
      (stands_of w.goes.grows all _ w.now w.keeper (array_t w) refl refl (apart_t w) (λ j is. key_t w j (known j is))
      (ints_with k all i (keeper_once version w.now z.domains (graph_of z new) p.keeper w.keeper) (ints_t w k (without k all) thin) bound) (bare_t w))

  -- `wset I R`
  pub slot_done : (lines : List TableLine) (i r : ℕ) (k : Label) → i < 16 → key_in s r ≡ Some k → SetsSlot z old new p.array p.slots i k → refusals new ≡ refusals old → LineDone version z p lines (line.SetWeak i r) s old reply.Done new
  slot_done lines i r k few key g none =
      let own : List Label = p.array ∷ p.slots in
      let kept = keeper_kept P own (graph_of z old) (graph_of z new) g.goes.changes version shape z.domains p.keeper (flipped own (kept_labels version shape (graph_of z old) p.keeper) x.apart) x.shown.keeper in
      let held : Holds s.registers k = (r - 1, place_holds s.registers (r - 1) k key) in
      let all : List (Option Label) = slot_keys (graph_of z new) p.slots in
      let bs : List Binding = kept_bindings version shape (graph_of z new) p.keeper in
      let emptied : EmptiedBy P (set s.slots i (Some k)) all = subst (λ (ks : List (Option Label)). EmptiedBy P (set ks i (Some k)) all) x.shown.slots_are g.keys in
      let long : i < length s.slots = subst (λ (ks : List (Option Label)). i < length ks) x.shown.slots_are (slots_long (graph_of z old) p.slots i (let sixteen = x.sixteen in omega arith)) in
      let thin_p : ThinnedBy P s.bindings bs = subst (λ (a : List Binding). ThinnedBy P a bs) x.shown.bindings_are kept.thinned in
      let thin : ThinnedBy (IsLost s) s.bindings bs = thinned_more P (IsLost s) lost _ _ thin_p in
      let Left : Label → Type 0 = IsThere (record { registers = s.registers; bindings = bs; slots = all }) in
      let Away : Label → Type 0 = λ j. IsLost s j × (Left j → ⊥) in
      let knew : (j : Label) → Left j → IsKnown s j = λ j there. ⊎_elim (λ bound. inr (inl (thinned_keys P _ _ j thin_p bound)))
      (λ slot. ⊎_elim (λ equal. (let is : k ≡ j = cc in inl (subst (Holds s.registers) is held))) (λ before. inr (inr before)) (holds_set s.slots i (Some k) j (emptied_holds P _ _ j emptied slot))) there in
      let away : (j : Label) → P j → Away j = λ j gone. (
        lost j gone,
        λ there. ⊎_elim
            (λ bound. out_unbound z new j (out g.goes.legal g.clean.calm j gone (knew j there)) 6 version shape z.domains p.keeper (keeper_now g.goes.grows) kept.keeper bound)
            (λ slot. out_unset z new j (out g.goes.legal g.clean.calm j gone (knew j there)) 7 p.array p.slots (array_now g.goes.grows) g.array slot) there,
      ) in
      let before = choose s bs all (get_or s.slots i None) in
      let m = slot_chosen Away k (λ gone. gone.0 held) s.slots all i long (emptied_more P Away away _ _ emptied) before.now before.choice in
      let slots : List (Option Label) = set all i before.now in
      let mid : TableState = record { registers = s.registers; bindings = bs; slots = slots } in
      let goes : MayGo s mid = goes_of Away s bs slots (λ j gone. gone.0) (thinned_more P Away away _ _ thin_p) m.0
      (λ j gone there. ⊎_elim (λ bound. gone.1 (inl bound)) (λ slot. ⊎_elim (λ is. before.stays j is gone) (λ other. gone.1 (inr other)) (holds_set all i before.now j slot)) there) in
      let after : TableState = record { registers = s.registers; bindings = bs; slots = set slots i (Some k) } in
      let effect : Effect mid (line.SetWeak i r) reply.Done after =
      subst (λ (o : Option Label). WithKey o mid reply.Done after (λ j. (reply.Done ≡ reply.Done) × (after ≡ record mid { slots = set mid.slots i (Some j) }))) (sym key) (refl, refl) in
      let known : (j : Label) → IsKnown after j → IsKnown s j =
      λ j known. ⊎_elim (λ held. inl held)
      (λ more. ⊎_elim (λ bound. known_before s mid j goes (inr (inl bound)))
      (λ slot. ⊎_elim (λ same. (let is : k ≡ j = cc in inl (subst (Holds s.registers) is held))) (λ before. known_before s mid j goes (inr (inr before))) (holds_set slots i (Some k) j slot)) more) known in
      line_ends version z p lines (line.SetWeak i r) s old reply.Done after new
      (record { left = mid; goes = goes; does = inl effect }) tt tt g.goes.grows (omega (arith, none))
      (stands_of g.goes.grows bs (set slots i (Some k)) shape kept.keeper g.array refl (sym m.1) (subst (Apart own) (sym kept.labels) x.apart)
      (λ j is. (let before = known j is in g.goes.changes j key_node (x.keys j before) (array_without (graph_of z old) j (x.keys j before) p.array p.slots x.shown.array)))
      (thinned_ints (IsLost s) _ _ thin x.ints) (g.bare x.bare))
    where
      slots_long : (g : Graph) (slots : List Label) (i : ℕ) → i < length slots → i < length (slot_keys g slots)
      slots_long g [] i below = absurd (omega arith)
      slots_long g (e ∷ slots) zero below = omega arith
      slots_long g (e ∷ slots) (suc i) below = let rest = slots_long g slots i (omega arith) in omega arith
