-- What one entry does to the slots.
use Rattle.std.proofs.Common.{◌≡◌, ◌≢◌, ◌⊎◌, inl, inr, ⊎_elim, ℕ, zero, suc, ◌<◌, ◌≤◌, ◌/◌, true, IsTrue, List, [], ◌∷◌, ◌++◌, length, get_or, set, slice_get, option_map, Option, Some, None, refl, ap, sym, ◌∙◌, subst, arith, get_or-set_same, get_or-set_other, length-set}
use Rattle.std.proofs.lemmas.Bool.Decides.{eqb_tells}
use Rattle.std.proofs.lemmas.Option.{slice_get-get_or}
use Rattle.std.specs.List.{AllByRecursion}
use Rattle.model_core.specs.declared.command.Command.TheVariants.{SetKey}
use Rattle.model_core.specs.declared.entry.Entry.{Entry}
use Rattle.model_core.specs.declared.graph.Node.{Node}
use Rattle.model_core.specs.declared.graph.Node.TheVariants.{Ephe}
use Rattle.model_core.specs.declared.graph.Value.{Value}
use Rattle.model_core.specs.declared.graph.Value.TheVariants.{Block, Nothing}
use Rattle.model_core.specs.declared.label.Label.{Label}
use Rattle.model_core.specs.declared.reply.Reply.{Reply}
use Rattle.model_core.specs.declared.state.Sizes.{Sizes}
use Rattle.model_core.specs.Entries.{Allowed, next}
use Rattle.model_core.specs.Graph.{Graph, node_at}
use Rattle.model_core.specs.History.{IsPrefix, is_entry_of}
use Rattle.model_core.specs.Laws.{written}
use Rattle.model_core.proofs.Graphs.GraphStepLemmas.{nodes_stay_law}
use Rattle.table_text.specs.declared.line.TableLine.{TableLine}
use Rattle.table_text.specs.declared.line.TableLine.TheVariants.{Key, Forget, Put, Get, Del, SetWeak, GetWeak, Count, FullMajor}
use Rattle.table_text.specs.declared.machine.reply.LineReply.{LineReply}
use Rattle.weak_laws.specs.Maps.Calls.{PerformedBy}
use Rattle.weak_laws.specs.Tables.Stages.{graph_of}
use Rattle.weak_laws.specs.Tables.Thinning.{EmptiedBy, IsOutside, IsUnheld, Thin, is_collector, state_of}
use Rattle.weak_laws.proofs.OfMaps.FrontLemmas.{before_or_behind, prefix_same, prefix_trans}
use Rattle.weak_laws.proofs.OfMaps.OwnLemmas.{at_the_end, nothing_between}
use Rattle.weak_laws.proofs.OfMaps.RespectLemmas.{collector_spares, graph_push}
use Rattle.weak_laws.proofs.OfTables.ChangeLemmas.{loses_emptied}
use Rattle.weak_laws.proofs.OfTables.CollectorLemmas.{outside_unheld}
use Rattle.weak_maps.specs.Beside.{held_by}
use Rattle.weak_maps.proofs.BesideLemmas.{low_beside}
use Rattle.table_sections.specs.Lines.{IsKeyRegister, IsSharedLine, written_in}
use Rattle.table_sections.specs.Orders.{Keeps, Loses, Sets, SlotStep, slot_held, slot_place}
use Rattle.table_sections.specs.Places.{HasSlots, HoldsPlaces}
use Rattle.table_sections.specs.Sections.{LineBeside, SectionBeside}
use Rattle.table_sections.specs.Slots.{IsEight, LineSets, SetsKey, SparesSlots, keys_in, slot_ephe, slot_key}
use Rattle.table_sections.specs.declared.laying.Places.{Places}
use Rattle.table_sections.proofs.LineLemmas.{high_beside, low_line, slot_of}
use Rattle.table_sections.proofs.RegisterLemmas.{register_before}
use Rattle.table_sections.proofs.SlotLemmas.{eight_on, key_below}
use Rattle.table_sections.proofs.SpareLemmas.{no_root, sets_key}

-- what is so of three places is so of each slot's
by_place : (P : Label → Type 0) (p : Places) → P p.first → P p.second → P p.third → (s : ℕ) → P (slot_place p s)
by_place P p first second third s = by (s / 6)
  where
    by : (q : ℕ) → P (get_or (p.first ∷ p.second ∷ p.third ∷ []) q p.first)
    by zero = first
    by (suc zero) = second
    by (suc (suc zero)) = third
    by (suc (suc (suc q))) = first

place_eight : (g : Graph) (p : Places) → HasSlots g p → (s : ℕ) → IsEight g (slot_place p s)
place_eight g p has = by_place (IsEight g) p has.first has.second has.third

pub has_on : (z : Sizes) (p : Places) (old new : List Entry) → IsPrefix old new → HasSlots (graph_of z old) p → HasSlots (graph_of z new) p
has_on z p old new grows has = record {
  first = eight_on z old new p.first grows has.first;
  second = eight_on z old new p.second grows has.second;
  third = eight_on z old new p.third grows has.third;
  one_two = has.one_two;
  one_three = has.one_three;
  two_three = has.two_three;
}

-- two slots that have one ephemeron and one key are one
same_third : (g : Graph) (p : Places) → HasSlots g p → (a b : ℕ) → a < 3 → b < 3 → get_or (p.first ∷ p.second ∷ p.third ∷ []) a p.first ≡ get_or (p.first ∷ p.second ∷ p.third ∷ []) b p.first → a ≡ b
same_third g p has zero zero x y same = refl
same_third g p has zero (suc zero) x y same = absurd (has.one_two same)
same_third g p has zero (suc (suc zero)) x y same = absurd (has.one_three same)
same_third g p has (suc zero) zero x y same = absurd (has.one_two (sym same))
same_third g p has (suc zero) (suc zero) x y same = refl
same_third g p has (suc zero) (suc (suc zero)) x y same = absurd (has.two_three same)
same_third g p has (suc (suc zero)) zero x y same = absurd (has.one_three (sym same))
same_third g p has (suc (suc zero)) (suc zero) x y same = absurd (has.two_three (sym same))
same_third g p has (suc (suc zero)) (suc (suc zero)) x y same = refl
same_third g p has a (suc (suc (suc b))) x y same = absurd (omega (arith, y))
same_third g p has (suc (suc (suc a))) b x y same = absurd (omega (arith, x))

other_key : (g : Graph) (p : Places) → HasSlots g p → (s t : ℕ) → s < 16 → t < 16 → t ≢ s → slot_place p t ≡ slot_place p s → slot_key t ≢ slot_key s
other_key g p has s t low few other place key =
    let third : t / 6 ≡ s / 6 = same_third g p has (t / 6) (s / 6) (omega (arith, few)) (omega (arith, low)) place in
    other (omega (arith, third, key))

-- a key that is set, and the others
set_here : (keys : List (Option Label)) (i : ℕ) (k : Option Label) → i < length keys → slice_get (set keys i k) i ≡ Some k
set_here keys i k below = let long = length-set keys i k in slice_get-get_or (set keys i k) i None (omega (arith, long, below)) ∙ ap Some (get_or-set_same keys i k None below)

set_there : (keys : List (Option Label)) (i j : ℕ) (k : Option Label) → j < length keys → j ≢ i → slice_get (set keys i k) j ≡ slice_get keys j
set_there keys i j k below other =
    let long = length-set keys i k in
    slice_get-get_or (set keys i k) j None (omega (arith, long, below)) ∙ (ap Some (get_or-set_other keys i j k None other) ∙ sym (slice_get-get_or keys j None below))

-- what is left of eight keys, or of one of them, of which some are emptied
left_of : (P : Label → Type 0) (keys : List (Option Label)) (datum : Value) (left : Option Node) → length keys ≡ 8 → Thin P (Ephe keys datum) left → (left ≡ Some (Ephe keys datum)) ⊎ ((now : List (Option Label)) × EmptiedBy P keys now × (left ≡ Some (Ephe now Nothing)))
left_of P [] datum left eight thin = absurd (omega (arith, eight))
left_of P (a ∷ []) datum left eight thin = absurd (omega (arith, eight))
left_of P (a ∷ b ∷ keys) datum left eight (inl same) = inl same
left_of P (a ∷ b ∷ keys) datum left eight (inr (now, loses, is)) = inr (now, loses_emptied P (a ∷ b ∷ keys) now loses, is)

emptied_at : (P : Label → Type 0) (keys now : List (Option Label)) (i : ℕ) → EmptiedBy P keys now → (slice_get now i ≡ slice_get keys i) ⊎ ((k : Label) × (slice_get keys i ≡ Some (Some k)) × P k × (slice_get now i ≡ Some None))
emptied_at P [] now i is = inl (ap (λ (ks : List (Option Label)). slice_get ks i) is)
emptied_at P (key ∷ keys) now zero (k, rest, is, inl same, more) = inl (ap (λ (ks : List (Option Label)). slice_get ks 0) is ∙ ap Some same)
emptied_at P (key ∷ keys) now zero (k, rest, is, inr (none, (j, full, gone)), more) = inr (j, ap Some full, gone, ap (λ (ks : List (Option Label)). slice_get ks 0) is ∙ ap Some none)
emptied_at P (key ∷ keys) now (suc i) (k, rest, is, here, more) =
    let first : slice_get now (suc i) ≡ slice_get rest i = ap (λ (ks : List (Option Label)). slice_get ks (suc i)) is in
    ⊎_elim (λ same. inl (first ∙ same)) (λ x. inr (x.0, x.1, x.2, first ∙ x.3)) (emptied_at P keys rest i more)

module _ (z : Sizes) (p : Places) where
  -- what a slot holds, by the node of its ephemeron
  held_in : (h : List Entry) (s : ℕ) (o : Option Node) → node_at (graph_of z h) (slot_place p s) ≡ o → slot_held z p h s ≡ slice_get (keys_in (option_map {U = Label × Node} (λ (n : Node). (slot_place p s, n)) o)) (slot_key s)
  held_in h s o is = ap (λ (n : Option Node). slice_get (keys_in (option_map {U = Label × Node} (λ (m : Node). (slot_place p s, m)) n)) (slot_key s)) is

  same_node : (old new : List Entry) (s : ℕ) → node_at (graph_of z new) (slot_place p s) ≡ node_at (graph_of z old) (slot_place p s) → slot_held z p new s ≡ slot_held z p old s
  same_node old new s same = held_in new s (node_at (graph_of z old) (slot_place p s)) same

  -- an entry that changes no block
  pub keeps_graph : (front : List Entry) (e : Entry) → graph_of z (front ++ e ∷ []) ≡ graph_of z front → SlotStep z p front e
  keeps_graph front e same = Keeps (λ s few. same_node front (front ++ e ∷ []) s (ap (λ (g : Graph). node_at g (slot_place p s)) same))

  module _ (front : List Entry) (e : Entry) (has : HasSlots (graph_of z front) p) where
    abbrev after : List Entry
    after = front ++ e ∷ []

    -- one that is said to write none
    pub unwritten_keeps : written (state_of z front) e ≡ None → SlotStep z p front e
    unwritten_keeps none = Keeps (λ s few.
        let x : IsEight (graph_of z front) (slot_place p s) = place_eight (graph_of z front) p has s in
        let stays = nodes_stay_law (state_of z front) e (slot_place p s) (Ephe x.keys x.datum) (λ is. let clash : None ≡ Some (slot_place p s) = sym none ∙ is in cc) x.node in
        same_node front after s (ap (λ (g : Graph). node_at g (slot_place p s)) (graph_push z front e) ∙ (stays ∙ sym x.node)))

    -- one of the collector
    lost : (s : ℕ) → IsTrue (is_collector e) → Allowed (state_of z front) e → (slot_held z p after s ≡ slot_held z p front s) ⊎ ((k : Label) × (slot_held z p front s ≡ Some (Some k)) × IsUnheld (state_of z front) k × (slot_held z p after s ≡ Some None))
    lost s mine allowed = ⊎_elim (λ same. inl (same_node front after s (pushed ∙ (same ∙ sym x.node))))
        (λ y.
        let now : slot_held z p after s ≡ slice_get y.0 (slot_key s) = held_in after s (Some (Ephe y.0 Nothing)) (pushed ∙ y.2) in
        ⊎_elim (λ same. inl (now ∙ (same ∙ sym was))) (λ gone. inr (gone.0, was ∙ gone.1, outside_unheld (state_of z front) gone.0 gone.2, now ∙ gone.3)) (emptied_at (IsOutside (state_of z front)) x.keys y.0 (slot_key s) y.1))
        (left_of (IsOutside (state_of z front)) x.keys x.datum (node_at (next (state_of z front) e).graph (slot_place p s)) x.eight (collector_spares (state_of z front) e mine allowed (slot_place p s) (Ephe x.keys x.datum) x.node))
      where
        x : IsEight (graph_of z front) (slot_place p s)
        x = place_eight (graph_of z front) p has s

        pushed : node_at (graph_of z after) (slot_place p s) ≡ node_at (next (state_of z front) e).graph (slot_place p s)
        pushed = ap (λ (g : Graph). node_at g (slot_place p s)) (graph_push z front e)

        was : slot_held z p front s ≡ slice_get x.keys (slot_key s)
        was = held_in front s (Some (Ephe x.keys x.datum)) x.node

    pub collector_loses : IsTrue (is_collector e) → Allowed (state_of z front) e → SlotStep z p front e
    collector_loses mine allowed = Loses (λ s few. lost s mine allowed)

    -- a slot behind an entry that set a key: it was this one, or is as it was
    module _ (d ephe index item : ℕ) (s : ℕ) (x : SetsKey z d front e ephe index item (slot_place p s)) where
      now_holds : slot_held z p after s ≡ slice_get (set x.keys index (Some x.key)) (slot_key s)
      now_holds = held_in after s (Some (Ephe (set x.keys index (Some x.key)) x.datum)) x.sets

      in_bounds : slot_key s < length x.keys
      in_bounds =
          let there : IsEight (graph_of z front) (slot_place p s) = place_eight (graph_of z front) p has s in
          let both : Some (Ephe x.keys x.datum) ≡ Some (Ephe there.keys there.datum) = sym x.was ∙ there.node in
          let same : x.keys ≡ there.keys = cc in
          let long = ap length same in
          let eight = there.eight in
          let low = key_below s in
          omega (arith, long, eight, low)

      pub set_slot : slot_key s ≡ index → slot_held z p after s ≡ Some (Some x.key)
      set_slot is = let low = in_bounds in now_holds ∙ (ap (slice_get (set x.keys index (Some x.key))) is ∙ set_here x.keys index (Some x.key) (omega (arith, low, is)))

      pub other_slot : slot_key s ≢ index → slot_held z p after s ≡ slot_held z p front s
      other_slot other = now_holds ∙ (set_there x.keys index (slot_key s) (Some x.key) in_bounds other ∙ sym (held_in front s (Some (Ephe x.keys x.datum)) x.was))

  -- the entry by which the first domain makes the map the last key, which is no slot
  pub sharing_keeps : (d : ℕ) (old new : List Entry) (answer : Reply) → PerformedBy z d old new (SetKey 7 7 6) answer → HasSlots (graph_of z old) p
      → (front : List Entry) (e : Entry) → IsPrefix old front → IsPrefix (front ++ e ∷ []) new → is_entry_of d e ≡ true → SlotStep z p front e
  sharing_keeps d old new answer made has front e since until own =
      let there : HasSlots (graph_of z front) p = has_on z p old front since has in
      Keeps (λ s few.
      ⊎_elim (λ same. same_node front (front ++ e ∷ []) s same) (λ x. other_slot front e there d 7 7 6 s x (λ is. absurd (omega (arith, is))))
      (sets_key z d old new 7 7 6 answer made (slot_place p s) front e since until own))

  -- the register of a slot holds its ephemeron
  pub register_place : (d : ℕ) (h : List Entry) → HoldsPlaces z p d h → (s : ℕ) → s < 16 → held_by z d h (slot_ephe s) ≡ Block (slot_place p s)
  register_place d h holds s few = by (s / 6) (omega (arith, few))
    where
      by : (q : ℕ) → q < 3 → held_by z d h (get_or (7 ∷ 12 ∷ 13 ∷ []) q 0) ≡ Block (get_or (p.first ∷ p.second ∷ p.third ∷ []) q p.first)
      by zero small = holds.first
      by (suc zero) small = holds.second
      by (suc (suc zero)) small = holds.third
      by (suc (suc (suc q))) small = absurd (omega (arith, small))

  -- the entries of a line
  module _ (root : Label) (d : ℕ) where
    places_on : (old new : List Entry) (line : TableLine) (a : LineReply) → IsSharedLine line → LineBeside z root d old line a new → HoldsPlaces z p d old → HoldsPlaces z p d new
    places_on old new line a fits x holds =
        let low : written_in line ≤ 5 = low_line line fits in record {
          first = x.keeps 7 (λ e. absurd (omega (arith, e))) (low_beside 7 (omega arith)) (λ e. absurd (omega (arith, low, e))) ∙ holds.first;
          second = x.keeps 12 (λ e. absurd (omega (arith, e))) (high_beside 12 (omega arith)) (λ e. absurd (omega (arith, low, e))) ∙ holds.second;
          third = x.keeps 13 (λ e. absurd (omega (arith, e))) (high_beside 13 (omega arith)) (λ e. absurd (omega (arith, low, e))) ∙ holds.third;
          map = x.keeps 6 (λ e. absurd (omega (arith, e))) (low_beside 6 (omega arith)) (λ e. absurd (omega (arith, low, e))) ∙ holds.map;
        }

    module _ (old new : List Entry) (has : HasSlots (graph_of z old) p) (holds : HoldsPlaces z p d old) (front : List Entry) (e : Entry) (since : IsPrefix old front) (until : IsPrefix (front ++ e ∷ []) new) (own : is_entry_of d e ≡ true) where
      there : HasSlots (graph_of z front) p
      there = has_on z p old front since has

      -- of `wset`
      module _ (s r : ℕ) (a : LineReply) (few : s < 16) (small : IsKeyRegister r) (x : LineBeside z root d old (SetWeak s r) a new) where
        abbrev Spared : ℕ → Type 0
        Spared t = (node_at (graph_of z (front ++ e ∷ [])) (slot_place p t) ≡ node_at (graph_of z front) (slot_place p t)) ⊎ SetsKey z d front e (slot_ephe s) (slot_key s) r (slot_place p t)

        spared : (t : ℕ) → Spared t
        spared t = x.spares (slot_place p t) (place_eight (graph_of z old) p has t) front e since until own

        -- only the slot's own ephemeron is set
        own_place : held_by z d front (slot_ephe s) ≡ Block (slot_place p s)
        own_place =
            let end = at_the_end z no_root d old new (SetKey (slot_ephe s) (slot_key s) r) x.makes.reply x.makes.performed front e since until own in
            ap (λ (h : List Entry). held_by z d h (slot_ephe s)) end.0 ∙ (register_before z d old new (SetKey (slot_ephe s) (slot_key s) r) x.makes.reply x.makes.performed refl (slot_ephe s) ∙ register_place d old holds s few)

        others : (t : ℕ) → t < 16 → t ≢ s → slot_held z p (front ++ e ∷ []) t ≡ slot_held z p front t
        others t low other = ⊎_elim (λ same. same_node front (front ++ e ∷ []) t same)
            (λ y.
            let both : Block (slot_place p t) ≡ Block (slot_place p s) = sym y.held ∙ own_place in
            let place : slot_place p t ≡ slot_place p s = cc in
            other_slot front e there d (slot_ephe s) (slot_key s) r t y (other_key (graph_of z front) p there s t few low other place))
            (spared t)

        pub setting : SlotStep z p front e
        setting = ⊎_elim (λ same. Keeps (λ t low. ⊎_elim (λ is. subst (λ (n : ℕ). slot_held z p (front ++ e ∷ []) n ≡ slot_held z p front n) is.1 (same_node front (front ++ e ∷ []) s same)) (λ other. others t low (λ is. other.1 (sym is))) (eqb_tells s t)))
            (λ y. Sets d s r y.key own few small y.given (set_slot front e there d (slot_ephe s) (slot_key s) r s y refl) others) (spared s)

      -- and of each other line
      unset : (line : TableLine) → SparesSlots z d old line new → ((l : Label) → LineSets z d front e line l → ⊥) → SlotStep z p front e
      unset line spares none = Keeps (λ s few. ⊎_elim (λ same. same_node front (front ++ e ∷ []) s same) (λ sets. absurd (none (slot_place p s) sets)) (spares (slot_place p s) (place_eight (graph_of z old) p has s) front e since until own))

      line_steps : (line : TableLine) (a : LineReply) → IsSharedLine line → LineBeside z root d old line a new → SlotStep z p front e
      line_steps (Key r) a fits x = unset (Key r) x.spares (λ l wrong. wrong)
      line_steps (Forget r) a fits x = unset (Forget r) x.spares (λ l wrong. wrong)
      line_steps (Put r v) a fits x = unset (Put r v) x.spares (λ l wrong. wrong)
      line_steps (Get r) a fits x = unset (Get r) x.spares (λ l wrong. wrong)
      line_steps (Del r) a fits x = unset (Del r) x.spares (λ l wrong. wrong)
      line_steps (SetWeak s r) a fits x = let small = slot_of s r fits in setting s r a small.0 small.1 x
      line_steps (GetWeak r s) a fits x = unset (GetWeak r s) x.spares (λ l wrong. wrong)
      line_steps Count a fits x = absurd fits
      line_steps FullMajor a fits x = unset FullMajor x.spares (λ l wrong. wrong)

    beside_grows : (old new : List Entry) (lines : List TableLine) (replies : List LineReply) → SectionBeside z root d old lines replies new → IsPrefix old new
    beside_grows old new [] [] same = subst (IsPrefix old) (sym same) (prefix_same old)
    beside_grows old new [] (a ∷ replies) x = absurd x
    beside_grows old new (l ∷ lines) [] x = absurd x
    beside_grows old new (l ∷ lines) (a ∷ replies) (mid, line, rest) = prefix_trans old mid new line.grows (beside_grows mid new lines replies rest)

    -- the entries of a section
    pub section_steps : (old new : List Entry) (lines : List TableLine) (replies : List LineReply) → AllByRecursion IsSharedLine lines → HasSlots (graph_of z old) p → HoldsPlaces z p d old → SectionBeside z root d old lines replies new
        → (front : List Entry) (e : Entry) → IsPrefix old front → IsPrefix (front ++ e ∷ []) new → is_entry_of d e ≡ true → SlotStep z p front e
    section_steps old new [] [] fits has holds same front e since until own = absurd (nothing_between old front e since (subst (IsPrefix (front ++ e ∷ [])) same until))
    section_steps old new [] (a ∷ replies) fits has holds x front e since until own = absurd x
    section_steps old new (l ∷ lines) [] fits has holds x front e since until own = absurd x
    section_steps old new (l ∷ lines) (a ∷ replies) fits has holds (mid, line, rest) front e since until own =
        ⊎_elim (λ early. line_steps old mid has holds front e since early own l a fits.0 line)
        (λ late. section_steps mid new lines replies fits.1 (has_on z p old mid line.grows has) (places_on old mid l a fits.0 line holds) rest front e late until own)
        (before_or_behind mid new front e (beside_grows mid new lines replies rest) until)
