-- A search, command by command: what its calls leave.
use Rattle.std.proofs.Common.{◌≡◌, ◌≢◌, ◌⊎◌, inl, inr, ℕ, ◌<◌, ◌%◌, Bool, true, false, IsTrue, is_some, List, [], ◌∷◌, ◌++◌, length, get_or, set, Option, Some, None, refl, ap, sym, ◌∙◌, subst, arith, append-nil, append_assoc, length-append, ◌+◌, get_or-set_same, get_or-set_other}
use Rattle.std.specs.List.{list_all}
use Rattle.std.proofs.lemmas.Grind.{flat_map-append}
use Rattle.model_core.specs.declared.label.Label.{Label}
use Rattle.model_core.specs.declared.command.Command.TheVariants.{Load, GetKey}
use Rattle.model_core.specs.declared.entry.Entry.{Entry}
use Rattle.model_core.specs.declared.reply.Reply.{Reply}
use Rattle.model_core.specs.declared.reply.Reply.TheVariants as reply
use Rattle.model_core.specs.declared.graph.Value.{Value}
use Rattle.model_core.specs.declared.graph.Value.TheVariants.{Block, Nothing}
use Rattle.model_core.specs.declared.graph.Node.{Node}
use Rattle.model_core.specs.declared.graph.Node.TheVariants.{Plain, Raw, Ephe}
use Rattle.model_core.specs.declared.state.Sizes.{Sizes}
use Rattle.model_core.specs.Graph.{node_at}
use Rattle.model_core.specs.Domains.{IsWithinLimits}
use Rattle.model_core.specs.Commands.{shown, key_value}
use Rattle.model_core.specs.History.{Legal}
use Rattle.model_core.proofs.Graphs.GraphLemmas.{same_label-false}
use Rattle.model_core.proofs.Histories.ShapeAfterLemmas.{shaped-history}
use Rattle.weak_laws.specs.Tables.Structures.{Binding, Cell, bucket_count, is_weak, key_of, bound, binding_of, chain_bindings, datum_at, head_of, has_key, IsCell, Links, IsTable}
use Rattle.weak_laws.specs.Tables.Thinning.{Thin, WasOutside, Went}
use Rattle.weak_laws.specs.Tables.Performing.{Performed, After, registers_of}
use Rattle.weak_laws.specs.Tables.Stages.{Searching, graph_of, held_in}
use Rattle.model_core.proofs.Reach.ReachLemmas.{and_left, and_right, and_both}
use Rattle.weak_laws.proofs.OfTables.ChangeLemmas.{weak_parts}
use Rattle.weak_laws.proofs.OfTables.BindingLemmas.{thinned_same}
use Rattle.weak_laws.proofs.OfTables.CellLemmas.{links_behind}
use Rattle.weak_laws.proofs.OfTables.LinkLemmas.{empty_stays}
use Rattle.weak_laws.proofs.OfTables.LookupLemmas.{datum_parts}
use Rattle.weak_laws.proofs.OfTables.StepLemmas.{get_key_step}
use Rattle.weak_laws.proofs.OfTables.StageLemmas.{goes_from, goes_reading, thinned_on, table_reading, bindings_reading, held_stays, search_begins, search_begun, search_kept, cell_here, search_ephe, search_next, search_passes, search_ended}
use Rattle.weak_laws.proofs.OfTables.FillLemmas.{found_holding, holding_datum}
use Rattle.weak_tables.specs.declared.find.Find.{Find}
use Rattle.weak_tables.specs.declared.find.Find.TheVariants.{Key, Spare, Nowhere}
use Rattle.weak_tables.specs.Commands.{IsBlock}
use Rattle.weak_tables.specs.Held.{KeepsOthers, Reads}
use Rattle.weak_tables.specs.Walks.{HoldsSpare, SpareOf, KeepsSpare, Midst, Found, Missed, Met, passed_all}

module _ (z : Sizes) (limits : IsWithinLimits z) where
  -- there are sixteen registers
  pub sixteen : (h : List Entry) → length (registers_of z h) ≡ 16
  sixteen h =
      let shaped = shaped-history z h limits in
      let count = shaped.domain_count in
      let some = shaped.limits.some_domain in
      shaped.register_count 0 (omega (arith, count, some))

-- registers after a command that changes one of them
module _ (z : Sizes) (limits : IsWithinLimits z) (first now new : List Entry) (d : ℕ) (v : Value) (is : registers_of z new ≡ set (registers_of z now) d v) where
  pub set_here : d < 16 → held_in z new d ≡ v
  set_here few = ap (λ (rs : List Value). get_or rs d Nothing) is ∙ get_or-set_same (registers_of z now) d v Nothing (let all = sixteen z limits now in omega (arith, all))

  pub set_other : (r : ℕ) → r ≢ d → held_in z new r ≡ held_in z now r
  set_other r other = ap (λ (rs : List Value). get_or rs r Nothing) is ∙ get_or-set_other (registers_of z now) d r v Nothing other

  pub keeps_set : KeepsOthers z first now → ((r : ℕ) → r ≢ 8 → r ≢ 9 → r ≢ 10 → r ≢ d) → KeepsOthers z first new
  keeps_set keeps apart r a b c = set_other r (apart r a b c) ∙ keeps r a b c

pub bucket_below : (n : ℕ) → n % bucket_count < bucket_count
bucket_below n = omega arith

-- registers below 8 are others
pub below_eight : (z : Sizes) (first now : List Entry) (r : ℕ) → r < 8 → KeepsOthers z first now → held_in z now r ≡ held_in z first r
below_eight z first now r few keeps = keeps r (λ e. absurd (omega arith)) (λ e. absurd (omega arith)) (λ e. absurd (omega arith))

pub keeps_all : (z : Sizes) (h : List Entry) → KeepsOthers z h h
keeps_all z h r a b c = refl

-- a call that reads goes on reading
pub reads_on : (z : Sizes) (first now new : List Entry) (rs : List Value) (root : Label) (chains : List (List Cell)) → Reads z first now root chains → After z now new [] rs → Reads z first new root chains
reads_on z first now new rs root chains x a = record {
  goes = goes_reading z first now new [] rs x.goes a;
  table = table_reading z now new rs a root chains x.table;
  thinned = thinned_on z first now new _ _ _ x.goes.grows a.grows x.thinned (bindings_reading z now new rs a root chains x.table);
}

pub reads_from : (z : Sizes) (first : List Entry) (root : Label) (chains : List (List Cell)) → Legal z first → IsTable (graph_of z first) root chains → Reads z first first root chains
reads_from z first root chains legal table = record { goes = goes_from z first [] legal; table = table; thinned = thinned_same (WasOutside z first first) _ }

pub shown_block : (cells : List Cell) → IsBlock (shown (head_of cells)) → (c : Cell) × (cs : List Cell) × (cells ≡ c ∷ cs)
shown_block [] is = absurd is
shown_block (c ∷ cs) is = (c, cs, refl)

pub shown_none : (cells : List Cell) → (IsBlock (shown (head_of cells)) → ⊥) → cells ≡ []
shown_none [] none = refl
shown_none (c ∷ cs) none = absurd (none tt)

-- what a key that a read shows as another isn't
other_key : (k : Label) (key : Option Label) (datum : Value) → (shown (key_value key) ≡ reply.Block k → ⊥) → datum_at (bound key datum) k ≡ None
other_key k None datum other = refl
other_key k (Some l) datum other = rw (same_label-false l k (λ same. other (ap (λ (x : Label). reply.Block x) same))) refl

this_key : (k : Label) (key : Option Label) → shown (key_value key) ≡ reply.Block k → key ≡ Some k
this_key k None is = cc
this_key k (Some l) is = let same : l ≡ k = cc in ap (λ (x : Label). Some x) same

-- a spare cell at a command that changes no block of its own
pub spare_kept : (z : Sizes) (a b : List Entry) (rs : List Value) → After z a b [] rs → held_in z b 8 ≡ held_in z a 8 → (cells : List Cell) → HoldsSpare z a cells → HoldsSpare z b cells
spare_kept z a b rs after same cells x = record {
  before = x.before;
  cell = x.cell;
  behind = x.behind;
  split = x.split;
  datum = x.datum;
  empty = empty_stays (Went z a b) x.datum _ (after.changes x.cell.ephe _ x.empty refl);
  held = same ∙ x.held;
}

spare_longer : (z : Sizes) (a : List Entry) (cells : List Cell) (c : Cell) → HoldsSpare z a cells → HoldsSpare z a (cells ++ c ∷ [])
spare_longer z a cells c x = record {
  before = x.before;
  cell = x.cell;
  behind = x.behind ++ c ∷ [];
  split = ap (λ (cs : List Cell). cs ++ c ∷ []) x.split ∙ append_assoc x.before (x.cell ∷ x.behind) (c ∷ []);
  datum = x.datum;
  empty = x.empty;
  held = x.held;
}

all_longer : (test : Cell → Bool) (cells : List Cell) (c : Cell) → IsTrue (list_all test cells) → IsTrue (test c) → IsTrue (list_all test (cells ++ c ∷ []))
all_longer test [] c all one = and_both _ _ one refl
all_longer test (x ∷ cells) c all one = and_both _ _ (and_left (test x) _ all) (all_longer test cells c (and_right (test x) _ all) one)

module _ (z : Sizes) (limits : IsWithinLimits z) (root : Label) (chains : List (List Cell)) (k : Label) (tr kr : ℕ) (few_table : tr < 8) (few_key : kr < 8) (first : List Entry) (table : IsTable (graph_of z first) root chains) where
  abbrev i : ℕ
  i = k.serial % bucket_count

  pub midst_begins : (now : List Entry) (r : Reply) → Legal z first → i < bucket_count → held_in z first tr ≡ Block root → Performed z first now (Load 9 tr i) r → Midst z first now root chains k r false 0
  midst_begins now r legal below holds p =
      let t = search_begins z limits root chains k kr i first now r tr below table holds p in
      let nine : get_or (set (registers_of z first) 9 (head_of (get_or chains i []))) 9 Nothing ≡ head_of (get_or chains i []) = get_or-set_same (registers_of z first) 9 _ Nothing (let all = sixteen z limits first in omega (arith, all)) in record {
        reads = reads_on z first first now _ root chains (reads_from z first root chains legal table) t.0;
        keeps = keeps_set z limits first first now 9 _ t.0.registers_are (keeps_all z first) (λ r a b c. b);
        done = [];
        rest = get_or chains i [];
        searching = search_begun z limits root chains k kr i first now _ below table t.0 nine;
        shows = t.1;
        spare_is = refl;
        passed_is = refl;
      }

  -- where no cell is left
  module _ (now : List Entry) (r : Reply) (spare : Bool) (many : ℕ) (m : Midst z first now root chains k r spare many) (none : IsBlock r → ⊥) where
    ends : m.rest ≡ []
    ends = shown_none m.rest (λ is. none (subst IsBlock (sym m.shows) is))

    searching_all : Searching z now root chains k i m.done []
    searching_all = subst (λ (cs : List Cell). Searching z now root chains k i m.done cs) ends m.searching

    chain_is : get_or chains i [] ≡ m.done
    chain_is = searching_all.split ∙ append-nil m.done

    missed : Missed z first now root chains k
    missed = record { reads = m.reads; keeps = m.keeps; none = search_ended z limits root chains k kr i now m.done refl searching_all }

    -- a cell without a key may bind it
    spared : HoldsSpare z now m.done → Found z first now root chains k None
    spared x =
        let split : get_or chains i [] ≡ x.before ++ x.cell ∷ x.behind = chain_is ∙ x.split in
        let parts : datum_at (chain_bindings (graph_of z now) x.before ++ (binding_of (node_at (graph_of z now) x.cell.ephe) ++ chain_bindings (graph_of z now) x.behind)) k ≡ None =
        ap (λ (bs : List Binding). datum_at bs k) (sym (ap (chain_bindings (graph_of z now)) x.split ∙ flat_map-append (λ c. binding_of (node_at (graph_of z now) c.ephe)) x.before (x.cell ∷ x.behind))) ∙ searching_all.missing in
        let both = datum_parts k (chain_bindings (graph_of z now) x.before) _ parts in
        let behind = datum_parts k (binding_of (node_at (graph_of z now) x.cell.ephe)) (chain_bindings (graph_of z now) x.behind) both.1 in record {
          reads = m.reads;
          keeps = m.keeps;
          done = x.before;
          cell = x.cell;
          rest = x.behind;
          datum = x.datum;
          holding = record { table = searching_all.table; below = searching_all.below; placed = refl; split = split; at = x.empty; mine = inl refl; before = both.0; behind = behind.1 };
          ephe = x.held;
        }

    pub midst_passed : Met z first now root chains k (passed_all spare)
    midst_passed = go spare m.spare_is
      where
        go : (b : Bool) → SpareOf z first now m.done b → Met z first now root chains k (passed_all b)
        go true x = spared x
        go false x = (missed, subst (λ (cells : List Cell). IsTrue (list_all (has_key (graph_of z first)) cells)) (sym chain_is) x)

  -- the two commands of a round
  module _ (now f g : List Entry) (at r s : Reply) (spare : Bool) (many : ℕ) (m : Midst z first now root chains k at spare many) (block : IsBlock at) (held : held_in z first kr ≡ Block k) (p : Performed z now f (Load 10 9 0) r) (q : Performed z f g (GetKey 10 10 0) s) where
    cell : (c : Cell) × (cs : List Cell) × (m.rest ≡ c ∷ cs)
    cell = shown_block m.rest (subst IsBlock m.shows block)

    searching : Searching z now root chains k i m.done (cell.0 ∷ cell.1)
    searching = subst (λ (cs : List Cell). Searching z now root chains k i m.done cs) cell.2 m.searching

    key_now : held_in z now kr ≡ Block k
    key_now = below_eight z first now kr few_key m.keeps ∙ held

    load : After z now f [] (set (registers_of z now) 10 (Block cell.0.ephe)) × (r ≡ reply.Block cell.0.ephe)
    load = search_ephe z limits root chains k kr i now f r m.done cell.0 cell.1 searching 10 p

    keeps_f : KeepsOthers z first f
    keeps_f = keeps_set z limits first now f 10 _ load.0.registers_are m.keeps (λ r a b c. c)

    ephe_f : held_in z f 10 ≡ Block cell.0.ephe
    ephe_f = set_here z limits first now f 10 _ load.0.registers_are (omega arith)

    searching_f : Searching z f root chains k i m.done (cell.0 ∷ cell.1)
    searching_f = search_kept z limits root chains k kr i now f _ m.done (cell.0 ∷ cell.1) searching key_now load.0
        (get_or-set_other (registers_of z now) 10 9 (Block cell.0.ephe) Nothing (λ e. absurd (omega arith)) ∙ searching.here)

    key_f : held_in z f kr ≡ Block k
    key_f = below_eight z first f kr few_key keeps_f ∙ held

    ephemeron : (key : Option Label) × (datum : Value) × (node_at (graph_of z f) cell.0.ephe ≡ Some (Ephe (key ∷ []) datum))
    ephemeron = weak_parts _ (cell_here z limits root chains k kr i f f r m.done cell.0 cell.1 searching_f).1.weak

    got : (key : Option Label) × (datum : Value) × After z f g [] (set (registers_of z f) 10 (key_value key)) × (s ≡ shown (key_value key)) × (node_at (graph_of z g) cell.0.ephe ≡ Some (Ephe (key ∷ []) datum))
    got = let t = get_key_step z limits f g s 10 cell.0.ephe ephemeron.0 ephemeron.1 ephe_f ephemeron.2 10 q in (t.0.key_now, t.0.datum_now, t.1, t.2, t.3)

    keeps_g : KeepsOthers z first g
    keeps_g = keeps_set z limits first f g 10 _ got.2.registers_are keeps_f (λ r a b c. c)

    key_g : held_in z g kr ≡ Block k
    key_g = below_eight z first g kr few_key keeps_g ∙ held

    eight_g : held_in z g 8 ≡ held_in z now 8
    eight_g = set_other z limits first f g 10 _ got.2.registers_are 8 (λ e. absurd (omega arith)) ∙ set_other z limits first now f 10 _ load.0.registers_are 8 (λ e. absurd (omega arith))

    searching_g : Searching z g root chains k i m.done (cell.0 ∷ cell.1)
    searching_g = search_kept z limits root chains k kr i f g _ m.done (cell.0 ∷ cell.1) searching_f key_f got.2
        (get_or-set_other (registers_of z f) 10 9 (key_value got.0) Nothing (λ e. absurd (omega arith)) ∙ searching_f.here)

    reads_g : Reads z first g root chains
    reads_g = reads_on z first f g _ root chains (reads_on z first now f _ root chains m.reads load.0) got.2

    -- the cell's ephemeron goes into register 8
    module _ (h : List Entry) (u : Reply) (w : Performed z g h (Load 8 9 0) u) where
      mine : After z g h [] (set (registers_of z g) 8 (Block cell.0.ephe)) × (u ≡ reply.Block cell.0.ephe)
      mine = search_ephe z limits root chains k kr i g h u m.done cell.0 cell.1 searching_g 8 w

      keeps_h : KeepsOthers z first h
      keeps_h = keeps_set z limits first g h 8 _ mine.0.registers_are keeps_g (λ r a b c. a)

      ephe_h : held_in z h 8 ≡ Block cell.0.ephe
      ephe_h = set_here z limits first g h 8 _ mine.0.registers_are (omega arith)

      searching_h : Searching z h root chains k i m.done (cell.0 ∷ cell.1)
      searching_h = search_kept z limits root chains k kr i g h _ m.done (cell.0 ∷ cell.1) searching_g key_g mine.0
          (get_or-set_other (registers_of z g) 8 9 (Block cell.0.ephe) Nothing (λ e. absurd (omega arith)) ∙ searching_g.here)

      reads_h : Reads z first h root chains
      reads_h = reads_on z first g h _ root chains reads_g mine.0

      -- a key that a register holds stays
      kept_key : Thin (Went z g h) (Ephe (Some k ∷ []) got.1) (node_at (graph_of z h) cell.0.ephe) → node_at (graph_of z h) cell.0.ephe ≡ Some (Ephe (Some k ∷ []) got.1)
      kept_key (inl same) = same
      kept_key (inr (l, is, gone, empty)) = absurd (let same : k ≡ l = cc in held_stays z g h kr k key_g (subst (Went z g h) (sym same) gone))

      -- the key was found
      pub midst_found : s ≡ reply.Block k → Found z first h root chains k (Some k)
      midst_found is =
          let key_is : got.0 ≡ Some k = this_key k got.0 (sym got.3 ∙ is) in
          let at_g : node_at (graph_of z g) cell.0.ephe ≡ Some (Ephe (Some k ∷ []) got.1) = got.4 ∙ ap (λ o. Some (Ephe (o ∷ []) got.1)) key_is in record {
            reads = reads_h;
            keeps = keeps_h;
            done = m.done;
            cell = cell.0;
            rest = cell.1;
            datum = got.1;
            holding = found_holding z h root chains k i m.done cell.0 cell.1 got.1 searching_h refl (kept_key (mine.0.changes cell.0.ephe _ at_g refl));
            ephe = ephe_h;
          }

    -- an ephemeron that has a key now had it at the start
    first_cell : (v : Value) × IsCell (graph_of z first) cell.0 v × Links (graph_of z first) v cell.1
    first_cell = (links_behind (graph_of z first) _ m.done (cell.0 ∷ cell.1) (subst (Links (graph_of z first) (get_or table.fields i Nothing)) searching.split (table.linked i searching.below))).1

    had_key : (key : Label) → got.0 ≡ Some key → IsTrue (has_key (graph_of z first) cell.0)
    had_key key is = let w = weak_parts _ first_cell.1.weak in go w.0 w.1 w.2 (reads_g.goes.changes cell.0.ephe _ w.2 refl)
      where
        go : (was : Option Label) (datum : Value) → node_at (graph_of z first) cell.0.ephe ≡ Some (Ephe (was ∷ []) datum) → Thin (WasOutside z first g) (Ephe (was ∷ []) datum) (node_at (graph_of z g) cell.0.ephe) → IsTrue (has_key (graph_of z first) cell.0)
        go (Some l) datum at thin = subst (λ (o : Option Node). IsTrue (is_some (key_of o))) (sym at) refl
        go None datum at (inl same) = let clash : Some (Ephe (None ∷ []) datum) ≡ Some (Ephe (Some key ∷ []) got.1) = sym same ∙ (got.4 ∙ ap (λ o. Some (Ephe (o ∷ []) got.1)) is) in cc
        go None datum at (inr (l, full, gone, empty)) = let clash : ◌≡◌ {A = Option Label} None (Some l) = full in cc

    -- the cell is passed: it doesn't bind the key, and what was met besides is noted
    abbrev Passed : List Entry → Bool → Type 0
    Passed h b = Reads z first h root chains × KeepsOthers z first h × Searching z h root chains k i m.done (cell.0 ∷ cell.1) × (datum_at (binding_of (node_at (graph_of z h) cell.0.ephe)) k ≡ None) × SpareOf z first h (m.done ++ cell.0 ∷ []) b

    shown_key : (key : Option Label) → shown (key_value key) ≢ reply.Empty → (l : Label) × (key ≡ Some l)
    shown_key None full = absurd (full refl)
    shown_key (Some l) full = (l, refl)

    shown_empty : (key : Option Label) → shown (key_value key) ≡ reply.Empty → key ≡ None
    shown_empty None is = refl
    shown_empty (Some l) is = cc

    still_noted : (b : Bool) → SpareOf z first now m.done b → (b ≡ true) ⊎ (s ≢ reply.Empty) → SpareOf z first g (m.done ++ cell.0 ∷ []) b
    still_noted true x none = spare_longer z g m.done cell.0 (spare_kept z f g _ got.2 (set_other z limits first f g 10 _ got.2.registers_are 8 (λ e. absurd (omega arith))) m.done
        (spare_kept z now f _ load.0 (set_other z limits first now f 10 _ load.0.registers_are 8 (λ e. absurd (omega arith))) m.done x))
    still_noted false x (inl is) = let clash : false ≡ true = is in cc
    still_noted false x (inr full) = let key = shown_key got.0 (λ e. full (got.3 ∙ e)) in all_longer (has_key (graph_of z first)) m.done cell.0 x (had_key key.0 key.1)

    passed_by : (spare ≡ true) ⊎ (s ≢ reply.Empty) → (s ≡ reply.Block k → ⊥) → Passed g spare
    passed_by none other = (
      reads_g,
      keeps_g,
      searching_g,
      ap (λ o. datum_at (binding_of o) k) got.4 ∙ other_key k got.0 got.1 (λ same. other (got.3 ∙ same)),
      still_noted spare m.spare_is none,
    )

    noted : (h : List Entry) (u : Reply) → Performed z g h (Load 8 9 0) u → s ≡ reply.Empty → Passed h true
    noted h u w empty =
        let none : got.0 ≡ None = shown_empty got.0 (sym got.3 ∙ empty) in
        let at_g : node_at (graph_of z g) cell.0.ephe ≡ Some (Ephe (None ∷ []) got.1) = got.4 ∙ ap (λ o. Some (Ephe (o ∷ []) got.1)) none in
        let at_h : node_at (graph_of z h) cell.0.ephe ≡ Some (Ephe (None ∷ []) got.1) = empty_stays (Went z g h) got.1 _ ((mine h u w).0.changes cell.0.ephe _ at_g refl) in (
          reads_h h u w,
          keeps_h h u w,
          searching_h h u w,
          ap (λ o. datum_at (binding_of o) k) at_h,
          record { before = m.done; cell = cell.0; behind = []; split = refl; datum = got.1; empty = at_h; held = ephe_h h u w },
        )

    passed : (h : List Entry) (b : Bool) → KeepsSpare z g h s spare b → (s ≡ reply.Block k → ⊥) → Passed h b
    passed h b (inl (same, is, none)) other = subst (λ (x : List Entry × Bool). Passed x.0 x.1) (λ j. (sym same j, sym is j)) (passed_by none other)
    passed h b (inr (none, empty, is, (u, w))) other = subst (Passed h) (sym is) (noted h u w empty)

    -- and the next cell is next
    pub midst_next : (h : List Entry) (b : Bool) → KeepsSpare z g h s spare b → (s ≡ reply.Block k → ⊥) → (l : List Entry) (u : Reply) → Performed z h l (Load 9 9 1) u → Midst z first l root chains k u b (many + 1)
    midst_next h b kept other l u w =
        let x = passed h b kept other in
        let t = search_next z limits root chains k kr i h l u m.done cell.0 cell.1 x.2 w in
        let nine : get_or (set (registers_of z h) 9 (head_of cell.1)) 9 Nothing ≡ head_of cell.1 = get_or-set_same (registers_of z h) 9 _ Nothing (let all = sixteen z limits h in omega (arith, all)) in
        let key_h : held_in z h kr ≡ Block k = below_eight z first h kr few_key x.1 ∙ held in record {
          reads = reads_on z first h l _ root chains x.0 t.0;
          keeps = keeps_set z limits first h l 9 _ t.0.registers_are x.1 (λ r a b c. b);
          done = m.done ++ cell.0 ∷ [];
          rest = cell.1;
          searching = search_passes z limits root chains k kr i h l u m.done cell.0 cell.1 x.2 _ key_h x.3 t.0 nine;
          shows = t.1;
          spare_is = later b x.4 t.0 (set_other z limits first h l 9 _ t.0.registers_are 8 (λ e. absurd (omega arith)));
          passed_is = length-append m.done (cell.0 ∷ []) ∙ ap (λ (n : ℕ). n + 1) m.passed_is;
        }
      where
        later : (b : Bool) → SpareOf z first h (m.done ++ cell.0 ∷ []) b → After z h l [] (set (registers_of z h) 9 (head_of cell.1)) → held_in z l 8 ≡ held_in z h 8 → SpareOf z first l (m.done ++ cell.0 ∷ []) b
        later true x a same = spare_kept z h l _ a same (m.done ++ cell.0 ∷ []) x
        later false x a same = x

-- what a search has met, for a look-up of the key alone
pub met_key : (z : Sizes) (limits : IsWithinLimits z) (first now : List Entry) (root : Label) (chains : List (List Cell)) (k : Label) (find : Find) → Met z first now root chains k find → find ≢ Key → Missed z first now root chains k
met_key z limits first now root chains k Key x other = absurd (other refl)
met_key z limits first now root chains k Nowhere x other = x.0
met_key z limits first now root chains k Spare x other = record {
  reads = x.reads;
  keeps = x.keeps;
  none = holding_datum z limits root chains k 0 (k.serial % bucket_count) x.done x.cell x.rest now None x.datum x.holding;
}
