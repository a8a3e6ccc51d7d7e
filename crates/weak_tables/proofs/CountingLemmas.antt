-- What `table_count` leaves, command by command.
use Rattle.std.proofs.Common.{◌≡◌, ℕ, zero, suc, ◌+◌, ◌<◌, ◌≤◌, true, false, IsTrue, List, [], ◌∷◌, ◌++◌, length, get_or, set, take, Option, Some, None, refl, ap, sym, ◌∙◌, subst, arith, append-nil, append_assoc, length-append, get_or-set_same, get_or-set_other}
use Rattle.std.proofs.lemmas.Grind.{flat_map-append}
use Rattle.model_core.specs.declared.label.Label.{Label}
use Rattle.model_core.specs.declared.command.Command.TheVariants.{Load, CheckKey}
use Rattle.model_core.specs.declared.entry.Entry.{Entry}
use Rattle.model_core.specs.declared.reply.Reply.{Reply}
use Rattle.model_core.specs.declared.reply.Reply.TheVariants as reply
use Rattle.model_core.specs.declared.graph.Value.{Value}
use Rattle.model_core.specs.declared.graph.Value.TheVariants.{Block, Nothing}
use Rattle.model_core.specs.declared.graph.Node.TheVariants.{Ephe}
use Rattle.model_core.specs.declared.state.Sizes.{Sizes}
use Rattle.model_core.specs.Graph.{Graph, node_at}
use Rattle.model_core.specs.Domains.{IsWithinLimits}
use Rattle.model_core.specs.History.{Legal}
use Rattle.weak_laws.specs.Tables.Structures.{Binding, Cell, bucket_count, is_weak, bound, binding_of, chain_bindings, bindings, head_of, IsCell, Links, IsTable}
use Rattle.weak_laws.specs.Tables.Thinning.{ThinnedBy, WasOutside, Went}
use Rattle.weak_laws.specs.Tables.Performing.{Performed, After, registers_of}
use Rattle.weak_laws.specs.Tables.Stages.{Goes, Walking, Declines, graph_of, held_in}
use Rattle.weak_laws.proofs.OfTables.ChangeLemmas.{weak_kept, chain_thinned}
use Rattle.weak_laws.proofs.OfTables.CellLemmas.{links_behind}
use Rattle.weak_laws.proofs.OfTables.CountLemmas.{declines_both, declines_equal}
use Rattle.weak_laws.proofs.OfTables.OutcomeLemmas.{full_reply}
use Rattle.weak_laws.proofs.OfTables.StageLemmas.{goes_from, goes_reading, search_begins}
use Rattle.weak_laws.proofs.OfTables.WalkLemmas.{thinned_length, reading_declines, walk_kept, walk_ephe, walk_next, walk_check, walk_passes}
use Rattle.weak_tables.specs.Commands.{IsBlock, one_of}
use Rattle.weak_tables.specs.Held.{KeepsOthers, HoldsTable, Reads, Cleared}
use Rattle.weak_tables.specs.Walks.{Counting, Counted, CountedAt, CountedTo}
use Rattle.weak_tables.specs.Tables.{Counts}
use Rattle.weak_tables.proofs.SearchLemmas.{sixteen, set_here, keeps_set, below_eight, keeps_all, reads_on, reads_from, shown_block, shown_none}
use Rattle.weak_tables.proofs.TakeLemmas.{same_registers, cleared_clean, cleared_keeps, cleared_goes, cleared_reads}
use Rattle.weak_tables.proofs.PutLemmas.{goes_both, thinned_both}

-- a command that writes no block
goes_after : (z : Sizes) (a b : List Entry) (rs : List Value) → Legal z a → After z a b [] rs → Goes z a b []
goes_after z a b rs legal after = goes_reading z a a b [] rs (goes_from z a [] legal) after

one_bound : (key : Option Label) (datum : Value) → one_of (full_reply key) ≡ length (bound key datum)
one_bound None datum = refl
one_bound (Some k) datum = refl

-- the front cells of a chain
links_front : (g : Graph) (v : Value) (a b : List Cell) → Links g v (a ++ b) → (c : Cell) → (rest : List Cell) → b ≡ c ∷ rest → (w : Value) × IsCell g c w
links_front g v a b links c rest is = let t = (links_behind g v a (c ∷ rest) (subst (λ cs. Links g v (a ++ cs)) is links)).1 in (t.0, t.1)

front_length : (P : Label → Type 0) (g h : Graph) → ((e : Label) → IsTrue (is_weak (node_at g e)) → ThinnedBy P (binding_of (node_at g e)) (binding_of (node_at h e))) → (v : Value) (a b : List Cell) → Links g v (a ++ b)
    → length (chain_bindings h a) ≤ length (chain_bindings g a)
front_length P g h each v [] b links = omega arith
front_length P g h each v (c ∷ a) b (here, (next, cell, later)) =
    let first = thinned_length P _ _ (each c.ephe cell.weak) in
    let rest = front_length P g h each next a b later in
    let before = length-append (binding_of (node_at g c.ephe)) (chain_bindings g a) in
    let after = length-append (binding_of (node_at h c.ephe)) (chain_bindings h a) in
    omega (arith, first, rest, before, after)

one_more : (g : Graph) (done : List Cell) (c : Cell) → length (chain_bindings g (done ++ c ∷ [])) ≡ length (chain_bindings g done) + length (binding_of (node_at g c.ephe))
one_more g done c =
    let split = flat_map-append (λ x. binding_of (node_at g x.ephe)) done (c ∷ []) in
    let sum = length-append (chain_bindings g done) (chain_bindings g (c ∷ [])) in
    let last : chain_bindings g (c ∷ []) ≡ binding_of (node_at g c.ephe) = append-nil (binding_of (node_at g c.ephe)) in
    ap length split ∙ sum ∙ ap (λ (bs : List Binding). length (chain_bindings g done) + length bs) last

chain_of_all : (g : Graph) (css : List (List Cell)) (i : ℕ) → length (chain_bindings g (get_or css i [])) ≤ length (bindings g css)
chain_of_all g [] i = omega arith
chain_of_all g (cs ∷ css) zero = let sum = length-append (chain_bindings g cs) (bindings g css) in omega (arith, sum)
chain_of_all g (cs ∷ css) (suc i) = let sum = length-append (chain_bindings g cs) (bindings g css) in let rest = chain_of_all g css i in omega (arith, sum, rest)

module _ (z : Sizes) (limits : IsWithinLimits z) (root : Label) (chains : List (List Cell)) (tr i : ℕ) (few : tr < 8) (first : List Entry) where
  pub counting_begins : (now : List Entry) (r : Reply) → Legal z first → i < bucket_count → held_in z first tr ≡ Block root → IsTable (graph_of z first) root chains → Performed z first now (Load 9 tr i) r → Counting z first now root chains i r 0 0
  counting_begins now r legal below holds table p =
      let t = search_begins z limits root chains root 0 i first now r tr below table holds p in
      let reads = reads_on z first first now _ root chains (reads_from z first root chains legal table) t.0 in record {
        reads = reads;
        keeps = keeps_set z limits first first now 9 _ t.0.registers_are (keeps_all z first) (λ r a b c. b);
        declines = reading_declines z limits first now (Load 9 tr i) r p (λ s. refl) root chains table;
        done = [];
        rest = get_or chains i [];
        walking = record { table = reads.table; below = below; split = refl; here = set_here z limits first first now 9 _ t.0.registers_are (omega arith) };
        shows = t.1;
        low = omega arith;
        high = omega arith;
        passed_is = refl;
      }

  pub counting_ends : (now : List Entry) (at : Reply) (count many : ℕ) → Counting z first now root chains i at count many → (IsBlock at → ⊥) → Counted z first now root chains i count
  counting_ends now at count many x none =
      let ends : x.rest ≡ [] = shown_none x.rest (λ is. none (subst IsBlock (sym x.shows) is)) in
      let whole : x.done ≡ get_or chains i [] = sym (x.walking.split ∙ (ap (λ (cs : List Cell). x.done ++ cs) ends ∙ append-nil x.done)) in record {
        reads = x.reads;
        keeps = x.keeps;
        declines = x.declines;
        low = subst (λ (cs : List Cell). length (chain_bindings (graph_of z now) cs) ≤ count) whole x.low;
        high = subst (λ (cs : List Cell). count ≤ length (chain_bindings (graph_of z first) cs)) whole x.high;
      }

  module _ (table : IsTable (graph_of z first) root chains) (now f g : List Entry) (at r s : Reply) (count many : ℕ) (x : Counting z first now root chains i at count many) (block : IsBlock at) (p : Performed z now f (Load 8 9 0) r) (q : Performed z f g (CheckKey 8 0) s) where
    cell : (c : Cell) × (cs : List Cell) × (x.rest ≡ c ∷ cs)
    cell = shown_block x.rest (subst IsBlock x.shows block)

    walking : Walking z now root chains i x.done (cell.0 ∷ cell.1)
    walking = subst (λ (cs : List Cell). Walking z now root chains i x.done cs) cell.2 x.walking

    load : After z now f [] (set (registers_of z now) 8 (Block cell.0.ephe)) × (r ≡ reply.Block cell.0.ephe)
    load = walk_ephe z limits root chains i now f r x.done cell.0 cell.1 walking p

    walking_f : Walking z f root chains i x.done (cell.0 ∷ cell.1)
    walking_f = walk_kept z limits root chains i now f _ x.done (cell.0 ∷ cell.1) walking load.0 (get_or-set_other (registers_of z now) 8 9 (Block cell.0.ephe) Nothing (λ e. absurd (omega arith)) ∙ walking.here)

    check : (key : Option Label) × (datum : Value) × After z f g [] (registers_of z f) × (s ≡ full_reply key) × (node_at (graph_of z g) cell.0.ephe ≡ Some (Ephe (key ∷ []) datum))
    check = walk_check z limits root chains i f g s x.done cell.0 cell.1 walking_f (set_here z limits first now f 8 _ load.0.registers_are (omega arith)) q

    walking_g : Walking z g root chains i x.done (cell.0 ∷ cell.1)
    walking_g = walk_kept z limits root chains i f g _ x.done (cell.0 ∷ cell.1) walking_f check.2 walking_f.here

    reads_f : Reads z first f root chains
    reads_f = reads_on z first now f _ root chains x.reads load.0

    reads_g : Reads z first g root chains
    reads_g = reads_on z first f g _ root chains reads_f check.2

    keeps_g : KeepsOthers z first g
    keeps_g = same_registers z first f g (keeps_set z limits first now f 8 _ load.0.registers_are x.keeps (λ r a b c. a)) check.2.registers_are

    declines_g : Declines z first g chains
    declines_g = declines_both z chains first f g reads_f.goes (goes_after z f g _ reads_f.goes.legal check.2)
        (declines_both z chains first now f x.reads.goes (goes_after z now f _ x.reads.goes.legal load.0) x.declines (reading_declines z limits now f (Load 8 9 0) r p (λ s. refl) root chains x.reads.table))
        (reading_declines z limits f g (CheckKey 8 0) s q (λ s. refl) root chains reads_f.table)

    -- the cell as it was at the start
    cell_first : (w : Value) × IsCell (graph_of z first) cell.0 w
    cell_first = links_front (graph_of z first) _ x.done (cell.0 ∷ cell.1) (subst (Links (graph_of z first) (get_or table.fields i Nothing)) walking.split (table.linked i walking.below)) cell.0 cell.1 refl

    here : one_of s ≡ length (binding_of (node_at (graph_of z g) cell.0.ephe))
    here = ap one_of check.3 ∙ one_bound check.0 check.1 ∙ ap (λ o. length (binding_of o)) (sym check.4)

    high_cell : one_of s ≤ length (binding_of (node_at (graph_of z first) cell.0.ephe))
    high_cell =
        let less = thinned_length (WasOutside z first g) _ _ (weak_kept (WasOutside z first g) [] (graph_of z first) (graph_of z g) reads_g.goes.changes cell.0.ephe refl cell_first.1.weak).1 in
        omega (arith, here, less)

    high : count + one_of s ≤ length (chain_bindings (graph_of z first) (x.done ++ cell.0 ∷ []))
    high = let sum = one_more (graph_of z first) x.done cell.0 in let before = x.high in omega (arith, sum, before, high_cell)

    pub counting_fits : count + one_of s ≤ length (bindings (graph_of z first) chains)
    counting_fits =
        let g0 = graph_of z first in
        let all : length (chain_bindings g0 (get_or chains i [])) ≤ length (bindings g0 chains) = chain_of_all g0 chains i in
        let split : chain_bindings g0 (get_or chains i []) ≡ chain_bindings g0 (x.done ++ cell.0 ∷ []) ++ chain_bindings g0 cell.1 =
        ap (chain_bindings g0) (walking.split ∙ sym (append_assoc x.done (cell.0 ∷ []) cell.1)) ∙ flat_map-append (λ y. binding_of (node_at g0 y.ephe)) (x.done ++ cell.0 ∷ []) cell.1 in
        let sum : length (chain_bindings g0 (get_or chains i [])) ≡ length (chain_bindings g0 (x.done ++ cell.0 ∷ [])) + length (chain_bindings g0 cell.1) = ap length split ∙ length-append (chain_bindings g0 (x.done ++ cell.0 ∷ [])) (chain_bindings g0 cell.1) in
        omega (arith, all, sum, high)

    pub counting_round : (h : List Entry) (u : Reply) → Performed z g h (Load 9 9 1) u → Counting z first h root chains i u (count + one_of s) (many + 1)
    counting_round h u w =
        let t = walk_next z limits root chains i g h u x.done cell.0 cell.1 walking_g w in
        let nine : get_or (set (registers_of z g) 9 (head_of cell.1)) 9 Nothing ≡ head_of cell.1 = get_or-set_same (registers_of z g) 9 _ Nothing (let all = sixteen z limits g in omega (arith, all)) in
        let passed = walk_passes z limits root chains i g h u x.done cell.0 cell.1 walking_g _ t.0 nine in
        let low_done = front_length (Went z now f) (graph_of z now) (graph_of z f) (λ e weak. (weak_kept (Went z now f) [] (graph_of z now) (graph_of z f) load.0.changes e refl weak).1) _ x.done (cell.0 ∷ cell.1) (links_at now walking) in
        let low_more = front_length (Went z f g) (graph_of z f) (graph_of z g) (λ e weak. (weak_kept (Went z f g) [] (graph_of z f) (graph_of z g) check.2.changes e refl weak).1) _ x.done (cell.0 ∷ cell.1) (links_at f walking_f) in
        let low_all = front_length (Went z g h) (graph_of z g) (graph_of z h) (λ e weak. (weak_kept (Went z g h) [] (graph_of z g) (graph_of z h) t.0.changes e refl weak).1) _ (x.done ++ cell.0 ∷ []) cell.1 (links_split g walking_g) in
        let sum_g = one_more (graph_of z g) x.done cell.0 in
        let before = x.low in record {
          reads = reads_on z first g h _ root chains reads_g t.0;
          keeps = keeps_set z limits first g h 9 _ t.0.registers_are keeps_g (λ r a b c. b);
          declines = declines_both z chains first g h reads_g.goes (goes_after z g h _ reads_g.goes.legal t.0) declines_g (reading_declines z limits g h (Load 9 9 1) u w (λ s. refl) root chains reads_g.table);
          done = x.done ++ cell.0 ∷ [];
          rest = cell.1;
          walking = passed;
          shows = t.1;
          low = omega (arith, low_done, low_more, low_all, sum_g, before, here);
          high = high;
          passed_is = length-append x.done (cell.0 ∷ []) ∙ ap (λ (n : ℕ). n + 1) x.passed_is;
        }
      where
        links_at : (h : List Entry) → (s : Walking z h root chains i x.done (cell.0 ∷ cell.1)) → Links (graph_of z h) (get_or s.table.fields i Nothing) (x.done ++ cell.0 ∷ cell.1)
        links_at h s = subst (Links (graph_of z h) (get_or s.table.fields i Nothing)) s.split (s.table.linked i s.below)

        links_split : (h : List Entry) → (s : Walking z h root chains i x.done (cell.0 ∷ cell.1)) → Links (graph_of z h) (get_or s.table.fields i Nothing) ((x.done ++ cell.0 ∷ []) ++ cell.1)
        links_split h s = subst (Links (graph_of z h) (get_or s.table.fields i Nothing)) (s.split ∙ sym (append_assoc x.done (cell.0 ∷ []) cell.1)) (s.table.linked i s.below)

-- bucket after bucket
take_one : (css : List (List Cell)) (i : ℕ) → i < length css → (g : Graph) → length (bindings g (take (suc i) css)) ≡ length (bindings g (take i css)) + length (chain_bindings g (get_or css i []))
take_one [] i below g = absurd (omega arith)
take_one (cs ∷ css) zero below g = let sum = length-append (chain_bindings g cs) [] in omega (arith, sum)
take_one (cs ∷ css) (suc i) below g =
    let rest = take_one css i (omega arith) g in
    let left = length-append (chain_bindings g cs) (bindings g (take (suc i) css)) in
    let right = length-append (chain_bindings g cs) (bindings g (take i css)) in
    omega (arith, rest, left, right)

take_less : (g h : Graph) (css : List (List Cell)) (i : ℕ) → ((t : ℕ) → t < length css → length (chain_bindings h (get_or css t [])) ≤ length (chain_bindings g (get_or css t []))) → length (bindings h (take i css)) ≤ length (bindings g (take i css))
take_less g h [] zero each = omega arith
take_less g h [] (suc i) each = omega arith
take_less g h (cs ∷ css) zero each = omega arith
take_less g h (cs ∷ css) (suc i) each =
    let first = each zero (omega arith) in
    let rest = take_less g h css i (λ t below. each (suc t) (omega arith)) in
    let left = length-append (chain_bindings h cs) (bindings h (take i css)) in
    let right = length-append (chain_bindings g cs) (bindings g (take i css)) in
    omega (arith, first, rest, left, right)

take_some : (g : Graph) (css : List (List Cell)) (i : ℕ) → length (bindings g (take i css)) ≤ length (bindings g css)
take_some g [] zero = omega arith
take_some g [] (suc i) = omega arith
take_some g (cs ∷ css) zero = omega arith
take_some g (cs ∷ css) (suc i) =
    let rest = take_some g css i in
    let left = length-append (chain_bindings g cs) (bindings g (take i css)) in
    let right = length-append (chain_bindings g cs) (bindings g css) in
    omega (arith, rest, left, right)

take_whole : (css : List (List Cell)) (i : ℕ) → i ≡ length css → take i css ≡ css
take_whole [] zero same = refl
take_whole [] (suc i) same = absurd (omega arith)
take_whole (cs ∷ css) zero same = absurd (omega arith)
take_whole (cs ∷ css) (suc i) same = ap (λ (l : List (List Cell)). cs ∷ l) (take_whole css i (omega arith))

module _ (z : Sizes) (limits : IsWithinLimits z) (root : Label) (chains : List (List Cell)) (old : List Entry) where
  chain_less : (a b : List Entry) (t : ℕ) → IsTable (graph_of z a) root chains → Reads z a b root chains → t < length chains → length (chain_bindings (graph_of z b) (get_or chains t [])) ≤ length (chain_bindings (graph_of z a) (get_or chains t []))
  chain_less a b t table x below =
      thinned_length (WasOutside z a b) _ _ (chain_thinned (WasOutside z a b) [] (graph_of z a) (graph_of z b) x.goes.changes _ _ (λ l h. refl) (table.linked t (subst (λ n. t < n) table.count below)))

  pub counted_none : Legal z old → IsTable (graph_of z old) root chains → CountedTo z old old root chains 0 0
  counted_none legal table = record {
    reads = reads_from z old root chains legal table;
    keeps = keeps_all z old;
    declines = declines_equal z chains old old legal (goes_from z old [] legal) refl;
    low = nothing chains;
    high = omega arith;
  } where
    nothing : (css : List (List Cell)) → length (bindings (graph_of z old) (take 0 css)) ≤ 0
    nothing [] = omega arith
    nothing (cs ∷ css) = omega arith

  module _ (table : IsTable (graph_of z old) root chains) (f g : List Entry) (i n m : ℕ) (below : i < bucket_count) (x : CountedTo z old f root chains i n) (y : Counted z f g root chains i m) where
    inside : i < length chains
    inside = subst (λ k. i < k) (sym table.count) below

    high_next : n + m ≤ length (bindings (graph_of z old) (take (suc i) chains))
    high_next =
        let sum = take_one chains i inside (graph_of z old) in
        let less = chain_less old f i table x.reads inside in
        let a = x.high in
        let b = y.high in
        omega (arith, sum, less, a, b)

    pub counted_fits : n + m ≤ length (bindings (graph_of z old) chains)
    counted_fits = let some = take_some (graph_of z old) chains (suc i) in omega (arith, some, high_next)

    pub counted_next : CountedTo z old g root chains (suc i) (n + m)
    counted_next =
        let sum = take_one chains i inside (graph_of z g) in
        let less = take_less (graph_of z f) (graph_of z g) chains i (λ t few. chain_less f g t x.reads.table y.reads few) in
        let a = x.low in
        let b = y.low in record {
          reads = record {
            goes = goes_both z old f g x.reads.goes.grows y.reads.goes.grows [] [] x.reads.goes y.reads.goes (λ l h. absurd (let clash : false ≡ true = h in cc));
            table = y.reads.table;
            thinned = thinned_both z old f g x.reads.goes.grows y.reads.goes.grows _ _ _ x.reads.thinned y.reads.thinned;
          };
          keeps = λ r p q s. y.keeps r p q s ∙ x.keeps r p q s;
          declines = declines_both z chains old f g x.reads.goes y.reads.goes x.declines y.declines;
          low = omega (arith, sum, less, a, b);
          high = high_next;
        }

  pub counted_all : IsTable (graph_of z old) root chains → (f new : List Entry) (n : ℕ) → CountedTo z old f root chains bucket_count n → Cleared z f new → Counts z old new root chains n
  counted_all table f new n x c =
      let whole : take bucket_count chains ≡ chains = take_whole chains bucket_count (sym table.count) in
      let low : length (bindings (graph_of z f) chains) ≤ n = subst (λ (css : List (List Cell)). length (bindings (graph_of z f) css) ≤ n) whole x.low in
      let high : n ≤ length (bindings (graph_of z old) chains) = subst (λ (css : List (List Cell)). n ≤ length (bindings (graph_of z old) css)) whole x.high in
      let t = x.declines n low high in record {
        leaves = record { reads = cleared_reads z limits f new c root chains old x.reads; clean = cleared_clean z limits f new c };
        keeps = cleared_keeps z limits f new c old x.keeps;
        front = t.0;
        before = t.1;
        behind = cleared_goes z limits f new c t.0 [] t.2;
        number = t.3;
        many = high;
        few =
            let after = cleared_reads z limits f new c root chains f (reads_from z f root chains x.reads.goes.legal x.reads.table) in
            let less = thinned_length (WasOutside z f new) (bindings (graph_of z f) chains) (bindings (graph_of z new) chains) after.thinned in
            omega (arith, low, less);
      }

-- at a later front the table is held, and is no larger
pub counted_holds : (z : Sizes) (old f : List Entry) (root : Label) (chains : List (List Cell)) (tr i n : ℕ) → tr < 8 → held_in z old tr ≡ Block root → CountedTo z old f root chains i n → HoldsTable z f tr
counted_holds z old f root chains tr i n few held x = record { root = root; chains = chains; held = below_eight z old f tr few x.keeps ∙ held; table = x.reads.table }

-- the next bucket was counted in the table that is left
pub counted_here : (z y : Sizes) (old f new : List Entry) (root : Label) (chains : List (List Cell)) (tr i n m : ℕ) → y ≡ z → tr < 8 → held_in z old tr ≡ Block root → CountedTo z old f root chains i n → CountedAt y f new tr i m → Counted z f new root chains i m
counted_here z y old f new root chains tr i n m sizes few held x counted =
    subst (λ (w : Sizes). CountedAt w f new tr i m) sizes counted root chains (below_eight z old f tr few x.keeps ∙ held) x.reads.table
