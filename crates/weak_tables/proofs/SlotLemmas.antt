-- What `weak_get` and `weak_set` leave.
use Rattle.std.proofs.Common.{◌≡◌, ◌⊎◌, inl, inr, ⊎_elim, ℕ, zero, suc, ◌<◌, ◌≤◌, true, false, not, IsTrue, List, [], ◌∷◌, map, length, set, slice_get, Option, Some, None, refl, ap, sym, ◌∙◌, subst, arith}
use Rattle.model_core.specs.declared.label.Label.{Label}
use Rattle.model_core.specs.declared.command.Command.TheVariants.{Load, SetKey, GetKey}
use Rattle.model_core.specs.declared.entry.Entry.{Entry}
use Rattle.model_core.specs.declared.reply.Reply.{Reply}
use Rattle.model_core.specs.declared.reply.Reply.TheVariants as reply
use Rattle.model_core.specs.declared.graph.Value.{Value}
use Rattle.model_core.specs.Commands.{key_value}
use Rattle.model_core.specs.declared.graph.Value.TheVariants.{Int, Block, Nothing}
use Rattle.model_core.specs.declared.graph.Node.{Node}
use Rattle.model_core.specs.declared.graph.Node.TheVariants.{Plain, Raw, Ephe}
use Rattle.model_core.specs.declared.state.Sizes.{Sizes}
use Rattle.model_core.specs.Graph.{Graph, same_label, has_label, label_of, node_at}
use Rattle.model_core.specs.Domains.{IsWithinLimits}
use Rattle.model_core.specs.History.{IsPrefix, Legal}
use Rattle.model_core.proofs.Graphs.GraphLemmas.{same_label-true}
use Rattle.model_core.proofs.Reach.ReachLemmas.{or_cases, or_right, and_right}
use Rattle.weak_laws.specs.Tables.Structures.{is_weak, key_of, IsWeakArray, slot_keys}
use Rattle.weak_laws.specs.Tables.Thinning.{EmptiedBy, Thin, WasOutside, Went}
use Rattle.weak_laws.specs.Tables.Performing.{Performed, After, registers_of}
use Rattle.weak_laws.specs.Tables.Stages.{Goes, graph_of, held_in}
use Rattle.weak_laws.proofs.OfTables.ChangeLemmas.{array_kept, weak_parts}
use Rattle.weak_laws.proofs.OfTables.LawLemmas.{keys_emptied}
use Rattle.weak_laws.proofs.OfTables.ArrayLemmas.{slot_field, slot_weak, slot_there, slots_fields, array_changed, keys_changed, emptied_more, emptied_set, emptied_twice}
use Rattle.weak_laws.proofs.OfTables.StepLemmas.{load_step, load_past_step, get_key_step, set_key_step, set_key_type_step}
use Rattle.weak_laws.proofs.OfTables.StageLemmas.{goes_from, goes_on, goes_reading}
use Rattle.weak_tables.specs.Held.{Has, IsBare, KeepsOthers, IsClean, ReadsArray, Cleared}
use Rattle.weak_tables.specs.Arrays.{Spares, GetsSlot, SetsSlot, SlotAnswers, SetAnswers}
use Rattle.weak_tables.proofs.SearchLemmas.{set_here, set_other, keeps_set, below_eight, keeps_all}
use Rattle.weak_tables.proofs.TakeLemmas.{goes_wider, cleared_clean, cleared_keeps, cleared_goes, same_registers}
use Rattle.weak_tables.proofs.PutLemmas.{prefix_on, wider_left}
use Rattle.weak_tables.proofs.TidyLemmas.{bare_lasts, has_cleared, has_kept, has_once}

earlier : (z : Sizes) (first now new : List Entry) (k : Label) → IsPrefix first now → Went z now new k → WasOutside z first new k
earlier z first now new k grows w = record { front = w.was.front; since = prefix_on first now w.was.front grows w.was.since; until = w.was.until; outside = w.was.outside; entry = w.was.entry; through = w.was.through; taken = w.was.taken }

-- keys emptied in a call and then at one command
emptied_on : (z : Sizes) (first now new : List Entry) (a b c : List (Option Label)) → IsPrefix first now → IsPrefix now new → EmptiedBy (WasOutside z first now) a b → EmptiedBy (Went z now new) b c → EmptiedBy (WasOutside z first new) a c
emptied_on z first now new a b c before after t u = emptied_twice (WasOutside z first new) a b c
    (emptied_more (WasOutside z first now) (WasOutside z first new) (λ k w. wider_left z first now new before after k w) a b t)
    (emptied_more (Went z now new) (WasOutside z first new) (λ k w. earlier z first now new k before w) b c u)

emptied_same : (P : Label → Type 0) (a : List (Option Label)) → EmptiedBy P a a
emptied_same P [] = refl
emptied_same P (key ∷ a) = (key, a, refl, inl refl, emptied_same P a)

module _ (z : Sizes) (root : Label) (slots : List Label) where
  reads_from : (first : List Entry) → Legal z first → IsWeakArray (graph_of z first) root slots → ReadsArray z first first root slots
  reads_from first legal array = record { goes = goes_from z first [] legal; array = array; emptied = emptied_same (WasOutside z first first) _ }

  reads_on : (first now new : List Entry) (rs : List Value) → ReadsArray z first now root slots → After z now new [] rs → ReadsArray z first new root slots
  reads_on first now new rs x a = record {
    goes = goes_reading z first now new [] rs x.goes a;
    array = array_kept (Went z now new) [] (graph_of z now) (graph_of z new) a.changes root slots (λ l h. refl) x.array;
    emptied = emptied_on z first now new _ _ _ x.goes.grows a.grows x.emptied (keys_emptied (Went z now new) [] (graph_of z now) (graph_of z new) a.changes slots (λ l h. refl) x.array.weak);
  }

  reads_cleared : (first old new : List Entry) → ReadsArray z first old root slots → Cleared z old new → ReadsArray z first new root slots
  reads_cleared first old new x c = reads_on first c.second new _ (reads_on first c.first c.second _ (reads_on first old c.first _ x c.eight) c.nine) c.ten

pub past_end : (slots : List Label) (i : ℕ) → slice_get slots i ≡ None → length slots ≤ i
past_end [] i none = omega arith
past_end (x ∷ slots) zero none = cc
past_end (x ∷ slots) (suc i) none = let rest = past_end slots i none in omega arith

slot_key : (g : Graph) (slots : List Label) (i : ℕ) (e : Label) → slice_get slots i ≡ Some e → slice_get (slot_keys g slots) i ≡ Some (key_of (node_at g e))
slot_key g [] i e at = cc
slot_key g (x ∷ slots) zero e at = let same : x ≡ e = cc in ap (λ (l : Label). Some (key_of (node_at g l))) same
slot_key g (x ∷ slots) (suc i) e at = slot_key g slots i e at

-- a slot's key stays where it isn't one that may be taken
pub emptied_stays : (P : Label → Type 0) (i : ℕ) (a b : List (Option Label)) (key : Option Label) → EmptiedBy P a b → ((k : Label) → key ≡ Some k → P k → ⊥) → slice_get a i ≡ Some key → slice_get b i ≡ Some key
emptied_stays P i [] b key e kept at = cc
emptied_stays P zero (x ∷ a) b key (now, rest, is, inl same, later) kept at = let first : x ≡ key = cc in ap (λ (ks : List (Option Label)). slice_get ks 0) is ∙ ap Some (same ∙ first)
emptied_stays P zero (x ∷ a) b key (now, rest, is, inr (none, (k, was, gone)), later) kept at = absurd (let first : x ≡ key = cc in kept k (sym first ∙ was) gone)
emptied_stays P (suc i) (x ∷ a) b key (now, rest, is, here, later) kept at = ap (λ (ks : List (Option Label)). slice_get ks (suc i)) is ∙ emptied_stays P i a rest key later kept at

-- while a register below 8 holds it
module _ (z : Sizes) (limits : IsWithinLimits z) (root : Label) (slots : List Label) (old new : List Entry) (c : Cleared z old new) (index r : ℕ) (few : r < 8) (key : Option Label) (held : held_in z old r ≡ key_value key) where
  slot_after : (a b : List Entry) (rs : List Value) → After z a b [] rs → held_in z a r ≡ key_value key → IsWeakArray (graph_of z a) root slots → slice_get (slot_keys (graph_of z a) slots) index ≡ Some key → slice_get (slot_keys (graph_of z b) slots) index ≡ Some key
  slot_after a b rs after here array at =
      emptied_stays (Went z a b) index _ _ key (keys_emptied (Went z a b) [] (graph_of z a) (graph_of z b) after.changes slots (λ l h. refl) array.weak) (λ k is went. went.unheld 0 r (here ∙ ap key_value is)) at

  slot_cleared : IsWeakArray (graph_of z old) root slots → slice_get (slot_keys (graph_of z old) slots) index ≡ Some key → slice_get (slot_keys (graph_of z new) slots) index ≡ Some key
  slot_cleared array at =
      let h1 : held_in z c.first r ≡ key_value key = set_other z limits old old c.first 8 Nothing c.eight.registers_are r (λ e. absurd (omega arith)) ∙ held in
      let h2 : held_in z c.second r ≡ key_value key = set_other z limits old c.first c.second 9 Nothing c.nine.registers_are r (λ e. absurd (omega arith)) ∙ h1 in
      let a1 = array_kept (Went z old c.first) [] (graph_of z old) (graph_of z c.first) c.eight.changes root slots (λ l h. refl) array in
      let a2 = array_kept (Went z c.first c.second) [] (graph_of z c.first) (graph_of z c.second) c.nine.changes root slots (λ l h. refl) a1 in
      slot_after c.second new _ c.ten h2 a2 (slot_after c.first c.second _ c.nine h1 a1 (slot_after old c.first _ c.eight held array at))

-- an ephemeron without a datum gets none from the collector
bare_datum : (g : Graph) (e : Label) (key : Option Label) (datum : Value) → node_at g e ≡ Some (Ephe (key ∷ []) datum) → Has IsBare g e → datum ≡ Nothing
bare_datum g e key datum at x = let same : x.node ≡ Ephe (key ∷ []) datum = (let both : Some x.node ≡ Some (Ephe (key ∷ []) datum) = sym x.at ∙ at in cc) in subst IsBare same x.is

bare_left : (P : Label → Type 0) (key now : Option Label) (datum datum_now : Value) → Thin P (Ephe (key ∷ []) datum) (Some (Ephe (now ∷ []) datum_now)) → datum ≡ Nothing → datum_now ≡ Nothing
bare_left P key now datum datum_now thin none = ⊎_elim
    (λ same. (let is : datum_now ≡ datum = (let both : Ephe (now ∷ []) datum_now ≡ Ephe (key ∷ []) datum = cc in cc) in is ∙ none))
    (λ gone. (let is : Some (Ephe (now ∷ []) datum_now) ≡ Some (Ephe (None ∷ []) Nothing) = gone.3 in cc))
    thin

module _ (z : Sizes) (limits : IsWithinLimits z) (root : Label) (slots : List Label) (ar index : ℕ) (first f : List Entry) (r : Reply) (legal : Legal z first) (held : held_in z first ar ≡ Block root) (array : IsWeakArray (graph_of z first) root slots)
    (p : Performed z first f (Load 8 ar index) r) where
  -- no such slot
  pub slot_past : slice_get slots index ≡ None → (r ≡ reply.BadIndex) × Spares z first f root slots
  slot_past none =
      let few : length (map Block slots) ≤ index = subst (λ n. n ≤ index) (sym (slots_fields slots)) (past_end slots index none) in
      let t = load_past_step z limits first f r 8 ar index root array.tag (map Block slots) held array.node few p in
      (t.1, record { reads = reads_on z root slots first first f _ (reads_from z root slots first legal array) t.0; keeps = same_registers z first first f (keeps_all z first) t.0.registers_are })

  module _ (e : Label) (at : slice_get slots index ≡ Some e) where
    load : After z first f [] (set (registers_of z first) 8 (Block e)) × (r ≡ reply.Block e)
    load = load_step z limits first f r 8 ar index root array.tag (map Block slots) (Block e) held array.node (slot_field slots index e at) p

    pub slot_loaded : r ≡ reply.BadIndex → ⊥
    slot_loaded is = let clash : reply.Block e ≡ reply.BadIndex = sym load.1 ∙ is in cc

    reads_f : ReadsArray z first f root slots
    reads_f = reads_on z root slots first first f _ (reads_from z root slots first legal array) load.0

    keeps_f : KeepsOthers z first f
    keeps_f = keeps_set z limits first first f 8 _ load.0.registers_are (keeps_all z first) (λ r a b c. a)

    ephe_f : held_in z f 8 ≡ Block e
    ephe_f = set_here z limits first first f 8 _ load.0.registers_are (omega arith)

    node_f : (key : Option Label) × (datum : Value) × (node_at (graph_of z f) e ≡ Some (Ephe (key ∷ []) datum))
    node_f = weak_parts _ (slot_weak (graph_of z f) slots index e at reads_f.array.weak)

    module _ (g new : List Entry) (s : Reply) (c : Cleared z g new) where
      pub slot_read : (dst : ℕ) → dst < 8 → Performed z f g (GetKey dst 8 0) s → GetsSlot z first new root slots dst index s
      slot_read dst few q =
          let t = get_key_step z limits f g s 8 e node_f.0 node_f.1 ephe_f node_f.2 dst q in
          let reads_g = reads_on z root slots first f g _ reads_f t.1 in record {
            reads = reads_cleared z root slots first g new reads_g c;
            keeps = λ r x y w d. cleared_keeps z limits g new c g (keeps_all z g) r x y w ∙ (set_other z limits first f g dst _ t.1.registers_are r d ∙ keeps_f r x y w);
            clean = cleared_clean z limits g new c;
            front = g;
            since = reads_g.goes.grows;
            until = prefix_on g c.first new c.eight.grows (prefix_on c.first c.second new c.nine.grows c.ten.grows);
            key = t.0.key_now;
            slot = slot_key (graph_of z g) slots index e at ∙ ap (λ (o : Option Node). Some (key_of o)) t.3;
            still = slot_cleared z limits root slots g new c index dst few t.0.key_now (set_here z limits first f g dst _ t.1.registers_are (omega arith)) reads_g.array (slot_key (graph_of z g) slots index e at ∙ ap (λ (o : Option Node). Some (key_of o)) t.3);
            answers = t.2;
            holds = below_eight z g new dst few (cleared_keeps z limits g new c g (keeps_all z g)) ∙ set_here z limits first f g dst _ t.1.registers_are (omega arith);
          }

      pub slot_refused : (item : ℕ) → item < 8 → label_of (held_in z first item) ≡ None → Performed z f g (SetKey 8 0 item) s → (s ≡ reply.BadType) × Spares z first new root slots × IsClean z new
      slot_refused item few none q =
          let t = set_key_type_step z limits f g s 8 item (ap label_of (below_eight z first f item few keeps_f) ∙ none) q in
          let reads_g = reads_on z root slots first f g _ reads_f t.0 in
          (t.1, record { reads = reads_cleared z root slots first g new reads_g c; keeps = cleared_keeps z limits g new c first (same_registers z first f g keeps_f t.0.registers_are) }, cleared_clean z limits g new c)

      pub slot_set : (item : ℕ) (k : Label) → item < 8 → held_in z first item ≡ Block k → Performed z f g (SetKey 8 0 item) s → (s ≡ reply.Done) × SetsSlot z first new root slots index k
      slot_set item k few is q =
          let t = set_key_step z limits f g s 8 e node_f.0 node_f.1 ephe_f node_f.2 item k (below_eight z first f item few keeps_f ∙ is) q in
          let weak : IsTrue (is_weak (node_at (graph_of z f) e)) = slot_weak (graph_of z f) slots index e at reads_f.array.weak in
          let own : (l : Label) → IsTrue (has_label (e ∷ []) l) → IsTrue (has_label (root ∷ slots) l) ⊎ (node_at (graph_of z first) l ≡ None) =
          λ l mine. ⊎_elim (λ same. inl (subst (λ m. IsTrue (has_label (root ∷ slots) m)) (same_label-true e l same) (or_right (same_label root e) _ (slot_there slots index e at))))
          (λ no. absurd (let clash : false ≡ true = no in cc)) (or_cases (same_label e l) false mine) in
          let goes_f = goes_wider z first f [] (root ∷ slots) (λ l h. absurd (let clash : false ≡ true = h in cc)) reads_f.goes in
          let goes_g : Goes z first g (root ∷ slots) = goes_on z first f g (root ∷ slots) (e ∷ []) _ goes_f t.1 own in
          let array_g : IsWeakArray (graph_of z g) root slots = array_changed (Went z f g) (graph_of z f) (graph_of z g) e t.1.changes (Some k) t.0.datum_now t.3 root slots weak reads_f.array in
          let keys_g : EmptiedBy (Went z f g) (set (slot_keys (graph_of z f) slots) index (Some k)) (slot_keys (graph_of z g) slots) =
          keys_changed (Went z f g) (graph_of z f) (graph_of z g) e t.1.changes (Some k) t.0.datum_now t.3 slots index at (and_right (not (has_label slots root)) _ array.once) reads_f.array.weak in
          let before : EmptiedBy (WasOutside z first f) (set (slot_keys (graph_of z first) slots) index (Some k)) (set (slot_keys (graph_of z f) slots) index (Some k)) = emptied_set (WasOutside z first f) _ _ index (Some k) reads_f.emptied in
          let all_g = emptied_on z first f g _ _ _ goes_f.grows t.1.grows before keys_g in
          let goes_1 = goes_reading z first g c.first (root ∷ slots) _ goes_g c.eight in
          let goes_2 = goes_reading z first c.first c.second (root ∷ slots) _ goes_1 c.nine in
          let array_1 = array_kept (Went z g c.first) [] (graph_of z g) (graph_of z c.first) c.eight.changes root slots (λ l h. refl) array_g in
          let array_2 = array_kept (Went z c.first c.second) [] (graph_of z c.first) (graph_of z c.second) c.nine.changes root slots (λ l h. refl) array_1 in
          let keys_1 = emptied_on z first g c.first _ _ _ goes_g.grows c.eight.grows all_g (keys_emptied (Went z g c.first) [] (graph_of z g) (graph_of z c.first) c.eight.changes slots (λ l h. refl) array_g.weak) in
          let keys_2 = emptied_on z first c.first c.second _ _ _ goes_1.grows c.nine.grows keys_1 (keys_emptied (Went z c.first c.second) [] (graph_of z c.first) (graph_of z c.second) c.nine.changes slots (λ l h. refl) array_1.weak) in (
            t.2,
            record {
              goes = cleared_goes z limits g new c first (root ∷ slots) goes_g;
              keeps = cleared_keeps z limits g new c first (same_registers z first f g keeps_f t.1.registers_are);
              clean = cleared_clean z limits g new c;
              array = array_kept (Went z c.second new) [] (graph_of z c.second) (graph_of z new) c.ten.changes root slots (λ l h. refl) array_2;
              keys = emptied_on z first c.second new _ _ _ goes_2.grows c.ten.grows keys_2 (keys_emptied (Went z c.second new) [] (graph_of z c.second) (graph_of z new) c.ten.changes slots (λ l h. refl) array_2.weak);
              bare = λ before l there.
                  let start : (m : Label) → IsTrue (has_label slots m) → Has IsBare (graph_of z f) m =
                  λ m mine. has_kept IsBare bare_lasts (WasOutside z first f) [] (graph_of z first) (graph_of z f) reads_f.goes.changes m refl (before m mine) in
                  let datum : node_f.1 ≡ Nothing = bare_datum (graph_of z f) e node_f.0 node_f.1 node_f.2 (start e (slot_there slots index e at)) in
                  has_cleared IsBare bare_lasts z g new c l
                  (has_once IsBare bare_lasts (Went z f g) e (graph_of z f) (graph_of z g) t.1.changes (record { node = Ephe (Some k ∷ []) t.0.datum_now; at = t.3; is = bare_left (Went z f g) node_f.0 t.0.key_now node_f.1 t.0.datum_now t.0.left datum }) l (start l there));
            },
          )

block_of : (v : Value) (k : Label) → label_of v ≡ Some k → v ≡ Block k
block_of (Int w) k is = cc
block_of Nothing k is = cc
block_of (Block l) k is = let same : l ≡ k = cc in ap (λ (x : Label). Block x) same

-- the answers of the two calls
module _ (z : Sizes) (limits : IsWithinLimits z) (root : Label) (slots : List Label) (ar index : ℕ) (first f : List Entry) (r : Reply) (legal : Legal z first) (held : held_in z first ar ≡ Block root) (array : IsWeakArray (graph_of z first) root slots)
    (p : Performed z first f (Load 8 ar index) r) where
  pub get_past : (dst : ℕ) → r ≡ reply.BadIndex → SlotAnswers z first f root slots dst index (slice_get slots index) reply.BadIndex
  get_past dst is = go (slice_get slots index) refl
    where
      go : (o : Option Label) → slice_get slots index ≡ o → SlotAnswers z first f root slots dst index o reply.BadIndex
      go None none = (refl, (slot_past z limits root slots ar index first f r legal held array p none).1)
      go (Some e) at = absurd (slot_loaded z limits root slots ar index first f r legal held array p e at is)

  pub set_past : (key : Option Label) → r ≡ reply.BadIndex → SetAnswers z first f root slots index (slice_get slots index) key reply.BadIndex
  set_past key is = go (slice_get slots index) refl
    where
      go : (o : Option Label) → slice_get slots index ≡ o → SetAnswers z first f root slots index o key reply.BadIndex
      go None none = (refl, (slot_past z limits root slots ar index first f r legal held array p none).1)
      go (Some e) at = absurd (slot_loaded z limits root slots ar index first f r legal held array p e at is)

  module _ (inside : r ≡ reply.BadIndex → ⊥) (g new : List Entry) (s : Reply) (c : Cleared z g new) where
    pub get_read : (dst : ℕ) → dst < 8 → Performed z f g (GetKey dst 8 0) s → SlotAnswers z first new root slots dst index (slice_get slots index) s
    get_read dst few q = go (slice_get slots index) refl
      where
        go : (o : Option Label) → slice_get slots index ≡ o → SlotAnswers z first new root slots dst index o s
        go None none = absurd (inside (slot_past z limits root slots ar index first f r legal held array p none).0)
        go (Some e) at = slot_read z limits root slots ar index first f r legal held array p e at g new s c dst few q

    pub set_made : (item : ℕ) → item < 8 → Performed z f g (SetKey 8 0 item) s → SetAnswers z first new root slots index (slice_get slots index) (label_of (held_in z first item)) s
    set_made item few q = go (slice_get slots index) refl (label_of (held_in z first item)) refl
      where
        go : (o : Option Label) → slice_get slots index ≡ o → (key : Option Label) → label_of (held_in z first item) ≡ key → SetAnswers z first new root slots index o key s
        go None none key is = absurd (inside (slot_past z limits root slots ar index first f r legal held array p none).0)
        go (Some e) at None is = slot_refused z limits root slots ar index first f r legal held array p e at g new s c item few is q
        go (Some e) at (Some k) is = slot_set z limits root slots ar index first f r legal held array p e at g new s c item k few (block_of (held_in z first item) k is) q
