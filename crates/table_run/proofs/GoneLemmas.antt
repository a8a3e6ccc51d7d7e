-- What a `full_major` line leaves: the keys that a register holds.
use Rattle.std.proofs.Common.{◌≡◌, ◌⊎◌, inl, inr, ⊎_elim, ℕ, zero, suc, ◌-◌, ◌≤◌, true, IsTrue, List, [], ◌∷◌, ◌++◌, map, length, count_by, flat_map, filter_map, get_or, Option, Some, None, refl, ap, sym, ◌∙◌, subst, arith}
use Rattle.std.specs.List.{list_all}
use Rattle.model_core.specs.declared.label.Label.{Label}
use Rattle.model_core.specs.declared.command.Command.TheVariants.{FullMajor}
use Rattle.model_core.specs.declared.entry.Entry.{Entry}
use Rattle.model_core.specs.declared.entry.Entry.TheVariants.{Command as CommandOf, End, Cut, Queue, Seal, Wipe, Last as LastOf, Collected, Done as DoneOf, Ran}
use Rattle.model_core.specs.declared.reply.Reply.{Reply}
use Rattle.model_core.specs.declared.graph.Value.{Value}
use Rattle.model_core.specs.declared.graph.Value.TheVariants.{Block, Nothing}
use Rattle.model_core.specs.declared.graph.Node.{Node}
use Rattle.model_core.specs.declared.state.DomainState.{DomainState}
use Rattle.model_core.specs.declared.state.Mode.TheVariants.{Open, Cut as CutMode, Sealed, Answer}
use Rattle.model_core.specs.declared.state.Pending.{Pending}
use Rattle.model_core.specs.declared.state.Sizes.{Sizes}
use Rattle.model_core.specs.declared.state.State.{State}
use Rattle.model_core.specs.Graph.{Graph, same_label, has_label, label_of, node_at}
use Rattle.model_core.specs.Domains.{IsWithinLimits, no_domain, domain_at, opening, pending_label, queues, reach, register, roots}
use Rattle.model_core.specs.Commands.{key_value}
use Rattle.model_core.specs.Entries.{Allowed, has_live_keys, keys_are_live, next, with_wiped, wiped, queued_final, queued_last}
use Rattle.model_core.specs.History.{LegalFrom, Legal, state_after}
use Rattle.model_core.specs.Registrations.{all_registered, left_over}
use Rattle.model_core.specs.Reach.{HoldsRoots, IsClosedUnder}
use Rattle.model_core.proofs.Collections.CollectedLemmas.{reach_fresh}
use Rattle.model_core.proofs.Collections.CollectionLemmas.{all_has}
use Rattle.model_core.proofs.Collections.RegistrationLemmas.{registrations_law}
use Rattle.model_core.proofs.Histories.HistoryLemmas.{state_after-append}
use Rattle.model_core.proofs.Histories.TallyLemmas.{tally_count}
use Rattle.model_core.proofs.Histories.ShapeAfterLemmas.{shaped-history}
use Rattle.model_core.proofs.Histories.WellFormedLemmas.{reach_after}
use Rattle.model_core.proofs.Graphs.GraphLemmas.{same_label_refl}
use Rattle.model_core.proofs.Reach.ReachLemmas.{and_left, and_right, has-append_cases, has-append_left, has-append_right, or_left, reachable_least}
use Rattle.weak_laws.specs.Tables.Structures.{Binding, keys_of, slot_keys, IsWeakArray}
use Rattle.weak_laws.specs.Tables.Thinning.{AllCollector, is_collector, state_of}
use Rattle.weak_laws.specs.Tables.Performing.{Performed}
use Rattle.weak_laws.specs.Tables.Stages.{graph_of, held_in}
use Rattle.weak_laws.proofs.OfTables.CollectorLemmas.{held_reached}
use Rattle.weak_laws.proofs.OfTables.OnceLemmas.{not_both}
use Rattle.weak_laws.proofs.OfTables.StepLemmas.{kept, legal_parts}
use Rattle.weak_tables.specs.Held.{AllHave, IsBare}
use Rattle.weak_tables.proofs.RegisteredLemmas.{none_between}
use Rattle.table_text.specs.declared.version.Version.{Version}
use Rattle.table_text.specs.Machine.Machine.{AllGone, Holds, TableState, key_in}
use Rattle.table_run.specs.Keepers.Keepers.{Shape, IsKeeper, kept_bindings, kept_labels}
use Rattle.table_run.specs.Standing.{AreInts, IsKnown, Places, Stands, key_node}
use Rattle.table_run.proofs.KeyLemmas.{array_without, keeper_without}
use Rattle.table_run.proofs.KeeperLemmas.{IsSwept, keeper_closed, keeper_keys_held, keeper_root}
use Rattle.table_run.proofs.MachineLemmas.{place_holds}
use Rattle.table_run.proofs.RefusalLemmas.{grown_after}
use Rattle.table_run.proofs.SettledLemmas.{all_held, held_keys, array_keys_held, from_places, held_closed, in_places, named_field, nothing_there}

-- in the state after a complete collection each key of what is reached is reached
abbrev Live : State → Type 0
Live s = s.mode ≡ Answer → IsTrue (list_all (λ l. has_live_keys s (node_at s.graph l)) (reach s))

wiped_mode : (s : State) (l : Label) (o : Option Node) → (with_wiped s l o).mode ≡ s.mode
wiped_mode s l None = refl
wiped_mode s l (Some n) = refl

live_next : (s : State) (e : Entry) → IsTrue (is_collector e) → Allowed s e → Live (next s e)
live_next s (CommandOf d c full) mine allowed = cc
live_next s (End d) mine allowed = cc
live_next s (Ran d) mine allowed = cc
live_next s Cut mine allowed = λ is. cc
live_next s (Queue d places) mine allowed = λ is. absurd (let clash : CutMode ≡ Answer = sym allowed.mode ∙ is in cc)
live_next s Seal mine allowed = λ is. cc
live_next s (Wipe l keys) mine allowed = λ is. absurd (let clash : Sealed ≡ Answer = sym allowed.mode ∙ (sym (wiped_mode s l (wiped keys (node_at s.graph l))) ∙ is) in cc)
live_next s (LastOf d place) mine allowed = λ is. absurd (let clash : Sealed ≡ Answer = sym allowed.mode ∙ is in cc)
live_next s Collected mine allowed = λ is. subst (λ ls. IsTrue (list_all (λ l. keys_are_live (has_label ls) (node_at s.graph l)) ls)) (sym (reach_fresh s)) allowed.keys
live_next s DoneOf mine allowed = λ is. cc

live_after : (s : State) (h : List Entry) → LegalFrom s h → AllCollector h → Live s → Live (state_after s h)
live_after s [] legal mine live = live
live_after s (e ∷ h) legal mine live = live_after (next s e) h legal.1 (and_right (is_collector e) _ mine) (live_next s e (and_left (is_collector e) _ mine) legal.0)

-- nothing is left of what was never registered
none_counted : (qs : List Pending) → count_by (λ q. true) qs ≤ 0 → qs ≡ []
none_counted [] few = refl
none_counted (q ∷ qs) few = absurd (let sum = tally_count (λ q. true) (q ∷ qs) in omega (arith, few, sum))

second_empty : {A : Type 0} (a b : List A) → a ++ b ≡ [] → b ≡ []
second_empty [] b e = e
second_empty (x ∷ a) b e = cc

get_nil : (r : ℕ) → get_or [] r Nothing ≡ Nothing
get_nil zero = refl
get_nil (suc r) = refl

-- a label that a domain's register names
named_register : (xs : List DomainState) (l : Label) → IsTrue (has_label (flat_map (λ x. filter_map label_of x.registers) xs) l) → (d : ℕ) × (r : ℕ) × (get_or (get_or xs d no_domain).registers r Nothing ≡ Block l)
named_register [] l h = absurd (nothing_there l h)
named_register (x ∷ xs) l h = ⊎_elim (λ here. let t = named_field x.registers l here in (0, t.0, t.2)) (λ later. let t = named_register xs l later in (suc t.0, t.1, t.2)) (has-append_cases (filter_map label_of x.registers) _ l h)

one_domain : (xs : List DomainState) (d : ℕ) → length xs ≡ 1 → get_or xs (suc d) no_domain ≡ no_domain
one_domain [] d one = cc
one_domain (x ∷ []) zero one = refl
one_domain (x ∷ []) (suc d) one = refl
one_domain (x ∷ y ∷ xs) d one = absurd (omega (arith, one))

one_queue : (xs : List DomainState) → length xs ≡ 1 → (get_or xs 0 no_domain).queue ≡ [] → flat_map (filter_map pending_label) (map (λ x. x.queue) xs) ≡ []
one_queue [] one none = cc
one_queue (x ∷ []) one none = ap (λ (q : List Pending). filter_map pending_label q ++ []) none
one_queue (x ∷ y ∷ xs) one none = absurd (omega (arith, one))

key_is : (o : Option Label) (l : Label) → key_value o ≡ Block l → o ≡ Some l
key_is None l is = cc
key_is (Some k) l is = let same : k ≡ l = cc in ap (λ (m : Label). Some m) same

-- which register it is: 0, one of the keys', the table's, the weak array's, or one that is used between
abbrev Which : ℕ → Type 0
Which r = (r ≡ 0) ⊎ ((1 ≤ r) × (r ≤ 5)) ⊎ (r ≡ 6) ⊎ (r ≡ 7) ⊎ (8 ≤ r)

which : (r : ℕ) → Which r
which zero = inl refl
which (suc zero) = inr (inl (omega arith, omega arith))
which (suc (suc zero)) = inr (inl (omega arith, omega arith))
which (suc (suc (suc zero))) = inr (inl (omega arith, omega arith))
which (suc (suc (suc (suc zero)))) = inr (inl (omega arith, omega arith))
which (suc (suc (suc (suc (suc zero))))) = inr (inl (omega arith, omega arith))
which (suc (suc (suc (suc (suc (suc zero)))))) = inr (inr (inl refl))
which (suc (suc (suc (suc (suc (suc (suc zero))))))) = inr (inr (inr (inl refl)))
which (suc (suc (suc (suc (suc (suc (suc (suc r)))))))) = inr (inr (inr (inr (omega arith))))

module _ (version : Version) (z : Sizes) (limits : IsWithinLimits z) (mid new : List Entry) (b : Reply) (one : z.domains ≡ 1) (quiet : all_registered 0 (opening z) mid ≡ []) (w : Performed z mid new FullMajor b) (open_mid : (state_of z mid).mode ≡ Open) where
  abbrev front : List Entry
  front = mid ++ w.between

  abbrev s : State
  s = state_of z front

  legal : LegalFrom (opening z) front × LegalFrom s (CommandOf 0 FullMajor w.full ∷ [])
  legal = legal_parts (opening z) front (CommandOf 0 FullMajor w.full ∷ []) (subst (Legal z) w.appends w.legal)

  live : IsTrue (list_all (λ l. has_live_keys s (node_at s.graph l)) (reach s))
  live =
      let there : state_of z front ≡ state_after (state_of z mid) w.between = state_after-append (opening z) mid w.between in
      let after : Live (state_after (state_of z mid) w.between) = live_after (state_of z mid) w.between (legal_parts (opening z) mid w.between legal.0).1 w.collector (λ is. let clash : Open ≡ Answer = sym open_mid ∙ is in cc) in
      subst Live (sym there) after legal.1.0.fits.0

  single : length s.domains ≡ 1
  single = (shaped-history z front limits).domain_count ∙ (ap (λ (y : Sizes). y.domains) (grown_after (opening z) front).sizes ∙ one)

  queue_empty : (domain_at s 0).queue ≡ []
  queue_empty =
      let none : all_registered 0 (opening z) front ≡ [] = none_between z mid w.between w.collector quiet in
      let counted : count_by (λ q. true) (all_registered 0 (opening z) front) ≡ 0 = ap (count_by (λ q. true)) none in
      let law = registrations_law z front 0 (λ q. true) legal.0 in
      let x = domain_at s 0 in
      second_empty (map queued_final x.finals ++ map queued_last x.lasts) x.queue (none_counted (left_over x) (omega (arith, law, counted)))

  held : (r : ℕ) → register s 0 r ≡ held_in z mid r
  held r = ap (λ (rs : List Value). get_or rs r Nothing) (kept z limits mid new FullMajor b w).registers

  module _ (p : Places) (t u : TableState) (y : Stands version z p t mid) (emptied : held_in z mid 0 ≡ Nothing) (x : Stands version z p u new) (swept : IsSwept version x.shown.shape (graph_of z new) p.keeper) (same : u.registers ≡ t.registers) (graph : graph_of z new ≡ s.graph) where
    abbrev shape : Shape version
    shape = x.shown.shape

    abbrev g : Graph
    g = s.graph

    abbrev all : List Label
    all = all_held u.registers (kept_labels version shape g p.keeper) p.array p.slots

    keeper_g : IsKeeper version shape z.domains g p.keeper
    keeper_g = subst (λ (h : Graph). IsKeeper version shape z.domains h p.keeper) graph x.shown.keeper

    array_g : IsWeakArray g p.array p.slots
    array_g = subst (λ (h : Graph). IsWeakArray h p.array p.slots) graph x.shown.array

    key_g : (k : Label) → IsKnown u k → node_at g k ≡ Some key_node
    key_g k known = sym (ap (λ (h : Graph). node_at h k) graph) ∙ x.keys k known

    closed : IsClosedUnder g (has_label all)
    closed = held_closed g (kept_labels version shape g p.keeper) p.array p.slots u.registers
        (keeper_closed g (has_label all) version shape z.domains p.keeper keeper_g (subst (λ (h : Graph). AreInts (kept_bindings version shape h p.keeper)) graph (subst AreInts (sym x.shown.bindings_are) x.ints))
        (subst (λ (h : Graph). IsSwept version shape h p.keeper) graph swept))
        array_g
        (subst (λ (h : Graph). AllHave IsBare h p.slots) graph x.bare)
        (λ k mine. key_g k (inl mine))

    -- what the registers hold is among these
    by_register : (l : Label) (r : ℕ) → Which r → held_in z mid r ≡ Block l → IsTrue (has_label all l)
    by_register l r (inl is) at = absurd (let clash : Nothing ≡ Block l = sym emptied ∙ (ap (held_in z mid) (sym is) ∙ at) in cc)
    by_register l r (inr (inl (low, high))) at =
        let key : key_in t r ≡ Some l = key_is (key_in t r) l (sym (y.shown.registers r low high) ∙ at) in
        has-append_left (held_keys u.registers) _ l (in_places u.registers l (subst (λ (rs : List (Option Label)). Holds rs l) (sym same) (r - 1, place_holds t.registers (r - 1) l key)))
    by_register l r (inr (inr (inl is))) at =
        let here : p.keeper ≡ l = (let both : Block p.keeper ≡ Block l = sym y.keeper_held ∙ (ap (held_in z mid) (sym is) ∙ at) in cc) in
        has-append_right (held_keys u.registers) _ l (has-append_left (kept_labels version shape g p.keeper) (p.array ∷ p.slots) l (subst (λ (k : Label). IsTrue (has_label (kept_labels version shape g p.keeper) k)) here (keeper_root version shape z.domains g p.keeper keeper_g)))
    by_register l r (inr (inr (inr (inl is)))) at =
        let here : p.array ≡ l = (let both : Block p.array ≡ Block l = sym y.array_held ∙ (ap (held_in z mid) (sym is) ∙ at) in cc) in
        has-append_right (held_keys u.registers) _ l (has-append_right (kept_labels version shape g p.keeper) (p.array ∷ p.slots) l (or_left (same_label p.array l) _ (subst (λ (k : Label). IsTrue (same_label p.array k)) here (same_label_refl p.array))))
    by_register l r (inr (inr (inr (inr high)))) at = absurd (let clash : Nothing ≡ Block l = sym (y.others r high) ∙ at in cc)

    at_register : (l : Label) (d r : ℕ) → get_or (get_or s.domains d no_domain).registers r Nothing ≡ Block l → IsTrue (has_label all l)
    at_register l zero r is = by_register l r (which r) (sym (held r) ∙ is)
    at_register l (suc d) r is = absurd (let clash : Nothing ≡ Block l = sym (ap (λ (x : DomainState). get_or x.registers r Nothing) (one_domain s.domains d single) ∙ get_nil r) ∙ is in cc)

    holds : HoldsRoots (roots s (queues s)) (has_label all)
    holds l h = ⊎_elim
        (λ reg. let t = named_register s.domains l reg in at_register l t.0 t.1 t.2)
        (λ queued. absurd (nothing_there l (subst (λ (ls : List Label). IsTrue (has_label ls l)) (one_queue s.domains single queue_empty) queued)))
        (has-append_cases (flat_map (λ x. filter_map label_of x.registers) s.domains) (flat_map (filter_map pending_label) (queues s)) l h)

    -- so a key that is reached is held
    key_left : (k : Label) → IsKnown u k → IsTrue (has_label (reach s) k) → Holds u.registers k
    key_left k known lives = ⊎_elim
        (λ mine. from_places u.registers k mine)
        (λ others. ⊎_elim
        (λ there. absurd (not_both (kept_labels version shape g p.keeper) k there (keeper_without g k (key_g k known) version shape z.domains p.keeper keeper_g)))
        (λ there. absurd (not_both (p.array ∷ p.slots) k there (array_without g k (key_g k known) p.array p.slots array_g)))
        (has-append_cases (kept_labels version shape g p.keeper) (p.array ∷ p.slots) k others))
        (has-append_cases (held_keys u.registers) _ k (reachable_least g (has_label all) closed (roots s (queues s)) holds k lives))

    live_at : (l : Label) → IsTrue (has_label (reach s) l) → IsTrue (keys_are_live (has_label (reach s)) (node_at g l))
    live_at l lives = all_has (λ m. has_live_keys s (node_at s.graph m)) (reach s) live l lives

    -- all that is left is held
    pub left_held : AllGone u
    left_held = record {
      bindings = λ k bound. key_left k (inr (inl bound)) (keeper_keys_held g (has_label (reach s)) (reach_after z front).closed live_at version shape z.domains p.keeper k keeper_g (held_reached s 0 6 p.keeper (held 6 ∙ y.keeper_held))
          (subst (λ (h : Graph). IsTrue (has_label (keys_of (kept_bindings version shape h p.keeper)) k)) graph (subst (λ (bs : List Binding). IsTrue (has_label (keys_of bs) k)) (sym x.shown.bindings_are) bound)));
      slots = λ k at. key_left k (inr (inr at)) (array_keys_held g (has_label (reach s)) (reach_after z front).closed live_at p.array p.slots k array_g (held_reached s 0 7 p.array (held 7 ∙ y.array_held))
          (subst (λ (h : Graph). Holds (slot_keys h p.slots) k) graph (subst (λ (ks : List (Option Label)). Holds ks k) (sym x.shown.slots_are) at)));
    }
