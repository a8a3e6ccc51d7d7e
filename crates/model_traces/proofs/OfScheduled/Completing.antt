-- What a schedule's collection leaves is complete, so it may be collected, answered and ended.
use Rattle.std.proofs.Common.{◌≡◌, ℕ, zero, suc, Bool, true, false, cond, not, ◌&&◌, ◌||◌, IsTrue, List, [], ◌∷◌, ◌++◌, map, length, filter_map, get_or, option_to_list, refl, sym, ap, ◌∙◌, subst, ⊎_elim, Some, None}
use Rattle.std.specs.Prelude.{Option, flat_map, option_map, slice_get, slice_index_or}
use Rattle.std.specs.List.{cons_option, list_all, list_any}
use Rattle.std.specs.Option.{option_map_or}
use Rattle.std.proofs.lemmas.Bool.{and_parts}
use Rattle.std.proofs.lemmas.List.Folds.{list_all-append, list_all-map}
use Rattle.model_core.specs.declared.label.Label.{Label}
use Rattle.model_core.specs.declared.entry.Entry.{Entry}
use Rattle.model_core.specs.declared.entry.Entry.TheVariants.{Cut, Seal, Wipe, Last, Collected, Done}
use Rattle.model_core.specs.declared.graph.Node.{Node}
use Rattle.model_core.specs.declared.graph.Node.TheVariants.{Plain, Raw, Ephe}
use Rattle.model_core.specs.declared.graph.Value.TheVariants.{Nothing as NoValue}
use Rattle.model_core.specs.declared.state.DomainState.{DomainState}
use Rattle.model_core.specs.declared.state.LastFinaliser.{LastFinaliser}
use Rattle.model_core.specs.declared.state.Mode.TheVariants.{Open, Sealed}
use Rattle.model_core.specs.declared.state.Pending.{Pending}
use Rattle.model_core.specs.declared.state.Sizes.{Sizes}
use Rattle.model_core.specs.declared.state.State.{State}
use Rattle.model_core.specs.Graph.{Graph, has_label, label_of, labels, node_at}
use Rattle.model_core.specs.Domains.{domain_at, is_reachable_with, no_domain, opening, pending_label, queues, reach, roots, settled_reach, settled_roots, waiting, with_domain}
use Rattle.model_core.specs.Reach.{IsClosedGraph, IsClosedUnder, IsLeastClosed, edges_of, key_holds, reachable}
use Rattle.model_core.specs.Entries.{CollectedAllowed, DoneAllowed, at_places, ephe_holds, freshened, full_keys, has_keys, has_live_keys, is_gone, is_let_go, is_sealed, is_some_and, keys_are_live, keys_at, left_reach, next, opened, queued_last, with_finals_open, with_last_queued, with_lasts_open, with_queued, with_wiped, wiped}
use Rattle.model_core.specs.History.{Legal, LegalFrom, state_after}
use Rattle.model_core.specs.WellFormed.{IsWellFormed}
use Rattle.model_core.proofs.Collections.CollectionLemmas.{all_has}
use Rattle.model_core.proofs.Collections.CutLemmas.{holds_after, is_collecting, part_same, pending_labels}
use Rattle.model_core.proofs.Collections.MarkLemmas.{all_labels, done_marked}
use Rattle.model_core.proofs.Commands.FrameLemmas.{part_map}
use Rattle.model_core.proofs.Graphs.ListLemmas.{flat_map-map}
use Rattle.model_core.proofs.Histories.HistoryLemmas.{legal_append, state_after-append}
use Rattle.model_core.proofs.Histories.WellFormedLemmas.{closed_graph, queues_named, reach_after, wf_after, wf_opening}
use Rattle.model_core.proofs.Reach.ReachLemmas.{Within, all_keys, has-append_cases, has-append_left, has-append_right, never_not, not_true, reachable_least, reachable_more}
use Rattle.model_traces.specs.Schedules.Sameness.{AllAlive, is_taking}
use Rattle.model_traces.specs.Schedules.Scheduled.{all_lasts, all_queued, all_wiped, complete, labels_in_order}
use Rattle.model_traces.proofs.OfSchedules.Alive.{all_both}
use Rattle.model_traces.proofs.OfSchedules.Holding.{in_finals, in_queue, in_registers}
use Rattle.model_traces.proofs.OfSchedules.Keeping.{queued_keeps, taken_keeps, taken_leaves}
use Rattle.model_traces.proofs.OfSchedules.Labelled.{labels_ordered}
use Rattle.model_traces.proofs.OfSchedules.Lasting.{all_is_taking, all_lasts_from, all_lasts_graph}
use Rattle.model_traces.proofs.OfSchedules.Queued.{others_of}
use Rattle.model_traces.proofs.OfSchedules.Queueing.{all_is_queue}
use Rattle.model_traces.proofs.OfSchedules.Reaching.{all_from, holds_none, taken_reach, taken_reached, taken_registers, waits_at}
use Rattle.model_traces.proofs.OfSchedules.Taken.{Taking, at_seal, gone_in, takings}
use Rattle.model_traces.proofs.OfSchedules.Wiped.{all_emptied, emptied_node, is_gone_key}
use Rattle.model_traces.proofs.OfSchedules.Wiping.{all_wiped_domains, all_wiped_is_taking, all_wiped_nodes, cleaned}
use Rattle.model_traces.specs.Scheduled.Runs.{CompleteIsLegal, MayAnswer, Nothing, One}
use Rattle.model_traces.proofs.OfScheduled.Clearing.{lasts_legal, may_go, wipes_legal}
use Rattle.model_traces.proofs.OfScheduled.Queuing.{all_parts_pass, all_queued_legal, cut, during, lives, others_fail, queued, seal_allowed, waiting_lives}

-- what holds of each domain
each_passes : (test : DomainState → Bool) (xs : List DomainState) → ((d : ℕ) → test (get_or xs d no_domain) ≡ true) → list_all test xs ≡ true
each_passes test [] each = refl
each_passes test (x ∷ xs) each = ap (λ b. b && list_all test xs) (each zero) ∙ each_passes test xs (λ d. each (suc d))

all_by : {A : Type 0} (p q : A → Bool) → ((x : A) → p x ≡ true → q x ≡ true) → (xs : List A) → list_all p xs ≡ true → list_all q xs ≡ true
all_by p q by [] all = refl
all_by p q by (x ∷ xs) all = let parts = and_parts (p x) (list_all p xs) all in ap (λ b. b && list_all q xs) (by x parts.0) ∙ all_by p q by xs parts.1

-- an ephemeron that has lost all keys that are gone holds live ones alone
module _ (gone alive : Label → Bool) (kept : (l : Label) → gone l ≡ false → alive l ≡ true) where
  emptied_keys : (keys : List (Option Label)) → list_all (key_holds alive) (all_emptied gone keys) ≡ true
  emptied_keys [] = refl
  emptied_keys (None ∷ keys) = emptied_keys keys
  emptied_keys (Some l ∷ keys) = go (gone l) refl (emptied_keys keys)
    where
      go : (b : Bool) → gone l ≡ b → list_all (key_holds alive) (all_emptied gone keys) ≡ true → (key_holds alive (cond b None (Some l)) && list_all (key_holds alive) (all_emptied gone keys)) ≡ true
      go true e rest = rest
      go false e rest = ap (λ b. b && list_all (key_holds alive) (all_emptied gone keys)) (kept l e) ∙ rest

  none_gone : (keys : List (Option Label)) → list_any (is_gone_key gone) keys ≡ false → list_all (key_holds alive) keys ≡ true
  none_gone [] none = refl
  none_gone (None ∷ keys) none = none_gone keys none
  none_gone (Some l ∷ keys) none = go (gone l) refl none (none_gone keys)
    where
      go : (b : Bool) → gone l ≡ b → (b || list_any (is_gone_key gone) keys) ≡ false → (list_any (is_gone_key gone) keys ≡ false → list_all (key_holds alive) keys ≡ true) → (alive l && list_all (key_holds alive) keys) ≡ true
      go true e none rest = cc
      go false e none rest = ap (λ b. b && list_all (key_holds alive) keys) (kept l e) ∙ rest none

  cleaned_live : (o : Option Node) → keys_are_live alive (option_map (emptied_node gone) o) ≡ true
  cleaned_live None = refl
  cleaned_live (Some (Plain tag fields)) = refl
  cleaned_live (Some (Raw tag fields)) = refl
  cleaned_live (Some (Ephe keys datum)) = go (list_any (is_gone_key gone) keys) refl
    where
      go : (b : Bool) → list_any (is_gone_key gone) keys ≡ b → keys_are_live alive (Some (cond b (Ephe (all_emptied gone keys) NoValue) (Ephe keys datum))) ≡ true
      go true e = emptied_keys keys
      go false e = none_gone keys e

live_names : (alive : Label → Bool) (keys : List (Option Label)) → list_all (key_holds alive) keys ≡ true → AllAlive alive (filter_map (λ k. k) keys)
live_names alive [] e = tt
live_names alive (None ∷ keys) e = live_names alive keys e
live_names alive (Some l ∷ keys) e = let parts = and_parts (alive l) (list_all (key_holds alive) keys) e in (parts.0, live_names alive keys parts.1)

-- an ephemeron that is alive, and all of whose keys are, holds no label that isn't
holds_no_other : (g : Graph) (alive : Label → Bool) → IsClosedUnder g alive → (x l : Label) (o : Option Node) → IsTrue (alive x) → node_at g x ≡ o → keys_are_live alive o ≡ true → alive l ≡ false → ephe_holds l o ≡ false
holds_no_other g alive closed x l None a at live dead = refl
holds_no_other g alive closed x l (Some (Plain tag fields)) a at live dead = refl
holds_no_other g alive closed x l (Some (Raw tag fields)) a at live dead = refl
holds_no_other g alive closed x l (Some (Ephe keys datum)) a at live dead =
    let edges : edges_of alive (Ephe keys datum) ≡ option_to_list (label_of datum) = ap (λ b. cond b (option_to_list (label_of datum)) []) live in
    holds_none alive l keys datum dead (all_both alive (filter_map (λ k. k) keys) (option_to_list (label_of datum)) (live_names alive keys live)
    (all_from alive (option_to_list (label_of datum)) (λ m b. closed x m a
    (subst (λ (o : Option Node). IsTrue (has_label (option_map_or (edges_of alive) o []) m)) (sym at) (subst (λ ls. IsTrue (has_label ls m)) (sym edges) b)))))

-- all that was taken is gone
gone_keys_at : (gone : Label → Bool) (places : List ℕ) (keys : List (Option Label)) → list_all (λ p. is_some_and (is_some_and gone) (slice_get keys p)) places ≡ true → list_all gone (filter_map (λ k. k) (at_places places keys)) ≡ true
gone_keys_at gone [] keys all = refl
gone_keys_at gone (p ∷ ps) keys all =
    let parts = and_parts (is_some_and (is_some_and gone) (slice_get keys p)) (list_all (λ q. is_some_and (is_some_and gone) (slice_get keys q)) ps) all in
    go (slice_get keys p) parts.0 (gone_keys_at gone ps keys parts.1)
  where
    go : (o : Option (Option Label)) → is_some_and (is_some_and gone) o ≡ true → list_all gone (filter_map (λ k. k) (at_places ps keys)) ≡ true → list_all gone (filter_map (λ k. k) (cons_option o (at_places ps keys))) ≡ true
    go None e rest = cc
    go (Some None) e rest = cc
    go (Some (Some l)) e rest = ap (λ b. b && list_all gone (filter_map (λ k. k) (at_places ps keys))) e ∙ rest

gone_at : (gone : Label → Bool) (places : List ℕ) (o : Option Node) → has_keys gone places o ≡ true → list_all gone (keys_at places o) ≡ true
gone_at gone places None has = cc
gone_at gone places (Some (Plain tag fields)) has = cc
gone_at gone places (Some (Raw tag fields)) has = cc
gone_at gone places (Some (Ephe keys datum)) has = gone_keys_at gone places keys has

wiped_taken : (t : State) (l : Label) (o : Option Node) → (with_wiped t l o).taken ≡ t.taken
wiped_taken t l None = refl
wiped_taken t l (Some n) = refl

gone_one : (gone apart : LastFinaliser → Bool) (test : Label → Bool) (o : Option LastFinaliser) → ((f : LastFinaliser) → gone f ≡ test f.label) → is_some_and (λ f. gone f && apart f) o ≡ true
    → list_all test (map (λ f. f.label) (filter_map (λ x. x) (o ∷ []))) ≡ true
gone_one gone apart test None same e = cc
gone_one gone apart test (Some f) same e = ap (λ b. b && true) (sym (same f) ∙ (and_parts (gone f) (apart f) e).0)

taken_gone : (s t : State) (h : List Entry) → Taking s t → list_all is_taking h ≡ true → LegalFrom t h → list_all (gone_in s) t.taken ≡ true → list_all (gone_in s) (state_after t h).taken ≡ true
taken_gone s t [] r all legal gone = gone
taken_gone s t (Wipe l places ∷ h) r all legal gone =
    let one : Taking s (next t (Wipe l places)) = takings s t (Wipe l places ∷ []) r refl (legal.0, tt) in
    let has : list_all (gone_in s) (keys_at places (node_at t.graph l)) ≡ true =
    gone_at (gone_in s) places (node_at t.graph l) (sym (ap (λ (ls : List Label). has_keys (λ k. not (has_label ls k)) places (node_at t.graph l)) r.settled) ∙ legal.0.gone) in
    taken_gone s (next t (Wipe l places)) h one all legal.1
    (ap (λ ls. list_all (gone_in s) (ls ++ keys_at places (node_at t.graph l))) (wiped_taken t l (wiped places (node_at t.graph l)))
    ∙ list_all-append (gone_in s) t.taken (keys_at places (node_at t.graph l)) ∙ ap (λ b. b && list_all (gone_in s) (keys_at places (node_at t.graph l))) gone ∙ has)
taken_gone s t (Last d place ∷ h) r all legal gone =
    let one : Taking s (next t (Last d place)) = takings s t (Last d place ∷ []) r refl (legal.0, tt) in
    let own : List Label = map (λ (f : LastFinaliser). f.label) (at_places (place ∷ []) (domain_at t d).lasts) in
    let has : list_all (gone_in s) own ≡ true =
    gone_one (λ f. is_gone t (queues t) f.label) (λ f. is_let_go t f.label) (gone_in s) (slice_get (domain_at t d).lasts place) (λ f. ap (λ (ls : List Label). not (has_label ls f.label)) r.settled) legal.0.gone in
    taken_gone s (next t (Last d place)) h one all legal.1 (list_all-append (gone_in s) t.taken own ∙ ap (λ b. b && list_all (gone_in s) own) gone ∙ has)
taken_gone s t (e ∷ h) r all legal gone = cc

-- all that domains may still come to, by the domains
abbrev in_lasts : DomainState → List Label
in_lasts x = map (λ f. f.label) x.lasts

abbrev left_by : List Label → List Label → List Label → List Label → List Label
left_by registers pending finals lasts = ((registers ++ pending) ++ finals) ++ lasts

pending_by : (xs : List DomainState) → flat_map (filter_map pending_label) (map (λ x. x.queue) xs) ≡ flat_map in_queue xs
pending_by xs = flat_map-map (filter_map pending_label) (λ (x : DomainState). x.queue) xs

left_is : (s : State) → left_reach s ≡ reachable (opened s.graph) (left_by (flat_map in_registers s.domains) (flat_map in_queue s.domains) (flat_map in_finals s.domains) (flat_map in_lasts s.domains))
left_is s = ap (λ ls. reachable (opened s.graph) (left_by (flat_map in_registers s.domains) ls (flat_map in_finals s.domains) (flat_map in_lasts s.domains))) (pending_by s.domains)

left_same : (g : Graph) (a b c d e f k m : List Label) → a ≡ e → b ≡ f → c ≡ k → d ≡ m → reachable (opened g) (left_by a b c d) ≡ reachable (opened g) (left_by e f k m)
left_same g a b c d e f k m p q r t =
    ap (λ ls. reachable (opened g) (left_by ls b c d)) p ∙ ap (λ ls. reachable (opened g) (left_by e ls c d)) q ∙ ap (λ ls. reachable (opened g) (left_by e f ls d)) r ∙ ap (λ ls. reachable (opened g) (left_by e f k ls)) t

-- `Collected` and what is answered change nothing of it
collected_left : (s : State) → left_reach (next s Collected) ≡ left_reach s
collected_left s =
    left_is (next s Collected) ∙ left_same s.graph _ _ _ _ _ _ _ _ (flat_map-map in_registers freshened s.domains) (flat_map-map in_queue freshened s.domains) (flat_map-map in_finals freshened s.domains) (flat_map-map in_lasts freshened s.domains)
    ∙ sym (left_is s)

with_left : (s : State) (d : ℕ) (x : DomainState) → x.registers ≡ (domain_at s d).registers → x.queue ≡ (domain_at s d).queue → x.finals ≡ (domain_at s d).finals → x.lasts ≡ (domain_at s d).lasts → left_reach (with_domain s d x) ≡ left_reach s
with_left s d x registers queue finals lasts =
    left_is (with_domain s d x)
    ∙ left_same s.graph _ _ _ _ _ _ _ _ (part_same in_registers s.domains d x (ap (filter_map label_of) registers)) (part_same in_queue s.domains d x (ap (filter_map pending_label) queue))
    (part_same in_finals s.domains d x (ap (map (λ f. f.label)) finals)) (part_same in_lasts s.domains d x (ap (map (λ f. f.label)) lasts))
    ∙ sym (left_is s)

-- a complete collection where none is under way
module _ (z : Sizes) (h : List Entry) (legal : Legal z h) (calm : (state_after (opening z) h).mode ≡ Open) where
  abbrev start : State
  start = state_after (opening z) h

  abbrev queues_made : List Entry
  queues_made = all_queued (cut z h)

  abbrev sealed : State
  sealed = next (queued z h) Seal

  abbrev wipes : List Entry
  wipes = all_wiped sealed

  abbrev clean : State
  clean = state_after sealed wipes

  abbrev lasts : List Entry
  lasts = all_lasts clean

  abbrev taken_all : State
  taken_all = state_after clean lasts

  -- the history on the way
  abbrev until_seal : List Entry
  until_seal = h ++ (Cut ∷ queues_made ++ Seal ∷ [])

  seal_state : state_after (opening z) until_seal ≡ sealed
  seal_state = state_after-append (opening z) h (Cut ∷ queues_made ++ Seal ∷ []) ∙ state_after-append (cut z h) queues_made (Seal ∷ [])

  legal_seal : Legal z until_seal
  legal_seal = legal_append (opening z) h (Cut ∷ queues_made ++ Seal ∷ []) legal (calm, legal_append (cut z h) queues_made (Seal ∷ []) (all_queued_legal z h) (seal_allowed z h, tt))

  seal_lows : (d : ℕ) → (domain_at sealed d).low ≡ length (domain_at sealed d).lasts
  seal_lows = opened_lasts (queued z h).domains
    where
      opened_lasts : (xs : List DomainState) (d : ℕ) → (slice_index_or (map with_lasts_open xs) d no_domain).low ≡ length (slice_index_or (map with_lasts_open xs) d no_domain).lasts
      opened_lasts [] d = refl
      opened_lasts (x ∷ xs) zero = refl
      opened_lasts (x ∷ xs) (suc d) = opened_lasts xs d

  wipes_are : LegalFrom sealed wipes
  wipes_are = wipes_legal sealed refl seal_lows

  clean_mode : clean.mode ≡ Sealed
  clean_mode = taken_leaves (λ (v : State). v.mode) (λ v d x. refl) (λ v l n. refl) (λ v ls. refl) sealed wipes (all_wiped_is_taking sealed)

  lasts_are : LegalFrom clean lasts
  lasts_are = lasts_legal clean clean_mode (λ d. subst (λ xs. (slice_index_or xs d no_domain).low ≡ length (slice_index_or xs d no_domain).lasts) (sym (all_wiped_domains sealed)) (seal_lows d))

  lasts_taking : list_all is_taking lasts ≡ true
  lasts_taking = all_is_taking (may_go clean) clean

  since_clean : Taking sealed clean
  since_clean = takings sealed sealed wipes (at_seal sealed seal_lows) (all_wiped_is_taking sealed) wipes_are

  since_seal : Taking sealed taken_all
  since_seal = takings sealed clean lasts since_clean lasts_taking lasts_are

  end_mode : taken_all.mode ≡ Sealed
  end_mode = taken_leaves (λ (v : State). v.mode) (λ v d x. refl) (λ v l n. refl) (λ v ls. refl) clean lasts lasts_taking ∙ clean_mode

  -- all entries behind the seal
  both_taking : list_all is_taking (wipes ++ lasts) ≡ true
  both_taking = list_all-append is_taking wipes lasts ∙ ap (λ b. b && list_all is_taking lasts) (all_wiped_is_taking sealed) ∙ lasts_taking

  both_legal : LegalFrom sealed (wipes ++ lasts)
  both_legal = legal_append sealed wipes lasts wipes_are lasts_are

  both_state : state_after sealed (wipes ++ lasts) ≡ taken_all
  both_state = state_after-append sealed wipes lasts

  abbrev until_end : List Entry
  until_end = until_seal ++ (wipes ++ lasts)

  end_state : state_after (opening z) until_end ≡ taken_all
  end_state = state_after-append (opening z) until_seal (wipes ++ lasts) ∙ ap (λ s. state_after s (wipes ++ lasts)) seal_state ∙ both_state

  legal_end : Legal z until_end
  legal_end = legal_append (opening z) until_seal (wipes ++ lasts) legal_seal (subst (λ s. LegalFrom s (wipes ++ lasts)) (sym seal_state) both_legal)

  -- what the queues held at the cut they hold still
  held_still : (k : List Entry) → Legal z k → IsTrue (is_collecting (state_after (opening z) k).mode) → Within (pending_labels (state_after (opening z) k).cut) (pending_labels (queues (state_after (opening z) k)))
  held_still k made = holds_after (opening z) k made (λ going. absurd (let clash : false ≡ true = going in cc))

  seal_holds : Within (pending_labels sealed.cut) (pending_labels (queues sealed))
  seal_holds = subst (λ (s : State). IsTrue (is_collecting s.mode) → Within (pending_labels s.cut) (pending_labels (queues s))) seal_state (held_still until_seal legal_seal) refl

  end_holds : Within (pending_labels taken_all.cut) (pending_labels (queues taken_all))
  end_holds = subst (λ (s : State). IsTrue (is_collecting s.mode) → Within (pending_labels s.cut) (pending_labels (queues s))) end_state (held_still until_end legal_end) (ap is_collecting end_mode)

  end_least : IsLeastClosed taken_all.graph (roots taken_all (queues taken_all)) (reach taken_all)
  end_least = subst (λ (s : State). IsLeastClosed s.graph (roots s (queues s)) (reach s)) end_state (reach_after z until_end)

  -- what the cut reached is reached from its roots still
  seal_registers : flat_map in_registers sealed.domains ≡ flat_map in_registers (cut z h).domains
  seal_registers = flat_map-map in_registers with_lasts_open (queued z h).domains ∙ (during z h).registers

  seal_roots : roots sealed sealed.cut ≡ roots (cut z h) (cut z h).cut
  seal_roots = ap (λ rs. rs ++ pending_labels sealed.cut) seal_registers ∙ ap (λ (qs : List (List Pending)). flat_map in_registers (cut z h).domains ++ pending_labels qs) (during z h).cut

  end_registers : flat_map in_registers taken_all.domains ≡ flat_map in_registers sealed.domains
  end_registers = taken_registers clean lasts lasts_taking ∙ taken_registers sealed wipes (all_wiped_is_taking sealed)

  end_cut : taken_all.cut ≡ sealed.cut
  end_cut =
      taken_leaves (λ (v : State). v.cut) (λ v d x. refl) (λ v l n. refl) (λ v ls. refl) clean lasts lasts_taking
      ∙ taken_leaves (λ (v : State). v.cut) (λ v d x. refl) (λ v l n. refl) (λ v ls. refl) sealed wipes (all_wiped_is_taking sealed)

  end_roots : roots taken_all taken_all.cut ≡ roots (cut z h) (cut z h).cut
  end_roots = ap (λ rs. rs ++ pending_labels taken_all.cut) end_registers ∙ ap (λ (qs : List (List Pending)). flat_map in_registers sealed.domains ++ pending_labels qs) end_cut ∙ seal_roots

  cut_within : (x : Label) → IsTrue (has_label (roots (cut z h) (cut z h).cut) x) → IsTrue (has_label (settled_roots sealed (queues sealed)) x)
  cut_within x a = has-append_left (roots sealed (queues sealed)) (waiting sealed) x (⊎_elim
      (λ b. has-append_left (flat_map in_registers sealed.domains) (pending_labels (queues sealed)) x b)
      (λ b. has-append_right (flat_map in_registers sealed.domains) (pending_labels (queues sealed)) x (seal_holds x b))
      (has-append_cases (flat_map in_registers sealed.domains) (pending_labels sealed.cut) x (subst (λ ls. IsTrue (has_label ls x)) (sym seal_roots) a)))

  cut_reach : reachable taken_all.graph (roots taken_all taken_all.cut) ≡ reachable (cut z h).graph (roots (cut z h) (cut z h).cut)
  cut_reach =
      ap (reachable taken_all.graph) end_roots ∙ ap (λ (s : State). reachable s.graph (roots (cut z h) (cut z h).cut)) (sym both_state)
      ∙ taken_reach (roots (cut z h) (cut z h).cut) sealed (wipes ++ lasts) both_taking both_legal cut_within ∙ ap (λ (g : Graph). reachable g (roots (cut z h) (cut z h).cut)) (during z h).graph

  -- all that waits was reached at the cut
  end_finals : (d : ℕ) → (domain_at taken_all d).finals ≡ (domain_at (queued z h) d).finals
  end_finals d = since_seal.finals d ∙ part_map (λ (x : DomainState). x.finals) with_lasts_open (λ x. refl) (queued z h).domains d

  end_waiting : list_all (lives z h) (waiting taken_all) ≡ true
  end_waiting = all_parts_pass in_finals (lives z h) taken_all.domains (λ d.
      ap (λ fs. list_all (lives z h) (map (λ f. f.label) fs)) (end_finals d) ∙ waits_at in_finals (lives z h) (queued z h).domains d refl (waiting_lives z h))

  still_reached : list_all (is_reachable_with taken_all taken_all.cut) (waiting taken_all) ≡ true
  still_reached = ap (λ ls. list_all (has_label ls) (waiting taken_all)) cut_reach ∙ end_waiting

  -- so what is settled is reached
  abbrev alive : Label → Bool
  alive = has_label (reach taken_all)

  waiting_alive : (l : Label) → IsTrue (has_label (waiting taken_all) l) → IsTrue (alive l)
  waiting_alive l a =
      let more : Within (roots taken_all taken_all.cut) (roots taken_all (queues taken_all)) = λ x b. ⊎_elim
      (λ c. has-append_left (flat_map in_registers taken_all.domains) (pending_labels (queues taken_all)) x c)
      (λ c. has-append_right (flat_map in_registers taken_all.domains) (pending_labels (queues taken_all)) x (end_holds x c))
      (has-append_cases (flat_map in_registers taken_all.domains) (pending_labels taken_all.cut) x b) in
      reachable_more taken_all.graph (roots taken_all taken_all.cut) (roots taken_all (queues taken_all)) more l (all_has (is_reachable_with taken_all taken_all.cut) (waiting taken_all) still_reached l a)

  settled_alive : (l : Label) → IsTrue (has_label (settled_reach taken_all (queues taken_all)) l) → IsTrue (alive l)
  settled_alive = reachable_least taken_all.graph alive end_least.closed (settled_roots taken_all (queues taken_all)) (λ l a. ⊎_elim
      (λ b. end_least.holds_roots l b)
      (λ b. waiting_alive l b)
      (has-append_cases (roots taken_all (queues taken_all)) (waiting taken_all) l a))

  alive_settled : (l : Label) → IsTrue (alive l) → IsTrue (has_label (settled_reach taken_all (queues taken_all)) l)
  alive_settled = reachable_more taken_all.graph (roots taken_all (queues taken_all)) (settled_roots taken_all (queues taken_all)) (has-append_left (roots taken_all (queues taken_all)) (waiting taken_all))

  kept : (l : Label) → gone_in sealed l ≡ false → alive l ≡ true
  kept l e = settled_alive l (subst (λ ls. IsTrue (has_label ls l)) (sym since_seal.settled) (twice (has_label (settled_reach sealed (queues sealed)) l) e))
    where
      twice : (b : Bool) → not b ≡ false → b ≡ true
      twice true e = refl
      twice false e = cc

  -- what was gone at the seal isn't reached
  gone_dead : (l : Label) → gone_in sealed l ≡ true → IsTrue (not (alive l))
  gone_dead l e = never_not (alive l) (λ a. not_true (has_label (settled_reach sealed (queues sealed)) l) e (subst (λ ls. IsTrue (has_label ls l)) since_seal.settled (alive_settled l a)))

  end_reach : reach taken_all ≡ reach sealed
  end_reach = ap reach (sym both_state) ∙ taken_reached sealed (wipes ++ lasts) both_taking both_legal

  -- each key of a block that is reached is live
  labelled : (l : Label) → IsTrue (alive l) → IsTrue (has_label (labels sealed.graph) l)
  labelled l a =
      let wf : IsWellFormed sealed = subst IsWellFormed seal_state (wf_after (opening z) until_seal (wf_opening z)) in
      let closed : IsClosedGraph sealed.graph (roots sealed (queues sealed)) = closed_graph sealed wf (queues sealed) (queues_named sealed.graph sealed.domains (λ k. (wf.domains k).queue)) in
      let was : IsTrue (has_label (reach sealed) l) = subst (λ ls. IsTrue (has_label ls l)) end_reach a in
      reachable_least sealed.graph (has_label (labels sealed.graph)) (λ x m b c. closed.edges_have_nodes (has_label (labels sealed.graph)) x m c) (roots sealed (queues sealed)) closed.roots_have_nodes l was

  end_graph : taken_all.graph ≡ clean.graph
  end_graph = all_lasts_graph (may_go clean) clean

  end_node : (l : Label) → IsTrue (alive l) → node_at taken_all.graph l ≡ option_map (emptied_node (gone_in sealed)) (node_at sealed.graph l)
  end_node l a =
      let ordered : IsTrue (has_label (labels_in_order sealed) l) =
      subst (λ (s : State). (m : Label) → IsTrue (has_label (labels s.graph) m) → IsTrue (has_label (labels_in_order s) m)) seal_state (labels_ordered z until_seal legal_seal) l (labelled l a) in
      let was : IsTrue (has_label (reach sealed) l) = subst (λ ls. IsTrue (has_label ls l)) end_reach a in
      ap (λ g. node_at g l) end_graph ∙ all_wiped_nodes sealed l was ordered ∙ mapped (node_at sealed.graph l)
    where
      mapped : (o : Option Node) → cleaned sealed o ≡ option_map (emptied_node (gone_in sealed)) o
      mapped None = refl
      mapped (Some n) = refl

  keys_live : (l : Label) → IsTrue (alive l) → has_live_keys taken_all (node_at taken_all.graph l) ≡ true
  keys_live l a = ap (keys_are_live alive) (end_node l a) ∙ cleaned_live (gone_in sealed) alive kept (node_at sealed.graph l)

  -- what is gone is let go, so no registration of a gone block is left
  same_settled : settled_reach taken_all (queues taken_all) ≡ settled_reach clean (queues clean)
  same_settled = since_seal.settled ∙ sym since_clean.settled

  let_go : (l : Label) → alive l ≡ false → is_let_go clean l ≡ true
  let_go l dead = all_labels (λ x. not (ephe_holds l (node_at clean.graph x))) (settled_reach clean (queues clean)) (λ x a.
      let lives_on : IsTrue (alive x) = settled_alive x (subst (λ ls. IsTrue (has_label ls x)) (sym same_settled) a) in
      ap not (ap (λ g. ephe_holds l (node_at g x)) (sym end_graph) ∙ holds_no_other taken_all.graph alive end_least.closed x l (node_at taken_all.graph x) lives_on refl (keys_live x lives_on) dead))

  stays_alive : (f : LastFinaliser) → not (may_go clean f) ≡ true → alive f.label ≡ true
  stays_alive f e = go (alive f.label) refl
    where
      go : (b : Bool) → alive f.label ≡ b → b ≡ true
      go true a = refl
      go false a =
          let gone : is_gone clean (queues clean) f.label ≡ true =
          never_not (has_label (settled_reach clean (queues clean)) f.label) (λ b. let clash : false ≡ true = sym a ∙ settled_alive f.label (subst (λ ls. IsTrue (has_label ls f.label)) (sym same_settled) b) in cc) in
          let both : may_go clean f ≡ true = ap (λ b. b && is_let_go clean f.label) gone ∙ let_go f.label a in
          let clash : false ≡ true = sym (ap not both) ∙ e in cc

  lasts_alive : (d : ℕ) → list_all (λ f. alive f.label) (domain_at taken_all d).lasts ≡ true
  lasts_alive d =
      ap (list_all (λ f. alive f.label)) (all_lasts_from (may_go clean) clean d).lasts
      ∙ all_by (λ f. not (may_go clean f)) (λ f. alive f.label) stays_alive (others_of queued_last (may_go clean) (domain_at clean d).lasts) (others_fail queued_last (may_go clean) (domain_at clean d).lasts)

  collected_allowed : CollectedAllowed taken_all
  collected_allowed = record {
    mode = end_mode;
    keys = all_labels (λ l. has_live_keys taken_all (node_at taken_all.graph l)) (reach taken_all) keys_live;
    finals = still_reached;
    lasts = each_passes (λ x. list_all (λ f. alive f.label) x.lasts) taken_all.domains lasts_alive;
  }

  live_keys_of : (o : Option Node) (k : Label) → keys_are_live alive o ≡ true → IsTrue (has_label (full_keys o) k) → IsTrue (alive k)
  live_keys_of None k live a = cc
  live_keys_of (Some (Plain tag fields)) k live a = cc
  live_keys_of (Some (Raw tag fields)) k live a = cc
  live_keys_of (Some (Ephe keys datum)) k live a = all_keys alive keys live k a

  done_allowed : DoneAllowed taken_all
  done_allowed = done_marked taken_all alive (ap is_sealed end_mode)
      (record { roots = end_least.holds_roots; waiting = waiting_alive; closed = end_least.closed })
      (all_has alive (flat_map in_lasts taken_all.domains) (all_parts_pass in_lasts alive taken_all.domains (λ d. list_all-map alive (λ (f : LastFinaliser). f.label) (domain_at taken_all d).lasts ∙ lasts_alive d)))
      (λ x k a has. live_keys_of (node_at taken_all.graph x) k (keys_live x a) has)
      (λ l a. gone_dead l (all_has (gone_in sealed) taken_all.taken (taken_gone sealed clean lasts since_clean lasts_taking lasts_are (taken_gone sealed sealed wipes (at_seal sealed seal_lows) (all_wiped_is_taking sealed) wipes_are refl)) l a))

  -- what is answered
  abbrev collected : State
  collected = next taken_all Collected

  kept_part : {A : Type 0} (f : DomainState → A) → ((x : DomainState) (ns : List ℕ) → f (with_queued x ns) ≡ f x) → ((x : DomainState) (n : ℕ) → f (with_last_queued x n) ≡ f x)
      → ((x : DomainState) → f (with_finals_open x) ≡ f x) → ((x : DomainState) → f (with_lasts_open x) ≡ f x) → ((x : DomainState) → f (freshened x) ≡ f x) → (d : ℕ) → f (domain_at collected d) ≡ f (domain_at start d)
  kept_part f queues_keep lasts_keep at_cut_keeps seal_keeps collected_keeps d =
      part_map f freshened collected_keeps taken_all.domains d ∙ taken_keeps f lasts_keep clean lasts lasts_taking d ∙ taken_keeps f lasts_keep sealed wipes (all_wiped_is_taking sealed) d
      ∙ part_map f with_lasts_open seal_keeps (queued z h).domains d ∙ queued_keeps f queues_keep (cut z h) queues_made (all_is_queue (cut z h)) d ∙ part_map f with_finals_open at_cut_keeps start.domains d

  answer_legal : (answered : List Entry) → MayAnswer start answered → LegalFrom collected answered
  answer_legal _ Nothing = tt
  answer_legal _ (One d running owed) = (
    record {
      running = kept_part (λ (x : DomainState). x.ended) (λ x ns. refl) (λ x n. refl) (λ x. refl) (λ x. refl) (λ x. refl) d ∙ running;
      fits = (refl, kept_part (λ (x : DomainState). x.due) (λ x ns. refl) (λ x n. refl) (λ x. refl) (λ x. refl) (λ x. refl) d ∙ owed);
      full_fits = tt;
    },
    tt,
  )

  answered_done : (answered : List Entry) → MayAnswer start answered → DoneAllowed (state_after collected answered)
  answered_done _ Nothing = record {
    mode = refl;
    apart = subst (λ left. IsTrue (list_all (λ l. not (has_label left l)) taken_all.taken)) (sym (collected_left taken_all)) done_allowed.apart;
  }
  answered_done _ (One d running owed) = record {
    mode = refl;
    apart = subst (λ left. IsTrue (list_all (λ l. not (has_label left l)) taken_all.taken)) (sym (with_left collected d _ refl refl refl refl ∙ collected_left taken_all)) done_allowed.apart;
  }

  pub complete_legal : (answered : List Entry) → MayAnswer start answered → LegalFrom start (complete start answered)
  complete_legal answered may =
      let first : List Entry = Cut ∷ queues_made in
      let second : List Entry = first ++ Seal ∷ wipes in
      let third : List Entry = second ++ lasts in
      let fourth : List Entry = third ++ Collected ∷ answered in
      let at_first : state_after start first ≡ queued z h = refl in
      let at_second : state_after start second ≡ clean = state_after-append start first (Seal ∷ wipes) in
      let at_third : state_after start third ≡ taken_all = state_after-append start second lasts ∙ ap (λ s. state_after s lasts) at_second in
      let at_fourth : state_after start fourth ≡ state_after collected answered = state_after-append start third (Collected ∷ answered) ∙ ap (λ s. state_after s (Collected ∷ answered)) at_third in
      let is_second : LegalFrom start second = legal_append start first (Seal ∷ wipes) (calm, all_queued_legal z h) (seal_allowed z h, wipes_are) in
      let is_third : LegalFrom start third = legal_append start second lasts is_second (subst (λ s. LegalFrom s lasts) (sym at_second) lasts_are) in
      let is_fourth : LegalFrom start fourth = legal_append start third (Collected ∷ answered) is_third (subst (λ s. LegalFrom s (Collected ∷ answered)) (sym at_third) (collected_allowed, answer_legal answered may)) in
      legal_append start fourth (Done ∷ []) is_fourth (subst (λ s. LegalFrom s (Done ∷ [])) (sym at_fourth) (answered_done answered may, tt))

pub complete_law : CompleteIsLegal
complete_law z h answered legal calm may = legal_append (opening z) h (complete (state_after (opening z) h) answered) legal (complete_legal z h legal calm answered may)

-- and leaves none under way
pub complete_open : (s : State) (answered : List Entry) → (state_after s (complete s answered)).mode ≡ Open
complete_open s answered =
    let queues_made : List Entry = all_queued (next s Cut) in
    let sealed : State = next (state_after (next s Cut) queues_made) Seal in
    let wipes : List Entry = all_wiped sealed in
    let lasts : List Entry = all_lasts (state_after sealed wipes) in
    ap (λ (v : State). v.mode) (state_after-append s (Cut ∷ queues_made ++ Seal ∷ wipes ++ lasts ++ Collected ∷ answered) (Done ∷ []))
