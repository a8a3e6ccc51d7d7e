-- A complete collection leaves what the one of a schedule leaves, and answers the same, however its entries are cut and ordered.
use Rattle.std.proofs.Common.{◌≡◌, ℕ, zero, suc, Bool, true, false, cond, not, ◌&&◌, IsTrue, List, [], ◌∷◌, ◌++◌, map, length, filter_map, refl, sym, ap, ◌∙◌, subst, ⊎_elim, append_assoc, append-nil, None, Some}
use Rattle.std.specs.Prelude.{◌==◌, Option, flat_map, reverse, slice_index_or}
use Rattle.std.specs.List.{list_all, range_with_len}
use Rattle.std.proofs.lemmas.Bool.{and_parts}
use Rattle.std.proofs.lemmas.List.Folds.{list_all-append}
use Rattle.model_core.specs.declared.label.Label.{Label}
use Rattle.model_core.specs.declared.entry.Entry.{Entry}
use Rattle.model_core.specs.declared.entry.Entry.TheVariants.{Command as CommandOf, Cut, Queue, Seal, Wipe, Last, Collected, Done}
use Rattle.model_core.specs.declared.command.Command.TheVariants.{FullMajor}
use Rattle.model_core.specs.declared.reply.Reply.{Reply}
use Rattle.model_core.specs.Commands.{live_reply}
use Rattle.model_core.specs.declared.graph.Node.{Node}
use Rattle.model_core.specs.declared.graph.Node.TheVariants.{Plain, Raw, Ephe}
use Rattle.model_core.specs.declared.state.DomainState.{DomainState}
use Rattle.model_core.specs.declared.state.Finaliser.{Finaliser}
use Rattle.model_core.specs.declared.state.LastFinaliser.{LastFinaliser}
use Rattle.model_core.specs.declared.state.Sizes.{Sizes}
use Rattle.model_core.specs.declared.state.State.{State}
use Rattle.model_core.specs.Graph.{Graph, has_label, labels, node_at, same_label}
use Rattle.model_core.specs.Domains.{domain_at, is_reachable_with, no_domain, opening, pending_label, queues, reach, roots, settled_reach, settled_roots, shared_label, waiting, with_block, with_domain}
use Rattle.model_core.specs.Reach.{reachable}
use Rattle.model_core.specs.Entries.{CollectedAllowed, ephe_holds, freshened, is_gone, is_let_go, next, queued_last, with_finals_open, with_last_queued, with_lasts_open, with_taken}
use Rattle.model_core.specs.History.{Legal, LegalFrom, is_entry_of, replies_from, state_after}
use Rattle.model_core.specs.WellFormed.{names_of}
use Rattle.model_core.proofs.Collections.CutLemmas.{collected_settled, holds_after, is_collecting, pending_labels}
use Rattle.model_core.proofs.Collections.MarkLemmas.{all_labels}
use Rattle.model_core.proofs.Histories.HistoryLemmas.{replies_from-append, replies_from-others, state_after-append}
use Rattle.model_core.proofs.Histories.NumberLemmas.{no_label, node_at-no_label}
use Rattle.model_core.proofs.Reach.ReachLemmas.{Within, has-append_cases, has-append_left, has-append_right, never_true, or_cases, reachable_roots}
use Rattle.model_core.proofs.Graphs.GraphLemmas.{same_label-true}
use Rattle.model_traces.specs.Schedules.Sameness.{AllAlive, AreSameDomains, CollectionLaw, IsSameBut, IsSameDomain, is_answer, is_queue, is_taking}
use Rattle.model_traces.specs.Schedules.Scheduled.{all_lasts, all_queued, all_wiped, complete, labels_in_order}
use Rattle.model_traces.proofs.OfSchedules.Holding.{domains_held, in_finals, in_registers}
use Rattle.model_traces.proofs.OfSchedules.Alive.{all_first}
use Rattle.model_traces.proofs.OfSchedules.Keeping.{domains_stay, labels_stay, queued_leaves, same_points, taken_keeps, taken_leaves}
use Rattle.model_traces.proofs.OfSchedules.Lasting.{IsLastsFrom, all_is_taking, all_lasts_from, all_lasts_graph}
use Rattle.model_traces.proofs.OfSchedules.Labelled.{labels_ordered}
use Rattle.model_traces.proofs.OfSchedules.Moving.{has_node, same_domain}
use Rattle.model_traces.proofs.OfSchedules.Queueing.{IsQueuedFrom, all_is_queue}
use Rattle.model_traces.proofs.OfSchedules.Queues.{at_cut, dead_in, queues_during, queues_known}
use Rattle.model_traces.proofs.OfSchedules.Reaching.{all_from, holds_none, reached_names, taken_reach, taken_reached, taken_registers, waits_at}
use Rattle.model_traces.proofs.OfSchedules.Sameness.{reachable_alive, same_live, same_reach, same_settled}
use Rattle.model_traces.proofs.OfSchedules.Sealing.{held_mapped, many_same, queued_same, remade, same_mapped, seal_same}
use Rattle.model_traces.proofs.OfSchedules.Steps.{after_same}
use Rattle.model_traces.proofs.OfSchedules.Taken.{NodeOf, Taking, at_seal, gone_in, gone_last, takings}
use Rattle.model_traces.proofs.OfSchedules.Queued.{dead_of, others_of}
use Rattle.model_traces.proofs.OfSchedules.Wiped.{emptied_node}
use Rattle.model_traces.proofs.OfSchedules.Wiping.{all_wiped_domains, all_wiped_is_taking, all_wiped_nodes, cleaned}
use Rattle.model_traces.proofs.OfSchedules.Settled.{collected_ephemeron, collected_lasts}

pub legal_parts : (s : State) (h k : List Entry) → LegalFrom s (h ++ k) → LegalFrom s h × LegalFrom (state_after s h) k
legal_parts s [] k legal = (tt, legal)
legal_parts s (e ∷ h) k legal = let later = legal_parts (next s e) h k legal.1 in ((legal.0, later.0), later.1)

-- a label of a list all of which passes
each_of : (alive : Label → Bool) (ls : List Label) (l : Label) → AllAlive alive ls → IsTrue (has_label ls l) → IsTrue (alive l)
each_of alive [] l a h = cc
each_of alive (k ∷ ls) l a h = ⊎_elim (λ here. subst (λ z. IsTrue (alive z)) (same_label-true k l here) a.0) (λ later. each_of alive ls l a.1 later) (or_cases (same_label k l) (has_label ls l) h)

-- once a domain was opened for the entries to come
opened_at : (f : DomainState → DomainState) (P : DomainState → Type 0) → P no_domain → ((x : DomainState) → P (f x)) → (xs : List DomainState) (d : ℕ) → P (slice_index_or (map f xs) d no_domain)
opened_at f P none each [] d = none
opened_at f P none each (x ∷ xs) zero = each x
opened_at f P none each (x ∷ xs) (suc d) = opened_at f P none each xs d

mapped_registers : (f : DomainState → DomainState) → ((x : DomainState) → in_registers (f x) ≡ in_registers x) → (xs : List DomainState) → flat_map in_registers (map f xs) ≡ flat_map in_registers xs
mapped_registers f keeps [] = refl
mapped_registers f keeps (x ∷ xs) = ap (λ ls. ls ++ flat_map in_registers (map f xs)) (keeps x) ∙ ap (λ ls. in_registers x ++ ls) (mapped_registers f keeps xs)

module _ (z : Sizes) (h queued taken : List Entry) (queues_all : list_all is_queue queued ≡ true) (takes_all : list_all is_taking taken ≡ true) (legal : Legal z (h ++ (Cut ∷ queued ++ Seal ∷ taken)))
    (allowed : CollectedAllowed (state_after (next (state_after (next (state_after (opening z) h) Cut) queued) Seal) taken)) where
  abbrev pub start : State
  start = state_after (opening z) h

  abbrev pub cut : State
  cut = next start Cut

  abbrev pub queued_all : State
  queued_all = state_after cut queued

  abbrev pub sealed : State
  sealed = next queued_all Seal

  abbrev pub taken_all : State
  taken_all = state_after sealed taken

  -- the histories on the way, and that they are legal
  abbrev whole : List Entry
  whole = h ++ (Cut ∷ queued ++ Seal ∷ taken)

  whole_state : state_after (opening z) whole ≡ taken_all
  whole_state = state_after-append (opening z) h (Cut ∷ queued ++ Seal ∷ taken) ∙ state_after-append cut queued (Seal ∷ taken)

  legal_start : LegalFrom start (Cut ∷ queued ++ Seal ∷ taken)
  legal_start = (legal_parts (opening z) h (Cut ∷ queued ++ Seal ∷ taken) legal).1

  legal_queued : LegalFrom cut queued × LegalFrom queued_all (Seal ∷ taken)
  legal_queued = legal_parts cut queued (Seal ∷ taken) legal_start.1

  legal_taken : LegalFrom sealed taken
  legal_taken = legal_queued.1.1

  abbrev until_seal : List Entry
  until_seal = h ++ (Cut ∷ queued ++ Seal ∷ [])

  seal_state : state_after (opening z) until_seal ≡ sealed
  seal_state = state_after-append (opening z) h (Cut ∷ queued ++ Seal ∷ []) ∙ state_after-append cut queued (Seal ∷ [])

  legal_seal : Legal z until_seal
  legal_seal =
      let split : until_seal ++ taken ≡ whole = append_assoc h (Cut ∷ queued ++ Seal ∷ []) taken ∙ ap (λ k. h ++ Cut ∷ k) (append_assoc queued (Seal ∷ []) taken) in
      (legal_parts (opening z) until_seal taken (subst (λ k. LegalFrom (opening z) k) (sym split) legal)).0

  -- what the queues held at the cut they hold at the seal
  holds_cut : Within (pending_labels sealed.cut) (pending_labels (queues sealed))
  holds_cut = subst (λ (s : State). IsTrue (is_collecting s.mode) → Within (pending_labels s.cut) (pending_labels (queues s))) seal_state
      (holds_after (opening z) until_seal legal_seal (λ going. absurd (let clash : false ≡ true = going in cc))) refl

  -- what the cut reaches is the same at the end
  cut_roots : roots taken_all taken_all.cut ≡ roots cut cut.cut
  cut_roots =
      let during = queues_during cut cut queued (at_cut cut (λ d. opened_at with_finals_open (λ (x : DomainState). x.low ≡ length x.finals) refl (λ x. refl) start.domains d)) queues_all legal_queued.0 in
      let registers : flat_map in_registers taken_all.domains ≡ flat_map in_registers cut.domains =
      taken_registers sealed taken takes_all ∙ mapped_registers with_lasts_open (λ x. refl) queued_all.domains ∙ during.registers in
      let cuts : taken_all.cut ≡ cut.cut = taken_leaves (λ (v : State). v.cut) (λ v d x. refl) (λ v l n. refl) (λ v ls. refl) sealed taken takes_all ∙ during.cut in
      ap (λ rs. rs ++ flat_map (filter_map pending_label) taken_all.cut) registers ∙ ap (λ qs. flat_map in_registers cut.domains ++ flat_map (filter_map pending_label) qs) cuts

  seal_roots : roots sealed sealed.cut ≡ roots cut cut.cut
  seal_roots =
      let during = queues_during cut cut queued (at_cut cut (λ d. opened_at with_finals_open (λ (x : DomainState). x.low ≡ length x.finals) refl (λ x. refl) start.domains d)) queues_all legal_queued.0 in
      ap (λ rs. rs ++ flat_map (filter_map pending_label) sealed.cut) (mapped_registers with_lasts_open (λ x. refl) queued_all.domains ∙ during.registers)
      ∙ ap (λ qs. flat_map in_registers cut.domains ++ flat_map (filter_map pending_label) qs) during.cut

  seal_graph : sealed.graph ≡ cut.graph
  seal_graph = queued_leaves (λ (v : State). v.graph) (λ v d x. refl) cut queued queues_all

  cut_reach : reachable taken_all.graph (roots taken_all taken_all.cut) ≡ reachable cut.graph (roots cut cut.cut)
  cut_reach =
      let sub : (x : Label) → IsTrue (has_label (roots cut cut.cut) x) → IsTrue (has_label (settled_roots sealed (queues sealed)) x) = λ x a.
      has-append_left (roots sealed (queues sealed)) (waiting sealed) x (⊎_elim
      (λ b. has-append_left (flat_map in_registers sealed.domains) (pending_labels (queues sealed)) x b)
      (λ b. has-append_right (flat_map in_registers sealed.domains) (pending_labels (queues sealed)) x (holds_cut x b))
      (has-append_cases (flat_map in_registers sealed.domains) (pending_labels sealed.cut) x (subst (λ ls. IsTrue (has_label ls x)) (sym seal_roots) a))) in
      ap (reachable taken_all.graph) cut_roots ∙ taken_reach (roots cut cut.cut) sealed taken takes_all legal_taken sub ∙ ap (λ (g : Graph). reachable g (roots cut cut.cut)) seal_graph

  -- none that is dead waits any more
  seal_lows : (d : ℕ) → (domain_at sealed d).low ≡ length (domain_at sealed d).lasts
  seal_lows d = opened_at with_lasts_open (λ (x : DomainState). x.low ≡ length x.lasts) refl (λ x. refl) queued_all.domains d

  pub since_seal : Taking sealed taken_all
  since_seal = takings sealed sealed taken (at_seal sealed seal_lows) takes_all legal_taken

  seal_finals : (d : ℕ) → (domain_at sealed d).finals ≡ (domain_at queued_all d).finals
  seal_finals d = mapped queued_all.domains d
    where
      mapped : (xs : List DomainState) (d : ℕ) → (slice_index_or (map with_lasts_open xs) d no_domain).finals ≡ (slice_index_or xs d no_domain).finals
      mapped [] d = refl
      mapped (x ∷ xs) zero = refl
      mapped (x ∷ xs) (suc d) = mapped xs d

  none_left : (fs : List Finaliser) → list_all (is_reachable_with taken_all taken_all.cut) (map (λ f. f.label) fs) ≡ true → list_all (λ f. not (dead_in cut f)) fs ≡ true
  none_left [] e = refl
  none_left (f ∷ fs) e =
      let parts = and_parts (is_reachable_with taken_all taken_all.cut f.label) (list_all (is_reachable_with taken_all taken_all.cut) (map (λ g. g.label) fs)) e in
      let lives : has_label (reachable cut.graph (roots cut cut.cut)) f.label ≡ true = sym (ap (λ ls. has_label ls f.label) cut_reach) ∙ parts.0 in
      ap (λ b. not (not b) && list_all (λ g. not (dead_in cut g)) fs) lives ∙ none_left fs parts.1

  pub queued_known : (d : ℕ) → IsQueuedFrom (dead_in cut) (domain_at cut d) (domain_at queued_all d)
  queued_known d =
      let here : list_all (is_reachable_with taken_all taken_all.cut) (in_finals (domain_at taken_all d)) ≡ true = waits_at in_finals (is_reachable_with taken_all taken_all.cut) taken_all.domains d refl allowed.finals in
      let finals : (domain_at taken_all d).finals ≡ (domain_at queued_all d).finals = since_seal.finals d ∙ seal_finals d in
      let none = none_left (domain_at queued_all d).finals (sym (ap (λ fs. list_all (is_reachable_with taken_all taken_all.cut) (map (λ f. f.label) fs)) finals) ∙ here) in
      let known = queues_known cut queued d (λ e. opened_at with_finals_open (λ (x : DomainState). x.low ≡ length x.finals) refl (λ x. refl) start.domains e) queues_all legal_queued.0 none in
      record { finals = known.0; queue = known.1 }

  -- what is reached
  pub end_reach : reach taken_all ≡ reach sealed
  end_reach = taken_reached sealed taken takes_all legal_taken

  pub settled_within : Within (settled_reach taken_all (queues taken_all)) (reach taken_all)
  settled_within = subst (λ (s : State). Within (settled_reach s (queues s)) (reach s)) whole_state (collected_settled z whole legal (subst CollectedAllowed (sym whole_state) allowed)).0

  pub reach_within : Within (reach taken_all) (settled_reach taken_all (queues taken_all))
  reach_within = subst (λ (s : State). Within (reach s) (settled_reach s (queues s))) whole_state (collected_settled z whole legal (subst CollectedAllowed (sym whole_state) allowed)).1

  pub end_names : (l : Label) (n : Node) → IsTrue (has_label (reach taken_all) l) → node_at taken_all.graph l ≡ Some n → AllAlive (has_label (reach taken_all)) (names_of n)
  end_names = subst (λ (s : State). (l : Label) (n : Node) → IsTrue (has_label (reach s) l) → node_at s.graph l ≡ Some n → AllAlive (has_label (reach s)) (names_of n)) whole_state (reached_names z whole (subst CollectedAllowed (sym whole_state) allowed))

  pub end_ordered : (l : Label) → IsTrue (has_label (labels sealed.graph) l) → IsTrue (has_label (labels_in_order sealed) l)
  end_ordered = subst (λ (s : State). (l : Label) → IsTrue (has_label (labels s.graph) l) → IsTrue (has_label (labels_in_order s) l)) seal_state (labels_ordered z until_seal legal_seal)

  module _ (t : State) (same : IsSameBut start t) where
    abbrev pub other_cut : State
    other_cut = next t Cut

    abbrev pub other_sealed : State
    other_sealed = next (state_after other_cut (all_queued other_cut)) Seal

    pub seals_same : IsSameBut sealed other_sealed
    seals_same = seal_same queued_all (state_after other_cut (all_queued other_cut)) (queued_same start t same queued queues_all queued_known)

    abbrev alive : Label → Bool
    alive = has_label (reach taken_all)

    -- what is reached at the end was so at the seal, in both
    reached_then : (l : Label) → IsTrue (alive l) → IsTrue (has_label (reach sealed) l)
    reached_then l a = subst (λ ls. IsTrue (has_label ls l)) end_reach a

    passed_then : (l : Label) → IsTrue (alive l) → IsTrue (seals_same.alive l)
    passed_then l a =
        each_of seals_same.alive (reach sealed) l
        (reachable_alive sealed other_sealed seals_same (roots sealed (queues sealed)) (all_first seals_same.alive (roots sealed (queues sealed)) (waiting sealed) seals_same.held.roots)) (reached_then l a)

    gone_same : gone_in other_sealed ≡ gone_in sealed
    gone_same = ap (λ ls l. not (has_label ls l)) (same_settled sealed other_sealed seals_same)

    order_same : labels_in_order other_sealed ≡ labels_in_order sealed
    order_same =
        let serials : (λ d. (domain_at other_sealed d).serial) ≡ (λ d. (domain_at sealed d).serial) = λ i d. (same_domain sealed other_sealed seals_same d).serial i in
        let many : length other_sealed.domains ≡ length sealed.domains = many_same sealed other_sealed seals_same in
        ap (λ (f : ℕ → ℕ). shared_label ∷ flat_map (λ d. map (λ n. record { domain = d; serial = n }) (range_with_len 1 (f d))) (range_with_len 0 (length other_sealed.domains))) serials
        ∙ ap (λ (n : ℕ). shared_label ∷ flat_map (λ d. map (λ k. record { domain = d; serial = k }) (range_with_len 1 (domain_at sealed d).serial)) (range_with_len 0 n)) many

    abbrev pub other_wiped : State
    other_wiped = state_after other_sealed (all_wiped other_sealed)

    wiped_labels : labels other_wiped.graph ≡ labels other_sealed.graph
    wiped_labels = taken_leaves (λ (v : State). labels v.graph) (λ v d x. refl) labels_stay (λ v ls. refl) other_sealed (all_wiped other_sealed) (all_wiped_is_taking other_sealed)

    -- what is reached has the same blocks
    old_node : (l : Label) (o : Option Node) → node_at sealed.graph l ≡ o → NodeOf sealed o (node_at taken_all.graph l)
    old_node l o at = subst (λ (p : Option Node). NodeOf sealed p (node_at taken_all.graph l)) at (since_seal.nodes l)

    emptied_now : (l : Label) (n : Node) → IsTrue (alive l) → node_at sealed.graph l ≡ Some n → node_at taken_all.graph l ≡ Some (emptied_node (gone_in sealed) n)
    emptied_now l (Plain tag fields) a at = old_node l (Some (Plain tag fields)) at
    emptied_now l (Raw tag fields) a at = old_node l (Some (Raw tag fields)) at
    emptied_now l (Ephe keys datum) a at = go (node_at taken_all.graph l) refl (old_node l (Some (Ephe keys datum)) at)
      where
        go : (o : Option Node) → node_at taken_all.graph l ≡ o → NodeOf sealed (Some (Ephe keys datum)) o → o ≡ Some (emptied_node (gone_in sealed) (Ephe keys datum))
        go None is n = let clash : ◌≡◌ {A = Option Node} None (Some (Ephe keys datum)) = n in cc
        go (Some (Plain tag fields)) is n = let clash : ◌≡◌ {A = Option Node} (Some (Plain tag fields)) (Some (Ephe keys datum)) = n in cc
        go (Some (Raw tag fields)) is n = let clash : ◌≡◌ {A = Option Node} (Some (Raw tag fields)) (Some (Ephe keys datum)) = n in cc
        go (Some (Ephe now left)) is n = ap Some (collected_ephemeron sealed taken_all since_seal l keys datum now left allowed a at is)

    nodes_now : (l : Label) → IsTrue (alive l) → node_at other_wiped.graph l ≡ node_at taken_all.graph l
    nodes_now l a = go (node_at sealed.graph l) refl
      where
        go : (o : Option Node) → node_at sealed.graph l ≡ o → node_at other_wiped.graph l ≡ node_at taken_all.graph l
        go None at =
            let there : node_at other_sealed.graph l ≡ None = seals_same.nodes l (passed_then l a) ∙ at in
            node_at-no_label other_wiped.graph l (ap (λ ls. has_label ls l) wiped_labels ∙ no_label other_sealed.graph l there) ∙ sym (old_node l None at)
        go (Some n) at =
            let there : node_at other_sealed.graph l ≡ Some n = seals_same.nodes l (passed_then l a) ∙ at in
            let reached : IsTrue (has_label (reach other_sealed) l) = subst (λ ls. IsTrue (has_label ls l)) (sym (same_reach sealed other_sealed seals_same)) (reached_then l a) in
            let listed : IsTrue (has_label (labels_in_order other_sealed) l) = subst (λ ls. IsTrue (has_label ls l)) (sym order_same) (end_ordered l (has_node sealed.graph l n at)) in
            all_wiped_nodes other_sealed l reached listed ∙ ap (cleaned other_sealed) there ∙ ap (λ (gone : Label → Bool). Some (emptied_node gone n)) gone_same ∙ sym (emptied_now l n a at)

    -- the seal with the blocks of the end
    abbrev half : State
    half = record sealed { graph = taken_all.graph }

    settled_alive : (l : Label) → IsTrue (has_label (settled_reach sealed (queues sealed)) l) → IsTrue (alive l)
    settled_alive l h = settled_within l (subst (λ ls. IsTrue (has_label ls l)) (sym since_seal.settled) h)

    half_same : IsSameBut half other_wiped
    half_same = record {
      alive = alive;
      held = record {
        roots = all_from alive (settled_roots sealed (queues sealed)) (λ l h. settled_alive l (reachable_roots sealed.graph (settled_roots sealed (queues sealed)) l h));
        nodes = end_names;
      };
      nodes = nodes_now;
      labels_same = wiped_labels ∙ seals_same.labels_same ∙ sym (taken_leaves (λ (v : State). labels v.graph) (λ v d x. refl) labels_stay (λ v ls. refl) sealed taken takes_all);
      domains = subst (λ (xs : List DomainState). AreSameDomains sealed.domains xs) (sym (all_wiped_domains other_sealed)) seals_same.domains;
      sizes = taken_leaves (λ (v : State). v.sizes) (λ v d x. refl) (λ v l n. refl) (λ v ls. refl) other_sealed (all_wiped other_sealed) (all_wiped_is_taking other_sealed) ∙ seals_same.sizes;
      mode = taken_leaves (λ (v : State). v.mode) (λ v d x. refl) (λ v l n. refl) (λ v ls. refl) other_sealed (all_wiped other_sealed) (all_wiped_is_taking other_sealed) ∙ seals_same.mode;
      kept = taken_leaves (λ (v : State). v.kept) (λ v d x. refl) (λ v l n. refl) (λ v ls. refl) other_sealed (all_wiped other_sealed) (all_wiped_is_taking other_sealed) ∙ seals_same.kept;
    }

    settled_now : settled_reach other_wiped (queues other_wiped) ≡ settled_reach sealed (queues sealed)
    settled_now = same_settled half other_wiped half_same ∙ taken_reach (settled_roots sealed (queues sealed)) sealed taken takes_all legal_taken (λ x h. h)

    -- each `finalise_last` whose block is gone may be queued
    let_go : (l : Label) → gone_in sealed l ≡ true → is_let_go other_wiped l ≡ true
    let_go l gone = all_labels (λ x. not (ephe_holds l (node_at other_wiped.graph x))) (settled_reach other_wiped (queues other_wiped)) (λ x h.
        let reached : IsTrue (alive x) = settled_alive x (subst (λ ls. IsTrue (has_label ls x)) settled_now h) in
        let dead : alive l ≡ false = never_true (alive l) (λ a.
        let inside : has_label (settled_reach sealed (queues sealed)) l ≡ true = subst (λ ls. IsTrue (has_label ls l)) since_seal.settled (reach_within l a) in
        let clash : false ≡ true = sym (ap not inside) ∙ gone in cc) in
        go x reached dead (node_at taken_all.graph x) refl)
      where
        go : (x : Label) → IsTrue (alive x) → alive l ≡ false → (o : Option Node) → node_at taken_all.graph x ≡ o → not (ephe_holds l (node_at other_wiped.graph x)) ≡ true
        go x reached dead None at = ap (λ (o : Option Node). not (ephe_holds l o)) (nodes_now x reached ∙ at)
        go x reached dead (Some (Plain tag fields)) at = ap (λ (o : Option Node). not (ephe_holds l o)) (nodes_now x reached ∙ at)
        go x reached dead (Some (Raw tag fields)) at = ap (λ (o : Option Node). not (ephe_holds l o)) (nodes_now x reached ∙ at)
        go x reached dead (Some (Ephe keys datum)) at =
            ap (λ (o : Option Node). not (ephe_holds l o)) (nodes_now x reached ∙ at) ∙ ap not (holds_none alive l keys datum dead (end_names x (Ephe keys datum) reached at))

    abbrev may_queue : LastFinaliser → Bool
    may_queue f = is_gone other_wiped (queues other_wiped) f.label && is_let_go other_wiped f.label

    may_queue_is : (f : LastFinaliser) → may_queue f ≡ gone_last sealed f
    may_queue_is f = go (gone_last sealed f) refl (ap (λ ls. not (has_label ls f.label)) settled_now)
      where
        go : (b : Bool) → gone_last sealed f ≡ b → is_gone other_wiped (queues other_wiped) f.label ≡ gone_last sealed f → may_queue f ≡ gone_last sealed f
        go true e now = ap (λ b. b && is_let_go other_wiped f.label) (now ∙ e) ∙ let_go f.label e ∙ sym e
        go false e now = ap (λ b. b && is_let_go other_wiped f.label) (now ∙ e) ∙ sym e

    abbrev pub other_taken : State
    other_taken = state_after other_wiped (all_lasts other_wiped)

    pub lasts_taking : list_all is_taking (all_lasts other_wiped) ≡ true
    lasts_taking = all_is_taking may_queue other_wiped

    wiped_domain : (d : ℕ) → domain_at other_wiped d ≡ domain_at other_sealed d
    wiped_domain d = ap (λ (xs : List DomainState). slice_index_or xs d no_domain) (all_wiped_domains other_sealed)

    same_part : {B : Type 0} (f : DomainState → B) → ((x : DomainState) (place : ℕ) → f (with_last_queued x place) ≡ f x) → (d : ℕ) → f (domain_at other_sealed d) ≡ f (domain_at sealed d) → f (domain_at other_taken d) ≡ f (domain_at taken_all d)
    same_part f keeps d is = taken_keeps f keeps other_wiped (all_lasts other_wiped) lasts_taking d ∙ ap f (wiped_domain d) ∙ is ∙ sym (taken_keeps f keeps sealed taken takes_all d)

    same_end_domain : (d : ℕ) → IsSameDomain (domain_at taken_all d) (domain_at other_taken d)
    same_end_domain d =
        let is : IsSameDomain (domain_at sealed d) (domain_at other_sealed d) = same_domain sealed other_sealed seals_same d in
        let new : IsLastsFrom may_queue (domain_at other_wiped d) (domain_at other_taken d) = all_lasts_from may_queue other_wiped d in
        let old = collected_lasts sealed taken_all since_seal d allowed in
        let tests : may_queue ≡ gone_last sealed = λ i f. may_queue_is f i in
        let lasts_then : (domain_at other_wiped d).lasts ≡ (domain_at sealed d).lasts = ap (λ (x : DomainState). x.lasts) (wiped_domain d) ∙ is.lasts in
        let queue_then : (domain_at other_wiped d).queue ≡ (domain_at sealed d).queue = ap (λ (x : DomainState). x.queue) (wiped_domain d) ∙ is.queue in
        record {
          registers = same_part (λ x. x.registers) (λ x p. refl) d is.registers;
          serial = same_part (λ x. x.serial) (λ x p. refl) d is.serial;
          ended = same_part (λ x. x.ended) (λ x p. refl) d is.ended;
          finals = same_part (λ x. x.finals) (λ x p. refl) d is.finals;
          lasts = new.lasts ∙ ap (λ test. others_of queued_last test (domain_at other_wiped d).lasts) tests ∙ ap (others_of queued_last (gone_last sealed)) lasts_then ∙ sym old.0;
          queue = new.queue ∙ ap (λ test. (domain_at other_wiped d).queue ++ map queued_last (reverse (dead_of queued_last test (domain_at other_wiped d).lasts))) tests
              ∙ ap (λ fs. (domain_at other_wiped d).queue ++ map queued_last (reverse (dead_of queued_last (gone_last sealed) fs))) lasts_then
              ∙ ap (λ q. q ++ map queued_last (reverse (dead_of queued_last (gone_last sealed) (domain_at sealed d).lasts))) queue_then ∙ sym old.1;
          fresh = same_part (λ x. x.fresh) (λ x p. refl) d is.fresh;
          due = same_part (λ x. x.due) (λ x p. refl) d is.due;
        }

    same_whole : {B : Type 0} (f : State → B) → ((v : State) (d : ℕ) (x : DomainState) → f (with_domain v d x) ≡ f v) → ((v : State) (l : Label) (n : Node) → f (with_block v l n) ≡ f v) → ((v : State) (ls : List Label) → f (with_taken v ls) ≡ f v)
        → f other_sealed ≡ f sealed → f other_taken ≡ f taken_all
    same_whole f a b c is =
        taken_leaves f a b c other_wiped (all_lasts other_wiped) lasts_taking ∙ taken_leaves f a b c other_sealed (all_wiped other_sealed) (all_wiped_is_taking other_sealed) ∙ is ∙ sym (taken_leaves f a b c sealed taken takes_all)

    -- the two are the same but for garbage where they are complete
    pub ends_same : IsSameBut taken_all other_taken
    ends_same = record {
      alive = alive;
      held = record {
        roots = all_from alive (settled_roots taken_all (queues taken_all)) (λ l h. settled_within l (reachable_roots taken_all.graph (settled_roots taken_all (queues taken_all)) l h));
        nodes = end_names;
      };
      nodes = λ l a. ap (λ (g : Graph). node_at g l) (all_lasts_graph may_queue other_wiped) ∙ nodes_now l a;
      labels_same = same_whole (λ (v : State). labels v.graph) (λ v d x. refl) labels_stay (λ v ls. refl) seals_same.labels_same;
      domains = same_points taken_all.domains other_taken.domains (same_whole (λ (v : State). length v.domains) domains_stay (λ v l n. refl) (λ v ls. refl) (many_same sealed other_sealed seals_same)) same_end_domain;
      sizes = same_whole (λ (v : State). v.sizes) (λ v d x. refl) (λ v l n. refl) (λ v ls. refl) seals_same.sizes;
      mode = same_whole (λ (v : State). v.mode) (λ v d x. refl) (λ v l n. refl) (λ v ls. refl) seals_same.mode;
      kept = same_whole (λ (v : State). v.kept) (λ v d x. refl) (λ v l n. refl) (λ v ls. refl) seals_same.kept;
    }

-- a collection is answered, and done
pub collected_same : (s t : State) (same : IsSameBut s t) → IsSameBut (next s Collected) (next t Collected)
collected_same s t same =
    remade s t same (next s Collected) (next t Collected) refl refl
    (held_mapped freshened same.alive (λ x h. record { registers = h.registers; queue = h.queue; finals = h.finals }) s.domains (domains_held same.alive s same.held))
    (same_mapped freshened (λ x y is. record { registers = is.registers; serial = is.serial; ended = is.ended; finals = is.finals; lasts = is.lasts; queue = is.queue; fresh = refl; due = is.due }) s.domains t.domains same.domains)
    same.sizes refl (ap length (same_reach s t same))

pub done_same : (s t : State) (same : IsSameBut s t) → IsSameBut (next s Done) (next t Done)
done_same s t same = remade s t same (next s Done) (next t Done) refl refl (domains_held same.alive s same.held) same.domains same.sizes refl same.kept

-- the answers are the same
pub record AreAnswered (s t : State) (answered : List Entry) : Type 0 where
  pub states : IsSameBut (state_after s answered) (state_after t answered)
  pub replies : (d : ℕ) → replies_from t answered d ≡ replies_from s answered d

pub answers_same : (s t : State) → IsSameBut s t → (answered : List Entry) → list_all is_answer answered ≡ true → AreAnswered s t answered
answers_same s t same [] all = record { states = same; replies = λ d. refl }
answers_same s t same (CommandOf e FullMajor false ∷ answered) all =
    let later = answers_same (next s (CommandOf e FullMajor false)) (next t (CommandOf e FullMajor false)) (after_same s t same e) answered all in
    record {
      states = later.states;
      replies = λ d. ap (λ (r : Reply). cond (e == d) (r ∷ []) [] ++ replies_from (next t (CommandOf e FullMajor false)) answered d) (same_live s t same)
          ∙ ap (λ rs. cond (e == d) (live_reply s ∷ []) [] ++ rs) (later.replies d);
    }
answers_same s t same (e ∷ answered) all = cc

-- entries of the collector answer nothing
quiet : (is : Entry → Bool) → ((d : ℕ) (e : Entry) → is e ≡ true → not (is_entry_of d e) ≡ true) → (d : ℕ) (h : List Entry) → list_all is h ≡ true → list_all (λ e. not (is_entry_of d e)) h ≡ true
quiet is none d [] all = refl
quiet is none d (e ∷ h) all = let parts = and_parts (is e) (list_all is h) all in ap (λ b. b && list_all (λ x. not (is_entry_of d x)) h) (none d e parts.0) ∙ quiet is none d h parts.1

queue_quiet : (d : ℕ) (e : Entry) → is_queue e ≡ true → not (is_entry_of d e) ≡ true
queue_quiet d (Queue k places) is = refl
queue_quiet d e is = cc

taking_quiet : (d : ℕ) (e : Entry) → is_taking e ≡ true → not (is_entry_of d e) ≡ true
taking_quiet d (Wipe l places) is = refl
taking_quiet d (Last k place) is = refl
taking_quiet d e is = cc

-- what a complete collection leaves and answers, by its parts
module _ (s : State) (queued taken answered : List Entry) where
  abbrev collected_at : State
  collected_at = next (state_after (next (state_after (next s Cut) queued) Seal) taken) Collected

  abbrev all_of : List Entry
  all_of = Cut ∷ queued ++ Seal ∷ taken ++ Collected ∷ answered ++ Done ∷ []

  parts_are : all_of ≡ Cut ∷ (queued ++ (Seal ∷ (taken ++ (Collected ∷ (answered ++ Done ∷ [])))))
  parts_are =
      append_assoc (Cut ∷ queued ++ Seal ∷ taken) (Collected ∷ answered) (Done ∷ []) ∙ append_assoc (Cut ∷ queued) (Seal ∷ taken) (Collected ∷ answered ++ Done ∷ [])

  pub left_by : state_after s all_of ≡ next (state_after collected_at answered) Done
  left_by =
      ap (state_after s) parts_are ∙ state_after-append (next s Cut) queued (Seal ∷ (taken ++ (Collected ∷ (answered ++ Done ∷ []))))
      ∙ state_after-append (next (state_after (next s Cut) queued) Seal) taken (Collected ∷ (answered ++ Done ∷ [])) ∙ state_after-append collected_at answered (Done ∷ [])

  pub answered_by : list_all is_queue queued ≡ true → list_all is_taking taken ≡ true → (d : ℕ) → replies_from s all_of d ≡ replies_from collected_at answered d
  answered_by queues_all takes_all d =
      let cut : State = next s Cut in
      let sealed : State = next (state_after cut queued) Seal in
      let behind : List Entry = Collected ∷ (answered ++ Done ∷ []) in
      ap (λ k. replies_from s k d) parts_are
      ∙ replies_from-append cut queued (Seal ∷ (taken ++ behind)) d ∙ ap (λ rs. rs ++ replies_from sealed (taken ++ behind) d) (replies_from-others cut queued d (quiet is_queue queue_quiet d queued queues_all))
      ∙ replies_from-append sealed taken behind d ∙ ap (λ rs. rs ++ replies_from collected_at (answered ++ Done ∷ []) d) (replies_from-others sealed taken d (quiet is_taking taking_quiet d taken takes_all))
      ∙ replies_from-append collected_at answered (Done ∷ []) d ∙ append-nil (replies_from collected_at answered d)

pub collection_law : CollectionLaw
collection_law z h t c answered legal mode same is =
    let s : State = state_after (opening z) h in
    let queued : List Entry = is.queued in
    let taken : List Entry = is.taken in
    let behind : List Entry = Collected ∷ (answered ++ Done ∷ []) in
    let all_legal : Legal z (h ++ (Cut ∷ queued ++ Seal ∷ taken) ++ behind) =
    subst (λ k. LegalFrom (opening z) k)
    (ap (λ k. h ++ k) (is.is ∙ append_assoc (Cut ∷ queued ++ Seal ∷ taken) (Collected ∷ answered) (Done ∷ [])) ∙ sym (append_assoc h (Cut ∷ queued ++ Seal ∷ taken) behind)) legal in
    let split = legal_parts (opening z) (h ++ (Cut ∷ queued ++ Seal ∷ taken)) behind all_legal in
    let allowed : CollectedAllowed (state_after (next (state_after (next s Cut) queued) Seal) taken) =
    subst CollectedAllowed (state_after-append (opening z) h (Cut ∷ queued ++ Seal ∷ taken) ∙ state_after-append (next s Cut) queued (Seal ∷ taken)) split.1.0 in
    let ends = ends_same z h queued taken is.are_queues is.are_taking split.0 allowed t same in
    let collected = collected_same (state_after (next (state_after (next s Cut) queued) Seal) taken) (other_taken z h queued taken is.are_queues is.are_taking split.0 allowed t same) ends in
    let answers = answers_same (next (state_after (next (state_after (next s Cut) queued) Seal) taken) Collected) (next (other_taken z h queued taken is.are_queues is.are_taking split.0 allowed t same) Collected) collected answered is.are_answers in
    let cut : State = next t Cut in
    let sealed : State = next (state_after cut (all_queued cut)) Seal in
    let wiped : List Entry = all_wiped sealed in
    let lasts : List Entry = all_lasts (state_after sealed wiped) in
    let joined : state_after sealed (wiped ++ lasts) ≡ state_after (state_after sealed wiped) lasts = state_after-append sealed wiped lasts in
    let shape : complete t answered ≡ all_of t (all_queued cut) (wiped ++ lasts) answered =
    ap (λ k. k ++ (Collected ∷ answered) ++ Done ∷ []) (append_assoc (Cut ∷ all_queued cut) (Seal ∷ wiped) lasts) in
    let takes : list_all is_taking (wiped ++ lasts) ≡ true =
    list_all-append is_taking wiped lasts ∙ ap (λ b. b && list_all is_taking lasts) (all_wiped_is_taking sealed) ∙ lasts_taking z h queued taken is.are_queues is.are_taking split.0 allowed t same in
    let left : state_after (opening z) (h ++ c) ≡ next (state_after (next (state_after (next (state_after (next s Cut) queued) Seal) taken) Collected) answered) Done =
    state_after-append (opening z) h c ∙ ap (state_after s) is.is ∙ left_by s queued taken answered in
    let here : State = next (state_after (next (state_after (next (state_after (next s Cut) queued) Seal) taken) Collected) answered) Done in
    let left_too : state_after t (complete t answered) ≡ next (state_after (next (state_after (state_after sealed wiped) lasts) Collected) answered) Done =
    ap (state_after t) shape ∙ left_by t (all_queued cut) (wiped ++ lasts) answered ∙ ap (λ (v : State). next (state_after (next v Collected) answered) Done) joined in (
      subst (λ (v : State). IsSameBut v (state_after t (complete t answered))) (sym left) (subst (λ (v : State). IsSameBut here v) (sym left_too) (done_same _ _ answers.states)),
      λ d. ap (λ k. replies_from t k d) shape ∙ answered_by t (all_queued cut) (wiped ++ lasts) answered (all_is_queue cut) takes d ∙ ap (λ (v : State). replies_from (next v Collected) answered d) joined ∙ answers.replies d
          ∙ sym (ap (λ k. replies_from s k d) is.is ∙ answered_by s queued taken answered is.are_queues is.are_taking d),
    )
