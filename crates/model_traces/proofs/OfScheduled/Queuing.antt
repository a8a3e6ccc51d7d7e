-- What a schedule's collection queues may be queued, and behind it the collection may be sealed.
use Rattle.std.proofs.Common.{◌≡◌, ℕ, zero, suc, ◌+◌, ◌≤◌, Bool, true, false, not, ◌&&◌, IsTrue, List, [], ◌∷◌, ◌++◌, map, length, filter_map, get_or, refl, sym, ap, ◌∙◌, subst, ⊎_elim, arith, Some, None}
use Rattle.std.specs.Prelude.{Option, cond, drop, flat_map, nat_lt, reverse, slice_get, slice_index_or}
use Rattle.std.specs.List.{list_all, range_with_len}
use Rattle.std.proofs.Math.Seq.{drop-append_seam}
use Rattle.std.proofs.lemmas.Bool.{and_parts}
use Rattle.std.proofs.lemmas.List.{reverse-append}
use Rattle.std.proofs.lemmas.List.Folds.{list_all-append, list_all-map}
use Rattle.model_core.specs.declared.label.Label.{Label}
use Rattle.model_core.specs.declared.entry.Entry.{Entry}
use Rattle.model_core.specs.declared.entry.Entry.TheVariants.{Cut, Queue}
use Rattle.model_core.specs.declared.state.DomainState.{DomainState}
use Rattle.model_core.specs.declared.state.Finaliser.{Finaliser}
use Rattle.model_core.specs.declared.state.Mode.TheVariants.{Cut as CutMode}
use Rattle.model_core.specs.declared.state.Pending.{Pending}
use Rattle.model_core.specs.declared.state.Sizes.{Sizes}
use Rattle.model_core.specs.declared.state.State.{State}
use Rattle.model_core.specs.Graph.{Graph, has_label}
use Rattle.model_core.specs.Domains.{domain_at, is_reachable_with, no_domain, opening, pending_label, queues, roots, waiting}
use Rattle.model_core.specs.Reach.{IsClosedUnder, IsLeastClosed, reachable}
use Rattle.model_core.specs.Entries.{QueueAllowed, SealAllowed, is_some_and, next, queued_after, queued_beyond, queued_final, with_finals_open, with_queued}
use Rattle.model_core.specs.History.{LegalFrom, state_after}
use Rattle.model_core.specs.WellFormed.{IsWellFormed}
use Rattle.model_core.proofs.Collections.CollectionLemmas.{all_has}
use Rattle.model_core.proofs.Collections.CutLemmas.{part_same, queues_mapped}
use Rattle.model_core.proofs.Collections.MarkLemmas.{seal_marked}
use Rattle.model_core.proofs.Graphs.ListLemmas.{set_cases}
use Rattle.model_core.proofs.Histories.HistoryLemmas.{legal_append, state_after-append}
use Rattle.model_core.proofs.Histories.WellFormedLemmas.{closed_graph, wf_after, wf_opening}
use Rattle.model_core.proofs.Reach.ReachLemmas.{reach_law}
use Rattle.model_traces.specs.Schedules.Scheduled.{all_queued, dead_finals, queuing}
use Rattle.model_traces.proofs.OfSchedules.Holding.{in_finals, in_registers}
use Rattle.model_traces.proofs.OfSchedules.Keeping.{queued_leaves}
use Rattle.model_traces.proofs.OfSchedules.Queued.{dead_of, others_of}
use Rattle.model_traces.proofs.OfSchedules.Queueing.{all_is_queue, all_queued_from}
use Rattle.model_traces.proofs.OfSchedules.Queues.{During, at_cut, dead_in, queues_during}
use Rattle.model_traces.proofs.OfScheduled.Places.{Rises, all_pass, are_below, are_rising, places_rise}

-- those that pass pass, and the others don't
module _ {A : Type 0} (to_pending : A → Pending) (test : A → Bool) where
  pub dead_pass : (xs : List A) → list_all test (dead_of to_pending test xs) ≡ true
  dead_pass [] = refl
  dead_pass (x ∷ xs) = go (test x) refl (dead_pass xs)
    where
      go : (b : Bool) → test x ≡ b → list_all test (dead_of to_pending test xs) ≡ true → list_all test (cond b (x ∷ dead_of to_pending test xs) (dead_of to_pending test xs)) ≡ true
      go true e rest = ap (λ t. t && list_all test (dead_of to_pending test xs)) e ∙ rest
      go false e rest = rest

  pub others_fail : (xs : List A) → list_all (λ x. not (test x)) (others_of to_pending test xs) ≡ true
  others_fail [] = refl
  others_fail (x ∷ xs) = go (test x) refl (others_fail xs)
    where
      go : (b : Bool) → test x ≡ b → list_all (λ y. not (test y)) (others_of to_pending test xs) ≡ true → list_all (λ y. not (test y)) (cond b (others_of to_pending test xs) (x ∷ others_of to_pending test xs)) ≡ true
      go true e rest = rest
      go false e rest = ap (λ t. not t && list_all (λ y. not (test y)) (others_of to_pending test xs)) e ∙ rest

all_reversed : {A : Type 0} (test : A → Bool) (xs : List A) → list_all test xs ≡ true → list_all test (reverse xs) ≡ true
all_reversed test [] all = refl
all_reversed test (x ∷ xs) all =
    let parts = and_parts (test x) (list_all test xs) all in
    ap (list_all test) (reverse-append (x ∷ []) xs) ∙ list_all-append test (reverse xs) (x ∷ []) ∙ ap (λ b. b && list_all test (x ∷ [])) (all_reversed test xs parts.1) ∙ ap (λ b. b && true) parts.0

-- what holds of all domains' parts
pub all_parts_pass : {A : Type 0} (parts : DomainState → List A) (test : A → Bool) (xs : List DomainState) → ((d : ℕ) → list_all test (parts (get_or xs d no_domain)) ≡ true) → list_all test (flat_map parts xs) ≡ true
all_parts_pass parts test [] each = refl
all_parts_pass parts test (x ∷ xs) each =
    list_all-append test (parts x) (flat_map parts xs) ∙ ap (λ b. b && list_all test (flat_map parts xs)) (each zero) ∙ all_parts_pass parts test xs (λ d. each (suc d))

queued_labels : (fs : List Finaliser) → filter_map pending_label (map queued_final fs) ≡ map (λ f. f.label) fs
queued_labels [] = refl
queued_labels (f ∷ fs) = ap (λ ls. f.label ∷ ls) (queued_labels fs)

-- the labels that queues hold beyond others, where they hold the same before
beyond_pass : (test : Label → Bool) (ys xs : List DomainState) (gone : ℕ → List Finaliser) → ((d : ℕ) → (get_or ys d no_domain).queue ≡ (get_or xs d no_domain).queue ++ map queued_final (gone d))
    → ((d : ℕ) → list_all (λ f. test f.label) (gone d) ≡ true) → list_all test (queued_beyond (map (λ x. x.queue) ys) (map (λ x. x.queue) xs)) ≡ true
beyond_pass test [] xs gone grown all = refl
beyond_pass test (y ∷ ys) [] gone grown all = refl
beyond_pass test (y ∷ ys) (x ∷ xs) gone grown all =
    let rest : List Label = queued_beyond (map (λ v. v.queue) ys) (map (λ v. v.queue) xs) in
    let own : queued_after y.queue (Some x.queue) ≡ map (λ f. f.label) (gone 0) =
    ap (λ q. filter_map pending_label (drop (length x.queue) q)) (grown 0) ∙ ap (filter_map pending_label) (drop-append_seam x.queue (map queued_final (gone 0))) ∙ queued_labels (gone 0) in
    list_all-append test (queued_after y.queue (Some x.queue)) rest ∙ ap (λ b. b && list_all test rest) (ap (list_all test) own ∙ list_all-map test (λ (f : Finaliser). f.label) (gone 0) ∙ all 0)
    ∙ beyond_pass test ys xs (λ d. gone (suc d)) (λ d. grown (suc d)) (λ d. all (suc d))

-- what is dead depends on the blocks, the registers and the queues at the cut
dead_alike : (s t : State) → t.graph ≡ s.graph → t.cut ≡ s.cut → flat_map in_registers t.domains ≡ flat_map in_registers s.domains → (l : Label) → is_reachable_with t t.cut l ≡ is_reachable_with s s.cut l
dead_alike s t graph cut registers l =
    ap (λ (g : Graph). has_label (reachable g (flat_map in_registers t.domains ++ flat_map (filter_map pending_label) t.cut)) l) graph
    ∙ ap (λ rs. has_label (reachable s.graph (rs ++ flat_map (filter_map pending_label) t.cut)) l) registers
    ∙ ap (λ (qs : List (List Pending)). has_label (reachable s.graph (flat_map in_registers s.domains ++ flat_map (filter_map pending_label) qs)) l) cut

some_same : (p q : Finaliser → Bool) → ((f : Finaliser) → p f ≡ q f) → (o : Option Finaliser) → is_some_and p o ≡ is_some_and q o
some_same p q each None = refl
some_same p q each (Some f) = each f

all_alike : (p q : ℕ → Bool) → ((n : ℕ) → p n ≡ q n) → (ns : List ℕ) → list_all q ns ≡ true → list_all p ns ≡ true
all_alike p q each [] all = refl
all_alike p q each (n ∷ ns) all = let parts = and_parts (q n) (list_all q ns) all in ap (λ b. b && list_all p ns) (each n ∙ parts.0) ∙ all_alike p q each ns parts.1

-- from the cut on
module _ (s : State) (cutting : s.mode ≡ CutMode) (lows : (d : ℕ) → (domain_at s d).low ≡ length (domain_at s d).finals) where
  -- the state in which what the domains before a may queue was queued
  record Since (t : State) (a : ℕ) : Type 0 where
    mode : t.mode ≡ CutMode
    dead : (l : Label) → is_reachable_with t t.cut l ≡ is_reachable_with s s.cut l
    still : (k : ℕ) → a ≤ k → domain_at t k ≡ domain_at s k

  may_queue : (t : State) (a p : ℕ) (ps : List ℕ) → Since t a → dead_finals s a ≡ p ∷ ps → QueueAllowed t a (p ∷ ps)
  may_queue t a p ps since is =
      let x : DomainState = domain_at s a in
      let passes : ℕ → Bool = λ q. is_some_and (dead_in s) (slice_get x.finals q) in
      let rises : Rises passes 0 (length x.finals) (p ∷ ps) = subst (Rises passes 0 (length x.finals)) is (places_rise (dead_in s) x.finals) in
      let same : domain_at t a ≡ x = since.still a (omega arith) in
      record {
        mode = since.mode;
        rising = are_rising passes 0 (length x.finals) p ps rises;
        below = subst (λ (b : ℕ). list_all (λ q. nat_lt q b) (p ∷ ps) ≡ true) (sym (ap (λ (y : DomainState). y.low) same ∙ lows a)) (are_below passes 0 (length x.finals) (p ∷ ps) rises);
        dead = all_alike (λ q. is_some_and (dead_in t) (slice_get (domain_at t a).finals q)) passes
            (λ q. some_same (dead_in t) (dead_in s) (λ f. ap not (since.dead f.label)) (slice_get (domain_at t a).finals q) ∙ ap (λ (y : DomainState). is_some_and (dead_in s) (slice_get y.finals q)) same)
            (p ∷ ps) (all_pass passes 0 (length x.finals) (p ∷ ps) rises);
      }

  since_one : (t : State) (a : ℕ) (ps : List ℕ) → Since t a → Since (state_after t (queuing a ps)) (a + 1)
  since_one t a [] since = record { mode = since.mode; dead = since.dead; still = λ k more. since.still k (omega (arith, more)) }
  since_one t a (p ∷ ps) since =
      let y : DomainState = with_queued (domain_at t a) (p ∷ ps) in record {
        mode = since.mode;
        dead = λ l. dead_alike t (next t (Queue a (p ∷ ps))) refl refl (part_same in_registers t.domains a y refl) l ∙ since.dead l;
        still = λ k more. ⊎_elim (λ here. absurd (let is : k ≡ a = here.0 in omega (arith, is, more))) (λ there. there ∙ since.still k (omega (arith, more))) (set_cases t.domains a y no_domain k);
      }

  one_legal : (t : State) (a : ℕ) (ps : List ℕ) → Since t a → dead_finals s a ≡ ps → LegalFrom t (queuing a ps)
  one_legal t a [] since is = tt
  one_legal t a (p ∷ ps) since is = (may_queue t a p ps since is, tt)

  legal_from : (n a : ℕ) (t : State) → Since t a → LegalFrom t (flat_map (λ d. queuing d (dead_finals s d)) (range_with_len a n))
  legal_from zero a t since = tt
  legal_from (suc n) a t since =
      let first : List Entry = queuing a (dead_finals s a) in
      legal_append t first (flat_map (λ d. queuing d (dead_finals s d)) (range_with_len (a + 1) n)) (one_legal t a (dead_finals s a) since refl)
      (legal_from n (a + 1) (state_after t first) (since_one t a (dead_finals s a) since))

  pub queued_legal : LegalFrom s (all_queued s)
  queued_legal = legal_from (length s.domains) 0 s (record { mode = cutting; dead = λ l. refl; still = λ k more. refl })

-- a state in which a collection may be cut
module _ (z : Sizes) (h : List Entry) where
  abbrev pub cut : State
  cut = next (state_after (opening z) h) Cut

  abbrev pub queued : State
  queued = state_after cut (all_queued cut)

  pub cut_lows : (d : ℕ) → (domain_at cut d).low ≡ length (domain_at cut d).finals
  cut_lows = opened (state_after (opening z) h).domains
    where
      opened : (xs : List DomainState) (d : ℕ) → (slice_index_or (map with_finals_open xs) d no_domain).low ≡ length (slice_index_or (map with_finals_open xs) d no_domain).finals
      opened [] d = refl
      opened (x ∷ xs) zero = refl
      opened (x ∷ xs) (suc d) = opened xs d

  -- what the cut reaches
  abbrev pub lives : Label → Bool
  lives l = is_reachable_with cut cut.cut l

  pub cut_least : IsLeastClosed cut.graph (roots cut cut.cut) (reachable cut.graph (roots cut cut.cut))
  cut_least =
      let wf : IsWellFormed cut = subst IsWellFormed (state_after-append (opening z) h (Cut ∷ [])) (wf_after (opening z) (h ++ Cut ∷ []) (wf_opening z)) in
      reach_law cut.graph (roots cut cut.cut) (closed_graph cut wf cut.cut wf.cut)

  pub all_queued_legal : LegalFrom cut (all_queued cut)
  all_queued_legal = queued_legal cut refl cut_lows

  pub during : During cut queued
  during = queues_during cut cut (all_queued cut) (at_cut cut cut_lows) (all_is_queue cut) all_queued_legal

  pub queued_roots : roots queued queued.cut ≡ roots cut cut.cut
  queued_roots =
      ap (λ rs. rs ++ flat_map (filter_map pending_label) queued.cut) during.registers ∙ ap (λ (qs : List (List Pending)). flat_map in_registers cut.domains ++ flat_map (filter_map pending_label) qs) during.cut

  -- all that waits lives
  left_live : (fs : List Finaliser) → list_all (λ f. not (dead_in cut f)) fs ≡ true → list_all lives (map (λ f. f.label) fs) ≡ true
  left_live [] all = refl
  left_live (f ∷ fs) all = let parts = and_parts (not (dead_in cut f)) (list_all (λ g. not (dead_in cut g)) fs) all in ap (λ b. b && list_all lives (map (λ g. g.label) fs)) (twice (lives f.label) parts.0) ∙ left_live fs parts.1
    where
      twice : (b : Bool) → not (not b) ≡ true → b ≡ true
      twice true e = refl
      twice false e = cc

  pub waiting_lives : list_all lives (waiting queued) ≡ true
  waiting_lives = all_parts_pass in_finals lives queued.domains (λ d.
      ap (λ fs. list_all lives (map (λ f. f.label) fs)) (all_queued_from cut d).finals
      ∙ left_live (others_of queued_final (dead_in cut) (domain_at cut d).finals) (others_fail queued_final (dead_in cut) (domain_at cut d).finals))

  -- and all that was queued doesn't
  beyond_dead : list_all (λ l. not (lives l)) (queued_beyond (queues queued) queued.cut) ≡ true
  beyond_dead =
      let before : queued.cut ≡ queues cut = during.cut ∙ sym (queues_mapped with_finals_open (λ x. refl) (state_after (opening z) h).domains) in
      ap (λ (qs : List (List Pending)). list_all (λ l. not (lives l)) (queued_beyond (queues queued) qs)) before
      ∙ beyond_pass (λ l. not (lives l)) queued.domains cut.domains (λ d. reverse (dead_of queued_final (dead_in cut) (domain_at cut d).finals)) (λ d. (all_queued_from cut d).queue)
      (λ d. all_reversed (dead_in cut) (dead_of queued_final (dead_in cut) (domain_at cut d).finals) (dead_pass queued_final (dead_in cut) (domain_at cut d).finals))

  -- so the collection may be sealed
  pub seal_allowed : SealAllowed queued
  seal_allowed = seal_marked queued lives
      (queued_leaves (λ (v : State). v.mode) (λ v d x. refl) cut (all_queued cut) (all_is_queue cut))
      (record {
        roots = λ l a. cut_least.holds_roots l (subst (λ ls. IsTrue (has_label ls l)) queued_roots a);
        waiting = all_has lives (waiting queued) waiting_lives;
        closed = subst (λ (g : Graph). IsClosedUnder g lives) (sym during.graph) cut_least.closed;
      })
      (all_has (λ l. not (lives l)) (queued_beyond (queues queued) queued.cut) beyond_dead)
