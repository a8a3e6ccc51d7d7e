-- What is open behind a complete collection was held as it was answered.
use Rattle.std.proofs.Common.{◌≡◌, ◌≢◌, ◌∙◌, ℕ, zero, suc, ◌+◌, ◌<◌, ◌≤◌, Bool, true, false, not, IsTrue, List, [], ◌∷◌, ◌++◌, refl, sym, ap, subst, append_assoc, append-nil, eqb-true, eq-eqb, get_or-set_other, arith, Option, Some, None}
use Rattle.std.specs.Prelude.{cond, ◌==◌, ◌||◌, ◌&&◌, count_by, get_or, map, remove, set, slice_get}
use Rattle.std.specs.List.{list_any}
use Rattle.std.proofs.lemmas.List.Sums.{sum_by-append, sum_by-cons}
use Rattle.model_core.specs.declared.command.Command.TheVariants.{FullMajor, Poll}
use Rattle.model_core.specs.declared.entry.Entry.{Entry}
use Rattle.model_core.specs.declared.entry.Entry.TheVariants.{Command, End, Cut, Queue, Seal, Wipe, Last as LastOf, Collected, Done, Ran}
use Rattle.model_core.specs.declared.graph.Node.{Node}
use Rattle.model_core.specs.declared.graph.Node.TheVariants.{Plain, Raw, Ephe}
use Rattle.model_core.specs.declared.label.Label.{Label}
use Rattle.model_core.specs.declared.reply.Reply.{Reply}
use Rattle.model_core.specs.declared.state.DomainState.{DomainState}
use Rattle.model_core.specs.declared.state.Finaliser.{Finaliser}
use Rattle.model_core.specs.declared.state.LastFinaliser.{LastFinaliser}
use Rattle.model_core.specs.declared.state.Pending.{Pending}
use Rattle.model_core.specs.declared.state.Pending.TheVariants.{Fin, Last}
use Rattle.model_core.specs.declared.state.Sizes.{Sizes}
use Rattle.model_core.specs.declared.state.State.{State}
use Rattle.model_core.specs.Commands.{CommandAllowed}
use Rattle.model_core.specs.Domains.{domain_at, no_domain, opening, queues, with_domain}
use Rattle.model_core.specs.Entries.{after_run, is_gone, is_let_go, is_some_and, next, queued_final, queued_last, wiped, with_wiped, without_first}
use Rattle.model_core.specs.Graph.{node_at}
use Rattle.model_core.specs.History.{Legal, LegalFrom, is_entry_of, state_after}
use Rattle.model_core.specs.Laws.{NothingPermitted}
use Rattle.model_core.specs.Registrations.{all_ran, all_registered}
use Rattle.model_core.proofs.Commands.FrameLemmas.{frame_command, not_same, part_map}
use Rattle.model_core.proofs.Graphs.GraphLemmas.{and_parts}
use Rattle.model_core.proofs.Histories.HistoryLemmas.{state_after-append, state_after-push}
use Rattle.model_laws.proofs.OfHistories.HeldLemmas.{spent_law}
use Rattle.model_laws.proofs.OfHistories.RegistrationLemmas.{not_lost_law}
use Rattle.run_turns.specs.Handed.{OnlyRuns, PerformedOn}
use Rattle.run_turns.specs.Kept.{finalised, is_run_of}
use Rattle.example_handles.specs.Handling.{WasHeld, numbered}
use Rattle.example_handles.specs.Resources.{names}
use Rattle.example_handles.proofs.Histories.{answer_of, is_of, legal_parts, ran_answers, ran_by_then, registered_on, registered_performed, registers_none}

-- whether a finaliser with this number is listed
abbrev lists : ℕ → List LastFinaliser → Bool
lists k xs = list_any (λ f. f.number == k) xs

or_either : (a b c : Bool) → (b ≡ true → c ≡ true) → (a || b) ≡ true → (a || c) ≡ true
or_either true b c on is = refl
or_either false b c on is = on is

or_more : (a b : Bool) → b ≡ true → (a || b) ≡ true
or_more true b is = refl
or_more false b is = is

removed : (k : ℕ) (xs : List LastFinaliser) (p : ℕ) → lists k (remove xs p) ≡ true → lists k xs ≡ true
removed k [] zero is = cc
removed k [] (suc p) is = cc
removed k (x ∷ xs) zero is = or_more (x.number == k) (lists k xs) is
removed k (x ∷ xs) (suc p) is = or_either (x.number == k) (lists k (remove xs p)) (lists k xs) (removed k xs p) is

-- where one domain changes, and its list gets no more
set_less : (k : ℕ) (xs : List DomainState) (j : ℕ) (x : DomainState) → (lists k x.lasts ≡ true → lists k (get_or xs j no_domain).lasts ≡ true) → (d : ℕ) → lists k (get_or (set xs j x) d no_domain).lasts ≡ true → lists k (get_or xs d no_domain).lasts ≡ true
set_less k [] j x less d is = is
set_less k (y ∷ ys) zero x less zero is = less is
set_less k (y ∷ ys) zero x less (suc d) is = is
set_less k (y ∷ ys) (suc j) x less zero is = is
set_less k (y ∷ ys) (suc j) x less (suc d) is = set_less k ys j x less d is

module _ (d k : ℕ) where
  abbrev Listed : State → Type 0
  Listed s = lists k (domain_at s d).lasts ≡ true

  wiped_lists : (s : State) (l : Label) (places : List ℕ) (o : Option Node) → Listed (with_wiped s l (wiped places o)) → Listed s
  wiped_lists s l places None is = is
  wiped_lists s l places (Some (Plain tag fields)) is = is
  wiped_lists s l places (Some (Raw tag fields)) is = is
  wiped_lists s l places (Some (Ephe keys datum)) is = is

  run_lists : (s : State) (j : ℕ) (queue : List Pending) → Listed (after_run s j queue) → Listed s
  run_lists s j [] is = is
  run_lists s j (Fin number l r ∷ rest) is =
      let first : State = with_domain s j (without_first (domain_at s j) rest) in
      set_less k s.domains j (without_first (domain_at s j) rest) (λ h. h) d (set_less k first.domains j _ (λ h. h) d is)
  run_lists s j (Last number ∷ rest) is = set_less k s.domains j (without_first (domain_at s j) rest) (λ h. h) d is

  same_lists : (s t : State) → (domain_at t d).lasts ≡ (domain_at s d).lasts → Listed t → Listed s
  same_lists s t same is = ap (lists k) (sym same) ∙ is

  -- entries of others, and runs of finalisers, list none
  one_lists : (s : State) (e : Entry) → IsTrue (not (is_entry_of d e) || is_run_of d e) → Listed (next s e) → Listed s
  one_lists s (Command j c full) runs is = go (j == d) refl runs
    where
      go : (b : Bool) → (j == d) ≡ b → IsTrue (not b || false) → Listed s
      go true e runs = cc
      go false e runs = same_lists s (next s (Command j c full)) (ap (λ (x : DomainState). x.lasts) ((frame_command s j c full).elsewhere d (not_same j d e))) is
  one_lists s (End j) runs is = go (j == d) refl runs
    where
      go : (b : Bool) → (j == d) ≡ b → IsTrue (not b || false) → Listed s
      go true e runs = cc
      go false e runs = same_lists s (next s (End j)) (ap (λ (x : DomainState). x.lasts) (get_or-set_other s.domains j d _ no_domain (not_same j d e))) is
  one_lists s (Ran j) runs is = run_lists s j (domain_at s j).queue is
  one_lists s Cut runs is = same_lists s (next s Cut) (part_map (λ x. x.lasts) _ (λ x. refl) s.domains d) is
  one_lists s (Queue j places) runs is = set_less k s.domains j _ (λ h. h) d is
  one_lists s Seal runs is = same_lists s (next s Seal) (part_map (λ x. x.lasts) _ (λ x. refl) s.domains d) is
  one_lists s (Wipe l keys) runs is = wiped_lists s l keys (node_at s.graph l) is
  one_lists s (LastOf j place) runs is = set_less k s.domains j _ (removed k (domain_at s j).lasts place) d is
  one_lists s Collected runs is = same_lists s (next s Collected) (part_map (λ x. x.lasts) _ (λ x. refl) s.domains d) is
  one_lists s Done runs is = is

  runs_list : (s : State) (h : List Entry) → OnlyRuns d h → Listed (state_after s h) → Listed s
  runs_list s [] runs is = is
  runs_list s (e ∷ h) runs is =
      let parts = and_parts (not (is_entry_of d e) || is_run_of d e) _ runs in
      one_lists s e parts.0 (runs_list (next s e) h parts.1 is)

  -- nor does a complete collection that is answered
  answered_lists : (s : State) (full : Bool) → Listed (next s (Command d FullMajor full)) → Listed s
  answered_lists s true is = set_less k s.domains d _ (λ h. h) d is
  answered_lists s false is = set_less k s.domains d _ (λ h. h) d is

-- one that was registered and has not run waits in the list, where the queue is empty
one_registered : (k n : ℕ) → k < n → 1 ≤ count_by (is_of k) (numbered n)
one_registered k zero below = absurd (omega (arith, below))
one_registered k (suc n) below =
    let both = sum_by-append (λ p. cond (is_of k p) 1 0) (numbered n) (Last n ∷ []) in
    let one = sum_by-cons (λ p. cond (is_of k p) 1 0) (Last n) [] in
    go (n == k) refl (λ earlier. one_registered k n earlier) both one
  where
    go : (b : Bool) → (n == k) ≡ b → (k < n → 1 ≤ count_by (is_of k) (numbered n)) → count_by (is_of k) (numbered n ++ Last n ∷ []) ≡ count_by (is_of k) (numbered n) + count_by (is_of k) (Last n ∷ [])
        → count_by (is_of k) (Last n ∷ []) ≡ cond (n == k) 1 0 + count_by (is_of k) [] → 1 ≤ count_by (is_of k) (numbered n ++ Last n ∷ [])
    go true e before both one = let here : ◌≡◌ {A = ℕ} (cond (n == k) 1 0) 1 = ap (λ (b : Bool). cond b 1 0) e in omega (arith, both, one, here)
    go false e before both one =
        let other : n ≢ k = λ same. let clash : true ≡ false = sym (eq-eqb n k same) ∙ e in cc in
        let earlier : 1 ≤ count_by (is_of k) (numbered n) = before (omega (arith, below, other)) in
        omega (arith, both, earlier)

none_ran : (k : ℕ) (ps : List Pending) → names (map answer_of ps) k ≡ false → count_by (is_of k) ps ≡ 0
none_ran k [] is = refl
none_ran k (Fin number l r ∷ ps) is = let all = sum_by-cons (λ q. cond (is_of k q) 1 0) (Fin number l r) ps in let rest = none_ran k ps is in omega (arith, all, rest)
none_ran k (Last number ∷ ps) is = go (number == k) refl is (none_ran k ps)
  where
    go : (b : Bool) → (number == k) ≡ b → (b || names (map answer_of ps) k) ≡ false → (names (map answer_of ps) k ≡ false → count_by (is_of k) ps ≡ 0) → count_by (is_of k) (Last number ∷ ps) ≡ 0
    go true e is later = cc
    go false e is later =
        let all = sum_by-cons (λ q. cond (is_of k q) 1 0) (Last number) ps in
        let here : ◌≡◌ {A = ℕ} (cond (number == k) 1 0) 0 = ap (λ (b : Bool). cond b 1 0) e in
        let rest = later is in
        omega (arith, all, here, rest)

no_finals : (k : ℕ) (fs : List Finaliser) → count_by (is_of k) (map queued_final fs) ≡ 0
no_finals k [] = refl
no_finals k (f ∷ fs) = let all = sum_by-cons (λ q. cond (is_of k q) 1 0) (queued_final f) (map queued_final fs) in let rest = no_finals k fs in omega (arith, all, rest)

counted_lists : (k : ℕ) (xs : List LastFinaliser) → 1 ≤ count_by (is_of k) (map queued_last xs) → lists k xs ≡ true
counted_lists k [] some = absurd (omega (arith, some))
counted_lists k (x ∷ xs) some = go (x.number == k) refl (counted_lists k xs)
  where
    go : (b : Bool) → (x.number == k) ≡ b → (1 ≤ count_by (is_of k) (map queued_last xs) → lists k xs ≡ true) → (b || lists k xs) ≡ true
    go true e later = refl
    go false e later =
        let all = sum_by-cons (λ q. cond (is_of k q) 1 0) (queued_last x) (map queued_last xs) in
        let here : ◌≡◌ {A = ℕ} (cond (x.number == k) 1 0) 0 = ap (λ (b : Bool). cond b 1 0) e in
        later (omega (arith, some, all, here))

-- where it stands in the list
record Found (k : ℕ) (xs : List LastFinaliser) : Type 0 where
  finaliser : LastFinaliser
  place : ℕ
  there : slice_get xs place ≡ Some finaliser
  number : finaliser.number ≡ k

find : (k : ℕ) (xs : List LastFinaliser) → lists k xs ≡ true → Found k xs
find k [] is = cc
find k (x ∷ xs) is = go (x.number == k) refl is (find k xs)
  where
    further : Found k xs → Found k (x ∷ xs)
    further f = record { finaliser = f.finaliser; place = suc f.place; there = f.there; number = f.number }

    go : (b : Bool) → (x.number == k) ≡ b → (b || lists k xs) ≡ true → (lists k xs ≡ true → Found k xs) → Found k (x ∷ xs)
    go true e is later = record { finaliser = x; place = 0; there = refl; number = eqb-true x.number k e }
    go false e is later = further (later is)

-- a complete collection was answered, and the next command was made
module _ (z : Sizes) (d k n : ℕ) (f0 f1 f2 : List Entry) (ran1 ran2 : List Reply) (r1 r2 : Reply) (p : PerformedOn z d f0 f1 FullMajor ran1 r1) (q : PerformedOn z d f1 f2 Poll ran2 r2)
    (are : all_registered d (opening z) f2 ≡ numbered n) (below : k < n) (unnamed : names (finalised z f2 d) k ≡ false) where
  abbrev collecting : State
  collecting = state_after (opening z) p.before

  abbrev polling : State
  polling = state_after (opening z) q.before

  parts : LegalFrom (opening z) q.before × LegalFrom polling (Command d Poll q.full ∷ [])
  parts = legal_parts (opening z) q.before (Command d Poll q.full ∷ []) (subst (Legal z) q.appends q.legal)

  allowed : CommandAllowed polling d Poll q.full
  allowed = parts.1.0

  abbrev mine : DomainState
  mine = domain_at polling d

  registered_then : all_registered d (opening z) q.before ≡ numbered n
  registered_then =
      registered_on z d f1 q.before ran2 q.finalised
      ∙ (sym (registered_performed z d f1 f2 Poll ran2 r2 q ∙ ((λ i. all_registered d (opening z) f1 ++ registers_none d polling Poll q.full refl i) ∙ append-nil (all_registered d (opening z) f1))) ∙ are)

  none_named : names (map answer_of (all_ran d (opening z) q.before)) k ≡ false
  none_named = ap (λ (rs : List Reply). names rs k) (sym (ran_answers d (opening z) q.before) ∙ sym (ran_by_then z d f1 f2 Poll ran2 r2 q)) ∙ unnamed

  waits : 1 ≤ count_by (is_of k) (map queued_last mine.lasts)
  waits =
      let law = not_lost_law z q.before d (is_of k) parts.0 allowed.running in
      let some : 1 ≤ count_by (is_of k) (all_registered d (opening z) q.before) = subst (λ (ps : List Pending). 1 ≤ count_by (is_of k) ps) (sym registered_then) (one_registered k n below) in
      let ran : count_by (is_of k) (all_ran d (opening z) q.before) ≡ 0 = none_ran k (all_ran d (opening z) q.before) none_named in
      let outer = sum_by-append (λ x. cond (is_of k x) 1 0) (map queued_final mine.finals ++ map queued_last mine.lasts) mine.queue in
      let inner = sum_by-append (λ x. cond (is_of k x) 1 0) (map queued_final mine.finals) (map queued_last mine.lasts) in
      let finals = no_finals k mine.finals in
      let queue : count_by (is_of k) mine.queue ≡ 0 = ap (count_by (is_of k)) allowed.fits.1 in
      omega (arith, law, some, ran, outer, inner, finals, queue)

  listed_then : Listed d k polling
  listed_then = counted_lists k mine.lasts waits

  abbrev answered : List Entry
  answered = p.before ++ Command d FullMajor p.full ∷ []

  listed : Listed d k collecting
  listed =
      let at_front : Listed d k (state_after (opening z) f1) = runs_list d k (state_after (opening z) f1) q.finalised.rest q.finalised.runs
      (subst (Listed d k) (ap (state_after (opening z)) q.finalised.appends ∙ state_after-append (opening z) f1 q.finalised.rest) listed_then) in
      answered_lists d k collecting p.full (subst (Listed d k) (ap (state_after (opening z)) p.appends ∙ state_after-push (opening z) p.before (Command d FullMajor p.full)) at_front)

  legal_then : Legal z answered
  legal_then = subst (Legal z) p.appends p.legal

  pub was_held : WasHeld z d f0 f2 k
  was_held =
      let found = find k (domain_at collecting d).lasts listed in
      let f : LastFinaliser = found.finaliser in
      let none : NothingPermitted collecting = spent_law z p.before d p.full legal_then in
      record {
        front = p.before;
        full = p.full;
        since = record { rest = p.finalised.rest; appends = p.finalised.appends };
        collected = record {
          rest = q.finalised.rest ++ Command d Poll q.full ∷ [];
          appends = q.appends ∙ (ap (λ (h : List Entry). h ++ Command d Poll q.full ∷ []) (q.finalised.appends ∙ ap (λ (h : List Entry). h ++ q.finalised.rest) p.appends) ∙ append_assoc answered q.finalised.rest (Command d Poll q.full ∷ []));
        };
        held = record {
          finaliser = f;
          place = found.place;
          waits = found.there;
          number = found.number;
          led_to = ap (is_some_and (λ (g : LastFinaliser). is_gone collecting (queues collecting) g.label && is_let_go collecting g.label)) (sym found.there) ∙ none.lasts d found.place;
        };
      }
