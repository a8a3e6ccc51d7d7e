-- The scheduled history of some turns goes along with the history that they make.
use Rattle.std.proofs.Common.{◌≡◌, ◌≢◌, ⊎_elim, ℕ, zero, suc, ◌<◌, Bool, true, false, cond, eqb, eqb-true, eq-eqb, ◌&&◌, IsTrue, List, [], ◌∷◌, ◌++◌, fold, length, get_or, replicate, refl, ap, sym, ◌∙◌, subst, arith, append_assoc, append-nil}
use Rattle.std.specs.Prelude.{if◌then◌else◌}
use Rattle.std.specs.List.{list_all, range_with_len}
use Rattle.model_core.specs.declared.label.Label.{Label}
use Rattle.model_core.specs.declared.command.Command as declared_command
use Rattle.model_core.specs.declared.command.Command.TheVariants.{FullMajor}
use Rattle.model_core.specs.declared.entry.Entry.{Entry}
use Rattle.model_core.specs.declared.entry.Entry.TheVariants.{Command as CommandOf, End, Cut, Seal, Collected, Done, Ran}
use Rattle.model_core.specs.declared.reply.Applied.{Applied}
use Rattle.model_core.specs.declared.reply.Reply.{Reply}
use Rattle.model_core.specs.declared.state.DomainState.{DomainState}
use Rattle.model_core.specs.declared.state.Pending.{Pending}
use Rattle.model_core.specs.declared.state.Sizes.{Sizes}
use Rattle.model_core.specs.declared.state.State.{State}
use Rattle.model_core.specs.Domains.{no_domain, opening_domain, domain_at, opening, queues, settled_roots}
use Rattle.model_core.specs.Commands.{CommandAllowed}
use Rattle.model_core.specs.Entries.{EndAllowed, next}
use Rattle.model_core.specs.History.{Legal, LegalFrom, commands, is_entry_of, replies, replies_from, reply_list, state_after}
use Rattle.model_core.specs.WellFormed.{names_of}
use Rattle.model_core.proofs.Reach.ReachLemmas.{and_left, and_right}
use Rattle.model_core.proofs.Histories.HistoryLemmas.{commands-append, replies_from-append, state_after-append}
use Rattle.model_traces.specs.declared.schedules.items.Item.{Item}
use Rattle.model_traces.specs.declared.schedules.items.Item.TheVariants.{Turn, Collect}
use Rattle.model_traces.specs.Schedules.Sameness.{AllAlive, AreSameDomains, IsCollection, IsSameBut, is_step}
use Rattle.model_traces.specs.Schedules.Scheduled.{Played, all_ended, begun, behind, complete, domains_of, left_of, next_entries, rounds_of, take_item, take_round, take_turn, turn_on, with_entries}
use Rattle.model_traces.proofs.OfSchedules.Collecting.{collection_law, legal_parts}
use Rattle.model_traces.proofs.OfSchedules.Holding.{same_at}
use Rattle.model_traces.proofs.OfSchedules.Steps.{step_law}
use Rattle.model_traces.specs.Scheduled.Runs.{EndsIn}
use Rattle.model_traces.proofs.OfScheduled.Sections.{IsTurn, no_queue, no_run, no_taking, turn_taken}
use Rattle.model_traces.specs.Orders.Turns.{IsMadeIn, IsOwnTurn, TurnsAreScheduled, runs_queue}
use Rattle.model_core.proofs.Histories.EndedLemmas.{ended_stays, running_before}
use Rattle.model_traces.proofs.OfOrders.Ending.{end_ends, none_behind}

-- a state is the same as itself
all_alive : (ls : List Label) → AllAlive (λ l. true) ls
all_alive [] = tt
all_alive (l ∷ ls) = (refl, all_alive ls)

domains_itself : (xs : List DomainState) → AreSameDomains xs xs
domains_itself [] = tt
domains_itself (x ∷ xs) = (record { registers = refl; serial = refl; ended = refl; finals = refl; lasts = refl; queue = refl; fresh = refl; due = refl }, domains_itself xs)

pub same_itself : (s : State) → IsSameBut s s
same_itself s = record {
  alive = λ l. true;
  held = record { roots = all_alive (settled_roots s (queues s)); nodes = λ l n alive at. all_alive (names_of n) };
  nodes = λ l alive. refl;
  labels_same = refl;
  domains = domains_itself s.domains;
  sizes = refl;
  mode = refl;
  kept = refl;
}

-- A scheduled history and its state, beside a history: the same but for garbage, and the same replies
record GoesAlong (z : Sizes) (t : State) (g a : List Entry) : Type 0 where
  same : IsSameBut (state_after (opening z) a) t
  state : state_after (opening z) g ≡ t
  replies : (d : ℕ) → replies z g d ≡ replies z a d

module _ (z : Sizes) where
  abbrev o : State
  o = opening z

  along_grown : (t : State) (g a es c : List Entry) → GoesAlong z t g a → IsSameBut (state_after (opening z) (a ++ c)) (state_after t es) → ((d : ℕ) → replies_from t es d ≡ replies_from (state_after (opening z) a) c d)
      → GoesAlong z (state_after t es) (g ++ es) (a ++ c)
  along_grown t g a es c was same alike = record {
    same = same;
    state = state_after-append (opening z) g es ∙ ap (λ (u : State). state_after u es) was.state;
    replies = λ d. replies_from-append (opening z) g es d ∙ ap (λ (rs : List Reply). rs ++ replies_from (state_after (opening z) g) es d) (was.replies d)
        ∙ ap (λ (u : State). replies z a d ++ replies_from u es d) was.state ∙ ap (λ (rs : List Reply). replies z a d ++ rs) (alike d) ∙ sym (replies_from-append (opening z) a c d);
  }

  along_step : (t : State) (g a : List Entry) (e : Entry) → GoesAlong z t g a → Legal z (a ++ e ∷ []) → is_step e ≡ true → GoesAlong z (next t e) (g ++ e ∷ []) (a ++ e ∷ [])
  along_step t g a e was legal is =
      let parts = legal_parts (opening z) a (e ∷ []) legal in
      let law = step_law z a t e parts.0 was.same is parts.1.0 in
      along_grown t g a (e ∷ []) (e ∷ []) was (subst (λ (s : State). IsSameBut s (next t e)) (sym (state_after-append (opening z) a (e ∷ []))) law.1)
      (λ d. ap (λ (r : Applied). cond (is_entry_of d e) (reply_list r) [] ++ []) law.0)

  along_steps : (t : State) (g a es : List Entry) → GoesAlong z t g a → Legal z (a ++ es) → IsTrue (list_all is_step es) → GoesAlong z (state_after t es) (g ++ es) (a ++ es)
  along_steps t g a [] was legal all = subst (λ (k : List Entry). GoesAlong z t k (a ++ [])) (sym (append-nil g)) (subst (λ (k : List Entry). GoesAlong z t g k) (sym (append-nil a)) was)
  along_steps t g a (e ∷ es) was legal all =
      let first : is_step e ≡ true = and_left (is_step e) (list_all is_step es) all in
      let rest : IsTrue (list_all is_step es) = and_right (is_step e) (list_all is_step es) all in
      let whole : Legal z ((a ++ e ∷ []) ++ es) = subst (λ (k : List Entry). Legal z k) (sym (append_assoc a (e ∷ []) es)) legal in
      let one = along_step t g a e was (legal_parts (opening z) (a ++ e ∷ []) es whole).0 first in
      let more = along_steps (next t e) (g ++ e ∷ []) (a ++ e ∷ []) es one whole rest in
      subst (λ (k : List Entry). GoesAlong z (state_after (next t e) es) k (a ++ e ∷ es)) (append_assoc g (e ∷ []) es)
      (subst (λ (k : List Entry). GoesAlong z (state_after (next t e) es) ((g ++ e ∷ []) ++ es) k) (append_assoc a (e ∷ []) es) more)

  along_collection : (t : State) (g a c answered : List Entry) → GoesAlong z t g a → Legal z (a ++ c) → IsCollection c answered → GoesAlong z (state_after t (complete t answered)) (g ++ complete t answered) (a ++ c)
  along_collection t g a c answered was legal is =
      let parts = legal_parts (opening z) a c legal in
      let begins : LegalFrom (state_after (opening z) a) (Cut ∷ is.queued ++ Seal ∷ is.taken ++ Collected ∷ answered ++ Done ∷ []) = subst (λ (k : List Entry). LegalFrom (state_after (opening z) a) k) is.is parts.1 in
      let law = collection_law z a t c answered legal begins.0 was.same is in
      along_grown t g a (complete t answered) c was law.0 law.1

-- the commands of a collection are those that are answered in it
collection_commands : (c answered : List Entry) (k : ℕ) → IsCollection c answered → commands c k ≡ commands answered k
collection_commands c answered k is =
    ap (λ (h : List Entry). commands h k) is.is
    ∙ commands-append (Cut ∷ is.queued ++ Seal ∷ is.taken ++ Collected ∷ answered) (Done ∷ []) k
    ∙ append-nil (commands (Cut ∷ is.queued ++ Seal ∷ is.taken ++ Collected ∷ answered) k)
    ∙ commands-append (Cut ∷ is.queued ++ Seal ∷ is.taken) (Collected ∷ answered) k
    ∙ ap (λ (cs : List declared_command.Command). cs ++ commands answered k) (commands-append (Cut ∷ is.queued) (Seal ∷ is.taken) k
    ∙ ap (λ (cs : List declared_command.Command). cs ++ commands is.taken k) (no_queue is.queued k is.are_queues) ∙ no_taking is.taken k is.are_taking)

one_command : (d k : ℕ) (c : declared_command.Command) → k ≢ d → cond (eqb d k) (c ∷ []) [] ≡ []
one_command d k c apart = go (eqb d k) refl
  where
    go : (b : Bool) → eqb d k ≡ b → cond b (c ∷ []) [] ≡ []
    go true e = absurd (apart (sym (eqb-true d k e)))
    go false e = refl

own_command : (d : ℕ) (c : declared_command.Command) (h : List Entry) → commands (CommandOf d c false ∷ h) d ≡ c ∷ commands h d
own_command d c h = ap (λ (b : Bool). cond b (c ∷ []) [] ++ commands h d) (eq-eqb d d refl)

-- a turn makes no command of another domain
apart_commands : (d k : ℕ) (own : List Entry) → IsOwnTurn d own → k ≢ d → commands own k ≡ []
apart_commands d k own turn apart = ⊎_elim
    (λ end. ap (λ (h : List Entry). commands h k) end)
    (λ more. ⊎_elim
    (λ makes. ap (λ (h : List Entry). commands h k) makes.2 ∙ ap (λ (cs : List declared_command.Command). cs ++ []) (one_command d k makes.0 apart))
    (λ counts. collection_commands own (CommandOf d FullMajor false ∷ []) k counts ∙ ap (λ (cs : List declared_command.Command). cs ++ []) (one_command d k FullMajor apart))
    more)
    turn

runs_steps : (n d : ℕ) → IsTrue (list_all is_step (replicate n (Ran d)))
runs_steps zero d = refl
runs_steps (suc n) d = runs_steps n d

-- a command that isn't `full_major`
short_step : (d : ℕ) (c : declared_command.Command) → c ≢ FullMajor → is_step (CommandOf d c false) ≡ true
short_step d FullMajor short = absurd (short refl)
short_step d c short = refl

short_entries : (s : State) (d : ℕ) (c : declared_command.Command) (cs : List declared_command.Command) → c ≢ FullMajor → next_entries s d (c ∷ cs) ≡ CommandOf d c false ∷ []
short_entries s d FullMajor cs short = absurd (short refl)
short_entries s d c cs short = refl

-- which domains there are
inside : (n d : ℕ) → (get_or (replicate n opening_domain) d no_domain).ended ≡ false → d < n
inside zero d runs = let clash : true ≡ false = runs in cc
inside (suc n) zero runs = omega arith
inside (suc n) (suc d) runs = let less = inside n d runs in omega (arith, less)

ended_same : (xs ys : List DomainState) → AreSameDomains xs ys → list_all (λ x. x.ended) ys ≡ list_all (λ x. x.ended) xs
ended_same [] [] same = refl
ended_same [] (y ∷ ys) same = absurd same
ended_same (x ∷ xs) [] same = absurd same
ended_same (x ∷ xs) (y ∷ ys) same = λ i. same.0.ended i && ended_same xs ys same.1 i

module _ (z : Sizes) where
  -- a domain that makes its turn runs
  own_runs : (s : State) (d : ℕ) (own : List Entry) → LegalFrom s own → IsOwnTurn d own → (domain_at s d).ended ≡ false
  own_runs s d own legal turn = ⊎_elim
      (λ end. let one : LegalFrom s (End d ∷ []) = subst (λ (h : List Entry). LegalFrom s h) end legal in let allowed : EndAllowed s d = one.0 in allowed.running)
      (λ more. ⊎_elim
      (λ makes. let one : LegalFrom s (CommandOf d makes.0 false ∷ []) = subst (λ (h : List Entry). LegalFrom s h) makes.2 legal in let allowed : CommandAllowed s d makes.0 false = one.0 in allowed.running)
      (λ is.
      let a : List Entry = Cut ∷ is.queued ++ Seal ∷ is.taken in
      let whole : LegalFrom s ((a ++ Collected ∷ (CommandOf d FullMajor false ∷ [])) ++ Done ∷ []) = subst (λ (h : List Entry). LegalFrom s h) is.is legal in
      let parts = legal_parts s a (Collected ∷ (CommandOf d FullMajor false ∷ [])) (legal_parts s (a ++ Collected ∷ (CommandOf d FullMajor false ∷ [])) (Done ∷ []) whole).0 in
      let allowed : CommandAllowed (next (state_after s a) Collected) d FullMajor false = parts.1.1.0 in
      running_before s a d parts.0 (running_before (state_after s a) (Collected ∷ []) d (parts.1.0, tt) allowed.running))
      more)
      turn

  -- what is left, once this turn is made
  own_left : (s : State) (d : ℕ) (own rest : List Entry) → LegalFrom s (own ++ rest) → IsOwnTurn d own → behind (commands (own ++ rest) d) ≡ commands rest d
  own_left s d own rest legal turn = ⊎_elim
      (λ end.
      let whole : LegalFrom s (End d ∷ rest) = subst (λ (h : List Entry). LegalFrom s (h ++ rest)) end legal in
      let none : commands rest d ≡ [] = none_behind (next s (End d)) rest d whole.1 (end_ends s d) in
      ap (λ (h : List Entry). behind (commands (h ++ rest) d)) end ∙ (ap behind none ∙ sym none))
      (λ more. ⊎_elim
      (λ makes. ap (λ (h : List Entry). behind (commands (h ++ rest) d)) makes.2 ∙ ap behind (own_command d makes.0 rest))
      (λ counts. ap behind (commands-append own rest d ∙ ap (λ (cs : List declared_command.Command). cs ++ commands rest d) (collection_commands own (CommandOf d FullMajor false ∷ []) d counts ∙ own_command d FullMajor [])))
      more)
      turn

  -- what a turn makes behind the runs of its queue
  own_along : (t : State) (g a : List Entry) (d : ℕ) (own rest : List Entry) (left : List declared_command.Command) → GoesAlong z t g a → Legal z (a ++ (own ++ rest)) → IsOwnTurn d own → left ≡ commands (own ++ rest) d
      → GoesAlong z (state_after t (next_entries t d left)) (g ++ next_entries t d left) (a ++ own)
  own_along t g a d own rest left was legal turn left_is = ⊎_elim
      (λ end.
      let ends : LegalFrom (state_after (opening z) a) (End d ∷ rest) = subst (λ (h : List Entry). LegalFrom (state_after (opening z) a) (h ++ rest)) end (legal_parts (opening z) a (own ++ rest) legal).1 in
      let none : left ≡ [] = left_is ∙ (ap (λ (h : List Entry). commands (h ++ rest) d) end ∙ none_behind (next (state_after (opening z) a) (End d)) rest d ends.1 (end_ends (state_after (opening z) a) d)) in
      made (End d ∷ []) (sym end) (ap (next_entries t d) none) (along_step z t g a (End d) was (subst (λ (h : List Entry). Legal z (a ++ h)) end first) refl))
      (λ more. ⊎_elim
      (λ makes.
      let c : declared_command.Command = makes.0 in
      let entries = ap (next_entries t d) (left_is ∙ (ap (λ (h : List Entry). commands (h ++ rest) d) makes.2 ∙ own_command d makes.0 rest)) ∙ short_entries t d makes.0 (commands rest d) makes.1 in
      made (CommandOf d makes.0 false ∷ []) (sym makes.2) entries (along_step z t g a (CommandOf d makes.0 false) was (subst (λ (h : List Entry). Legal z (a ++ h)) makes.2 first) (short_step d makes.0 makes.1)))
      (λ counts.
      let entries = ap (next_entries t d) (left_is ∙ (commands-append own rest d ∙ ap (λ (cs : List declared_command.Command). cs ++ commands rest d) (collection_commands own (CommandOf d FullMajor false ∷ []) d counts ∙ own_command d FullMajor []))) in
      subst (λ (es : List Entry). GoesAlong z (state_after t es) (g ++ es) (a ++ own)) (sym entries) (along_collection z t g a own (CommandOf d FullMajor false ∷ []) was first counts))
      more)
      turn
    where
      first : Legal z (a ++ own)
      first = (legal_parts (opening z) (a ++ own) rest (subst (λ (h : List Entry). Legal z h) (sym (append_assoc a own rest)) legal)).0

      made : (es : List Entry) → es ≡ own → next_entries t d left ≡ es → GoesAlong z (state_after t es) (g ++ es) (a ++ es) → GoesAlong z (state_after t (next_entries t d left)) (g ++ next_entries t d left) (a ++ own)
      made es is entries along = subst (λ (k : List Entry). GoesAlong z (state_after t (next_entries t d left)) (g ++ next_entries t d left) (a ++ k)) is
          (subst (λ (k : List Entry). GoesAlong z (state_after t k) (g ++ k) (a ++ es)) (sym entries) along)

  -- how far the scheduled run has come beside the history: the entries before, and those that are left
  record Follows (p : Played) (a h : List Entry) : Type 0 where
    along : GoesAlong z p.state p.history a
    left : (k : ℕ) → k < z.domains → left_of p k ≡ commands h k

  one_turn : (p : Played) (a h : List Entry) (d : ℕ) (own rest : List Entry) → Follows p a h → Legal z (a ++ h) → h ≡ runs_queue (state_after (opening z) a) d ++ (own ++ rest) → IsOwnTurn d own
      → Follows (take_turn p d) (a ++ (runs_queue (state_after (opening z) a) d ++ own)) rest
  one_turn p a h d own rest was legal is turn = subst (λ (q : Played). Follows q (a ++ (runs_queue (state_after (opening z) a) d ++ own)) rest) (sym goes_on) (record { along = along; left = left })
    where
      s : State
      s = state_after (opening z) a

      runs : List Entry
      runs = runs_queue (state_after (opening z) a) d

      whole : Legal z ((a ++ runs_queue (state_after (opening z) a) d) ++ (own ++ rest))
      whole = subst (λ (k : List Entry). Legal z k) (sym (append_assoc a (runs_queue (state_after (opening z) a) d) (own ++ rest))) (subst (λ (k : List Entry). Legal z (a ++ k)) is legal)

      run_parts : Legal z (a ++ runs_queue (state_after (opening z) a) d) × LegalFrom (state_after (opening z) (a ++ runs_queue (state_after (opening z) a) d)) (own ++ rest)
      run_parts = legal_parts (opening z) (a ++ runs_queue (state_after (opening z) a) d) (own ++ rest) whole

      later_runs : (domain_at (state_after (opening z) (a ++ runs_queue (state_after (opening z) a) d)) d).ended ≡ false
      later_runs = own_runs (state_after (opening z) (a ++ runs_queue (state_after (opening z) a) d)) d own (legal_parts (state_after (opening z) (a ++ runs_queue (state_after (opening z) a) d)) own rest run_parts.1).0 turn

      below : d < z.domains
      below = inside z.domains d (running_before (opening z) (a ++ runs_queue (state_after (opening z) a) d) d run_parts.0 later_runs)

      running : (domain_at (state_after (opening z) a) d).ended ≡ false
      running = running_before (state_after (opening z) a) (runs_queue (state_after (opening z) a) d) d (legal_parts (opening z) a (runs_queue (state_after (opening z) a) d) run_parts.0).1
          (subst (λ (t : State). (domain_at t d).ended ≡ false) (state_after-append (opening z) a (runs_queue (state_after (opening z) a) d)) later_runs)

      goes_on : take_turn p d ≡ turn_on p d false
      goes_on = ap (turn_on p d) ((same_at (state_after (opening z) a).domains p.state.domains d was.along.same.domains).ended ∙ running)

      own_queue : replicate (length (domain_at p.state d).queue) (Ran d) ≡ runs_queue (state_after (opening z) a) d
      own_queue = ap (λ (q : List Pending). replicate (length q) (Ran d)) (same_at (state_after (opening z) a).domains p.state.domains d was.along.same.domains).queue

      left_here : left_of p d ≡ commands (own ++ rest) d
      left_here = was.left d below ∙ (ap (λ (k : List Entry). commands k d) is ∙ (commands-append (runs_queue (state_after (opening z) a) d) (own ++ rest) d ∙ ap (λ (cs : List declared_command.Command). cs ++ commands (own ++ rest) d) (no_run (length (domain_at (state_after (opening z) a) d).queue) d d)))

      after_runs : GoesAlong z (state_after p.state (replicate (length (domain_at p.state d).queue) (Ran d))) (p.history ++ replicate (length (domain_at p.state d).queue) (Ran d)) (a ++ runs_queue (state_after (opening z) a) d)
      after_runs = subst (λ (k : List Entry). GoesAlong z (state_after p.state k) (p.history ++ k) (a ++ runs_queue (state_after (opening z) a) d)) (sym own_queue)
          (along_steps z p.state p.history a (runs_queue (state_after (opening z) a) d) was.along run_parts.0 (runs_steps (length (domain_at (state_after (opening z) a) d).queue) d))

      along : GoesAlong z (turn_on p d false).state (turn_on p d false).history (a ++ (runs_queue (state_after (opening z) a) d ++ own))
      along = subst (λ (k : List Entry). GoesAlong z (turn_on p d false).state (turn_on p d false).history k) (append_assoc a (runs_queue (state_after (opening z) a) d) own)
          (own_along (state_after p.state (replicate (length (domain_at p.state d).queue) (Ran d))) (p.history ++ replicate (length (domain_at p.state d).queue) (Ran d)) (a ++ runs_queue (state_after (opening z) a) d) d own rest (left_of p d) after_runs whole turn left_here)

      taken : IsTurn p (turn_on p d false) d
      taken = turn_taken p d

      left : (k : ℕ) → k < z.domains → left_of (turn_on p d false) k ≡ commands rest k
      left k less = go (eqb k d) refl
        where
          go : (b : Bool) → eqb k d ≡ b → left_of (turn_on p d false) k ≡ commands rest k
          go true e = subst (λ (n : ℕ). left_of (turn_on p d false) n ≡ commands rest n) (sym (eqb-true k d e))
              (taken.left ∙ (ap behind left_here ∙ own_left (state_after (opening z) (a ++ runs_queue (state_after (opening z) a) d)) d own rest run_parts.1 turn))
          go false e =
              let apart : k ≢ d = λ same. let twice : true ≡ false = sym (eq-eqb k d same) ∙ e in cc in
              taken.others_left k apart ∙ (was.left k less ∙ (ap (λ (g : List Entry). commands g k) is
              ∙ (commands-append (runs_queue (state_after (opening z) a) d) (own ++ rest) k ∙ (ap (λ (cs : List declared_command.Command). cs ++ commands (own ++ rest) k) (no_run (length (domain_at (state_after (opening z) a) d).queue) d k)
              ∙ (commands-append own rest k ∙ ap (λ (cs : List declared_command.Command). cs ++ commands rest k) (apart_commands d k own turn apart))))))

  -- all turns
  items_follow : (items : List Item) (p : Played) (a h : List Entry) → Follows p a h → Legal z (a ++ h) → IsMadeIn (state_after (opening z) a) items h → Follows (fold take_item p items) (a ++ h) []
  items_follow [] p a h was legal made = subst (λ (k : List Entry). Follows p k []) (sym (append-nil a) ∙ ap (λ (k : List Entry). a ++ k) (sym made)) (record { along = was.along; left = λ k less. was.left k less ∙ ap (λ (g : List Entry). commands g k) made })
  items_follow (Turn d ∷ items) p a h was legal (own, rest, is, turn, more) =
      let runs : List Entry = runs_queue (state_after (opening z) a) d in
      let split : a ++ h ≡ (a ++ (runs_queue (state_after (opening z) a) d ++ own)) ++ rest =
      ap (λ (k : List Entry). a ++ k) (is ∙ sym (append_assoc (runs_queue (state_after (opening z) a) d) own rest)) ∙ sym (append_assoc a (runs_queue (state_after (opening z) a) d ++ own) rest) in
      let next_legal : Legal z ((a ++ (runs_queue (state_after (opening z) a) d ++ own)) ++ rest) = subst (λ (k : List Entry). Legal z k) split legal in
      let next_made : IsMadeIn (state_after (opening z) (a ++ (runs_queue (state_after (opening z) a) d ++ own))) items rest =
      subst (λ (t : State). IsMadeIn t items rest) (sym (state_after-append (opening z) a (runs_queue (state_after (opening z) a) d ++ own))) more in
      subst (λ (k : List Entry). Follows (fold take_item (take_turn p d) items) k []) (sym split)
      (items_follow items (take_turn p d) (a ++ (runs_queue (state_after (opening z) a) d ++ own)) rest (one_turn p a h d own rest was legal is turn) next_legal next_made)
  items_follow (Collect ∷ items) p a h was legal (c, rest, is, collects, running, more) =
      let split : a ++ h ≡ (a ++ c) ++ rest = ap (λ (k : List Entry). a ++ k) is ∙ sym (append_assoc a c rest) in
      let next_legal : Legal z ((a ++ c) ++ rest) = subst (λ (k : List Entry). Legal z k) split legal in
      let next_made : IsMadeIn (state_after (opening z) (a ++ c)) items rest = subst (λ (t : State). IsMadeIn t items rest) (sym (state_after-append (opening z) a c)) more in
      let goes_on : all_ended p.state ≡ false = ended_same (state_after (opening z) a).domains p.state.domains was.along.same.domains ∙ running in
      let item : take_item p Collect ≡ with_entries p (complete p.state []) = ap (λ (b : Bool). if b then p else with_entries p (complete p.state [])) goes_on in
      let step : Follows (with_entries p (complete p.state [])) (a ++ c) rest = record {
        along = along_collection z p.state p.history a c [] was.along (legal_parts (opening z) (a ++ c) rest next_legal).0 collects;
        left = λ k less. was.left k less ∙ (ap (λ (g : List Entry). commands g k) is ∙ (commands-append c rest k ∙ ap (λ (cs : List declared_command.Command). cs ++ commands rest k) (collection_commands c [] k collects)));
      } in
      subst (λ (k : List Entry). Follows (fold take_item (take_item p Collect) items) k []) (sym split)
      (items_follow items (take_item p Collect) (a ++ c) rest (subst (λ (q : Played). Follows q (a ++ c) rest) (sym item) step) next_legal next_made)

-- a run in which all have ended stays as it is
turns_over : (p : Played) (ds : List ℕ) → ((d : ℕ) → (domain_at p.state d).ended ≡ true) → fold take_turn p ds ≡ p
turns_over p [] over = refl
turns_over p (d ∷ ds) over = ap (λ (q : Played). fold take_turn q ds) (ap (turn_on p d) (over d)) ∙ turns_over p ds over

rounds_over : (p : Played) (ns : List ℕ) → ((d : ℕ) → (domain_at p.state d).ended ≡ true) → fold (λ q n. take_round q) p ns ≡ p
rounds_over p [] over = refl
rounds_over p (n ∷ ns) over = ap (λ (q : Played). fold (λ q n. take_round q) q ns) (turns_over p (domains_of p.state) over) ∙ rounds_over p ns over

-- in the end all have ended
over_then : (z : Sizes) (h : List Entry) → Legal z h → ((d : ℕ) → d < z.domains → EndsIn d h) → (d : ℕ) → (domain_at (state_after (opening z) h) d).ended ≡ true
over_then z h legal ends d = go (domain_at (opening z) d).ended refl
  where
    go : (b : Bool) → (domain_at (opening z) d).ended ≡ b → (domain_at (state_after (opening z) h) d).ended ≡ true
    go true over = ended_stays (opening z) h d legal over
    go false runs =
        let e = ends d (inside z.domains d runs) in
        let parts = legal_parts (opening z) e.before (End d ∷ e.after) (subst (λ (k : List Entry). Legal z k) e.is legal) in
        ap (λ (k : List Entry). (domain_at (state_after (opening z) k) d).ended) e.is
        ∙ (ap (λ (t : State). (domain_at t d).ended) (state_after-append (opening z) e.before (End d ∷ e.after))
        ∙ ended_stays (next (state_after (opening z) e.before) (End d)) e.after d parts.1.1 (end_ends (state_after (opening z) e.before) d))

pub turns_law : TurnsAreScheduled
turns_law z script items h made turns d =
    let start : Follows z (begun z script) [] h = record { along = record { same = same_itself (opening z); state = refl; replies = λ d. refl }; left = λ k less. sym (made.commands_are k less) } in
    let end = items_follow z items (begun z script) [] h start made.legal turns in
    let p : Played = fold take_item (begun z script) items in
    let over : (k : ℕ) → (domain_at p.state k).ended ≡ true =
    λ k. (same_at (state_after (opening z) h).domains p.state.domains k end.along.same.domains).ended ∙ over_then z h made.legal made.ends k in
    ap (λ (q : Played). replies z q.history d) (rounds_over p (range_with_len 0 (rounds_of script)) over) ∙ end.along.replies d
