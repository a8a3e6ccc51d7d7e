-- A history that grows as the scheduled one does agrees with it.
use Rattle.std.proofs.Common.{◌≡◌, ◌≢◌, ℕ, ◌<◌, true, false, cond, List, [], ◌∷◌, ◌++◌, length, set, replicate, refl, sym, ap, ◌∙◌, subst, ⊎_elim, append_assoc, append-nil}
use Rattle.std.proofs.lemmas.Bool.{cases_lt}
use Rattle.std.proofs.lemmas.List.{get_or-set_same, get_or_past, length-set, set-get_or}
use Rattle.model_core.specs.declared.command.Command.{Command as CommandType}
use Rattle.model_core.specs.declared.command.Command.TheVariants.{FullMajor}
use Rattle.model_core.specs.declared.entry.Entry.{Entry}
use Rattle.model_core.specs.declared.entry.Entry.TheVariants.{Command as CommandOf, End, Ran}
use Rattle.model_core.specs.declared.graph.Value.TheVariants.{Block}
use Rattle.model_core.specs.declared.reply.Applied.{Applied}
use Rattle.model_core.specs.declared.state.DomainState.{DomainState}
use Rattle.model_core.specs.declared.state.Mode.TheVariants.{Open}
use Rattle.model_core.specs.declared.state.Pending.{Pending}
use Rattle.model_core.specs.declared.state.Pending.TheVariants.{Fin, Last as LastPending}
use Rattle.model_core.specs.declared.state.Sizes.{Sizes}
use Rattle.model_core.specs.declared.state.State.{State}
use Rattle.model_core.specs.Domains.{domain_at, no_domain, opening, with_domain}
use Rattle.model_core.specs.Entries.{after_run, next, without_first}
use Rattle.model_core.specs.History.{Legal, LegalFrom, is_entry_of, replies, replies_from, reply_list, state_after}
use Rattle.model_core.proofs.Commands.MoveLemmas.{outcome-mode}
use Rattle.model_core.proofs.Histories.HistoryLemmas.{replies_from-append, state_after-append}
use Rattle.model_traces.specs.Schedules.Sameness.{IsCollection, IsSameBut, is_step}
use Rattle.model_traces.specs.Schedules.Scheduled.{Played, behind, complete, left_of, next_entries, with_entries, with_next}
use Rattle.model_traces.proofs.OfSchedules.Collecting.{collection_law, legal_parts}
use Rattle.model_traces.proofs.OfSchedules.Steps.{step_law}
use Rattle.text_script.specs.Schedule.Drive.Together.{Grows}
use Rattle.text_script.specs.Schedule.Drive.Following.{Agrees, turn_rest}
use Rattle.text_script.proofs.OfSchedule.OfDrive.Walking.{collection_mode, open_none}
use Rattle.text_script.proofs.OfSchedule.OfDrive.Passing.{nothing_grows}

-- a step leaves the mode as it is
ran_mode : (s : State) (d : ℕ) (queue : List Pending) → (after_run s d queue).mode ≡ s.mode
ran_mode s d [] = refl
ran_mode s d (Fin number l r ∷ rest) = refl
ran_mode s d (LastPending number ∷ rest) = refl

step_mode : (s : State) (e : Entry) → is_step e ≡ true → (next s e).mode ≡ s.mode
step_mode s (CommandOf d c true) is = refl
step_mode s (CommandOf d c false) is = outcome-mode s d c
step_mode s (End d) is = refl
step_mode s (Ran d) is = ran_mode s d (domain_at s d).queue
step_mode s e is = cc

-- both grow, by entries that leave the same and answer the same
agrees_grown : (z : Sizes) (p : Played) (h es c : List Entry) → Agrees z p h → Legal z (h ++ c) → (state_after (opening z) (h ++ c)).mode ≡ Open → IsSameBut (state_after (opening z) (h ++ c)) (state_after p.state es)
    → ((d : ℕ) → replies_from p.state es d ≡ replies_from (state_after (opening z) h) c d) → Agrees z (with_entries p es) (h ++ c)
agrees_grown z p h es c a legal mode same alike = record {
  legal = legal;
  mode = mode;
  same = same;
  replies = λ d.
      replies_from-append (opening z) p.history es d ∙ ap (λ rs. rs ++ replies_from (state_after (opening z) p.history) es d) (a.replies d)
      ∙ ap (λ (t : State). replies z h d ++ replies_from t es d) a.state ∙ ap (λ rs. replies z h d ++ rs) (alike d) ∙ sym (replies_from-append (opening z) h c d);
  state = state_after-append (opening z) p.history es ∙ ap (λ (t : State). state_after t es) a.state;
}

-- a step
pub agrees_step : (z : Sizes) (p : Played) (h : List Entry) (e : Entry) → Agrees z p h → Legal z (h ++ e ∷ []) → is_step e ≡ true → Agrees z (with_entries p (e ∷ [])) (h ++ e ∷ [])
agrees_step z p h e a legal is =
    let s : State = state_after (opening z) h in
    let law = step_law z h p.state e a.legal a.same is (legal_parts (opening z) h (e ∷ []) legal).1.0 in
    let after : state_after (opening z) (h ++ e ∷ []) ≡ next s e = state_after-append (opening z) h (e ∷ []) in
    agrees_grown z p h (e ∷ []) (e ∷ []) a legal (ap (λ (t : State). t.mode) after ∙ step_mode s e is ∙ a.mode)
    (subst (λ (t : State). IsSameBut t (next p.state e)) (sym after) law.1)
    (λ d. ap (λ (r : Applied). cond (is_entry_of d e) (reply_list r) [] ++ []) law.0)

-- a complete collection
pub agrees_collection : (z : Sizes) (p : Played) (h c answered : List Entry) → Agrees z p h → Legal z (h ++ c) → IsCollection c answered → Agrees z (with_entries p (complete p.state answered)) (h ++ c)
agrees_collection z p h c answered a legal is =
    let law = collection_law z h p.state c answered legal a.mode a.same is in
    agrees_grown z p h (complete p.state answered) c a legal
    (ap (λ (t : State). t.mode) (state_after-append (opening z) h c) ∙ collection_mode (state_after (opening z) h) c answered is) law.0 law.1

-- a shared history grew by one step alone
pub grown_step : (z : Sizes) (h g : List Entry) (e : Entry) → Legal z g → (state_after (opening z) h).mode ≡ Open → is_step e ≡ true → Grows h (e ∷ []) g → g ≡ h ++ e ∷ []
grown_step z h g e legal mode is grows =
    let o : State = opening z in
    let first = legal_parts o (h ++ grows.before ++ e ∷ []) grows.after (subst (λ k. LegalFrom o k) grows.appends legal) in
    let second = legal_parts o (h ++ grows.before) (e ∷ []) first.0 in
    let before : grows.before ≡ [] = open_none (state_after o h) grows.before mode grows.quiet_before (legal_parts o h grows.before second.0).1 in
    let start : h ++ grows.before ≡ h = ap (λ k. h ++ k) before ∙ append-nil h in
    let mode_then : (state_after o (h ++ grows.before ++ e ∷ [])).mode ≡ Open =
    ap (λ (t : State). t.mode) (state_after-append o (h ++ grows.before) (e ∷ [])) ∙ step_mode (state_after o (h ++ grows.before)) e is ∙ ap (λ k. (state_after o k).mode) start ∙ mode in
    let after : grows.after ≡ [] = open_none (state_after o (h ++ grows.before ++ e ∷ [])) grows.after mode_then grows.quiet_after first.1 in
    grows.appends ∙ ap (λ k. k ++ e ∷ [] ++ grows.after) start ∙ ap (λ k. h ++ e ∷ [] ++ k) after ∙ append-nil (h ++ e ∷ [])

-- or by none
pub grown_none : (z : Sizes) (h g : List Entry) → Legal z g → (state_after (opening z) h).mode ≡ Open → Grows h [] g → g ≡ h
grown_none z h g legal mode grows =
    let none = nothing_grows z h g legal mode grows in
    grows.appends ∙ ap (λ k. k ++ grows.after) (append-nil (h ++ grows.before)) ∙ append_assoc h grows.before grows.after ∙ ap (λ k. h ++ (k ++ grows.after)) (sym (append-nil grows.before)) ∙ ap (λ k. h ++ k) none ∙ append-nil h

-- the entries of a command that isn't a `full_major`
pub short_step : (d : ℕ) (c : CommandType) → c ≢ FullMajor → is_step (CommandOf d c false) ≡ true
short_step d FullMajor short = absurd (short refl)
short_step d c short = refl

short_entries : (s : State) (d : ℕ) (c : CommandType) (cs : List CommandType) → c ≢ FullMajor → next_entries s d (c ∷ cs) ≡ CommandOf d c false ∷ []
short_entries s d FullMajor cs short = absurd (short refl)
short_entries s d c cs short = refl

-- a domain with a queue is there
is_there : (s : State) (d : ℕ) (w : Pending) (rest : List Pending) → (domain_at s d).queue ≡ w ∷ rest → d < length s.domains
is_there s d w rest queue =
    ⊎_elim (λ few. few)
    (λ past. let clash : [] ≡ w ∷ rest = sym (ap (λ (x : DomainState). x.queue) (get_or_past s.domains d no_domain past)) ∙ queue in cc)
    (cases_lt d (length s.domains))

-- a finaliser that runs leaves the queue
ran_queue : (s : State) (d : ℕ) (w : Pending) (rest : List Pending) → d < length s.domains → (domain_at (after_run s d (w ∷ rest)) d).queue ≡ rest
ran_queue s d (Fin number l r) rest few =
    let x : DomainState = without_first (domain_at s d) rest in
    let one : State = with_domain s d x in
    let inside : d < length one.domains = subst (λ n. d < n) (sym (length-set s.domains d x)) few in
    ap (λ (y : DomainState). y.queue) (get_or-set_same one.domains d (record (domain_at one d) { registers = set (domain_at one d).registers r (Block l) }) no_domain inside)
    ∙ ap (λ (y : DomainState). y.queue) (get_or-set_same s.domains d x no_domain few)
ran_queue s d (LastPending number) rest few = ap (λ (y : DomainState). y.queue) (get_or-set_same s.domains d (without_first (domain_at s d) rest) no_domain few)

-- the rest of a turn, once one more finaliser has run
pub rest_ran : (q : Played) (d : ℕ) (w : Pending) (rest : List Pending) → (domain_at q.state d).queue ≡ w ∷ rest → turn_rest (with_entries q (Ran d ∷ [])) d ≡ turn_rest q d
rest_ran q d w rest queue =
    let one : Played = with_entries q (Ran d ∷ []) in
    let then : (domain_at one.state d).queue ≡ rest = ap (λ ws. (domain_at (after_run q.state d ws) d).queue) queue ∙ ran_queue q.state d w rest (is_there q.state d w rest queue) in
    let many : List Entry = replicate (length rest) (Ran d) in
    ap (λ ws. with_next (with_entries one (replicate (length ws) (Ran d))) d) then
    ∙ ap (λ k. with_next (record q { state = state_after (next q.state (Ran d)) many; history = k }) d) (append_assoc q.history (Ran d ∷ []) many)
    ∙ ap (λ ws. with_next (with_entries q (replicate (length ws) (Ran d))) d) (sym queue)

-- and where none waits
pub rest_next : (q : Played) (d : ℕ) → (domain_at q.state d).queue ≡ [] → turn_rest q d ≡ with_next q d
rest_next q d queue =
    ap (λ ws. with_next (with_entries q (replicate (length ws) (Ran d))) d) queue ∙ ap (λ k. with_next (record q { history = k }) d) (append-nil q.history)

-- what the next command or the end makes of it
abbrev after_next : Played → ℕ → List CommandType → Played
after_next q d cs = record (with_entries q (next_entries q.state d cs)) { left = set q.left d (behind cs) }

pub next_command : (q : Played) (d : ℕ) (c : CommandType) (cs : List CommandType) → left_of q d ≡ c ∷ cs → c ≢ FullMajor → with_next q d ≡ record (with_entries q (CommandOf d c false ∷ [])) { left = set q.left d cs }
next_command q d c cs is short = ap (after_next q d) is ∙ ap (λ es. record (with_entries q es) { left = set q.left d cs }) (short_entries q.state d c cs short)

pub next_end : (q : Played) (d : ℕ) → left_of q d ≡ [] → with_next q d ≡ with_entries q (End d ∷ [])
next_end q d is = ap (after_next q d) is ∙ ap (λ ls. record (with_entries q (End d ∷ [])) { left = ls }) (ap (λ (cs : List CommandType). set q.left d cs) (sym is) ∙ set-get_or q.left d [])

pub next_full : (q : Played) (d : ℕ) (cs : List CommandType) → left_of q d ≡ FullMajor ∷ cs → with_next q d ≡ record (with_entries q (complete q.state (CommandOf d FullMajor false ∷ []))) { left = set q.left d cs }
next_full q d cs is = ap (after_next q d) is
