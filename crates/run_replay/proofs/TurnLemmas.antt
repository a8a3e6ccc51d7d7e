-- One step of a running domain.
use Rattle.std.proofs.Common.{◌≡◌, ◌≢◌, ◌∙◌, ◌++◌, ◌∷◌, ◌+◌, ◌<◌, ◌≤◌, ℕ, zero, suc, Bool, true, false, true≢false, IsTrue, List, [], Some, None, not, ap, arith, drop, inl, inr, length, length-append, refl, slice_get, sym, subst, ⊎_elim}
use Rattle.std.specs.List.{list_all}
use Rattle.std.specs.Prelude.{remove}
use Rattle.model_core.specs.declared.command.Command as model
use Rattle.model_core.specs.declared.command.Command.TheVariants.{PutInt, Copy, Forget, Alloc, AllocMaj, Load, Store, Ephe, SetKey, UnsetKey, GetKey, CheckKey, SetData, UnsetData, GetData, CheckData, Finalise, FinaliseLast, Poll, Minor, Major, FullMajor, Raw, Cas}
use Rattle.model_core.specs.declared.entry.Entry.{Entry}
use Rattle.model_core.specs.declared.entry.Entry.TheVariants.{Command as CommandOf, End as EndOf, Ran as RanOf, Cut, Queue, Seal, Wipe, Last, Collected, Done}
use Rattle.model_core.specs.declared.reply.Applied.{Applied}
use Rattle.model_core.specs.declared.reply.Applied.TheVariants.{Replied, Silent}
use Rattle.model_core.specs.declared.reply.Reply.{Reply}
use Rattle.model_core.specs.declared.state.Sizes.{Sizes}
use Rattle.model_core.specs.Domains.{domain_at}
use Rattle.model_core.specs.Fronts.{Answers, AreCalls, AreNotControls, IsFrontOf, is_call, is_control, is_full_major, unseen}
use Rattle.model_core.proofs.Graphs.GraphLemmas.{and_parts}
use Rattle.model_core.proofs.Histories.FrontLemmas.{unseen_rest}
use Rattle.heap_rule.specs.declared.config.Config.{Config}
use Rattle.heap_rule.specs.declared.view.DomainView.{DomainView}
use Rattle.heap_rule.specs.declared.view.Hunt.TheVariants.{Rests as AtRest}
use Rattle.heap_rule.specs.declared.view.Own.{Own}
use Rattle.heap_rule.specs.Limits.{sizes_in}
use Rattle.heap_rule.specs.Rule.{state_of}
use Rattle.heap_rule.specs.Token.{SharedHeap, Token}
use Rattle.do_finalisers.specs.Running.{reply_of}
use Rattle.heap_rule.specs.Standing.{with_front}
use Rattle.do_alloc.proofs.OfPools.Seeking.{sought_view}
use Rattle.run_turns.specs.declared.supply.Supply.TheVariants.{Listed, Open, Section}
use Rattle.run_turns.specs.declared.supply.Supply.{Supply}
use Rattle.run_turns.specs.declared.turned.Turned.{Turned}
use Rattle.run_turns.specs.declared.turned.Turned.TheVariants.{Did, Waiting, Hungry, Held, Idle}
use Rattle.run_turns.specs.declared.turned.Turned.TheVariants.{Ended as Over}
use Rattle.run_turns.proofs.Turning.{not_full as is_short}
use Rattle.run_turns.specs.Runs.{RunView, Asks, AsksFull, CalmAnswers, CalmDid, EndsTrace, MarksBeside, Polls, RunsFinaliser, SweepsBeside, TriesCommand, WorksBeside, asking_end, said_with}
use Rattle.run_turns.specs.Runs.CalmDid.{Finalises, Wishes, Refuses, Tries, Works, Ends, Sees, Makes, Tells, WishesToTell}
use Rattle.run_turns.specs.Tries.{Enters, Stands}
use Rattle.text_script.specs.declared.schedule.drive.together.Stepped.{Stepped}
use Rattle.text_script.specs.declared.schedule.drive.together.Stepped.TheVariants.{Ran, Made, Needs}
use Rattle.text_script.specs.Schedule.Drive.Together.{IsRested, OneRun, TurnTells, Unqueued}
use Rattle.run_replay.specs.Gathered.{Steps, asked_for, is_running, one_run, paused_for}
use Rattle.run_replay.specs.Moves.{CameTo}
use Rattle.run_replay.proofs.CalmLemmas.{asking_next, works_run}
use Rattle.run_replay.proofs.Grown.{Grown, grown_same, steps_none, steps_one}
use Rattle.run_replay.proofs.PassLemmas.{drop_next, paused_now, unasked, unpaused}
use Rattle.run_replay.proofs.SlotLemmas.{at_first}

-- a step of domain d: what it makes, and what it leaves of the run
pub record TurnedBy (z : Sizes) (shares : List Entry → Type 0) (d : ℕ) (r s : RunView) (stepped : Stepped) : Type 0 where
  pub own : List Entry
  pub steps : Steps d r.token.view.seen.front s.token.view.seen.front own
  pub tells : TurnTells z shares d (one_run r) (one_run s) own stepped
  pub number : s.token.view.own.number ≡ r.token.view.own.number

-- a call is no control
call_is_none : (e : Entry) → IsTrue (is_call e) → not (is_control e) ≡ true
call_is_none (CommandOf d c full) is = refl
call_is_none (EndOf d) is = refl
call_is_none (RanOf d) is = refl
call_is_none Cut is = absurd (true≢false (sym is))
call_is_none (Queue d places) is = absurd (true≢false (sym is))
call_is_none Seal is = absurd (true≢false (sym is))
call_is_none (Wipe l keys) is = absurd (true≢false (sym is))
call_is_none (Last d place) is = absurd (true≢false (sym is))
call_is_none Collected is = absurd (true≢false (sym is))
call_is_none Done is = absurd (true≢false (sym is))

calls_lead_nothing : (xs : List Entry) → AreCalls xs → AreNotControls xs
calls_lead_nothing [] calls = refl
calls_lead_nothing (e ∷ xs) calls = let parts = and_parts (is_call e) (list_all is_call xs) calls in rw (call_is_none e parts.0) (calls_lead_nothing xs parts.1)

-- no other command is made in a pause
not_full : (d : ℕ) (c : model.Command) (full : Bool) → c ≢ FullMajor → is_full_major (CommandOf d c full) ≡ false
not_full d (PutInt dst z) full other = refl
not_full d (Copy dst src) full other = refl
not_full d (Forget dst) full other = refl
not_full d (Alloc dst tag fields) full other = refl
not_full d (AllocMaj dst tag fields) full other = refl
not_full d (Raw dst tag fields) full other = refl
not_full d (Load dst src i) full other = refl
not_full d (Store block i item) full other = refl
not_full d (Cas block i expected item) full other = refl
not_full d (Ephe dst keys) full other = refl
not_full d (SetKey ephe i item) full other = refl
not_full d (UnsetKey ephe i) full other = refl
not_full d (GetKey dst ephe i) full other = refl
not_full d (CheckKey ephe i) full other = refl
not_full d (SetData ephe item) full other = refl
not_full d (UnsetData ephe) full other = refl
not_full d (GetData dst ephe) full other = refl
not_full d (CheckData ephe) full other = refl
not_full d (Finalise item number dst) full other = refl
not_full d (FinaliseLast item number) full other = refl
not_full d Poll full other = refl
not_full d Minor full other = refl
not_full d Major full other = refl
not_full d FullMajor full other = absurd (other refl)
not_full d _ full other = refl

-- an answer of a running domain: others' calls, and its entry
answer_steps : (z : Sizes) (d : ℕ) (new old : List Entry) (e : Entry) (a : Applied) → is_full_major e ≡ false → Answers z d old new e a → Steps d old new (e ∷ [])
answer_steps z d new old e a running t =
    let mid : List Entry = old ++ t.between in
    let f : IsFrontOf d mid old = record { rest = t.between; appends = refl; others = t.others } in
    steps_one d new mid old e (f, λ _. subst AreNotControls (sym (unseen_rest d mid old f)) (calls_lead_nothing t.between (t.calls running))) t.appends

-- the entry of a command that isn't answered `full`
enters : (h : SharedHeap) (old new : Token) (c : model.Command) (a : Reply) → Stands h old new c false a → Enters old new c false a
enters h old new (Alloc dst tag fields) a s = ⊎_elim (λ u. u.0) (λ u. absurd (true≢false (sym u.2))) s
enters h old new (Raw dst tag fields) a s = ⊎_elim (λ u. u.0) (λ u. absurd (true≢false (sym u.2))) s
enters h old new (AllocMaj dst tag fields) a s = ⊎_elim (λ u. u.0) (λ u. absurd (true≢false (sym u.2))) s
enters h old new (Ephe dst keys) a s = ⊎_elim (λ u. u.0) (λ u. absurd (true≢false (sym u.2))) s
enters h old new _ a s = s

-- lists
drop_past : {A : Type 0} (xs : List A) (n : ℕ) → length xs ≤ n → drop n xs ≡ []
drop_past [] zero past = refl
drop_past [] (suc n) past = refl
drop_past (x ∷ xs) zero past = absurd (omega (arith, past))
drop_past (x ∷ xs) (suc n) past = drop_past xs n (omega (arith, past))

pub empty_list : {A : Type 0} (xs : List A) → length xs ≡ 0 → xs ≡ []
empty_list [] none = refl
empty_list (x ∷ xs) none = absurd (omega (arith, none))

one_more : {A : Type 0} (xs : List A) (x : A) → length (xs ++ x ∷ []) ≡ length xs → ⊥
one_more xs x same = let all = length-append xs (x ∷ []) in omega (arith, all, same)

-- the first is taken
one_fewer : {A : Type 0} (xs : List A) (x : A) → slice_get xs 0 ≡ Some x → length (remove xs 0) < length xs
one_fewer [] x at = cc
one_fewer (y ∷ ys) x at = omega arith

more : (n : ℕ) → n + 1 ≡ n → ⊥
more n same = omega (arith, same)

module _ (h : SharedHeap) (shares : List Entry → Type 0) (d : ℕ) (r s : RunView) (stepped : Stepped) (mine : d ≡ r.token.view.own.number) (goes_on : r.ended ≡ false) (fresh : r.collected ≡ false)
    (came : CameTo h.config s r.next (length r.replies) stepped) (once : stepped ≡ Needs false → IsRested (one_run r) → (one_run r).asked ≡ false)
    (unqueued : length (domain_at (state_of h.config s.token.view.seen.front) s.token.view.own.number).queue ≡ 0 → Unqueued (sizes_in h.config) shares d) where
  abbrev z : Sizes
  z = sizes_in h.config

  abbrev x : DomainView
  x = r.token.view

  abbrev y : DomainView
  y = s.token.view

  -- what a step may have come to that made no entry: it came to the need of a pause
  no_entry : (command : model.Command) → slice_get r.commands r.next ≡ Some command → s.commands ≡ r.commands → s.next ≡ r.next → s.replies ≡ r.replies → s.ended ≡ r.ended → y.own.number ≡ x.own.number → Grown d y.seen.front x.seen.front
      → one_run s ≡ record (one_run r) { asked = true; paused = false; waiting = length y.own.finalisers.queue.items } → (command ≡ FullMajor → length y.own.finalisers.queue.items ≡ 0) → TurnedBy z shares d r s stepped
  no_entry command next commands same replies ended number front run empty = go stepped came once where
    steps : Steps d x.seen.front y.seen.front []
    steps = steps_none d y.seen.front x.seen.front front

    named : slice_get s.commands s.next ≡ Some FullMajor → slice_get r.commands r.next ≡ Some FullMajor
    named at = (λ i. slice_get (sym commands i) (sym same i)) ∙ at

    named_back : slice_get r.commands r.next ≡ Some FullMajor → slice_get s.commands s.next ≡ Some FullMajor
    named_back at = (λ i. slice_get (commands i) (same i)) ∙ at

    go : (c : Stepped) → CameTo h.config s r.next (length r.replies) c → (c ≡ Needs false → IsRested (one_run r) → (one_run r).asked ≡ false) → TurnedBy z shares d r s c
    go Made at one = ⊎_elim (λ (e : s.next ≢ r.next). absurd (e same)) (λ (e : s.ended ≡ true). absurd (true≢false (sym e ∙ (ended ∙ goes_on)))) at
    go Ran at one = absurd (at.2 (ap length replies))
    go (Needs true) at one =
        let full : slice_get r.commands r.next ≡ Some FullMajor = named (at.3 refl) in
        let is : command ≡ FullMajor = (let e : Some command ≡ Some FullMajor = sym next ∙ full in cc) in record {
          own = [];
          steps = steps;
          tells = record { others = drop (r.next + 1) r.commands; next = drop_next r.commands r.next FullMajor full; unqueued = unqueued (at.5 ∙ empty is); made = refl; run = run };
          number = number;
        }
    go (Needs false) at one = record { own = []; steps = steps; tells = (refl, run, one refl, λ others next. at.4 refl (named_back (at_first r.commands r.next FullMajor others next))); number = number }

  asked_now : (command : model.Command) (at : ℕ) → slice_get r.commands r.next ≡ Some command → asked_for (drop r.next r.commands) (Some at) ≡ true
  asked_now command at next = ap (λ (cs : List model.Command). asked_for cs (Some at)) (drop_next r.commands r.next command next)

  -- the command was made
  made_next : (command : model.Command) (reply : Reply) → slice_get r.commands r.next ≡ Some command → command ≢ FullMajor → Answers z x.own.number x.seen.front y.seen.front (CommandOf x.own.number command false) (Replied reply)
      → s.next ≡ r.next + 1 → y.own.number ≡ x.own.number → one_run s ≡ record (one_run r) { left = drop (r.next + 1) r.commands; replies = s.replies; asked = false; paused = false; waiting = length y.own.finalisers.queue.items } → TurnedBy z shares d r s stepped
  made_next command reply next short answers later number run = go stepped came where
    go : (c : Stepped) → CameTo h.config s r.next (length r.replies) c → TurnedBy z shares d r s c
    go Made at = record {
      own = CommandOf d command false ∷ [];
      steps = subst (λ (n : ℕ). Steps n x.seen.front y.seen.front (CommandOf n command false ∷ [])) (sym mine) (answer_steps z x.own.number y.seen.front x.seen.front (CommandOf x.own.number command false) (Replied reply) (not_full x.own.number command false short) answers);
      tells = inl record { command = command; others = drop (r.next + 1) r.commands; next = drop_next r.commands r.next command next; short = short; made = refl; run = run };
      number = number;
    }
    go Ran at = absurd (more r.next (sym later ∙ at.0))
    go (Needs complete) at = absurd (more r.next (sym later ∙ at.0))

  -- the run behind a command, but for what a replay doesn't see
  behind_command : (reply : Reply) → (v : RunView) → one_run s ≡ one_run v → v.replies ≡ r.replies ++ reply ∷ [] → s.replies ≡ v.replies
      → one_run v ≡ record { commands = r.commands; left = drop (r.next + 1) r.commands; replies = r.replies ++ reply ∷ []; asked = asked_for (drop (r.next + 1) r.commands) None; paused = paused_for (drop (r.next + 1) r.commands) None v.token.view.own.arrivals; waiting = length v.token.view.own.finalisers.queue.items; runs = is_running r.left; ended = r.ended }
      → one_run s ≡ record (one_run r) { left = drop (r.next + 1) r.commands; replies = s.replies; asked = false; paused = false; waiting = length y.own.finalisers.queue.items }
  behind_command reply v same replies kept is = same ∙ (is ∙ λ i. record { commands = r.commands; left = drop (r.next + 1) r.commands; replies = sym (kept ∙ replies) i; asked = unasked (drop (r.next + 1) r.commands) i; paused = unpaused (drop (r.next + 1) r.commands) v.token.view.own.arrivals i; waiting = sym (ap (λ (o : OneRun). o.waiting) same) i; runs = is_running r.left; ended = r.ended })

  tries : (c : model.Command) → TriesCommand h r.token r s c → TurnedBy z shares d r s stepped
  tries c t =
      let config : r.token.config ≡ h.config = sym t.tried.heap.1 ∙ t.tried.runs.here.1 in
      let made : Enters r.token s.token c false t.reply = enters h r.token s.token c t.reply (subst (λ (b : Bool). Stands h r.token s.token c b t.reply) fresh t.tried.stands) in
      made_next c t.reply t.next (is_short h.config x.own _ c t.ready)
      (subst (λ (k : Config). Answers (sizes_in k) x.own.number x.seen.front y.seen.front (CommandOf x.own.number c false) (Replied t.reply)) config made)
      (ap (λ (v : RunView). v.next) t.run) (ap (λ (o : Own). o.number) t.tried.own)
      (behind_command t.reply s refl (ap (λ (v : RunView). v.replies) t.run) refl (ap one_run t.run))

  -- work for the collector leaves the front and the number
  works_on : (worked : RunView) (spent : Bool) → WorksBeside h r worked spent → (worked.token.view.seen.front ≡ x.seen.front) × (worked.token.view.own.number ≡ x.own.number)
  works_on worked spent w = ⊎_elim
      (λ (m : MarksBeside h r worked spent). (ap (λ (v : DomainView). v.seen.front) m.learnt.view, ap (λ (v : DomainView). v.own.number) m.learnt.view))
      (λ (u : ((count : ℕ) × SweepsBeside h r worked count) × (spent ≡ false)). (ap (λ (v : DomainView). v.seen.front) u.0.1.swept.view, ap (λ (v : DomainView). v.own.number) u.0.1.swept.view))
      w

  -- and so does the wish for the end of a cycle
  asking_one : (b : Bool) (v : RunView) → one_run (asking_end b v) ≡ one_run v
  asking_one false v = refl
  asking_one true v = refl

  asking_front : (b : Bool) (v : RunView) → (asking_end b v).token.view.seen.front ≡ v.token.view.seen.front
  asking_front false v = refl
  asking_front true v = refl

  asking_number : (b : Bool) (v : RunView) → (asking_end b v).token.view.own.number ≡ v.token.view.own.number
  asking_number false v = refl
  asking_number true v = refl

  polls : Polls h r s → TurnedBy z shares d r s stepped
  polls p =
      let w : p.worked ≡ record r { token = p.worked.token; hints = p.worked.hints } = works_run h r p.worked p.spent p.works in
      let kept = works_on p.worked p.spent p.works in
      let t : TriesCommand h p.worked.token (record r { token = p.worked.token; hints = p.worked.hints }) p.made Poll = subst (λ (q : RunView). TriesCommand h p.worked.token q p.made Poll) w p.tried in
      let config : p.worked.token.config ≡ h.config = sym t.tried.heap.1 ∙ t.tried.runs.here.1 in
      let made : Enters p.worked.token p.made.token Poll false t.reply = enters h p.worked.token p.made.token Poll t.reply (subst (λ (b : Bool). Stands h p.worked.token p.made.token Poll b t.reply) fresh t.tried.stands) in
      let front : p.made.token.view.seen.front ≡ y.seen.front = sym (ap (λ (v : RunView). v.token.view.seen.front) p.run ∙ asking_front p.spent p.made) in
      let one : one_run s ≡ one_run p.made = ap one_run p.run ∙ asking_one p.spent p.made in
      made_next Poll t.reply t.next (λ e. cc)
      (subst (λ (q : Config × ℕ × List Entry × List Entry). Answers (sizes_in q.0) q.1 q.2 q.3 (CommandOf q.1 Poll false) (Replied t.reply)) (λ i. (config i, kept.1 i, kept.0 i, front i)) made)
      (ap (λ (v : RunView). v.next) p.run ∙ (asking_next p.spent p.made ∙ ap (λ (v : RunView). v.next) t.run))
      (ap (λ (v : RunView). v.token.view.own.number) p.run ∙ (asking_number p.spent p.made ∙ (ap (λ (o : Own). o.number) t.tried.own ∙ kept.1)))
      (behind_command t.reply p.made one (ap (λ (v : RunView). v.replies) t.run) (ap (λ (o : OneRun). o.replies) one) (ap one_run t.run))

  finalises : r.supply ≡ Listed → RunsFinaliser h r.token r s → TurnedBy z shares d r s stepped
  finalises listed f = go stepped came where
    kept : s.replies ≡ r.replies ++ reply_of f.ran ∷ []
    kept = ap (λ (v : RunView). v.replies) f.run ∙ ap (λ (t : Supply). said_with t r.replies (reply_of f.ran)) listed

    -- one finaliser fewer waits
    fewer_wait : length y.own.finalisers.queue.items < length x.own.finalisers.queue.items
    fewer_wait = subst (λ (n : ℕ). n < length x.own.finalisers.queue.items) (sym (ap (λ (v : DomainView). length v.own.finalisers.queue.items) f.first.view)) (one_fewer x.own.finalisers.queue.items f.first.first f.first.is_first)

    same : s.next ≡ r.next
    same = ap (λ (v : RunView). v.next) f.run

    ended : s.ended ≡ r.ended
    ended = ap (λ (v : RunView). v.ended) f.run

    go : (c : Stepped) → CameTo h.config s r.next (length r.replies) c → TurnedBy z shares d r s c
    go Made at = ⊎_elim (λ (e : s.next ≢ r.next). absurd (e same)) (λ (e : s.ended ≡ true). absurd (true≢false (sym e ∙ (ended ∙ goes_on)))) at
    go Ran at = record {
      own = RanOf d ∷ [];
      steps = subst (λ (n : ℕ). Steps n x.seen.front y.seen.front (RanOf n ∷ [])) (sym mine) (answer_steps z x.own.number y.seen.front x.seen.front (RanOf x.own.number) (Replied (reply_of f.ran)) refl f.first.answers);
      tells = (refl, ap one_run f.run ∙ λ i. record (one_run r) { replies = sym (ap (λ (v : RunView). v.replies) f.run) i; paused = paused_for (drop r.next r.commands) r.asked (ap (λ (v : DomainView). v.own.arrivals) f.first.view i); waiting = length y.own.finalisers.queue.items }, fewer_wait);
      number = ap (λ (v : DomainView). v.own.number) f.first.view;
    }
    go (Needs complete) at = absurd (one_more r.replies (reply_of f.ran) (ap length (sym kept) ∙ at.2))

  asks : Asks h r.token r s → TurnedBy z shares d r s stepped
  asks a = no_entry a.command a.next (ap (λ (v : RunView). v.commands) a.run) (ap (λ (v : RunView). v.next) a.run) (ap (λ (v : RunView). v.replies) a.run) (ap (λ (v : RunView). v.ended) a.run)
      (ap (λ (v : RunView). v.token.view.own.number) a.run) (grown_same d y.seen.front x.seen.front (ap (λ (v : RunView). v.token.view.seen.front) a.run))
      (ap one_run a.run ∙ λ i. record (one_run r) { asked = asked_now a.command x.own.arrivals a.next i; paused = paused_now (drop r.next r.commands) x.own.arrivals i; waiting = sym (ap (λ (v : RunView). length v.token.view.own.finalisers.queue.items) a.run) i })
      (λ _. ap (λ (v : RunView). length v.token.view.own.finalisers.queue.items) a.run ∙ ap length a.unqueued)

  asks_full : AsksFull h r.token r s → TurnedBy z shares d r s stepped
  asks_full a =
      let found : DomainView = with_front a.searched.view x.seen.front in
      let kept = sought_view h.config x found AtRest a.refused.view in
      let number : found.own.number ≡ d = ap (λ (v : DomainView). v.own.number) kept ∙ sym mine in
      let arrivals : found.own.arrivals ≡ x.own.arrivals = ap (λ (v : DomainView). v.own.arrivals) kept in
      let looked = a.refused.looked in
      let seen : IsFrontOf d a.searched.view.seen.front x.seen.front = subst (λ (n : ℕ). IsFrontOf n a.searched.view.seen.front x.seen.front) number looked.seen in
      let grown : Grown d a.searched.view.seen.front x.seen.front = (seen, λ _. calls_lead_nothing (unseen a.searched.view.seen.front x.seen.front) looked.calls) in
      no_entry a.command a.next (ap (λ (v : RunView). v.commands) a.run) (ap (λ (v : RunView). v.next) a.run) (ap (λ (v : RunView). v.replies) a.run) (ap (λ (v : RunView). v.ended) a.run)
      (ap (λ (v : RunView). v.token.view.own.number) a.run ∙ ap (λ (v : DomainView). v.own.number) kept)
      (subst (λ (f : List Entry). Grown d f x.seen.front) (sym (ap (λ (v : RunView). v.token.view.seen.front) a.run)) grown)
      (ap one_run a.run ∙ λ i. record (one_run r) { asked = asked_now a.command x.own.arrivals a.next i; paused = (ap (paused_for (drop r.next r.commands) (Some x.own.arrivals)) arrivals ∙ paused_now (drop r.next r.commands) x.own.arrivals) i; waiting = sym (ap (λ (v : RunView). length v.token.view.own.finalisers.queue.items) a.run) i })
      (λ is. absurd (is_short h.config x.own _ a.command a.ready is))

  ends : EndsTrace h r.token r s → TurnedBy z shares d r s stepped
  ends e = go stepped came where
    over : s.ended ≡ true
    over = ap (λ (v : RunView). v.ended) e.run

    none : drop r.next r.commands ≡ []
    none = drop_past r.commands r.next e.past

    config : r.token.config ≡ h.config
    config = sym e.ended.heap.1 ∙ e.ended.here.1

    go : (c : Stepped) → CameTo h.config s r.next (length r.replies) c → TurnedBy z shares d r s c
    go Made at = record {
      own = EndOf d ∷ [];
      steps = subst (λ (n : ℕ). Steps n x.seen.front y.seen.front (EndOf n ∷ [])) (sym mine)
          (answer_steps z x.own.number y.seen.front x.seen.front (EndOf x.own.number) Silent refl (subst (λ (k : Config). Answers (sizes_in k) x.own.number x.seen.front y.seen.front (EndOf x.own.number) Silent) config e.ended.answers));
      tells = inr record { none = none; made = refl; run = ap one_run e.run ∙ λ i. record { commands = r.commands; left = drop r.next r.commands; replies = r.replies; asked = ap (λ (cs : List model.Command). asked_for cs r.asked) none i; paused = ap (λ (cs : List model.Command). paused_for cs r.asked y.own.arrivals) none i; waiting = length y.own.finalisers.queue.items; runs = is_running r.left; ended = true } };
      number = ap (λ (v : DomainView). v.own.number) e.ended.view;
    }
    go Ran at = absurd (true≢false (sym over ∙ at.1))
    go (Needs complete) at = absurd (true≢false (sym over ∙ at.1))

  -- a section isn't replayed
  other : r.supply ≡ Listed → r.supply ≡ Section → ⊥
  other listed section = let e : Listed ≡ Section = sym listed ∙ section in cc

  did : r.supply ≡ Listed → CalmDid h r s → TurnedBy z shares d r s stepped
  did listed (Finalises f) = finalises listed f
  did listed (Wishes a) = asks a
  did listed (Refuses a) = asks_full a
  did listed (Tries c another t) = tries c t
  did listed (Works p) = polls p
  did listed (Ends e) = ends e
  did listed (Sees t) = absurd (other listed t.sectioned)
  did listed (Makes c t) = absurd (other listed t.sectioned)
  did listed (Tells t) = absurd (other listed t.sectioned)
  did listed (WishesToTell a) = absurd (other listed a.sectioned)

  -- whatever the step answers
  pub turned : (a : Turned) → r.supply ≡ Listed → CalmAnswers h r s a → TurnedBy z shares d r s stepped
  turned Did listed says = did listed says
  turned (Waiting b) listed says = absurd says
  turned Hungry listed says = absurd (let e : Open ≡ Listed = sym says.more ∙ listed in cc)
  turned (Held section) listed says = absurd (other listed says.sectioned)
  turned (Idle n) listed says = absurd (true≢false (sym says.0.over ∙ goes_on))
  turned Over listed says = absurd (true≢false (sym says.over ∙ goes_on))
