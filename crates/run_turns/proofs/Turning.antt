-- A turn keeps what is true of a run.
use Rattle.std.proofs.Common.{true≢false, ◌≡◌, ◌≢◌, ◌∙◌, ℕ, zero, suc, ◌+◌, ◌^◌, ◌<◌, ◌≤◌, Bool, true, false, List, [], ◌∷◌, ◌++◌, length, take, drop, slice_get, Some, None, Option, refl, sym, ap, subst, arith, length-append, append-nil, eq-eqb, add-one, ⊎_elim, inl, inr, ◌⊎◌}
use Rattle.model_core.specs.declared.command.Command as model
use Rattle.model_core.specs.declared.entry.Entry.{Entry}
use Rattle.model_core.specs.declared.entry.Entry.TheVariants.{Command as CommandOf, End, Ran as RanEntry}
use Rattle.model_core.specs.declared.reply.Reply.{Reply}
use Rattle.model_core.specs.declared.reply.Applied.TheVariants.{Replied, Silent}
use Rattle.model_core.specs.History.{commands, command_of}
use Rattle.model_core.proofs.Histories.AnswerLemmas.{commands_after}
use Rattle.model_core.proofs.Reach.ReachLemmas.{or_right}
use Rattle.heap_rule.specs.declared.config.Config.{Config}
use Rattle.heap_rule.specs.Limits.{sizes_in}
use Rattle.heap_rule.specs.Token.{Token, SharedHeap, IsIn}
use Rattle.model_core.specs.declared.command.Command.TheVariants.{PutInt, Alloc, AllocMaj, Ephe, FullMajor, Raw}
use Rattle.model_core.specs.Domains.{domain_at}
use Rattle.model_core.specs.Fronts.{Answers}
use Rattle.model_core.proofs.Histories.AnswerLemmas.{acts_after}
use Rattle.model_core.proofs.Histories.FrontLemmas.{answers_after, front_whole}
use Rattle.heap_rule.specs.declared.view.Hunt.TheVariants.{Rests}
use Rattle.heap_rule.specs.declared.phase.Kind.TheVariants.{Answer}
use Rattle.heap_rule.specs.declared.phase.Note.{Note}
use Rattle.heap_rule.specs.Standing.{noted, with_front}
use Rattle.heap_rule.specs.Rule.{state_of}
use Rattle.do_fields.specs.Darkening.Aware.{Learnt}
use Rattle.step_marks.specs.Marking.Arming.{knowing_armed}
use Rattle.gc_mark.specs.Decks.{DeckCounts, StaysDeck}
use Rattle.gc_pause.specs.Phases.Sharing.{gave_back}
use Rattle.run_turns.specs.Pausing.{AnswersLive, KnowsProgress, due_of}
use Rattle.heap_rule.specs.declared.phase.Progress.{Progress}
use Rattle.do_alloc.specs.Pools.Taken.{Sought}
use Rattle.do_alloc.proofs.OfPools.Seeking.{sought_shortens, sought_view}
use Rattle.gc_sweep.specs.Sweeping.{Swept}
use Rattle.heap_words.specs.Remembered.Bounded.{Bounded}
use Rattle.model_core.specs.Fronts.{IsFrontOf}
use Rattle.run_turns.proofs.LeavingLemmas.{answer_between, knows_on}
use Rattle.gc_mark.proofs.Going.{stays_same}
use Rattle.run_turns.proofs.Moving.{Moves, deck_on, moved_is_run, still_moves}
use Rattle.heap_rule.specs.declared.view.Own.{Own}
use Rattle.heap_rule.specs.declared.view.DomainView.{DomainView}
use Rattle.step_finalisers.specs.Registering.{count_of}
use Rattle.step_sweep.proofs.Dues.{due_at}
use Rattle.do_finalisers.specs.declared.running.Ran.{Ran}
use Rattle.do_finalisers.specs.Running.{RanFirst, reply_of}
use Rattle.run_turns.specs.Tries.{Enters, Stands, Tried, NeedsPause, ephemerons_given, ephemerons_of, labels_given, labels_of, registrations_of}
use Rattle.model_core.proofs.OfCounts.Few.{ephemerons_few, labels_few}
use Rattle.heap_rule.specs.declared.phase.Kind.{Kind}
use Rattle.heap_rule.specs.Phases.{IsEven}
use Rattle.run_turns.specs.Runs.{RunView, AreKept, EndsIn, HasLabels, IsBetween, IsHandedIn, IsRun, HasEnded, Takes, is_asked, ephemerons_in, most_ran, ran_with, said_with, registrations_in, is_end_of, served_since}
use Rattle.run_turns.proofs.Kept.{keeps_one, kept_answer, kept_end, kept_ran, said_apart}
use Rattle.run_turns.proofs.Taking.{arrived_takes, tried_takes}
use Rattle.do_spawn.proofs.Owed.{command_due}
use Rattle.run_turns.proofs.Owing.{drop_registrations, ended_count, enlisted_count, ran_count, ran_fresh, registrations_few}
use Rattle.run_turns.proofs.PauseLemmas.{quiet_as}
use Rattle.run_turns.specs.Sections.{IsInSection, IsOrdinary, IsTold}
use Rattle.run_turns.specs.declared.place.Place.TheVariants.{Before}
use Rattle.run_turns.proofs.Sectioning.{section_answers, section_ended, section_ran, take_next}
use Rattle.run_turns.proofs.Supplying.{ends_as, ends_on, labels_after, labels_next}
use Rattle.run_turns.specs.declared.supply.Supply.{Supply}
use Rattle.run_turns.specs.declared.supply.Supply.TheVariants.{Listed, Section, Open, Closed}
use Rattle.std.specs.List.{list_any}
use Rattle.std.specs.Prelude.{cond, IsTrue}

drop_next : (cs : List model.Command) (n : ℕ) (c : model.Command) → slice_get cs n ≡ Some c → ephemerons_in (drop n cs) ≡ ephemerons_of c + ephemerons_in (drop (suc n) cs)
drop_next [] n c at = cc
drop_next (x ∷ xs) zero c at = let is : x ≡ c = cc in ap (λ (y : model.Command). ephemerons_of y + ephemerons_in xs) is
drop_next (x ∷ xs) (suc n) c at = drop_next xs n c at

pub inside : (cs : List model.Command) (n : ℕ) (c : model.Command) → slice_get cs n ≡ Some c → n < length cs
inside [] n c at = cc
inside (x ∷ xs) zero c at = omega arith
inside (x ∷ xs) (suc n) c at = let rest = inside xs n c at in omega arith

own : (d : ℕ) (c : model.Command) (full : Bool) → command_of d (CommandOf d c full) ≡ c ∷ []
own d c full = ap (λ (b : Bool). cond b (c ∷ []) []) (eq-eqb d d refl)

-- the entry that stands
pub stood : (h : SharedHeap) (old new : Token) (c : model.Command) (collected : Bool) (r : Reply) → Stands h old new c collected r → (full : Bool) × Enters old new c full r
stood h old new (Alloc dst tag fields) collected r s = ⊎_elim (λ a. (false, a.0)) (λ b. (true, b.0)) s
stood h old new (Raw dst tag fields) collected r s = ⊎_elim (λ a. (false, a.0)) (λ b. (true, b.0)) s
stood h old new (AllocMaj dst tag fields) collected r s = ⊎_elim (λ a. (false, a.0)) (λ b. (true, b.0)) s
stood h old new (Ephe dst keys) collected r s = ⊎_elim (λ a. (false, a.0)) (λ b. (true, b.0)) s
stood h old new (PutInt dst z) collected r s = (false, s)
stood h old new c collected r s = (false, s)

-- a run that has a next command goes on
pub next_running : (r : RunView) → IsRun r → (c : model.Command) → slice_get r.commands r.next ≡ Some c → r.ended ≡ false
next_running r is c at = by r.ended refl where
  by : (b : Bool) → r.ended ≡ b → r.ended ≡ false
  by false e = e
  by true e = absurd (let done = is.done e in let below = inside r.commands r.next c at in let n : ℕ = r.next in omega arith)

-- a run that has asked for a pause doesn't wait for its start
pub asked_going : (r : RunView) → IsRun r → is_asked r.asked ≡ true → r.place ≢ Before
asked_going r is wished before = let clash : false ≡ true = sym (ap is_asked (is.unasked before)) ∙ wished in cc

-- the domain has room for an ephemeron that the next command makes
pub next_room : (r : RunView) → IsRun r → (c : model.Command) → slice_get r.commands r.next ≡ Some c → ephemerons_of c ≤ r.token.view.own.ephemerons.room
next_room r is c at =
    let all = drop_next r.commands r.next c at in
    let room = is.room in
    let rest : ℕ = ephemerons_in (drop (suc r.next) r.commands) in
    omega arith

-- and for a finaliser that it registers
pub next_enlists : (r : RunView) → IsRun r → (c : model.Command) → slice_get r.commands r.next ≡ Some c → registrations_of c + count_of r.token.view.own.finalisers ≤ r.token.config.finals
next_enlists r is c at =
    let all = drop_registrations r.commands r.next c at in
    let fits = is.enlists in
    let count : ℕ = count_of r.token.view.own.finalisers in
    let rest : ℕ = registrations_in (drop (suc r.next) r.commands) in
    omega arith

-- and a label for a block that it allocates
pub next_labels : (r : RunView) → IsRun r → (c : model.Command) → slice_get r.commands r.next ≡ Some c → r.token.view.own.serial + labels_of c < 2 ^ 32
next_labels r is c at = labels_next r.supply r.token.view.own.serial r.next r.commands c at (let below = inside r.commands r.next c at in let few = is.few in omega arith) is.labels

-- how many replies of finalisers a run may keep, by where its commands come from
pub most_apart : (s : Supply) (registered spare : ℕ) → IsHandedIn s → most_ran s registered spare ≡ spare
most_apart Listed registered spare handed = absurd handed
most_apart Section registered spare handed = absurd handed
most_apart Open registered spare handed = refl
most_apart Closed registered spare handed = refl

most_listed : (s : Supply) (registered spare : ℕ) → (IsHandedIn s → ⊥) → most_ran s registered spare ≡ registered
most_listed Listed registered spare other = refl
most_listed Section registered spare other = refl
most_listed Open registered spare other = absurd (other tt)
most_listed Closed registered spare other = absurd (other tt)

handed_or : (s : Supply) → IsHandedIn s ⊎ (IsHandedIn s → ⊥)
handed_or Listed = inr (λ e. e)
handed_or Section = inr (λ e. e)
handed_or Open = inl tt
handed_or Closed = inl tt

-- another reply fits: that of the next command, and that of each finaliser
pub next_replies : (r : RunView) → IsRun r → (c : model.Command) → slice_get r.commands r.next ≡ Some c → length r.replies < length r.commands + length r.commands
next_replies r is c at =
    let below : r.next < length r.commands = inside r.commands r.next c at in
    let few : registrations_in r.commands ≤ length r.commands = registrations_few r.commands in
    let count : ℕ = count_of r.token.view.own.finalisers + registrations_in (drop r.next r.commands) in
    let replied : length r.replies + length r.ran + count ≤ r.next + most_ran r.supply (registrations_in r.commands) r.spare = is.replied in
    ⊎_elim
    (λ (handed : IsHandedIn r.supply). let kept = (is.one handed).answered in omega (arith, below, kept))
    (λ (other : IsHandedIn r.supply → ⊥). let most = most_listed r.supply (registrations_in r.commands) r.spare other in omega (arith, below, few, replied, most))
    (handed_or r.supply)

pub ran_replies : (r : RunView) → IsRun r → (n : ℕ) → n + 1 ≡ count_of r.token.view.own.finalisers → (IsHandedIn r.supply → ⊥) → length r.replies < length r.commands + length r.commands
ran_replies r is n some other =
    let within = is.within in
    let few = registrations_few r.commands in
    let replied = is.replied in
    let count : ℕ = count_of r.token.view.own.finalisers in
    let rest : ℕ = registrations_in (drop r.next r.commands) in
    let most = most_listed r.supply (registrations_in r.commands) r.spare other in
    omega arith

-- where commands are handed in the replies of finalisers fit with those that are registered
pub apart_few : (r : RunView) → IsRun r → IsHandedIn r.supply → length r.ran + (count_of r.token.view.own.finalisers + registrations_in (drop r.next r.commands)) ≤ r.spare
apart_few r is handed =
    let replied = is.replied in
    let count : ℕ = count_of r.token.view.own.finalisers in
    let rest : ℕ = registrations_in (drop r.next r.commands) in
    let kept = (is.one handed).answered in
    let most = most_apart r.supply (registrations_in r.commands) r.spare handed in
    omega arith

pub ran_apart : (r : RunView) → IsRun r → (n : ℕ) → n + 1 ≡ count_of r.token.view.own.finalisers → IsHandedIn r.supply → length r.ran < r.spare
ran_apart r is n some handed =
    let few = apart_few r is handed in
    let rest : ℕ = registrations_in (drop r.next r.commands) in
    omega (arith, few, some)

-- after the try of a command the domain runs on
tried_between : (h : SharedHeap) (old new : Token) (c : model.Command) (reply : Reply) (asked : Option ℕ) (collected : Bool) (progress : Progress) → IsBetween None asked collected progress old → Tried h old new c collected reply → IsBetween None None false progress new
tried_between h old new c reply asked collected progress is t = record {
  stands = t.runs.acts.runs;
  quiet = quiet_as old.view new.view t.stays.copying (ap (λ (o : Own). o.pending) t.own) (ap (λ (o : Own). o.prepared) t.own) t.stays.weak is.quiet;
  even = λ none. subst IsEven (sym t.stays.arrivals) (is.even none);
  remembers = λ _. t.runs.remembers;
  emptied = λ _ served. cc;
  has_left = λ known left. cc;
  fresh = λ e. cc;
  knows = knows_on old.view new.view progress (ap (λ (o : Own). o.number) t.own) t.stays.progress is.knows;
}

-- after the end of the trace it runs too
ended_between : (h : SharedHeap) (old new : Token) (asked : Option ℕ) (collected : Bool) (progress : Progress) → IsBetween None asked collected progress old → HasEnded h old new → IsBetween None asked false progress new
ended_between h old new asked collected progress is t =
    let arrivals : new.view.own.arrivals ≡ old.view.own.arrivals = ap (λ (x : DomainView). x.own.arrivals) t.view in record {
      stands = ap (λ (x : DomainView). x.seen.stage) t.view ∙ is.stands;
      quiet = quiet_as old.view new.view (ap (λ (x : DomainView). x.seen.copying) t.view) (ap (λ (x : DomainView). x.own.pending) t.view) (ap (λ (x : DomainView). x.own.prepared) t.view) (ap (λ (x : DomainView). x.seen.share.weak) t.view) is.quiet;
      even = λ none. subst IsEven (sym arrivals) (is.even none);
      remembers = λ none. ap (λ (x : DomainView). x.seen.remembered) t.view ∙ (is.remembers none ∙ sym (ap (λ (x : DomainView). x.own.remembered.items) t.view));
      emptied = λ none served. ap (λ (x : DomainView). x.own.used) t.view ∙ is.emptied none (ap (served_since asked) (sym arrivals) ∙ served);
      has_left = λ known left. cc;
      fresh = λ e. cc;
      knows = knows_on old.view new.view progress (ap (λ (x : DomainView). x.own.number) t.view) (ap (λ (x : DomainView). x.seen.share.progress) t.view) is.knows;
    }

-- what the entry of a command leaves of its domain's token
record HasMade (old new : Token) (c : model.Command) (full : Bool) (reply : Reply) (due : ℕ) : Type 0 where
  config : new.config ≡ old.config
  number : new.view.own.number ≡ old.view.own.number
  takes : Takes (labels_given c reply) (ephemerons_given c reply) old.view new.view
  listed : count_of new.view.own.finalisers ≤ count_of old.view.own.finalisers + registrations_of c
  owes : due_of old.config new.view ≡ due
  idle : new.view.seen.made ≡ []
  at_rest : new.view.seen.hunt ≡ Rests
  answers : Answers (sizes_in old.config) old.view.own.number old.view.seen.front new.view.seen.front (CommandOf old.view.own.number c full) (Replied reply)

-- the entry of the next command was made, and its reply kept
made_is_run : (r : RunView) (new : Token) (c : model.Command) (full : Bool) (reply : Reply) (left : Option Kind) (progress : Progress) (due : ℕ) (hints : DeckCounts) → StaysDeck r.hints hints → IsRun r → r.ended ≡ false → slice_get r.commands r.next ≡ Some c → r.place ≢ Before → IsOrdinary c → HasMade r.token new c full reply due → IsBetween left None false progress new
    → IsRun (record r { token = new; next = r.next + 1; replies = r.replies ++ reply ∷ []; left = left; asked = None; collected = false; progress = progress; due = due; hints = hints })
made_is_run r new c full reply left progress due hints stays is running at going ordinary m between =
    let d : ℕ = r.token.view.own.number in
    let z = sizes_in r.token.config in
    let e : Entry = CommandOf d c full in
    let made : EndsIn r.supply (commands new.view.seen.front d) (take r.next r.commands ++ c ∷ []) =
    ends_as r.supply (commands r.token.view.seen.front d ++ c ∷ []) (commands new.view.seen.front d) (take r.next r.commands ++ c ∷ [])
    (commands_after z d r.token.view.seen.front new.view.seen.front e (Replied reply) m.answers ∙ ap (λ (cs : List model.Command). commands r.token.view.seen.front d ++ cs) (own d c full))
    (ends_on r.supply (commands r.token.view.seen.front d) (take r.next r.commands) (c ∷ []) is.made) in
    let left_over : ℕ = registrations_in (drop (suc r.next) r.commands) in
    let all = drop_registrations r.commands r.next c at in
    let listed = m.listed in
    let more : length (r.replies ++ reply ∷ []) + length r.ran + (count_of new.view.own.finalisers + left_over) ≤ suc r.next + most_ran r.supply (registrations_in r.commands) r.spare =
    let one = length-append r.replies (reply ∷ []) in let before = is.replied in let most : ℕ = most_ran r.supply (registrations_in r.commands) r.spare in omega arith in
    let enough : count_of new.view.own.finalisers + left_over ≤ r.token.config.finals = let before = is.enlists in omega arith in
    record {
      inside = subst (λ (z : ℕ × Config). z.0 < z.1.domains) (λ i. (sym m.number i, sym m.config i)) is.inside;
      made = ends_as r.supply (commands new.view.seen.front d) (commands new.view.seen.front new.view.own.number) (take (r.next + 1) r.commands) (ap (commands new.view.seen.front) m.number)
          (subst (λ (l : List model.Command). EndsIn r.supply (commands new.view.seen.front d) l) (sym (take_next r.commands r.next c at) ∙ ap (λ (n : ℕ). take n r.commands) (sym (add-one r.next))) made);
      answered = subst (λ (w : Config × ℕ). AreKept r.supply (sizes_in w.0) new.view.seen.front w.1 (r.replies ++ reply ∷ []) r.ran) (λ i. (sym m.config i, sym m.number i)) (kept_answer z d r.token.view.seen.front new.view.seen.front c full reply m.answers r.supply r.replies r.ran is.answered);
      replied = subst (λ (n : ℕ). length (r.replies ++ reply ∷ []) + length r.ran + (count_of new.view.own.finalisers + registrations_in (drop n r.commands)) ≤ n + most_ran r.supply (registrations_in r.commands) r.spare) (sym (add-one r.next)) more;
      within = let below = inside r.commands r.next c at in omega arith;
      few = is.few;
      fit = is.fit;
      room = subst (λ (n : ℕ). ephemerons_in (drop n r.commands) ≤ new.view.own.ephemerons.room) (sym (add-one r.next))
          (let few = ephemerons_few c reply in let rest : ℕ = ephemerons_in (drop (suc r.next) r.commands) in omega (arith, few, drop_next r.commands r.next c at, is.room, m.takes.room));
      enlists = subst (λ (z : ℕ × Config). count_of new.view.own.finalisers + registrations_in (drop z.0 r.commands) ≤ z.1.finals) (λ i. (sym (add-one r.next) i, sym m.config i)) enough;
      idle = m.idle;
      at_rest = m.at_rest;
      goes_on = λ _. subst (λ (z : ℕ × Config). (domain_at (state_of z.1 new.view.seen.front) z.0).ended ≡ false) (λ i. (sym m.number i, sym m.config i))
          (acts_after z d r.token.view.seen.front new.view.seen.front c full (Replied reply) m.answers (is.goes_on running));
      owes = λ _. subst (λ (k : Config). due_of k new.view ≡ due) (sym m.config) m.owes;
      between = between;
      labels = labels_after r.supply r.token.view.own.serial new.view.own.serial r.next r.commands c at (let few = labels_few c reply in omega (arith, few, m.takes.labels_are)) is.labels;
      deck = deck_on r new hints m.number m.config stays is.deck;
      done = λ ended. let clash : false ≡ true = sym running ∙ ended in cc;
      over = λ ended. let clash : false ≡ true = sym running ∙ ended in cc;
      shut = λ ended. let clash : false ≡ true = sym running ∙ ended in cc;
      one = λ handed. let o = is.one handed in record { one = o.one; answered = let kept = length-append r.replies (reply ∷ []) in let before = o.answered in omega (arith, kept, before) };
      section = λ section. subst (λ (w : Config × ℕ). IsInSection w.0 w.1 new.view.seen.front r.place r.commands (r.next + 1) (r.replies ++ reply ∷ [])) (λ i. (sym m.config i, sym m.number i))
          (section_answers r.token.config d r.token.view.seen.front new.view.seen.front r.place r.commands r.next r.replies c full reply going ordinary at m.answers (is.section section));
      as_ever = is.as_ever;
      unasked = λ before. refl;
      told = λ ended. let clash : false ≡ true = sym running ∙ ended in cc;
      spares = is.spares ∙ ap (λ (k : Config). k.finals) (sym m.config);
    }

-- each of these is another than `full_major`, which always waits for a pause
pub not_full : (k : Config) (own : Own) (served : Bool) (c : model.Command) → (NeedsPause k own served c → ⊥) → c ≢ FullMajor
not_full k own served c ready is = ready (subst (λ (d : model.Command). NeedsPause k own served d) (sym is) tt)

-- a command that was tried may have registered one
pub tried_count : (h : SharedHeap) (old new : Token) (c : model.Command) (collected : Bool) (reply : Reply) → Tried h old new c collected reply → count_of new.view.own.finalisers ≤ count_of old.view.own.finalisers + registrations_of c
tried_count h old new c collected reply t =
    let few : count_of new.view.own.finalisers ≤ registrations_of c + count_of old.view.own.finalisers = subst (λ (o : Own). count_of o.finalisers ≤ registrations_of c + count_of old.view.own.finalisers) (sym t.own) (enlisted_count c old.view.own) in
    omega (arith, few)

pub tried_is_run : (h : SharedHeap) (r : RunView) (new : Token) (c : model.Command) (reply : Reply) (own : Own) (served : Bool) → IsRun r → r.ended ≡ false → r.left ≡ None → slice_get r.commands r.next ≡ Some c → r.place ≢ Before → IsOrdinary c → Tried h r.token new c r.collected reply → (NeedsPause h.config own served c → ⊥)
    → IsRun (record r { token = new; next = r.next + 1; replies = r.replies ++ reply ∷ []; asked = None; collected = false; due = 0 })
tried_is_run h r new c reply own served is running left at going ordinary t ready =
    let st = stood h r.token new c r.collected reply t.stands in
    let number : new.view.own.number ≡ r.token.view.own.number = ap (λ (o : Own). o.number) t.own in
    let d : ℕ = r.token.view.own.number in
    let owes : due_of r.token.config new.view ≡ 0 = ap (λ (n : ℕ). due_at (state_of r.token.config new.view.seen.front) n) number
    ∙ command_due (sizes_in r.token.config) d r.token.view.seen.front new.view.seen.front c st.0 (Replied reply) st.1 (not_full h.config own served c ready) in
    made_is_run r new c st.0 reply r.left r.progress 0 r.hints (stays_same r.hints) is running at going ordinary
    record { listed = tried_count h r.token new c r.collected reply t; owes = owes; config = t.heap.1; number = ap (λ (o : Own). o.number) t.own; takes = tried_takes h r.token new c r.collected reply t; idle = t.runs.idle; at_rest = t.runs.at_rest; answers = st.1 }
    (subst (λ (l : Option Kind). IsBetween l None false r.progress new) (sym left) (tried_between h r.token new c reply r.asked r.collected r.progress (subst (λ (l : Option Kind). IsBetween l r.asked r.collected r.progress r.token) left is.between) t))

-- the same where a collection is answered by the reply of a `full_major`
pub answered_is_run : (h : SharedHeap) (r : RunView) (new : Token) (reply : Reply) (progress : Progress) (hints : DeckCounts) → StaysDeck r.hints hints → IsRun r → r.ended ≡ false → slice_get r.commands r.next ≡ Some FullMajor → r.place ≢ Before → IsIn r.token h → IsIn new h → AnswersLive h.config r.token.view new.view reply → KnowsProgress progress new.view
    → IsRun (record r { token = new; next = r.next + 1; replies = r.replies ++ reply ∷ []; left = Some Answer; asked = None; collected = false; progress = progress; due = length new.view.own.finalisers.queue.items; hints = hints })
answered_is_run h r new reply progress hints stays is running at going was here a knows =
    let passed = a.comes.passed.view in
    let own : new.view.own ≡ (gave_back (with_front a.begun a.front) new.view).own = ap (λ (x : DomainView). x.own) a.view in
    let config : new.config ≡ r.token.config = here.1 ∙ sym was.1 in
    let front : new.view.seen.front ≡ a.front = ap (λ (x : DomainView). x.seen.front) a.view in
    let entry : Entry = CommandOf r.token.view.own.number FullMajor false in
    let answers : Answers (sizes_in h.config) r.token.view.own.number r.token.view.seen.front new.view.seen.front entry (Replied reply) =
    subst (λ (f : List Entry). Answers (sizes_in h.config) r.token.view.own.number r.token.view.seen.front f entry (Replied reply)) (sym front)
    (answers_after (sizes_in h.config) r.token.view.own.number r.token.view.seen.front a.begun.seen.front a.front entry (Replied reply) a.comes.passed.seen (λ running. absurd (true≢false running)) a.answers) in
    made_is_run r new FullMajor false reply (Some Answer) progress (length new.view.own.finalisers.queue.items) hints stays is running at going tt
    record {
      config = config;
      number = ap (λ (o : Own). o.number) own ∙ ap (λ (x : DomainView). x.own.number) passed;
      takes = arrived_takes r.token.view a.begun new.view a.front a.view (ap (λ (x : DomainView). x.own.serial) passed) (ap (λ (x : DomainView). x.own.ephemerons) passed);
      listed = let same : count_of new.view.own.finalisers ≡ count_of r.token.view.own.finalisers = ap (λ (o : Own). count_of o.finalisers) own ∙ ap (λ (x : DomainView). count_of x.own.finalisers) passed in omega (arith, same);
      owes = subst (λ (k : Config). due_of k new.view ≡ length new.view.own.finalisers.queue.items) (sym was.1) a.due;
      idle = ap (λ (x : DomainView). x.seen.made) a.view ∙ (ap (λ (x : DomainView). x.seen.made) passed ∙ is.idle);
      at_rest = ap (λ (x : DomainView). x.seen.hunt) a.view ∙ (ap (λ (x : DomainView). x.seen.hunt) passed ∙ is.at_rest);
      answers = subst (λ (k : Config). Answers (sizes_in k) r.token.view.own.number r.token.view.seen.front new.view.seen.front entry (Replied reply)) (sym was.1) answers;
    }
    (answer_between h r.token.view a.begun new a.front None false progress here is.between.quiet a.comes a.view (λ e. cc) knows)

any_last : (p : Entry → Bool) (xs : List Entry) (e : Entry) → p e ≡ true → IsTrue (list_any p (xs ++ e ∷ []))
any_last p [] e is = rw is refl
any_last p (x ∷ xs) e is = or_right (p x) (list_any p (xs ++ e ∷ [])) (any_last p xs e is)

pub ended_is_run : (h : SharedHeap) (r : RunView) (new : Token) → IsRun r → r.supply ≢ Open → r.left ≡ None → length r.commands ≤ r.next → IsTold r.place → HasEnded h r.token new → IsRun (record r { token = new; ended = true; collected = false })
ended_is_run h r new is shut left whole told t =
    let d : ℕ = r.token.view.own.number in
    let z = sizes_in r.token.config in
    let number = ap (λ (x : DomainView). x.own.number) t.view in
    let serial : new.view.own.serial ≡ r.token.view.own.serial = ap (λ (x : DomainView). x.own.serial) t.view in
    let made : commands new.view.seen.front d ≡ commands r.token.view.seen.front d =
    commands_after z d r.token.view.seen.front new.view.seen.front (End d) Silent t.answers ∙ append-nil (commands r.token.view.seen.front d) in
    let fewer : count_of new.view.own.finalisers ≤ count_of r.token.view.own.finalisers = subst (λ (x : DomainView). count_of x.own.finalisers ≤ count_of r.token.view.own.finalisers) (sym t.view) (ended_count r.token.view.own) in
    record {
      inside = subst (λ (z : ℕ × Config). z.0 < z.1.domains) (λ i. (sym number i, sym t.heap.1 i)) is.inside;
      made = ends_as r.supply (commands r.token.view.seen.front d) (commands new.view.seen.front new.view.own.number) (take r.next r.commands) (ap (commands new.view.seen.front) number ∙ made) is.made;
      answered = subst (λ (w : Config × ℕ). AreKept r.supply (sizes_in w.0) new.view.seen.front w.1 r.replies r.ran) (λ i. (sym t.heap.1 i, sym number i)) (kept_end r.supply z d r.token.view.seen.front new.view.seen.front r.replies r.ran t.answers is.answered);
      replied = let less : count_of new.view.own.finalisers ≤ count_of r.token.view.own.finalisers = fewer in let before = is.replied in let rest : ℕ = registrations_in (drop r.next r.commands) in let total : ℕ = most_ran r.supply (registrations_in r.commands) r.spare in let n : ℕ = r.next in omega arith;
      within = is.within;
      few = is.few;
      fit = is.fit;
      room = subst (λ (x : DomainView). ephemerons_in (drop r.next r.commands) ≤ x.own.ephemerons.room) (sym t.view) is.room;
      enlists = subst (λ (k : Config). count_of new.view.own.finalisers + registrations_in (drop r.next r.commands) ≤ k.finals) (sym t.heap.1) (let before = is.enlists in let less : count_of new.view.own.finalisers ≤ count_of r.token.view.own.finalisers = fewer in let rest : ℕ = registrations_in (drop r.next r.commands) in omega arith);
      idle = ap (λ (x : DomainView). x.seen.made) t.view ∙ is.idle;
      at_rest = ap (λ (x : DomainView). x.seen.hunt) t.view ∙ is.at_rest;
      goes_on = λ running. cc;
      owes = λ running. cc;
      between = subst (λ (l : Option Kind). IsBetween l r.asked false r.progress new) (sym left) (ended_between h r.token new r.asked r.collected r.progress (subst (λ (l : Option Kind). IsBetween l r.asked r.collected r.progress r.token) left is.between) t);
      labels = subst (λ (n : ℕ). HasLabels r.supply n r.next r.commands) (sym serial) is.labels;
      deck = deck_on r new r.hints number t.heap.1 (stays_same r.hints) is.deck;
      done = λ ended. omega (arith, is.within, whole);
      over = λ ended. subst (λ (n : ℕ). IsTrue (list_any (is_end_of n) new.view.seen.front)) (sym number)
          (subst (λ (front : List Entry). IsTrue (list_any (is_end_of d) front)) (sym t.answers.appends) (any_last (is_end_of d) (r.token.view.seen.front ++ t.answers.between) (End d) (eq-eqb d d refl)));
      shut = λ _. shut;
      one = λ handed. let o = is.one handed in record { one = o.one; answered = o.answered };
      section = λ section. subst (λ (w : Config × ℕ). IsInSection w.0 w.1 new.view.seen.front r.place r.commands r.next r.replies) (λ i. (sym t.heap.1 i, sym number i))
          (section_ended r.token.config d r.token.view.seen.front new.view.seen.front r.place r.commands r.next r.replies t.answers (is.section section));
      as_ever = is.as_ever;
      unasked = is.unasked;
      told = λ _. told;
      spares = is.spares ∙ ap (λ (k : Config). k.finals) (sym t.heap.1);
    }

-- the run of a finaliser leaves the domain between two turns
ran_between : (h : SharedHeap) (old new : Token) (ran : Ran) (asked : Option ℕ) (collected : Bool) (progress : Progress) → new.config ≡ old.config → h.config ≡ old.config → IsBetween None asked collected progress old → RanFirst h.config ran old.view new.view → IsBetween None asked collected progress new
ran_between h old new ran asked collected progress config same is f =
    let arrivals : new.view.own.arrivals ≡ old.view.own.arrivals = ap (λ (x : DomainView). x.own.arrivals) f.view in
    let number : new.view.own.number ≡ old.view.own.number = ap (λ (x : DomainView). x.own.number) f.view in record {
      stands = ap (λ (x : DomainView). x.seen.stage) f.view ∙ is.stands;
      quiet = quiet_as old.view new.view (ap (λ (x : DomainView). x.seen.copying) f.view) (ap (λ (x : DomainView). x.own.pending) f.view) (ap (λ (x : DomainView). x.own.prepared) f.view) (ap (λ (x : DomainView). x.seen.share.weak) f.view) is.quiet;
      even = λ none. subst IsEven (sym arrivals) (is.even none);
      remembers = λ none. ap (λ (x : DomainView). x.seen.remembered) f.view ∙ (is.remembers none ∙ sym (ap (λ (x : DomainView). x.own.remembered.items) f.view));
      emptied = λ none served. ap (λ (x : DomainView). x.own.used) f.view ∙ is.emptied none (ap (served_since asked) (sym arrivals) ∙ served);
      has_left = λ known left. cc;
      fresh = λ e. subst (λ (z : Config × ℕ). (domain_at (state_of z.0 new.view.seen.front) z.1).fresh ≡ true) (λ i. (sym config i, sym number i))
          (ran_fresh (sizes_in old.config) old.view.own.number old.view.seen.front new.view.seen.front (Replied (reply_of ran))
          (subst (λ (k : Config). Answers (sizes_in k) old.view.own.number old.view.seen.front new.view.seen.front (RanEntry old.view.own.number) (Replied (reply_of ran))) same f.answers) (is.fresh e));
      knows = knows_on old.view new.view progress number (ap (λ (x : DomainView). x.seen.share.progress) f.view) is.knows;
    }

-- a finaliser has run, and its reply was kept
pub ran_is_run : (h : SharedHeap) (r : RunView) (new : Token) (ran : Ran) → IsRun r → r.ended ≡ false → r.left ≡ None → IsIn r.token h → IsIn new h → (domain_at (state_of new.config new.view.seen.front) new.view.own.number).ended ≡ false → RanFirst h.config ran r.token.view new.view
    → IsRun (record r { token = new; replies = said_with r.supply r.replies (reply_of ran); ran = ran_with r.supply r.ran (reply_of ran); due = length new.view.own.finalisers.queue.items })
ran_is_run h r new ran is running left was here goes f =
    let d : ℕ = r.token.view.own.number in
    let k : Config = r.token.config in
    let z = sizes_in k in
    let reply : Reply = reply_of ran in
    let config : new.config ≡ k = here.1 ∙ sym was.1 in
    let number : new.view.own.number ≡ d = ap (λ (x : DomainView). x.own.number) f.view in
    let serial : new.view.own.serial ≡ r.token.view.own.serial = ap (λ (x : DomainView). x.own.serial) f.view in
    let answers : Answers z d r.token.view.seen.front new.view.seen.front (RanEntry d) (Replied reply) =
    subst (λ (c : Config). Answers (sizes_in c) d r.token.view.seen.front new.view.seen.front (RanEntry d) (Replied reply)) (sym was.1) f.answers in
    let made : commands new.view.seen.front d ≡ commands r.token.view.seen.front d =
    commands_after z d r.token.view.seen.front new.view.seen.front (RanEntry d) (Replied reply) answers ∙ append-nil (commands r.token.view.seen.front d) in
    let said : List Reply = said_with r.supply r.replies reply in
    let apart : List Reply = ran_with r.supply r.ran reply in
    let count : ℕ = count_of new.view.own.finalisers in
    let rest : ℕ = registrations_in (drop r.next r.commands) in
    let less : count + 1 ≡ count_of r.token.view.own.finalisers = ap (λ (x : DomainView). count_of x.own.finalisers + 1) f.view ∙ ran_count f.first r.token.view.own f.is_first in
    let more : length said + length apart + (count + rest) ≤ r.next + most_ran r.supply (registrations_in r.commands) r.spare =
    let one = keeps_one r.supply r.replies r.ran reply in let before = is.replied in let total : ℕ = most_ran r.supply (registrations_in r.commands) r.spare in let n : ℕ = r.next in omega arith in
    let enough : count + rest ≤ k.finals = let before = is.enlists in omega arith in
    record {
      inside = subst (λ (z : ℕ × Config). z.0 < z.1.domains) (λ i. (sym number i, sym config i)) is.inside;
      made = ends_as r.supply (commands r.token.view.seen.front d) (commands new.view.seen.front new.view.own.number) (take r.next r.commands) (ap (commands new.view.seen.front) number ∙ made) is.made;
      answered = subst (λ (w : Config × ℕ). AreKept r.supply (sizes_in w.0) new.view.seen.front w.1 said apart) (λ i. (sym config i, sym number i)) (kept_ran z d r.token.view.seen.front new.view.seen.front reply answers r.supply r.replies r.ran is.answered);
      replied = more;
      within = is.within;
      few = is.few;
      fit = is.fit;
      room = subst (λ (x : DomainView). ephemerons_in (drop r.next r.commands) ≤ x.own.ephemerons.room) (sym f.view) is.room;
      enlists = subst (λ (c : Config). count + rest ≤ c.finals) (sym config) enough;
      idle = ap (λ (x : DomainView). x.seen.made) f.view ∙ is.idle;
      at_rest = ap (λ (x : DomainView). x.seen.hunt) f.view ∙ is.at_rest;
      goes_on = λ _. goes;
      owes = λ _. subst (λ (c : Config). due_of c new.view ≡ length new.view.own.finalisers.queue.items) (sym here.1) f.due;
      between = subst (λ (l : Option Kind). IsBetween l r.asked r.collected r.progress new) (sym left) (ran_between h r.token new ran r.asked r.collected r.progress config (sym was.1) (subst (λ (l : Option Kind). IsBetween l r.asked r.collected r.progress r.token) left is.between) f);
      labels = subst (λ (n : ℕ). HasLabels r.supply n r.next r.commands) (sym serial) is.labels;
      deck = deck_on r new r.hints number config (stays_same r.hints) is.deck;
      done = λ ended. let clash : false ≡ true = sym running ∙ ended in cc;
      over = λ ended. let clash : false ≡ true = sym running ∙ ended in cc;
      shut = λ ended. let clash : false ≡ true = sym running ∙ ended in cc;
      one = λ handed. let o = is.one handed in record { one = o.one; answered = ap (λ (rs : List Reply). length rs) (said_apart r.supply r.replies reply handed) ∙ o.answered };
      section = λ section. subst (λ (w : Config × ℕ). IsInSection w.0 w.1 new.view.seen.front r.place r.commands r.next said) (λ i. (sym config i, sym number i))
          (subst (λ (s : Supply). IsInSection k d new.view.seen.front r.place r.commands r.next (said_with s r.replies reply)) (sym section)
          (section_ran k d r.token.view.seen.front new.view.seen.front r.place r.commands r.next r.replies reply answers (is.section section)));
      as_ever = is.as_ever;
      unasked = is.unasked;
      told = λ ended. let clash : false ≡ true = sym running ∙ ended in cc;
      spares = is.spares ∙ ap (λ (k : Config). k.finals) (sym config);
    }

-- a view of a running domain by which nothing changed of how it stands between two turns
record StandsStill (x y : DomainView) : Type 0 where
  stage : y.seen.stage ≡ x.seen.stage
  copying : y.seen.copying ≡ x.seen.copying
  weak : y.seen.share.weak ≡ x.seen.share.weak
  pending : y.own.pending ≡ x.own.pending
  prepared : y.own.prepared ≡ x.own.prepared
  arrivals : y.own.arrivals ≡ x.own.arrivals
  seen : y.seen.remembered ≡ x.seen.remembered
  remembered : y.own.remembered ≡ x.own.remembered
  used : y.own.used ≡ x.own.used
  number : y.own.number ≡ x.own.number
  front : y.seen.front ≡ x.seen.front
  progress : y.seen.share.progress ≡ x.seen.share.progress

stands_between : (old new : Token) (asked : Option ℕ) (collected : Bool) (progress : Progress) → new.config ≡ old.config → StandsStill old.view new.view → IsBetween None asked collected progress old → IsBetween None asked collected progress new
stands_between old new asked collected progress config s is = record {
  stands = s.stage ∙ is.stands;
  quiet = quiet_as old.view new.view s.copying s.pending s.prepared s.weak is.quiet;
  even = λ none. subst IsEven (sym s.arrivals) (is.even none);
  remembers = λ none. s.seen ∙ (is.remembers none ∙ ap (λ (b : Bounded ℕ). b.items) (sym s.remembered));
  emptied = λ none served. s.used ∙ is.emptied none (ap (served_since asked) (sym s.arrivals) ∙ served);
  has_left = λ known left. cc;
  fresh = λ e. subst (λ (z : Config × (ℕ × List Entry)). (domain_at (state_of z.0 z.1.1) z.1.0).fresh ≡ true) (λ i. (sym config i, (sym s.number i, sym s.front i))) (is.fresh e);
  knows = knows_on old.view new.view progress s.number s.progress is.knows;
}

-- a running domain that has noted something is where it was
pub noted_is_run : (h : SharedHeap) (r : RunView) (new : Token) (n : Note) → IsRun r → r.left ≡ None → IsIn r.token h → IsIn new h → new.view ≡ noted r.token.view n → IsRun (record r { token = new })
noted_is_run h r new n is left was here v =
    let stands : StandsStill r.token.view new.view = record {
      stage = ap (λ (x : DomainView). x.seen.stage) v;
      copying = ap (λ (x : DomainView). x.seen.copying) v;
      weak = ap (λ (x : DomainView). x.seen.share.weak) v;
      pending = ap (λ (x : DomainView). x.own.pending) v;
      prepared = ap (λ (x : DomainView). x.own.prepared) v;
      arrivals = ap (λ (x : DomainView). x.own.arrivals) v;
      seen = ap (λ (x : DomainView). x.seen.remembered) v;
      remembered = ap (λ (x : DomainView). x.own.remembered) v;
      used = ap (λ (x : DomainView). x.own.used) v;
      number = ap (λ (x : DomainView). x.own.number) v;
      front = ap (λ (x : DomainView). x.seen.front) v;
      progress = ap (λ (x : DomainView). x.seen.share.progress) v;
    } in
    let old : IsBetween None r.asked r.collected r.progress r.token = subst (λ (l : Option Kind). IsBetween l r.asked r.collected r.progress r.token) left is.between in
    moved_is_run r new r.left r.asked r.collected r.progress r.hints is (stays_same r.hints) (still_moves h r.token new _ was here v refl refl refl refl refl refl refl) is.unasked
    (subst (λ (l : Option Kind). IsBetween l r.asked r.collected r.progress new) (sym left) (stands_between r.token new r.asked r.collected r.progress (here.1 ∙ sym was.1) stands old))

-- a domain that has marked beside the others is where it was
pub marked_is_run : (h : SharedHeap) (r : RunView) (new : Token) (hints : DeckCounts) → StaysDeck r.hints hints → IsRun r → r.left ≡ None → IsIn r.token h → IsIn new h → Learnt r.token.view new.view → new.view.seen.share.weak ≡ r.token.view.seen.share.weak → IsRun (record r { token = new; hints = hints })
marked_is_run h r new hints stays is left was here learnt weak =
    let v = learnt.view in
    let stands : StandsStill r.token.view new.view = record {
      stage = ap (λ (x : DomainView). x.seen.stage) v;
      copying = ap (λ (x : DomainView). x.seen.copying) v;
      weak = weak;
      pending = ap (λ (x : DomainView). x.own.pending) v;
      prepared = ap (λ (x : DomainView). x.own.prepared) v;
      arrivals = ap (λ (x : DomainView). x.own.arrivals) v;
      seen = ap (λ (x : DomainView). x.seen.remembered) v;
      remembered = ap (λ (x : DomainView). x.own.remembered) v;
      used = ap (λ (x : DomainView). x.own.used) v;
      number = ap (λ (x : DomainView). x.own.number) v;
      front = ap (λ (x : DomainView). x.seen.front) v;
      progress = ap (λ (x : DomainView). x.seen.share.progress) v;
    } in
    let old : IsBetween None r.asked r.collected r.progress r.token = subst (λ (l : Option Kind). IsBetween l r.asked r.collected r.progress r.token) left is.between in
    moved_is_run r new r.left r.asked r.collected r.progress hints is stays (still_moves h r.token new _ was here v refl refl refl refl refl refl refl) is.unasked
    (subst (λ (l : Option Kind). IsBetween l r.asked r.collected r.progress new) (sym left) (stands_between r.token new r.asked r.collected r.progress (here.1 ∙ sym was.1) stands old))

-- and so is one that has swept
pub swept_is_run : (h : SharedHeap) (r : RunView) (new : Token) (most count : ℕ) → IsRun r → r.left ≡ None → IsIn r.token h → IsIn new h → Swept h.config most count (knowing_armed r.token.view false) new.view → IsRun (record r { token = new })
swept_is_run h r new most count is left was here s =
    let v = s.view in
    let stands : StandsStill r.token.view new.view = record {
      stage = ap (λ (x : DomainView). x.seen.stage) v;
      copying = ap (λ (x : DomainView). x.seen.copying) v;
      weak = ap (λ (x : DomainView). x.seen.share.weak) v;
      pending = ap (λ (x : DomainView). x.own.pending) v;
      prepared = ap (λ (x : DomainView). x.own.prepared) v;
      arrivals = ap (λ (x : DomainView). x.own.arrivals) v;
      seen = ap (λ (x : DomainView). x.seen.remembered) v;
      remembered = ap (λ (x : DomainView). x.own.remembered) v;
      used = ap (λ (x : DomainView). x.own.used) v;
      number = ap (λ (x : DomainView). x.own.number) v;
      front = ap (λ (x : DomainView). x.seen.front) v;
      progress = ap (λ (x : DomainView). x.seen.share.progress) v;
    } in
    let moves : Moves r.token new = record {
      config = here.1 ∙ sym was.1;
      number = stands.number;
      serial = ap (λ (x : DomainView). x.own.serial) v;
      room = s.shortens.no_less;
      listed = ap (λ (x : DomainView). count_of x.own.finalisers) v;
      made = ap (λ (x : DomainView). x.seen.made) v;
      hunt = λ at_rest. ap (λ (x : DomainView). x.seen.hunt) v ∙ at_rest;
      front = subst (λ (f : List Entry). IsFrontOf r.token.view.own.number f r.token.view.seen.front) (sym stands.front) (front_whole r.token.view.own.number r.token.view.seen.front);
    } in
    let old : IsBetween None r.asked r.collected r.progress r.token = subst (λ (l : Option Kind). IsBetween l r.asked r.collected r.progress r.token) left is.between in
    moved_is_run r new r.left r.asked r.collected r.progress r.hints is (stays_same r.hints) moves is.unasked
    (subst (λ (l : Option Kind). IsBetween l r.asked r.collected r.progress new) (sym left) (stands_between r.token new r.asked r.collected r.progress (here.1 ∙ sym was.1) stands old))

-- and so is one that has searched for a place
pub sought_is_run : (h : SharedHeap) (r : RunView) (new : Token) → IsRun r → r.left ≡ None → IsIn r.token h → IsIn new h → Sought h.config r.token.view new.view Rests → IsRun (record r { token = new })
sought_is_run h r new is left was here s =
    let v = sought_view h.config r.token.view new.view Rests s in
    let stands : StandsStill r.token.view new.view = record {
      stage = ap (λ (x : DomainView). x.seen.stage) v;
      copying = ap (λ (x : DomainView). x.seen.copying) v;
      weak = ap (λ (x : DomainView). x.seen.share.weak) v;
      pending = ap (λ (x : DomainView). x.own.pending) v;
      prepared = ap (λ (x : DomainView). x.own.prepared) v;
      arrivals = ap (λ (x : DomainView). x.own.arrivals) v;
      seen = ap (λ (x : DomainView). x.seen.remembered) v;
      remembered = ap (λ (x : DomainView). x.own.remembered) v;
      used = ap (λ (x : DomainView). x.own.used) v;
      number = ap (λ (x : DomainView). x.own.number) v;
      front = ap (λ (x : DomainView). x.seen.front) v;
      progress = ap (λ (x : DomainView). x.seen.share.progress) v;
    } in
    let moves : Moves r.token new = record {
      config = here.1 ∙ sym was.1;
      number = stands.number;
      serial = ap (λ (x : DomainView). x.own.serial) v;
      room = (sought_shortens h.config r.token.view new.view Rests s).no_less;
      listed = ap (λ (x : DomainView). count_of x.own.finalisers) v;
      made = ap (λ (x : DomainView). x.seen.made) v;
      hunt = λ at_rest. ap (λ (x : DomainView). x.seen.hunt) v;
      front = subst (λ (f : List Entry). IsFrontOf r.token.view.own.number f r.token.view.seen.front) (sym stands.front) (front_whole r.token.view.own.number r.token.view.seen.front);
    } in
    let old : IsBetween None r.asked r.collected r.progress r.token = subst (λ (l : Option Kind). IsBetween l r.asked r.collected r.progress r.token) left is.between in
    moved_is_run r new r.left r.asked r.collected r.progress r.hints is (stays_same r.hints) moves is.unasked
    (subst (λ (l : Option Kind). IsBetween l r.asked r.collected r.progress new) (sym left) (stands_between r.token new r.asked r.collected r.progress (here.1 ∙ sym was.1) stands old))

-- who has found whether a collection goes on has learnt that
pub armed_learns : (x y : DomainView) (armed : Bool) → y ≡ knowing_armed x armed → Learnt x y
armed_learns x y armed is = subst (Learnt x) (sym is) (record { view = refl; grows = λ f known. known })
