-- What the turns of a section leave.
use Rattle.std.proofs.Common.{◌≡◌, ◌≢◌, ◌∙◌, ℕ, zero, suc, ◌+◌, ◌<◌, ◌≤◌, Bool, true, false, IsTrue, pos, List, [], ◌∷◌, ◌++◌, length, take, drop, slice_get, Option, Some, None, refl, sym, ap, subst, arith, add-one, append-nil, length-append}
use Rattle.model_core.specs.declared.command.Command.{Command}
use Rattle.model_core.specs.declared.command.Command.TheVariants.{Load, Spawn, Argument, PutResult, Join}
use Rattle.model_core.specs.declared.reply.Reply.{Reply}
use Rattle.model_core.specs.Domains.{domain_at}
use Rattle.heap_rule.specs.declared.config.Config.{Config}
use Rattle.heap_rule.specs.declared.view.Own.{Own}
use Rattle.heap_rule.specs.declared.phase.Kind.{Kind}
use Rattle.heap_rule.specs.Limits.{sizes_in}
use Rattle.heap_rule.specs.Phases.{IsEven}
use Rattle.heap_rule.specs.Rule.{state_of}
use Rattle.heap_rule.specs.Token.{Token, SharedHeap}
use Rattle.gc_mark.proofs.Going.{stays_same}
use Rattle.step_finalisers.specs.Registering.{count_of}
use Rattle.model_traces.specs.Spawns.Hidden.{hidden, result_of}
use Rattle.model_traces.specs.Spawns.Expansion.{IsExpansion, IsFitting, Make, Step, finish_commands, flag_load, is_int}
use Rattle.model_traces.specs.Spawns.Printed.{printed_of, printed_replies}
use Rattle.model_traces.specs.Spawns.Progress as progress
use Rattle.model_traces.specs.Spawns.Progress.{IsSoFar}
use Rattle.model_traces.proofs.OfSpawns.Printing.{PrintsLast, below_scratch, command_prints, end_silent, prints_one}
use Rattle.model_traces.proofs.OfSpawns.Progressing.{holds_join, holds_start, makes_join, makes_other, sees_start, tells_end}
use Rattle.do_spawn.specs.Expanding.{ChangesWords, Expands, LooksAt, MakesSteps, held_at, last_answer}
use Rattle.do_spawn.proofs.Making.{made_both, words_of_registers}
use Rattle.run_turns.specs.declared.place.Place.{Place}
use Rattle.run_turns.specs.declared.place.Place.TheVariants.{AsEver, Before, Within, Behind}
use Rattle.run_turns.specs.declared.supply.Supply.{Supply}
use Rattle.run_turns.specs.declared.supply.Supply.TheVariants.{Closed, Listed, Open, Section}
use Rattle.run_turns.specs.Sections.{IsInSection, IsOrdinary, IsSingle, awaited, awaited_flag, is_spawned_at, place_in, words_for}
use Rattle.run_turns.specs.Tries.{NeedsPause}
use Rattle.run_turns.specs.Runs.{AreKept, Completes, HasLabels, IsBetween, IsHandedIn, HeldBack, IsRun, MakesCommand, RunView, SeesStart, Takes, TakesResult, TellsEnd, ephemerons_in, registrations_in, served_since, most_ran}
use Rattle.run_turns.proofs.LeavingLemmas.{knows_on}
use Rattle.run_turns.proofs.Moving.{deck_on}
use Rattle.run_turns.proofs.PauseLemmas.{quiet_as}
use Rattle.run_turns.proofs.Sectioning.{fitting_at, on_command, section_grows}
use Rattle.run_turns.proofs.Supplying.{ends_section}
use Rattle.run_turns.proofs.Taking.{takes_none}

-- some steps were made, and nothing else of the run that others see
pub record StepsOn (h : SharedHeap) (old new : RunView) : Type 0 where
  pub sectioned : old.supply ≡ Section
  pub steps : List Step
  pub makes : MakesSteps h old.token new.token steps
  pub rest : ChangesWords old.token new.token
  pub commands : new.commands ≡ old.commands
  pub supply : new.supply ≡ old.supply
  pub spawned : is_spawned_at new.place ≡ is_spawned_at old.place
  pub ended : new.ended ≡ old.ended

pub sees_steps : (h : SharedHeap) (old new : RunView) → SeesStart h old.token old new → StepsOn h old new
sees_steps h old new s = record {
  sectioned = s.sectioned;
  steps = _;
  makes = s.looked.makes;
  rest = words_of_registers _ _ s.rest;
  commands = ap (λ (r : RunView). r.commands) s.run;
  supply = ap (λ (r : RunView). r.supply) s.run;
  spawned = ap (λ (r : RunView). is_spawned_at r.place) s.run ∙ sym (ap is_spawned_at s.was);
  ended = ap (λ (r : RunView). r.ended) s.run;
}

pub held_steps : (h : SharedHeap) (old new : RunView) (section : ℕ) → HeldBack h old.token old new section → StepsOn h old new
held_steps h old new section s = record {
  sectioned = s.sectioned;
  steps = _;
  makes = s.looked.makes;
  rest = words_of_registers _ _ s.rest;
  commands = ap (λ (r : RunView). r.commands) s.run;
  supply = ap (λ (r : RunView). r.supply) s.run;
  spawned = ap (λ (r : RunView). is_spawned_at r.place) s.run;
  ended = ap (λ (r : RunView). r.ended) s.run;
}

pub tells_steps : (h : SharedHeap) (old new : RunView) → TellsEnd h old.token old new → StepsOn h old new
tells_steps h old new s = record {
  sectioned = s.sectioned;
  steps = _;
  makes = s.makes.makes;
  rest = s.rest;
  commands = ap (λ (r : RunView). r.commands) s.run;
  supply = ap (λ (r : RunView). r.supply) s.run;
  spawned = ap (λ (r : RunView). is_spawned_at r.place) s.run ∙ sym (ap is_spawned_at s.was);
  ended = ap (λ (r : RunView). r.ended) s.run;
}

-- the last look of a join, and the load of the result
pub taken_steps : (h : SharedHeap) (old new : Token) (dst section : ℕ) (reply : Reply) → TakesResult h old new dst section reply → (xs : List Step) × MakesSteps h old new xs
taken_steps h old new dst section reply t = (_, made_both h old t.between new _ _ t.looked.makes t.takes)

pub completed_steps : (h : SharedHeap) (old new : Token) (c : Command) (reply : Reply) → (IsOrdinary c → ⊥) → Completes h old new c reply → (xs : List Step) × MakesSteps h old new xs
completed_steps h old new (Spawn section item) reply four e = (e.steps, e.makes)
completed_steps h old new (Argument dst) reply four e = (e.steps, e.makes)
completed_steps h old new (PutResult item) reply four e = (e.steps, e.makes)
completed_steps h old new (Join dst section) reply four t = taken_steps h old new dst section reply t
completed_steps h old new c reply four e = absurd (four tt)

pub makes_steps : (h : SharedHeap) (old new : RunView) (c : Command) → MakesCommand h old.token old new c → StepsOn h old new
makes_steps h old new c s =
    let made = completed_steps h old.token new.token c s.reply s.four s.completes in
    record {
      sectioned = s.sectioned;
      steps = made.0;
      makes = made.1;
      rest = s.rest;
      commands = ap (λ (r : RunView). r.commands) s.run;
      supply = ap (λ (r : RunView). r.supply) s.run;
      spawned = ap (λ (r : RunView). is_spawned_at r.place) s.run;
      ended = ap (λ (r : RunView). r.ended) s.run;
    }

-- no label was given out, and no ephemeron made
pub steps_takes : (old new : Token) → ChangesWords old new → Takes 0 0 old.view new.view
steps_takes old new rest = takes_none old.view new.view (ap (λ (o : Own). o.serial) rest.own) (ap (λ (o : Own). o.ephemerons) rest.own)

-- how many commands, ephemerons and registrations are left from a place on
pub record IsFurther (cs : List Command) (n m : ℕ) : Type 0 where
  pub within : m ≤ length cs
  pub more : n ≤ m
  pub ephemerons : ephemerons_in (drop m cs) ≤ ephemerons_in (drop n cs)
  pub registrations : registrations_in (drop m cs) ≤ registrations_in (drop n cs)

pub no_further : (cs : List Command) (n : ℕ) → n ≤ length cs → IsFurther cs n n
no_further cs n within = record { within = within; more = omega arith; ephemerons = let e : ℕ = ephemerons_in (drop n cs) in omega arith; registrations = let e : ℕ = registrations_in (drop n cs) in omega arith }

fewer : (cs : List Command) (n : ℕ) → (ephemerons_in (drop (suc n) cs) ≤ ephemerons_in (drop n cs)) × (registrations_in (drop (suc n) cs) ≤ registrations_in (drop n cs))
fewer [] n = (omega arith, omega arith)
fewer (x ∷ xs) zero = (let e : ℕ = ephemerons_in xs in omega arith, let e : ℕ = registrations_in xs in omega arith)
fewer (x ∷ xs) (suc n) = fewer xs n

some_left : (cs : List Command) (n : ℕ) (c : Command) → slice_get cs n ≡ Some c → n < length cs
some_left [] n c at = cc
some_left (x ∷ xs) zero c at = omega arith
some_left (x ∷ xs) (suc n) c at = let rest = some_left xs n c at in omega arith

pub one_further : (cs : List Command) (n : ℕ) (c : Command) → slice_get cs n ≡ Some c → IsFurther cs n (n + 1)
one_further cs n c at =
    let below = some_left cs n c at in
    let less = fewer cs n in
    subst (IsFurther cs n) (sym (add-one n)) (record { within = omega arith; more = omega arith; ephemerons = less.0; registrations = less.1 })

-- what a turn leaves that made steps of a section, and whose run stands so in its section
pub stepped_is_run : (h : SharedHeap) (r : RunView) (new : Token) (xs : List Step) (n : ℕ) (rs : List Reply) (place : Place) (asked : Option ℕ) → IsRun r → r.supply ≡ Section → r.ended ≡ false → r.left ≡ None → MakesSteps h r.token new xs → ChangesWords r.token new
    → IsFurther r.commands r.next n → length rs + r.next ≤ length r.replies + n → (served_since asked r.token.view.own.arrivals ≡ true → r.token.view.own.used ≡ 0) → (place ≡ Before → asked ≡ None)
    → IsInSection r.token.config r.token.view.own.number new.view.seen.front place r.commands n rs
    → IsRun (record r { token = new; next = n; replies = rs; asked = asked; collected = false; due = 0; place = place })
stepped_is_run h r new xs n rs place asked is sectioned running left m rest further count emptied unasked section =
    let d : ℕ = r.token.view.own.number in
    let k : Config = r.token.config in
    let config : new.config ≡ k = m.heap.1 in
    let number : new.view.own.number ≡ d = m.number in
    let serial : new.view.own.serial ≡ r.token.view.own.serial = ap (λ (o : Own). o.serial) rest.own in
    let same_count : count_of new.view.own.finalisers ≡ count_of r.token.view.own.finalisers = ap (λ (o : Own). count_of o.finalisers) rest.own in
    let room : new.view.own.ephemerons.room ≡ r.token.view.own.ephemerons.room = ap (λ (o : Own). o.ephemerons.room) rest.own in
    let b : IsBetween None r.asked r.collected r.progress r.token = subst (λ (l : Option Kind). IsBetween l r.asked r.collected r.progress r.token) left is.between in
    let labels : r.token.view.own.serial ≤ 4000000000 + r.next = subst (λ (s : Supply). HasLabels s r.token.view.own.serial r.next r.commands) sectioned is.labels in
    let left_now : ℕ = registrations_in (drop n r.commands) in
    let left_then : ℕ = registrations_in (drop r.next r.commands) in
    let total : ℕ = registrations_in r.commands in
    let held : ℕ = count_of r.token.view.own.finalisers in
    let held_now : ℕ = count_of new.view.own.finalisers in
    record {
      inside = subst (λ (z : ℕ × Config). z.0 < z.1.domains) (λ i. (sym number i, sym config i)) is.inside;
      made = ends_section r.supply _ _ sectioned;
      answered = subst (λ (s : Supply). AreKept s (sizes_in new.config) new.view.seen.front new.view.own.number rs r.ran) (sym sectioned) (subst (λ (s : Supply). AreKept s (sizes_in k) r.token.view.seen.front d r.replies r.ran) sectioned is.answered);
      replied = subst (λ (s : Supply). length rs + length r.ran + (held_now + left_now) ≤ n + most_ran s total r.spare) (sym sectioned) (let before : length r.replies + length r.ran + (held + left_then) ≤ r.next + total = subst (λ (s : Supply). length r.replies + length r.ran + (held + left_then) ≤ r.next + most_ran s total r.spare) sectioned is.replied in let r1 = further.registrations in let m1 = further.more in omega arith);
      within = further.within;
      few = is.few;
      fit = is.fit;
      room = let before = is.room in let e1 = further.ephemerons in omega arith;
      enlists = subst (λ (c : Config). held_now + left_now ≤ c.finals) (sym config) (let before = is.enlists in let r1 = further.registrations in omega arith);
      idle = m.runs.idle;
      at_rest = m.runs.at_rest;
      goes_on = λ _. m.runs.acts.goes_on;
      owes = λ _. subst (λ (w : Config × ℕ). (domain_at (state_of w.0 new.view.seen.front) w.1).due ≡ 0) (λ i. (sym config i, sym number i)) m.owes;
      between = subst (λ (l : Option Kind). IsBetween l asked false r.progress new) (sym left) (record {
        stands = m.runs.acts.runs;
        quiet = quiet_as r.token.view new.view m.stays.copying (ap (λ (o : Own). o.pending) rest.own) (ap (λ (o : Own). o.prepared) rest.own) m.stays.weak b.quiet;
        even = λ none. subst IsEven (sym m.stays.arrivals) (b.even none);
        remembers = λ _. m.runs.remembers;
        emptied = λ none served. ap (λ (o : Own). o.used) rest.own ∙ emptied (ap (served_since asked) (sym m.stays.arrivals) ∙ served);
        has_left = λ known gone. cc;
        fresh = λ e. cc;
        knows = knows_on r.token.view new.view r.progress number m.stays.progress b.knows;
      });
      labels = subst (λ (s : Supply). HasLabels s new.view.own.serial n r.commands) (sym sectioned) (let m1 = further.more in omega arith);
      deck = deck_on r new r.hints number config (stays_same r.hints) is.deck;
      done = λ ended. let clash : false ≡ true = sym running ∙ ended in cc;
      over = λ ended. let clash : false ≡ true = sym running ∙ ended in cc;
      shut = λ ended. let clash : false ≡ true = sym running ∙ ended in cc;
      one = λ handed. absurd (subst IsHandedIn sectioned handed);
      section = λ _. subst (λ (w : Config × ℕ). IsInSection w.0 w.1 new.view.seen.front place r.commands n rs) (λ i. (sym config i, sym number i)) section;
      as_ever = λ other. absurd (other sectioned);
      unasked = unasked;
      told = λ ended. let clash : false ≡ true = sym running ∙ ended in cc;
      spares = is.spares ∙ ap (λ (c : Config). c.finals) (sym config);
    }

-- the last of some steps
last_snoc : (early : List Step) (last : Step) → last_answer (early ++ last ∷ []) ≡ Some last.answer
last_snoc [] last = refl
last_snoc (x ∷ []) last = refl
last_snoc (x ∷ y ∷ xs) last = last_snoc (y ∷ xs) last

-- a command of a section prints what the last of its steps answers
pub prints_reply : (d : ℕ) (c : Command) (xs : List Step) (reply : Reply) → IsFitting d c → IsExpansion d c xs → last_answer xs ≡ Some reply → printed_of d xs ≡ reply ∷ []
prints_reply d c xs reply fits is tells =
    let p : PrintsLast d xs = command_prints d c xs fits is in
    let same : Some p.last.answer ≡ Some reply = sym (last_snoc p.early p.last) ∙ (ap last_answer (sym p.are) ∙ tells) in
    let one : p.last.answer ≡ reply = cc in
    p.prints ∙ ap (λ (a : Reply). a ∷ []) one

-- a section that makes its commands, and hasn't come on
on_place : (d : ℕ) (place : Place) (cs : List Command) (n : ℕ) (c : Command) (xs : List Step) → place ≢ Before → slice_get cs n ≡ Some c
    → ((spawned : Bool) (ys : List Step) → IsSoFar d spawned progress.Within (take n cs) (Some c) ys → IsSoFar d spawned progress.Within (take n cs) (Some c) (ys ++ xs))
    → (ys : List Step) → IsSoFar d (is_spawned_at place) (place_in place) (take n cs) (slice_get cs n) ys → IsSoFar d (is_spawned_at place) (place_in place) (take n cs) (slice_get cs n) (ys ++ xs)
on_place d place cs n c xs going at on = by place going
  where
    same : (spawned : Bool) (ys : List Step) → IsSoFar d spawned progress.Within (take n cs) (slice_get cs n) ys → IsSoFar d spawned progress.Within (take n cs) (slice_get cs n) (ys ++ xs)
    same spawned ys so =
        subst (λ (o : Option Command). IsSoFar d spawned progress.Within (take n cs) o (ys ++ xs)) (sym at)
        (on spawned ys (subst (λ (o : Option Command). IsSoFar d spawned progress.Within (take n cs) o ys) at so))

    by : (place : Place) → place ≢ Before → (ys : List Step) → IsSoFar d (is_spawned_at place) (place_in place) (take n cs) (slice_get cs n) ys → IsSoFar d (is_spawned_at place) (place_in place) (take n cs) (slice_get cs n) (ys ++ xs)
    by AsEver going ys so = same false ys so
    by Before going ys so = absurd (going refl)
    by Within going ys so = same true ys so
    by Behind going ys so = absurd (let clash : Some c ≡ None = sym at ∙ so.1 in cc)

get_beyond : (cs : List Command) (n : ℕ) → length cs ≤ n → slice_get cs n ≡ None
get_beyond [] n past = refl
get_beyond (x ∷ xs) zero past = absurd (let l : ℕ = length xs in omega arith)
get_beyond (x ∷ xs) (suc n) past = get_beyond xs n (omega arith)

true_is : (b : Bool) → true ≡ b → IsTrue b
true_is true e = refl
true_is false e = cc

module _ (h : SharedHeap) (r : RunView) (new : Token) (is : IsRun r) (sectioned : r.supply ≡ Section) (running : r.ended ≡ false) (left : r.left ≡ None) where
  abbrev d : ℕ
  d = r.token.view.own.number

  abbrev k : Config
  k = r.token.config

  here : IsInSection k d r.token.view.seen.front r.place r.commands r.next r.replies
  here = is.section sectioned

  served : served_since r.asked r.token.view.own.arrivals ≡ true → r.token.view.own.used ≡ 0
  served e = is.between.emptied left e

  -- steps that print nothing
  quiet : (place : Place) (xs : List Step) (m : MakesSteps h r.token new xs) → printed_of d xs ≡ []
      → ((ys : List Step) → IsSoFar d (is_spawned_at r.place) (place_in r.place) (take r.next r.commands) (slice_get r.commands r.next) ys → IsSoFar d (is_spawned_at place) (place_in place) (take r.next r.commands) (slice_get r.commands r.next) (ys ++ xs))
      → IsInSection k d new.view.seen.front place r.commands r.next r.replies
  quiet place xs m silent on =
      let printed_so : List Reply = printed_replies (sizes_in k) r.token.view.seen.front d in
      section_grows k d r.token.view.seen.front new.view.seen.front r.place place r.commands r.next r.next r.replies r.replies xs m.front m.steps
      (m.printed ∙ (ap (λ (ts : List Reply). printed_so ++ ts) silent ∙ (append-nil printed_so ∙ here.printed))) here on

  -- and those of a command, of which one does
  spoken : (c : Command) (xs : List Step) (reply : Reply) (m : MakesSteps h r.token new xs) → slice_get r.commands r.next ≡ Some c → r.place ≢ Before → printed_of d xs ≡ reply ∷ []
      → ((spawned : Bool) (ys : List Step) → IsSoFar d spawned progress.Within (take r.next r.commands) (Some c) ys → IsSoFar d spawned progress.Within (take r.next r.commands ++ c ∷ []) (slice_get r.commands (r.next + 1)) (ys ++ xs))
      → IsInSection k d new.view.seen.front r.place r.commands (r.next + 1) (r.replies ++ reply ∷ [])
  spoken c xs reply m at going says on =
      section_grows k d r.token.view.seen.front new.view.seen.front r.place r.place r.commands r.next (r.next + 1) r.replies (r.replies ++ reply ∷ []) xs m.front m.steps
      (m.printed ∙ (λ i. here.printed i ++ says i)) here (on_command k d r.place r.commands r.next c xs going at on)

  -- the flag isn't yet what the section or its join waits for
  pub held_is_run : (section : ℕ) → awaited r.place d (slice_get r.commands r.next) ≡ Some section → LooksAt h r.token new section (awaited_flag r.place) false → ChangesWords r.token new
      → IsRun (record r { token = new; collected = false; due = 0 })
  held_is_run section waits looked rest =
      let m = looked.makes in
      stepped_is_run h r new _ r.next r.replies r.place r.asked is sectioned running left m rest (no_further r.commands r.next is.within) (let l : ℕ = length r.replies in omega arith) served is.unasked
      (quiet r.place _ m refl (by r.place (slice_get r.commands r.next) refl waits looked.told))
    where
      step : Step
      step = record { held = (domain_at (state_of k r.token.view.seen.front) d).registers; command = flag_load section; answer = looked.answer }

      by : (p : Place) (o : Option Command) → slice_get r.commands r.next ≡ o → awaited p d o ≡ Some section → false ≡ is_int (awaited_flag p) looked.answer
          → (ys : List Step) → IsSoFar d (is_spawned_at p) (place_in p) (take r.next r.commands) (slice_get r.commands r.next) ys → IsSoFar d (is_spawned_at p) (place_in p) (take r.next r.commands) (slice_get r.commands r.next) (ys ++ step ∷ [])
      by Before o at waits told ys so =
          let mine : d ≡ section = cc in
          holds_start d true (take r.next r.commands) (slice_get r.commands r.next) ys step so (ap flag_load (sym mine)) (sym told)
      by AsEver (Some (Join dst s)) at waits told ys so =
          let mine : s ≡ section = cc in
          on_place d AsEver r.commands r.next (Join dst s) (step ∷ []) (λ e. cc) at (λ spawned zs sofar. holds_join d spawned (take r.next r.commands) dst s zs step sofar (ap flag_load (sym mine)) (sym told)) ys so
      by Within (Some (Join dst s)) at waits told ys so =
          let mine : s ≡ section = cc in
          on_place d Within r.commands r.next (Join dst s) (step ∷ []) (λ e. cc) at (λ spawned zs sofar. holds_join d spawned (take r.next r.commands) dst s zs step sofar (ap flag_load (sym mine)) (sym told)) ys so
      by Behind (Some (Join dst s)) at waits told ys so = absurd (let clash : Some (Join dst s) ≡ None = sym at ∙ so.1 in cc)
      by p o at waits told ys so = cc

  -- the section is begun
  pub sees_is_run : r.place ≡ Before → LooksAt h r.token new d (pos 1) true → ChangesWords r.token new → IsRun (record r { token = new; collected = false; due = 0; place = Within })
  sees_is_run was looked rest =
      let m = looked.makes in
      stepped_is_run h r new _ r.next r.replies Within r.asked is sectioned running left m rest (no_further r.commands r.next is.within) (let l : ℕ = length r.replies in omega arith) served (λ e. cc)
      (quiet Within _ m refl (λ ys so. sees_start d true (take r.next r.commands) (slice_get r.commands r.next) ys _
      (subst (λ (p : Place). IsSoFar d (is_spawned_at p) (place_in p) (take r.next r.commands) (slice_get r.commands r.next) ys) was so) refl (true_is _ looked.told)))

  -- the section has told its end
  pub tells_is_run : r.place ≡ Within → length r.commands ≤ r.next → (ys : List Step) → MakesSteps h r.token new ys → Make (finish_commands d) ys → ChangesWords r.token new
      → IsRun (record r { token = new; asked = None; collected = false; due = 0; place = Behind })
  tells_is_run was past ys m make rest =
      let none : slice_get r.commands r.next ≡ None = get_beyond r.commands r.next past in
      stepped_is_run h r new ys r.next r.replies Behind None is sectioned running left m rest (no_further r.commands r.next is.within) (let l : ℕ = length r.replies in omega arith) (λ e. cc) (λ e. refl)
      (quiet Behind ys m (end_silent d here.inside true ys make) (λ xs so.
      subst (λ (o : Option Command). IsSoFar d true progress.Behind (take r.next r.commands) o (xs ++ ys)) (sym none)
      (tells_end d (take r.next r.commands) xs ys
      (subst (λ (w : Place × Option Command). IsSoFar d (is_spawned_at w.0) (place_in w.0) (take r.next r.commands) w.1 xs) (λ i. (was i, none i)) so) make)))

  -- a command was made: another than a join, or a join
  kept : (c : Command) (reply : Reply) → slice_get r.commands r.next ≡ Some c → (xs : List Step) → MakesSteps h r.token new xs → ChangesWords r.token new
      → IsInSection k d new.view.seen.front r.place r.commands (r.next + 1) (r.replies ++ reply ∷ [])
      → IsRun (record r { token = new; next = r.next + 1; replies = r.replies ++ reply ∷ []; asked = None; collected = false; due = 0 })
  kept c reply at xs m rest section =
      stepped_is_run h r new xs (r.next + 1) (r.replies ++ reply ∷ []) r.place None is sectioned running left m rest (one_further r.commands r.next c at)
      (let one = length-append r.replies (reply ∷ []) in let l : ℕ = length r.replies in omega arith) (λ e. cc) (λ e. refl) section

  pub expanded_is_run : (c : Command) (reply : Reply) → slice_get r.commands r.next ≡ Some c → r.place ≢ Before → ((dst section : ℕ) → c ≢ Join dst section) → Expands h r.token new c reply → ChangesWords r.token new
      → IsRun (record r { token = new; next = r.next + 1; replies = r.replies ++ reply ∷ []; asked = None; collected = false; due = 0 })
  expanded_is_run c reply at going other e rest =
      kept c reply at e.steps e.makes rest
      (spoken c e.steps reply e.makes at going (prints_reply d c e.steps reply (fitting_at d r.commands r.next c here.fitting at) e.is e.tells)
      (λ spawned ys so. makes_other d spawned (take r.next r.commands) c (slice_get r.commands (r.next + 1)) ys e.steps other so e.is))

  pub joined_is_run : (dst section : ℕ) (reply : Reply) → slice_get r.commands r.next ≡ Some (Join dst section) → r.place ≢ Before → TakesResult h r.token new dst section reply → ChangesWords r.token new
      → IsRun (record r { token = new; next = r.next + 1; replies = r.replies ++ reply ∷ []; asked = None; collected = false; due = 0 })
  joined_is_run dst section reply at going t rest =
      let m = made_both h r.token t.between new _ _ t.looked.makes t.takes in
      let fits : IsFitting d (Join dst section) = fitting_at d r.commands r.next (Join dst section) here.fitting at in
      kept (Join dst section) reply at _ m rest
      (spoken (Join dst section) _ reply m at going (prints_one d (record { held = held_at t.between; command = Load dst hidden (result_of section); answer = reply }) (Load dst hidden (result_of section)) refl (below_scratch dst [] fits.0))
      (λ spawned ys so. makes_join d spawned (take r.next r.commands) dst section (slice_get r.commands (r.next + 1)) ys _ _ so refl (true_is _ t.looked.told) refl))

-- a run that isn't as ever is one of a section
pub section_by : (r : RunView) → IsRun r → (r.place ≡ AsEver → ⊥) → r.supply ≡ Section
section_by r is other = by r.supply refl
  where
    by : (s : Supply) → r.supply ≡ s → r.supply ≡ Section
    by Section e = e
    by Listed e = absurd (other (is.as_ever (λ section. let clash : Listed ≡ Section = sym e ∙ section in cc)))
    by Open e = absurd (other (is.as_ever (λ section. let clash : Open ≡ Section = sym e ∙ section in cc)))
    by Closed e = absurd (other (is.as_ever (λ section. let clash : Closed ≡ Section = sym e ∙ section in cc)))

-- what a join waits for
pub join_waits : (r : RunView) (dst section : ℕ) → r.place ≢ Before → slice_get r.commands r.next ≡ Some (Join dst section) → (awaited r.place r.token.view.own.number (slice_get r.commands r.next) ≡ Some section) × (awaited_flag r.place ≡ pos 2)
join_waits r dst section going at = by r.place going
  where
    by : (p : Place) → p ≢ Before → (awaited p r.token.view.own.number (slice_get r.commands r.next) ≡ Some section) × (awaited_flag p ≡ pos 2)
    by Before going = absurd (going refl)
    by AsEver going = (ap (awaited AsEver r.token.view.own.number) at, refl)
    by Within going = (ap (awaited Within r.token.view.own.number) at, refl)
    by Behind going = (ap (awaited Behind r.token.view.own.number) at, refl)

-- the commands that are made in one turn
pub single_four : (c : Command) → IsSingle c → IsOrdinary c → ⊥
single_four (Spawn section item) single ordinary = ordinary
single_four (Argument dst) single ordinary = ordinary
single_four (PutResult item) single ordinary = ordinary
single_four c single ordinary = single

pub single_join : (c : Command) → IsSingle c → (dst section : ℕ) → c ≢ Join dst section
single_join c single dst section is = subst IsSingle is single

-- no pause must come first where the words can be remembered
pub single_ready : (k : Config) (own : Own) (served : Bool) (c : Command) → IsSingle c → (own.remembered.room < words_for c → ⊥) → NeedsPause k own served c → ⊥
single_ready k own served (Spawn section item) single room needs = room needs
single_ready k own served (Argument dst) single room needs = needs
single_ready k own served (PutResult item) single room needs = room needs
single_ready k own served c single room needs = absurd single

pub single_completes : (h : SharedHeap) (old new : Token) (c : Command) (reply : Reply) → IsSingle c → Expands h old new c reply → Completes h old new c reply
single_completes h old new (Spawn section item) reply single e = e
single_completes h old new (Argument dst) reply single e = e
single_completes h old new (PutResult item) reply single e = e
single_completes h old new c reply single e = absurd single
