-- The run of a session, as it makes a command and as its trace ends.
use Rattle.std.proofs.Common.{append-nil, drop, List, ◌≡◌, ◌≢◌, ◌∙◌, ℕ, ◌+◌, ◌*◌, ◌<◌, ◌≤◌, ◌-◌, ◌^◌, ◌++◌, ◌∷◌, [], Option, Some, None, length, length-append, refl, sym, ap, subst, arith}
use Rattle.model_core.specs.declared.command.Command as model
use Rattle.model_core.specs.declared.entry.Entry.{Entry}
use Rattle.model_core.specs.declared.reply.Reply.{Reply}
use Rattle.model_core.specs.declared.state.Sizes.{Sizes}
use Rattle.model_core.specs.Counts.Counts.{ephemerons_given, labels_given}
use Rattle.model_core.specs.Domains.{IsWithinLimits}
use Rattle.model_core.specs.History.{Legal}
use Rattle.heap_rule.specs.declared.config.Config.{Config}
use Rattle.heap_rule.specs.Limits.{sizes_in}
use Rattle.heap_rule.specs.Token.{SharedHeap, IsIn}
use Rattle.run_turns.specs.Handed.{Finalised, PerformedOn}
use Rattle.run_turns.specs.declared.supply.Supply.{Supply}
use Rattle.run_turns.specs.declared.supply.Supply.TheVariants.{Open, Closed}
use Rattle.std.proofs.lemmas.List.{append_cancel_left}
use Rattle.model_core.specs.declared.entry.Entry.TheVariants.{End}
use Rattle.model_core.specs.Domains.{opening}
use Rattle.model_core.proofs.Histories.FrontLemmas.{front_whole}
use Rattle.run_turns.specs.Kept.{finalised, is_run_of}
use Rattle.run_turns.proofs.Kept.{replies_to-append}
use Rattle.run_turns.proofs.Adding.{adds_nothing, adds_on, finalised_tells, performed_adds}
use Rattle.run_turns.proofs.OfSingly.Driven.{open_handed}
use Rattle.run_turns.proofs.Turning.{apart_few}
use Rattle.run_turns.specs.Runs.{AddsRan, HasLabels, HasLooked, IsRun, MaySubmit, RunView, labels_in, registrations_in}
use Rattle.run_turns.specs.Singly.Driving.{Awaits}
use Rattle.run_turns.specs.Tries.{registrations_of}
use Rattle.step_finalisers.specs.Registering.{count_of}
use Rattle.run_alone.specs.Idling.{Idles, Over}
use Rattle.run_alone.specs.Lone.{AsksOnce, ComesBack, Wants}
use Rattle.run_alone.proofs.Idling.{idles_closed, idles_now}
use Rattle.run_alone.specs.Paces.{IsPaced, last_of, most_in_pause}
use Rattle.run_alone.proofs.Paces.{last_high}
use Rattle.run_alone.proofs.Walking.{zeroth}
use Rattle.run_session.proofs.Labels.{made_labels}
use Rattle.run_session.specs.Driving.{Finishes, HasGivenOut, Makes, Rests, RestsIn, session_of}
use Rattle.run_session.specs.Stopping.{EndedView, EndsIn}
use Rattle.run_session.specs.Sessions.{MayPerform, PerformsIn, SessionView, most_arrivals, most_spent, ran_since, taken}

-- what stands behind a list
drop_all : {A : Type 0} (xs ys : List A) → drop (length xs) (xs ++ ys) ≡ ys
drop_all [] ys = refl
drop_all (x ∷ xs) ys = drop_all xs ys

-- a run that rests
pub rests_as : (h : SharedHeap) (o : Option RunView) (r : RunView) → RestsIn h o → o ≡ Some r → Rests h r
rests_as h o r i is = let e : ◌≡◌ {A = Option RunView} (Some i.run) (Some r) = sym i.there ∙ is in let same : i.run ≡ r = cc in subst (Rests h) same i.rests

-- it may still arrive as often as a command takes
pub few_left : (h : SharedHeap) (r : RunView) → Rests h r → r.token.view.own.arrivals + most_spent ≤ most_arrivals → last_of h.config r + 3 * most_in_pause < 2 ^ 60
few_left h r rests may = let paced = rests.paced in omega (arith, paced, may)

-- what was made
module _ (h : SharedHeap) (o p : Option RunView) (c : model.Command) (reply : Reply) (limits : IsWithinLimits (sizes_in h.config)) (i : RestsIn h o) (m : Makes h o p c reply) where
  abbrev old : SessionView
  old = session_of h.config o

  abbrev new : SessionView
  new = session_of h.config p

  was : Rests h m.old
  was = rests_as h o m.old i m.was

  number : m.old.token.view.own.number ≡ 0
  number = zeroth h m.old was.lone

  made : PerformedOn (sizes_in h.config) 0 m.old.token.view.seen.front m.new.token.view.seen.front c m.answered.ran reply
  made = subst (λ (d : ℕ). PerformedOn (sizes_in h.config) d m.old.token.view.seen.front m.new.token.view.seen.front c m.answered.ran reply) number m.answered.performed

  before : old ≡ session_of h.config (Some m.old)
  before = ap (session_of h.config) m.was

  after : new ≡ session_of h.config (Some m.new)
  after = ap (session_of h.config) m.is

  adds : m.new.ran ≡ m.old.ran ++ m.answered.ran
  adds = performed_adds (sizes_in h.config) m.old m.new c m.answered.ran reply m.answered.performed m.ran

  since : ran_since old new ≡ m.answered.ran
  since = (λ j. drop (length (before j).ran) (after j).ran) ∙ (ap (drop (length m.old.ran)) adds ∙ drop_all m.old.ran m.answered.ran)

  pub makes_performed : PerformsIn old new c reply
  makes_performed = record {
    performed = subst (λ (w : (SessionView × SessionView) × List Reply). PerformedOn (sizes_in w.0.0.config) 0 w.0.0.front w.0.1.front c w.1 reply) (λ j. ((sym before j, sym after j), sym since j)) made;
    waits = ap (λ (v : SessionView). v.ran) after ∙ (adds ∙ (λ j. (sym before j).ran ++ sym since j));
  }

  pub makes_config : new.config ≡ old.config
  makes_config = ap (λ (v : SessionView). v.config) after ∙ sym (ap (λ (v : SessionView). v.config) before)

  pub makes_labels : new.labels ≡ old.labels + labels_given c reply
  makes_labels = ap (λ (v : SessionView). v.labels) after ∙ (m.answered.takes.labels_are ∙ ap (λ (v : SessionView). v.labels + labels_given c reply) (sym before))

  pub makes_room : old.room ≤ new.room + ephemerons_given c reply
  makes_room = let room = m.answered.takes.room in let now = ap (λ (v : SessionView). v.room) after in let then = ap (λ (v : SessionView). v.room) before in omega (arith, room, now, then)

  pub makes_finals : old.finals ≤ new.finals + registrations_of c
  makes_finals =
      let listed = m.answered.listed in
      let now = ap (λ (v : SessionView). v.finals) after in
      let then = ap (λ (v : SessionView). v.finals) before in
      let ran : length m.new.ran ≡ length m.old.ran + length m.answered.ran = ap length adds ∙ length-append m.old.ran m.answered.ran in
      omega (arith, listed, now, then, ran)

  pub makes_arrivals : new.stats.arrivals ≤ old.stats.arrivals + most_spent
  makes_arrivals =
      let high = last_high (h.config.pools * 1024) m.new.token.view.own.arrivals m.new.left m.new.token.view.seen.share.progress m.new.token.view.seen.share.unmarked in
      let spends = m.spends in
      let paced = was.paced in
      let now = ap (λ (v : SessionView). v.stats.arrivals) after in
      let then = ap (λ (v : SessionView). v.stats.arrivals) before in
      omega (arith, high, spends, paced, now, then)

  pub makes_rests : old.stats.arrivals + most_spent ≤ most_arrivals → RestsIn h p
  makes_rests may = record {
    run = m.new;
    there = m.is;
    rests = record {
      lone = m.lone;
      done = m.answered.done;
      legal = made.legal;
      given = m.answered.takes.labels_are ∙ (ap (λ (n : ℕ). n + labels_given c reply) was.given ∙ sym (made_labels (sizes_in h.config) limits m.old.token.view.seen.front m.new.token.view.seen.front c m.answered.ran reply made));
      paced = m.paced;
      few =
          let spends = m.spends in
          let few = few_left h m.old was (let then = ap (λ (v : SessionView). v.stats.arrivals) before in omega (arith, may, then)) in
          omega (arith, spends, few);
    };
  }

-- it has given out fewer labels than there are
labels_below : (r : RunView) → IsRun r → r.supply ≡ Open → r.token.view.own.serial < 2 ^ 32
labels_below r is more = let few : r.token.view.own.serial + labels_in (drop r.next r.commands) < 2 ^ 32 = subst (λ (s : Supply). HasLabels s r.token.view.own.serial r.next r.commands) more is.labels in omega (arith, few)

-- what is registered and what waits fits
ran_fits : (r : RunView) → IsRun r → r.supply ≡ Open → count_of r.token.view.own.finalisers + length r.ran ≤ r.spare
ran_fits r is more = let few = apart_few r is (open_handed r.supply more) in omega (arith, few)

-- a command may be handed in
pub may_submit : (h : SharedHeap) (o : Option RunView) (v : SessionView) (c : model.Command) → RestsIn h o → session_of h.config o ≡ v → MayPerform v c → (r : RunView) → o ≡ Some r → MaySubmit r c
may_submit h o v c i is may r there =
    let rests = rests_as h o r i there in
    let seen : session_of h.config (Some r) ≡ v = sym (ap (session_of h.config) there) ∙ is in
    let takes = may.takes in
    let same : r.spare ≡ h.config.finals = rests.lone.is.spares ∙ ap (λ (k : Config). k.finals) rests.lone.here.1 in
    let fits = ran_fits r rests.lone.is rests.lone.more in
    record {
      more = rests.lone.more;
      done = rests.done;
      fits = takes.fits;
      enlists =
          let finals : h.config.finals - (count_of r.token.view.own.finalisers + length r.ran) ≡ v.finals = ap (λ (w : SessionView). w.finals) seen in
          let few = takes.enlists in
          omega (arith, same, fits, finals, few);
      room = let room : r.token.view.own.ephemerons.room ≡ v.room = ap (λ (w : SessionView). w.room) seen in let few = takes.room in omega (arith, room, few);
      labels =
          let labels : r.token.view.own.serial ≡ v.labels = ap (λ (w : SessionView). w.labels) seen in
          let few = takes.labels in
          let below : r.token.view.own.serial < 2 ^ 32 = labels_below r rests.lone.is rests.lone.more in
          omega (arith, labels, few, below);
    }

-- and its pauses may come
pub may_arrive : (h : SharedHeap) (o : Option RunView) (v : SessionView) (c : model.Command) → RestsIn h o → session_of h.config o ≡ v → MayPerform v c → (r : RunView) → o ≡ Some r → last_of h.config r + 3 * most_in_pause < 2 ^ 60
may_arrive h o v c i is may r there =
    let seen : r.token.view.own.arrivals ≡ v.stats.arrivals = ap (λ (w : SessionView). w.stats.arrivals) (sym (ap (session_of h.config) there) ∙ is) in
    let few = may.arrivals in
    few_left h r (rests_as h o r i there) (omega (arith, seen, few))

-- a command that was handed in and then finished
pub finishes_makes : (h : SharedHeap) (old mid : RunView) (o p : Option RunView) (c : model.Command) (reply : Reply) → o ≡ Some old → Awaits h old.token.view c mid → AddsRan (sizes_in h.config) old mid → last_of h.config mid ≡ last_of h.config old → Finishes h (Some mid) p reply → Makes h o p c reply
finishes_makes h old mid o p c reply was w adds last f =
    let e : ◌≡◌ {A = Option RunView} (Some mid) (Some f.old) = f.was in
    let same : mid ≡ f.old = cc in record {
      old = old;
      was = was;
      new = f.new;
      is = f.is;
      lone = f.lone;
      answered = f.answered old.token.view c (subst (Awaits h old.token.view c) same w);
      ran = adds_on (sizes_in h.config) old f.old f.new (subst (AddsRan (sizes_in h.config) old) same adds) f.ran;
      spends = let spends = f.spends in let equal : last_of h.config f.old ≡ last_of h.config mid = ap (last_of h.config) (sym same) in omega (arith, spends, equal, last);
      paced = f.paced;
    }

-- a run that rests comes back, gets no more, and ends
stopped : (h : SharedHeap) (o : Option RunView) (r s t u : RunView) → RestsIn h o → o ≡ Some r → ComesBack h r s → t ≡ record s { supply = Closed } → ((front : List Entry) → Idles h front t → Over h front u) → Over h r.token.view.seen.front u
stopped h o r s t u i there back closed over =
    let rests = rests_as h o r i there in
    let front : List Entry = r.token.view.seen.front in
    let now : Idles h front r = idles_now h r rests.lone.here (zeroth h r rests.lone) rests.lone.is rests.lone.more rests.done in
    over front (idles_closed h front s t (back.idles front now) closed)

-- what the end of a trace adds to what waits
ended_adds : (z : Sizes) (old new : RunView) (before : List Entry) (ran : List Reply) → old.token.view.own.number ≡ 0 → Finalised z 0 old.token.view.seen.front before ran → new.token.view.seen.front ≡ before ++ End 0 ∷ [] → AddsRan z old new → new.ran ≡ old.ran ++ ran
ended_adds z old new before ran number f is a =
    let was : List Entry = old.token.view.seen.front in
    let now : List Entry = new.token.view.seen.front in
    let tells : finalised z now 0 ≡ finalised z was 0 ++ ran = ap (λ (h : List Entry). finalised z h 0) is ∙ (replies_to-append (is_run_of 0) (opening z) before (End 0 ∷ []) ∙ (append-nil (finalised z before 0) ∙ finalised_tells z 0 was before ran f)) in
    let told : finalised z now 0 ≡ finalised z was 0 ++ a.more = subst (λ (d : ℕ). finalised z now d ≡ finalised z was d ++ a.more) number a.told in
    a.waits ∙ ap (λ (rs : List Reply). old.ran ++ rs) (append_cancel_left (finalised z was 0) a.more ran (sym told ∙ tells))

-- so a session ends
pub ends_in : (h : SharedHeap) (o : Option RunView) (r s t u : RunView) (e : EndedView) → RestsIn h o → o ≡ Some r → ComesBack h r s → t ≡ record s { supply = Closed } → ((front : List Entry) → Idles h front t → Over h front u) → AddsRan (sizes_in h.config) t u → e.config ≡ h.config → e.front ≡ u.token.view.seen.front → e.ran ≡ u.ran → EndsIn (session_of h.config (Some r)) e
ends_in h o r s t u e i there back closed over adds config front ran =
    let z : Sizes = sizes_in h.config in
    let end : Over h r.token.view.seen.front u = stopped h o r s t u i there back closed over in
    let shut : AddsRan z s t = subst (λ (x : RunView). AddsRan z s x) (sym closed) (adds_nothing z s (record s { supply = Closed }) refl refl (front_whole s.token.view.own.number s.token.view.seen.front)) in
    let whole : AddsRan z r u = adds_on z r s u back.tells.ran (adds_on z s t u shut adds) in record {
      config = config;
      before = end.before;
      ran = end.ran;
      finalised = end.finalised;
      front = front ∙ end.front;
      waits = ran ∙ ended_adds z r u end.before end.ran (zeroth h r (rests_as h o r i there).lone) end.finalised end.front whole;
      none = end.none;
    }
