-- A command that is made at once.
use Rattle.std.proofs.Common.{◌≡◌, ◌≢◌, ◌∙◌, ℕ, ◌+◌, ◌≤◌, Bool, true, false, Option, List, [], ◌∷◌, ◌++◌, length, arith, refl, sym, ap, subst, ⊎_elim, Some, None}
use Rattle.model_core.specs.declared.command.Command as model
use Rattle.model_core.specs.declared.command.Command.TheVariants.{Spawn, Argument, PutResult, Join, Poll}
use Rattle.model_core.specs.declared.reply.Reply.{Reply}
use Rattle.model_core.specs.Fronts.{IsFrontOf}
use Rattle.model_core.proofs.Histories.FrontLemmas.{front_whole}
use Rattle.heap_rule.specs.declared.config.Config.{Config}
use Rattle.heap_rule.specs.declared.phase.Kind.{Kind}
use Rattle.heap_rule.specs.declared.view.DomainView.{DomainView}
use Rattle.heap_rule.specs.declared.view.Hunt.TheVariants.{Rests as AtRest}
use Rattle.heap_rule.specs.Running.{Runs}
use Rattle.heap_rule.specs.Standing.{with_front}
use Rattle.heap_rule.specs.Token.{SharedHeap, Token, IsIn}
use Rattle.do_alloc.proofs.OfPools.Seeking.{sought_view}
use Rattle.step_finalisers.specs.Registering.{count_of}
use Rattle.run_turns.specs.declared.supply.Supply.TheVariants.{Open, Section}
use Rattle.run_turns.specs.declared.place.Place.TheVariants.{AsEver, Before}
use Rattle.run_turns.specs.Sections.{IsOrdinary}
use Rattle.run_turns.specs.Tries.{FitsHeap, NeedsPause, Tried, registrations_of}
use Rattle.run_turns.specs.Runs.{IsRun, IsUnqueued, MaySubmit, NowAnswers, PutsOff, RunView, StandsAt, Takes, TriesNow, cleared, wanting}
use Rattle.run_turns.specs.Runs.PutsOff.{HasArrived, OwesFinaliser, WorksFirst, IsWanted, IsTried}
use Rattle.run_turns.proofs.Supplying.{emptied_is_run, submitted_is_run}
use Rattle.run_turns.proofs.Taking.{searched_takes, takes_none}
use Rattle.run_turns.proofs.Turning.{tried_is_run}

fits_is_ordinary : (c : model.Command) → FitsHeap c → IsOrdinary c
fits_is_ordinary (Spawn section item) fits = absurd fits
fits_is_ordinary (Argument dst) fits = absurd fits
fits_is_ordinary (PutResult item) fits = absurd fits
fits_is_ordinary (Join dst section) fits = absurd fits
fits_is_ordinary _ fits = tt

-- no section is to begin for an open run
open_going : (r : RunView) → IsRun r → r.supply ≡ Open → r.place ≢ Before
open_going r is more before =
    let as_ever : r.place ≡ AsEver = is.as_ever (λ section. let clash : Open ≡ Section = sym more ∙ section in cc) in
    let clash : AsEver ≡ Before = sym as_ever ∙ before in
    cc

-- the trace of an open run goes on
open_running : (r : RunView) → IsRun r → r.supply ≡ Open → r.ended ≡ false
open_running r is more = by r.ended refl
  where
    by : (b : Bool) → r.ended ≡ b → r.ended ≡ false
    by false e = e
    by true e = absurd (is.shut e more)

-- the domain of an open run may make a command
pub open_acts : (h : SharedHeap) (r : RunView) → IsIn r.token h → IsRun r → r.supply ≡ Open → r.left ≡ None → IsUnqueued r.token → Runs h r.token
open_acts h r here is more left unqueued =
    let b = is.between in
    record {
      here = here;
      acts = record { goes_on = is.goes_on (open_running r is more); runs = subst (λ (l : Option Kind). StandsAt l r.token.view.seen.stage) left b.stands; paid = b.quiet.paid; unqueued = unqueued };
      idle = is.idle;
      at_rest = is.at_rest;
      remembers = b.remembers left;
    }

-- a run that made a command and forgot it
pub cleared_is_run : (h : SharedHeap) (r : RunView) (new : Token) (c : model.Command) (reply : Reply) → IsRun r → MaySubmit r c → r.left ≡ None → Tried h r.token new c false reply → (NeedsPause h.config r.token.view.own false c → ⊥) → IsRun (cleared r new)
cleared_is_run h r new c reply is may left t ready =
    let handed : RunView = record r { commands = c ∷ []; next = 0; replies = []; asked = None; collected = false } in
    let has : IsRun handed = submitted_is_run r c is may in
    let made = tried_is_run h handed new c reply r.token.view.own false has (open_running r is may.more) left refl (open_going r is may.more) (fits_is_ordinary c may.fits) t ready in
    emptied_is_run (record handed { token = new; next = 0 + 1; replies = [] ++ reply ∷ []; asked = None; collected = false; due = 0 }) made may.more

-- there is room for a finaliser that it registers
pub submits_enlists : (h : SharedHeap) (r : RunView) (c : model.Command) → IsIn r.token h → IsRun r → MaySubmit r c → registrations_of c + count_of r.token.view.own.finalisers ≤ h.config.finals
submits_enlists h r c here is may =
    let fits = may.enlists in
    let same : r.spare ≡ h.config.finals = is.spares ∙ ap (λ (k : Config). k.finals) here.1 in
    omega (arith, fits, same)

pub no_items : {A : Type 0} (xs : List A) → length xs ≡ 0 → xs ≡ []
no_items [] none = refl
no_items (x ∷ xs) none = absurd (omega (arith, none))

-- by the number of finalisers that wait
pub some_waits : (t : Token) (n : ℕ) → n ≡ length t.view.own.finalisers.queue.items → (n ≡ 0 → ⊥) → IsUnqueued t → ⊥
some_waits t n is some none = some (is ∙ ap (λ xs. length xs) none)

pub none_waits : (t : Token) (n : ℕ) → n ≡ length t.view.own.finalisers.queue.items → n ≡ 0 → IsUnqueued t
none_waits t n is none = no_items t.view.own.finalisers.queue.items (sym is ∙ none)

-- why a command is put off
pub arrived_off : (h : SharedHeap) (r : RunView) (c : model.Command) → r.left ≢ None → NowAnswers h r r c None
arrived_off h r c left = HasArrived left refl

pub owes_off : (h : SharedHeap) (r : RunView) (c : model.Command) → (IsUnqueued r.token → ⊥) → NowAnswers h r r c None
owes_off h r c owes = OwesFinaliser owes refl

pub works_off : (h : SharedHeap) (r : RunView) (c : model.Command) → c ≡ Poll → NowAnswers h r r c None
works_off h r c polls = WorksFirst polls refl

pub wanted_off : (h : SharedHeap) (old new : RunView) (c : model.Command) (found : ℕ) → (found ≡ 0 → ⊥) → new ≡ wanting old found → NowAnswers h old new c None
wanted_off h old new c found some is = IsWanted found some is

-- or what its try came to, where none of these holds
pub tried_now : (h : SharedHeap) (old start new : RunView) (c : model.Command) (found : ℕ) (result : Option Reply) → old.left ≡ None → IsUnqueued old.token → c ≢ Poll → start ≡ wanting old found → found ≡ 0 → TriesNow h start new c result → NowAnswers h old new c result
tried_now h old start new c found result left unqueued other is none tries = by result (subst (λ (n : ℕ). TriesNow h (wanting old n) new c result) none (subst (λ (r : RunView). TriesNow h r new c result) is tries))
  where
    by : (o : Option Reply) → TriesNow h (wanting old 0) new c o → NowAnswers h old new c o
    by (Some reply) t = record { runs = left; unqueued = unqueued; other = other; made = t }
    by None t = IsTried t

-- a look at the want word changes nothing of what may be handed in
pub may_looked : (old new : RunView) (c : model.Command) (found : ℕ) → new ≡ wanting old found → MaySubmit old c → MaySubmit new c
may_looked old new c found is may = subst (λ (r : RunView). MaySubmit r c) (sym is) (record { more = may.more; done = may.done; fits = may.fits; enlists = may.enlists; room = may.room; labels = may.labels })

-- a run whose command was put off: its domain has at most looked, and has seen entries of others alone
pub record HasWaited (old new : RunView) : Type 0 where
  pub run : new ≡ record old { token = new.token }
  pub number : new.token.view.own.number ≡ old.token.view.own.number
  pub front : IsFrontOf old.token.view.own.number new.token.view.seen.front old.token.view.seen.front
  pub listed : count_of new.token.view.own.finalisers ≡ count_of old.token.view.own.finalisers
  pub takes : Takes 0 0 old.token.view new.token.view

same_waited : (old new : RunView) → new ≡ old → HasWaited old new
same_waited old new is = subst (HasWaited old) (sym is) (record { run = refl; number = refl; front = front_whole old.token.view.own.number old.token.view.seen.front; listed = refl; takes = takes_none old.token.view old.token.view refl refl })

looked_waited : (old new : RunView) (found : ℕ) → new ≡ wanting old found → HasWaited old new
looked_waited old new found is = subst (HasWaited old) (sym is) (record { run = refl; number = refl; front = front_whole old.token.view.own.number old.token.view.seen.front; listed = refl; takes = takes_none old.token.view (wanting old found).token.view refl refl })

pub has_waited : (h : SharedHeap) (old new : RunView) (c : model.Command) → PutsOff h old new c → HasWaited old new
has_waited h old new c (HasArrived left is) = same_waited old new is
has_waited h old new c (OwesFinaliser owes is) = same_waited old new is
has_waited h old new c (WorksFirst polls is) = same_waited old new is
has_waited h old new c (IsWanted found some is) = looked_waited old new found is
has_waited h old new c (IsTried tried) = ⊎_elim
    (λ a. looked_waited old new 0 a.0)
    (λ b.
    let found : DomainView = with_front new.token.view old.token.view.seen.front in
    let view = sought_view h.config (wanting old 0).token.view found AtRest b.1.view in
    let number : found.own.number ≡ old.token.view.own.number = ap (λ (x : DomainView). x.own.number) view in record {
      run = b.0;
      number = number;
      front = subst (λ (n : ℕ). IsFrontOf n new.token.view.seen.front old.token.view.seen.front) number b.1.looked.seen;
      listed = ap (λ (x : DomainView). count_of x.own.finalisers) view;
      takes = let t = searched_takes h.config (wanting old 0).token.view found b.1.view in record { labels_are = t.labels_are; room = t.room };
    }) tried
