-- What is true of a run however its commands come, and of an open run that gets the next one.
use Rattle.std.proofs.Common.{◌≡◌, ◌≢◌, ◌∙◌, ℕ, zero, suc, ◌+◌, ◌≤◌, ◌<◌, ◌^◌, true, false, List, [], ◌∷◌, ◌++◌, append-nil, append_assoc, drop, length, slice_get, Some, None, refl, sym, ap, subst, add-one, arith}
use Rattle.model_core.specs.declared.command.Command as model
use Rattle.model_core.proofs.OfCounts.Few.{one_label}
use Rattle.run_turns.specs.declared.supply.Supply.{Supply}
use Rattle.run_turns.specs.declared.supply.Supply.TheVariants.{Listed, Section, Open, Closed}
use Rattle.model_core.specs.declared.reply.Reply.{Reply}
use Rattle.model_core.specs.declared.entry.Entry.{Entry}
use Rattle.model_core.specs.declared.state.Sizes.{Sizes}
use Rattle.model_core.specs.History.{commands}
use Rattle.heap_rule.specs.Limits.{sizes_in}
use Rattle.step_finalisers.specs.Registering.{count_of}
use Rattle.model_core.specs.declared.command.Command.TheVariants.{Spawn, Argument, PutResult, Join}
use Rattle.run_turns.specs.Sections.{AllFitIn, FitsIn, IsOrdinary}
use Rattle.run_turns.specs.Kept.{answers, finalised}
use Rattle.run_turns.specs.Tries.{FitsHeap, labels_of}
use Rattle.run_turns.specs.Runs.{RunView, AllFit, AreKept, EndsIn, HasLabels, HoldsOne, IsHandedIn, IsRun, MaySubmit, ephemerons_in, labels_in, most_ran, registrations_in}

pub ends_on : {A : Type 0} (s : Supply) (whole last more : List A) → EndsIn s whole last → EndsIn s (whole ++ more) (last ++ more)
ends_on Listed whole last more is = ap (λ l. l ++ more) is
ends_on Section whole last more is = tt
ends_on Open whole last more is = (is.0, ap (λ l. l ++ more) is.1 ∙ append_assoc is.0 last more)
ends_on Closed whole last more is = (is.0, ap (λ l. l ++ more) is.1 ∙ append_assoc is.0 last more)

pub ends_as : {A : Type 0} (s : Supply) (old new last : List A) → new ≡ old → EndsIn s old last → EndsIn s new last
ends_as s old new last same is = subst (λ l. EndsIn s l last) (sym same) is

-- of a section nothing is said so
pub ends_section : {A : Type 0} (s : Supply) (whole last : List A) → s ≡ Section → EndsIn s whole last
ends_section s whole last is = subst (λ t. EndsIn t whole last) (sym is) tt

drop_labels : (cs : List model.Command) (n : ℕ) (c : model.Command) → slice_get cs n ≡ Some c → labels_in (drop n cs) ≡ labels_of c + labels_in (drop (suc n) cs)
drop_labels [] n c at = cc
drop_labels (x ∷ xs) zero c at = let is : x ≡ c = cc in ap (λ (y : model.Command). labels_of y + labels_in xs) is
drop_labels (x ∷ xs) (suc n) c at = drop_labels xs n c at

-- a label is left for the next command
pub labels_next : (s : Supply) (serial next : ℕ) (cs : List model.Command) (c : model.Command) → slice_get cs next ≡ Some c → next < 200000 → HasLabels s serial next cs → serial + labels_of c < 2 ^ 32
labels_next Listed serial next cs c at few is = let one = one_label c in omega arith
labels_next Section serial next cs c at few is = let one = one_label c in omega arith
labels_next Open serial next cs c at few is = let all = drop_labels cs next c at in let rest : ℕ = labels_in (drop (suc next) cs) in omega arith
labels_next Closed serial next cs c at few is = let all = drop_labels cs next c at in let rest : ℕ = labels_in (drop (suc next) cs) in omega arith

-- and labels are left for those behind it
pub labels_after : (s : Supply) (serial later next : ℕ) (cs : List model.Command) (c : model.Command) → slice_get cs next ≡ Some c → later ≤ serial + labels_of c → HasLabels s serial next cs → HasLabels s later (next + 1) cs
labels_after Listed serial later next cs c at made is = let one = one_label c in omega arith
labels_after Section serial later next cs c at made is = let one = one_label c in omega arith
labels_after Open serial later next cs c at made is = subst (λ (n : ℕ). later + labels_in (drop n cs) < 2 ^ 32) (sym (add-one next)) (let all = drop_labels cs next c at in let rest : ℕ = labels_in (drop (suc next) cs) in omega arith)
labels_after Closed serial later next cs c at made is = subst (λ (n : ℕ). later + labels_in (drop n cs) < 2 ^ 32) (sym (add-one next)) (let all = drop_labels cs next c at in let rest : ℕ = labels_in (drop (suc next) cs) in omega arith)

fits_one : (c : model.Command) → FitsHeap c → AllFitIn Open (c ∷ [])
fits_one c fits zero d at = let is : c ≡ d = cc in subst FitsHeap is fits
fits_one c fits (suc i) d at = cc

-- commands that fit the shared heap fit where they are no section
pub fits_as : (s : Supply) (cs : List model.Command) → s ≢ Section → AllFit cs → AllFitIn s cs
fits_as Listed cs other fit = fit
fits_as Section cs other fit = absurd (other refl)
fits_as Open cs other fit = fit
fits_as Closed cs other fit = fit

-- another command than the four of sections fits the shared heap wherever it stands
pub fits_ordinary : (s : Supply) (c : model.Command) → IsOrdinary c → FitsIn s c → FitsHeap c
fits_ordinary Listed c ordinary fits = fits
fits_ordinary Open c ordinary fits = fits
fits_ordinary Closed c ordinary fits = fits
fits_ordinary Section (Spawn section item) ordinary fits = absurd ordinary
fits_ordinary Section (Argument dst) ordinary fits = absurd ordinary
fits_ordinary Section (PutResult item) ordinary fits = absurd ordinary
fits_ordinary Section (Join dst section) ordinary fits = absurd ordinary
fits_ordinary Section c ordinary fits = fits

-- and the four stand in sections alone
pub sectioned_by : (s : Supply) (c : model.Command) → (IsOrdinary c → ⊥) → FitsIn s c → s ≡ Section
sectioned_by Section c four fits = refl
sectioned_by s (Spawn section item) four fits = by s fits where
  by : (s : Supply) → FitsIn s (Spawn section item) → s ≡ Section
  by Section fits = refl
  by Listed fits = absurd fits
  by Open fits = absurd fits
  by Closed fits = absurd fits
sectioned_by s (Argument dst) four fits = by s fits where
  by : (s : Supply) → FitsIn s (Argument dst) → s ≡ Section
  by Section fits = refl
  by Listed fits = absurd fits
  by Open fits = absurd fits
  by Closed fits = absurd fits
sectioned_by s (PutResult item) four fits = by s fits where
  by : (s : Supply) → FitsIn s (PutResult item) → s ≡ Section
  by Section fits = refl
  by Listed fits = absurd fits
  by Open fits = absurd fits
  by Closed fits = absurd fits
sectioned_by s (Join dst section) four fits = by s fits where
  by : (s : Supply) → FitsIn s (Join dst section) → s ≡ Section
  by Section fits = refl
  by Listed fits = absurd fits
  by Open fits = absurd fits
  by Closed fits = absurd fits
sectioned_by s c four fits = absurd (four tt)

ends_closed : {A : Type 0} (s : Supply) (whole last : List A) → s ≡ Open → EndsIn s whole last → EndsIn Closed whole last
ends_closed s whole last more is = subst (λ t. EndsIn t whole last) more is

-- an open run that gets no more
pub closed_is_run : (r : RunView) → IsRun r → r.supply ≡ Open → r.next ≡ length r.commands → IsRun (record r { supply = Closed })
closed_is_run r is more done =
    let one : HoldsOne r = is.one (subst IsHandedIn (sym more) tt) in
    record {
      inside = is.inside;
      made = ends_closed r.supply _ _ more is.made;
      answered = let kept = subst (λ (s : Supply). AreKept s (sizes_in r.token.config) r.token.view.seen.front r.token.view.own.number r.replies r.ran) more is.answered in (kept.0, kept.1);
      replied = let all : length r.replies + length r.ran + (count_of r.token.view.own.finalisers + registrations_in (drop r.next r.commands)) ≤ r.next + most_ran Open (registrations_in r.commands) r.spare = subst (λ (s : Supply). length r.replies + length r.ran + (count_of r.token.view.own.finalisers + registrations_in (drop r.next r.commands)) ≤ r.next + most_ran s (registrations_in r.commands) r.spare) more is.replied in all;
      within = is.within;
      few = is.few;
      fit = subst (λ (s : Supply). AllFitIn s r.commands) more is.fit;
      room = is.room;
      enlists = is.enlists;
      idle = is.idle;
      at_rest = is.at_rest;
      goes_on = is.goes_on;
      owes = is.owes;
      between = is.between;
      labels = subst (λ (s : Supply). HasLabels s r.token.view.own.serial r.next r.commands) more is.labels;
      deck = is.deck;
      done = λ _. done;
      over = is.over;
      shut = λ ended. absurd (is.shut ended more);
      one = λ _. record { one = one.one; answered = one.answered };
      section = λ section. let clash : Closed ≡ Section = section in cc;
      as_ever = λ _. is.as_ever (λ section. let clash : Open ≡ Section = sym more ∙ section in cc);
      unasked = is.unasked;
      told = is.told;
      spares = is.spares;
    }

-- an open run that forgets the command that was handed in before, and has these now
pub handed_is_run : (r : RunView) (cs : List model.Command) → IsRun r → r.supply ≡ Open → length cs ≤ 1 → AllFitIn Open cs → length r.ran + (count_of r.token.view.own.finalisers + registrations_in cs) ≤ r.spare → ephemerons_in cs ≤ r.token.view.own.ephemerons.room → r.token.view.own.serial + labels_in cs < 2 ^ 32
    → IsRun (record r { commands = cs; next = 0; replies = []; asked = None; collected = false })
handed_is_run r cs is more one fit enlists room labels =
    let handed : IsHandedIn r.supply = subst IsHandedIn (sym more) tt in
    let other : r.supply ≢ Section = λ section. let clash : Open ≡ Section = sym more ∙ section in cc in
    let count : ℕ = count_of r.token.view.own.finalisers in
    let registers : ℕ = registrations_in cs in
    let spares : r.spare ≡ r.token.config.finals = is.spares in
    let b = is.between in
    let here : List model.Command = commands r.token.view.seen.front r.token.view.own.number in
    let said : List Reply = answers (sizes_in r.token.config) r.token.view.seen.front r.token.view.own.number in
    let kept = subst (λ (s : Supply). AreKept s (sizes_in r.token.config) r.token.view.seen.front r.token.view.own.number r.replies r.ran) more is.answered in
    let waiting : ℕ = length r.ran in
    let never : r.ended ≡ true → ⊥ = λ ended. is.shut ended more in
    record {
      inside = is.inside;
      made = subst (λ (s : Supply). EndsIn s here []) (sym more) (here, sym (append-nil here));
      answered = subst (λ (s : Supply). AreKept s (sizes_in r.token.config) r.token.view.seen.front r.token.view.own.number [] r.ran) (sym more) ((said, sym (append-nil said)), kept.1);
      replied = subst (λ (s : Supply). 0 + waiting + (count + registers) ≤ 0 + most_ran s registers r.spare) (sym more) (let all : 0 + waiting + (count + registers) ≤ 0 + r.spare = omega (arith, enlists) in all);
      within = omega arith;
      few = omega (arith, one);
      fit = subst (λ (s : Supply). AllFitIn s cs) (sym more) fit;
      room = room;
      enlists = omega (arith, enlists, spares);
      idle = is.idle;
      at_rest = is.at_rest;
      goes_on = is.goes_on;
      owes = is.owes;
      between = record {
        stands = b.stands;
        quiet = b.quiet;
        even = b.even;
        remembers = b.remembers;
        emptied = λ none served. cc;
        has_left = b.has_left;
        fresh = λ e. cc;
        knows = b.knows;
      };
      labels = subst (λ (s : Supply). HasLabels s r.token.view.own.serial 0 cs) (sym more) labels;
      deck = is.deck;
      done = λ ended. absurd (never ended);
      over = λ ended. absurd (never ended);
      shut = is.shut;
      one = λ _. record { one = one; answered = refl };
      section = λ section. absurd (other section);
      as_ever = is.as_ever;
      unasked = λ before. refl;
      told = λ ended. absurd (never ended);
      spares = is.spares;
    }

-- it has its next command
pub submitted_is_run : (r : RunView) (c : model.Command) → IsRun r → MaySubmit r c → IsRun (record r { commands = c ∷ []; next = 0; replies = []; asked = None; collected = false })
submitted_is_run r c is may =
    let listed = may.enlists in
    let room = may.room in
    let few = may.labels in
    handed_is_run r (c ∷ []) is may.more (omega arith) (fits_one c may.fits) (omega (arith, listed)) (omega (arith, room)) (omega (arith, few))

-- or none
pub emptied_is_run : (r : RunView) → IsRun r → r.supply ≡ Open → IsRun (record r { commands = []; next = 0; replies = []; asked = None; collected = false })
emptied_is_run r is more =
    let replied : length r.replies + length r.ran + (count_of r.token.view.own.finalisers + registrations_in (drop r.next r.commands)) ≤ r.next + r.spare = subst (λ (s : Supply). length r.replies + length r.ran + (count_of r.token.view.own.finalisers + registrations_in (drop r.next r.commands)) ≤ r.next + most_ran s (registrations_in r.commands) r.spare) more is.replied in
    let answered : length r.replies ≡ r.next = (is.one (subst IsHandedIn (sym more) tt)).answered in
    let rest : ℕ = registrations_in (drop r.next r.commands) in
    let few : HasLabels Open r.token.view.own.serial r.next r.commands = subst (λ (s : Supply). HasLabels s r.token.view.own.serial r.next r.commands) more is.labels in
    let labels : ℕ = labels_in (drop r.next r.commands) in
    handed_is_run r [] is more (omega arith) (λ i c at. cc) (omega (arith, replied, answered)) (omega arith) (omega (arith, few))

rest_ends : {A : Type 0} (whole waits : List A) → (past : List A) × (whole ≡ past ++ waits) → (past : List A) × (whole ≡ past ++ drop 1 waits)
rest_ends whole [] is = is
rest_ends whole (x ∷ xs) is = (is.0 ++ x ∷ [], is.1 ∙ sym (append_assoc is.0 (x ∷ []) xs))

kept_rest : (s : Supply) (z : Sizes) (front : List Entry) (d : ℕ) (said ran : List Reply) → AreKept s z front d said ran → AreKept s z front d said (drop 1 ran)
kept_rest Listed z front d said ran is = (is.0, ap (drop 1) is.1)
kept_rest Section z front d said ran is = ap (drop 1) is
kept_rest Open z front d said ran is = (is.0, rest_ends (finalised z front d) ran is.1)
kept_rest Closed z front d said ran is = (is.0, rest_ends (finalised z front d) ran is.1)

rest_short : {A : Type 0} (xs : List A) → length (drop 1 xs) ≤ length xs
rest_short [] = omega arith
rest_short (x ∷ xs) = omega arith

-- a run whose oldest reply of a finaliser was taken
pub taken_is_run : (r : RunView) → IsRun r → IsRun (record r { ran = drop 1 r.ran })
taken_is_run r is =
    let fewer = rest_short r.ran in
    let count : ℕ = count_of r.token.view.own.finalisers + registrations_in (drop r.next r.commands) in
    let most : ℕ = most_ran r.supply (registrations_in r.commands) r.spare in
    let replied : length r.replies + length r.ran + count ≤ r.next + most = is.replied in
    record {
      inside = is.inside;
      made = is.made;
      answered = kept_rest r.supply (sizes_in r.token.config) r.token.view.seen.front r.token.view.own.number r.replies r.ran is.answered;
      replied = let all : length r.replies + length (drop 1 r.ran) + count ≤ r.next + most = omega (arith, replied, fewer) in all;
      within = is.within;
      few = is.few;
      fit = is.fit;
      room = is.room;
      enlists = is.enlists;
      idle = is.idle;
      at_rest = is.at_rest;
      goes_on = is.goes_on;
      owes = is.owes;
      between = is.between;
      labels = is.labels;
      deck = is.deck;
      done = is.done;
      over = is.over;
      shut = is.shut;
      one = λ handed. let held = is.one handed in record { one = held.one; answered = held.answered };
      section = is.section;
      as_ever = is.as_ever;
      unasked = is.unasked;
      told = is.told;
      spares = is.spares;
    }
