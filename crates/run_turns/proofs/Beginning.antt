-- How a domain stands before its first command.
use Rattle.std.proofs.Common.{◌≡◌, ◌≢◌, ◌∙◌, ℕ, ◌/◌, ◌+◌, ◌%◌, ◌<◌, ◌≤◌, zero, suc, true, false, length, List, [], append-nil, Option, None, replicate, ap, refl, sym, arith}
use Rattle.std.specs.Prelude.{slice_index_or}
use Rattle.model_core.specs.declared.command.Command.{Command}
use Rattle.run_turns.specs.declared.supply.Supply.{Supply}
use Rattle.run_turns.specs.declared.supply.Supply.TheVariants.{Listed, Section, Open, Closed}
use Rattle.gc_mark.specs.Decks.{DeckCounts}
use Rattle.gc_mark.specs.Slices.{IsDeckOf}
use Rattle.model_core.specs.Domains.{class_count, opening_domain, no_domain}
use Rattle.model_core.specs.History.{commands}
use Rattle.heap_rule.specs.Limits.{sizes_in}
use Rattle.heap_rule.specs.declared.config.Config.{Config}
use Rattle.heap_rule.specs.Opening.{opening_token}
use Rattle.heap_rule.specs.Phases.{IsEven}
use Rattle.heap_rule.specs.Pools.{prepared_at}
use Rattle.heap_rule.specs.Token.{Token, SharedHeap}
use Rattle.step_finalisers.specs.Registering.{count_of}
use Rattle.heap_rule.specs.Views.{no_collection}
use Rattle.model_core.specs.declared.reply.Reply.{Reply}
use Rattle.run_turns.specs.declared.place.Place.{Place}
use Rattle.run_turns.specs.declared.place.Place.TheVariants.{AsEver}
use Rattle.run_turns.specs.Sections.{AllFitIn, IsInSection}
use Rattle.run_turns.specs.Kept.{answers, finalised}
use Rattle.run_turns.specs.Runs.{AllFit, AreKept, CanBegin, EndsIn, HasLabels, IsBetween, IsHandedIn, StandsReady, IsRun, ephemerons_in, most_ran, registrations_in, standing, unturned}

pub nothing_prepared : (n class : ℕ) → ◌≡◌ {A = Option ℕ} (slice_index_or (replicate n None) class None) None
nothing_prepared zero class = refl
nothing_prepared (suc n) zero = refl
nothing_prepared (suc n) (suc class) = nothing_prepared n class

pub even_rest : (n : ℕ) → n % 2 ≡ 0 → IsEven n
even_rest n rest = (n / 2, omega arith)

begins_between : (t : Token) (cs : List Command) → StandsReady t cs → IsBetween None None false no_collection t
begins_between t cs ready = record {
  stands = ready.acts.runs;
  quiet = record { quiet = ready.quiet; no_copies = ready.no_copies; unprepared = λ class _. ap (λ l. prepared_at l class) ready.unprepared ∙ nothing_prepared class_count class; paid = ready.acts.paid };
  even = λ _. even_rest t.view.own.arrivals ready.even;
  remembers = λ _. ready.remembers;
  emptied = λ _ served. cc;
  has_left = λ known left. cc;
  fresh = λ e. cc;
  knows = λ _. sym ready.none_began;
}

-- each finaliser that the commands register may answer once
begins_replied : (t : Token) (cs : List Command) (s : Supply) → StandsReady t cs → 0 + 0 + (count_of t.view.own.finalisers + registrations_in cs) ≤ 0 + most_ran s (registrations_in cs) t.config.finals
begins_replied t cs Listed ready = let none = ready.none_listed in omega arith
begins_replied t cs Section ready = let none = ready.none_listed in omega arith
begins_replied t cs Open ready = let none = ready.none_listed in let few = ready.enlists in omega arith
begins_replied t cs Closed ready = let none = ready.none_listed in let few = ready.enlists in omega arith

-- the run of a domain that is ready, by what its supply asks
pub ready_is_run : (t : Token) (cs : List Command) (hints : DeckCounts) (s : Supply) (place : Place) → StandsReady t cs → IsDeckOf t.config t.view hints → AllFitIn s cs → EndsIn s (commands t.view.seen.front t.view.own.number) [] → AreKept s (sizes_in t.config) t.view.seen.front t.view.own.number [] []
    → HasLabels s t.view.own.serial 0 cs → (IsHandedIn s → length cs ≤ 1) → (s ≡ Section → IsInSection t.config t.view.own.number t.view.seen.front place cs 0 []) → (s ≢ Section → place ≡ AsEver) → IsRun (standing t cs hints s place)
ready_is_run t cs hints s place ready deck fit made answered labels handed section as_ever = record {
  inside = ready.inside;
  made = made;
  answered = answered;
  replied = begins_replied t cs s ready;
  within = omega arith;
  few = ready.few;
  fit = fit;
  room = ready.room;
  enlists = let none = ready.none_listed in let few = ready.enlists in omega arith;
  idle = ready.idle;
  at_rest = ready.at_rest;
  goes_on = λ _. ready.acts.goes_on;
  owes = λ _. ready.owes;
  between = begins_between t cs ready;
  labels = labels;
  deck = deck;
  done = λ ended. let clash : false ≡ true = ended in cc;
  over = λ ended. let clash : false ≡ true = ended in cc;
  shut = λ ended. let clash : false ≡ true = ended in cc;
  one = λ given. record { one = handed given; answered = refl };
  section = section;
  as_ever = as_ever;
  unasked = λ before. refl;
  told = λ ended. let clash : false ≡ true = ended in cc;
  spares = refl;
}

-- all of its commands were listed
pub begins_listed : (t : Token) (cs : List Command) (hints : DeckCounts) → CanBegin t cs → IsDeckOf t.config t.view hints → IsRun (unturned t cs hints Listed)
begins_listed t cs hints can deck = ready_is_run t cs hints Listed AsEver can.ready deck can.fit can.no_commands (can.no_replies, refl) (let few = can.ready.labels in omega arith) (λ given. absurd given) (λ section. cc) (λ _. refl)

-- or they are handed in
pub begins_open : (t : Token) (hints : DeckCounts) → CanBegin t [] → IsDeckOf t.config t.view hints → IsRun (unturned t [] hints Open)
begins_open t hints can deck =
    let said : List Reply = answers (sizes_in t.config) t.view.seen.front t.view.own.number in
    let ran : List Reply = finalised (sizes_in t.config) t.view.seen.front t.view.own.number in
    ready_is_run t [] hints Open AsEver can.ready deck can.fit ([], can.no_commands) ((said, sym (append-nil said)), (ran, sym (append-nil ran))) (let few = can.ready.labels in omega arith) (λ _. omega arith) (λ section. cc) (λ _. refl)

owes_none : (n d : ℕ) → (slice_index_or (replicate n opening_domain) d no_domain).due ≡ 0
owes_none zero d = refl
owes_none (suc n) zero = refl
owes_none (suc n) (suc d) = owes_none n d

not_ended : (n d : ℕ) → d < n → (slice_index_or (replicate n opening_domain) d no_domain).ended ≡ false
not_ended zero d h = absurd (omega arith)
not_ended (suc n) zero h = refl
not_ended (suc n) (suc d) h = not_ended n d (omega arith)

-- a domain of a heap that has just started may begin commands that fit, and for whose ephemerons and finalisers there is room
pub opening_begins : (h : SharedHeap) (k : Config) (d : ℕ) (cs : List Command) → d < k.domains → length cs ≤ 200000 → AllFit cs → ephemerons_in cs ≤ k.ephes → registrations_in cs ≤ k.finals → CanBegin (opening_token h.table k d) cs
opening_begins h k d cs inside few fit room enlists = record {
  ready = record {
    inside = inside;
    acts = record { goes_on = not_ended k.domains d inside; runs = refl; unqueued = refl; paid = refl };
    idle = refl;
    at_rest = refl;
    few = few;
    room = room;
    enlists = enlists;
    none_listed = refl;
    owes = owes_none k.domains d;
    labels = omega arith;
    even = refl;
    remembers = refl;
    quiet = refl;
    no_copies = refl;
    unprepared = refl;
    none_began = refl;
  };
  no_commands = refl;
  no_replies = refl;
  fit = fit;
}
