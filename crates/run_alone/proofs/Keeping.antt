-- What a step of a heap's only domain leaves of its run, while it runs.
use Rattle.std.proofs.Common.{true≢false, ◌≡◌, ◌≢◌, ◌∙◌, ◌+◌, ◌<◌, ◌≤◌, ℕ, Bool, true, false, List, [], ◌∷◌, Option, Some, None, length, slice_get, zero, suc, arith, refl, sym, ap, subst, ⊎_elim, ltb-true}
use Rattle.std.proofs.lemmas.Bool.{le-ltb}
use Rattle.std.proofs.lemmas.Bool.Decides.{nat_tests}
use Rattle.model_core.specs.declared.command.Command as model
use Rattle.model_core.specs.declared.command.Command.TheVariants.{Alloc, Store, SetKey, SetData, Minor, Major, FullMajor, Raw, Cas, Spawn, PutResult}
use Rattle.model_core.specs.Domains.{IsWithinLimits}
use Rattle.heap_rule.specs.declared.config.Config.{Config}
use Rattle.heap_rule.specs.declared.view.DomainView.{DomainView}
use Rattle.heap_rule.specs.declared.view.Hunt.TheVariants.{Rests as AtRest}
use Rattle.heap_rule.specs.declared.view.Own.{Own}
use Rattle.heap_rule.specs.declared.view.Finalisers.{Finalisers}
use Rattle.heap_rule.specs.declared.view.Waiting.{Waiting}
use Rattle.heap_rule.specs.Limits.{sizes_in}
use Rattle.heap_rule.specs.Places.{class_words}
use Rattle.heap_rule.specs.Standing.{with_front}
use Rattle.heap_rule.specs.Token.{SharedHeap, IsIn}
use Rattle.do_alloc.proofs.OfPools.Seeking.{sought_view}
use Rattle.run_turns.proofs.Owing.{ran_count}
use Rattle.run_turns.proofs.Working.{works_keeps}
use Rattle.run_turns.specs.declared.supply.Supply.TheVariants.{Open, Section}
use Rattle.run_turns.specs.declared.turned.Turned.{Turned}
use Rattle.run_turns.specs.declared.turned.Turned.TheVariants.{Did, Waiting as WaitsFor, Hungry, Held, Idle}
use Rattle.run_turns.specs.declared.turned.Turned.TheVariants.{Ended as Over}
use Rattle.run_turns.specs.Runs.{RunView, CalmAnswers, CalmDid, IsRun, MarksBeside, SweepsBeside, WorksBeside, asking_end, halted, is_asked, served_since}
use Rattle.run_turns.specs.Runs.CalmDid.{Finalises, Wishes, Refuses, Tries, Works, Ends, Sees, Makes, Tells, WishesToTell}
use Rattle.run_turns.specs.Tries.{NeedsPause}
use Rattle.step_finalisers.specs.Registering.{count_of}
use Rattle.run_alone.specs.Lone.{AsksOnce, IsLone, OnlyFinalises, StandsAs, Tells as Telling, TriesOn, Wants}
use Rattle.run_alone.proofs.Paces.{runs_paced}
use Rattle.run_alone.proofs.Telling.{tells_calm, tells_on}

inside : {A : Type 0} (xs : List A) (i : ℕ) (x : A) → slice_get xs i ≡ Some x → i < length xs
inside [] i x at = cc
inside (y ∷ ys) zero x at = omega arith
inside (y ∷ ys) (suc i) x at = let more : i < length ys = inside ys i x at in omega arith

-- a run that differs in its token and its hints
pub works_run : (h : SharedHeap) (old new : RunView) (spent : Bool) → WorksBeside h old new spent → new ≡ record old { token = new.token; hints = new.hints }
works_run h old new spent = ⊎_elim
    (λ (m : MarksBeside h old new spent). m.run)
    (λ (s : ((count : ℕ) × SweepsBeside h old new count) × (spent ≡ false)). s.0.1.run ∙ ap (λ (r : RunView). record old { token = new.token; hints = r.hints }) (sym s.0.1.run))

-- the wish for the end of a cycle leaves all but the token
asking_as : (b : Bool) (v : RunView) → (asking_end b v ≡ record v { token = (asking_end b v).token }) × ((asking_end b v).token.view.own ≡ v.token.view.own)
asking_as false v = (refl, refl)
asking_as true v = (refl, refl)

-- what such a step came to, of a run that gets more commands and hasn't ended
pub data Came (h : SharedHeap) (old new : RunView) : Type 0 where
  Finalised : StandsAs old new → OnlyFinalises old new → (first : Waiting) → slice_get old.token.view.own.finalisers.queue.items 0 ≡ Some first → Came h old new
  Asked : (c : model.Command) → slice_get old.commands old.next ≡ Some c → NeedsPause h.config old.token.view.own (served_since old.asked old.token.view.own.arrivals) c → old.token.view.own.finalisers.queue.items ≡ []
      → (new.left ≡ old.left) × (new.commands ≡ old.commands) × (new.next ≡ old.next) × (new.supply ≡ old.supply) × (new.asked ≡ Some old.token.view.own.arrivals) × (new.token.view.own ≡ old.token.view.own) → Came h old new
  IsShort : (old.collected ≡ false) → old.token.view.own.finalisers.queue.items ≡ []
      → (new.left ≡ old.left) × (new.commands ≡ old.commands) × (new.next ≡ old.next) × (new.supply ≡ old.supply) × (new.asked ≡ Some old.token.view.own.arrivals) × (new.token.view.own.arrivals ≡ old.token.view.own.arrivals) × (new.token.view.own.finalisers ≡ old.token.view.own.finalisers) → Came h old new
  Made : (new.left ≡ old.left) × (new.commands ≡ old.commands) × (new.next ≡ old.next + 1) × (new.supply ≡ old.supply) × (new.asked ≡ None) × (new.token.view.own.arrivals ≡ old.token.view.own.arrivals) → Came h old new

-- some command is left of a run that gets more and hasn't ended
module _ (h : SharedHeap) (r s : RunView) (is : IsRun r) (more : r.supply ≡ Open) (runs : r.left ≡ None) (some : r.next < length r.commands) where
  no_section : r.supply ≡ Section → ⊥
  no_section section = let e : Open ≡ Section = sym more ∙ section in cc

  did : CalmDid h r s → Came h r s
  did (Finalises f) =
      let view = f.first.view in
      Finalised
      (record { left = ap (λ (v : RunView). v.left) f.run ∙ runs; commands = ap (λ (v : RunView). v.commands) f.run; next = ap (λ (v : RunView). v.next) f.run; asked = ap (λ (v : RunView). v.asked) f.run; collected = ap (λ (v : RunView). v.collected) f.run; arrivals = ap (λ (x : DomainView). x.own.arrivals) view })
      (record {
        asked = ap (λ (v : RunView). v.asked) f.run;
        collected = ap (λ (v : RunView). v.collected) f.run;
        fewer = let one = ap (λ (x : DomainView). count_of x.own.finalisers + 1) view ∙ ran_count f.first.first r.token.view.own f.first.is_first in omega (arith, one);
      })
      f.first.first f.first.is_first
  did (Wishes a) = Asked a.command a.next a.needs a.unqueued
      (ap (λ (v : RunView). v.left) a.run, ap (λ (v : RunView). v.commands) a.run, ap (λ (v : RunView). v.next) a.run, ap (λ (v : RunView). v.supply) a.run, ap (λ (v : RunView). v.asked) a.run, ap (λ (v : RunView). v.token.view.own) a.run)
  did (Refuses a) =
      let view = sought_view h.config r.token.view (with_front a.searched.view r.token.view.seen.front) AtRest a.refused.view in
      IsShort a.refused.before a.unqueued
      (ap (λ (v : RunView). v.left) a.run, ap (λ (v : RunView). v.commands) a.run, ap (λ (v : RunView). v.next) a.run, ap (λ (v : RunView). v.supply) a.run, ap (λ (v : RunView). v.asked) a.run, ap (λ (v : RunView). v.token.view.own.arrivals) a.run ∙ ap (λ (x : DomainView). x.own.arrivals) view, ap (λ (v : RunView). v.token.view.own.finalisers) a.run ∙ ap (λ (x : DomainView). x.own.finalisers) view)
  did (Tries c other t) = Made (ap (λ (v : RunView). v.left) t.run, ap (λ (v : RunView). v.commands) t.run, ap (λ (v : RunView). v.next) t.run, ap (λ (v : RunView). v.supply) t.run, ap (λ (v : RunView). v.asked) t.run, t.tried.stays.arrivals)
  did (Works p) =
      let w = works_run h r p.worked p.spent p.works in
      let t = p.tried.run in
      let e = asking_as p.spent p.made in
      let all : s ≡ record p.made { token = s.token } = p.run ∙ (e.0 ∙ ap (λ (v : RunView). record p.made { token = v.token }) (sym p.run)) in
      Made (
        ap (λ (v : RunView). v.left) all ∙ (ap (λ (v : RunView). v.left) t ∙ ap (λ (v : RunView). v.left) w),
        ap (λ (v : RunView). v.commands) all ∙ (ap (λ (v : RunView). v.commands) t ∙ ap (λ (v : RunView). v.commands) w),
        ap (λ (v : RunView). v.next) all ∙ (ap (λ (v : RunView). v.next) t ∙ ap (λ (v : RunView). v.next + 1) w),
        ap (λ (v : RunView). v.supply) all ∙ (ap (λ (v : RunView). v.supply) t ∙ ap (λ (v : RunView). v.supply) w),
        ap (λ (v : RunView). v.asked) all ∙ ap (λ (v : RunView). v.asked) t,
        ap (λ (v : RunView). v.token.view.own.arrivals) p.run ∙ (ap (λ (o : Own). o.arrivals) e.1 ∙ (p.tried.tried.stays.arrivals ∙ (works_keeps h r p.worked p.spent p.works).arrivals)),
      )
  did (Ends e) = absurd (e.shut more)
  did (Sees t) = absurd (no_section t.sectioned)
  did (Makes c t) = absurd (no_section t.sectioned)
  did (Tells t) = absurd (no_section t.sectioned)
  did (WishesToTell a) = absurd (no_section a.sectioned)

  pub came : (a : Turned) → CalmAnswers h r s a → Came h r s
  came Did c = did c
  came (WaitsFor n) c = absurd c
  came Hungry c = let past = c.past in absurd (omega (arith, past, some))
  came (Held section) c = absurd (no_section c.sectioned)
  came (Idle n) c = absurd (is.shut c.0.over more)
  came Over c = absurd (is.shut c.over more)

-- a run that has asked for nothing wants nothing
pub wants_none : (r : RunView) → r.asked ≡ None → Wants r → ⊥
wants_none r none w = true≢false (sym w.0 ∙ ap is_asked none)

-- one that asks now does
pub wants_now : (s : RunView) (n : ℕ) → s.asked ≡ Some n → s.token.view.own.arrivals ≡ n → Wants s
wants_now s n asked arrivals = (ap is_asked asked, ap (λ (o : Option ℕ). served_since o s.token.view.own.arrivals) asked ∙ le-ltb n s.token.view.own.arrivals (omega (arith, arrivals)))

wants_as : (r s : RunView) → s.asked ≡ r.asked → s.token.view.own.arrivals ≡ r.token.view.own.arrivals → Wants s → Wants r
wants_as r s asked arrivals w = (ap is_asked (sym asked) ∙ w.0, (λ i. served_since (sym asked i) (sym arrivals i)) ∙ w.1)

-- how often it had arrived as it asked
asks_kept : (r s : RunView) → AsksOnce r → r.left ≡ None → s.left ≡ None → s.asked ≡ r.asked → s.token.view.own.arrivals ≡ r.token.view.own.arrivals → s.token.view.own.remembered.items ≡ r.token.view.own.remembered.items → AsksOnce s
asks_kept r s a was now asked arrivals remembered = record {
  before = λ n is. subst (λ (m : ℕ). n ≤ m) (sym arrivals) (a.before n (sym asked ∙ is));
  arrived = λ gone. absurd (gone now);
  forgotten = λ none served. remembered ∙ a.forgotten was ((λ i. served_since (sym asked i) (sym arrivals i)) ∙ served);
}

pub asks_anew : (s : RunView) (n : ℕ) → s.left ≡ None → s.asked ≡ Some n → s.token.view.own.arrivals ≡ n → AsksOnce s
asks_anew s n now asked arrivals = record {
  before = λ m is. let same : n ≡ m = (let e : ◌≡◌ {A = Option ℕ} (Some n) (Some m) = sym asked ∙ is in cc) in omega (arith, same, arrivals);
  arrived = λ gone. absurd (gone now);
  forgotten = λ none served. let less = ltb-true n s.token.view.own.arrivals (ap (λ (o : Option ℕ). served_since o s.token.view.own.arrivals) (sym asked) ∙ served) in absurd (omega (arith, less, arrivals));
}

pub asks_none : (s : RunView) → s.asked ≡ None → AsksOnce s
asks_none s asked = record {
  before = λ n is. absurd (let e : ◌≡◌ {A = Option ℕ} None (Some n) = sym asked ∙ is in cc);
  arrived = λ gone n is. absurd (let e : ◌≡◌ {A = Option ℕ} None (Some n) = sym asked ∙ is in cc);
  forgotten = λ none served. absurd (true≢false (sym served ∙ ap (λ (o : Option ℕ). served_since o s.token.view.own.arrivals) asked));
}

-- a lone run that has made a step while it runs is one still
pub lone_calm : (h : SharedHeap) (r s : RunView) (a : Turned) → IsLone h r → r.left ≡ None → r.next < length r.commands → IsIn s.token h → IsRun s → CalmAnswers h r s a → IsLone h s
lone_calm h r s a l runs some here is says = by (came h r s l.is l.more runs some a says)
  where
    rest : s.supply ≡ r.supply → AsksOnce s → (s.left ≡ None → Wants s → s.token.view.own.finalisers.queue.items ≡ []) → IsLone h s
    rest supply asks unqueued = record { here = here; is = is; alone = l.alone; more = supply ∙ l.more; asks = asks; unqueued = unqueued }

    supply_of : CalmAnswers h r s a → s.supply ≡ r.supply
    supply_of c = of a c
      where
        of : (b : Turned) → CalmAnswers h r s b → s.supply ≡ r.supply
        of Did (Finalises f) = ap (λ (v : RunView). v.supply) f.run
        of Did (Wishes f) = ap (λ (v : RunView). v.supply) f.run
        of Did (Refuses f) = ap (λ (v : RunView). v.supply) f.run
        of Did (Tries c other f) = ap (λ (v : RunView). v.supply) f.run
        of Did (Works f) = let e = asking_as f.spent f.made in ap (λ (v : RunView). v.supply) f.run ∙ (ap (λ (v : RunView). v.supply) e.0 ∙ (ap (λ (v : RunView). v.supply) f.tried.run ∙ ap (λ (v : RunView). v.supply) (works_run h r f.worked f.spent f.works)))
        of Did (Ends f) = ap (λ (v : RunView). v.supply) f.run
        of Did (Sees f) = ap (λ (v : RunView). v.supply) f.run
        of Did (Makes c f) = ap (λ (v : RunView). v.supply) f.run
        of Did (Tells f) = ap (λ (v : RunView). v.supply) f.run
        of Did (WishesToTell f) = ap (λ (v : RunView). v.supply) f.run
        of (WaitsFor n) f = absurd f
        of Hungry f = ap (λ (v : RunView). v.supply) f.run
        of (Held section) f = ap (λ (v : RunView). v.supply) f.run
        of (Idle n) f = ap (λ (v : RunView). v.supply) f.0.run
        of Over f = ap (λ (v : RunView). v.supply) f.run

    -- the fields that it remembers, where it ran a finaliser
    remembered_of : StandsAs r s → (first : Waiting) → slice_get r.token.view.own.finalisers.queue.items 0 ≡ Some first → s.asked ≡ r.asked → CalmAnswers h r s a → AsksOnce s
    remembered_of t first at asked c = of a c
      where
        of : (b : Turned) → CalmAnswers h r s b → AsksOnce s
        of Did (Finalises f) = asks_kept r s l.asks runs t.left t.asked t.arrivals (ap (λ (x : DomainView). x.own.remembered.items) f.first.view)
        of Did (Wishes f) = absurd (let empty : length r.token.view.own.finalisers.queue.items ≡ 0 = ap length f.unqueued in let few = inside r.token.view.own.finalisers.queue.items 0 first at in omega (arith, empty, few))
        of Did (Refuses f) = absurd (let empty : length r.token.view.own.finalisers.queue.items ≡ 0 = ap length f.unqueued in let few = inside r.token.view.own.finalisers.queue.items 0 first at in omega (arith, empty, few))
        of Did (Tries c other f) = asks_none s (ap (λ (v : RunView). v.asked) f.run)
        of Did (Works f) = let e = asking_as f.spent f.made in asks_none s (ap (λ (v : RunView). v.asked) f.run ∙ (ap (λ (v : RunView). v.asked) e.0 ∙ ap (λ (v : RunView). v.asked) f.tried.run))
        of Did (Ends f) = absurd (f.shut l.more)
        of Did (Sees f) = absurd (let clash : Open ≡ Section = sym l.more ∙ f.sectioned in cc)
        of Did (Makes c f) = absurd (let clash : Open ≡ Section = sym l.more ∙ f.sectioned in cc)
        of Did (Tells f) = absurd (let clash : Open ≡ Section = sym l.more ∙ f.sectioned in cc)
        of Did (WishesToTell f) = absurd (let clash : Open ≡ Section = sym l.more ∙ f.sectioned in cc)
        of (WaitsFor n) f = absurd f
        of Hungry f = absurd (let past = f.past in omega (arith, past, some))
        of (Held section) f = absurd (let clash : Open ≡ Section = sym l.more ∙ f.sectioned in cc)
        of (Idle n) f = absurd (l.is.shut f.0.over l.more)
        of Over f = absurd (l.is.shut f.over l.more)

    by : Came h r s → IsLone h s
    by (Finalised t f first at) = rest (supply_of says) (remembered_of t first at t.asked says) (λ now w.
        let empty : length r.token.view.own.finalisers.queue.items ≡ 0 = ap length (l.unqueued runs (wants_as r s t.asked t.arrivals w)) in
        let few = inside r.token.view.own.finalisers.queue.items 0 first at in
        absurd (omega (arith, empty, few)))
    by (Asked c at needs empty k) = rest k.3 (asks_anew s r.token.view.own.arrivals (k.0 ∙ runs) k.4 (ap (λ (o : Own). o.arrivals) k.5)) (λ now w. ap (λ (o : Own). o.finalisers.queue.items) k.5 ∙ empty)
    by (IsShort before empty k) = rest k.3 (asks_anew s r.token.view.own.arrivals (k.0 ∙ runs) k.4 k.5) (λ now w. ap (λ (fs : Finalisers). fs.queue.items) k.6 ∙ empty)
    by (Made k) = rest k.3 (asks_none s k.4) (λ now w. absurd (wants_none s k.4 w))

-- one that arrives
pub lone_halted : (h : SharedHeap) (r : RunView) → IsLone h r → IsIn (halted r).token h → IsRun (halted r) → IsLone h (halted r)
lone_halted h r l here is = record {
  here = here;
  is = is;
  alone = l.alone;
  more = l.more;
  asks = record {
    before = λ n at. let up = l.asks.before n at in omega (arith, up);
    arrived = λ gone n at. let up = l.asks.before n at in omega (arith, up);
    forgotten = λ none. cc;
  };
  unqueued = λ none. cc;
}

-- no class is larger than a pool
class_small : (words : ℕ) → class_words words ≤ 1024
unfolding class_words
class_small words = grind (arith, nat_tests)

-- a command needs no pause where the minor area is empty, the domain remembers nothing, and a pause has come for it, unless it is a `full_major`
module _ (k : Config) (own : Own) (limits : IsWithinLimits (sizes_in k)) (used : own.used ≡ 0) (items : own.remembered.items ≡ []) (whole : own.remembered.room + length own.remembered.items ≡ k.minor_words) where
  room : 4096 ≤ own.remembered.room
  room = let none : length own.remembered.items ≡ 0 = ap length items in let many = limits.some_minor in omega (arith, whole, none, many)

  fits : (fields : ℕ) → k.minor_words < own.used + class_words (fields + 2) → ⊥
  fits fields more = let few = class_small (fields + 2) in let many = limits.some_minor in omega (arith, more, few, many, used)

  pub needs_none : (c : model.Command) → c ≢ FullMajor → NeedsPause k own true c → ⊥
  needs_none Minor other needs = true≢false needs
  needs_none Major other needs = true≢false needs
  needs_none FullMajor other needs = other refl
  needs_none (Alloc dst tag fields) other needs = fits fields needs
  needs_none (Raw dst tag fields) other needs = fits fields needs
  needs_none (Store block index item) other needs = let full = room in omega (arith, needs, full)
  needs_none (Cas block index expected item) other needs = let full = room in omega (arith, needs, full)
  needs_none (SetKey ephe index item) other needs = let full = room in omega (arith, needs, full)
  needs_none (SetData ephe item) other needs = let full = room in omega (arith, needs, full)
  needs_none (Spawn section item) other needs = let full = room in omega (arith, needs, full)
  needs_none (PutResult item) other needs = let full = room in omega (arith, needs, full)
  needs_none _ other needs = needs

-- a step behind which the next command is to be made as before ran a finaliser
module _ (h : SharedHeap) (start r s : RunView) (a : Turned) (l : IsLone h r) (t : StandsAs start r) (some : r.next < length r.commands) (here : IsIn s.token h) (is : IsRun s) (says : CalmAnswers h r s a) where
  step : Came h r s
  step = came h r s l.is l.more t.left some a says

  -- what was told of the command so far
  pub told_on : Telling h start r → Telling h start s
  told_on told = tells_on h start r s t.commands t.next told (tells_calm h r s a l.here here l.is l.more says)

  pub stands_on : s.next ≡ start.next → (Wants s → ⊥) → StandsAs start s × (count_of s.token.view.own.finalisers < count_of r.token.view.own.finalisers)
  stands_on next calm = by step where
    by : Came h r s → StandsAs start s × (count_of s.token.view.own.finalisers < count_of r.token.view.own.finalisers)
    by (Finalised u f first at) = (record { left = u.left; commands = u.commands ∙ t.commands; next = next; asked = u.asked ∙ t.asked; collected = u.collected ∙ t.collected; arrivals = u.arrivals ∙ t.arrivals }, f.fewer)
    by (Asked c at needs empty k) = absurd (calm (wants_now s r.token.view.own.arrivals k.4 (ap (λ (o : Own). o.arrivals) k.5)))
    by (IsShort before empty k) = absurd (calm (wants_now s r.token.view.own.arrivals k.4 k.5))
    by (Made k) = absurd (let more = k.2 in let was = t.next in omega (arith, more, was, next))

  -- and else the tries are over
  pub tries_on : Telling h start r → IsWithinLimits (sizes_in h.config) → (r.token.view.own.remembered.room + length r.token.view.own.remembered.items ≡ h.config.minor_words) → ((s.next ≡ start.next) → Wants s) → TriesOn h start s
  tries_on told limits whole over = record {
    lone = lone_calm h r s a l t.left some here is says;
    left = left_of step;
    commands = commands_of step;
    tells = told_on told;
    arrivals = arrivals_of step;
    paced = runs_paced h.config s (left_of step);
    wants = over;
    made = λ served other counts same. never served other counts same step;
  }
    where
      left_of : Came h r s → s.left ≡ None
      left_of (Finalised u f first at) = u.left
      left_of (Asked c at needs empty k) = k.0 ∙ t.left
      left_of (IsShort before empty k) = k.0 ∙ t.left
      left_of (Made k) = k.0 ∙ t.left

      commands_of : Came h r s → s.commands ≡ start.commands
      commands_of (Finalised u f first at) = u.commands ∙ t.commands
      commands_of (Asked c at needs empty k) = k.1 ∙ t.commands
      commands_of (IsShort before empty k) = k.1 ∙ t.commands
      commands_of (Made k) = k.1 ∙ t.commands

      arrivals_of : Came h r s → s.token.view.own.arrivals ≡ start.token.view.own.arrivals
      arrivals_of (Finalised u f first at) = u.arrivals ∙ t.arrivals
      arrivals_of (Asked c at needs empty k) = ap (λ (o : Own). o.arrivals) k.5 ∙ t.arrivals
      arrivals_of (IsShort before empty k) = k.5 ∙ t.arrivals
      arrivals_of (Made k) = k.5 ∙ t.arrivals

      served_here : served_since start.asked start.token.view.own.arrivals ≡ true → served_since r.asked r.token.view.own.arrivals ≡ true
      served_here served = (λ i. served_since (t.asked i) (t.arrivals i)) ∙ served

      never : served_since start.asked start.token.view.own.arrivals ≡ true → (slice_get start.commands start.next ≡ Some FullMajor → ⊥) → start.collected ≡ true → s.next ≡ start.next → Came h r s → ⊥
      never served other counts same (Finalised u f first at) = let w = over same in true≢false (sym ((λ i. served_since (u.asked i) (u.arrivals i)) ∙ served_here served) ∙ w.1)
      never served other counts same (Asked c at needs empty k) =
          needs_none h.config r.token.view.own limits (l.is.between.emptied t.left (served_here served)) (l.asks.forgotten t.left (served_here served)) whole c
          (λ full. other ((λ i. slice_get (sym t.commands i) (sym t.next i)) ∙ (at ∙ ap Some full)))
          (subst (λ (b : Bool). NeedsPause h.config r.token.view.own b c) (served_here served) needs)
      never served other counts same (IsShort before empty k) = true≢false (sym counts ∙ (sym t.collected ∙ before))
      never served other counts same (Made k) = let more = k.2 in let was = t.next in omega (arith, more, was, same)

-- a command is left where one was
pub some_as : (start r : RunView) → StandsAs start r → start.next < length start.commands → r.next < length r.commands
some_as start r t some = let next = t.next in let count : length r.commands ≡ length start.commands = ap (λ (cs : List model.Command). length cs) t.commands in omega (arith, next, count, some)
