-- A domain meets another, which takes the hidden block, and they meet again.
use Rattle.std.proofs.Common.{◌≡◌, ◌≢◌, ◌∙◌, ◌++◌, ◌∷◌, ◌+◌, ◌≤◌, ◌<◌, cond, ℕ, zero, suc, Bool, true, false, List, [], Some, append-nil, append_assoc, ap, arith, eq-eqb, length, refl, replicate, get_or, slice_get, sym, subst}
use Rattle.std.specs.Prelude.{slice_set}
use mathlib.Core.Logic.{dite}
use native.Mathlib.Decide.{ℕ_discrete}
use Rattle.model_core.specs.declared.command.Command.{Command}
use Rattle.model_core.specs.declared.command.Command.TheVariants.{Load}
use Rattle.model_core.specs.declared.entry.Entry.{Entry}
use Rattle.model_core.specs.declared.entry.Entry.TheVariants.{Command as CommandOf}
use Rattle.model_core.specs.declared.reply.Reply.{Reply}
use Rattle.model_core.specs.Domains.{no_domain, opening_domain}
use Rattle.model_core.specs.Fronts.{AreCalls, NoneOf, unseen}
use Rattle.model_core.specs.History.{IsPrefix, Legal, is_entry_of}
use Rattle.model_core.proofs.Histories.FrontLemmas.{unseen_rest}
use Rattle.heap_rule.specs.declared.config.Config.{Config}
use Rattle.heap_rule.specs.declared.view.DomainView.{DomainView}
use Rattle.heap_rule.specs.declared.view.Own.{Own}
use Rattle.heap_rule.specs.Limits.{sizes_in}
use Rattle.heap_rule.specs.Meeting.{Trails, seeing}
use Rattle.heap_rule.specs.Opening.{opening_token}
use Rattle.heap_rule.specs.Running.{Did, Runs}
use Rattle.heap_rule.specs.Standing.{with_front}
use Rattle.heap_rule.specs.Token.{SharedHeap, Token}
use Rattle.heap_rule.specs.Views.{opening_view}
use Rattle.heap_rule.proofs.Acting.{looked_acts}
use Rattle.heap_rule.proofs.Calls.{stays_trans}
use Rattle.model_traces.specs.Spawns.Hidden.{hidden}
use Rattle.do_spawn.proofs.Making.{prefix_trans}
use Rattle.do_spawn.specs.Opening.{Began, Grew, HandedAt, HandedOver, HandedUpto, Has, Keeps, made_by, making, taking, takings}
use Rattle.do_spawn.proofs.Interleaved.{has_more, has_push, made_append, made_none, takings_more}

-- a domain that runs saw more of the history
pub saw : (history : List Entry) (x : DomainView) (d : ℕ) → x.own.number ≡ d → Trails history x → AreCalls (unseen history x.seen.front) → Grew d x.seen.front history
saw history x d number t calls = record {
  rest = t.begins.rest;
  appends = t.begins.appends;
  others = subst (λ (n : ℕ). NoneOf n t.begins.rest) number t.begins.others;
  calls = subst AreCalls (unseen_rest x.own.number history x.seen.front t.begins) calls;
}

pub grew_count : (d : ℕ) (old new : List Entry) → Grew d old new → made_by d new ≡ made_by d old
grew_count d old new g = ap (made_by d) g.appends ∙ (made_append d old g.rest ∙ (let n : ℕ = made_by d g.rest in let m : ℕ = made_by d old in let none : n ≡ 0 = made_none d g.rest g.others in let e : m + n ≡ m = omega arith in e))

pub grew_has : (d : ℕ) (p old new : List Entry) → Grew d old new → Has p old → Has p new
grew_has d p old new g has = subst (Has p) (sym g.appends) (has_more p old g.rest has g.calls)

pub grew_prefix : (d : ℕ) (old new : List Entry) → Grew d old new → IsPrefix old new
grew_prefix d old new g = record { rest = g.rest; appends = g.appends }

-- a domain goes on from what it owned
pub keeps_registers : (x y z : Own) → Keeps x y → z ≡ record y { registers = z.registers } → Keeps x z
keeps_registers x y z k is = record {
  number = ap (λ (o : Own). o.number) is ∙ k.number;
  used = ap (λ (o : Own). o.used) is ∙ k.used;
  serial = subst (λ (n : ℕ). n ≤ x.serial + 1) (sym (ap (λ (o : Own). o.serial) is)) k.serial;
  arrivals = ap (λ (o : Own). o.arrivals) is ∙ k.arrivals;
  prepared = ap (λ (o : Own). o.prepared) is ∙ k.prepared;
  pending = ap (λ (o : Own). o.pending) is ∙ k.pending;
  ephemerons = subst (λ (n : ℕ). x.ephemerons.room ≤ n) (sym (ap (λ (o : Own). o.ephemerons.room) is)) k.ephemerons;
  finalisers = ap (λ (o : Own). o.finalisers) is ∙ k.finalisers;
}

-- it runs on as it sees more
pub runs_seeing : (h : SharedHeap) (t : Token) (history : List Entry) → Runs h t → Trails history t.view → Legal (sizes_in h.config) history → Runs h (seeing t history)
runs_seeing h t history r trails legal = record {
  here = r.here;
  acts = looked_acts t.config t.view (with_front t.view history) (record { seen = trails.begins; calls = trails.calls r.acts.runs; legal = subst (λ (k : Config). Legal (sizes_in k) history) (sym r.here.1) legal; view = refl }) r.acts;
  idle = r.idle;
  at_rest = r.at_rest;
  remembers = r.remembers;
}

pub began_seeing : (h : SharedHeap) (d : ℕ) (t : Token) (history : List Entry) → Began h d t → Trails history t.view → Legal (sizes_in h.config) history → Began h d (seeing t history)
began_seeing h d t history b trails legal = record {
  runs = runs_seeing h t history b.runs trails legal;
  keeps = record { number = b.keeps.number; used = b.keeps.used; serial = b.keeps.serial; arrivals = b.keeps.arrivals; prepared = b.keeps.prepared; pending = b.keeps.pending; ephemerons = b.keeps.ephemerons; finalisers = b.keeps.finalisers };
  stays = record { arrivals = b.stays.arrivals; stage = b.stays.stage; notes = b.stays.notes; copying = b.stays.copying; queue = b.stays.queue; weak = b.stays.weak; progress = b.stays.progress; remembers = b.stays.remembers };
  legal = legal;
}

-- and as it makes a command
pub began_did : (h : SharedHeap) (d : ℕ) (t u : Token) (c : Command) (r : Reply) → Began h d t → Did h t u c r → Keeps (opening_view h.config d).own u.view.own → Began h d u
began_did h d t u c r b did keeps = record {
  runs = did.runs;
  keeps = keeps;
  stays = stays_trans (opening_view h.config d) t.view u.view b.stays did.stays;
  legal = subst (λ (k : Config). Legal (sizes_in k) u.view.seen.front) b.runs.here.1 did.answers.legal;
}

-- what it made stands last, behind others' calls
pub record Made (d : ℕ) (e : Entry) (old new : List Entry) : Type 0 where
  pub between : List Entry
  pub others : NoneOf d between
  pub calls : AreCalls between
  pub appends : new ≡ old ++ (between ++ e ∷ [])

pub made_has : (d : ℕ) (e : Entry) (p old new : List Entry) → Made d e old new → Has p old → Has (p ++ e ∷ []) new
made_has d e p old new m has = subst (Has (p ++ e ∷ [])) (sym m.appends) (has_push p old m.between e has m.calls)

pub made_count : (d : ℕ) (e : Entry) (old new : List Entry) → is_entry_of d e ≡ true → Made d e old new → made_by d new ≡ made_by d old + 1
made_count d e old new own m = ap (made_by d) m.appends ∙ (made_append d old (m.between ++ e ∷ []) ∙ (
    let none : made_by d m.between ≡ 0 = made_none d m.between m.others in
    let both = made_append d m.between (e ∷ []) in
    let one : cond (is_entry_of d e) 1 0 ≡ 1 = ap (λ (b : Bool). cond b 1 0) own in
    let a : ℕ = made_by d old in let b : ℕ = made_by d m.between in let c : ℕ = cond (is_entry_of d e) 1 0 in let f : ℕ = made_by d (m.between ++ e ∷ []) in
    let is : f ≡ b + (c + 0) = both in let n : b ≡ 0 = none in let o : c ≡ 1 = one in
    let all : a + f ≡ a + 1 = omega arith in all))

module _ (h : SharedHeap) (d : ℕ) (a b new_a new_b : Token) (o : HandedOver h a b new_a new_b) (first : Began h 0 a) (other : Began h d b) where
  abbrev middle : List Entry
  middle = o.met.history

  abbrev last : List Entry
  last = o.again.history

  legal_middle : Legal (sizes_in h.config) middle
  legal_middle = o.met.legal

  began_a : Began h 0 o.met_a
  began_a = subst (Began h 0) (sym o.met.first_is) (began_seeing h 0 a middle first o.met.first legal_middle)

  began_b : Began h d o.met_b
  began_b = subst (Began h d) (sym o.met.second_is) (began_seeing h d b middle other o.met.second legal_middle)

  front_a : o.met_a.view.seen.front ≡ middle
  front_a = ap (λ (t : Token). t.view.seen.front) o.met.first_is

  front_b : o.met_b.view.seen.front ≡ middle
  front_b = ap (λ (t : Token). t.view.seen.front) o.met.second_is

  began_took : Began h d o.took
  began_took = began_did h d o.met_b o.took (Load hidden 0 15) o.reply began_b o.did (keeps_registers (opening_view h.config d).own o.met_b.view.own o.took.view.own began_b.keeps o.rest.own)

  pub handed_first : Began h 0 new_a
  handed_first = subst (Began h 0) (sym o.again.first_is) (began_seeing h 0 o.met_a last began_a o.again.first o.again.legal)

  pub handed_other : Began h d new_b
  handed_other = subst (Began h d) (sym o.again.second_is) (began_seeing h d o.took last began_took o.again.second o.again.legal)

  grew_middle : Grew 0 a.view.seen.front middle
  grew_middle = saw middle a.view 0 first.keeps.number o.met.first (o.met.first.calls first.runs.acts.runs)

  grew_other : Grew d b.view.seen.front middle
  grew_other = saw middle b.view d other.keeps.number o.met.second (o.met.second.calls other.runs.acts.runs)

  made_took : Made d (taking d) middle o.took.view.seen.front
  made_took =
      let t = o.did.answers in
      let number : o.met_b.view.own.number ≡ d = began_b.keeps.number in record {
        between = t.between;
        others = subst (λ (n : ℕ). NoneOf n t.between) number t.others;
        calls = t.calls refl;
        appends = t.appends ∙ ((λ i. front_b i ++ t.between ++ CommandOf (number i) (Load hidden 0 15) false ∷ []) ∙ append_assoc middle t.between (taking d ∷ []));
      }

  grew_took : Grew d o.took.view.seen.front last
  grew_took = saw last o.took.view d began_took.keeps.number o.again.second (o.again.second.calls began_took.runs.acts.runs)

  grew_last : Grew 0 middle last
  grew_last = subst (λ (f : List Entry). Grew 0 f last) front_a (saw last o.met_a.view 0 began_a.keeps.number o.again.first (o.again.first.calls began_a.runs.acts.runs))

  pub front_first : new_a.view.seen.front ≡ last
  front_first = ap (λ (t : Token). t.view.seen.front) o.again.first_is

  pub front_other : new_b.view.seen.front ≡ last
  front_other = ap (λ (t : Token). t.view.seen.front) o.again.second_is

  pub handed_has : (p : List Entry) → Has p a.view.seen.front → Has (p ++ taking d ∷ []) new_a.view.seen.front
  handed_has p has = subst (Has (p ++ taking d ∷ [])) (sym front_first) (grew_has d (p ++ taking d ∷ []) o.took.view.seen.front last grew_took (made_has d (taking d) p middle o.took.view.seen.front made_took (grew_has 0 p a.view.seen.front middle grew_middle has)))

  pub handed_mine : made_by 0 new_a.view.seen.front ≡ made_by 0 a.view.seen.front
  handed_mine = ap (made_by 0) front_first ∙ (grew_count 0 middle last grew_last ∙ grew_count 0 a.view.seen.front middle grew_middle)

  pub handed_took : made_by d new_b.view.seen.front ≡ made_by d b.view.seen.front + 1
  handed_took = ap (made_by d) front_other ∙ (grew_count d o.took.view.seen.front last grew_took ∙ (made_count d (taking d) middle o.took.view.seen.front (eq-eqb d d refl) made_took ∙ ap (λ (n : ℕ). n + 1) (grew_count d b.view.seen.front middle grew_other)))

  pub handed_prefix : IsPrefix a.view.seen.front new_a.view.seen.front
  handed_prefix = subst (IsPrefix a.view.seen.front) (sym front_first) (prefix_trans a.view.seen.front middle last (grew_prefix 0 a.view.seen.front middle grew_middle) (grew_prefix 0 middle last grew_last))

  pub handed_same : IsPrefix new_b.view.seen.front new_a.view.seen.front
  handed_same = record { rest = []; appends = front_first ∙ (sym front_other ∙ sym (append-nil new_b.view.seen.front)) }

  pub handed_room : new_a.view.own.remembered.room ≡ a.view.own.remembered.room
  handed_room = ap (λ (t : Token). t.view.own.remembered.room) o.again.first_is ∙ ap (λ (t : Token). t.view.own.remembered.room) o.met.first_is

-- places
set_here : (xs : List Token) (i : ℕ) (y : Token) → i < length xs → slice_get (slice_set xs i y) i ≡ Some y
set_here [] i y within = absurd (omega (arith, within))
set_here (x ∷ xs) zero y within = refl
set_here (x ∷ xs) (suc i) y within = set_here xs i y (omega (arith, within))

pub set_else : (xs : List Token) (i k : ℕ) (y : Token) → k ≢ i → slice_get (slice_set xs i y) k ≡ slice_get xs k
set_else [] i k y other = refl
set_else (x ∷ xs) zero zero y other = absurd (other refl)
set_else (x ∷ xs) zero (suc k) y other = refl
set_else (x ∷ xs) (suc i) zero y other = refl
set_else (x ∷ xs) (suc i) (suc k) y other = set_else xs i k y (λ e. other (ap suc e))

pub get_within : (xs : List Token) (i : ℕ) (y : Token) → slice_get xs i ≡ Some y → i < length xs
get_within [] i y at = cc
get_within (x ∷ xs) zero y at = omega arith
get_within (x ∷ xs) (suc i) y at = let within = get_within xs i y at in omega arith

pub set_is : (xs : List Token) (i : ℕ) (x y t : Token) → slice_get xs i ≡ Some x → slice_get (slice_set xs i y) i ≡ Some t → y ≡ t
set_is xs i x y t was at = let same : Some y ≡ Some t = sym (set_here xs i y (get_within xs i x was)) ∙ at in cc

-- a domain at the start
running_there : (n d : ℕ) → d < n → (get_or (replicate n opening_domain) d no_domain).ended ≡ false
running_there zero d below = absurd (omega (arith, below))
running_there (suc n) zero below = refl
running_there (suc n) (suc d) below = running_there n d (omega (arith, below))

pub opening_began : (h : SharedHeap) (d : ℕ) → d < h.config.domains → Began h d (opening_token h.table h.config d)
opening_began h d below = record {
  runs = record { here = (refl, refl); acts = record { goes_on = running_there h.config.domains d below; runs = refl; paid = refl; unqueued = refl }; idle = refl; at_rest = refl; remembers = refl };
  keeps = record { number = refl; used = refl; serial = (let e : 0 ≤ 0 + 1 = omega arith in e); arrivals = refl; prepared = refl; pending = refl; ephemerons = (let n : ℕ = h.config.ephes in let e : n ≤ n = omega arith in e); finalisers = refl };
  stays = record { arrivals = refl; stage = refl; notes = refl; copying = refl; queue = refl; weak = refl; progress = refl; remembers = λ all. all };
  legal = tt;
}

-- one of the others more has taken the block
pub handed_next : (h : SharedHeap) (first new_first : Token) (others new_others : List Token) (at : ℕ) → at + 1 < h.config.domains → HandedUpto h first others at → HandedAt h first new_first others new_others at → HandedUpto h new_first new_others (at + 1)
handed_next h first new_first others new_others at below u o =
    let start : o.other ≡ opening_token h.table h.config (at + 1) = u.waits at o.other (λ less. omega (arith, less)) o.was in
    let other : Began h (at + 1) o.other = subst (Began h (at + 1)) (sym start) (opening_began h (at + 1) below) in
    let none : made_by (at + 1) o.other.view.seen.front ≡ 0 = ap (λ (t : Token). made_by (at + 1) t.view.seen.front) start in
    record {
      began = handed_first h (at + 1) first o.other new_first o.other_now o.handed u.began other;
      room = subst (λ (n : ℕ). 1 ≤ n) (sym (handed_room h (at + 1) first o.other new_first o.other_now o.handed u.began other)) u.room;
      has = subst (λ (p : List Entry). Has p new_first.view.seen.front) (append_assoc making (takings at) (taking (at + 1) ∷ []) ∙ ap (λ (l : List Entry). making ++ l) (sym (takings_more at)))
          (handed_has h (at + 1) first o.other new_first o.other_now o.handed u.began other (making ++ takings at) u.has);
      mine = handed_mine h (at + 1) first o.other new_first o.other_now o.handed u.began other ∙ u.mine;
      done = λ e t before there. dite (ℕ_discrete e at)
          (λ (same : e ≡ at). subst (λ (n : ℕ). Began h (n + 1) t × (made_by (n + 1) t.view.seen.front ≡ 1) × IsPrefix t.view.seen.front new_first.view.seen.front) (sym same)
          (subst (λ (v : Token). Began h (at + 1) v × (made_by (at + 1) v.view.seen.front ≡ 1) × IsPrefix v.view.seen.front new_first.view.seen.front)
          (set_is others at o.other o.other_now t o.was (subst (λ (xs : List Token). slice_get xs at ≡ Some t) o.others (subst (λ (n : ℕ). slice_get new_others n ≡ Some t) same there))) (
            handed_other h (at + 1) first o.other new_first o.other_now o.handed u.began other,
            handed_took h (at + 1) first o.other new_first o.other_now o.handed u.began other ∙ ap (λ (n : ℕ). n + 1) none,
            handed_same h (at + 1) first o.other new_first o.other_now o.handed u.began other,
          )))
          (λ (away : e ≢ at).
          let d = u.done e t (omega (arith, before, away)) (sym (set_else others at e o.other_now away) ∙ subst (λ (xs : List Token). slice_get xs e ≡ Some t) o.others there) in
          (d.0, d.1, prefix_trans t.view.seen.front first.view.seen.front new_first.view.seen.front d.2 (handed_prefix h (at + 1) first o.other new_first o.other_now o.handed u.began other)));
      waits = λ e t behind there.
          let away : e ≢ at = λ same. behind (omega (arith, same)) in
          u.waits e t (λ less. behind (omega (arith, less))) (sym (set_else others at e o.other_now away) ∙ subst (λ (xs : List Token). slice_get xs e ≡ Some t) o.others there);
    }
