-- What the steps of a pause tell of a token's own data.
use Rattle.std.proofs.Common.{◌≡◌, ◌+◌, ◌*◌, ◌^◌, ◌<◌, ◌≤◌, ℕ, sym, ap, ◌∙◌, subst, arith, lt_of_not-le, inl, inr, length, ⊎_elim, Some, None, refl, Bool}
use mathlib.Core.Logic.{dite}
use native.Mathlib.Decide.{dec_le}
use Rattle.model_core.specs.declared.entry.Entry.TheVariants.{End}
use Rattle.model_core.specs.declared.reply.Applied.TheVariants.{Silent}
use Rattle.heap_rule.specs.declared.config.Config.{Config}
use Rattle.heap_rule.specs.declared.view.Own.{Own}
use Rattle.heap_rule.specs.declared.view.DomainView.{DomainView}
use Rattle.heap_rule.specs.declared.view.Finalisers.{Finalisers}
use Rattle.heap_rule.specs.declared.view.Held.{Held}
use Rattle.heap_rule.specs.declared.view.Held.TheVariants.{Final, Last, Queue}
use Rattle.heap_rule.specs.Finalisers.{FinalisersFit, held_at}
use Rattle.heap_rule.specs.Layout.{heap_words}
use Rattle.heap_rule.specs.Raw.{CanLeave, Closes}
use Rattle.heap_rule.specs.Token.{Holds, OwnFits}
use Rattle.step_pauses.specs.Pauses.{ArriveMay, forgotten, Arrived, LookTold, CanArrive, CountsArrival, ended_own, ClearsTrace, EndTold, HasDone, MayFollow, entry_of}
use Rattle.heap_rule.proofs.Closes.{front_same}
use Rattle.model_core.specs.Fronts.{IsFrontOf}
use Rattle.heap_rule.specs.declared.phase.Kind.{Kind}
use Rattle.heap_rule.specs.declared.phase.Kind.TheVariants.{Roots, Mark, Rounds, Queued, Clean, Sweep, Answer, Run, Promote, Reset, Decide, Lasts}
use Rattle.heap_rule.specs.declared.phase.Stage.TheVariants.{In}
use Rattle.heap_rule.specs.Cycles.{IsCollecting, HasNoCycle}
use Rattle.heap_rule.specs.declared.view.Share.{Share}
use Rattle.heap_rule.proofs.Fits.{registers_fit}

-- a look at the barrier leaves the token's own data
pub look_own : (k : Config) (x : DomainView) (found : ℕ) (y : DomainView) → LookTold k x found y → y.own ≡ x.own
look_own k x found y told = dite (dec_le (x.own.arrivals * k.domains) found)
    (λ past. ap (λ (z : DomainView). z.own) (told.begun past).view)
    (λ not_past. ap (λ (z : DomainView). z.own) (told.waits (lt_of_not-le not_past)))

-- and finds the front as it was, or entries of others behind it
pub look_front : (k : Config) (x : DomainView) (found : ℕ) (y : DomainView) → LookTold k x found y → IsFrontOf x.own.number y.seen.front x.seen.front
look_front k x found y told = dite (dec_le (x.own.arrivals * k.domains) found)
    (λ past. (told.begun past).seen)
    (λ not_past. front_same x y (ap (λ (z : DomainView). z.seen.front) (told.waits (lt_of_not-le not_past))))

no_more : (n : ℕ) → n + 0 ≡ n
no_more n = omega arith

-- an arrival is counted
pub arrived_closes : (k : Config) (x : DomainView) (found : ℕ) → ArriveMay k x → Closes k x found Arrived CanArrive CountsArrival
arrived_closes k x found may y fits told =
    let own : y.own ≡ record x.own { arrivals = x.own.arrivals + 1; pending = forgotten x.own.pending } = ap (λ (z : DomainView). z.own) told in
    let n : ℕ = x.own.arrivals in
    let few : n < 2 ^ 60 = may.few in record {
      can_write = let g : n + 1 < 2 ^ 64 = omega arith in g;
      written = λ after is. own ∙ sym is;
      fits = subst (OwnFits k) (sym own) record { number = fits.number; used = fits.used; registers = fits.registers; looked = fits.looked; remembered = fits.remembered; remembered_room = fits.remembered_room; prepared = fits.prepared; pending = no_more (x.own.pending.room + length x.own.pending.items) ∙ fits.pending; ephemerons = fits.ephemerons; finalisers = fits.finalisers; swept = fits.swept };
      once = λ _. inl (record { front = front_same x y (ap (λ (z : DomainView). z.seen.front) told); registers = ap (λ (o : Own). o.registers) own; used = ap (λ (o : Own). o.used) own; serial = ap (λ (o : Own). o.serial) own });
    }

-- what is queued stays, and all that was registered has room again
cleared_fit : (k : Config) (own : Own) → FinalisersFit k own.finalisers → FinalisersFit k (ended_own own).finalisers
cleared_fit k own fits =
    let fs : Finalisers = own.finalisers in
    let f : ℕ = length fs.finals.items in
    let l : ℕ = length fs.lasts.items in
    let q : ℕ = length fs.queue.items in record {
      few = let h : f + l + q ≤ k.finals = fits.few in let z : 0 + 0 + q ≤ k.finals = omega arith in z;
      finals_room = no_more (fs.finals.room + f) ∙ fits.finals_room;
      lasts_room = no_more (fs.lasts.room + l) ∙ fits.lasts_room;
      queue_room = fits.queue_room;
      inside = λ h a is. within h a is;
      registers = λ i r is. cc;
      queued_registers = fits.queued_registers;
    }
  where
    within : (h : Held) (a : ℕ) → held_at (ended_own own).finalisers h ≡ Some a → (1 ≤ a) × (a ≤ heap_words k)
    within (Final i) a is = cc
    within (Last i) a is = cc
    within (Queue i) a is = fits.inside (Queue i) a is

-- the end of a trace empties the registers, and forgets what was registered
pub end_closes : (k : Config) (x : DomainView) (found : ℕ) → Closes k x found (EndTold k) CanLeave ClearsTrace
end_closes k x found y fits told = let own : y.own ≡ ended_own x.own = ap (λ (z : DomainView). z.own) told.view in record {
  can_write = tt;
  written = λ after is. own ∙ sym is;
  fits = subst (OwnFits k) (sym own) (registers_fit k x.own (ended_own x.own).registers (ended_own x.own).finalisers (subst (λ (o : Own). Holds k o.registers) own told.holds) (cleared_fit k x.own fits.finalisers) fits);
  once = λ _. inr (record { entry = End x.own.number; answer = Silent; answers = told.answers });
}

-- a domain that is in no phase of a collection has nothing of one to do
pub nothing_due : (k : Config) (x : DomainView) → (IsCollecting x.seen.stage → ⊥) → HasDone k x
nothing_due k x none =
    let apart : (kind : Kind) → (HasNoCycle kind → ⊥) → x.seen.stage ≡ In kind → ⊥ = (λ kind is here. none (subst IsCollecting (sym here) is)) in record {
      rooted = λ here. absurd (apart Roots (λ h. h) here);
      queued = λ here. absurd (⊎_elim (apart Roots (λ h. h)) (apart Queued (λ h. h)) here);
      followed = λ here. absurd (apart Mark (λ h. h) here);
      told = λ here. absurd (⊎_elim (apart Rounds (λ h. h)) (apart Queued (λ h. h)) here);
      walked = λ here. absurd (apart Mark (λ h. h) here);
      swept = λ here. absurd (apart Sweep (λ h. h) here);
      anew = λ here. absurd (apart Lasts (λ h. h) here);
      looked = λ here. absurd (⊎_elim (apart Rounds (λ h. h)) (apart Clean (λ h. h)) here);
      cleaned = λ here. absurd (apart Clean (λ h. h) here);
      decided = λ here. absurd (apart Decide (λ h. h) here);
      settled = λ here. absurd (apart Lasts (λ h. h) here);
      held = λ here. absurd (⊎_elim (apart Sweep (λ h. h)) (apart Answer (λ h. h)) here);
      added = λ here. absurd (apart Sweep (λ h. h) here);
    }

-- nor does domain 0 need to know anything of one where none goes on, and no entry stands then
pub free_follow : (share : Share) (last next : Kind) → HasNoCycle last → HasNoCycle next → MayFollow share last next
free_follow share last next before after =
    let apart : (kind : Kind) → (HasNoCycle kind → ⊥) → next ≡ kind → ⊥ = (λ kind none is. none (subst HasNoCycle is after)) in
    let left : last ≡ Lasts → ⊥ = (λ is. subst HasNoCycle is before) in record {
      unchanged = λ h. absurd (⊎_elim (apart Rounds (λ u. u)) (λ q. ⊎_elim (apart Decide (λ u. u)) (apart Clean (λ u. u)) q) h);
      first = λ h. absurd (apart Decide (λ u. u) h);
      second = λ _ h. absurd (apart Clean (λ u. u) h);
      rotated = λ h. absurd (left h);
      set_back = λ h. absurd (apart Sweep (λ u. u) h);
      goes_on = λ h _. absurd (subst HasNoCycle h before);
      begins = λ _ h. absurd (apart Roots (λ u. u) h);
      frees = λ _ h. absurd (apart Sweep (λ u. u) h);
      finishes = λ _ h. absurd (apart Mark (λ u. u) h);
      over = λ h _. absurd (⊎_elim left (λ (is : last ≡ Answer). subst HasNoCycle is before) h);
      freed = λ h _. absurd (subst HasNoCycle h before);
      answers = λ h. absurd (apart Answer (λ u. u) h);
    }

pub no_entry_stands : (unswept : Bool) (last next : Kind) → HasNoCycle last → entry_of unswept last next ≡ None
no_entry_stands unswept Run next none = refl
no_entry_stands unswept Promote next none = refl
no_entry_stands unswept Reset next none = refl
no_entry_stands unswept _ next none = absurd none
