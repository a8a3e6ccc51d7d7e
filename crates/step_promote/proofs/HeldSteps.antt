-- A place of the lists of finalisers that has the address of a block that was met gets that of its copy.
use Rattle.std.proofs.Common.{◌≡◌, ℕ, ◌+◌, ◌<◌, ◌≤◌, ◌⊎◌, ⊎_elim, List, length, set, slice_get, option_map, option_and_then, Option, Some, None, sym, refl, ap, ◌∙◌, subst, arith}
use mathlib.Core.Option.{some}
use lib.ListN.{get_elem?}
use Rattle.atomic_table.specs.Table.{keeps}
use Rattle.model_core.specs.declared.entry.Entry.{Entry}
use Rattle.model_core.specs.declared.label.Label.{Label}
use Rattle.model_core.specs.declared.state.Pending.{Pending}
use Rattle.model_core.specs.declared.state.Pending.TheVariants.{Fin as FinPending, Last as LastPending}
use Rattle.model_core.specs.declared.state.State as model
use Rattle.model_core.specs.Domains.{domain_at}
use Rattle.heap_rule.specs.declared.config.Config.{Config}
use Rattle.heap_rule.specs.declared.view.DomainView.{DomainView}
use Rattle.heap_rule.specs.declared.view.Finalisers.{Finalisers}
use Rattle.heap_rule.specs.declared.view.Held.{Held}
use Rattle.heap_rule.specs.declared.view.Held.TheVariants.{Final, Last, Queue}
use Rattle.heap_rule.specs.declared.view.Own.{Own}
use Rattle.heap_rule.specs.declared.view.Registered.{Registered}
use Rattle.heap_rule.specs.declared.view.RegisteredLast.{RegisteredLast}
use Rattle.heap_rule.specs.declared.view.Waiting.{Waiting}
use Rattle.heap_rule.specs.declared.view.Waiting.TheVariants.{Fin as FinWaiting, Last as LastWaiting}
use Rattle.heap_rule.specs.declared.phase.Kind.TheVariants.{Promote}
use Rattle.heap_rule.specs.declared.phase.Stage.TheVariants.{In}
use Rattle.heap_rule.specs.Finalisers.{LivesAt, StandsFinal, StandsLast, StandsWaiting, Enrolled, FinalisersFit, address_in, held_at}
use Rattle.heap_rule.specs.Layout.{heap_words}
use Rattle.heap_rule.specs.Places.{Place, Live, More}
use Rattle.heap_rule.specs.Raw.{MayStep, Closes}
use Rattle.heap_rule.specs.Rule.{state_of, Rule}
use Rattle.heap_rule.specs.Standing.{IsInHeap}
use Rattle.heap_rule.specs.Token.{OwnFits}
use Rattle.heap_rule.specs.Views.{one}
use Rattle.heap_rule.proofs.Fits.{registers_fit}
use Rattle.heap_rule.proofs.Keeps.{Words, my_good, hunter_as, owes_as, unmoved}
use Rattle.heap_rule.proofs.Values.{address_of}
use Rattle.step_promote.specs.Promotion.{Knows, changed_at, waiting_at, with_held, with_finalisers, HeldMoveMay, HeldMoveTold}
use Rattle.step_promote.specs.Writes.{CanMoveHeld, MovesHeld}
use Rattle.step_promote.proofs.HeldPlaces.{mapped_from, chained_from, length_changed, got_changed, paired_changed}
use Rattle.step_promote.proofs.Registers.{promote_once}
use Rattle.step_promote.proofs.Remaking.{keeps_words}
use Rattle.std.proofs.lemmas.Option.{same_Some}

-- the item of a queue that refers to a block refers to it at its copy's address
waiting_moved : (live : Live) (a c : ℕ) → ((l : Label) → LivesAt live a l → LivesAt live c l) → (w : Waiting) (p : Pending) → address_in w ≡ Some a → StandsWaiting live w p → StandsWaiting live (waiting_at c w) p
waiting_moved live a c lives (FinWaiting b n r) (FinPending m l q) is st = (lives l (subst (λ (z : ℕ). LivesAt live z l) (same_Some b a is) st.0), st.1, st.2)
waiting_moved live a c lives (FinWaiting b n r) (LastPending m) is st = st
waiting_moved live a c lives (LastWaiting n) p is st = st

-- where the block lives at its copy's address too, the lists stand for what they stood for
pub enrolled_moved : (live : Live) (s : model.State) (d : ℕ) (fs : Finalisers) (h : Held) (a c : ℕ) → held_at fs h ≡ Some a → ((l : Label) → LivesAt live a l → LivesAt live c l) → Enrolled live s d fs → Enrolled live s d (with_held fs h c)
enrolled_moved live s d fs (Final i) a c is lives e = record {
  finals = paired_changed (StandsFinal live) (λ r. record r { address = c }) fs.finals.items (domain_at s d).finals i
      (λ r f got st. (lives f.label (subst (λ (z : ℕ). LivesAt live z f.label) (same_Some r.address a (sym (ap (option_map (λ q. q.address)) got) ∙ is)) st.0), st.1, st.2)) e.finals;
  lasts = e.lasts;
  queue = e.queue;
}
enrolled_moved live s d fs (Last i) a c is lives e = record {
  finals = e.finals;
  lasts = paired_changed (StandsLast live) (λ r. record r { address = c }) fs.lasts.items (domain_at s d).lasts i
      (λ r f got st. (lives f.label (subst (λ (z : ℕ). LivesAt live z f.label) (same_Some r.address a (sym (ap (option_map (λ q. q.address)) got) ∙ is)) st.0), st.1)) e.lasts;
  queue = e.queue;
}
enrolled_moved live s d fs (Queue i) a c is lives e = record {
  finals = e.finals;
  lasts = e.lasts;
  queue = paired_changed (StandsWaiting live) (waiting_at c) fs.queue.items (domain_at s d).queue i
      (λ w p got st. waiting_moved live a c lives w p (sym (ap (option_and_then address_in) got) ∙ is) st) e.queue;
}

-- an item that is there, or one with the copy's address
waiting_inside : (k : Config) (fs : Finalisers) (c : ℕ) → IsInHeap k c → FinalisersFit k fs → (j a : ℕ) (w x : Waiting) → slice_get fs.queue.items j ≡ Some x → (w ≡ waiting_at c x) ⊎ (w ≡ x) → address_in w ≡ Some a → IsInHeap k a
waiting_inside k fs c inside fit j a w x got from is = ⊎_elim (λ (e : w ≡ waiting_at c x). made x e) (λ (e : w ≡ x). fit.inside (Queue j) a (ap (option_and_then address_in) got ∙ (ap address_in (sym e) ∙ is))) from
  where
    made : (x : Waiting) → w ≡ waiting_at c x → IsInHeap k a
    made (FinWaiting b n r) e = subst (IsInHeap k) (same_Some c a (ap address_in (sym e) ∙ is)) inside
    made (LastWaiting n) e = absurd (let f : ◌≡◌ {A = Option ℕ} None (Some a) = ap address_in (sym e) ∙ is in cc)

waiting_register : (c a n r : ℕ) (w x : Waiting) → ((b m q : ℕ) → x ≡ FinWaiting b m q → q < 16) → (w ≡ waiting_at c x) ⊎ (w ≡ x) → w ≡ FinWaiting a n r → r < 16
waiting_register c a n r w (FinWaiting b m q) few from is = let same : r ≡ q = ⊎_elim (λ (e : w ≡ FinWaiting c m q). let f : FinWaiting c m q ≡ FinWaiting a n r = sym e ∙ is in cc) (λ (e : w ≡ FinWaiting b m q). let f : FinWaiting b m q ≡ FinWaiting a n r = sym e ∙ is in cc) from in subst (λ (z : ℕ). z < 16) (sym same) (few b m q refl)
waiting_register c a n r w (LastWaiting m) few from is = absurd (⊎_elim (λ (e : w ≡ LastWaiting m). let f : LastWaiting m ≡ FinWaiting a n r = sym e ∙ is in cc) (λ (e : w ≡ LastWaiting m). let f : LastWaiting m ≡ FinWaiting a n r = sym e ∙ is in cc) from)

-- the lists fit as before
pub fit_moved : (k : Config) (fs : Finalisers) (h : Held) (c : ℕ) → IsInHeap k c → FinalisersFit k fs → FinalisersFit k (with_held fs h c)
fit_moved k fs (Final i) c inside fit =
    let f : Registered → Registered = (λ r. record r { address = c }) in
    let long : length (changed_at f fs.finals.items i) ≡ length fs.finals.items = length_changed f fs.finals.items i in record {
      few = subst (λ (n : ℕ). n + length fs.lasts.items + length fs.queue.items ≤ k.finals) (sym long) fit.few;
      finals_room = ap (λ (n : ℕ). fs.finals.room + n) long ∙ fit.finals_room;
      lasts_room = fit.lasts_room;
      queue_room = fit.queue_room;
      inside = within;
      registers = λ j r got. let m = got_changed f fs.finals.items i j r got in
          subst (λ (n : ℕ). n < 16) (⊎_elim (λ (e : r ≡ f m.0). ap (λ (z : Registered). z.register) (sym e)) (λ (e : r ≡ m.0). ap (λ (z : Registered). z.register) (sym e)) m.2) (fit.registers j m.0 m.1);
      queued_registers = fit.queued_registers;
    }
  where
    within : (h : Held) (a : ℕ) → held_at (with_held fs (Final i) c) h ≡ Some a → (1 ≤ a) × (a ≤ heap_words k)
    within (Final j) a is =
        let f : Registered → Registered = (λ r. record r { address = c }) in
        let o = mapped_from (λ r. r.address) (slice_get (changed_at f fs.finals.items i) j) a is in
        let m = got_changed f fs.finals.items i j o.0 o.1 in
        ⊎_elim (λ (e : o.0 ≡ f m.0). subst (IsInHeap k) (ap (λ (z : Registered). z.address) (sym e) ∙ o.2) inside)
        (λ (e : o.0 ≡ m.0). fit.inside (Final j) a (ap (option_map (λ r. r.address)) m.1 ∙ ap Some (ap (λ (z : Registered). z.address) (sym e) ∙ o.2))) m.2
    within (Last j) a is = fit.inside (Last j) a is
    within (Queue j) a is = fit.inside (Queue j) a is
fit_moved k fs (Last i) c inside fit =
    let f : RegisteredLast → RegisteredLast = (λ r. record r { address = c }) in
    let long : length (changed_at f fs.lasts.items i) ≡ length fs.lasts.items = length_changed f fs.lasts.items i in record {
      few = subst (λ (n : ℕ). length fs.finals.items + n + length fs.queue.items ≤ k.finals) (sym long) fit.few;
      finals_room = fit.finals_room;
      lasts_room = ap (λ (n : ℕ). fs.lasts.room + n) long ∙ fit.lasts_room;
      queue_room = fit.queue_room;
      inside = within;
      registers = fit.registers;
      queued_registers = fit.queued_registers;
    }
  where
    within : (h : Held) (a : ℕ) → held_at (with_held fs (Last i) c) h ≡ Some a → (1 ≤ a) × (a ≤ heap_words k)
    within (Last j) a is =
        let f : RegisteredLast → RegisteredLast = (λ r. record r { address = c }) in
        let o = mapped_from (λ r. r.address) (slice_get (changed_at f fs.lasts.items i) j) a is in
        let m = got_changed f fs.lasts.items i j o.0 o.1 in
        ⊎_elim (λ (e : o.0 ≡ f m.0). subst (IsInHeap k) (ap (λ (z : RegisteredLast). z.address) (sym e) ∙ o.2) inside)
        (λ (e : o.0 ≡ m.0). fit.inside (Last j) a (ap (option_map (λ r. r.address)) m.1 ∙ ap Some (ap (λ (z : RegisteredLast). z.address) (sym e) ∙ o.2))) m.2
    within (Final j) a is = fit.inside (Final j) a is
    within (Queue j) a is = fit.inside (Queue j) a is
fit_moved k fs (Queue i) c inside fit =
    let long : length (changed_at (waiting_at c) fs.queue.items i) ≡ length fs.queue.items = length_changed (waiting_at c) fs.queue.items i in record {
      few = subst (λ (n : ℕ). length fs.finals.items + length fs.lasts.items + n ≤ k.finals) (sym long) fit.few;
      finals_room = fit.finals_room;
      lasts_room = fit.lasts_room;
      queue_room = ap (λ (n : ℕ). fs.queue.room + n) long ∙ fit.queue_room;
      inside = within;
      registers = fit.registers;
      queued_registers = λ j a n r got. let m = got_changed (waiting_at c) fs.queue.items i j (FinWaiting a n r) got in
          waiting_register c a n r (FinWaiting a n r) m.0 (λ b z q is. fit.queued_registers j b z q (m.1 ∙ ap Some is)) m.2 refl;
    }
  where
    within : (h : Held) (a : ℕ) → held_at (with_held fs (Queue i) c) h ≡ Some a → (1 ≤ a) × (a ≤ heap_words k)
    within (Queue j) a is =
        let o = chained_from address_in (slice_get (changed_at (waiting_at c) fs.queue.items i) j) a is in
        let m = got_changed (waiting_at c) fs.queue.items i j o.0 o.1 in
        waiting_inside k fs c inside fit j a o.0 m.0 m.1 m.2 o.2
    within (Final j) a is = fit.inside (Final j) a is
    within (Last j) a is = fit.inside (Last j) a is

module _ (k : Config) (s : Words) (r : Rule k s) (id : ℕ) (hist : List Entry) (x : DomainView) (at : get_elem? s.views id ≡ some (one k hist x)) (promotes : x.seen.stage ≡ In Promote) where
  abbrev now : model.State
  now = state_of k r.account.log

  abbrev live : Live
  live = r.account.live

  knows : More (Knows x) live
  knows = (my_good k s r id hist x at).owes.knows

  module _ (h : Held) (copy : ℕ) (may : HeldMoveMay x h copy) where
    abbrev after : DomainView
    after = with_finalisers x (with_held x.own.finalisers h copy)

    -- the block lives at its copy's address too
    lives_there : (l : Label) → LivesAt live may.address l → LivesAt live copy l
    lives_there l there =
        let b = knows may.address may.from may.met in
        let c = knows copy may.to may.there in
        let same : there.0 ≡ b.place = same_Some there.0 b.place (sym there.1 ∙ b.lives) in
        (c.place, c.lives, c.label ∙ (may.label ∙ (sym b.label ∙ (sym (ap (λ (z : Place). z.label) same) ∙ there.2))))

    copy_inside : IsInHeap k copy
    copy_inside = let c = knows copy may.to may.there in let f = address_of k copy c.place (r.whole.placed.fits copy c.place c.lives) in
        (f.0, let w : ℕ = heap_words k in let l : copy + 2 ≤ w = f.1 in let e : copy ≤ w = omega arith in e)

    held_rule : Rule k record { words = s.words; homes = s.homes; views = set s.views id (one k hist after) }
    held_rule =
        let g = my_good k s r id hist x at in
        keeps_words k s r id hist x at promotes x.own.registers after.own.finalisers x.own.prepared x.own.looked x.seen.hunt x.seen.copying
        record { wide = g.stood.wide; each = g.stood.each; serial = g.stood.serial; enrolled = enrolled_moved live now x.own.number x.own.finalisers h may.address copy may.holds lives_there g.stood.enrolled }
        (hunter_as k r.account.tenancy s.words x after refl refl refl refl refl refl refl g.hunter)
        (owes_as k live x after refl refl refl refl g.owes)

pub held_move_may : (k : Config) (x : DomainView) (word : ℕ) (h : Held) (copy : ℕ) → HeldMoveMay x h copy → MayStep k x word (λ n. n) (HeldMoveTold k h copy)
held_move_may k x word h copy may fits slots id hist s r _ at _ =
    let y : DomainView = with_finalisers x (with_held x.own.finalisers h copy) in (
      one k hist y,
      keeps,
      tt,
      unmoved k s word (set s.views id (one k hist y)) (held_rule k s r id hist x at may.stage h copy may),
      (record { view = refl; fit = fit_moved k x.own.finalisers h copy (copy_inside k s r id hist x at may.stage h copy may) fits.finalisers }, refl),
    )

-- it closes where the place was written
pub held_move_closes : (k : Config) (x : DomainView) (found : ℕ) (h : Held) (copy : ℕ) → HeldMoveMay x h copy → Closes k x found (HeldMoveTold k h copy) (CanMoveHeld h) (MovesHeld h copy)
held_move_closes k x found h copy may y fits told =
    let fs : Finalisers = with_held x.own.finalisers h copy in
    let own : y.own ≡ record x.own { finalisers = fs } = ap (λ (z : DomainView). z.own) told.view in
    let fit : FinalisersFit k fs = subst (λ (o : Own). FinalisersFit k o.finalisers) own told.fit in record {
      can_write = (may.address, may.holds);
      written = λ after wrote. own ∙ sym wrote;
      fits = subst (OwnFits k) (sym own) (registers_fit k x.own x.own.registers fs fits.registers fit fits);
      once = promote_once k x y may.stage;
    }
