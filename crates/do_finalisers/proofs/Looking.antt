-- A domain that goes through its registrations, from the last on.
use Rattle.std.proofs.Common.{◌≡◌, ℕ, suc, false, List, [], ◌∷◌, IsTrue, not, Some, option_map, slice_get, refl, sym, ap, ◌∙◌, subst, ⊎_elim}
use Rattle.model_core.specs.declared.entry.Entry.{Entry}
use Rattle.model_core.specs.declared.entry.Entry.TheVariants.{Queue as QueueEntry, Last as LastEntry}
use Rattle.model_core.specs.Fronts.{IsFrontOf, is_control}
use Rattle.model_core.specs.History.{Legal, is_entry_of}
use Rattle.model_core.proofs.Histories.FrontLemmas.{front_trans}
use Rattle.model_core.specs.Controls.Led.{IsLed}
use Rattle.model_core.proofs.OfControls.Led.{led_push, led_trans}
use Rattle.heap_words.specs.declared.colours.Colours.{Colours}
use Rattle.heap_rule.specs.declared.config.Config.{Config}
use Rattle.heap_rule.specs.declared.phase.Kind.TheVariants.{Decide, Lasts}
use Rattle.heap_rule.specs.declared.phase.Stage.TheVariants.{In}
use Rattle.heap_rule.specs.declared.view.DomainView.{DomainView}
use Rattle.heap_rule.specs.declared.view.Held.TheVariants.{Final, Last}
use Rattle.heap_rule.specs.declared.view.Own.{Own}
use Rattle.heap_rule.specs.declared.view.Registered.{Registered}
use Rattle.heap_rule.specs.declared.view.RegisteredLast.{RegisteredLast}
use Rattle.heap_rule.specs.Limits.{sizes_in}
use Rattle.heap_rule.specs.Standing.{IsInHeap, with_front, with_own}
use Rattle.step_marks.specs.Marking.Looks.{HeldInside}
use Rattle.step_finalisers.specs.Looking.{FinalLookMay, FinalLookTold, LastLookMay, LastLookTold, Queues, keeping, queued_final, queued_last}
use Rattle.do_finalisers.specs.Deciding.{AllDecided, AllLastsDecided, as_waiting, as_waiting_last, deciding}
use Rattle.do_finalisers.proofs.Sorting.{Sorted, next_count, next_old, sorted_all, sorted_kept, sorted_queued}

-- The domain has looked at all registrations of `finalise` but so many
pub record FinalsLooked (k : Config) (colours : Colours) (left : ℕ) (x y : DomainView) : Type 0 where
  pub seen : IsFrontOf x.own.number y.seen.front x.seen.front
  pub led : IsLed x.own.number y.seen.front x.seen.front
  pub legal : Legal (sizes_in k) x.seen.front → Legal (sizes_in k) y.seen.front
  pub view : y ≡ deciding x (record x.own.finalisers { finals = y.own.finalisers.finals; queue = y.own.finalisers.queue }) y
  pub known : y.seen.share.colours ≡ Some colours
  pub sorted : Sorted as_waiting x.own.finalisers.finals.items y.own.finalisers.finals.items x.own.finalisers.queue.items y.own.finalisers.queue.items left y.seen.share.kept

-- and of `finalise_last`
pub record LastsLooked (k : Config) (colours : Colours) (left : ℕ) (x y : DomainView) : Type 0 where
  pub seen : IsFrontOf x.own.number y.seen.front x.seen.front
  pub led : IsLed x.own.number y.seen.front x.seen.front
  pub legal : Legal (sizes_in k) x.seen.front → Legal (sizes_in k) y.seen.front
  pub view : y ≡ deciding x (record x.own.finalisers { lasts = y.own.finalisers.lasts; queue = y.own.finalisers.queue }) y
  pub known : y.seen.share.colours ≡ Some colours
  pub sorted : Sorted as_waiting_last x.own.finalisers.lasts.items y.own.finalisers.lasts.items x.own.finalisers.queue.items y.own.finalisers.queue.items left y.seen.share.kept

-- a front with an entry of the collector more
grown : (k : Config) (e : Entry) (own : Own) (d : ℕ) (front : List Entry) (y z : DomainView) → is_entry_of d e ≡ false → y.own.number ≡ d → IsFrontOf d y.seen.front front → Queues k e own y z → IsFrontOf d z.seen.front front
grown k e own d front y z other number seen q =
    let mid : IsFrontOf d q.before y.seen.front = subst (λ (n : ℕ). IsFrontOf n q.before y.seen.front) number q.seen in
    let last : IsFrontOf d z.seen.front q.before = record { rest = e ∷ []; appends = q.front; others = rw other refl } in
    front_trans d z.seen.front q.before front last (front_trans d q.before y.seen.front front mid seen)

-- and with no more of those that domain 0 makes as it leads
grown_led : (k : Config) (e : Entry) (own : Own) (d : ℕ) (front : List Entry) (y z : DomainView) → IsTrue (not (is_control e)) → y.own.number ≡ d → IsFrontOf d y.seen.front front → IsLed d y.seen.front front → Queues k e own y z → IsLed d z.seen.front front
grown_led k e own d front y z other number seen led q =
    let mid : IsFrontOf d q.before y.seen.front = subst (λ (n : ℕ). IsFrontOf n q.before y.seen.front) number q.seen in
    let before : IsLed d q.before front = led_trans d q.before y.seen.front front mid seen (subst (λ (n : ℕ). IsLed n q.before y.seen.front) number q.led) led in
    subst (λ (h : List Entry). IsLed d h front) (sym q.front) (led_push d q.before front e other before)

module _ (k : Config) (colours : Colours) (left : ℕ) (x y : DomainView) (stage : x.seen.stage ≡ In Decide) (inside : HeldInside k x.own.finalisers) (l : FinalsLooked k colours (suc left) x y) (r : Registered) (got : slice_get y.own.finalisers.finals.items left ≡ Some r) where
  -- the next registration is one that the domain had, so its block's address lies in the heap
  pub final_inside : IsInHeap k r.address
  final_inside =
      let had : slice_get x.own.finalisers.finals.items left ≡ Some r = next_old as_waiting x.own.finalisers.finals.items y.own.finalisers.finals.items x.own.finalisers.queue.items y.own.finalisers.queue.items left y.seen.share.kept l.sorted r got in
      inside (Final left) r.address (ap (option_map (λ (q : Registered). q.address)) had)

  pub final_may : FinalLookMay y r.address left colours.marked r
  final_may = record {
    stage = ap (λ (z : DomainView). z.seen.stage) l.view ∙ stage;
    registered = got;
    next = next_count as_waiting x.own.finalisers.finals.items y.own.finalisers.finals.items x.own.finalisers.queue.items y.own.finalisers.queue.items left y.seen.share.kept l.sorted r got;
    address = refl;
    colours = colours;
    known = l.known;
    means = refl;
  }

  pub final_looked : (found : ℕ) (z : DomainView) → FinalLookTold k left colours.marked r y found z → FinalsLooked k colours left x z
  final_looked found z told = ⊎_elim (λ c. stayed c.1) (λ c. queues c.1) told.told where
    stayed : z ≡ keeping y → FinalsLooked k colours left x z
    stayed is = subst (FinalsLooked k colours left x) (sym is) record {
      seen = l.seen;
      led = l.led;
      legal = l.legal;
      view = ap keeping l.view;
      known = l.known;
      sorted = sorted_kept as_waiting x.own.finalisers.finals.items y.own.finalisers.finals.items x.own.finalisers.queue.items y.own.finalisers.queue.items left y.seen.share.kept l.sorted r got;
    }

    queues : Queues k (QueueEntry y.own.number (left ∷ [])) (queued_final left r y.own) y z → FinalsLooked k colours left x z
    queues q =
        let front : List Entry = z.seen.front in
        let number : y.own.number ≡ x.own.number = ap (λ (w : DomainView). w.own.number) l.view in
        subst (FinalsLooked k colours left x) (sym q.view) record {
          seen = grown k _ _ x.own.number x.seen.front y z refl number l.seen q;
          led = grown_led k _ _ x.own.number x.seen.front y z refl number l.seen l.led q;
          legal = λ _. q.legal;
          view = ap (λ (w : DomainView). with_front (with_own w (queued_final left r w.own)) front) l.view;
          known = l.known;
          sorted = sorted_queued as_waiting x.own.finalisers.finals.items y.own.finalisers.finals.items x.own.finalisers.queue.items y.own.finalisers.queue.items left y.seen.share.kept l.sorted r got;
        }

-- once it has looked at all it has decided them
pub finals_decided : (k : Config) (colours : Colours) (x y : DomainView) → FinalsLooked k colours 0 x y → AllDecided k x y
finals_decided k colours x y l =
    let all = sorted_all as_waiting x.own.finalisers.finals.items y.own.finalisers.finals.items x.own.finalisers.queue.items y.own.finalisers.queue.items y.seen.share.kept l.sorted in
    record { seen = l.seen; led = l.led; legal = l.legal; done = all.kept_is; view = l.view; queued = all.queued; queue = all.queue_is; splits = all.splits }

module _ (k : Config) (colours : Colours) (left : ℕ) (x y : DomainView) (stage : x.seen.stage ≡ In Lasts) (inside : HeldInside k x.own.finalisers) (l : LastsLooked k colours (suc left) x y) (r : RegisteredLast) (got : slice_get y.own.finalisers.lasts.items left ≡ Some r) where
  pub last_inside : IsInHeap k r.address
  last_inside =
      let had : slice_get x.own.finalisers.lasts.items left ≡ Some r = next_old as_waiting_last x.own.finalisers.lasts.items y.own.finalisers.lasts.items x.own.finalisers.queue.items y.own.finalisers.queue.items left y.seen.share.kept l.sorted r got in
      inside (Last left) r.address (ap (option_map (λ (q : RegisteredLast). q.address)) had)

  pub last_may : LastLookMay y r.address left colours.marked r
  last_may = record {
    stage = ap (λ (z : DomainView). z.seen.stage) l.view ∙ stage;
    registered = got;
    next = next_count as_waiting_last x.own.finalisers.lasts.items y.own.finalisers.lasts.items x.own.finalisers.queue.items y.own.finalisers.queue.items left y.seen.share.kept l.sorted r got;
    address = refl;
    colours = colours;
    known = l.known;
    means = refl;
  }

  pub last_looked : (found : ℕ) (z : DomainView) → LastLookTold k left colours.marked r y found z → LastsLooked k colours left x z
  last_looked found z told = ⊎_elim (λ c. stayed c.1) (λ c. queues c.1) told.told where
    stayed : z ≡ keeping y → LastsLooked k colours left x z
    stayed is = subst (LastsLooked k colours left x) (sym is) record {
      seen = l.seen;
      led = l.led;
      legal = l.legal;
      view = ap keeping l.view;
      known = l.known;
      sorted = sorted_kept as_waiting_last x.own.finalisers.lasts.items y.own.finalisers.lasts.items x.own.finalisers.queue.items y.own.finalisers.queue.items left y.seen.share.kept l.sorted r got;
    }

    queues : Queues k (LastEntry y.own.number left) (queued_last left r y.own) y z → LastsLooked k colours left x z
    queues q =
        let front : List Entry = z.seen.front in
        let number : y.own.number ≡ x.own.number = ap (λ (w : DomainView). w.own.number) l.view in
        subst (LastsLooked k colours left x) (sym q.view) record {
          seen = grown k _ _ x.own.number x.seen.front y z refl number l.seen q;
          led = grown_led k _ _ x.own.number x.seen.front y z refl number l.seen l.led q;
          legal = λ _. q.legal;
          view = ap (λ (w : DomainView). with_front (with_own w (queued_last left r w.own)) front) l.view;
          known = l.known;
          sorted = sorted_queued as_waiting_last x.own.finalisers.lasts.items y.own.finalisers.lasts.items x.own.finalisers.queue.items y.own.finalisers.queue.items left y.seen.share.kept l.sorted r got;
        }

pub lasts_decided : (k : Config) (colours : Colours) (x y : DomainView) → LastsLooked k colours 0 x y → AllLastsDecided k x y
lasts_decided k colours x y l =
    let all = sorted_all as_waiting_last x.own.finalisers.lasts.items y.own.finalisers.lasts.items x.own.finalisers.queue.items y.own.finalisers.queue.items y.seen.share.kept l.sorted in
    record { seen = l.seen; led = l.led; legal = l.legal; done = all.kept_is; view = l.view; queued = all.queued; queue = all.queue_is; splits = all.splits }
