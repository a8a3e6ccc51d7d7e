-- What the looks at registrations tell of a token's own data: it is what is written, and it fits a token.
use Rattle.std.proofs.Common.{◌≡◌, ◌≢◌, ℕ, zero, suc, ◌+◌, ◌<◌, ◌≤◌, ◌⊎◌, List, [], ◌∷◌, ◌++◌, length, slice_get, option_map, option_and_then, Option, Some, None, sym, ap, ◌∙◌, subst, ⊎_elim, arith, length-append}
use Rattle.std.specs.Prelude.{remove}
use Rattle.model_core.specs.declared.entry.Entry.{Entry}
use Rattle.model_core.specs.declared.entry.Entry.TheVariants.{Queue as QueueOf, Last as LastOf}
use Rattle.heap_rule.specs.declared.config.Config.{Config}
use Rattle.heap_rule.specs.declared.phase.Kind.{Kind}
use Rattle.heap_rule.specs.declared.phase.Kind.TheVariants.{Run, Decide, Lasts}
use Rattle.heap_rule.specs.declared.phase.Stage.{Stage}
use Rattle.heap_rule.specs.declared.phase.Stage.TheVariants.{In}
use Rattle.heap_rule.specs.declared.view.DomainView.{DomainView}
use Rattle.heap_rule.specs.declared.view.Finalisers.{Finalisers}
use Rattle.heap_rule.specs.declared.view.Held.{Held}
use Rattle.heap_rule.specs.declared.view.Held.TheVariants.{Final, Last, Queue}
use Rattle.heap_rule.specs.declared.view.Own.{Own}
use Rattle.heap_rule.specs.declared.view.Registered.{Registered}
use Rattle.heap_rule.specs.declared.view.RegisteredLast.{RegisteredLast}
use Rattle.heap_rule.specs.declared.view.Waiting.{Waiting}
use Rattle.heap_rule.specs.declared.view.Waiting.TheVariants.{Fin, Last as LastWaiting}
use Rattle.heap_rule.specs.Finalisers.{FinalisersFit, address_in, held_at}
use Rattle.heap_rule.specs.Layout.{heap_words}
use Rattle.heap_rule.specs.Raw.{Closes, StepsOnce}
use Rattle.heap_rule.specs.Token.{OwnFits}
use Rattle.step_sweep.specs.Freeing.{IsColoured}
use Rattle.step_finalisers.specs.Looking.{CanQueueFinal, CanQueueLast, FinalLookMay, FinalLookTold, LastLookMay, LastLookTold, Queues, QueuesFinal, QueuesLast, keeping, queued_final, queued_last}
use Rattle.step_finalisers.proofs.LookSteps.{removed_length}
use Rattle.step_finalisers.proofs.Plain.{got_address, got_map, pushed}
use Rattle.heap_rule.proofs.Fits.{registers_fit}

-- an element of a list without the i-th is one of the list
still_there : {A : Type 0} (xs : List A) (i j : ℕ) (y : A) → slice_get (remove xs i) j ≡ Some y → (n : ℕ) × (slice_get xs n ≡ Some y)
still_there [] zero j y e = (j, e)
still_there [] (suc i) j y e = (j, e)
still_there (x ∷ xs) zero j y e = (suc j, e)
still_there (x ∷ xs) (suc i) zero y e = (0, e)
still_there (x ∷ xs) (suc i) (suc j) y e = let t = still_there xs i j y e in (suc t.0, t.1)

-- a domain in a collection doesn't run
not_running : (k : Config) (x y : DomainView) (kind : Kind) → kind ≢ Run → x.seen.stage ≡ In kind → StepsOnce k x y
not_running k x y kind differs stage runs = absurd (let e : ◌≡◌ {A = Stage} (In kind) (In Run) = sym stage ∙ runs in let f : kind ≡ Run = cc in differs f)

module _ (k : Config) (own : Own) (fits : OwnFits k own) where
  abbrev fs : Finalisers
  fs = own.finalisers

  ff : FinalisersFit k fs
  ff = fits.finalisers

  -- the addresses of a queue that has one more
  queue_inside : (w : Waiting) → ((a : ℕ) → address_in w ≡ Some a → (1 ≤ a) × (a ≤ heap_words k)) → (i a : ℕ) → option_and_then address_in (slice_get (fs.queue.items ++ w ∷ []) i) ≡ Some a → (1 ≤ a) × (a ≤ heap_words k)
  queue_inside w new i a e =
      let g = got_address (slice_get (fs.queue.items ++ w ∷ []) i) a e in
      ⊎_elim (λ (old : slice_get fs.queue.items i ≡ Some g.0). ff.inside (Queue i) a (ap (option_and_then address_in) old ∙ g.2))
      (λ (same : w ≡ g.0). new a (ap address_in same ∙ g.2))
      (pushed fs.queue.items w g.0 i g.1)

  final_fits : (i : ℕ) (r : Registered) → slice_get fs.finals.items i ≡ Some r → FinalisersFit k (queued_final i r own).finalisers
  final_fits i r is =
      let w : Waiting = Fin r.address r.number r.register in
      let less : length (remove fs.finals.items i) + 1 ≡ length fs.finals.items = removed_length fs.finals.items i r is in
      let more : length (fs.queue.items ++ w ∷ []) ≡ length fs.queue.items + 1 = length-append fs.queue.items (w ∷ []) in
      let n : ℕ = length fs.finals.items in let m : ℕ = length fs.lasts.items in let q : ℕ = length fs.queue.items in let l : ℕ = length (remove fs.finals.items i) in
      let fr : ℕ = fs.finals.room in let qr : ℕ = fs.queue.room in
      let few : n + m + q ≤ k.finals = ff.few in let fa : fr + n ≡ k.finals = ff.finals_room in let qa : qr + q ≡ k.finals = ff.queue_room in
      let le : l + 1 ≡ n = less in let me : length (fs.queue.items ++ w ∷ []) ≡ q + 1 = more in record {
        few = omega arith;
        finals_room = let e : fr + 1 + l ≡ k.finals = omega arith in e;
        lasts_room = ff.lasts_room;
        queue_room = omega arith;
        inside = go;
        registers = λ j z got. let t = still_there fs.finals.items i j z got in ff.registers t.0 z t.1;
        queued_registers = λ j a b c got. ⊎_elim (λ old. ff.queued_registers j a b c old)
            (λ (same : w ≡ Fin a b c). let here : r.register ≡ c = cc in subst (λ (z : ℕ). z < 16) here (ff.registers i r is))
            (pushed fs.queue.items w (Fin a b c) j got);
      }
    where
      go : (h : Held) (a : ℕ) → held_at (queued_final i r own).finalisers h ≡ Some a → (1 ≤ a) × (a ≤ heap_words k)
      go (Final j) a e =
          let g = got_map (λ (z : Registered). z.address) (slice_get (remove fs.finals.items i) j) a e in
          let t = still_there fs.finals.items i j g.0 g.1 in
          ff.inside (Final t.0) a (ap (option_map (λ (z : Registered). z.address)) t.1 ∙ ap Some g.2)
      go (Last j) a e = ff.inside (Last j) a e
      go (Queue j) a e = queue_inside (Fin r.address r.number r.register) (λ b eb. let same : r.address ≡ b = cc in ff.inside (Final i) b (ap (option_map (λ (z : Registered). z.address)) is ∙ ap Some same)) j a e

  last_fits : (i : ℕ) (r : RegisteredLast) → slice_get fs.lasts.items i ≡ Some r → FinalisersFit k (queued_last i r own).finalisers
  last_fits i r is =
      let w : Waiting = LastWaiting r.number in
      let less : length (remove fs.lasts.items i) + 1 ≡ length fs.lasts.items = removed_length fs.lasts.items i r is in
      let more : length (fs.queue.items ++ w ∷ []) ≡ length fs.queue.items + 1 = length-append fs.queue.items (w ∷ []) in
      let n : ℕ = length fs.finals.items in let m : ℕ = length fs.lasts.items in let q : ℕ = length fs.queue.items in let l : ℕ = length (remove fs.lasts.items i) in
      let lr : ℕ = fs.lasts.room in let qr : ℕ = fs.queue.room in
      let few : n + m + q ≤ k.finals = ff.few in let la : lr + m ≡ k.finals = ff.lasts_room in let qa : qr + q ≡ k.finals = ff.queue_room in
      let le : l + 1 ≡ m = less in let me : length (fs.queue.items ++ w ∷ []) ≡ q + 1 = more in record {
        few = omega arith;
        finals_room = ff.finals_room;
        lasts_room = let e : lr + 1 + l ≡ k.finals = omega arith in e;
        queue_room = omega arith;
        inside = go;
        registers = ff.registers;
        queued_registers = λ j a b c got. ⊎_elim (λ old. ff.queued_registers j a b c old) (λ (same : w ≡ Fin a b c). cc) (pushed fs.queue.items w (Fin a b c) j got);
      }
    where
      go : (h : Held) (a : ℕ) → held_at (queued_last i r own).finalisers h ≡ Some a → (1 ≤ a) × (a ≤ heap_words k)
      go (Final j) a e = ff.inside (Final j) a e
      go (Last j) a e =
          let g = got_map (λ (z : RegisteredLast). z.address) (slice_get (remove fs.lasts.items i) j) a e in
          let t = still_there fs.lasts.items i j g.0 g.1 in
          ff.inside (Last t.0) a (ap (option_map (λ (z : RegisteredLast). z.address)) t.1 ∙ ap Some g.2)
      go (Queue j) a e = queue_inside (LastWaiting r.number) (λ b eb. absurd (let clash : ◌≡◌ {A = Option ℕ} None (Some b) = eb in cc)) j a e

  -- the queue has room where a registration is left
  room_final : (i : ℕ) (r : Registered) → slice_get fs.finals.items i ≡ Some r → 1 ≤ fs.queue.room
  room_final i r is =
      let n : ℕ = length fs.finals.items in let m : ℕ = length fs.lasts.items in let q : ℕ = length fs.queue.items in let qr : ℕ = fs.queue.room in let l : ℕ = length (remove fs.finals.items i) in
      let few : n + m + q ≤ k.finals = ff.few in let qa : qr + q ≡ k.finals = ff.queue_room in let le : l + 1 ≡ n = removed_length fs.finals.items i r is in let e : 1 ≤ qr = omega arith in e

  room_last : (i : ℕ) (r : RegisteredLast) → slice_get fs.lasts.items i ≡ Some r → 1 ≤ fs.queue.room
  room_last i r is =
      let n : ℕ = length fs.finals.items in let m : ℕ = length fs.lasts.items in let q : ℕ = length fs.queue.items in let qr : ℕ = fs.queue.room in let l : ℕ = length (remove fs.lasts.items i) in
      let few : n + m + q ≤ k.finals = ff.few in let qa : qr + q ≡ k.finals = ff.queue_room in let le : l + 1 ≡ m = removed_length fs.lasts.items i r is in let e : 1 ≤ qr = omega arith in e

-- the registration is kept, or it is queued, and what is told is what is written
module _ (k : Config) (x y : DomainView) (marked found : ℕ) (e : Entry) (queued : Own) (told : (IsColoured marked found × (y ≡ keeping x)) ⊎ ((IsColoured marked found → ⊥) × Queues k e queued x y)) where
  written : (after : Own) → ((IsColoured marked found × (after ≡ x.own)) ⊎ ((IsColoured marked found → ⊥) × (after ≡ queued))) → y.own ≡ after
  written after is = ⊎_elim
      (λ (u : IsColoured marked found × (y ≡ keeping x)). ⊎_elim
      (λ (w : IsColoured marked found × (after ≡ x.own)). ap (λ (z : DomainView). z.own) u.1 ∙ sym w.1)
      (λ (w : (IsColoured marked found → ⊥) × (after ≡ queued)). absurd (w.0 u.0))
      is)
      (λ (u : (IsColoured marked found → ⊥) × Queues k e queued x y). ⊎_elim
      (λ (w : IsColoured marked found × (after ≡ x.own)). absurd (u.0 w.0))
      (λ (w : (IsColoured marked found → ⊥) × (after ≡ queued)). ap (λ (z : DomainView). z.own) u.1.view ∙ sym w.1)
      is)
      told

  fits_still : OwnFits k x.own → OwnFits k queued → OwnFits k y.own
  fits_still fits fits' = ⊎_elim
      (λ (u : IsColoured marked found × (y ≡ keeping x)). subst (OwnFits k) (sym (ap (λ (z : DomainView). z.own) u.1)) fits)
      (λ (u : (IsColoured marked found → ⊥) × Queues k e queued x y). subst (OwnFits k) (sym (ap (λ (z : DomainView). z.own) u.1.view)) fits')
      told

pub final_look_closes : (k : Config) (x : DomainView) (found a i marked : ℕ) (r : Registered) → FinalLookMay x a i marked r → Closes k x found (FinalLookTold k i marked r) (CanQueueFinal i r) (QueuesFinal i r marked found)
final_look_closes k x found a i marked r may y fits told = record {
  can_write = (may.registered, room_final k x.own fits i r may.registered);
  written = written k x y marked found (QueueOf x.own.number (i ∷ [])) (queued_final i r x.own) told.told;
  fits = fits_still k x y marked found (QueueOf x.own.number (i ∷ [])) (queued_final i r x.own) told.told fits (registers_fit k x.own x.own.registers (queued_final i r x.own).finalisers fits.registers (final_fits k x.own fits i r may.registered) fits);
  once = not_running k x y Decide (λ e. cc) may.stage;
}

pub last_look_closes : (k : Config) (x : DomainView) (found a i marked : ℕ) (r : RegisteredLast) → LastLookMay x a i marked r → Closes k x found (LastLookTold k i marked r) (CanQueueLast i r) (QueuesLast i r marked found)
last_look_closes k x found a i marked r may y fits told = record {
  can_write = (may.registered, room_last k x.own fits i r may.registered);
  written = written k x y marked found (LastOf x.own.number i) (queued_last i r x.own) told.told;
  fits = fits_still k x y marked found (LastOf x.own.number i) (queued_last i r x.own) told.told fits (registers_fit k x.own x.own.registers (queued_last i r x.own).finalisers fits.registers (last_fits k x.own fits i r may.registered) fits);
  once = not_running k x y Lasts (λ e. cc) may.stage;
}
