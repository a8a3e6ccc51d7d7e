-- What these steps tell of a token's own data: it is what is written, and it fits a token.
use Rattle.std.proofs.Common.{◌≡◌, ℕ, zero, suc, ◌+◌, ◌<◌, ◌≤◌, ◌⊎◌, false, List, [], ◌∷◌, ◌++◌, length, slice_get, option_map, option_and_then, Option, Some, None, sym, refl, ap, ◌∙◌, subst, inl, inr, ⊎_elim, arith, length-append}
use Rattle.std.specs.Prelude.{remove}
use Rattle.model_core.specs.declared.command.Command.TheVariants.{Finalise, FinaliseLast}
use Rattle.model_core.specs.declared.entry.Entry.TheVariants.{Command, Ran}
use Rattle.model_core.specs.declared.reply.Applied.TheVariants.{Replied}
use Rattle.model_core.specs.declared.reply.Reply.TheVariants.{Done}
use Rattle.heap_rule.specs.declared.config.Config.{Config}
use Rattle.heap_rule.specs.declared.view.DomainView.{DomainView}
use Rattle.heap_rule.specs.declared.view.Finalisers.{Finalisers}
use Rattle.heap_rule.specs.declared.view.Held.{Held}
use Rattle.heap_rule.specs.declared.view.Held.TheVariants.{Final, Last, Queue}
use Rattle.heap_rule.specs.declared.view.Own.{Own}
use Rattle.heap_rule.specs.declared.view.Registered.{Registered}
use Rattle.heap_rule.specs.declared.view.RegisteredLast.{RegisteredLast}
use Rattle.heap_rule.specs.declared.view.Waiting.{Waiting}
use Rattle.heap_rule.specs.declared.view.Waiting.TheVariants.{Fin}
use Rattle.heap_rule.specs.Finalisers.{FinalisersFit, address_in, held_at}
use Rattle.heap_rule.specs.Layout.{heap_words}
use Rattle.heap_rule.specs.Raw.{Closes}
use Rattle.heap_rule.specs.Standing.{IsAt}
use Rattle.heap_rule.specs.Token.{Holds, IsAddress, OwnFits}
use Rattle.step_finalisers.specs.Registering.{CanAddFinal, CanAddLast, FinalMay, FinalTold, Finals, LastMay, LastTold, Lasts, with_final, with_last}
use Rattle.step_finalisers.specs.Running.{CanRun, RunMay, RunTold, Runs, ran_own, registers_after}
use Rattle.step_finalisers.proofs.RunSteps.{first_register}
use Rattle.heap_rule.proofs.Fits.{registers_fit}

-- an item of a list that one was added to
pub pushed : {A : Type 0} (xs : List A) (x y : A) (i : ℕ) → slice_get (xs ++ x ∷ []) i ≡ Some y → (slice_get xs i ≡ Some y) ⊎ (x ≡ y)
pushed [] x y zero e = inr (let same : Some x ≡ Some y = e in cc)
pushed [] x y (suc i) e = absurd (let clash : ◌≡◌ {A = Option _} None (Some y) = e in cc)
pushed (z ∷ xs) x y zero e = inl e
pushed (z ∷ xs) x y (suc i) e = pushed xs x y i e

-- an item behind the first
later : {A : Type 0} (xs : List A) (y : A) (i : ℕ) → slice_get (remove xs 0) i ≡ Some y → slice_get xs (suc i) ≡ Some y
later [] y i e = e
later (x ∷ xs) y i e = e

shorter : {A : Type 0} (xs : List A) (x : A) → slice_get xs 0 ≡ Some x → length (remove xs 0) + 1 ≡ length xs
shorter [] x e = absurd (let clash : ◌≡◌ {A = Option _} None (Some x) = e in cc)
shorter (y ∷ ys) x e = omega arith

-- what is at a place
pub got_map : {A : Type 0} (f : A → ℕ) (o : Option A) (a : ℕ) → option_map f o ≡ Some a → (x : A) × (o ≡ Some x) × (f x ≡ a)
got_map f None a e = cc
got_map f (Some x) a e = (x, refl, (let same : Some (f x) ≡ Some a = e in cc))

pub got_address : (o : Option Waiting) (a : ℕ) → option_and_then address_in o ≡ Some a → (w : Waiting) × (o ≡ Some w) × (address_in w ≡ Some a)
got_address None a e = cc
got_address (Some w) a e = (w, refl, e)

in_heap : (k : Config) (a : ℕ) → IsAddress k a → (1 ≤ a) × (a ≤ heap_words k)
in_heap k a at = (at.0, let w : ℕ = heap_words k in let h : a + 2 ≤ w = at.1 in omega arith)

module _ (k : Config) (own : Own) (fits : OwnFits k own) where
  abbrev fs : Finalisers
  fs = own.finalisers

  ff : FinalisersFit k fs
  ff = fits.finalisers

  final_fits : (r : Registered) → length fs.finals.items + length fs.lasts.items + length fs.queue.items < k.finals → IsAddress k r.address → r.register < 16 → FinalisersFit k (with_final r own).finalisers
  final_fits r room address low =
      let more : length (fs.finals.items ++ r ∷ []) ≡ length fs.finals.items + 1 = length-append fs.finals.items (r ∷ []) in
      let n : ℕ = length fs.finals.items in let m : ℕ = length fs.lasts.items in let q : ℕ = length fs.queue.items in let f : ℕ = fs.finals.room in
      let full : f + n ≡ k.finals = ff.finals_room in let some : n + m + q < k.finals = room in let new : length (fs.finals.items ++ r ∷ []) ≡ n + 1 = more in record {
        few = omega arith;
        finals_room = omega arith;
        lasts_room = ff.lasts_room;
        queue_room = ff.queue_room;
        inside = go;
        registers = λ i z got. ⊎_elim (λ old. ff.registers i z old) (λ (same : r ≡ z). subst (λ (w : Registered). w.register < 16) same low) (pushed fs.finals.items r z i got);
        queued_registers = ff.queued_registers;
      }
    where
      go : (h : Held) (a : ℕ) → held_at (with_final r own).finalisers h ≡ Some a → (1 ≤ a) × (a ≤ heap_words k)
      go (Final i) a e =
          let g = got_map (λ (z : Registered). z.address) (slice_get (fs.finals.items ++ r ∷ []) i) a e in
          ⊎_elim (λ (old : slice_get fs.finals.items i ≡ Some g.0). ff.inside (Final i) a (ap (option_map (λ (z : Registered). z.address)) old ∙ ap Some g.2))
          (λ (same : r ≡ g.0). subst (λ (n : ℕ). (1 ≤ n) × (n ≤ heap_words k)) (ap (λ (z : Registered). z.address) same ∙ g.2) (in_heap k r.address address))
          (pushed fs.finals.items r g.0 i g.1)
      go (Last i) a e = ff.inside (Last i) a e
      go (Queue i) a e = ff.inside (Queue i) a e

  last_fits : (r : RegisteredLast) → length fs.finals.items + length fs.lasts.items + length fs.queue.items < k.finals → IsAddress k r.address → FinalisersFit k (with_last r own).finalisers
  last_fits r room address =
      let more : length (fs.lasts.items ++ r ∷ []) ≡ length fs.lasts.items + 1 = length-append fs.lasts.items (r ∷ []) in
      let n : ℕ = length fs.finals.items in let m : ℕ = length fs.lasts.items in let q : ℕ = length fs.queue.items in let f : ℕ = fs.lasts.room in
      let full : f + m ≡ k.finals = ff.lasts_room in let some : n + m + q < k.finals = room in let new : length (fs.lasts.items ++ r ∷ []) ≡ m + 1 = more in record {
        few = omega arith;
        finals_room = ff.finals_room;
        lasts_room = omega arith;
        queue_room = ff.queue_room;
        inside = go;
        registers = ff.registers;
        queued_registers = ff.queued_registers;
      }
    where
      go : (h : Held) (a : ℕ) → held_at (with_last r own).finalisers h ≡ Some a → (1 ≤ a) × (a ≤ heap_words k)
      go (Final i) a e = ff.inside (Final i) a e
      go (Last i) a e =
          let g = got_map (λ (z : RegisteredLast). z.address) (slice_get (fs.lasts.items ++ r ∷ []) i) a e in
          ⊎_elim (λ (old : slice_get fs.lasts.items i ≡ Some g.0). ff.inside (Last i) a (ap (option_map (λ (z : RegisteredLast). z.address)) old ∙ ap Some g.2))
          (λ (same : r ≡ g.0). subst (λ (n : ℕ). (1 ≤ n) × (n ≤ heap_words k)) (ap (λ (z : RegisteredLast). z.address) same ∙ g.2) (in_heap k r.address address))
          (pushed fs.lasts.items r g.0 i g.1)
      go (Queue i) a e = ff.inside (Queue i) a e

  run_fits : (first : Waiting) → slice_get fs.queue.items 0 ≡ Some first → FinalisersFit k (ran_own first own).finalisers
  run_fits first is =
      let less : length (remove fs.queue.items 0) + 1 ≡ length fs.queue.items = shorter fs.queue.items first is in
      let n : ℕ = length fs.finals.items in let m : ℕ = length fs.lasts.items in let q : ℕ = length fs.queue.items in let g : ℕ = length (remove fs.queue.items 0) in let f : ℕ = fs.queue.room in
      let full : f + q ≡ k.finals = ff.queue_room in let some : n + m + q ≤ k.finals = ff.few in let new : g + 1 ≡ q = less in record {
        few = let e : n + m + g ≤ k.finals = omega arith in e;
        finals_room = ff.finals_room;
        lasts_room = ff.lasts_room;
        queue_room = let e : f + 1 + g ≡ k.finals = omega arith in e;
        inside = go;
        registers = ff.registers;
        queued_registers = λ i a b c got. ff.queued_registers (suc i) a b c (later fs.queue.items (Fin a b c) i got);
      }
    where
      go : (h : Held) (a : ℕ) → held_at (ran_own first own).finalisers h ≡ Some a → (1 ≤ a) × (a ≤ heap_words k)
      go (Final i) a e = ff.inside (Final i) a e
      go (Last i) a e = ff.inside (Last i) a e
      go (Queue i) a e = let g = got_address (slice_get (remove fs.queue.items 0) i) a e in ff.inside (Queue (suc i)) a (ap (option_and_then address_in) (later fs.queue.items g.0 i g.1) ∙ g.2)

-- the address in a register
address_at : (k : Config) (x : DomainView) (item a : ℕ) → OwnFits k x.own → IsAt x item a → IsAddress k a
address_at k x item a fits at = fits.registers.inside item a at.few at.holds

pub final_closes : (k : Config) (x : DomainView) (found item : ℕ) (r : Registered) → FinalMay k x item r → Closes k x found (λ z _ y. FinalTold k item r z y) CanAddFinal (Finals r)
final_closes k x found item r may y fits told =
    let own : y.own ≡ with_final r x.own = ap (λ (z : DomainView). z.own) told.view in record {
      can_write = let ff = fits.finalisers in let n : ℕ = length x.own.finalisers.finals.items in let m : ℕ = length x.own.finalisers.lasts.items in let q : ℕ = length x.own.finalisers.queue.items in let f : ℕ = x.own.finalisers.finals.room in
          let full : f + n ≡ k.finals = ff.finals_room in let some : n + m + q < k.finals = may.room in let e : 1 ≤ f = omega arith in e;
      written = λ after wrote. own ∙ sym wrote;
      fits = subst (OwnFits k) (sym own) (registers_fit k x.own x.own.registers (with_final r x.own).finalisers fits.registers (final_fits k x.own fits r may.room (address_at k x item r.address fits may.block) may.few) fits);
      once = λ _. inr (record { entry = Command x.own.number (Finalise item r.number r.register) false; answer = Replied Done; answers = told.answers });
    }

pub last_closes : (k : Config) (x : DomainView) (found item : ℕ) (r : RegisteredLast) → LastMay k x item r → Closes k x found (λ z _ y. LastTold k item r z y) CanAddLast (Lasts r)
last_closes k x found item r may y fits told =
    let own : y.own ≡ with_last r x.own = ap (λ (z : DomainView). z.own) told.view in record {
      can_write = let ff = fits.finalisers in let n : ℕ = length x.own.finalisers.finals.items in let m : ℕ = length x.own.finalisers.lasts.items in let q : ℕ = length x.own.finalisers.queue.items in let f : ℕ = x.own.finalisers.lasts.room in
          let full : f + m ≡ k.finals = ff.lasts_room in let some : n + m + q < k.finals = may.room in let e : 1 ≤ f = omega arith in e;
      written = λ after wrote. own ∙ sym wrote;
      fits = subst (OwnFits k) (sym own) (registers_fit k x.own x.own.registers (with_last r x.own).finalisers fits.registers (last_fits k x.own fits r may.room (address_at k x item r.address fits may.block)) fits);
      once = λ _. inr (record { entry = Command x.own.number (FinaliseLast item r.number) false; answer = Replied Done; answers = told.answers });
    }

pub run_closes : (k : Config) (x : DomainView) (found : ℕ) (first : Waiting) → RunMay k x first → Closes k x found (λ z _ y. RunTold k first z y) (CanRun first) (Runs first)
run_closes k x found first may y fits told =
    let own : y.own ≡ ran_own first x.own = ap (λ (z : DomainView). z.own) told.view in record {
      can_write = (may.is_first, first_register k x first fits may.is_first);
      written = λ after wrote. own ∙ sym wrote;
      fits = subst (OwnFits k) (sym own) (registers_fit k x.own (registers_after first x.own.registers) (ran_own first x.own).finalisers (subst (λ (o : Own). Holds k o.registers) own told.holds) (run_fits k x.own fits first may.is_first) fits);
      once = λ _. inr (record { entry = Ran x.own.number; answer = told.answer; answers = told.answers });
    }
