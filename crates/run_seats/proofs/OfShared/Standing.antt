-- What stays of a domain of which a command was made at once, or put off.
use Rattle.std.proofs.Common.{◌≡◌, ◌∙◌, ◌&&◌, ℕ, Bool, true, false, eq-eqb, List, [], length, Option, Some, None, sym, refl, ap, subst, arith}
use Rattle.std.specs.Prelude.{◌==◌}
use Rattle.model_core.specs.declared.command.Command as model
use Rattle.model_core.specs.declared.command.Command.TheVariants.{Finalise, FinaliseLast}
use Rattle.model_core.specs.declared.reply.Reply.{Reply}
use Rattle.heap_rule.specs.declared.view.Finalisers.{Finalisers}
use Rattle.heap_rule.specs.declared.view.Own.{Own}
use Rattle.heap_rule.specs.Token.{SharedHeap}
use Rattle.run_turns.specs.declared.supply.Supply.{Supply}
use Rattle.run_turns.specs.declared.supply.Supply.TheVariants.{Listed, Open, Section, Closed}
use Rattle.run_turns.specs.Runs.{HasLooked, MakesNow, MaySubmit, NowAnswers, RunView}
use Rattle.run_turns.specs.Singly.Driving.{registered}
use Rattle.run_turns.specs.Tries.{enlisted_by, registrations_of}
use Rattle.run_turns.proofs.AtOnce.{HasWaited, has_waited}
use Rattle.step_finalisers.specs.Registering.{count_of}
use Rattle.std.proofs.lemmas.Bool.{eqb-true}
use Rattle.run_seats.specs.declared.shared.standing.Standing.{Standing}
use Rattle.run_seats.specs.Shared.Sharing.{MayClose, SharedView}
use Rattle.run_seats.specs.Shared.Standing.{is_open, standing_of, waits_in}

-- a command that registers none leaves the finalisers as they are
none_enlisted : (c : model.Command) (o : Own) → registrations_of c ≡ 0 → enlisted_by c o ≡ o.finalisers
none_enlisted (Finalise item number dst) o none = absurd (omega (arith, none))
none_enlisted (FinaliseLast item number) o none = absurd (omega (arith, none))
none_enlisted c o none = refl

-- an open run whose last command is done waits
open_waits : (s : Supply) (n m : ℕ) → s ≡ Open → n ≡ m → (is_open s && (n == m)) ≡ true
open_waits s n m is done = ap (λ (t : Supply). is_open t && (n == m)) is ∙ eq-eqb n m done

module _ (h : SharedHeap) (old new : RunView) (c : model.Command) where
  abbrev of : RunView → SharedView
  of r = record { heap = h; run = r }

  stands_as : waits_in new ≡ waits_in old → registered new ≡ registered old → new.ran ≡ old.ran → standing_of (of new) ≡ standing_of (of old)
  stands_as waits listed ran = λ i. record { heap = h; waits = waits i; registered = listed i; ran = ran i }

  waited : HasWaited old new → standing_of (of new) ≡ standing_of (of old)
  waited w = stands_as (ap waits_in w.run) w.listed (ap (λ (r : RunView). r.ran) w.run)

  made : (r : Reply) → registrations_of c ≡ 0 → MaySubmit old c → MakesNow h old new c r → standing_of (of new) ≡ standing_of (of old)
  made r none may m =
      let cleared = m.made.0 in
      let listed = ap (λ (o : Own). o.finalisers) m.made.1.own ∙ none_enlisted c old.token.view.own none in
      stands_as
      (ap waits_in cleared ∙ (open_waits old.supply 0 0 may.more refl ∙ sym (open_waits old.supply old.next (length old.commands) may.more may.done)))
      (ap (λ (f : Finalisers). count_of f) listed)
      (ap (λ (r : RunView). r.ran) cleared)

  -- it stands as it did
  pub now_stands : (o : Option Reply) → registrations_of c ≡ 0 → MaySubmit old c → NowAnswers h old new c o → standing_of (of new) ≡ standing_of (of old)
  now_stands None none may off = waited (has_waited h old new c off)
  now_stands (Some r) none may m = made r none may m

-- where a run waits, it may be closed
true_parts : (s : Supply) (b : Bool) → (is_open s && b) ≡ true → (s ≡ Open) × (b ≡ true)
true_parts Open b is = (refl, is)
true_parts Listed b is = let clash : false ≡ true = is in cc
true_parts Section b is = let clash : false ≡ true = is in cc
true_parts Closed b is = let clash : false ≡ true = is in cc

waits_may : (s : SharedView) → waits_in s.run ≡ true → MayClose s
waits_may s waits = let parts = true_parts s.run.supply (s.run.next == length s.run.commands) waits in record { is_open = parts.0; done = eqb-true s.run.next (length s.run.commands) parts.1 }

-- one that stands as it did waits for its next command still
pub ready_on : (old new : SharedView) → standing_of new ≡ standing_of old → MayClose old → MayClose new
ready_on old new same may = waits_may new (ap (λ (t : Standing). t.waits) same ∙ open_waits old.run.supply old.run.next (length old.run.commands) may.is_open may.done)

-- and so it does where a register was looked at
pub looked_stands : (h : SharedHeap) (old new : RunView) → HasLooked old new → standing_of (record { heap = h; run = new }) ≡ standing_of (record { heap = h; run = old })
looked_stands h old new l = ap (λ (r : RunView). standing_of (record { heap = h; run = r })) l.run
