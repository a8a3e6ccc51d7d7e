-- Bytes spell one replay at most, or have one first fault.
use Rattle.std.proofs.Common.{◌≡◌, ◌⊎◌, Bool, ℕ, ◌<◌, ◌^◌, false, List, drop, None, Some, Ok, Err, IfOk, IfErr, sym, ap, ◌∙◌, subst, ⊎_elim, arith}
use Rattle.std.specs.Prelude.{Result, if◌then◌else◌, nat_lt, ◌*◌}
use Rattle.std.proofs.lemmas.Bool.Decides.{nat_tests}
use Rattle.model_core.specs.declared.command.Command.{Command}
use Rattle.text_script.specs.declared.fault.ScriptFault.{ScriptFault}
use Rattle.text_script.specs.declared.version.Version.TheVariants.{Three}
use Rattle.text_script.specs.Faults.{first_fault}
use Rattle.text_script.specs.Script.{Scripted}
use Rattle.text_script.specs.Spelling.{Spells as SpellsScript}
use Rattle.text_script.proofs.OnlyLemmas.{no_fault, one_script}
use Rattle.model_traces.specs.declared.schedules.items.Item.{Item}
use Rattle.text_script.specs.declared.schedule.text.replay.ReplayFault.{ReplayFault}
use Rattle.text_script.specs.declared.schedule.text.replay.ReplayFault.TheVariants.{Schedule, Script, NotReplayable, Memory}
use Rattle.text_script.specs.Schedule.Text.Replayable.{CanReplay, has_major, pools_of, why_not}
use Rattle.text_script.specs.Schedule.Text.Replays.{CannotReplay, HasFault, IsFirstUnlessMemory, IsTooLong, IsUnlessNoMemory, Replayed, SpellsReplay, WrongSchedule, WrongScript}
use Rattle.text_script.specs.Schedule.Text.Spelling.{Spells}
use Rattle.text_script.proofs.OfSchedule.OfText.OnlyLemmas.{no_other, one_schedule}

module _ (domains : ℕ) (bytes : List ℕ) (small : domains < 2 ^ 32) where
  -- the schedule in front ends at one place
  one_place : (items more : List Item) (place other : ℕ) → Spells domains items place bytes → Spells domains more other bytes → place ≡ other
  one_place items more place other s t = ap (λ (r : List Item × ℕ). r.1) (one_schedule domains (items, place) (more, other) bytes small s t)

  same_items : (items more : List Item) (place other : ℕ) → Spells domains items place bytes → Spells domains more other bytes → items ≡ more
  same_items items more place other s t = ap (λ (r : List Item × ℕ). r.0) (one_schedule domains (items, place) (more, other) bytes small s t)

  -- and one script stands behind it
  same_script : (items more : List Item) (place other : ℕ) (a b : Scripted) → Spells domains items place bytes → Spells domains more other bytes → SpellsScript Three domains a (drop place bytes) → SpellsScript Three domains b (drop other bytes) → a ≡ b
  same_script items more place other a b s t x y =
      one_script Three domains a b (drop place bytes) small x (subst (λ n. SpellsScript Three domains b (drop n bytes)) (sym (one_place items more place other s t)) y)

  -- it has no fault
  no_script_fault : (items more : List Item) (place other : ℕ) (a : Scripted) (f : ScriptFault) → Spells domains items place bytes → Spells domains more other bytes → SpellsScript Three domains a (drop place bytes) → first_fault Three domains (drop other bytes) ≡ Some f → ⊥
  no_script_fault items more place other a f s t x first =
      let none : first_fault Three domains (drop other bytes) ≡ None = ap (λ n. first_fault Three domains (drop n bytes)) (sym (one_place items more place other s t)) ∙ no_fault Three domains a (drop place bytes) small x in
      let clash : None ≡ Some f = sym none ∙ first in cc

-- a script that can be replayed has no reason why not
can_why : (domains pools : ℕ) (script : Scripted) (why : ℕ) → CanReplay domains pools script → why_not domains pools script ≡ Some why → ⊥
can_why domains pools script why can reason =
    let few = can.few in
    let many : Bool = nat_lt pools (2 * pools_of domains script.sections) in
    let enough : many ≡ false = grind (arith, nat_tests, few) in
    let none : why_not domains pools script ≡ None =
    ap (λ b. if b then Some 3 else (if has_major script.sections then Some 1 else (if many then Some 2 else None))) can.no_spawns
    ∙ ap (λ b. if b then Some 1 else (if many then Some 2 else None)) can.no_major ∙ ap (λ b. if b then Some 2 else None) enough in
    let clash : None ≡ Some why = sym none ∙ reason in cc

-- what is spelled so is spelled as one replay, whatever the pools
pub same_replay : (domains pools others : ℕ) (r s : Replayed) (bytes : List ℕ) → domains < 2 ^ 32 → SpellsReplay domains pools r bytes → SpellsReplay domains others s bytes → r ≡ s
same_replay domains pools others r s bytes small x y =
    ap (λ items. record { items = items; script = r.script }) (same_items domains bytes small r.items s.items x.place y.place x.schedule y.schedule)
    ∙ ap (λ script. record { items = s.items; script = script }) (same_script domains bytes small r.items s.items x.place y.place r.script s.script x.schedule y.schedule x.script y.script)

module _ (domains pools : ℕ) (bytes : List ℕ) (small : domains < 2 ^ 32) where
  -- and has no fault
  pub replay_no_fault : (r : Replayed) (e : ReplayFault) → SpellsReplay domains pools r bytes → HasFault domains pools bytes e → ⊥
  replay_no_fault r (Schedule k) x f = no_other domains r.items x.place bytes k small x.schedule f.wrong
  replay_no_fault r (Script fault) x f =
      ⊎_elim (λ (long : IsTooLong bytes fault). let few = x.few in let many = long.many in omega (arith, few, many))
      (λ (w : WrongScript domains bytes fault). no_script_fault domains bytes small r.items w.items x.place w.place r.script fault x.schedule w.schedule x.script w.first) f
  replay_no_fault r (NotReplayable why) x f =
      can_why domains pools r.script why x.can
      (ap (λ (s : Scripted). why_not domains pools s) (same_script domains bytes small r.items f.items x.place f.place r.script f.script x.schedule f.schedule x.script f.spelled) ∙ f.reason)
  replay_no_fault r Memory x f = absurd f

  -- a wrong schedule is no fault of a script
  schedule_or_script : (k : ℕ) (g : ScriptFault) → WrongSchedule domains bytes k → IsTooLong bytes g ⊎ WrongScript domains bytes g → ⊥
  schedule_or_script k g x y =
      ⊎_elim (λ (long : IsTooLong bytes g). let few = x.few in let many = long.many in omega (arith, few, many))
      (λ (w : WrongScript domains bytes g). no_other domains w.items w.place bytes k small w.schedule x.wrong) y

  -- nor is one that can't be replayed
  reason_or_script : (why : ℕ) (g : ScriptFault) → CannotReplay domains pools bytes why → IsTooLong bytes g ⊎ WrongScript domains bytes g → ⊥
  reason_or_script why g x y =
      ⊎_elim (λ (long : IsTooLong bytes g). let few = x.few in let many = long.many in omega (arith, few, many))
      (λ (w : WrongScript domains bytes g). no_script_fault domains bytes small x.items w.items x.place w.place x.script g x.schedule w.schedule x.spelled w.first) y

  one_script_fault : (f g : ScriptFault) → IsTooLong bytes f ⊎ WrongScript domains bytes f → IsTooLong bytes g ⊎ WrongScript domains bytes g → f ≡ g
  one_script_fault f g x y =
      ⊎_elim
      (λ (a : IsTooLong bytes f). ⊎_elim (λ (b : IsTooLong bytes g). a.is ∙ sym b.is) (λ (b : WrongScript domains bytes g). let few = b.few in let many = a.many in absurd (omega (arith, few, many))) y)
      (λ (a : WrongScript domains bytes f). ⊎_elim
      (λ (b : IsTooLong bytes g). let few = a.few in let many = b.many in absurd (omega (arith, few, many)))
      (λ (b : WrongScript domains bytes g).
      let same : Some f ≡ Some g = sym a.first ∙ ap (λ n. first_fault Three domains (drop n bytes)) (one_place domains bytes small a.items b.items a.place b.place a.schedule b.schedule) ∙ b.first in cc)
      y)
      x

  -- bytes have one first fault
  pub one_fault : (e f : ReplayFault) → HasFault domains pools bytes e → HasFault domains pools bytes f → e ≡ f
  one_fault (Schedule k) (Schedule j) x y = let same : Some k ≡ Some j = sym x.wrong ∙ y.wrong in cc
  one_fault (Schedule k) (Script g) x y = absurd (schedule_or_script k g x y)
  one_fault (Schedule k) (NotReplayable why) x y = absurd (no_other domains y.items y.place bytes k small y.schedule x.wrong)
  one_fault (Script f) (Schedule k) x y = absurd (schedule_or_script k f y x)
  one_fault (Script f) (Script g) x y = ap Script (one_script_fault f g x y)
  one_fault (Script f) (NotReplayable why) x y = absurd (reason_or_script why f y x)
  one_fault (NotReplayable why) (Schedule k) x y = absurd (no_other domains x.items x.place bytes k small x.schedule y.wrong)
  one_fault (NotReplayable why) (Script g) x y = absurd (reason_or_script why g x y)
  one_fault (NotReplayable why) (NotReplayable other) x y =
      let same : Some why ≡ Some other =
      sym x.reason ∙ ap (λ (s : Scripted). why_not domains pools s) (same_script domains bytes small x.items y.items x.place y.place x.script y.script x.schedule y.schedule x.spelled y.spelled) ∙ y.reason in cc
  one_fault Memory f x y = absurd x
  one_fault (Schedule k) Memory x y = absurd y
  one_fault (Script g) Memory x y = absurd y
  one_fault (NotReplayable why) Memory x y = absurd y

  -- what was read and what was refused
  pub only_replay : (result : Result Replayed ReplayFault) → IfOk result (λ r. SpellsReplay domains pools r bytes) → IfErr result (IsFirstUnlessMemory domains pools bytes) → (r : Replayed) → SpellsReplay domains pools r bytes → IsUnlessNoMemory result (Ok r)
  only_replay (Ok s) found fault r x = ap Ok (same_replay domains pools pools s r bytes small found x)
  only_replay (Err (Schedule k)) found fault r x = absurd (replay_no_fault r (Schedule k) x fault)
  only_replay (Err (Script f)) found fault r x = absurd (replay_no_fault r (Script f) x fault)
  only_replay (Err (NotReplayable why)) found fault r x = absurd (replay_no_fault r (NotReplayable why) x fault)
  only_replay (Err Memory) found fault r x = tt

  pub replay_refused : (result : Result Replayed ReplayFault) → IfOk result (λ r. SpellsReplay domains pools r bytes) → IfErr result (IsFirstUnlessMemory domains pools bytes) → (e : ReplayFault) → HasFault domains pools bytes e → IsUnlessNoMemory result (Err e)
  replay_refused (Ok s) found fault e x = absurd (replay_no_fault s e found x)
  replay_refused (Err (Schedule k)) found fault e x = ap Err (one_fault (Schedule k) e fault x)
  replay_refused (Err (Script f)) found fault e x = ap Err (one_fault (Script f) e fault x)
  replay_refused (Err (NotReplayable why)) found fault e x = ap Err (one_fault (NotReplayable why) e fault x)
  replay_refused (Err Memory) found fault e x = tt
