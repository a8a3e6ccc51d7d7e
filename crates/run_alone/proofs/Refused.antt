-- What the clauses of a heap's only domain refuse.
use Rattle.std.proofs.Common.{◌≡◌, ◌≢◌, ◌<◌, true, None, Some, arith, refl, slice_get}
use Rattle.model_core.specs.declared.command.Command.TheVariants.{FullMajor}
use Rattle.heap_rule.specs.Token.{SharedHeap}
use Rattle.gc_pause.specs.declared.phases.decider.Decider.{Decider}
use Rattle.run_turns.specs.Runs.{RunView, run_seeing}
use Rattle.step_finalisers.specs.Registering.{count_of}
use Rattle.run_alone.specs.Lone.{IsLone, OnlyFinalises, PassesAlone, ServesOn, TriesOn}
use Rattle.run_alone.specs.Paces.{steps_left}
use Rattle.run_alone.proofs.Paces.{nearer}
use Rattle.run_alone.proofs.Walking.{zeroth}

-- a step in a pause leaves fewer steps of it than before: a body of `pause` whose step leaves the run where it stood is refused
pub no_step_stands_still : (h : SharedHeap) (decider : Decider) (r : RunView) → IsLone h r → r.left ≢ None → PassesAlone h decider r r → ⊥
no_step_stands_still h decider r l gone p =
    let less : steps_left h.config r < steps_left h.config r = nearer h decider (run_seeing r p.history) r p.met (zeroth h r l) gone p.passes in
    omega (arith, less)

-- a finaliser that runs is one fewer: a body of `perform` that turns for ever between two pauses is refused
pub no_finaliser_runs_for_ever : (r : RunView) → OnlyFinalises r r → ⊥
no_finaliser_runs_for_ever r f = let less : count_of r.token.view.own.finalisers < count_of r.token.view.own.finalisers = f.fewer in omega (arith, less)

-- an allocation that was refused isn't refused behind the complete collection that came for it: a body that asks for one again is refused
pub no_refusal_behind_a_refusal : (h : SharedHeap) (old mid new : RunView) → ServesOn h true old mid → mid.next ≡ old.next → TriesOn h mid new → new.next ≢ old.next
no_refusal_behind_a_refusal h old mid new s same t = λ still. t.made (s.served same) (s.full refl same) (s.counts refl same) (let e = still in omega (arith, e, same))

-- nor does a `full_major` wait for a second one
pub no_full_major_waits_again : (h : SharedHeap) (old mid : RunView) → ServesOn h true old mid → slice_get mid.commands mid.next ≡ Some FullMajor → mid.next ≢ old.next
no_full_major_waits_again h old mid s at = λ same. s.full refl same at
