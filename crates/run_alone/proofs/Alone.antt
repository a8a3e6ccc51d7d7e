-- A heap's only domain meets nobody as it looks at the barrier.
use Rattle.std.proofs.Common.{◌≡◌, ◌≢◌, ◌<◌, ◌^◌, ◌∷◌, ℕ, zero, suc, List, [], Option, None, arith, refl, sym, subst}
use Rattle.heap_rule.specs.Token.{SharedHeap, IsIn}
use Rattle.gc_pause.specs.declared.phases.decider.Decider.{Decider}
use Rattle.run_turns.specs.declared.turned.Turned.TheVariants.{Did}
use Rattle.run_turns.specs.Meeting.{HasRun, MayPassAmong, PassesAmong}
use Rattle.run_turns.specs.Runs.{IsRun, PassesOn, RunView}
use Rattle.run_turns.proofs.MeetingLemmas.{seeing_is_run}
use Rattle.run_alone.specs.Lone.{PassesAlone}

-- no run is there
none_there : (d : ℕ) (r : RunView) → HasRun (None ∷ []) d r → ⊥
none_there zero r there = cc
none_there (suc d) r there = cc

pub may_pass : (h : SharedHeap) (r : RunView) → h.config.domains ≡ 1 → r.left ≢ None → r.token.view.own.arrivals < 2 ^ 60 → MayPassAmong h r (None ∷ [])
may_pass h r alone arrived few = record {
  arrived = arrived;
  few = few;
  here = λ d q there. absurd (none_there d q there);
  all = record { count = sym alone; at = 0; away = refl; there = λ d within other. absurd (omega (arith, within, other)) };
  least = λ d q there. absurd (none_there d q there);
}

pub passes_alone : (h : SharedHeap) (decider : Decider) (r s : RunView) (others after : List (Option RunView)) → IsIn r.token h → IsRun r → PassesAmong h decider r s others after → PassesAlone h decider r s
passes_alone h decider r s others after here is p =
    let m = p.all_met in record {
      history = m.history;
      begins = m.own.trails.begins;
      met = seeing_is_run h r m.history here is m.own.trails.begins;
      passes = subst (λ (q : RunView). PassesOn h decider q s Did) m.own_is p.passes;
    }
