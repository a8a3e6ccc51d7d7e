use Rattle.std.proofs.Common.{◌≡◌, ◌≢◌, ◌≤◌, length, None, sym, subst}
use Rattle.run_turns.specs.declared.supply.Supply.TheVariants.{Open}
use Rattle.run_turns.specs.Runs.{RunView}
use Rattle.run_turns.specs.Sections.{IsTold}
use Rattle.run_turns.proofs.Turning.{ended_is_run}
use Rattle.run_turns.proofs.turns.end_trace.Goals as goal

pub invariant_of-run : goal.invariant_of-run
invariant_of-run c =
    let whole = subst (λ (x : RunView). length x.commands ≤ x.next) (sym c.run.view_is) c.requires.whole in
    let left = subst (λ (x : RunView). x.left ≡ None) (sym c.run.view_is) c.requires.left in
    let shut = subst (λ (x : RunView). x.supply ≢ Open) (sym c.run.view_is) c.requires.shut in
    let told = subst (λ (x : RunView). IsTold x.place) (sym c.run.view_is) c.requires.told in
    (ended_is_run _ _ _ c.run.invariant.0 shut left whole told c.end.ensures, c.run.invariant.1)
