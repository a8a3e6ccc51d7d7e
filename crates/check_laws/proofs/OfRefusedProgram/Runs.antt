-- Which runs the clauses of the top call refuse.
use Rattle.std.proofs.Common.{◌≡◌, ◌∙◌, ℕ, Option, Some, None, List, ap}
use Rattle.model_core.specs.declared.command.Command.{Command}
use Rattle.model_core.specs.declared.entry.Entry.{Entry}
use Rattle.model_core.specs.declared.state.Sizes.{Sizes}
use Rattle.heap_rule.specs.Ending.{EndedHeap}
use Rattle.camlheap_run.specs.Outcome.{RunsToEnd, WritesRun}

-- no run is done without a heap that has ended
pub no_run_without_a_heap : (z : Sizes) (left_before left_after written_before written_after : Option (List ℕ)) → RunsToEnd z None left_before left_after written_before written_after → ⊥
no_run_without_a_heap z left_before left_after written_before written_after r = let e : None ≡ Some r.writes.ran.past = r.writes.ran.is_past in cc

-- nor by a heap of other sizes than the words ask for
pub no_run_of_another_heap : (z : Sizes) (past : EndedHeap) (left_before left_after written_before written_after : Option (List ℕ)) → RunsToEnd z (Some past) left_before left_after written_before written_after → past.sizes ≡ z
no_run_of_another_heap z past left_before left_after written_before written_after r = let e : Some past ≡ Some r.writes.ran.past = r.writes.ran.is_past in let same : past ≡ r.writes.ran.past = cc in ap (λ (p : EndedHeap). p.sizes) same ∙ r.writes.ran.sizes

-- nor is the summary of a generated script, or any other text of a history
pub no_summary_without_a_heap : (text : Sizes → List Entry → List ℕ) (z : Sizes) (script : List (List Command)) (before after : Option (List ℕ)) → WritesRun text z script None before after → ⊥
no_summary_without_a_heap text z script before after w = let e : None ≡ Some w.ran.past = w.ran.is_past in cc
