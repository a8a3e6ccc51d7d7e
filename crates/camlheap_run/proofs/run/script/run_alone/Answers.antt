use Rattle.std.proofs.Common.{◌≡◌, Some}
use Rattle.std.specs.Prelude.{Option}
use Rattle.heap_rule.specs.Ending.{EndedHeap}
use Rattle.camlheap_run.proofs.RunLemmas.{all_here, all_over}
use Rattle.camlheap_run.proofs.run.script.run_alone.Goals as goal

pub end-requires-clause-here : goal.end-requires-clause-here
end-requires-clause-here g c = all_here c.args.begun.heap c.args.begun.runs.items c.drive-runs.result.items c.drive-runs.ensures.driven

pub end-requires-clause-over : goal.end-requires-clause-over
end-requires-clause-over g c = all_over c.args.begun.heap c.args.begun.runs.items c.drive-runs.result.items c.drive-runs.ensures.driven

pub returns-in-Ok-clause-done : goal.returns-in-Ok-clause-done
returns-in-Ok-clause-done g c = λ ended is.
    let last : ◌≡◌ {A = Option EndedHeap} (Some c.end.result) ended = cc in
    record { new = c.drive-runs.result.items; past = c.end.result; is_past = last; driven = c.drive-runs.ensures.driven; over = c.end.ensures; written = rw (c.deref.ensures.value) at c.in-Ok.ensures.bytes }

pub returns-in-Err-clause-cut : goal.returns-in-Err-clause-cut
returns-in-Err-clause-cut g c = λ ended is.
    let last : ◌≡◌ {A = Option EndedHeap} (Some c.end.result) ended = cc in
    record { new = c.drive-runs.result.items; past = c.end.result; is_past = last; driven = c.drive-runs.ensures.driven; over = c.end.ensures; written = rw (c.deref.ensures.value) at c.in-Err.ensures.bytes }
