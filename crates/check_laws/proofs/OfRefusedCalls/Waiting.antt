-- What the clauses of a turn refuse while finalisers wait, beside those of `Turns`.
use Rattle.std.proofs.Common.{◌≡◌, ◌≢◌, ◌∙◌, List, [], ◌∷◌, sym}
use Rattle.heap_rule.specs.declared.view.Waiting.{Waiting}
use Rattle.heap_rule.specs.Token.{Token, SharedHeap}
use Rattle.run_turns.specs.Runs.{EndsTrace, IsAnswered, RunView}

-- a `full_major` isn't answered before the finalisers that the domain owes have run
pub full_major_waits_for_finalisers : (h : SharedHeap) (old new : RunView) → IsAnswered h old new → old.due ≢ 0 → ⊥
full_major_waits_for_finalisers h old new a owes = owes a.waited.paid

-- a trace doesn't end before the queue has run
pub a_trace_ends_behind_its_queue : (h : SharedHeap) (start : Token) (old new : RunView) (first : Waiting) (rest : List Waiting) → EndsTrace h start old new → start.view.own.finalisers.queue.items ≡ first ∷ rest → ⊥
a_trace_ends_behind_its_queue h start old new first rest e waits = let clash : first ∷ rest ≡ [] = sym waits ∙ e.unqueued in cc
