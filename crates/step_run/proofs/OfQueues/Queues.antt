-- What other domains' calls leave of a domain's queue of finalisers.
use Rattle.std.proofs.Common.{◌≡◌, ◌∙◌, ℕ, List, [], ◌∷◌, IsTrue, refl, ap, sym, subst, true≢false}
use Rattle.std.specs.List.{list_all}
use Rattle.model_core.specs.declared.entry.Entry.{Entry}
use Rattle.model_core.specs.declared.entry.Entry.TheVariants.{Command, End, Cut, Queue, Seal, Wipe, Last, Collected, Done, Ran}
use Rattle.model_core.specs.declared.state.State.{State}
use Rattle.model_core.specs.Domains.{domain_at}
use Rattle.model_core.specs.Entries.{next}
use Rattle.model_core.specs.Fronts.{AreCalls, IsFrontOf, NoneOf, is_call, unseen}
use Rattle.model_core.specs.History.{state_after}
use Rattle.model_core.proofs.Graphs.GraphLemmas.{and_parts}
use Rattle.model_core.proofs.Histories.FrontLemmas.{none_cons, unseen_rest}
use Rattle.model_core.proofs.Histories.HistoryLemmas.{state_after-append}
use Rattle.heap_rule.proofs.FinaliserLemmas.{QueuesNothing, work_next}

-- a call queues nothing
call_queues_nothing : (e : Entry) → IsTrue (is_call e) → QueuesNothing e
call_queues_nothing (Command d c full) is = tt
call_queues_nothing (End d) is = tt
call_queues_nothing (Ran d) is = tt
call_queues_nothing Cut is = tt
call_queues_nothing Seal is = tt
call_queues_nothing (Wipe l keys) is = tt
call_queues_nothing Collected is = tt
call_queues_nothing Done is = tt
call_queues_nothing (Queue d places) is = absurd (true≢false (sym is))
call_queues_nothing (Last d place) is = absurd (true≢false (sym is))

-- so the calls of others leave a domain's queue
pub queue_after_calls : (s : State) (h : List Entry) (d : ℕ) → NoneOf d h → AreCalls h → (domain_at (state_after s h) d).queue ≡ (domain_at s d).queue
queue_after_calls s [] d none calls = refl
queue_after_calls s (e ∷ h) d none calls =
    let others = none_cons d e h none in
    let parts = and_parts (is_call e) (list_all is_call h) calls in
    queue_after_calls (next s e) h d others.1 parts.1 ∙ (work_next s e d others.0 (call_queues_nothing e parts.0)).queue

-- and what a front of a running domain tells of its queue the history does too
pub queue_of_front : (s : State) (d : ℕ) (h front : List Entry) → IsFrontOf d h front → AreCalls (unseen h front) → (domain_at (state_after s h) d).queue ≡ (domain_at (state_after s front) d).queue
queue_of_front s d h front f calls =
    let same : state_after s h ≡ state_after (state_after s front) f.rest = ap (state_after s) f.appends ∙ state_after-append s front f.rest in
    ap (λ (t : State). (domain_at t d).queue) same ∙ queue_after_calls (state_after s front) f.rest d f.others (subst AreCalls (unseen_rest d h front f) calls)
