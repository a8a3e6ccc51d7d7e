-- What the clauses of seats refuse.
use Rattle.std.proofs.Common.{◌≡◌, ◌∙◌, ℕ, zero, suc, List, [], ◌∷◌, length, ap, sym, subst, drop, Some}
use Rattle.std.specs.Prelude.{IsTrue, slice_get}
use Rattle.std.specs.List.{list_any}
use Rattle.model_core.specs.declared.entry.Entry.{Entry}
use Rattle.model_core.specs.declared.reply.Reply.{Reply}
use Rattle.model_core.specs.declared.state.Sizes.{Sizes}
use Rattle.model_core.specs.History.{commands, replies}
use Rattle.heap_rule.specs.Limits.{sizes_in}
use Rattle.run_seats.specs.Seating.{GoesAlong, SeatView}
use Rattle.run_seats.specs.Stopping.{Stops, StopsEach}
use Rattle.run_turns.specs.Runs.{is_end_of}
use Rattle.run_seats.proofs.Seated.{behind}

-- what a seat tells of finalisers that ran while it rested is what the history has of them, in order: a body that drops the reply of one, or tells it twice, is refused
pub what_ran_is_told : (old new : SeatView) → GoesAlong old new → drop (length old.ran) new.ran ≡ drop (length (replies (sizes_in old.heap.config) old.front old.number)) (replies (sizes_in old.heap.config) new.front old.number)
what_ran_is_told old new g =
    let told = ap (λ (rs : List Reply). drop (length old.ran) rs) g.ran ∙ behind old.ran g.more in
    let before = replies (sizes_in old.heap.config) old.front old.number in
    let ran = ap (λ (rs : List Reply). drop (length before) rs) g.replies_are ∙ behind before g.more in
    told ∙ sym ran

stops_at : (z : Sizes) (h : List Entry) (ss : List SeatView) (i : ℕ) (s : SeatView) → StopsEach z h ss → slice_get ss i ≡ Some s → Stops z h s
stops_at z h [] i s each at = cc
stops_at z h (x ∷ ss) zero s each at = let same : x ≡ s = cc in subst (Stops z h) same each.0
stops_at z h (x ∷ ss) (suc i) s each at = stops_at z h ss i s each.1 at

-- the trace of each seat that was handed in has ended: a body that stops the heap before all have ended is refused
pub no_trace_is_left_open : (z : Sizes) (h : List Entry) (ss : List SeatView) (i : ℕ) (s : SeatView) → StopsEach z h ss → slice_get ss i ≡ Some s → IsTrue (list_any (is_end_of s.number) h)
no_trace_is_left_open z h ss i s each at = (stops_at z h ss i s each at).ended

-- each of its commands is in the history, and no other: a body that drops the last one is refused
pub no_command_is_lost : (z : Sizes) (h : List Entry) (ss : List SeatView) (i : ℕ) (s : SeatView) → StopsEach z h ss → slice_get ss i ≡ Some s → commands h s.number ≡ commands s.front s.number
no_command_is_lost z h ss i s each at = (stops_at z h ss i s each at).commands_are
