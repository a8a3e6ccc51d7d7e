use Rattle.std.proofs.Common.{◌≡◌, ◌∙◌, ◌≤◌, ap, sym, subst, arith}
use Rattle.run_turns.specs.Singly.Counting.{stats_of}
use Rattle.run_seats.specs.Pool.Keeping.{KeeperView}
use Rattle.run_seats.specs.declared.idle.Idle.{Idle}
use Rattle.run_seats.specs.Shared.Idling.{finals_of}
use Rattle.run_seats.specs.Idling.{KeepsHeap}
use Rattle.run_seats.specs.Seating.{GoesAlong, SeatView, seat_with}
use Rattle.run_seats.proofs.Seated.{along, idle_after, seat_again, sits}
use Rattle.run_seats.proofs.seat.Seat.attend.Goals as goal

pub attend_calls-requires-clause-idle : goal.attend_calls-requires-clause-idle
attend_calls-requires-clause-idle g c = (sits c.seats.inside.heap c.seats.inside.pool c.self.inside.run c.self.inside.keeper _ _ c.self.invariant c.self.view_is c.seats.view_is c.requires.here).idle

pub attend_calls-requires-clause-pool : goal.attend_calls-requires-clause-pool
attend_calls-requires-clause-pool g c = (sits c.seats.inside.heap c.seats.inside.pool c.self.inside.run c.self.inside.keeper _ _ c.self.invariant c.self.view_is c.seats.view_is c.requires.here).in_pool

pub attend_calls-requires-clause-keeps : goal.attend_calls-requires-clause-keeps
attend_calls-requires-clause-keeps g c = (sits c.seats.inside.heap c.seats.inside.pool c.self.inside.run c.self.inside.keeper _ _ c.self.invariant c.self.view_is c.seats.view_is c.requires.here).keeps

pub returns-clause-same : goal.returns-clause-same
returns-clause-same g c =
    let heap = c.seats.inside.heap in
    let r = c.self.inside.run in
    let n = c.attend_calls.new.run in
    let s = sits heap c.seats.inside.pool r c.self.inside.keeper _ _ c.self.invariant c.self.view_is c.seats.view_is c.requires.here in
    let pool = ap (λ (k : KeeperView Idle). k.pool) c.attend_calls.ensures.same in
    ap (λ p. seat_with p n) pool ∙ subst (λ (v : SeatView). seat_with c.self.inside.keeper.pool n ≡ record v { front = n.token.view.seen.front; room = n.token.view.own.ephemerons.room; finals = finals_of n; stats = stats_of n.token.view.own; ran = n.ran }) c.self.view_is (idle_after heap c.self.inside.keeper.pool r n s.here c.attend_calls.ensures.idle.here c.attend_calls.ensures.stays)

pub returns-clause-along : goal.returns-clause-along
returns-clause-along g c = subst (λ (v : SeatView). GoesAlong v (seat_with c.attend_calls.new.keeper.pool c.attend_calls.new.run)) c.self.view_is (along c.self.inside.keeper.pool c.attend_calls.new.keeper.pool c.self.inside.run c.attend_calls.new.run c.attend_calls.ensures.stays)

pub returns-clause-room : goal.returns-clause-room
returns-clause-room g c = subst (λ (v : SeatView). v.room ≤ c.attend_calls.new.run.token.view.own.ephemerons.room) c.self.view_is (let more = c.attend_calls.ensures.stays.takes.room in omega (arith, more))

pub invariant_of-self : goal.invariant_of-self
invariant_of-self g c =
    let s = sits c.seats.inside.heap c.seats.inside.pool c.self.inside.run c.self.inside.keeper _ _ c.self.invariant c.self.view_is c.seats.view_is c.requires.here in
    seat_again c.seats.inside.heap c.attend_calls.new.run c.attend_calls.new.keeper c.attend_calls.ensures.idle (subst (λ (k : KeeperView Idle). KeepsHeap c.seats.inside.heap k.rests) (sym c.attend_calls.ensures.same) s.keeps)
