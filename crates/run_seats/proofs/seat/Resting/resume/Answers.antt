use Rattle.std.proofs.Common.{◌≡◌, ◌∙◌, ◌≤◌, ap, sym, subst, arith}
use Rattle.run_turns.specs.Singly.Counting.{stats_of}
use Rattle.run_seats.specs.Pool.Keeping.{KeeperView}
use Rattle.run_seats.specs.declared.idle.Idle.{Idle}
use Rattle.run_seats.specs.Shared.Idling.{finals_of}
use Rattle.run_seats.specs.Idling.{KeepsHeap}
use Rattle.run_seats.specs.Seating.{GoesAlong, SeatView, seat_with}
use Rattle.run_seats.proofs.Seated.{along, dozes, idle_after, seat_again}
use Rattle.run_seats.proofs.seat.Resting.resume.Goals as goal

pub resume-run-requires-clause-pool : goal.resume-run-requires-clause-pool
resume-run-requires-clause-pool g c = (dozes c.seats.inside.heap c.seats.inside.pool c.self.inside.keeper _ _ c.self.invariant c.self.view_is c.seats.view_is c.requires.here).in_pool

pub resume-run-requires-clause-keeps : goal.resume-run-requires-clause-keeps
resume-run-requires-clause-keeps g c =
    let d = dozes c.seats.inside.heap c.seats.inside.pool c.self.inside.keeper _ _ c.self.invariant c.self.view_is c.seats.view_is c.requires.here in
    (d.last, d.rests, d.idle)

pub returns-clause-same : goal.returns-clause-same
returns-clause-same g c =
    let heap = c.seats.inside.heap in
    let n = c.resume-run.result.run in
    let d = dozes heap c.seats.inside.pool c.self.inside.keeper _ _ c.self.invariant c.self.view_is c.seats.view_is c.requires.here in
    let stays = c.resume-run.ensures.follows d.last d.rests in
    let pool = ap (λ (k : KeeperView Idle). k.pool) c.resume-run.ensures.same in
    ap (λ p. seat_with p n) pool ∙ subst (λ (v : SeatView). seat_with c.self.inside.keeper.pool n ≡ record v { front = n.token.view.seen.front; room = n.token.view.own.ephemerons.room; finals = finals_of n; stats = stats_of n.token.view.own; ran = n.ran }) d.seat (idle_after heap c.self.inside.keeper.pool d.last.run n d.idle.here c.resume-run.ensures.here.here stays)

pub returns-clause-along : goal.returns-clause-along
returns-clause-along g c =
    let d = dozes c.seats.inside.heap c.seats.inside.pool c.self.inside.keeper _ _ c.self.invariant c.self.view_is c.seats.view_is c.requires.here in
    subst (λ (v : SeatView). GoesAlong v (seat_with c.resume-run.new.keeper.pool c.resume-run.result.run)) d.seat (along c.self.inside.keeper.pool c.resume-run.new.keeper.pool d.last.run c.resume-run.result.run (c.resume-run.ensures.follows d.last d.rests))

pub returns-clause-room : goal.returns-clause-room
returns-clause-room g c =
    let d = dozes c.seats.inside.heap c.seats.inside.pool c.self.inside.keeper _ _ c.self.invariant c.self.view_is c.seats.view_is c.requires.here in
    subst (λ (v : SeatView). v.room ≤ c.resume-run.result.run.token.view.own.ephemerons.room) d.seat (let more = (c.resume-run.ensures.follows d.last d.rests).takes.room in omega (arith, more))

pub invariant_of-result : goal.invariant_of-result
invariant_of-result g c =
    let heap = c.seats.inside.heap in
    let d = dozes heap c.seats.inside.pool c.self.inside.keeper _ _ c.self.invariant c.self.view_is c.seats.view_is c.requires.here in
    seat_again heap c.resume-run.result.run c.resume-run.new.keeper c.resume-run.ensures.here (subst (λ (k : KeeperView Idle). KeepsHeap heap k.rests) (sym c.resume-run.ensures.same) (d.last, d.rests, d.idle))
