use Rattle.std.proofs.Common.{◌≡◌, ◌∙◌, ap, subst, sym}
use Rattle.heap_rule.specs.Limits.{sizes_in}
use Rattle.heap_rule.specs.Token.{SharedHeap}
use Rattle.run_seats.specs.Seating.{SeatView, ran_since}
use Rattle.weak_laws.specs.Maps.Calls.{PerformedBy}
use Rattle.run_session.specs.Domains.Seated.{SeatedView}
use Rattle.run_session.proofs.OfDomains.Performs.{registers_none}
use Rattle.run_session.proofs.OfDomains.Seats.{performs, stands_again}
use Rattle.run_session.proofs.domains.seat.SeatDomainMachine.perform.Goals as goal

pub invariant_of-self : goal.invariant_of-self
invariant_of-self g c =
    let old : SeatView = c.self.inside.seat in
    let new : SeatView = c.perform.new.self in
    let p = c.perform.ensures in
    let was = c.self.invariant.0 in
    let heap : new.heap ≡ old.heap = ap (λ (v : SeatView). v.heap) p.same in
    let number : new.number ≡ old.number = ap (λ (v : SeatView). v.number) p.same in
    let pool = ap (λ (v : SeatView). v.pool) p.same in (
      record {
        here = record { heap = heap ∙ was.here.heap; pool = pool ∙ was.here.pool };
        stands = stands_again old new c.args.c (ran_since old new) c.perform.result (record { heap = heap; number = number }) was.stands (registers_none c.args.c c.requires.fits) p.labels p.performed.performed;
      },
      subst (λ (h : SharedHeap). c.self.inside.domains ≡ h.config.domains) (sym heap) c.self.invariant.1,
    )

pub returns-clause-performed : goal.returns-clause-performed
returns-clause-performed g c =
    let old : SeatView = c.self.inside.seat in
    let new : SeatView = c.perform.new.self in
    let was = c.self.invariant.0.stands in
    subst (λ (v : SeatedView). PerformedBy (sizes_in v.seat.heap.config) v.seat.number v.seat.front new.front c.args.c c.perform.result) c.self.view_is
    (performs (sizes_in old.heap.config) old.number old.front new.front c.args.c (ran_since old new) c.perform.result was.legal was.unregistered c.perform.ensures.performed.performed)
