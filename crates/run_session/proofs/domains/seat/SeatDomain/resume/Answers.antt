use Rattle.std.proofs.Common.{◌≡◌, ◌∙◌, ◌+◌, ◌++◌, ℕ, ap, refl, subst, sym}
use Rattle.model_core.specs.Counts.Counts.{labels_given}
use Rattle.model_core.specs.declared.command.Command.TheVariants as command
use Rattle.model_core.specs.declared.reply.Reply.TheVariants as reply
use Rattle.heap_rule.specs.Limits.{sizes_in}
use Rattle.run_seats.specs.Seating.{SeatView, ran_since}
use Rattle.weak_laws.specs.Maps.Calls.{PerformedBy}
use Rattle.run_session.proofs.OfDomains.Seats.{Polls, polled, since, stands_again}
use Rattle.run_session.proofs.domains.seat.SeatDomain.resume.Goals as goal

pub new-requires-clause-stands : goal.new-requires-clause-stands
new-requires-clause-stands g c =
    let old : SeatView = c.args.resting in
    let mid : SeatView = c.resume-seat.result in
    let new : SeatView = c.perform-reply.new.self in
    let first = c.resume-seat.ensures in
    let second = c.perform-reply.ensures in
    let heap_then : mid.heap ≡ old.heap = ap (λ (v : SeatView). v.heap) first.same in
    let number_then : mid.number ≡ old.number = ap (λ (v : SeatView). v.number) first.same in
    let heap : new.heap ≡ mid.heap = ap (λ (v : SeatView). v.heap) second.same in
    let number : new.number ≡ mid.number = ap (λ (v : SeatView). v.number) second.same in
    let labels_then : mid.labels ≡ old.labels = ap (λ (v : SeatView). v.labels) first.same in
    let polls : Polls old mid new c.perform-reply.result = record { heap_then = heap_then; number_then = number_then; along = first.along; performed = second.performed.performed } in
    stands_again old new command.Poll (first.along.more ++ ran_since mid new) c.perform-reply.result (record { heap = heap ∙ heap_then; number = number ∙ number_then }) c.requires.stands refl
    (second.labels ∙ ap (λ (n : ℕ). n + labels_given command.Poll c.perform-reply.result) labels_then) (since old mid new c.perform-reply.result polls)

pub returns-clause-polled : goal.returns-clause-polled
returns-clause-polled g c =
    let old : SeatView = c.args.resting in
    let mid : SeatView = c.resume-seat.result in
    let new : SeatView = c.perform-reply.new.self in
    let first = c.resume-seat.ensures in
    let heap_then : mid.heap ≡ old.heap = ap (λ (v : SeatView). v.heap) first.same in
    let number_then : mid.number ≡ old.number = ap (λ (v : SeatView). v.number) first.same in
    let polls : Polls old mid new c.perform-reply.result = record { heap_then = heap_then; number_then = number_then; along = first.along; performed = c.perform-reply.ensures.performed.performed } in
    subst (λ (v : SeatView). PerformedBy (sizes_in old.heap.config) old.number old.front v.front command.Poll reply.Done) (sym c.new.ensures.seat)
    (polled old mid new c.perform-reply.result polls c.requires.stands)
