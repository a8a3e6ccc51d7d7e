use Rattle.heap_rule.specs.declared.view.Own.{Own}
use Rattle.heap_rule.specs.Views.{opening_view, pending_room}
use Rattle.heap_rule.proofs.Looks.{first_seat, empty_list}
use Rattle.heap_rule.proofs.domain.Domain.make.Goals as goal

pub invariant_of-result : goal.invariant_of-result
invariant_of-result c =
    let k = c.args.config.now in
    let opening : Own = (opening_view k c.args.number).own in
    let own : Own = record opening { remembered = c.in_ok-remembered.remembered; pending = c.in_ok-pending.pending; ephemerons = c.in_ok-ephemerons.ephemerons; finalisers = record { finals = c.in_ok-finals.finals; lasts = c.in_ok-lasts.lasts; queue = c.in_ok-queue.queue } } in
    let remembered = empty_list c.in_ok-remembered.remembered k.minor_words c.in_ok-remembered.ensures.empty c.in_ok-remembered.ensures.room in
    let pending = empty_list c.in_ok-pending.pending (pending_room k) c.in_ok-pending.ensures.empty c.in_ok-pending.ensures.room in
    let ephemerons = empty_list c.in_ok-ephemerons.ephemerons k.ephes c.in_ok-ephemerons.ensures.empty c.in_ok-ephemerons.ensures.room in
    let finals = empty_list c.in_ok-finals.finals k.finals c.in_ok-finals.ensures.empty c.in_ok-finals.ensures.room in
    let lasts = empty_list c.in_ok-lasts.lasts k.finals c.in_ok-lasts.ensures.empty c.in_ok-lasts.ensures.room in
    let queue = empty_list c.in_ok-queue.queue k.finals c.in_ok-queue.ensures.empty c.in_ok-queue.ensures.room in
    first_seat k c.args.number own c.args.seat.me (λ i. record opening { remembered = remembered i; pending = pending i; ephemerons = ephemerons i; finalisers = record { finals = finals i; lasts = lasts i; queue = queue i } }) c.requires.seat c.requires.limits c.requires.inside
