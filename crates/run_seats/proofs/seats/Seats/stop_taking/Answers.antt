use Rattle.std.proofs.Common.{List, ap, length, sym, subst, arith}
use Rattle.model_core.specs.declared.reply.Reply.{Reply}
use Rattle.model_core.specs.declared.state.Sizes.{Sizes}
use Rattle.heap_rule.specs.Ending.{AllBegin, AllIn}
use Rattle.heap_rule.specs.Token.{Token}
use Rattle.run_seats.specs.declared.closing.Closing.{Closing}
use Rattle.run_seats.specs.Seating.{AllSeatsOf, SeatsView}
use Rattle.run_seats.specs.Stopping.{IsClosedIn, IsOver, StopsEach, TellsEach}
use Rattle.run_seats.proofs.Stopped.{all_from_each, all_in, closed_in, closed_length, stops_each, tells_each, token_length}
use Rattle.run_seats.proofs.seats.Seats.stop_taking.Goals as goal

pub drive_alone-ended-requires : goal.drive_alone-ended-requires
drive_alone-ended-requires g c = record { here = λ i t at. subst (λ (v : SeatsView). IsClosedIn v.heap t.run) (sym c.self.view_is) (closed_in c.args.self c.args.seats.items c.close_all.result.items c.requires.here c.close_all.ensures i t at) }

pub domains_of-requires-clause-over : goal.domains_of-requires-clause-over
domains_of-requires-clause-over g c = all_from_each (λ (t : Closing). IsOver t.run) c.drive_alone-ended.result.items c.drive_alone-ended.ensures.driven.over

pub domains_of-requires-clause-room : goal.domains_of-requires-clause-room
domains_of-requires-clause-room g c =
    let count = c.drive_alone-ended.ensures.driven.count in
    let from = closed_length c.args.seats.items c.close_all.result.items c.close_all.ensures in
    omega (arith, c.in_ok-room.ensures.exact, c.len.ensures, c.args.seats.ok.0, count, from)

pub domains_of-requires-clause-lists : goal.domains_of-requires-clause-lists
domains_of-requires-clause-lists g c =
    let count = c.drive_alone-ended.ensures.driven.count in
    let from = closed_length c.args.seats.items c.close_all.result.items c.close_all.ensures in
    omega (arith, c.in_ok-lists.ensures.exact, c.len-2.ensures, c.args.seats.ok.0, count, from)

pub returns-clause-tells : goal.returns-clause-tells
returns-clause-tells g c =
    let history = c.stop.result.history in
    let inside : SeatsView = record { heap = c.self.inside.heap; pool = c.self.inside.pool } in
    let each = tells_each inside history c.args.seats.items c.close_all.result.items c.drive_alone-ended.result.items (subst (λ (v : SeatsView). AllSeatsOf v c.args.seats.items) (sym c.self.view_is) c.requires.here) c.close_all.ensures c.drive_alone-ended.ensures.driven
    (subst (λ (ts : List Token). AllBegin history ts) c.in_ok-domains.ensures.domains c.stop.ensures.fronts) in
    subst (λ (w : Sizes × List (List Reply)). TellsEach w.0 history c.args.seats.items w.1) (λ i. (sym c.stop.ensures.sizes i, sym c.in_ok-domains.ensures.ran i)) each

pub stop-requires-clause-here : goal.stop-requires-clause-here
stop-requires-clause-here g c = subst (λ (ts : List Token). AllIn c.self.inside.heap ts) (sym c.in_ok-domains.ensures.domains) (all_in c.self.inside.heap c.drive_alone-ended.result.items (all_from_each (λ (t : Closing). IsClosedIn c.self.inside.heap t.run) c.drive_alone-ended.result.items c.drive_alone-ended.ensures.driven.here))

pub stop-requires-clause-some : goal.stop-requires-clause-some
stop-requires-clause-some g c =
    let count = c.drive_alone-ended.ensures.driven.count in
    let from = closed_length c.args.seats.items c.close_all.result.items c.close_all.ensures in
    let many = ap (λ (ts : List Token). length ts) c.in_ok-domains.ensures.domains in
    let same = token_length c.drive_alone-ended.result.items in
    omega (arith, count, from, many, same, c.requires.some)

pub returns-clause-stops : goal.returns-clause-stops
returns-clause-stops g c =
    let history = c.stop.result.history in
    let inside : SeatsView = record { heap = c.self.inside.heap; pool = c.self.inside.pool } in
    subst (λ (z : Sizes). StopsEach z history c.args.seats.items) (sym c.stop.ensures.sizes)
    (stops_each inside history c.args.seats.items c.close_all.result.items c.drive_alone-ended.result.items (subst (λ (v : SeatsView). AllSeatsOf v c.args.seats.items) (sym c.self.view_is) c.requires.here) c.close_all.ensures c.drive_alone-ended.ensures.driven c.in_ok-domains.ensures.faithful
    (subst (λ (ts : List Token). AllBegin history ts) c.in_ok-domains.ensures.domains c.stop.ensures.fronts))
