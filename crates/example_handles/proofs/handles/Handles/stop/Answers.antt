use Rattle.std.proofs.Common.{arith, map}
use Rattle.model_core.specs.declared.command.Command.TheVariants.{FullMajor, Poll}
use Rattle.example_handles.proofs.Ending.{here_each, length_each, seats_here, seats_length, stop_each}
use Rattle.example_handles.proofs.handles.Handles.stop.Goals as goal

pub perform_each-all-requires-2-clause-here : goal.perform_each-all-requires-2-clause-here
perform_each-all-requires-2-clause-here g c = here_each c.args.seats FullMajor c.args.all.items c.perform_each-all.result.items c.perform_each-all.ensures c.requires.here

pub perform_each-all-requires-2-clause-room : goal.perform_each-all-requires-2-clause-room
perform_each-all-requires-2-clause-room g c =
    let many = length_each FullMajor c.args.all.items c.perform_each-all.result.items c.perform_each-all.ensures in
    omega (arith, c.in_ok-polled.ensures.exact, c.len-2.ensures, c.args.all.ok.0, many)

pub take_apart-back-requires-clause-here : goal.take_apart-back-requires-clause-here
take_apart-back-requires-clause-here g c =
    here_each c.args.seats Poll c.perform_each-all.result.items c.perform_each-all-2.result.items c.perform_each-all-2.ensures
    (here_each c.args.seats FullMajor c.args.all.items c.perform_each-all.result.items c.perform_each-all.ensures c.requires.here)

pub take_apart-back-requires-clause-places : goal.take_apart-back-requires-clause-places
take_apart-back-requires-clause-places g c =
    let many = length_each FullMajor c.args.all.items c.perform_each-all.result.items c.perform_each-all.ensures in
    let still = length_each Poll c.perform_each-all.result.items c.perform_each-all-2.result.items c.perform_each-all-2.ensures in
    omega (arith, c.in_ok-places.ensures.exact, c.len-3.ensures, c.args.all.ok.0, many, still)

pub take_apart-back-requires-clause-lists : goal.take_apart-back-requires-clause-lists
take_apart-back-requires-clause-lists g c =
    let many = length_each FullMajor c.args.all.items c.perform_each-all.result.items c.perform_each-all.ensures in
    let still = length_each Poll c.perform_each-all.result.items c.perform_each-all-2.result.items c.perform_each-all-2.ensures in
    omega (arith, c.in_ok-lists.ensures.exact, c.len-4.ensures, c.args.all.ok.0, many, still)

pub stop-requires-clause-here : goal.stop-requires-clause-here
stop-requires-clause-here g c =
    seats_here c.args.seats c.perform_each-all-2.result.items c.take_apart-back.result.0.items (map (λ v. v.items) c.take_apart-back.result.1.items) c.take_apart-back.ensures
    (here_each c.args.seats Poll c.perform_each-all.result.items c.perform_each-all-2.result.items c.perform_each-all-2.ensures
    (here_each c.args.seats FullMajor c.args.all.items c.perform_each-all.result.items c.perform_each-all.ensures c.requires.here))

pub stop-requires-clause-some : goal.stop-requires-clause-some
stop-requires-clause-some g c =
    let many = length_each FullMajor c.args.all.items c.perform_each-all.result.items c.perform_each-all.ensures in
    let still = length_each Poll c.perform_each-all.result.items c.perform_each-all-2.result.items c.perform_each-all-2.ensures in
    let back = seats_length c.perform_each-all-2.result.items c.take_apart-back.result.0.items (map (λ v. v.items) c.take_apart-back.result.1.items) c.take_apart-back.ensures in
    omega (arith, c.requires.some, many, still, back)

pub returns-clause-leaves : goal.returns-clause-leaves
returns-clause-leaves g c =
    stop_each c.in_ok-ended.ended.sizes c.in_ok-ended.ended.history c.args.all.items c.perform_each-all.result.items c.perform_each-all-2.result.items c.take_apart-back.result.0.items (map (λ v. v.items) c.take_apart-back.result.1.items)
    c.perform_each-all.ensures c.perform_each-all-2.ensures c.take_apart-back.ensures c.in_ok-ended.ensures.stops
