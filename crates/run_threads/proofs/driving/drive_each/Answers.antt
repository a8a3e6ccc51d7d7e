use Rattle.std.proofs.Common.{rules, ◌<◌, length, subst}
use Rattle.std.specs.Prelude.{slice_index_or}
use Rattle.run_threads.specs.Placing.{Began}
use Rattle.run_threads.specs.declared.place.Place.TheVariants.{Empty}
use Rattle.run_threads.proofs.Placing.{some_of}
use Rattle.run_threads.proofs.driving.drive_each.Goals as goal

pub take_ended-requires-clause-some : goal.take_ended-requires-clause-some
take_ended-requires-clause-some g c = λ k e few none.
    let within : k < length c.args.traces.now.items = search (rules, few, c.len-count.ensures) in
    let d = some_of c.args.traces.now.items k within in
    let room : k < length c.place_all.new.places = (let many = c.place_all.ensures.many in let most = c.requires.few in search (rules, within)) in
    subst (Began g.T.Trace.follows (slice_index_or c.args.traces.now.items k d)) none
    (c.turn_beside.ensures.began.1 k (slice_index_or c.args.traces.now.items k d) e room (c.place_all.ensures.began k d e within))

pub returns-clause-follow : goal.returns-clause-follow
returns-clause-follow g c = (
  search (rules, c.take_ended.ensures.many, c.len-count.ensures),
  λ k d within.
      let few : k < c.len-count.result = search (rules, within, c.len-count.ensures) in
      let room : k < length c.place_all.new.places = (let many = c.place_all.ensures.many in let most = c.requires.few in search (rules, within)) in
      c.take_ended.ensures.follow k (slice_index_or c.args.traces.now.items k d) d Empty few (c.turn_beside.ensures.began.1 k (slice_index_or c.args.traces.now.items k d) Empty room (c.place_all.ensures.began k d Empty within)),
)
