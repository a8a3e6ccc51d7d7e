use Rattle.std.proofs.Common.{◌≡◌, ◌∙◌, ◌<◌, [], Some, ap, length, rules}
use Rattle.std.specs.Prelude.{vec_capacity}
use Rattle.std.proofs.lemmas.List.{length-map}
use Rattle.run_replay.proofs.EndLemmas.{gathered}
use Rattle.run_replay.proofs.gathered.Gathered.gather.Goals as goal

pub invariant_of-result : goal.invariant_of-result
invariant_of-result c =
    let empty : c.in_ok-meeting.meeting.items ≡ [] = search rules in
    let count : length c.in_ok-slots.slots.items ≡ length c.args.runs.items = ap length c.in_ok-slots.ensures.items ∙ length-map c.args.runs.items Some in
    let room : length c.in_ok-slots.slots.items < vec_capacity c.in_ok-meeting.meeting = search (rules, count) in
    (gathered c.args.heap c.args.runs.items c.in_ok-slots.slots.items c.requires.may c.in_ok-slots.ensures.are c.in_ok-slots.ensures.items, (empty, room))
