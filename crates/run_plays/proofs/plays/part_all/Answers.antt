use Rattle.std.proofs.Common.{◌≡◌, ◌∙◌, List, [], ◌∷◌, ap, arith, length, length-append, sym, subst}
use Rattle.std.specs.Vec.Iter.{into_iter_items}
use Rattle.run_seats.specs.Shared.Sharing.{SharedView}
use Rattle.run_plays.specs.Plays.{AreLogsOf, LogView, seat_of}
use Rattle.run_plays.proofs.Seats.{nothing, one_log_more, parted_all, parted_seats}
use Rattle.run_plays.proofs.plays.part_all.Goals as goal

pub loop-chair-preserved : goal.loop-chair-preserved
loop-chair-preserved g c =
    let before = c.loop-chair.invariant in
    let steps = c.in-Some.ensures.steps in
    let many = ap (λ xs. length xs) steps.0 in
    let runs_are = c.push_reserved.ensures.items in
    let logs_are = c.push_reserved-in-loop-chair.ensures.items in
    record {
      seats = parted_seats (λ ch. seat_of ch.player) (into_iter_items c.loop-chair.chair-iterator) (into_iter_items c.next.new.self) (into_iter_items c.into_iter-chair-iterator.result) c.in-Some.chair c.loop-chair.runs.items c.push_reserved.new.self.items c.in_ok-run.run' before.seats steps.0 c.in_ok-run.ensures.seat runs_are;
      logs = subst (λ (w : List LogView × List SharedView). AreLogsOf w.0 w.1) (λ i. (sym logs_are i, sym runs_are i)) (one_log_more c.loop-chair.logs.items c.loop-chair.runs.items c.in_ok-run.log c.in_ok-run.run' before.logs c.in_ok-run.ensures.log);
      len = let long = before.len in let next = steps.1 in omega (arith, long, next, many);
      room_runs = let room = before.room_runs in let long = ap (λ (l : List SharedView). length l) runs_are ∙ length-append c.loop-chair.runs.items (c.in_ok-run.run' ∷ []) in omega (arith, room, long, many, c.push_reserved.ensures.capacity);
      room_logs = let room = before.room_logs in let long = ap (λ (l : List LogView). length l) logs_are ∙ length-append c.loop-chair.logs.items (c.in_ok-run.log ∷ []) in omega (arith, room, long, many, c.push_reserved-in-loop-chair.ensures.capacity);
    }

pub returns-clause-seats : goal.returns-clause-seats
returns-clause-seats g c =
    let none : into_iter_items c.loop-chair.chair-iterator ≡ [] = nothing (into_iter_items c.loop-chair.chair-iterator) (let long = c.loop-chair.invariant.len in let over = c.in-None.ensures.steps.0 in omega (arith, long, over)) in
    parted_all (λ ch. seat_of ch.player) (into_iter_items c.loop-chair.chair-iterator) (into_iter_items c.into_iter-chair-iterator.result) c.args.chairs.items c.loop-chair.runs.items c.loop-chair.invariant.seats none c.into_iter-chair-iterator.ensures.into_iter_gives.0
