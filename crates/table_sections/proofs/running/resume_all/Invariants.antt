use Rattle.std.proofs.Common.{◌≡◌, ◌≤◌, ◌+◌, List, ◌++◌, length, map}
use Rattle.std.specs.Prelude.{vec_capacity}
use Rattle.std.specs.List.{AllByRecursion}
use Rattle.std.specs.Vec.Iter.{into_iter_items, into_iter_len}
use Rattle.run_seats.specs.Seating.{IsSeatOf, SeatView}
use Rattle.table_text.specs.declared.machine.reply.LineReply.{LineReply}
use Rattle.table_sections.specs.Preparing.{AllBack}
use Rattle.table_sections.proofs.running.resume_all.Given as goal

abbrev pub invariant-all : goal.invariant-all
invariant-all g l = record {
  here : AllByRecursion (λ r. IsSeatOf l.seats r.resting) (into_iter_items l.ran-iterator);
  len : into_iter_len l.ran-iterator ≡ length (into_iter_items l.ran-iterator);
  replies_room : length l.replies.items + length (into_iter_items l.ran-iterator) ≤ vec_capacity l.replies;
  back_room : length l.back.items + length (into_iter_items l.ran-iterator) ≤ vec_capacity l.back;
  resumed : (later : List (List LineReply)) (seats : List SeatView) → AllBack l.seats (into_iter_items l.ran-iterator) later seats → AllBack l.seats (into_iter_items l.initial.ran-iterator) (map (λ rs. rs.items) l.replies.items ++ later) (l.back.items ++ seats);
}
