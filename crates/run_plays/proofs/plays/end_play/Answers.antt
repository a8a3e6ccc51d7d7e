use Rattle.std.proofs.Common.{◌∙◌, List, ap, arith, length, subst, sym}
use Rattle.heap_rule.specs.declared.config.Config.{Config}
use Rattle.run_plays.specs.Plays.{AreSeatsOf, Seat, run_seat, seat_of}
use Rattle.run_plays.proofs.Seats.{are_one, ends_one, ends_sizes, logs_count, map_count}
use Rattle.run_plays.proofs.plays.end_play.Goals as goal

pub one_history-requires : goal.one_history-requires
one_history-requires g c =
    let seats = c.in_ok-part_all.ensures.seats in
    let k : Config = c.requires.seats.0 in
    let runs = c.part_all.new.runs.items in
    let n = sym (map_count run_seat runs) ∙ (ap (λ (l : List Seat). length l) seats ∙ map_count (λ ch. seat_of ch.player) c.args.chairs.items) in
    let long = c.args.chairs.ok.0 in
    let some = c.requires.some in
    record {
      one = are_one k runs (subst (AreSeatsOf k) (sym seats) c.requires.seats.1);
      some = omega (arith, n, long, some);
    }

pub returns-clause-sizes : goal.returns-clause-sizes
returns-clause-sizes g c = λ k are. ends_sizes k c.part_all.new.runs.items c.one_history.new.runs.items c.pop.new.self.items c.in-Some.run' (subst (AreSeatsOf k) (sym c.in_ok-part_all.ensures.seats) are) c.in_ok-one_history.ensures.met c.in-Some.ensures.items

pub returns-clause-count : goal.returns-clause-count
returns-clause-count g c =
    let runs = c.part_all.new.runs.items in
    let n = sym (map_count run_seat runs) ∙ (ap (λ (l : List Seat). length l) c.in_ok-part_all.ensures.seats ∙ map_count (λ ch. seat_of ch.player) c.args.chairs.items) in
    logs_count c.part_all.new.logs.items runs c.in_ok-part_all.ensures.logs ∙ (n ∙ sym c.args.chairs.ok.0)

pub returns-clause-one : goal.returns-clause-one
returns-clause-one g c =
    let k : Config = c.requires.seats.0 in
    ends_one k c.part_all.new.runs.items c.one_history.new.runs.items c.pop.new.self.items c.in-Some.run' c.part_all.new.logs.items (subst (AreSeatsOf k) (sym c.in_ok-part_all.ensures.seats) c.requires.seats.1) c.in_ok-part_all.ensures.logs c.in_ok-one_history.ensures.met c.in-Some.ensures.items
