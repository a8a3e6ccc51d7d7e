use Rattle.std.proofs.Common.{◌∙◌, List, ap, arith, length, subst, sym}
use Rattle.std.proofs.lemmas.Result.{err_from_is_err_and}
use Rattle.run_plays.specs.Plays.{AreSeatsOf, Seat, run_seat, seat_of}
use Rattle.run_plays.proofs.Seats.{all_new, all_seated, how_many, map_count, some_domain}
use Rattle.run_plays.proofs.plays.plays_by_turns.Goals as goal

pub returns-in_err-runs-clause-outside : goal.returns-in_err-runs-clause-outside
returns-in_err-runs-clause-outside g c k =
    let o = c.in_err-runs.ensures.outside k in
    let r = err_from_is_err_and c.from_residual.result c.from_residual.ensures.1 in
    let same = r.2 in
    let is = r.1 in
    (λ e. o.0 (let q = sym is ∙ e in cc), λ f. let q = o.1 f in is ∙ cc)

pub seat_all-requires-clause-new : goal.seat_all-requires-clause-new
seat_all-requires-clause-new g c = all_new c.args.config c.in_ok-runs.runs.items c.in_ok-runs.ensures.shared

pub seat_all-requires-clause-one_each : goal.seat_all-requires-clause-one_each
seat_all-requires-clause-one_each g c =
    let many = how_many c.args.config c.in_ok-runs.runs.items c.in_ok-runs.ensures.shared in
    let long = c.in_ok-runs.runs.ok.0 in
    let one = c.requires in
    omega (arith, many, long, one)

pub returns-in_err-chairs-clause-outside : goal.returns-in_err-chairs-clause-outside
returns-in_err-chairs-clause-outside g c k =
    let o = c.in_ok-runs.ensures.outside k in
    let r = err_from_is_err_and c.from_residual-in_err-chairs.result c.from_residual-in_err-chairs.ensures.1 in
    let same = r.2 in
    (λ e. let q = sym r.1 ∙ e in cc, λ f. let q = o.1 f in cc)

pub returns-in_err-play_round-clause-outside : goal.returns-in_err-play_round-clause-outside
returns-in_err-play_round-clause-outside g c k =
    let o = c.in_ok-runs.ensures.outside k in
    let r = err_from_is_err_and c.from_residual-in_err-play_round.result c.from_residual-in_err-play_round.ensures.1 in
    let same = r.2 in
    (λ e. let q = sym r.1 ∙ e in cc, λ f. let q = o.1 f in cc)

pub end_play-requires-clause-seats : goal.end_play-requires-clause-seats
end_play-requires-clause-seats g c = (c.args.config, subst (AreSeatsOf c.args.config) (sym (c.loop.invariant.seats ∙ c.in_ok-chairs.ensures.seats)) (all_seated c.args.config c.in_ok-runs.runs.items c.in_ok-runs.ensures.shared))

pub end_play-requires-clause-some : goal.end_play-requires-clause-some
end_play-requires-clause-some g c =
    let o = c.in_ok-runs.ensures.outside 1 in
    let some = some_domain c.args.config (λ e. let q = o.1 e in cc) in
    let runs = c.in_ok-runs.runs.items in
    let n = sym (map_count (λ ch. seat_of ch.player) c.loop.chairs.items) ∙ (ap (λ (l : List Seat). length l) (c.loop.invariant.seats ∙ c.in_ok-chairs.ensures.seats) ∙ (map_count run_seat runs ∙ how_many c.args.config runs c.in_ok-runs.ensures.shared)) in
    let long = c.loop.chairs.ok.0 in
    omega (arith, n, long, some)

pub returns-in_err-end_play-clause-outside : goal.returns-in_err-end_play-clause-outside
returns-in_err-end_play-clause-outside g c k =
    let o = c.in_ok-runs.ensures.outside k in
    let r = err_from_is_err_and c.from_residual-in_err-end_play.result c.from_residual-in_err-end_play.ensures.1 in
    let same = r.2 in
    (λ e. let q = sym r.1 ∙ e in cc, λ f. let q = o.1 f in cc)

pub returns-clause-outside : goal.returns-clause-outside
returns-clause-outside g c k =
    let o = c.in_ok-runs.ensures.outside k in
    (λ e. cc, λ f. let q = o.1 f in cc)

pub returns-clause-sizes : goal.returns-clause-sizes
returns-clause-sizes g c = c.in_ok-end_play.ensures.sizes c.args.config (subst (AreSeatsOf c.args.config) (sym (c.loop.invariant.seats ∙ c.in_ok-chairs.ensures.seats)) (all_seated c.args.config c.in_ok-runs.runs.items c.in_ok-runs.ensures.shared))

pub returns-clause-count : goal.returns-clause-count
returns-clause-count g c =
    let runs = c.in_ok-runs.runs.items in
    let n = sym (map_count (λ ch. seat_of ch.player) c.loop.chairs.items) ∙ (ap (λ (l : List Seat). length l) (c.loop.invariant.seats ∙ c.in_ok-chairs.ensures.seats) ∙ (map_count run_seat runs ∙ how_many c.args.config runs c.in_ok-runs.ensures.shared)) in
    c.in_ok-end_play.ensures.count ∙ (c.loop.chairs.ok.0 ∙ n)
