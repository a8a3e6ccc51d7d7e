use Rattle.std.proofs.Common.{◌≡◌, ◌∙◌, ◌++◌, ◌∷◌, ◌+◌, ◌≤◌, ℕ, [], ap, sym, subst, arith, drop, length}
use Rattle.model_core.specs.History.{commands, replies}
use Rattle.heap_rule.specs.Limits.{sizes_in}
use Rattle.model_core.specs.Counts.Counts.{ephemerons_given, labels_given}
use Rattle.run_turns.specs.Handed.{PerformedOn}
use Rattle.run_turns.specs.Runs.{registrations_in}
use Rattle.run_turns.specs.Tries.{registrations_of}
use Rattle.run_turns.specs.Singly.Counting.{stats_of}
use Rattle.run_seats.specs.Pool.Keeping.{KeeperView}
use Rattle.run_seats.specs.declared.idle.Idle.{Idle}
use Rattle.run_seats.specs.Shared.Idling.{finals_of}
use Rattle.run_seats.specs.Idling.{KeepsHeap}
use Rattle.run_seats.specs.Seating.{MayPerform, SeatView, seat_with}
use Rattle.run_seats.proofs.Seated.{answered_idle, finals_left, given, made, performs, seat_after, seat_again, sits, waits_behind}
use Rattle.run_turns.proofs.OfSingly.Driven.{open_handed}
use Rattle.run_turns.proofs.Turning.{apart_few}
use Rattle.run_seats.proofs.seat.Seat.perform.Goals as goal

pub perform_on-requires-clause-may : goal.perform_on-requires-clause-may
perform_on-requires-clause-may g c =
    let r = c.self.inside.run in
    let is = c.shows_faithful.ensures in
    let v : SeatView = seat_with c.self.inside.keeper.pool r in
    let may : MayPerform v c.args.command = subst (λ (x : SeatView). MayPerform x c.args.command) (sym c.self.view_is) c.requires.may in
    record {
      more = c.self.invariant.more;
      done = c.self.invariant.done;
      fits = may.fits;
      enlists = let few = apart_few r is (open_handed r.supply c.self.invariant.more) in let fits = may.enlists in let spares = is.spares in let left : ℕ = registrations_in (drop r.next r.commands) in omega (arith, few, fits, spares);
      room = may.room;
      labels = let few = may.labels in let same : r.token.view.own.serial ≡ c.args.self.now.labels = ap (λ (x : SeatView). x.labels) c.self.view_is in let left = c.labels_left-left.ensures in omega (arith, few, same, left);
    }

pub perform_on-requires-clause-here : goal.perform_on-requires-clause-here
perform_on-requires-clause-here g c = (sits c.seats.inside.heap c.seats.inside.pool c.self.inside.run c.self.inside.keeper _ _ c.self.invariant c.self.view_is c.seats.view_is c.requires.here).here

pub perform_on-requires-clause-pool : goal.perform_on-requires-clause-pool
perform_on-requires-clause-pool g c = (sits c.seats.inside.heap c.seats.inside.pool c.self.inside.run c.self.inside.keeper _ _ c.self.invariant c.self.view_is c.seats.view_is c.requires.here).in_pool

pub perform_on-requires-clause-keeps : goal.perform_on-requires-clause-keeps
perform_on-requires-clause-keeps g c = (sits c.seats.inside.heap c.seats.inside.pool c.self.inside.run c.self.inside.keeper _ _ c.self.invariant c.self.view_is c.seats.view_is c.requires.here).keeps

pub returns-clause-same : goal.returns-clause-same
returns-clause-same g c =
    let heap = c.seats.inside.heap in
    let r = c.self.inside.run in
    let n = c.perform_on.new.run in
    let s = sits heap c.seats.inside.pool r c.self.inside.keeper _ _ c.self.invariant c.self.view_is c.seats.view_is c.requires.here in
    let a = c.perform_on.ensures.answered in
    let pool = ap (λ (k : KeeperView Idle). k.pool) c.perform_on.ensures.same in
    ap (λ p. seat_with p n) pool ∙ subst (λ (v : SeatView). seat_with c.self.inside.keeper.pool n ≡ record v { front = n.token.view.seen.front; labels = n.token.view.own.serial; room = n.token.view.own.ephemerons.room; finals = finals_of n; stats = stats_of n.token.view.own; ran = n.ran }) c.self.view_is (seat_after heap c.self.inside.keeper.pool r n s.here a.here a.number)

pub returns-clause-performed : goal.returns-clause-performed
returns-clause-performed g c =
    let heap = c.seats.inside.heap in
    let r = c.self.inside.run in
    let n = c.perform_on.new.run in
    let s = sits heap c.seats.inside.pool r c.self.inside.keeper _ _ c.self.invariant c.self.view_is c.seats.view_is c.requires.here in
    let a = c.perform_on.ensures.answered in
    record {
      waits = subst (λ (v : SeatView). n.ran ≡ v.ran ++ drop (length v.ran) n.ran) c.self.view_is (waits_behind heap r n c.args.command c.perform_on.result s.here a c.perform_on.ensures.ran);
      performed = subst (λ (v : SeatView). PerformedOn (sizes_in v.heap.config) v.number v.front n.token.view.seen.front c.args.command (drop (length v.ran) n.ran) c.perform_on.result) c.self.view_is (performs heap r n c.args.command c.perform_on.result s.here a c.perform_on.ensures.ran);
    }

pub returns-clause-records : goal.returns-clause-records
returns-clause-records g c =
    let heap = c.seats.inside.heap in
    let r = c.self.inside.run in
    let n = c.perform_on.new.run in
    let s = sits heap c.seats.inside.pool r c.self.inside.keeper _ _ c.self.invariant c.self.view_is c.seats.view_is c.requires.here in
    let a = c.perform_on.ensures.answered in
    record {
      commands_are = subst (λ (v : SeatView). commands n.token.view.seen.front v.number ≡ commands v.front v.number ++ c.args.command ∷ []) c.self.view_is (made heap r n c.args.command c.perform_on.result s.here a c.perform_on.ensures.ran);
      replies_are = subst (λ (v : SeatView). replies (sizes_in v.heap.config) n.token.view.seen.front v.number ≡ replies (sizes_in v.heap.config) v.front v.number ++ (drop (length v.ran) n.ran ++ c.perform_on.result ∷ [])) c.self.view_is (given heap r n c.args.command c.perform_on.result s.here a c.perform_on.ensures.ran);
    }

pub returns-clause-finals : goal.returns-clause-finals
returns-clause-finals g c =
    let heap = c.seats.inside.heap in
    let r = c.self.inside.run in
    let n = c.perform_on.new.run in
    let s = sits heap c.seats.inside.pool r c.self.inside.keeper _ _ c.self.invariant c.self.view_is c.seats.view_is c.requires.here in
    let a = c.perform_on.ensures.answered in
    subst (λ (v : SeatView). v.finals ≤ finals_of n + registrations_of c.args.command) c.self.view_is (finals_left heap r n c.args.command c.perform_on.result s.here a c.perform_on.ensures.ran)

pub returns-clause-labels : goal.returns-clause-labels
returns-clause-labels g c = subst (λ (v : SeatView). c.perform_on.new.run.token.view.own.serial ≡ v.labels + labels_given c.args.command c.perform_on.result) c.self.view_is c.perform_on.ensures.answered.takes.labels_are

pub returns-clause-room : goal.returns-clause-room
returns-clause-room g c = subst (λ (v : SeatView). v.room ≤ c.perform_on.new.run.token.view.own.ephemerons.room + ephemerons_given c.args.command c.perform_on.result) c.self.view_is c.perform_on.ensures.answered.takes.room

pub invariant_of-self : goal.invariant_of-self
invariant_of-self g c =
    let heap = c.seats.inside.heap in
    let r = c.self.inside.run in
    let n = c.perform_on.new.run in
    let s = sits heap c.seats.inside.pool r c.self.inside.keeper _ _ c.self.invariant c.self.view_is c.seats.view_is c.requires.here in
    let a = c.perform_on.ensures.answered in
    seat_again heap n c.perform_on.new.keeper (answered_idle heap r n c.args.command c.perform_on.result a) (subst (λ (k : KeeperView Idle). KeepsHeap heap k.rests) (sym c.perform_on.ensures.same) s.keeps)
