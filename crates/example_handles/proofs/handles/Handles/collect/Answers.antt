use Rattle.std.proofs.Common.{[], ◌∷◌, subst, sym}
use Rattle.model_core.specs.declared.command.Command.TheVariants.{FullMajor, Poll}
use Rattle.model_core.specs.History.{Legal}
use Rattle.heap_rule.specs.Limits.{sizes_in}
use Rattle.run_seats.specs.Seating.{SeatView}
use Rattle.run_turns.proofs.Handed.{performed_commands}
use Rattle.example_handles.specs.Handling.{HandlesView, Makes}
use Rattle.example_handles.proofs.Calls.{later_both, makes_both, open_held}
use Rattle.example_handles.proofs.handles.Handles.collect.Goals as goal

pub returns-clause-seat : goal.returns-clause-seat
returns-clause-seat g c = later_both c.args.self.now.seat c.perform.new.self.seat c.perform-2.new.self.seat c.perform.ensures.seat c.perform-2.ensures.seat

pub returns-clause-collects : goal.returns-clause-collects
returns-clause-collects g c =
    let old : HandlesView = c.args.self.now in
    let mid : HandlesView = c.perform.new.self in
    let new : HandlesView = c.perform-2.new.self in
    let one : Makes (FullMajor ∷ []) old mid = record { made_are = performed_commands (sizes_in old.seat.heap.config) old.seat.number old.seat.front mid.seat.front FullMajor c.perform.ensures.performed.ran c.perform.result c.perform.ensures.performed.performed; settles = c.perform.ensures.settles } in
    let two : Makes (Poll ∷ []) mid new = record { made_are = performed_commands (sizes_in mid.seat.heap.config) mid.seat.number mid.seat.front new.seat.front Poll c.perform-2.ensures.performed.ran c.perform-2.result c.perform-2.ensures.performed.performed; settles = c.perform-2.ensures.settles } in
    makes_both old mid new (FullMajor ∷ []) (Poll ∷ []) c.perform.ensures.seat c.perform-2.ensures.seat one two

pub returns-clause-held : goal.returns-clause-held
returns-clause-held g c =
    open_held c.args.self.now c.perform.new.self c.perform-2.new.self c.perform.ensures.seat c.perform-2.ensures.seat c.perform.ensures.performed.ran c.perform-2.ensures.performed.ran c.perform.result c.perform-2.result c.perform.ensures.performed.performed c.perform-2.ensures.performed.performed c.is_kept.ensures

pub returns-clause-legal : goal.returns-clause-legal
returns-clause-legal g c = subst (λ (v : SeatView). Legal (sizes_in v.heap.config) c.perform-2.new.self.seat.front) (sym c.perform-2.ensures.seat) c.perform-2.ensures.performed.performed.legal
