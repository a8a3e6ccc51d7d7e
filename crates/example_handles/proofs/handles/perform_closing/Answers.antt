use Rattle.example_handles.proofs.Calls.{performed_closing}
use Rattle.example_handles.proofs.handles.perform_closing.Goals as goal

pub returns : goal.returns
returns g c =
    let p = c.perform-reply.ensures in
    let w = c.close_waiting.ensures in
    record { performs = performed_closing c.args.seat.now c.perform-reply.new.self c.close_waiting.new.seat c.args.resources.now c.close_waiting.new.resources c.args.command c.perform-reply.result c.requires.taken p.same p.performed p.labels p.finals w.taken w.finals w.settled }
