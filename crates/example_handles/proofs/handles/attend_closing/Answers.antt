use Rattle.example_handles.proofs.Calls.{attended}
use Rattle.example_handles.proofs.handles.attend_closing.Goals as goal

pub returns : goal.returns
returns g c =
    let w = c.close_waiting.ensures in
    record { attends = attended c.args.seat.now c.attend.new.self c.close_waiting.new.seat c.args.resources.now c.close_waiting.new.resources c.requires.taken c.attend.ensures.same c.attend.ensures.along w.taken w.finals w.settled }
