-- How far a turn of a run came.
use Rattle.std.specs.Prelude.{◌≡◌, ◌≤◌, ◌<◌, ◌^◌}
use Rattle.heap_rule.specs.Token.{SharedHeap}
use Rattle.run_turns.specs.declared.singly.turning.Came.{Came}
use Rattle.run_turns.specs.declared.singly.turning.Came.TheVariants as came
use Rattle.run_turns.specs.declared.turned.Turned.{Turned}
use Rattle.run_turns.specs.declared.turned.Turned.TheVariants.{Did, Waiting, Hungry, Held, Idle}
use Rattle.run_turns.specs.declared.turned.Turned.TheVariants.{Ended as Over}
use Rattle.run_turns.specs.Runs.{RunView, TurnAnswers}

-- how far a turn with this answer came: it did something, it waits for others to arrive, to end or to tell the end of a section, it has no command left and gets more, or all traces have ended
abbrev pub far_of : Turned → Came
far_of Did = came.On
far_of (Waiting b) = came.Nowhere
far_of (Idle n) = came.Nowhere
far_of (Held section) = came.Nowhere
far_of Hungry = came.Done
far_of Over = came.Ended

-- a domain that has arrived 2^60 times isn't turned any more, and nothing has changed; any other is turned, and came as far as the answer says
pub data CameTo (h : SharedHeap) (old new : RunView) (c : Came) : Type 0 where
  Spent : 2 ^ 60 ≤ old.token.view.own.arrivals → new ≡ old → c ≡ came.Nowhere → CameTo h old new c
  Turns : (turned : Turned) → old.token.view.own.arrivals < 2 ^ 60 → TurnAnswers h old new turned → c ≡ far_of turned → CameTo h old new c
