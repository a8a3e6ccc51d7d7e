-- The run of a session, between two commands and while one is made.
use Rattle.std.specs.Prelude.{◌≡◌, ◌≤◌, ◌<◌, ◌+◌, ◌-◌, ◌*◌, ◌^◌, ℕ, Option, Some, None, length}
use Rattle.model_core.specs.declared.command.Command.{Command}
use Rattle.model_core.specs.declared.reply.Reply.{Reply}
use Rattle.model_core.specs.History.{Legal}
use Rattle.model_core.specs.Domains.{domain_at}
use Rattle.heap_rule.specs.declared.config.Config.{Config}
use Rattle.heap_rule.specs.declared.view.DomainView.{DomainView}
use Rattle.heap_rule.specs.Limits.{sizes_in}
use Rattle.heap_rule.specs.Token.{SharedHeap}
use Rattle.heap_rule.specs.Rule.{state_of}
use Rattle.run_turns.specs.Runs.{AddsRan, RunView}
use Rattle.run_turns.specs.Singly.Counting.{stats_of}
use Rattle.run_turns.specs.Singly.Driving.{Answered, AnswersAwaited}
use Rattle.step_finalisers.specs.Registering.{count_of}
use Rattle.run_alone.specs.Lone.{IsLone}
use Rattle.run_alone.specs.Paces.{IsPaced, last_of, most_in_pause}
use Rattle.run_session.specs.Sessions.{SessionView, fresh}

-- what callers see of a session by its run. It is away only while a pause is gone through
abbrev pub session_of : Config → Option RunView → SessionView
session_of k None = fresh k
session_of k (Some r) = record { config = k; front = r.token.view.seen.front; labels = r.token.view.own.serial; room = r.token.view.own.ephemerons.room; finals = k.finals - (count_of r.token.view.own.finalisers + length r.ran); stats = stats_of r.token.view.own; ran = r.ran }

-- the domain has given out the labels that it has in the state
abbrev pub HasGivenOut : SharedHeap → DomainView → Type 0
HasGivenOut h x = x.own.serial ≡ (domain_at (state_of h.config x.seen.front) 0).serial

-- it waits for its next command, and may still arrive as often as the pause takes that it may stand in
pub record Rests (h : SharedHeap) (r : RunView) : Type 0 where
  pub lone : IsLone h r
  pub done : r.next ≡ length r.commands
  pub legal : Legal (sizes_in h.config) r.token.view.seen.front
  pub given : HasGivenOut h r.token.view
  pub paced : IsPaced h.config r
  pub few : last_of h.config r < 2 ^ 60

-- the run is there, and waits for its next command
pub record RestsIn (h : SharedHeap) (o : Option RunView) : Type 0 where
  pub run : RunView
  pub there : o ≡ Some run
  pub rests : Rests h run

-- the run is there, and has a command to make. It may still arrive as often as three pauses take
pub record Owes (h : SharedHeap) (o : Option RunView) : Type 0 where
  pub run : RunView
  pub there : o ≡ Some run
  pub lone : IsLone h run
  pub unasked : run.asked ≡ None
  pub some : run.next < length run.commands
  pub few : last_of h.config run + 3 * most_in_pause < 2 ^ 60

-- it has made it, and this is the reply
pub record Finishes (h : SharedHeap) (o p : Option RunView) (reply : Reply) : Type 0 where
  pub old : RunView
  pub was : o ≡ Some old
  pub new : RunView
  pub is : p ≡ Some new
  pub lone : IsLone h new
  pub answered : AnswersAwaited h old new (Some reply)
  pub ran : AddsRan (sizes_in h.config) old new
  pub spends : last_of h.config new ≤ last_of h.config old + 3 * most_in_pause
  pub paced : IsPaced h.config new

-- it was given a command and made it, and this is the reply
pub record Makes (h : SharedHeap) (o p : Option RunView) (c : Command) (reply : Reply) : Type 0 where
  pub old : RunView
  pub was : o ≡ Some old
  pub new : RunView
  pub is : p ≡ Some new
  pub lone : IsLone h new
  pub answered : Answered h old.token.view c reply new
  pub ran : AddsRan (sizes_in h.config) old new
  pub spends : last_of h.config new ≤ last_of h.config old + 3 * most_in_pause
  pub paced : IsPaced h.config new
