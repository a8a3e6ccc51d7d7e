-- A whole session: the calls of `perform`, one after another, and the end.
use Rattle.std.specs.Prelude.{◌≡◌, List, [], ◌∷◌, ◌++◌, flat_map, map}
use Rattle.model_core.specs.declared.command.Command.{Command}
use Rattle.model_core.specs.declared.entry.Entry.{Entry}
use Rattle.model_core.specs.declared.reply.Reply.{Reply}
use Rattle.model_core.specs.declared.state.Sizes.{Sizes}
use Rattle.model_core.specs.History.{commands, replies}
use Rattle.run_turns.specs.Handed.{PerformedOn}
use Rattle.run_session.specs.Stopping.{EndsAfter}

-- a call: the command that was handed in, the replies of the finalisers that ran before it, and its reply
pub record Call : Type 0 where
  pub command : Command
  pub ran : List Reply
  pub reply : Reply

-- these calls were made one after another, as `perform` tells each of them, from one front of the history to another
abbrev pub AreCalled : Sizes → List Entry → List Call → List Entry → Type 0
AreCalled z old [] new = new ≡ old
AreCalled z old (c ∷ calls) new = (mid : List Entry) × PerformedOn z 0 old mid c.command c.ran c.reply × AreCalled z mid calls new

-- what a call's finalisers and its command answer
abbrev pub answers_of : Call → List Reply
answers_of c = c.ran ++ c.reply ∷ []

-- the commands of the history of an ended session are those that were handed in, each once and in order, and its replies are those that the calls gave, and then those of the finalisers that ran at the end
pub record IsSessionOf (z : Sizes) (calls : List Call) (history : List Entry) : Type 0 where
  pub commands_are : commands history 0 ≡ map (λ c. c.command) calls
  pub last_ran : List Reply
  pub replies_are : replies z history 0 ≡ flat_map answers_of calls ++ last_ran

abbrev pub SessionsMakeTheirCalls : Type 0
SessionsMakeTheirCalls = (z : Sizes) (calls : List Call) (front history : List Entry) → AreCalled z [] calls front → EndsAfter z front history → IsSessionOf z calls history
