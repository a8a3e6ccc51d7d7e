-- A run whose commands are handed in, while it makes one, while it waits for the next, and once it gets no more.
use Rattle.std.specs.Prelude.{◌≡◌, ◌≤◌, ℕ, ◌+◌, List, [], ◌∷◌, length, Option, Some, None}
use Rattle.model_core.specs.declared.command.Command as model
use Rattle.model_core.specs.declared.reply.Reply.{Reply}
use Rattle.heap_rule.specs.Limits.{sizes_in}
use Rattle.heap_rule.specs.Token.{SharedHeap, IsIn}
use Rattle.heap_rule.specs.declared.view.DomainView.{DomainView}
use Rattle.model_core.specs.Counts.Counts.{ephemerons_given, labels_given}
use Rattle.run_turns.specs.declared.supply.Supply.TheVariants.{Open}
use Rattle.run_turns.specs.Handed.{Finalised, PerformedOn}
use Rattle.run_turns.specs.Runs.{RunView, Takes}
use Rattle.run_turns.specs.Tries.{registrations_of}
use Rattle.step_finalisers.specs.Registering.{count_of}

-- how many finalisers are registered
abbrev pub registered : RunView → ℕ
registered r = count_of r.token.view.own.finalisers

-- it has this command to make. Since it was handed in the front has grown by entries of others and by runs of finalisers, and no label or room was taken
pub record Awaits (h : SharedHeap) (start : DomainView) (c : model.Command) (r : RunView) : Type 0 where
  pub here : IsIn r.token h
  pub number : r.token.view.own.number ≡ start.own.number
  pub more : r.supply ≡ Open
  pub commands : r.commands ≡ c ∷ []
  pub next : r.next ≡ 0
  pub replies : r.replies ≡ []
  pub ran : List Reply
  pub finalised : Finalised (sizes_in h.config) start.own.number start.seen.front r.token.view.seen.front ran
  pub listed : registered r + length ran ≡ count_of start.own.finalisers
  pub takes : Takes 0 0 start r.token.view

-- it has made it, with this reply, behind the finalisers that ran meanwhile
pub record Answered (h : SharedHeap) (start : DomainView) (c : model.Command) (reply : Reply) (r : RunView) : Type 0 where
  pub here : IsIn r.token h
  pub number : r.token.view.own.number ≡ start.own.number
  pub more : r.supply ≡ Open
  pub done : r.next ≡ length r.commands
  pub ran : List Reply
  pub performed : PerformedOn (sizes_in h.config) start.own.number start.seen.front r.token.view.seen.front c ran reply
  pub listed : registered r + length ran ≤ count_of start.own.finalisers + registrations_of c
  pub takes : Takes (labels_given c reply) (ephemerons_given c reply) start r.token.view

-- by the reply, if there is one
abbrev pub AwaitAnswers : SharedHeap → DomainView → model.Command → RunView → Option Reply → Type 0
AwaitAnswers h start c r None = Awaits h start c r
AwaitAnswers h start c r (Some reply) = Answered h start c reply r

-- whichever command the run had to make, it has made it, with this reply, or has it to make still where there is none
abbrev pub AnswersAwaited : SharedHeap → RunView → RunView → Option Reply → Type 0
AnswersAwaited h old new reply = (start : DomainView) (c : model.Command) → Awaits h start c old → AwaitAnswers h start c new reply
