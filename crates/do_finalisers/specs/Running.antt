-- What the run of a finaliser tells.
use Rattle.std.specs.Prelude.{◌≡◌, length, slice_get, Some}
use Rattle.model_core.specs.declared.entry.Entry.TheVariants.{Ran as RanEntry}
use Rattle.model_core.specs.declared.reply.Applied.TheVariants.{Replied}
use Rattle.model_core.specs.declared.reply.Reply.{Reply}
use Rattle.model_core.specs.declared.reply.Reply.TheVariants.{Fin as FinReply, Last as LastReply}
use Rattle.model_core.specs.Domains.{domain_at}
use Rattle.model_core.specs.Fronts.{Answers}
use Rattle.heap_rule.specs.declared.config.Config.{Config}
use Rattle.heap_rule.specs.declared.view.DomainView.{DomainView}
use Rattle.heap_rule.specs.declared.view.Waiting.{Waiting}
use Rattle.heap_rule.specs.Limits.{sizes_in}
use Rattle.heap_rule.specs.Rule.{state_of}
use Rattle.heap_rule.specs.Standing.{with_front, with_own}
use Rattle.heap_rule.specs.Token.{Holds}
use Rattle.step_finalisers.specs.Running.{ran_own}
use Rattle.do_finalisers.specs.declared.running.Ran.{Ran}
use Rattle.do_finalisers.specs.declared.running.Ran.TheVariants.{Fin, Last}

-- the line of a finaliser that has run
abbrev pub reply_of : Ran → Reply
reply_of (Fin number label) = FinReply number label
reply_of (Last number) = LastReply number

-- the first finaliser of the queue has run: its entry comes last in the front, it has left the queue, and the register of one of `finalise` holds its block again. It owes what its queue still holds. Nothing else has changed
pub record RanFirst (k : Config) (ran : Ran) (x y : DomainView) : Type 0 where
  pub first : Waiting
  pub is_first : slice_get x.own.finalisers.queue.items 0 ≡ Some first
  pub answers : Answers (sizes_in k) x.own.number x.seen.front y.seen.front (RanEntry x.own.number) (Replied (reply_of ran))
  pub view : y ≡ with_front (with_own x (ran_own first x.own)) y.seen.front
  pub holds : Holds k y.own.registers
  pub due : (domain_at (state_of k y.seen.front) y.own.number).due ≡ length y.own.finalisers.queue.items
