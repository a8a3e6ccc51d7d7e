-- What the steps ask and tell by which a domain learns what lives, where a collection is answered, and answers `full_major`.
use Rattle.std.specs.Prelude.{◌≡◌, ℕ, false, [], length, Some}
use Rattle.model_core.specs.declared.command.Command.TheVariants.{FullMajor}
use Rattle.model_core.specs.declared.entry.Entry.TheVariants.{Command}
use Rattle.model_core.specs.declared.reply.Applied.TheVariants.{Replied}
use Rattle.model_core.specs.declared.reply.Reply.TheVariants.{Live}
use Rattle.model_core.specs.declared.state.Mode.TheVariants.{Answer as Answered}
use Rattle.model_core.specs.Domains.{domain_at, reach}
use Rattle.model_core.specs.Fronts.{IsFrontOf}
use Rattle.model_core.specs.History.{Legal}
use Rattle.model_core.specs.Controls.Led.{IsLed}
use Rattle.heap_words.specs.declared.value.Value.TheVariants.{Nothing}
use Rattle.heap_rule.specs.declared.config.Config.{Config}
use Rattle.heap_rule.specs.declared.phase.Kind.TheVariants.{Answer}
use Rattle.heap_rule.specs.declared.phase.Stage.TheVariants.{In}
use Rattle.heap_rule.specs.declared.view.DomainView.{DomainView}
use Rattle.heap_rule.specs.Limits.{sizes_in}
use Rattle.heap_rule.specs.Rule.{state_of}
use Rattle.heap_rule.specs.Standing.{Entered, with_front}
use Rattle.step_marks.specs.Marking.Looks.{with_share}

-- the domain's front is the history so far, in which a collection is answered. The word that is found is the number of blocks that are reachable then, and the domain knows it
pub record LiveBlocksTold (k : Config) (x : DomainView) (found : ℕ) (y : DomainView) : Type 0 where
  pub seen : IsFrontOf x.own.number y.seen.front x.seen.front
  pub led : IsLed x.own.number y.seen.front x.seen.front
  pub legal : Legal (sizes_in k) y.seen.front
  pub answers : (state_of k y.seen.front).mode ≡ Answered
  pub counts : found ≡ length (reach (state_of k y.seen.front))
  pub view : y ≡ with_front (with_share x (record x.seen.share { blocks = Some found })) y.seen.front

-- in Answer, a load of the live words by a domain whose trace hasn't ended, which owes no finaliser, and which knows how many blocks live
pub record LiveWordsMay (k : Config) (x : DomainView) (blocks : ℕ) : Type 0 where
  pub stage : x.seen.stage ≡ In Answer
  pub known : x.seen.share.blocks ≡ Some blocks
  pub goes_on : (domain_at (state_of k x.seen.front) x.own.number).ended ≡ false
  pub paid : (domain_at (state_of k x.seen.front) x.own.number).due ≡ 0

-- its `full_major` is answered with these blocks and the words that are found, and it owes what its queue holds
pub record LiveWordsTold (k : Config) (blocks : ℕ) (x : DomainView) (found : ℕ) (y : DomainView) : Type 0 where
  pub entered : Entered k (Command x.own.number FullMajor false) (Replied (Live blocks found)) Nothing [] x y
  pub led : IsLed x.own.number y.seen.front x.seen.front
  pub due : (domain_at (state_of k y.seen.front) y.own.number).due ≡ length y.own.finalisers.queue.items
