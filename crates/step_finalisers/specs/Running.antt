-- What the step asks and tells by which a running domain runs the first finaliser of its queue (the OCaml manual's module `Gc`).
use Rattle.std.specs.Prelude.{◌≡◌, ◌+◌, ◌<◌, List, length, remove, slice_get, slice_set, Some}
use Rattle.model_core.specs.declared.entry.Entry.TheVariants.{Ran}
use Rattle.model_core.specs.declared.label.Label.{Label}
use Rattle.model_core.specs.declared.graph.Value.TheVariants.{Block}
use Rattle.model_core.specs.declared.reply.Applied.{Applied}
use Rattle.model_core.specs.declared.reply.Applied.TheVariants.{Replied}
use Rattle.model_core.specs.declared.reply.Reply.TheVariants.{Fin as FinReply, Last as LastReply}
use Rattle.model_core.specs.Domains.{domain_at, register}
use Rattle.model_core.specs.Fronts.{Answers}
use Rattle.heap_words.specs.declared.value.Value.{Value}
use Rattle.heap_words.specs.declared.value.Value.TheVariants.{Ref}
use Rattle.heap_rule.specs.declared.config.Config.{Config}
use Rattle.heap_rule.specs.declared.view.DomainView.{DomainView}
use Rattle.heap_rule.specs.declared.view.Own.{Own}
use Rattle.heap_rule.specs.declared.view.Waiting.{Waiting}
use Rattle.heap_rule.specs.declared.view.Waiting.TheVariants.{Fin, Last}
use Rattle.heap_rule.specs.Limits.{sizes_in}
use Rattle.heap_rule.specs.Rule.{state_of}
use Rattle.heap_rule.specs.Standing.{GoesOn, with_front, with_own}
use Rattle.heap_rule.specs.Token.{Holds}

-- the domain runs, and this finaliser is the first of its queue
pub record RunMay (k : Config) (x : DomainView) (first : Waiting) : Type 0 where
  pub goes_on : GoesOn k x
  pub is_first : slice_get x.own.finalisers.queue.items 0 ≡ Some first

-- the registers once it has run
abbrev pub registers_after : Waiting → List Value → List Value
registers_after (Fin address number r) registers = slice_set registers r (Ref address)
registers_after (Last number) registers = registers

-- and the token's own data
abbrev pub ran_own : Waiting → Own → Own
ran_own first own = record own {
  registers = registers_after first own.registers;
  finalisers = record own.finalisers { queue = record { items = remove own.finalisers.queue.items 0; room = own.finalisers.queue.room + 1 } };
}

-- what it answers: one of `finalise` names its block, which its register holds then
abbrev pub AnswersRun : Config → Waiting → DomainView → Applied → Type 0
AnswersRun k (Fin address number r) y answer = (l : Label) × (register (state_of k y.seen.front) y.own.number r ≡ Block l) × (answer ≡ Replied (FinReply number l))
AnswersRun k (Last number) y answer = answer ≡ Replied (LastReply number)

-- the entry stands, the finaliser has left the queue, and its register holds its block. The domain owes the rest of its queue
pub record RunTold (k : Config) (first : Waiting) (x y : DomainView) : Type 0 where
  pub answer : Applied
  pub answers : Answers (sizes_in k) x.own.number x.seen.front y.seen.front (Ran x.own.number) answer
  pub says : AnswersRun k first y answer
  pub view : y ≡ with_front (with_own x (ran_own first x.own)) y.seen.front
  pub holds : Holds k y.own.registers
  pub due : (domain_at (state_of k y.seen.front) y.own.number).due ≡ length y.own.finalisers.queue.items

-- the register of one of `finalise` is one
abbrev pub HasRegister : Waiting → Type 0
HasRegister (Fin address number r) = r < 16
HasRegister (Last number) = Unit {0}

-- the first finaliser can be run, and is
abbrev pub CanRun : Waiting → Own → Type 0
CanRun first own = (slice_get own.finalisers.queue.items 0 ≡ Some first) × HasRegister first

abbrev pub Runs : Waiting → Own → Own → Type 0
Runs first own after = after ≡ ran_own first own
