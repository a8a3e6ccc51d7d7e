-- What a load and a copy leave in the registers, and what a trace gave them.
use Rattle.std.specs.Prelude.{◌≡◌, ℕ, List, slice_set}
use Rattle.model_core.specs.declared.graph.Value.{Value as ModelValue}
use Rattle.model_core.specs.declared.reply.Reply.{Reply}
use Rattle.model_core.specs.declared.reply.Reply.TheVariants.{Int as IntReply, Block, Empty}
use Rattle.heap_words.specs.declared.value.Value.{Value}
use Rattle.heap_words.specs.declared.value.Value.TheVariants.{Int, Ref, Nothing}
use Rattle.model_core.specs.Domains.{register as register_value}
use Rattle.heap_rule.specs.declared.config.Config.{Config}
use Rattle.heap_rule.specs.declared.view.DomainView.{DomainView}
use Rattle.heap_rule.specs.Changes.{value_at}
use Rattle.heap_rule.specs.Rule.{state_of}
use Rattle.heap_rule.specs.Token.{IsAddress}

-- the register that a load goes into holds what its reply shows, at a block some address of the heap. Other registers, and all of them at any other reply, are as before
abbrev pub LoadsInto : Config → ℕ → Reply → List Value → List Value → Type 0
LoadsInto k dst (IntReply z) old new = new ≡ slice_set old dst (Int z)
LoadsInto k dst (Block label) old new = (address : ℕ) × IsAddress k address × (new ≡ slice_set old dst (Ref address))
LoadsInto k dst Empty old new = new ≡ slice_set old dst Nothing
LoadsInto k dst _ old new = new ≡ old

-- register dst holds what register src does, and the others are as before
abbrev pub CopiesInto : ℕ → ℕ → List Value → List Value → Type 0
CopiesInto dst src old new = new ≡ slice_set old dst (value_at old src)

-- what the domain's register holds by the history as the domain has seen it
abbrev pub traced : Config → DomainView → ℕ → ModelValue
traced k x r = register_value (state_of k x.seen.front) x.own.number r
