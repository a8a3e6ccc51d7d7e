-- What the commands on ephemerons answer and leave, by what the register of the ephemeron holds.
use Rattle.std.proofs.Common.{◌≡◌, ◌≢◌, ℕ, ◌<◌, false, length, set, option_and_then, option_map, Option, Some, refl, ap, ◌∙◌, get_or-set_same, None}
use Rattle.model_core.specs.declared.label.Label.{Label}
use Rattle.model_core.specs.declared.command.Command.{Command}
use Rattle.model_core.specs.declared.entry.Entry.TheVariants.{Command as CommandOf}
use Rattle.model_core.specs.declared.reply.Reply.{Reply}
use Rattle.model_core.specs.declared.reply.Reply.TheVariants.{Done, BadType}
use Rattle.model_core.specs.declared.reply.Applied.TheVariants.{Replied}
use Rattle.model_core.specs.declared.graph.Value.{Value}
use Rattle.model_core.specs.declared.graph.Value.TheVariants.{Int, Block, Nothing}
use Rattle.model_core.specs.declared.graph.Node.{Node}
use Rattle.model_core.specs.declared.state.DomainState.{DomainState}
use Rattle.model_core.specs.declared.state.State.{State}
use Rattle.model_core.specs.Graph.{node_at, with_node, block_at, label_of}
use Rattle.model_core.specs.Domains.{domain_at, with_block, register, no_domain}
use Rattle.model_core.specs.Commands.{Outcome, only_replies, shown, block_in, read_into, done_with, at_ephe, key_set, key_stored, datum_set, datum_stored, outcome}
use Rattle.model_core.proofs.Commands.FrameLemmas.{part_set}
use Rattle.model_core.proofs.Commands.LeavesLemmas.{Leaves}

-- something is stored in an ephemeron as its datum
pub some_stored : (s : State) (b : Option (Label × Node)) (v : Value) → v ≢ Nothing → datum_stored s b v ≡ at_ephe s b (datum_set s v)
some_stored s b (Int z) some = refl
some_stored s b (Block l) some = refl
some_stored s b Nothing some = absurd (some refl)

-- nothing is set where there is no block
pub no_key_stored : (s : State) (i : ℕ) (key : Option Label) (b : Option (Label × Node)) → b ≡ None → key_stored s i key b ≡ only_replies s BadType
no_key_stored s i None b none = refl
no_key_stored s i (Some k) b none = ap (λ o. at_ephe s o (key_set s i (Some k))) none

pub no_datum_stored : (s : State) (v : Value) (b : Option (Label × Node)) → b ≡ None → datum_stored s b v ≡ only_replies s BadType
no_datum_stored s (Int z) b none = ap (λ o. at_ephe s o (datum_set s (Int z))) none
no_datum_stored s (Block l) b none = ap (λ o. at_ephe s o (datum_set s (Block l))) none
no_datum_stored s Nothing b none = refl

module _ (s : State) (d : ℕ) where
  abbrev mine : DomainState
  mine = domain_at s d

  -- the block in a register
  pub block_is : (r : ℕ) (l : Label) (n : Node) → register s d r ≡ Block l → node_at s.graph l ≡ Some n → block_in s d r ≡ Some (l, n)
  block_is r l n held node = ap (λ v. option_and_then (block_at s.graph) (label_of v)) held ∙ ap (option_map (λ m. (l, m))) node
