-- Laws of blocks that a domain holds, and of what `full_major` leaves.
use Rattle.std.specs.Prelude.{◌≡◌, ℕ, ◌+◌, Bool, false, List, ◌∷◌, ◌++◌, [], IsTrue, Option, Some, None}
use Rattle.model_core.specs.declared.label.Label.{Label}
use Rattle.model_core.specs.declared.command.Command as declared_command
use Rattle.model_core.specs.declared.command.Command.TheVariants.{Alloc, AllocMaj, Raw as NewRaw, Ephe as NewEphe, FullMajor}
use Rattle.model_core.specs.declared.entry.Entry.{Entry}
use Rattle.model_core.specs.declared.entry.Entry.TheVariants.{Command}
use Rattle.model_core.specs.declared.reply.Reply.TheVariants.{Block as BlockReply}
use Rattle.model_core.specs.declared.reply.Applied.TheVariants.{Replied}
use Rattle.model_core.specs.declared.graph.Value.TheVariants.{Block}
use Rattle.model_core.specs.declared.graph.Node.{Node}
use Rattle.model_core.specs.declared.state.Sizes.{Sizes}
use Rattle.model_core.specs.declared.state.State.{State}
use Rattle.model_core.specs.Graph.{has_label, node_at}
use Rattle.model_core.specs.Domains.{domain_at, register, reach, opening}
use Rattle.model_core.specs.Entries.{next, reply}
use Rattle.model_core.specs.History.{state_after, Legal}
use Rattle.model_core.specs.Fronts.{Shape, PlainShape, RawShape, EpheShape, shape_of}
use Rattle.model_core.specs.Laws.{NothingPermitted}

-- a block of this shape stands at a label
pub record IsThere (s : State) (l : Label) (shape : Shape) : Type 0 where
  pub node : Node
  pub found : node_at s.graph l ≡ Some node
  pub shape_is : shape_of node ≡ shape

-- the shape of the block that a command makes: its kind, tag and length
abbrev pub made_shape : declared_command.Command → Option Shape
made_shape (Alloc dst tag n) = Some (PlainShape n tag)
made_shape (AllocMaj dst tag n) = Some (PlainShape n tag)
made_shape (NewRaw dst tag n) = Some (RawShape n tag)
made_shape (NewEphe dst n) = Some (EpheShape n)
made_shape _ = None

-- the label of the next block of domain d
abbrev pub next_label : State → ℕ → Label
next_label s d = record { domain = d; serial = (domain_at s d).serial + 1 }

-- a block that was made is answered by its label, and stands there with its tag and length from then on
pub record IsMade (z : Sizes) (h k : List Entry) (d : ℕ) (c : declared_command.Command) (shape : Shape) : Type 0 where
  pub answered : reply (state_after (opening z) h) (Command d c false) ≡ Replied (BlockReply (next_label (state_after (opening z) h) d))
  pub there : IsThere (state_after (next (state_after (opening z) h) (Command d c false)) k) (next_label (state_after (opening z) h) d) shape

abbrev pub BlocksKeepShape : Type 0
BlocksKeepShape = (z : Sizes) (h k : List Entry) (d : ℕ) (c : declared_command.Command) (shape : Shape) → Legal z (h ++ Command d c false ∷ k) → made_shape c ≡ Some shape → IsMade z h k d c shape

-- what a register holds is there, and is reachable
pub record IsHeldWell (s : State) (l : Label) : Type 0 where
  pub node : Node
  pub found : node_at s.graph l ≡ Some node
  pub reached : IsTrue (has_label (reach s) l)

abbrev pub HeldBlocksAreThere : Type 0
HeldBlocksAreThere = (z : Sizes) (h : List Entry) (d r : ℕ) (l : Label) → register (state_after (opening z) h) d r ≡ Block l → IsHeldWell (state_after (opening z) h) l

-- where `full_major` is answered nothing is left that a collection may take
abbrev pub FullMajorLeavesNothing : Type 0
FullMajorLeavesNothing = (z : Sizes) (h : List Entry) (d : ℕ) (full : Bool) → Legal z (h ++ Command d FullMajor full ∷ []) → NothingPermitted (state_after (opening z) h)
