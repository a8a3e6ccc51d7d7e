-- Laws of the entries, in the words in which a reader would ask for them.
use Rattle.std.specs.Prelude.{◌≡◌, ℕ, false, ◌&&◌, IsTrue, List, [], ◌∷◌, length, sum_by, slice_get, Option, Some, None}
use Rattle.model_core.specs.declared.label.Label.{Label}
use Rattle.model_core.specs.declared.command.Command as declared_command
use Rattle.model_core.specs.declared.command.Command.TheVariants.{Store, Cas, SetKey, UnsetKey, SetData, UnsetData, FullMajor}
use Rattle.model_core.specs.declared.entry.Entry.{Entry}
use Rattle.model_core.specs.declared.entry.Entry.TheVariants.{Command, Wipe, Collected}
use Rattle.model_core.specs.declared.graph.Node.{Node}
use Rattle.model_core.specs.declared.reply.Reply.TheVariants.{Live}
use Rattle.model_core.specs.declared.reply.Applied.{Applied}
use Rattle.model_core.specs.declared.reply.Applied.TheVariants.{Replied}
use Rattle.model_core.specs.declared.state.Sizes.{Sizes}
use Rattle.model_core.specs.declared.state.State.{State}
use Rattle.model_core.specs.Graph.{labels, has_label, has_no_repeats, node_at, words_at}
use Rattle.model_core.specs.Domains.{domain_at, label_in, queues, roots, reach, opening}
use Rattle.model_core.specs.Commands.{has_full_fields}
use Rattle.model_core.specs.Reach.{IsLeastClosed}
use Rattle.model_core.specs.Entries.{Allowed, next, reply, is_some_and, is_dead, is_gone, is_let_go, has_gone_keys}
use Rattle.model_core.specs.History.{state_after}

-- no entry removes a label from the graph
abbrev pub LabelsStay : Type 0
LabelsStay = (s : State) (e : Entry) (l : Label) → IsTrue (has_label (labels s.graph) l) → IsTrue (has_label (labels (next s e).graph) l)

-- the label whose node a command may change: the block of a `store` or a `cas`, the ephemeron of a key or datum command
abbrev pub written_by : State → ℕ → declared_command.Command → Option Label
written_by s d (Store block index item) = label_in s d block
written_by s d (Cas block index expected item) = label_in s d block
written_by s d (SetKey ephe index item) = label_in s d ephe
written_by s d (UnsetKey ephe index) = label_in s d ephe
written_by s d (SetData ephe item) = label_in s d ephe
written_by s d (UnsetData ephe) = label_in s d ephe
written_by s d _ = None

-- the label whose node an entry may change
abbrev pub written : State → Entry → Option Label
written s (Command d c full) = written_by s d c
written s (Wipe l keys) = Some l
written s _ = None

-- every other entry leaves a label's node as it is
abbrev pub NodesStay : Type 0
NodesStay = (s : State) (e : Entry) (l : Label) (n : Node) → (written s e ≡ Some l → ⊥) → node_at s.graph l ≡ Some n → node_at (next s e).graph l ≡ Some n

-- what a state reaches is the least closed set that holds its roots, whatever the history
abbrev pub ReachIsLeast : Type 0
ReachIsLeast = (z : Sizes) (h : List Entry) → let s = state_after (opening z) h in IsLeastClosed s.graph (roots s (queues s)) (reach s)

-- a reply counts the blocks and the words of the least closed set that holds the roots, each block once
pub record CountsReach (s : State) (answer : Applied) : Type 0 where
  pub live : List Label
  pub once : IsTrue (has_no_repeats live)
  pub least : IsLeastClosed s.graph (roots s (queues s)) live
  pub answers : answer ≡ Replied (Live (length live) (sum_by (words_at s.graph) live))

-- what `full_major` counts is what is reachable
abbrev pub FullMajorCountsReach : Type 0
FullMajorCountsReach = (z : Sizes) (h : List Entry) (d : ℕ) → let s = state_after (opening z) h in CountsReach s (reply s (Command d FullMajor false))

-- a Wipe that is allowed changes nothing of what is reachable
abbrev pub WipeKeepsReach : Type 0
WipeKeepsReach = (s : State) (l : Label) (keys : List ℕ) → Allowed s (Wipe l keys) → reach (next s (Wipe l keys)) ≡ reach s

-- nothing is left that a Wipe, a Queue or a Last may take, by their own conditions
pub record NothingPermitted (s : State) : Type 0 where
  pub keys : (l : Label) → IsTrue (has_label (reach s) l) → (p : ℕ) → has_gone_keys s (p ∷ []) (node_at s.graph l) ≡ false
  pub finals : (d p : ℕ) → is_some_and (λ f. is_dead s s.cut f.label) (slice_get (domain_at s d).finals p) ≡ false
  pub lasts : (d p : ℕ) → is_some_and (λ f. is_gone s (queues s) f.label && is_let_go s f.label) (slice_get (domain_at s d).lasts p) ≡ false

-- after a Collected that is allowed nothing permitted is left
abbrev pub CollectedLeavesNothing : Type 0
CollectedLeavesNothing = (s : State) → Allowed s Collected → NothingPermitted (next s Collected)

-- whatever the history, each field of a plain block holds an integer or a block, and each field of a raw block an integer
abbrev pub FieldsAreFull : Type 0
FieldsAreFull = (z : Sizes) (h : List Entry) (l : Label) (n : Node) → node_at (state_after (opening z) h).graph l ≡ Some n → IsTrue (has_full_fields n)
