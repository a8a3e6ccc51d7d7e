-- Laws of what is lost: a block that nothing names any more which a domain may still come to is never seen again.
use Rattle.std.specs.Prelude.{◌≡◌, ◌≢◌, ℕ, Bool, true, false, not, ◌==◌, List, ◌∷◌, ◌++◌, map, flat_map, IsTrue}
use Rattle.std.specs.List.{list_any, list_all}
use Rattle.model_core.specs.declared.label.Label.{Label}
use Rattle.model_core.specs.declared.entry.Entry.{Entry}
use Rattle.model_core.specs.declared.entry.Entry.TheVariants.{Wipe, Last, Collected, Done}
use Rattle.model_core.specs.declared.reply.Reply.TheVariants.{Block as BlockReply, Fin as FinReply}
use Rattle.model_core.specs.declared.reply.Applied.{Applied}
use Rattle.model_core.specs.declared.reply.Applied.TheVariants.{Replied}
use Rattle.model_core.specs.declared.graph.Value.TheVariants.{Block}
use Rattle.model_core.specs.declared.state.Sizes.{Sizes}
use Rattle.model_core.specs.declared.state.State.{State}
use Rattle.model_core.specs.Graph.{Graph, same_label, labels, has_label, node_at}
use Rattle.model_core.specs.Domains.{register, queues, reach, opening}
use Rattle.model_core.specs.Reach.{HoldsRoots}
use Rattle.model_core.specs.Entries.{full_keys, left_reach, next, reply}
use Rattle.model_core.specs.History.{state_after, Legal}
use Rattle.model_core.specs.Marked.{IsMarked}
use Rattle.model_laws.specs.Histories.Cells.{Key, content}

-- whether an answer names a block
abbrev pub names : Label → Applied → Bool
names l (Replied (BlockReply k)) = same_label k l
names l (Replied (FinReply number k)) = same_label k l
names l _ = false

-- while these entries are made no register ever holds a block, and no reply names it
pub record IsNeverSeen (s : State) (k : List Entry) (l : Label) : Type 0 where
  pub registers : (a b : List Entry) → k ≡ a ++ b → (d r : ℕ) → register (state_after s a) d r ≢ Block l
  pub replies : (a b : List Entry) (e : Entry) → k ≡ a ++ e ∷ b → names l (reply (state_after s a) e) ≡ false

-- a block to which domains can't come any more, over fields, keys and data, is never seen again
abbrev pub LostIsNeverSeen : Type 0
LostIsNeverSeen = (z : Sizes) (h k : List Entry) (l : Label) → Legal z (h ++ k) → IsTrue (has_label (labels (state_after (opening z) h).graph) l)
    → has_label (left_reach (state_after (opening z) h)) l ≡ false → IsNeverSeen (state_after (opening z) h) k l

-- what a complete collection found unreachable, and so what `full_major` doesn't count, is never seen again
abbrev pub UncountedIsNeverSeen : Type 0
UncountedIsNeverSeen = (z : Sizes) (h k : List Entry) (l : Label) → Legal z (h ++ Collected ∷ k) → IsTrue (has_label (labels (state_after (opening z) h).graph) l)
    → has_label (reach (state_after (opening z) h)) l ≡ false → IsNeverSeen (next (state_after (opening z) h) Collected) k l

-- whether an entry empties keys, or queues a `finalise_last`
abbrev pub is_taking : Entry → Bool
is_taking (Wipe l keys) = true
is_taking (Last d place) = true
is_taking _ = false

-- once a complete collection has emptied a weak key for a block, nothing brings the block back: no other weak key, no data, no finaliser
abbrev pub EmptiedIsNeverSeen : Type 0
EmptiedIsNeverSeen = (z : Sizes) (h a k : List Entry) (e : Label) (places : List ℕ) (i : ℕ) (b : Label) → Legal z (h ++ Wipe e places ∷ a ++ Collected ∷ k) → IsTrue (list_all is_taking a)
    → content (state_after (opening z) h).graph e (Key i) ≡ Block b → IsTrue (list_any (λ p. p == i) places)
    → IsNeverSeen (next (state_after (next (state_after (opening z) h) (Wipe e places)) a) Collected) k b

-- where a collection ends, complete or not, what it took is never seen again: neither a block of which it emptied a key, nor one of which it queued a `finalise_last`
abbrev pub TakenIsNeverSeen : Type 0
TakenIsNeverSeen = (z : Sizes) (h k : List Entry) (l : Label) → Legal z (h ++ Done ∷ k) → let s = state_after (opening z) h in
    IsTrue (has_label (labels s.graph) l) → IsTrue (has_label s.taken l) → IsNeverSeen s (Done ∷ k) l

-- a collector that marks keeps more than it has to: where its marks hold all that waits and the keys of the ephemerons that it leaves, they hold all that domains may still come to
abbrev pub MarksHoldAllLeft : Type 0
MarksHoldAllLeft = (s : State) (marked : Label → Bool) → IsMarked s (queues s) marked → HoldsRoots (flat_map (λ x. map (λ f. f.label) x.lasts) s.domains) marked
    → ((x k : Label) → IsTrue (marked x) → IsTrue (has_label (full_keys (node_at s.graph x)) k) → IsTrue (marked k))
    → HoldsRoots (left_reach s) marked
