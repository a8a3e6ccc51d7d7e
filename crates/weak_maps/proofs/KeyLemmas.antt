-- What a key that was read is, where a leaf tells of it.
use Rattle.std.proofs.Common.{◌≡◌, ◌≢◌, [], ◌∷◌, Option, Some, None, refl, ap}
use Rattle.model_core.specs.declared.label.Label.{Label}
use Rattle.model_core.specs.declared.reply.Reply.TheVariants as reply
use Rattle.model_core.specs.declared.graph.Value.{Value}
use Rattle.model_core.specs.declared.graph.Node.TheVariants.{Ephe}
use Rattle.model_core.specs.Graph.{Graph, node_at}
use Rattle.model_core.specs.Commands.{shown, key_value}
use Rattle.weak_maps.specs.Walks.{LeafTells}

abbrev pub KeyTells : Label → Option Value → Option Label → Type 0
KeyTells k (Some datum) key = key ≡ Some k
KeyTells k None key = key ≢ Some k

pub leaf_key : (k : Label) (g : Graph) (l : Label) (o : Option Value) → LeafTells g l k o → (key : Option Label) × (datum : Value) × (node_at g l ≡ Some (Ephe (key ∷ []) datum)) × KeyTells k o key
leaf_key k g l (Some datum) is = (Some k, datum, is, refl)
leaf_key k g l None (key, datum, other, is) = (key, datum, is, other)

pub key_shown : (k : Label) (key : Option Label) → shown (key_value key) ≡ reply.Block k → key ≡ Some k
key_shown k None is = cc
key_shown k (Some l) is = let same : l ≡ k = cc in ap Some same
