-- A block of 64 fields that are 0 is a table that binds nothing.
use Rattle.std.proofs.Common.{◌≡◌, ℕ, zero, suc, ◌<◌, IsTrue, [], ◌∷◌, length, get_or, replicate, flat_map, Some, refl, ap, subst, sym, arith, pos}
use Rattle.std.proofs.lemmas.List.{length-replicate}
use Rattle.model_core.specs.declared.label.Label.{Label}
use Rattle.model_core.specs.declared.graph.Value.{Value}
use Rattle.model_core.specs.declared.graph.Value.TheVariants.{Int, Nothing}
use Rattle.model_core.specs.Graph.{Graph, has_no_repeats, node_at}
use Rattle.model_core.specs.Commands.{new_plain}
use Rattle.weak_laws.specs.Tables.Structures.{bucket_count, chain_bindings, bindings, Links, cell_labels, is_bucket, IsTable, empty_chains}

field_at : (n i : ℕ) (v : Value) → i < n → get_or (replicate n v) i Nothing ≡ v
field_at zero i v below = absurd (omega arith)
field_at (suc n) zero v below = refl
field_at (suc n) (suc i) v below = field_at n i v (omega arith)

chain_at : (n i : ℕ) → get_or (empty_chains n) i [] ≡ []
chain_at zero i = refl
chain_at (suc n) zero = refl
chain_at (suc n) (suc i) = chain_at n i

chain_count : (n : ℕ) → length (empty_chains n) ≡ n
chain_count zero = refl
chain_count (suc n) = ap suc (chain_count n)

no_labels : (n : ℕ) → flat_map cell_labels (empty_chains n) ≡ []
no_labels zero = refl
no_labels (suc n) = no_labels n

no_bindings : (g : Graph) (n : ℕ) → bindings g (empty_chains n) ≡ []
no_bindings g zero = refl
no_bindings g (suc n) = no_bindings g n

pub table_empty : (g : Graph) (root : Label) (tag : ℕ) → node_at g root ≡ Some (new_plain tag bucket_count) → IsTable g root (empty_chains bucket_count)
table_empty g root tag at = record {
  tag = tag;
  fields = replicate bucket_count (Int (pos 0));
  node = at;
  size = length-replicate bucket_count (Int (pos 0));
  count = chain_count bucket_count;
  linked = λ i below. subst (Links g (get_or (replicate bucket_count (Int (pos 0))) i Nothing)) (sym (chain_at bucket_count i)) (field_at bucket_count i (Int (pos 0)) below);
  once = subst (λ ls. IsTrue (has_no_repeats (root ∷ ls))) (sym (no_labels bucket_count)) refl;
  bucket = λ i below. subst (λ cs. IsTrue (is_bucket i (chain_bindings g cs))) (sym (chain_at bucket_count i)) refl;
}

pub binds_nothing : (g : Graph) → bindings g (empty_chains bucket_count) ≡ []
binds_nothing g = no_bindings g bucket_count
