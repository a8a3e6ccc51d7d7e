-- What other commands of a heap of one domain leave of a cache.
use Rattle.std.proofs.Common.{◌≡◌, ◌≢◌, inl, ℕ, ◌<◌, true, false, IsTrue, List, [], ◌∷◌, length, map, get_or, Option, Some, refl, ap, sym, ◌∙◌, subst, arith}
use Rattle.model_core.specs.declared.label.Label.{Label}
use Rattle.model_core.specs.declared.entry.Entry.{Entry}
use Rattle.model_core.specs.declared.graph.Value.{Value}
use Rattle.model_core.specs.declared.graph.Value.TheVariants.{Int, Block, Nothing}
use Rattle.model_core.specs.declared.graph.Node.{Node}
use Rattle.model_core.specs.declared.graph.Node.TheVariants.{Plain, Ephe}
use Rattle.model_core.specs.declared.state.Sizes.{Sizes}
use Rattle.model_core.specs.Graph.{Graph, has_label, node_at}
use Rattle.model_core.proofs.Reach.ReachLemmas.{is_false}
use Rattle.weak_laws.specs.Tables.Structures.{Binding}
use Rattle.weak_laws.specs.Tables.Stages.{graph_of}
use Rattle.weak_laws.specs.Tables.Performing.{After}
use Rattle.weak_laws.specs.Tables.Thinning.{Thin, Went}
use Rattle.weak_laws.proofs.OfTables.ChangeLemmas.{thin_more}
use Rattle.weak_laws.specs.Maps.Tries.{fields_of, inside}
use Rattle.weak_laws.specs.Maps.Steps.{WasUnreached}
use Rattle.weak_maps.proofs.DescendLemmas.{leaf_node}
use Rattle.weak_cache.specs.Uses.{SlotLeft, SlotsLeft}
use Rattle.weak_cache.specs.Caches.{IsCache, IsUse, fields_or_none, slot_in, slot_of, slots_after}
use Rattle.weak_cache.specs.Laws.{IsApart, OtherCommandsSpare}
use Rattle.weak_cache.proofs.CoreLemmas.{slot_thin}
use Rattle.weak_cache.proofs.EndLemmas.{slots_are}
use Rattle.weak_cache.proofs.ListLemmas.{all_left}
use Rattle.weak_cache.proofs.OnceLemmas.{once_left}

not_true : (b : _) → (IsTrue b → ⊥) → b ≡ false
not_true true none = absurd (none refl)
not_true false none = refl

module _ (z : Sizes) (old new : List Entry) (own : List Label) (registers : List Value) (c : Label) (size : ℕ) (after : After z old new own registers) (apart : (l : Label) → IsTrue (has_label own l) → IsApart (graph_of z old) c l) (cache : IsCache (graph_of z old) c size) where
  abbrev P : Label → Type 0
  P = WasUnreached z old new

  abbrev fs : List Value
  fs = cache.fields

  went : (l : Label) → Went z old new l → P l
  went l w = record { front = w.was.front; since = w.was.since; until = w.was.until; outside = w.was.outside }

  thin : (l : Label) (n : Node) → node_at (graph_of z old) l ≡ Some n → (IsTrue (has_label own l) → ⊥) → Thin P n (node_at (graph_of z new) l)
  thin l n node none = thin_more (Went z old new) P went n (node_at (graph_of z new) l) (after.changes l n node (not_true (has_label own l) none))

  block : node_at (graph_of z new) c ≡ Some (Plain cache.tag fs)
  block = thin c (Plain cache.tag fs) cache.node (λ mine. (apart c mine).0 refl)

  field : (i : ℕ) → get_or (fields_or_none (inside (graph_of z old) (Block c))) i Nothing ≡ get_or fs i Nothing
  field i = ap (λ (o : Option (List Value)). get_or (fields_or_none o) i Nothing) (ap fields_of cache.node)

  use_after : (i : ℕ) (v : Value) → get_or fs i Nothing ≡ v → IsUse (graph_of z old) v → IsUse (graph_of z new) v × SlotLeft P (slot_of (graph_of z old) v) (slot_of (graph_of z new) v)
  use_after i (Int a) is x = (x, inl refl)
  use_after i (Block l) is x =
      let n = leaf_node (node_at (graph_of z old) l) x in
      let left = slot_thin P n.0 n.1 (node_at (graph_of z new) l) (thin l (Ephe (n.0 ∷ []) n.1) n.2 (λ mine. (apart l mine).1 i (field i ∙ is))) in
      (left.0, subst (λ (o : Option Node). SlotLeft P (slot_in o) (slot_of (graph_of z new) (Block l))) (sym n.2) left.1)
  use_after i Nothing is x = absurd x

  all : (j : ℕ) → j < length fs → IsUse (graph_of z new) (get_or fs j Nothing) × SlotLeft P (slot_of (graph_of z old) (get_or fs j Nothing)) (slot_of (graph_of z new) (get_or fs j Nothing))
  all j small = let many = cache.many in use_after j (get_or fs j Nothing) refl (cache.uses j (omega (arith, small, many)))

  slots : SlotsLeft P (map (slot_of (graph_of z old)) fs) (map (slot_of (graph_of z new)) fs)
  slots = all_left P (graph_of z old) (graph_of z new) fs (λ j small. (all j small).1)

  pub stays_cache : IsCache (graph_of z new) c size
  stays_cache = record {
    some = cache.some;
    tag = cache.tag;
    fields = fs;
    node = block;
    many = cache.many;
    uses = λ i small. let many = cache.many in (all i (omega (arith, small, many))).0;
    once = once_left P (map (slot_of (graph_of z old)) fs) (map (slot_of (graph_of z new)) fs) slots cache.once;
  }

  pub loses_only : SlotsLeft P (slots_after z old c) (slots_after z new c)
  loses_only = subst (λ (w : List (Option Binding) × List (Option Binding)). SlotsLeft P w.0 w.1) (λ i. (sym (slots_are z old c cache.tag fs cache.node) i, sym (slots_are z new c cache.tag fs block) i)) slots

pub commands_spare : OtherCommandsSpare
commands_spare z old new own registers c size after apart cache = (stays_cache z old new own registers c size after apart cache, (after.grows, loses_only z old new own registers c size after apart cache))
