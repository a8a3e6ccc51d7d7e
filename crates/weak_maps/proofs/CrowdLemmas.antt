-- When a put answers `full`: what was made and refused by then, and what was in its way.
use Rattle.std.proofs.Common.{◌≡◌, ◌≢◌, inl, inr, ℕ, ◌+◌, ◌<◌, ◌≤◌, List, [], ◌∷◌, ◌++◌, length, Option, Some, None, refl, ap, sym, ◌∙◌, append_assoc, arith}
use Rattle.model_core.specs.declared.label.Label.{Label}
use Rattle.model_core.specs.declared.entry.Entry.{Entry}
use Rattle.model_core.specs.declared.reply.Reply.{Reply}
use Rattle.model_core.specs.declared.reply.Reply.TheVariants as reply
use Rattle.model_core.specs.declared.graph.Value.{Value}
use Rattle.model_core.specs.declared.graph.Value.TheVariants.{Int, Block, Nothing}
use Rattle.model_core.specs.declared.state.Sizes.{Sizes}
use Rattle.model_core.specs.Graph.{Graph, node_at}
use Rattle.model_core.specs.History.{IsPrefix}
use Rattle.weak_laws.specs.Tables.Stages.{graph_of}
use Rattle.weak_laws.specs.Maps.Tries.{bound_by, ends, fields_of, inside, low_digits, way_to}
use Rattle.weak_laws.specs.Maps.Steps.{OthersRespect}
use Rattle.weak_laws.proofs.OfMaps.FrontLemmas.{prefix_same, prefix_trans}
use Rattle.weak_maps.specs.declared.putting.Try.TheVariants.{Over}
use Rattle.weak_maps.specs.Beside.{held_by}
use Rattle.weak_maps.specs.Crowds.{IsCrowded, PutCounts, made_by}
use Rattle.weak_maps.specs.Fields.{AtField}
use Rattle.weak_maps.specs.Puts.{FieldFound, FindsField, Putting}
use Rattle.weak_maps.specs.Settles.{TryRefuses}
use Rattle.weak_maps.proofs.BesideLemmas.{low_beside}
use Rattle.weak_maps.proofs.DescendLemmas.{ends_there}
use Rattle.weak_maps.proofs.SettleLemmas.{bound_node}
use Rattle.weak_maps.proofs.StayLemmas.{looking_from, field_as}

-- what a put has counted when its last try ends it
pub put_counts : (r : Reply) (rooms : ℕ) (other : Option Label) (labels left refused before now : ℕ) → rooms ≤ 6 → labels + rooms ≡ left + 7 → before ≡ refused → TryRefuses rooms other before now (Over r) → PutCounts labels left refused now r
put_counts reply.Done rooms other labels left refused before now few counts same x = (x ∙ same, omega (arith, few, counts), omega (arith, counts))
put_counts reply.Full rooms other labels left refused before now few counts same (inl (more, some)) = inl (omega (arith, more, same), omega (arith, few, counts), omega (arith, some, counts))
put_counts reply.Full rooms other labels left refused before now few counts same (inr (none, spent, met)) = inr (none ∙ same, omega (arith, spent, counts))
put_counts reply.Empty rooms other labels left refused before now few counts same x = absurd x
put_counts (reply.Int i) rooms other labels left refused before now few counts same x = absurd x
put_counts (reply.Block l) rooms other labels left refused before now few counts same x = absurd x
put_counts reply.Yes rooms other labels left refused before now few counts same x = absurd x
put_counts reply.No rooms other labels left refused before now few counts same x = absurd x
put_counts reply.BadIndex rooms other labels left refused before now few counts same x = absurd x
put_counts reply.BadType rooms other labels left refused before now few counts same x = absurd x
put_counts (reply.Live blocks words) rooms other labels left refused before now few counts same x = absurd x
put_counts (reply.Fin number label) rooms other labels left refused before now few counts same x = absurd x
put_counts (reply.Last number) rooms other labels left refused before now few counts same x = absurd x

-- `full` without a refusal: no block more might be made, and a leaf of another key was met
pub full_crowded : (rooms : ℕ) (other : Option Label) (before now : ℕ) → now ≡ before → TryRefuses rooms other before now (Over reply.Full) → (rooms ≡ 0) × ((j : Label) × (other ≡ Some j))
full_crowded rooms other before now none (inl (more, some)) = absurd (omega (arith, more, none))
full_crowded rooms other before now none (inr (same, spent, met)) = (spent, met)

-- a leaf that binds a key is no block of the map
leaf_ends : (g : Graph) (j : Label) (w : Value) → bound_by g j w ≢ None → inside g w ≡ None
leaf_ends g j (Int a) some = refl
leaf_ends g j (Block m) some = let n = bound_node (node_at g m) j some in ap fields_of n.1
leaf_ends g j Nothing some = refl

-- the field that was met was read behind the front from which the walk went on
pub put_crowded : (z : Sizes) (root : Label) (d : ℕ) (old now n0 new : List Entry) (k j : Label) (v : Value) (kr i rest i2 rest2 level steps : ℕ) (s : Reply) (other : Option Label) → kr < 8 → held_by z d old kr ≡ Block k → Putting z d old now root k v i rest s level
    → FindsField z d now n0 kr k i rest s i2 rest2 steps other → other ≡ Some j → IsPrefix n0 new → OthersRespect z root d now n0 → made_by z d now ≡ made_by z d old + 7 → IsCrowded z d old new root k
put_crowded z root d old now n0 new k j v kr i rest i2 rest2 level steps s other few key t finds is later respects made = record {
  spent = now;
  begins = t.on.grows;
  made = made;
  front = f.front;
  since = f.field.since;
  until = prefix_trans f.front n0 new f.field.until later;
  other = j;
  way = (f.differs j is, (λ none. f.alive j is (ap (bound_by g j) (sym there) ∙ none)));
}
  where
    here : AtField z d now now now root k i rest s
    here = field_as z d t.first now now now now root k i rest s t.field refl refl (prefix_same now) t.field.until t.field.stays

    depth : ℕ
    depth = length here.p + steps

    f : FieldFound z d now n0 root k i2 rest2 depth other
    f = (finds now root (t.keeps kr (low_beside kr few) ∙ key) (looking_from z root d now t.on.map) here respects).2

    g : Graph
    g = graph_of z f.front

    q : List ℕ
    q = low_digits f.field.left rest2

    there : ends (inside g) (way_to z.domains k) (Block root) ≡ f.field.v
    there = ends_there z.domains g root k (f.field.p ++ i2 ∷ []) q f.field.v (f.field.way ∙ sym (append_assoc f.field.p (i2 ∷ []) q)) f.field.was (leaf_ends g j f.field.v (f.alive j is))
