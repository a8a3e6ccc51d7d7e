-- What keeps the bindings: what is left of it where no block of its own is written, and what it holds.
use Rattle.std.proofs.Common.{◌≡◌, ⊎_elim, ℕ, Bool, false, IsTrue, List, [], ◌∷◌, Option, Some, None, refl, sym, ◌∙◌, subst}
use Rattle.model_core.specs.declared.label.Label.{Label}
use Rattle.model_core.specs.declared.graph.Value.TheVariants.{Int, Block}
use Rattle.model_core.specs.declared.graph.Node.{Node}
use Rattle.model_core.specs.declared.graph.Node.TheVariants.{Plain, Raw, Ephe}
use Rattle.model_core.specs.Graph.{Graph, has_label, has_no_repeats, node_at, same_label}
use Rattle.model_core.proofs.Graphs.GraphLemmas.{same_label_refl}
use Rattle.model_core.proofs.Reach.ReachLemmas.{or_left}
use Rattle.model_core.specs.Entries.{keys_are_live}
use Rattle.model_core.specs.Reach.{IsClosedUnder, edges_at}
use Rattle.weak_laws.specs.Tables.Structures.{Apart, keys_of}
use Rattle.weak_laws.specs.Tables.Thinning.{Changes, Thin, ThinnedBy}
use Rattle.weak_laws.proofs.OfTables.ChangeLemmas.{table_kept, bindings_thinned}
use Rattle.weak_laws.proofs.OfTables.GrowLemmas.{new_to_table}
use Rattle.weak_laws.proofs.OfTables.LawLemmas.{differ_law, table_keys_held}
use Rattle.weak_laws.proofs.OfTables.OnceLemmas.{lacks}
use Rattle.weak_tables.specs.Held.{IsTidy}
use Rattle.weak_tables.proofs.TidyLemmas.{has_kept, tidy_lasts}
use Rattle.weak_laws.specs.Maps.Steps.{IsThinned}
use Rattle.weak_laws.proofs.OfMaps.MapLemmas.{thinned_map}
use Rattle.weak_maps.proofs.PlaceLemmas.{thin_place}
use Rattle.weak_laws.specs.Lists.Lists.{bindings_of, map_labels, map_leaves}
use Rattle.weak_laws.specs.Lists.ListLaws.{NoDatumIsBlock, NoDatumLeft}
use Rattle.weak_laws.proofs.OfLists.FoundLemmas.{listed_once}
use Rattle.weak_laws.proofs.OfLists.HeldLemmas.{held_keys_live, map_holds_itself}
use Rattle.weak_laws.proofs.OfLists.LabelLemmas.{apart_thins, label_node, root_label}
use Rattle.weak_laws.proofs.OfLists.StepLemmas.{labels_kept, leaves_kept, leaves_thinned}
use Rattle.weak_maps.specs.Lists.Answers.{IsTidyLeaf}
use Rattle.table_text.specs.declared.version.Version.{Version}
use Rattle.table_text.specs.declared.version.Version.TheVariants.{One, Two}
use Rattle.table_run.specs.Keepers.Keepers.{Shape, IsKeeper, kept_bindings, kept_labels}
use Rattle.table_run.specs.Standing.{AreInts}
use Rattle.table_run.proofs.MachineLemmas.{datum_int}
use Rattle.table_run.proofs.SettledLemmas.{table_closed}

-- what is left of it in another graph
pub record Kept (P : Label → Type 0) (v : Version) (shape : Shape v) (n : ℕ) (g h : Graph) (root : Label) : Type 0 where
  pub keeper : IsKeeper v shape n h root
  pub labels : kept_labels v shape h root ≡ kept_labels v shape g root
  pub thinned : ThinnedBy P (kept_bindings v shape g root) (kept_bindings v shape h root)

pub keeper_kept : (P : Label → Type 0) (own : List Label) (g h : Graph) → Changes P own g h → (v : Version) (shape : Shape v) (n : ℕ) (root : Label) → Apart (kept_labels v shape g root) own → IsKeeper v shape n g root → Kept P v shape n g h root
keeper_kept P own g h changes One chains n root apart x = record {
  keeper = record { table = table_kept P own g h changes root chains apart x.table; tidy = λ l mine. has_kept IsTidy tidy_lasts P own g h changes l (apart l mine) (x.tidy l mine) };
  labels = refl;
  thinned = bindings_thinned P own g h changes root chains apart x.table;
}
keeper_kept P own g h changes Two shape n root apart x =
    let thin : IsThinned P g h root = apart_thins P own g h root x.map changes apart in record {
      keeper = record { map = thinned_map P g h root x.map thin; placed = thin_place n P g h root x.map thin x.placed };
      labels = labels_kept P g h root x.map thin;
      thinned = leaves_thinned P g h root x.map thin;
    }

-- no key is bound twice
pub keeper_once : (v : Version) (shape : Shape v) (n : ℕ) (g : Graph) (root : Label) → IsKeeper v shape n g root → IsTrue (has_no_repeats (keys_of (kept_bindings v shape g root)))
keeper_once One chains n g root x = differ_law g root chains x.table
keeper_once Two shape n g root x = listed_once n g root x.placed

-- a label of no block is none of its
pub keeper_new : (v : Version) (shape : Shape v) (n : ℕ) (g : Graph) (root l : Label) → IsKeeper v shape n g root → node_at g l ≡ None → has_label (kept_labels v shape g root) l ≡ false
keeper_new One chains n g root l x none = new_to_table g root chains l x.table none
keeper_new Two shape n g root l x none = lacks (map_labels g root) l (λ there. let t = label_node g root l x.map there in let clash : ◌≡◌ {A = Option Node} None (Some t.0) = sym none ∙ t.1 in cc)

-- its own label is one of its labels
pub keeper_root : (v : Version) (shape : Shape v) (n : ℕ) (g : Graph) (root : Label) → IsKeeper v shape n g root → IsTrue (has_label (kept_labels v shape g root) root)
keeper_root One chains n g root x = or_left (same_label root root) _ (same_label_refl root)
keeper_root Two shape n g root x = root_label g root x.map

-- a closed set that holds it holds the keys that it binds
pub keeper_keys_held : (g : Graph) (alive : Label → Bool) → IsClosedUnder g alive → ((l : Label) → IsTrue (alive l) → IsTrue (keys_are_live alive (node_at g l))) → (v : Version) (shape : Shape v) (n : ℕ) (root k : Label) → IsKeeper v shape n g root → IsTrue (alive root)
    → IsTrue (has_label (keys_of (kept_bindings v shape g root)) k) → IsTrue (alive k)
keeper_keys_held g alive closed live One chains n root k x lives there = table_keys_held g alive closed live root chains k x.table lives there
keeper_keys_held g alive closed live Two shape n root k x lives there = held_keys_live n g alive root closed live x.placed lives k there

-- no ephemeron of it has a datum without a key: so it is of each table, and of a map that was swept
abbrev pub IsSwept : (v : Version) → Shape v → Graph → Label → Type 0
IsSwept One chains g root = Unit {0}
IsSwept Two shape g root = (l : Label) → IsTrue (has_label (map_leaves g root) l) → IsTidyLeaf (node_at g l)

-- whatever its shape is
pub swept_as : (v : Version) (a b : Shape v) (g : Graph) (root : Label) → IsSwept v a g root → IsSwept v b g root
swept_as One a b g root swept = tt
swept_as Two a b g root swept = swept

leaf_lasts : (P : Label → Type 0) (o left : Option Node) → IsTidyLeaf o → ((n : Node) → o ≡ Some n → Thin P n left) → IsTidyLeaf left
leaf_lasts P None left is thin = absurd is
leaf_lasts P (Some (Plain tag fields)) left is thin = absurd is
leaf_lasts P (Some (Raw tag fields)) left is thin = absurd is
leaf_lasts P (Some (Ephe [] datum)) left is thin = absurd is
leaf_lasts P (Some (Ephe (None ∷ other ∷ keys) datum)) left is thin = absurd is
leaf_lasts P (Some (Ephe (Some k ∷ other ∷ keys) datum)) left is thin = absurd is
leaf_lasts P (Some (Ephe (Some k ∷ []) datum)) left is thin = ⊎_elim (λ same. subst IsTidyLeaf (sym same) tt) (λ gone. subst IsTidyLeaf (sym gone.3) refl) (thin (Ephe (Some k ∷ []) datum) refl)
leaf_lasts P (Some (Ephe (None ∷ []) datum)) left is thin = ⊎_elim (λ same. subst IsTidyLeaf (sym same) is) (λ gone. subst IsTidyLeaf (sym gone.3) refl) (thin (Ephe (None ∷ []) datum) refl)

-- and it stays so where nothing is written
pub swept_lasts : (P : Label → Type 0) (g h : Graph) → Changes P [] g h → (v : Version) (shape : Shape v) (n : ℕ) (root : Label) → IsKeeper v shape n g root → IsSwept v shape g root → IsSwept v shape h root
swept_lasts P g h changes One chains n root x swept = tt
swept_lasts P g h changes Two shape n root x swept =
    let thin : IsThinned P g h root = apart_thins P [] g h root x.map changes (λ m mine. refl) in
    λ l there. leaf_lasts P (node_at g l) (node_at h l) (swept l (subst (λ (ls : List Label). IsTrue (has_label ls l)) (leaves_kept P g h root x.map thin) there)) (λ m at. changes l m at refl)

-- then its blocks keep no others alive, where each datum is an integer
pub keeper_closed : (g : Graph) (alive : Label → Bool) (v : Version) (shape : Shape v) (n : ℕ) (root : Label) → IsKeeper v shape n g root → AreInts (kept_bindings v shape g root) → IsSwept v shape g root
    → (l m : Label) → IsTrue (has_label (kept_labels v shape g root) l) → IsTrue (has_label (edges_at g alive l) m) → IsTrue (has_label (kept_labels v shape g root) m)
keeper_closed g alive One chains n root x ints swept l m there h = table_closed g alive root chains x.table ints x.tidy l m there h
keeper_closed g alive Two shape n root x ints swept l m there h = map_holds_itself n g alive root x.map x.placed no_block none_left l m there h
  where
    no_block : NoDatumIsBlock g root
    no_block k datum b bound is = let t = datum_int k (bindings_of g root) datum ints bound in let clash : Int t.0 ≡ Block b = sym t.1 ∙ is in cc

    none_left : NoDatumLeft g root
    none_left e datum leaf at = subst IsTidyLeaf at (swept e leaf)
