-- Blocks that have no datum too much, after commands and after the collector's entries.
use Rattle.std.proofs.Common.{◌≡◌, ⊎_elim, false, List, [], ◌∷◌, Option, Some, None, refl, subst}
use Rattle.model_core.specs.declared.label.Label.{Label}
use Rattle.model_core.specs.declared.entry.Entry.{Entry}
use Rattle.model_core.specs.declared.graph.Value.TheVariants.{Nothing}
use Rattle.model_core.specs.declared.graph.Node.{Node}
use Rattle.model_core.specs.declared.graph.Node.TheVariants.{Plain, Raw, Ephe}
use Rattle.model_core.specs.declared.state.Sizes.{Sizes}
use Rattle.model_core.specs.Graph.{Graph, same_label, has_label, node_at}
use Rattle.model_core.proofs.Graphs.GraphLemmas.{same_label-true}
use Rattle.model_core.proofs.Reach.ReachLemmas.{true_or_false}
use Rattle.weak_laws.specs.Tables.Thinning.{Thin, Went, Changes}
use Rattle.weak_laws.specs.Tables.Stages.{graph_of}
use Rattle.weak_tables.specs.Held.{AllHave, Cleared, Has, IsBare, IsTidy}

-- what a block is that the collector leaves as it was, or empties
abbrev pub Lasts : (Node → Type 0) → Type 1
Lasts Is = (P : Label → Type 0) (n : Node) (left : Option Node) → Is n → Thin P n left → (m : Node) × (left ≡ Some m) × Is m

pub tidy_lasts : Lasts IsTidy
tidy_lasts P (Plain tag fields) left is thin = (Plain tag fields, thin, tt)
tidy_lasts P (Raw tag fields) left is thin = (Raw tag fields, thin, tt)
tidy_lasts P (Ephe [] datum) left is thin = absurd is
tidy_lasts P (Ephe (key ∷ other ∷ keys) datum) left is thin = absurd is
tidy_lasts P (Ephe (None ∷ []) datum) left is thin = ⊎_elim (λ same. (Ephe (None ∷ []) datum, same, is)) (λ gone. (Ephe (None ∷ []) Nothing, gone.3, refl)) thin
tidy_lasts P (Ephe (Some k ∷ []) datum) left is thin = ⊎_elim (λ same. (Ephe (Some k ∷ []) datum, same, tt)) (λ gone. (Ephe (None ∷ []) Nothing, gone.3, refl)) thin

pub bare_lasts : Lasts IsBare
bare_lasts P (Plain tag fields) left is thin = absurd is
bare_lasts P (Raw tag fields) left is thin = absurd is
bare_lasts P (Ephe [] datum) left is thin = absurd is
bare_lasts P (Ephe (key ∷ other ∷ keys) datum) left is thin = absurd is
bare_lasts P (Ephe (key ∷ []) datum) left is thin = ⊎_elim (λ same. (Ephe (key ∷ []) datum, same, is)) (λ gone. (Ephe (None ∷ []) Nothing, gone.3, refl)) thin

-- a label that is none of these few
pub one_other : (m l : Label) → same_label m l ≡ false → has_label (m ∷ []) l ≡ false
one_other m l other = rw other refl

module _ (Is : Node → Type 0) (lasts : Lasts Is) where
  -- a block that a command doesn't write
  pub has_kept : (P : Label → Type 0) (own : List Label) (g h : Graph) → Changes P own g h → (l : Label) → has_label own l ≡ false → Has Is g l → Has Is h l
  has_kept P own g h changes l other x = let t = lasts P x.node (node_at h l) x.is (changes l x.node x.at other) in record { node = t.0; at = t.1; is = t.2 }

  pub all_kept : (P : Label → Type 0) (g h : Graph) → Changes P [] g h → (ls : List Label) → AllHave Is g ls → AllHave Is h ls
  all_kept P g h changes ls all l there = has_kept P [] g h changes l refl (all l there)

  pub has_cleared : (z : Sizes) (old new : List Entry) → Cleared z old new → (l : Label) → Has Is (graph_of z old) l → Has Is (graph_of z new) l
  has_cleared z old new c l x =
      has_kept (Went z c.second new) [] (graph_of z c.second) (graph_of z new) c.ten.changes l refl
      (has_kept (Went z c.first c.second) [] (graph_of z c.first) (graph_of z c.second) c.nine.changes l refl
      (has_kept (Went z old c.first) [] (graph_of z old) (graph_of z c.first) c.eight.changes l refl x))

  -- two commands that write the same block, which is so then
  pub has_twice : (P Q : Label → Type 0) (m : Label) (f g h : Graph) → Changes P (m ∷ []) f g → Changes Q (m ∷ []) g h → Has Is h m → (l : Label) → Has Is f l → Has Is h l
  has_twice P Q m f g h first second mine l x = ⊎_elim
      (λ same. subst (Has Is h) (same_label-true m l same) mine)
      (λ other. has_kept Q (m ∷ []) g h second l (one_other m l other) (has_kept P (m ∷ []) f g first l (one_other m l other) x))
      (true_or_false (same_label m l))

  -- and one
  pub has_once : (P : Label → Type 0) (m : Label) (g h : Graph) → Changes P (m ∷ []) g h → Has Is h m → (l : Label) → Has Is g l → Has Is h l
  has_once P m g h changes mine l x = ⊎_elim
      (λ same. subst (Has Is h) (same_label-true m l same) mine)
      (λ other. has_kept P (m ∷ []) g h changes l (one_other m l other) x)
      (true_or_false (same_label m l))
