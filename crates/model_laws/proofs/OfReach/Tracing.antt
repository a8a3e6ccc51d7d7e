-- The way to a block, followed back.
use Rattle.std.proofs.Common.{◌≡◌, ◌∙◌, ℕ, ◌<◌, List, [], ◌∷◌, ◌++◌, length, get_or, reverse, slice_get, option_and_then, refl, ap, sym, subst, Option, Some}
use Rattle.std.proofs.lemmas.List.{reverse-append}
use Rattle.std.proofs.lemmas.Option.{same_Some, slice_get-get_or}
use Rattle.model_core.specs.declared.label.Label.{Label}
use Rattle.model_laws.specs.declared.reach.seen.Seen.{Seen}
use Rattle.model_laws.specs.declared.reach.seen.Origin.{Origin}
use Rattle.model_laws.specs.declared.reach.seen.Origin.TheVariants.{Register, Field}
use Rattle.model_laws.specs.Reach.Ways.{Edges, follow}
use Rattle.model_laws.specs.Reach.Exploring.{AllTraced, IsTraced, IsOrdered, IsBefore}

-- the block at a place, by a default
pub seen_at : (seen : List Seen) (j : ℕ) (d : Seen) → j < length seen → slice_get seen j ≡ Some (get_or seen j d)
seen_at seen j d inside = slice_get-get_or seen j d inside

-- what led to it by a field stands before it
pub field_before : (seen : List Seen) (j : ℕ) (d : Seen) (block index : ℕ) → IsOrdered seen → j < length seen → (get_or seen j d).origin ≡ Field block index → block < j
field_before seen j d block index ordered inside is = subst (IsBefore j) is (ordered j (get_or seen j d) (seen_at seen j d inside))

-- one field more at the front
pub traced_back : (f : Edges) (roots : ℕ → Option Label) (seen : List Seen) (here : ℕ) (d a b : Seen) (block index : ℕ) (fields : List ℕ) → AllTraced f roots seen → here < length seen → (get_or seen here d).origin ≡ Field block index
    → slice_get seen block ≡ Some b → follow f (Some (get_or seen here d).label) (reverse fields) ≡ Some a.label → follow f (Some b.label) (reverse (fields ++ index ∷ [])) ≡ Some a.label
traced_back f roots seen here d a b block index fields traced inside is found leads =
    let h : Seen = get_or seen here d in
    let t = subst (IsTraced f roots seen h.label) is (traced here h (seen_at seen here d inside)) in
    let same : t.0 ≡ b = same_Some t.0 b (sym t.1 ∙ found) in
    let refer : f b.label index ≡ Some h.label = ap (λ (x : Seen). f x.label index) (sym same) ∙ t.2 in
    ap (follow f (Some b.label)) (reverse-append fields (index ∷ [])) ∙ (ap (λ (o : Option Label). follow f o (reverse fields)) refer ∙ leads)

-- and a register before the first
pub traced_root : (f : Edges) (roots : ℕ → Option Label) (seen : List Seen) (here : ℕ) (d a : Seen) (register : ℕ) (fields found : List ℕ) → AllTraced f roots seen → here < length seen → (get_or seen here d).origin ≡ Register register
    → found ≡ reverse fields → follow f (Some (get_or seen here d).label) (reverse fields) ≡ Some a.label → follow f (roots register) found ≡ Some a.label
traced_root f roots seen here d a register fields found traced inside is back leads =
    let h : Seen = get_or seen here d in
    let t : roots register ≡ Some h.label = subst (IsTraced f roots seen h.label) is (traced here h (seen_at seen here d inside)) in
    ap (follow f (roots register)) back ∙ (ap (λ (o : Option Label). follow f o (reverse fields)) t ∙ leads)
