-- What the clause of a claim refuses.
use Rattle.std.proofs.Common.{◌≡◌, ◌∙◌, ℕ, List, [], ◌∷◌, ◌++◌, sym, ⊎_elim, append-nil}
use Rattle.std.proofs.lemmas.List.{append_cancel_left}
use Rattle.heap_rule.specs.declared.config.Config.{Config}
use Rattle.heap_rule.specs.declared.view.Copied.{Copied}
use Rattle.heap_rule.specs.declared.view.DomainView.{DomainView}
use Rattle.gc_copy.specs.Working.{Claimed}

-- a claim makes no copy of another block, and none that it doesn't answer
pub a_claim_makes_its_own_copy : (k : Config) (a c : ℕ) (x y : DomainView) (made : Copied) → Claimed k a x y c → y.own.pending.items ≡ x.own.pending.items ++ made ∷ [] → made ≡ record { copy = c; source = a }
a_claim_makes_its_own_copy k a c x y made claimed more =
    let items : List Copied = x.own.pending.items in ⊎_elim
    (λ (none : y.own.pending.items ≡ items). let e : made ∷ [] ≡ [] = append_cancel_left items (made ∷ []) [] (sym more ∙ (none ∙ sym (append-nil items))) in cc)
    (λ (one : y.own.pending.items ≡ items ++ record { copy = c; source = a } ∷ []). let e : made ∷ [] ≡ record { copy = c; source = a } ∷ [] = append_cancel_left items (made ∷ []) (record { copy = c; source = a } ∷ []) (sym more ∙ one) in cc)
    claimed.made

-- and no two
pub a_claim_makes_one_copy : (k : Config) (a c : ℕ) (x y : DomainView) (first second : Copied) (rest : List Copied) → Claimed k a x y c → y.own.pending.items ≡ x.own.pending.items ++ first ∷ second ∷ rest → ⊥
a_claim_makes_one_copy k a c x y first second rest claimed more =
    let items : List Copied = x.own.pending.items in ⊎_elim
    (λ (none : y.own.pending.items ≡ items). let e : first ∷ second ∷ rest ≡ [] = append_cancel_left items (first ∷ second ∷ rest) [] (sym more ∙ (none ∙ sym (append-nil items))) in cc)
    (λ (one : y.own.pending.items ≡ items ++ record { copy = c; source = a } ∷ []). let e : first ∷ second ∷ rest ≡ record { copy = c; source = a } ∷ [] = append_cancel_left items (first ∷ second ∷ rest) (record { copy = c; source = a } ∷ []) (sym more ∙ one) in cc)
    claimed.made
