-- Where an entry of a history stands: in its first part, or behind it.
use Rattle.std.proofs.Common.{◌≡◌, ◌⊎◌, inl, inr, ℕ, true, false, List, [], ◌∷◌, ◌++◌, refl, ap, sym, ◌∙◌, subst, append_assoc, append-nil}
use Rattle.model_core.specs.declared.entry.Entry.{Entry}
use Rattle.model_core.specs.Fronts.{NoneOf}
use Rattle.model_core.specs.History.{IsPrefix, is_entry_of}
use Rattle.model_core.proofs.Histories.FrontLemmas.{none_cons}

abbrev Stands : List Entry → List Entry → List Entry → Entry → List Entry → Type 0
Stands x y a e b = ((rest : List Entry) × (x ≡ a ++ e ∷ rest)) ⊎ ((more : List Entry) × (a ≡ x ++ more) × (more ++ e ∷ b ≡ y))

stands : (x y a : List Entry) (e : Entry) (b : List Entry) → a ++ e ∷ b ≡ x ++ y → Stands x y a e b
stands [] y a e b is = inr (a, refl, is)
stands (f ∷ x) y [] e b is = inl (x, (let same : f ≡ e = cc in ap (λ (g : Entry). g ∷ x) same))
stands (f ∷ x) y (g ∷ a) e b is = go (stands x y a e b (let rest : a ++ e ∷ b ≡ x ++ y = cc in rest))
  where
    same : f ≡ g
    same = cc

    go : Stands x y a e b → Stands (f ∷ x) y (g ∷ a) e b
    go (inl (rest, at)) = inl (rest, ap (λ (h : List Entry). f ∷ h) at ∙ ap (λ (k : Entry). k ∷ (a ++ e ∷ rest)) same)
    go (inr (more, at, behind)) = inr (more, ap (λ (h : List Entry). g ∷ h) at ∙ ap (λ (k : Entry). k ∷ (x ++ more)) (sym same), behind)

-- an entry that is none of a domain's is in no part of a list without them
pub mine_not_there : (d : ℕ) (between a : List Entry) (e : Entry) (b : List Entry) → NoneOf d between → between ≡ a ++ e ∷ b → is_entry_of d e ≡ false
mine_not_there d between [] e b none is = (none_cons d e b (subst (NoneOf d) is none)).0
mine_not_there d [] (f ∷ a) e b none is = cc
mine_not_there d (g ∷ between) (f ∷ a) e b none is = mine_not_there d between a e b (none_cons d g between none).1 (let rest : between ≡ a ++ e ∷ b = cc in rest)

last_one : (more : List Entry) (e : Entry) (b : List Entry) (c : Entry) → more ++ e ∷ b ≡ c ∷ [] → (more ≡ []) × (e ≡ c)
last_one [] e b c is = (refl, cc)
last_one (f ∷ []) e b c is = cc
last_one (f ∷ g ∷ more) e b c is = cc

-- an entry of domain d in a history that has grown by others' entries and one of the domain's stands before, or is that one
pub own_entry : (d : ℕ) (old between : List Entry) (c : Entry) (front : List Entry) (e : Entry) → NoneOf d between → IsPrefix (front ++ e ∷ []) ((old ++ between) ++ c ∷ []) → is_entry_of d e ≡ true
    → IsPrefix (front ++ e ∷ []) old ⊎ ((front ≡ old ++ between) × (e ≡ c))
own_entry d old between c front e none within mine = go (stands (old ++ between) (c ∷ []) front e within.rest whole)
  where
    whole : front ++ e ∷ within.rest ≡ (old ++ between) ++ c ∷ []
    whole = sym (append_assoc front (e ∷ []) within.rest) ∙ sym within.appends

    early : (rest : List Entry) → Stands old between front e rest → IsPrefix (front ++ e ∷ []) old ⊎ ((front ≡ old ++ between) × (e ≡ c))
    early rest (inl (more, at)) = inl (record { rest = more; appends = at ∙ sym (append_assoc front (e ∷ []) more) })
    early rest (inr (more, at, behind)) = let clash : false ≡ true = sym (mine_not_there d between more e rest none (sym behind)) ∙ mine in cc

    go : Stands (old ++ between) (c ∷ []) front e within.rest → IsPrefix (front ++ e ∷ []) old ⊎ ((front ≡ old ++ between) × (e ≡ c))
    go (inl (rest, at)) = early rest (stands old between front e rest (sym at))
    go (inr (more, at, behind)) =
        let last = last_one more e within.rest c behind in
        inr (at ∙ (ap (λ (h : List Entry). (old ++ between) ++ h) last.0 ∙ append-nil (old ++ between)), last.1)
