-- A text by its first part and the rest.
use Rattle.std.proofs.Common.{◌≡◌, ℕ, List, [], ◌∷◌, Bool, true, false, cond, refl, ap, sym, ◌∙◌, None, Some}
use Rattle.std.specs.Prelude.{Option, option_map, ◌==◌}
use Rattle.std.specs.List.{slice_split, onto_first}
use Rattle.text_script.specs.Split.{split_at_mark}

-- the parts of a text whose first part and rest these are
abbrev pub split_by : ℕ → List ℕ → Option (List ℕ × List ℕ) → List (List ℕ)
split_by mark bytes None = bytes ∷ []
split_by mark bytes (Some p) = p.0 ∷ slice_split (λ b. b == mark) p.1

moved : (mark b : ℕ) (bs : List ℕ) (o : Option (List ℕ × List ℕ)) → onto_first b (split_by mark bs o) ≡ split_by mark (b ∷ bs) (option_map (λ p. (b ∷ p.0, p.1)) o)
moved mark b bs None = refl
moved mark b bs (Some p) = refl

at_mark : (t : Bool) (mark b : ℕ) (bs : List ℕ) → slice_split (λ x. x == mark) bs ≡ split_by mark bs (split_at_mark mark bs) →
    cond t ([] ∷ slice_split (λ x. x == mark) bs) (onto_first b (slice_split (λ x. x == mark) bs))
    ≡ split_by mark (b ∷ bs) (cond t (Some ([], bs)) (option_map (λ p. (b ∷ p.0, p.1)) (split_at_mark mark bs)))
at_mark true mark b bs e = refl
at_mark false mark b bs e = ap (onto_first b) e ∙ moved mark b bs (split_at_mark mark bs)

pub split_is : (mark : ℕ) (bytes : List ℕ) → slice_split (λ b. b == mark) bytes ≡ split_by mark bytes (split_at_mark mark bytes)
split_is mark [] = refl
split_is mark (b ∷ bs) = at_mark (b == mark) mark b bs (split_is mark bs)

-- a text whose first part was split off
pub split_found : (mark : ℕ) (bytes part rest : List ℕ) → Some (part, rest) ≡ split_at_mark mark bytes → slice_split (λ b. b == mark) bytes ≡ part ∷ slice_split (λ b. b == mark) rest
split_found mark bytes part rest e = split_is mark bytes ∙ ap (split_by mark bytes) (sym e)

-- a text without the mark
pub split_whole : (mark : ℕ) (bytes : List ℕ) → None ≡ split_at_mark mark bytes → slice_split (λ b. b == mark) bytes ≡ bytes ∷ []
split_whole mark bytes e = split_is mark bytes ∙ ap (split_by mark bytes) (sym e)
