-- The text of lines is split into them.
use Rattle.std.proofs.Common.{◌≡◌, ℕ, List, [], ◌∷◌, ◌++◌, true, refl, ap, ◌∙◌, append_assoc}
use Rattle.std.specs.Prelude.{flat_map, ◌==◌}
use Rattle.std.specs.List.{list_all, slice_split}
use Rattle.std.proofs.lemmas.Bool.{and_parts}
use Rattle.model_core.specs.Output.{line}
use Rattle.text_script.proofs.DecimalLemmas.{is_free}
use Rattle.text_script.proofs.TextLemmas.{split-free}

pub cut_lines : (lines : List (List ℕ)) (rest : List ℕ) → list_all (is_free 10) lines ≡ true → slice_split (λ b. b == 10) (flat_map line lines ++ rest) ≡ lines ++ slice_split (λ b. b == 10) rest
cut_lines [] rest free = refl
cut_lines (l ∷ lines) rest free =
    let parts = and_parts (is_free 10 l) (list_all (is_free 10) lines) free in
    ap (slice_split (λ b. b == 10)) (append_assoc (line l) (flat_map line lines) rest ∙ append_assoc l (10 ∷ []) (flat_map line lines ++ rest)) ∙ split-free 10 l (flat_map line lines ++ rest) parts.0
    ∙ ap (λ ls. l ∷ ls) (cut_lines lines rest parts.1)
