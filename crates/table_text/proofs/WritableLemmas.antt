-- Lines of the grammar in a list.
use Rattle.std.proofs.Common.{◌≡◌, ℕ, zero, suc, List, [], ◌∷◌, ◌++◌, true, ◌&&◌, ap, ◌∙◌, Some}
use Rattle.std.specs.Prelude.{slice_get}
use Rattle.std.specs.List.{list_all}
use Rattle.std.proofs.lemmas.Bool.{and_parts}
use Rattle.table_text.specs.declared.line.TableLine.{TableLine}
use Rattle.table_text.specs.Forms.{is_writable}

pub writable-push : (lines : List TableLine) (l : TableLine) → list_all is_writable lines ≡ true → is_writable l ≡ true → list_all is_writable (lines ++ l ∷ []) ≡ true
writable-push [] l e f = ap (λ b. b && true) f
writable-push (x ∷ lines) l e f =
    let p = and_parts (is_writable x) (list_all is_writable lines) e in
    ap (λ b. b && list_all is_writable (lines ++ l ∷ [])) p.0 ∙ writable-push lines l p.1 f

pub writable_at : (lines : List TableLine) (i : ℕ) (l : TableLine) → list_all is_writable lines ≡ true → Some l ≡ slice_get lines i → is_writable l ≡ true
writable_at [] i l e at = cc
writable_at (x ∷ lines) zero l e at =
    let same : l ≡ x = cc in
    ap is_writable same ∙ (and_parts (is_writable x) (list_all is_writable lines) e).0
writable_at (x ∷ lines) (suc i) l e at = writable_at lines i l (and_parts (is_writable x) (list_all is_writable lines) e).1 at
