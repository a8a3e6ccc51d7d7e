-- A text split at marks: at the first of a mark, and the texts of a line.
use Rattle.std.specs.Prelude.{ℕ, ℤ, false, Bool, List, [], ◌∷◌, Option, None, Some, option_map, option_and_then, ◌==◌, if◌then◌else◌}
use Rattle.text_script.specs.Number.{counted_numbers}
use Rattle.text_script.specs.Faults.{texts}

-- what stands before the first mark, and what stands after it
abbrev pub split_at_mark : ℕ → List ℕ → Option (List ℕ × List ℕ)
split_at_mark mark [] = None
split_at_mark mark (b ∷ bs) = if b == mark then Some ([], bs) else option_map (λ p. (b ∷ p.0, p.1)) (split_at_mark mark bs)

-- whether the first of the bytes is this one
abbrev pub begins_with : ℕ → List ℕ → Bool
begins_with byte [] = false
begins_with byte (b ∷ bs) = b == byte

-- what stands before the first space or line feed
abbrev pub first_text : List ℕ → List ℕ
first_text [] = []
first_text (b ∷ bs) = if b == 32 then [] else if b == 10 then [] else b ∷ first_text bs

-- the texts of the line that begins the bytes, and what stands behind its line feed, if it has one
abbrev pub line_texts : List ℕ → Option (List (List ℕ) × List ℕ)
line_texts bytes = option_map (λ p. (texts p.0, p.1)) (split_at_mark 10 bytes)

-- the same behind a text: none where a line feed ends it, and those behind the space where one does
abbrev pub texts_behind : List ℕ → Option (List (List ℕ) × List ℕ)
texts_behind [] = None
texts_behind (b ∷ bs) = if b == 10 then Some ([], bs) else if b == 32 then line_texts bs else None

-- the numbers of the line behind a text, if they are exactly so many, and what stands behind its line feed
abbrev pub numbers_behind : ℕ → List ℕ → Option (List ℤ × List ℕ)
numbers_behind count bytes = option_and_then (λ p. option_map (λ zs. (zs, p.1)) (counted_numbers count p.0)) (texts_behind bytes)

-- what was read, if it ends at this place
abbrev pub read_whole : {A : Type 0} → ℕ → Option (A × ℕ) → Option A
read_whole end None = None
read_whole end (Some p) = if p.1 == end then Some p.0 else None
