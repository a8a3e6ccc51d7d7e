-- The text of a line, and what a line with such a text says.
use Rattle.std.proofs.Common.{◌≡◌, ℕ, ℤ, List, [], ◌∷◌, map, length, true, refl, ap, sym, ◌∙◌, Some, None}
use Rattle.std.specs.Prelude.{Option}
use Rattle.std.specs.Fmt.{signed_decimal}
use Rattle.text_script.specs.Number.{counted_numbers}
use Rattle.text_script.specs.Faults.{texts}
use Rattle.text_script.proofs.DecimalLemmas.{is_free}
use Rattle.text_script.proofs.TextLemmas.{are_small, spaced, texts-row, spaced_free, is_free-append, row_read, counted-map, counted_read, counted_length}
use Rattle.table_text.specs.declared.line.TableLine.{TableLine}
use Rattle.table_text.specs.declared.word.Word.{Word}
use Rattle.table_text.specs.Forms.{form, word_of, made, parts, all_fit, is_writable}
use Rattle.table_text.specs.Spelling.{row_text, line_text}
use Rattle.table_text.specs.Faults.{says, says_if, row_shape, shape_of_texts, line_shape, first_out_of_range}
use Rattle.table_text.proofs.RowLemmas.{word_without_space, word_without_line_feed, word_found, word_read, parts_counted, small_if_inside, inside_if_fit, fit_if_inside, word_made, numbers_kept}

-- a row with its numbers says just that
row_said : (w : Word) (zs : List ℤ) → length zs ≡ length (form w).operands → are_small zs ≡ true → line_shape (row_text w zs) ≡ says w zs
row_said w zs n small =
    ap shape_of_texts (texts-row (form w).text zs (word_without_space w) small)
    ∙ ap (λ o. row_shape o (map signed_decimal zs)) (word_found w)
    ∙ ap (says_if w) (counted-map (length (form w).operands) zs n small)

-- the numbers of a line of the grammar are in their ranges
pub inside : (l : TableLine) → is_writable l ≡ true → first_out_of_range 1 (form (parts l).word).operands (parts l).numbers ≡ None
inside l e = inside_if_fit 1 (form (parts l).word).operands (parts l).numbers e

pub small : (l : TableLine) → is_writable l ≡ true → are_small (parts l).numbers ≡ true
small l e = small_if_inside 1 (form (parts l).word).operands (parts l).numbers (parts_counted l) (inside l e)

pub shape_line : (l : TableLine) → is_writable l ≡ true → line_shape (line_text l) ≡ says (parts l).word (parts l).numbers
shape_line l e = row_said (parts l).word (parts l).numbers (parts_counted l) (small l e)

pub line_without_line_feed : (l : TableLine) → is_writable l ≡ true → is_free 10 (line_text l) ≡ true
line_without_line_feed l e = is_free-append 10 (form (parts l).word).text (spaced (parts l).numbers) (word_without_line_feed (parts l).word) (spaced_free (parts l).numbers (small l e))

said_numbers : (v w : Word) (o : Option (List ℤ)) (zs : List ℤ) → says_if v o ≡ says w zs → (v ≡ w) × (o ≡ Some zs)
said_numbers v w None zs e = cc
said_numbers v w (Some ys) zs e = (cc, cc)

row_numbers : (o : Option Word) (ts : List (List ℕ)) (w : Word) (zs : List ℤ) → row_shape o ts ≡ says w zs → (o ≡ Some w) × (counted_numbers (length (form w).operands) ts ≡ Some zs)
row_numbers None ts w zs e = cc
row_numbers (Some v) ts w zs e =
    let p = said_numbers v w (counted_numbers (length (form v).operands) ts) zs e in
    (ap Some p.0, ap (λ x. counted_numbers (length (form x).operands) ts) (sym p.0) ∙ p.1)

-- what is known of a line that says a row with numbers in their ranges
pub record SaysLine (line : List ℕ) (l : TableLine) : Type 0 where
  pub text : line ≡ line_text l
  pub writable : is_writable l ≡ true

said_by : (line : List ℕ) (ps : List (List ℕ)) (w : Word) (zs : List ℤ) → texts line ≡ ps → shape_of_texts ps ≡ says w zs → first_out_of_range 1 (form w).operands zs ≡ None → SaysLine line (made w zs)
said_by line [] w zs same e fit = cc
said_by line (t ∷ ts) w zs same e fit =
    let p = row_numbers (word_of t) ts w zs e in
    let counted = counted_length (length (form w).operands) ts zs p.1 in
    let numbers = counted_read (length (form w).operands) ts zs p.1 (small_if_inside 1 (form w).operands zs counted fit) in
    let kept = numbers_kept w zs counted fit in
    let l = made w zs in
    record {
      text = row_read line (form w).text zs (same ∙ ap (λ x. x ∷ ts) (word_read t w p.0) ∙ ap (λ x. (form w).text ∷ x) numbers.0)
          ∙ ap (row_text w) (sym kept) ∙ ap (λ v. row_text v (parts l).numbers) (sym (word_made w zs));
      writable = ap (λ v. all_fit (form v).operands (parts l).numbers) (word_made w zs) ∙ ap (all_fit (form w).operands) kept ∙ fit_if_inside 1 (form w).operands zs fit;
    }

-- a line that says a row is its text
pub line_said : (line : List ℕ) (w : Word) (zs : List ℤ) → line_shape line ≡ says w zs → first_out_of_range 1 (form w).operands zs ≡ None → SaysLine line (made w zs)
line_said line w zs e fit = said_by line (texts line) w zs refl e fit
