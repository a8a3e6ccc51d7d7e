-- Lines of sections.
use Rattle.std.proofs.Common.{◌≡◌, ◌≢◌, ◌⊎◌, inl, inr, ℕ, ◌<◌, ◌^◌, ◌++◌, ◌∷◌, [], ℤ, List, length, Bool, true, false, cond, not, ◌&&◌, refl, ap, sym, ◌∙◌, arith, Some, None}
use Rattle.std.specs.Prelude.{Option, nat_le, sum_by, ◌==◌}
use Rattle.std.proofs.lemmas.Bool.{and_parts}
use Rattle.std.proofs.lemmas.Bool.Decides.{nat_tests}
use Rattle.text_script.specs.declared.fault.ScriptFault.{ScriptFault}
use Rattle.text_script.specs.declared.fault.ScriptFault.TheVariants.{Memory, Order, Range, Syntax, TooMany}
use Rattle.text_script.specs.Script.{with_last}
use Rattle.text_script.specs.Spelling.{heading_text}
use Rattle.table_text.specs.declared.line.TableLine.{TableLine}
use Rattle.table_text.specs.declared.version.Version.TheVariants.{Two}
use Rattle.table_text.specs.declared.word.Word.{Word}
use Rattle.table_text.specs.Forms.{form, made, parts, is_writable}
use Rattle.table_text.specs.Texts.{most_lines}
use Rattle.table_text.specs.Spelling.{line_text}
use Rattle.table_text.specs.Faults.{LineShape, says, neither, line_shape, fault_of_shape, first_out_of_range, SaysRow}
use Rattle.table_text.specs.Sections.Spelling.{Sections, is_count, may_stand}
use Rattle.table_text.specs.Sections.Faults.{Place, heading_fault, heading_of, line_fault, fault_of_line, number_at, place_in, section_fault, shared_shape}
use Rattle.table_text.specs.Sections.Steps.{AddsLine, TakesText}
use Rattle.table_text.proofs.RowLemmas.{word_made}
use Rattle.table_text.proofs.ShapeLemmas.{SaysLine, line_said, shape_line, inside}
use Rattle.table_text.proofs.LineLemmas.{in_room, too_many, row_fault}
use Rattle.table_text.proofs.OfSections.HeadingLemmas.{heading_fine, heading_has, heading_opens, line_heads_nothing, of_memory}

abbrev order_if : Place → Word → List ℤ → Bool → Option ScriptFault
order_if p w zs none = cond none (Some (Order (number_at p))) (fault_of_shape (most_lines Two) (number_at p) p.lines (says w zs))

-- what is wrong with a line that says a row which may stand in a section
stands_in : (p : Place) (text : List ℕ) (w : Word) (zs : List ℤ) (none : Bool) → line_shape text ≡ says w zs → is_count w ≡ false → (p.headings == 0) ≡ none → section_fault p (shared_shape (line_shape text)) ≡ order_if p w zs none
stands_in p text w zs none shape shared test = ap (λ s. section_fault p (shared_shape s)) shape ∙ ap (λ b. section_fault p (cond b neither (says w zs))) shared ∙ ap (order_if p w zs) test

-- before the first heading
pub early : (p : Place) (text : List ℕ) (w : Word) (zs : List ℤ) → line_shape text ≡ says w zs → is_count w ≡ false → p.headings ≡ 0 → section_fault p (shared_shape (line_shape text)) ≡ Some (Order (number_at p))
early p text w zs shape shared none = stands_in p text w zs true shape shared (grind (arith, nat_tests, none))

-- behind one
pub begun_fault : (p : Place) (text : List ℕ) (w : Word) (zs : List ℤ) → line_shape text ≡ says w zs → is_count w ≡ false → 0 < p.headings
    → section_fault p (shared_shape (line_shape text)) ≡ fault_of_shape (most_lines Two) (number_at p) p.lines (says w zs)
begun_fault p text w zs shape shared some = stands_in p text w zs false shape shared (grind (arith, nat_tests, some))

-- the same by the numbers that were read
pub read_fault : (p : Place) (text : List ℕ) (w : Word) (ns : List ℤ) → SaysRow text w ns → is_count w ≡ false → 0 < p.headings
    → section_fault p (shared_shape (line_shape text)) ≡ fault_of_shape (most_lines Two) (number_at p) p.lines (says w ns)
read_fault p text w ns row shared some =
    begun_fault p text w row.said row.shape shared some ∙ sym (ap (fault_of_shape (most_lines Two) (number_at p) p.lines) row.shape) ∙ row_fault text w ns (most_lines Two) (number_at p) p.lines row

-- a line that says nothing here
pub wordless : (p : Place) (text : List ℕ) → shared_shape (line_shape text) ≡ neither → section_fault p (shared_shape (line_shape text)) ≡ Some (Syntax (number_at p))
wordless p text none = ap (section_fault p) none

-- a line that counts
counting : (text : List ℕ) (w : Word) (zs : List ℤ) → line_shape text ≡ says w zs → is_count w ≡ true → shared_shape (line_shape text) ≡ neither
counting text w zs shape counts = ap shared_shape shape ∙ ap (λ b. cond b neither (says w zs)) counts

pub counted_out : (text : List ℕ) (w : Word) (ns : List ℤ) → SaysRow text w ns → is_count w ≡ true → shared_shape (line_shape text) ≡ neither
counted_out text w ns row counts = counting text w row.said row.shape counts

-- a line that is added
pub adds_line : (old new : Sections) (text : List ℕ) (w : Word) (zs : List ℤ) → SaysLine text (made w zs) → is_count w ≡ false → 0 < length old → sum_by length old < most_lines Two → new ≡ with_last old (made w zs) → AddsLine old new text
adds_line old new text w zs said shared some room is = record {
  added = made w zs;
  text_is = said.text;
  stands = ap (λ v. not (is_count v) && is_writable (made w zs)) (word_made w zs) ∙ ap (λ b. not b && is_writable (made w zs)) shared ∙ said.writable;
  begun = some;
  room = room;
  sections = is;
}

-- a line of the grammar in its place has no fault
shared_said : (l : TableLine) → not (is_count (parts l).word) ≡ true → is_count (parts l).word ≡ false
shared_said l e = by (is_count (parts l).word) refl e
  where
    by : (b : Bool) → is_count (parts l).word ≡ b → not b ≡ true → is_count (parts l).word ≡ false
    by true same some = cc
    by false same some = same

pub line_fine : (d : ℕ) (p : Place) (l : TableLine) → may_stand l ≡ true → 0 < p.headings → p.lines < most_lines Two → line_fault d p (line_text l) ≡ None
line_fine d p l stands some room =
    let both = and_parts (not (is_count (parts l).word)) (is_writable l) stands in
    ap (λ o. fault_of_line d p o (line_shape (line_text l))) (line_heads_nothing l both.1)
    ∙ begun_fault p (line_text l) (parts l).word (parts l).numbers (shape_line l both.1) (shared_said l both.0) some
    ∙ in_room (most_lines Two) (number_at p) p.lines (parts l).word (parts l).numbers None room (inside l both.1)

pub stands_writable : (l : TableLine) → may_stand l ≡ true → is_writable l ≡ true
stands_writable l e = (and_parts (not (is_count (parts l).word)) (is_writable l) e).1

-- what is taken has no fault
pub taken_fine : (d : ℕ) (old new : Sections) (text : List ℕ) → d < 2 ^ 32 → TakesText d old new text → line_fault d (place_in old) text ≡ None
taken_fine d old new text few (inl opens) =
    ap (line_fault d (place_in old)) opens.text_is
    ∙ ap (λ o. fault_of_line d (place_in old) o (line_shape (heading_text (length old)))) (heading_has (length old) (omega (arith, few, opens.room)))
    ∙ heading_fine d (place_in old) opens.room
taken_fine d old new text few (inr adds) = ap (line_fault d (place_in old)) adds.text_is ∙ line_fine d (place_in old) adds.added adds.stands adds.begun adds.room

-- each line is taken, or has a fault
abbrev Goes : ℕ → Sections → List ℕ → Type 0
Goes d old text = ((new : Sections) × TakesText d old new text) ⊎ ((f : ScriptFault) × (f ≢ Memory) × (line_fault d (place_in old) text ≡ Some f))

module _ (d : ℕ) (old : Sections) (text : List ℕ) (few : d < 2 ^ 32) where
  abbrev p : Place
  p = place_in old

  heading_goes : (z : ℤ) → heading_of text ≡ Some z → Goes d old text
  heading_goes z is = by (heading_fault d p z) refl
    where
      shown : line_fault d p text ≡ heading_fault d p z
      shown = ap (λ o. fault_of_line d p o (line_shape text)) is

      no_memory : (f : ScriptFault) → heading_fault d p z ≡ Some f → f ≢ Memory
      no_memory f e = λ same. of_memory d p z (e ∙ ap Some same)

      by : (o : Option ScriptFault) → heading_fault d p z ≡ o → Goes d old text
      by None fine = inl (old ++ [] ∷ [], inl (heading_opens d old (old ++ [] ∷ []) text z few is fine refl))
      by (Some f) e = inr (f, no_memory f e, shown ∙ e)

  module _ (nothing : heading_of text ≡ None) where
    shown : line_fault d p text ≡ section_fault p (shared_shape (line_shape text))
    shown = ap (λ o. fault_of_line d p o (line_shape text)) nothing

    module _ (w : Word) (zs : List ℤ) (shape : line_shape text ≡ says w zs) (shared : is_count w ≡ false) (some : 0 < length old) where
      by_range : (out : Option ℕ) → sum_by length old < most_lines Two → first_out_of_range 1 (form w).operands zs ≡ out → Goes d old text
      by_range (Some which) room e =
          inr (
            Range (number_at p) which,
            (λ same. cc),
            shown ∙ begun_fault p text w zs shape shared some ∙ in_room (most_lines Two) (number_at p) p.lines w zs (Some which) room e,
          )
      by_range None room e = inl (with_last old (made w zs), inr (adds_line old (with_last old (made w zs)) text w zs (line_said text w zs shape e) shared some room refl))

      by_room : (many : Bool) → nat_le (most_lines Two) (sum_by length old) ≡ many → Goes d old text
      by_room true e =
          inr (
            TooMany (number_at p),
            (λ same. cc),
            shown ∙ begun_fault p text w zs shape shared some ∙ too_many (most_lines Two) (number_at p) p.lines w zs (grind (arith, nat_tests, e)),
          )
      by_room false e = by_range (first_out_of_range 1 (form w).operands zs) (grind (arith, nat_tests, e)) refl

    by_begin : (none : Bool) (w : Word) (zs : List ℤ) → (length old == 0) ≡ none → line_shape text ≡ says w zs → is_count w ≡ false → Goes d old text
    by_begin true w zs e shape shared = inr (Order (number_at p), (λ same. cc), shown ∙ early p text w zs shape shared (grind (arith, nat_tests, e)))
    by_begin false w zs e shape shared = by_room w zs shape shared (grind (arith, nat_tests, e)) (nat_le (most_lines Two) (sum_by length old)) refl

    by_count : (counts : Bool) (w : Word) (zs : List ℤ) → is_count w ≡ counts → line_shape text ≡ says w zs → Goes d old text
    by_count true w zs e shape = inr (Syntax (number_at p), (λ same. cc), shown ∙ wordless p text (counting text w zs shape e))
    by_count false w zs e shape = by_begin (length old == 0) w zs refl shape e

    by_shape : (s : LineShape) → line_shape text ≡ s → Goes d old text
    by_shape neither e = inr (Syntax (number_at p), (λ same. cc), shown ∙ wordless p text (ap shared_shape e))
    by_shape (says w zs) e = by_count (is_count w) w zs refl e

pub line_goes : (d : ℕ) (old : Sections) (text : List ℕ) → d < 2 ^ 32 → ((new : Sections) × TakesText d old new text) ⊎ ((f : ScriptFault) × (f ≢ Memory) × (line_fault d (place_in old) text ≡ Some f))
line_goes d old text few = by (heading_of text) refl
  where
    by : (o : Option ℤ) → heading_of text ≡ o → Goes d old text
    by (Some z) is = heading_goes d old text few z is
    by None is = by_shape d old text few is (line_shape text) refl
