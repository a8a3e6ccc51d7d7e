-- Headings of sections.
use Rattle.std.proofs.Common.{◌≡◌, ℕ, zero, suc, ◌-◌, ◌<◌, ◌^◌, min, neg_ℤ, subst, to_z, of_z, to_z-of_z, SFits, w64, ◌++◌, ◌∷◌, [], ℤ, pos, negsuc, List, map, length, Bool, true, false, cond, refl, ap, sym, ◌∙◌, arith, Some, None}
use Rattle.std.specs.Prelude.{Option, option_map, bytes_eq, codes, slice_index_or}
use Rattle.std.specs.Ordering.{int_eq}
use Rattle.std.specs.Fmt.{signed_decimal}
use Rattle.std.proofs.lemmas.Int.{ints}
use Rattle.std.proofs.lemmas.Bool.Decides.{nat_tests, Decides-int_eq}
use Rattle.text_script.specs.declared.fault.ScriptFault.{ScriptFault}
use Rattle.text_script.specs.declared.fault.ScriptFault.TheVariants.{Memory, Order, Range}
use Rattle.text_script.specs.declared.form.Word.{Word as ScriptWord}
use Rattle.text_script.specs.declared.version.Version.TheVariants.{One}
use Rattle.text_script.specs.Number.{clipped, counted_numbers}
use Rattle.text_script.specs.Spelling.{heading_text}
use Rattle.text_script.specs.Faults.{LineShape as ScriptShape, heading, command, neither, texts, is_section, shape_of_texts, heading_shape, command_shape, row_shape, line_shape as script_shape}
use Rattle.text_script.specs.Forms.{form as script_form, word_of as script_word_of}
use Rattle.text_script.proofs.ShapeLemmas.{heading_said, shape-heading}
use Rattle.text_script.proofs.TextLemmas.{texts-row}
use Rattle.table_text.specs.declared.line.TableLine.{TableLine}
use Rattle.table_text.specs.declared.word.Word.{Word}
use Rattle.table_text.specs.declared.word.Word.TheVariants as word
use Rattle.table_text.specs.Forms.{form, parts, is_writable}
use Rattle.table_text.specs.Spelling.{line_text}
use Rattle.table_text.specs.Sections.Spelling.{Sections}
use Rattle.table_text.specs.Sections.Faults.{Place, heading_fault, heading_of, number_at, number_if, place_in}
use Rattle.table_text.specs.Sections.Steps.{OpensSection}
use Rattle.table_text.proofs.RowLemmas.{word_without_space}
use Rattle.table_text.proofs.ShapeLemmas.{small}

-- a line whose first text is another is no heading
no_number_command : (w : ScriptWord) (o : Option (List ℤ)) → number_if (command_shape w o) ≡ None
no_number_command w None = refl
no_number_command w (Some zs) = refl

no_number_row : (o : Option ScriptWord) (ts : List (List ℕ)) → number_if (row_shape o ts) ≡ None
no_number_row None ts = refl
no_number_row (Some w) ts = no_number_command w (counted_numbers (length (script_form w).operands) ts)

abbrev number_by : Bool → List ℕ → List (List ℕ) → Option ℤ
number_by is t ts = number_if (cond is (heading_shape (counted_numbers 1 ts)) (row_shape (script_word_of One t) ts))

pub no_heading : (text t : List ℕ) (ts : List (List ℕ)) → texts text ≡ t ∷ ts → bytes_eq t (codes "domain") ≡ false → heading_of text ≡ None
no_heading text t ts e other = ap (λ ps. number_if (shape_of_texts One ps)) e ∙ ap (λ b. number_by b t ts) other ∙ no_number_row (script_word_of One t) ts

-- one whose first text is the word of headings has the number behind it
pub heading_number : (text t : List ℕ) (ts : List (List ℕ)) → texts text ≡ t ∷ ts → bytes_eq t (codes "domain") ≡ true → heading_of text ≡ number_if (heading_shape (counted_numbers 1 ts))
heading_number text t ts e is = ap (λ ps. number_if (shape_of_texts One ps)) e ∙ ap (λ b. number_by b t ts) is

pub no_number : (o : Option (List ℤ)) → None ≡ option_map (map clipped) o → None ≡ option_map clipped (number_if (heading_shape o))
no_number None e = refl
no_number (Some zs) e = cc

one_number : (o : Option (List ℤ)) (ns : List ℤ) → Some ns ≡ option_map (map clipped) o → length ns ≡ 1 → Some (slice_index_or ns 0 (pos 0)) ≡ option_map clipped (number_if (heading_shape o))
one_number None ns e n = cc
one_number (Some []) ns e n =
    let same : ns ≡ [] = cc in
    absurd (omega (arith, n, ap length same))
one_number (Some (z ∷ [])) ns e n =
    let same : ns ≡ clipped z ∷ [] = cc in
    ap (λ xs. Some (slice_index_or xs 0 (pos 0))) same
one_number (Some (z ∷ y ∷ zs)) ns e n =
    let same : ns ≡ clipped z ∷ clipped y ∷ map clipped zs = cc in
    absurd (omega (arith, n, ap length same))

pub clipped_fits : (z : ℤ) → SFits w64 (clipped z)
clipped_fits (pos n) = record { sfits = (let small : min n (2 ^ 63 - 1) < 2 ^ 63 = omega arith in small) }
clipped_fits (negsuc n) = negative (min (suc n) (2 ^ 63 - 1)) (omega arith) (omega arith)
  where
    negative : (m : ℕ) → 0 < m → m < 2 ^ 63 → SFits w64 (neg_ℤ (pos m))
    negative zero some few = absurd (omega arith)
    negative (suc m) some few = record { sfits = (let small : m < 2 ^ 63 = omega arith in small) }

first_fits : (o : Option (List ℤ)) (ns : List ℤ) → Some ns ≡ option_map (map clipped) o → length ns ≡ 1 → to_z w64 (of_z w64 (slice_index_or ns 0 (pos 0))) ≡ slice_index_or ns 0 (pos 0)
first_fits None ns e n = cc
first_fits (Some []) ns e n =
    let same : ns ≡ [] = cc in
    absurd (omega (arith, n, ap length same))
first_fits (Some (z ∷ zs)) ns e n =
    let same : ns ≡ clipped z ∷ map clipped zs = cc in
    subst (λ (xs : List ℤ). to_z w64 (of_z w64 (slice_index_or xs 0 (pos 0))) ≡ slice_index_or xs 0 (pos 0)) (sym same) (to_z-of_z (clipped_fits z))

-- the number that was read
pub number_read : (o : Option (List ℤ)) (ns slice : List ℤ) (number : ℤ) → Some ns ≡ option_map (map clipped) o → length ns ≡ 1 → slice ≡ ns → number ≡ slice_index_or slice 0 (pos 0) → Some (to_z w64 (of_z w64 number)) ≡ option_map clipped (number_if (heading_shape o))
number_read o ns slice number e n same is =
    let first : number ≡ slice_index_or ns 0 (pos 0) = is ∙ ap (λ xs. slice_index_or xs 0 (pos 0)) same in
    ap (λ (z : ℤ). Some (to_z w64 (of_z w64 z))) first ∙ ap Some (first_fits o ns e n) ∙ one_number o ns e n

-- the heading of a section has its number
pub heading_has : (n : ℕ) → n < 2 ^ 63 → heading_of (heading_text n) ≡ Some (pos n)
heading_has n small = ap number_if (shape-heading One n small)

-- and a line of the grammar is none
no_heading_word : (w : Word) → bytes_eq (form w).text (codes "domain") ≡ false
no_heading_word word.Key = refl
no_heading_word _ = refl

pub line_heads_nothing : (l : TableLine) → is_writable l ≡ true → heading_of (line_text l) ≡ None
line_heads_nothing l fit =
    no_heading (line_text l) (form (parts l).word).text (map signed_decimal (parts l).numbers) (texts-row (form (parts l).word).text (parts l).numbers (word_without_space (parts l).word) (small l fit)) (no_heading_word (parts l).word)

-- clipping moves no number into or out of the sections
clip_inside : (d : ℕ) (z : ℤ) → d < 2 ^ 32 → is_section d z ≡ true → clipped z ≡ z
clip_inside d (pos n) few e = grind (arith, ints, nat_tests)
clip_inside d (negsuc n) few e = cc

clip_outside : (d : ℕ) (z : ℤ) → d < 2 ^ 32 → is_section d z ≡ false → is_section d (clipped z) ≡ false
clip_outside d (pos n) few e = grind (arith, ints, nat_tests)
clip_outside d (negsuc n) few e = grind (arith, ints, nat_tests)

abbrev fault_by : Place → Bool → Bool → Option ScriptFault
fault_by p inside next = cond inside (cond next None (Some (Order (number_at p)))) (Some (Range (number_at p) 1))

pub heading_fault-clipped : (d : ℕ) (p : Place) (z : ℤ) → d < 2 ^ 32 → heading_fault d p (clipped z) ≡ heading_fault d p z
heading_fault-clipped d p z few = by (is_section d z) refl
  where
    by : (inside : Bool) → is_section d z ≡ inside → heading_fault d p (clipped z) ≡ heading_fault d p z
    by true e = ap (heading_fault d p) (clip_inside d z few e)
    by false e =
        ap (λ b. fault_by p b (int_eq (clipped z) (pos p.headings))) (clip_outside d z few e)
        ∙ sym (ap (λ b. fault_by p b (int_eq z (pos p.headings))) e)

-- a heading with which nothing is wrong is the next
pub heading_right : (d : ℕ) (p : Place) (z : ℤ) → heading_fault d p z ≡ None → (z ≡ pos p.headings) × (p.headings < d)
heading_right d p z e = by (is_section d z) (int_eq z (pos p.headings)) refl refl e
  where
    by : (inside next : Bool) → is_section d z ≡ inside → int_eq z (pos p.headings) ≡ next → fault_by p inside next ≡ None → (z ≡ pos p.headings) × (p.headings < d)
    by true true within is none =
        let same : z ≡ pos p.headings = (Decides-int_eq z (pos p.headings)).0 is in
        let test : is_section d (pos p.headings) ≡ true = ap (is_section d) (sym same) ∙ within in
        (same, grind (arith, nat_tests, test))
    by true false within is none = cc
    by false next within is none = cc

-- and no fault of a heading is want of memory
pub of_memory : (d : ℕ) (p : Place) (z : ℤ) → heading_fault d p z ≡ Some Memory → ⊥
of_memory d p z e = by (is_section d z) (int_eq z (pos p.headings)) e
  where
    by : (inside next : Bool) → fault_by p inside next ≡ Some Memory → ⊥
    by true true none = cc
    by true false none = cc
    by false next none = cc

pub heading_fine : (d : ℕ) (p : Place) → p.headings < d → heading_fault d p (pos p.headings) ≡ None
heading_fine d p room =
    let test : is_section d (pos p.headings) ≡ true = grind (arith, nat_tests) in
    ap (λ b. fault_by p b (int_eq (pos p.headings) (pos p.headings))) test ∙ ap (fault_by p true) ((Decides-int_eq (pos p.headings) (pos p.headings)).1 refl)

number_said : (s : ScriptShape) (z : ℤ) → number_if s ≡ Some z → s ≡ heading z
number_said (heading y) z e = cc
number_said (command w zs) z e = cc
number_said neither z e = cc

pub heading_opens : (d : ℕ) (old new : Sections) (text : List ℕ) (z : ℤ) → d < 2 ^ 32 → heading_of text ≡ Some z → heading_fault d (place_in old) z ≡ None → new ≡ old ++ [] ∷ [] → OpensSection d old new text
heading_opens d old new text z few is fine opened =
    let right = heading_right d (place_in old) z fine in
    record {
      text_is = heading_said One text (length old) (omega (arith, few, right.1)) (number_said (script_shape One text) z is ∙ ap heading right.0);
      room = right.1;
      sections = opened;
    }
