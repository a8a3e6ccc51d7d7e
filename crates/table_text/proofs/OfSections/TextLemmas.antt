-- The lines of sections: how they grow, and how a text is split into them.
use Rattle.std.proofs.Common.{◌≡◌, ℕ, ◌+◌, ◌<◌, ◌≤◌, ◌^◌, ℤ, pos, to_z, of_z, to_z-of_z, w64, List, [], ◌∷◌, ◌++◌, map, length, length-append, true, ◌&&◌, refl, ap, sym, ◌∙◌, arith, append_assoc, subst, inl, inr, Some, None, Ok, Err, IfErr}
use Rattle.std.specs.Prelude.{Option, Result, option_map, sum_by, ◌==◌, OnOk}
use Rattle.std.specs.List.{list_all, slice_split}
use Rattle.std.proofs.lemmas.List.{append-nil}
use Rattle.std.proofs.lemmas.Bool.{and_parts}
use Rattle.text_script.specs.declared.fault.ScriptFault.{ScriptFault}
use Rattle.text_script.specs.Faults.{IsFaultUnlessMemory}
use Rattle.text_script.specs.Number.{clipped}
use Rattle.text_script.specs.Script.{with_last}
use Rattle.text_script.specs.Spelling.{heading_text}
use Rattle.text_script.proofs.DecimalLemmas.{is_free}
use Rattle.text_script.proofs.ScriptLemmas.{length-with_last, total-push, total-with_last}
use Rattle.text_script.proofs.SectionLemmas.{cut_lines, free_append}
use Rattle.text_script.proofs.ShapeLemmas.{heading_without_line_feed}
use Rattle.table_text.specs.declared.line.TableLine.{TableLine}
use Rattle.table_text.specs.declared.version.Version.TheVariants.{Two}
use Rattle.table_text.specs.Texts.{most_lines}
use Rattle.table_text.specs.Spelling.{first_line, line_text}
use Rattle.table_text.specs.Faults.{line_shape}
use Rattle.table_text.specs.Sections.Spelling.{Sections, may_stand, lines_from, sections_lines, sections_spelling}
use Rattle.table_text.specs.Sections.Faults.{Place, behind, fault_of_line, heading_fault, heading_of, line_fault, place_in, section_fault, shared_shape}
use Rattle.table_text.specs.Sections.Steps.{TakesText}
use Rattle.table_text.proofs.ShapeLemmas.{line_without_line_feed}
use Rattle.table_text.proofs.OfSections.HeadingLemmas.{clipped_fits, heading_fault-clipped, heading_has, heading_opens, line_heads_nothing}
use Rattle.table_text.proofs.OfSections.LineLemmas.{stands_writable}

abbrev section_lines : ℕ → List TableLine → List (List ℕ)
section_lines n ls = heading_text n ∷ map line_text ls

-- the texts of lines, one more at the end
map-push : (ls : List TableLine) (l : TableLine) → map line_text (ls ++ l ∷ []) ≡ map line_text ls ++ line_text l ∷ []
map-push [] l = refl
map-push (x ∷ ls) l = ap (λ ts. line_text x ∷ ts) (map-push ls l)

-- a further section adds its heading
lines-opened : (n : ℕ) (sections : Sections) → lines_from n (sections ++ [] ∷ []) ≡ lines_from n sections ++ heading_text (n + length sections) ∷ []
lines-opened n [] = ap (λ k. heading_text k ∷ []) (omega arith)
lines-opened n (ls ∷ sections) =
    ap (λ ts. section_lines n ls ++ ts) (lines-opened (n + 1) sections)
    ∙ sym (append_assoc (section_lines n ls) (lines_from (n + 1) sections) _)
    ∙ ap (λ k. (section_lines n ls ++ lines_from (n + 1) sections) ++ heading_text k ∷ []) (omega arith)

-- a further line adds its text
lines-pushed : (n : ℕ) (sections : Sections) (l : TableLine) → 0 < length sections → lines_from n (with_last sections l) ≡ lines_from n sections ++ line_text l ∷ []
lines-pushed n [] l h = absurd (omega arith)
lines-pushed n (ls ∷ []) l h =
    append-nil (section_lines n (ls ++ l ∷ [])) ∙ ap (λ ts. heading_text n ∷ ts) (map-push ls l) ∙ ap (λ ts. ts ++ line_text l ∷ []) (sym (append-nil (section_lines n ls)))
lines-pushed n (ls ∷ next ∷ sections) l h =
    ap (λ ts. section_lines n ls ++ ts) (lines-pushed (n + 1) (next ∷ sections) l (omega arith)) ∙ sym (append_assoc (section_lines n ls) (lines_from (n + 1) (next ∷ sections)) _)

-- what is taken is a line more
pub lines_grow : (d : ℕ) (old new : Sections) (text : List ℕ) → TakesText d old new text → sections_lines new ≡ sections_lines old ++ text ∷ []
lines_grow d old new text (inl opens) =
    let same : 0 + length old ≡ length old = omega arith in
    ap sections_lines opens.sections ∙ ap (λ ts. first_line Two ∷ ts) (lines-opened 0 old ∙ ap (λ k. lines_from 0 old ++ heading_text k ∷ []) same)
    ∙ ap (λ t. sections_lines old ++ t ∷ []) (sym opens.text_is)
lines_grow d old new text (inr adds) =
    ap sections_lines adds.sections ∙ ap (λ ts. first_line Two ∷ ts) (lines-pushed 0 old adds.added adds.begun) ∙ ap (λ t. sections_lines old ++ t ∷ []) (sym adds.text_is)

place_is : (p q : Place) → p.headings ≡ q.headings → p.lines ≡ q.lines → p ≡ q
place_is p q e f = λ i. record { headings = e i; lines = f i }

-- and the place behind it is the next
pub place_grows : (d : ℕ) (old new : Sections) (text : List ℕ) → d < 2 ^ 32 → TakesText d old new text → place_in new ≡ behind (place_in old) (heading_of text)
place_grows d old new text few (inl opens) =
    let heads : heading_of text ≡ Some (pos (length old)) = ap heading_of opens.text_is ∙ heading_has (length old) (omega (arith, few, opens.room)) in
    let more : length new ≡ length old + 1 = ap length opens.sections ∙ length-append old ([] ∷ []) in
    let total : sum_by length new ≡ sum_by length old = ap (sum_by length) opens.sections ∙ total-push old in
    place_is (place_in new) (record { headings = length old + 1; lines = sum_by length old }) more total ∙ ap (behind (place_in old)) (sym heads)
place_grows d old new text few (inr adds) =
    let heads : heading_of text ≡ None = ap heading_of adds.text_is ∙ line_heads_nothing adds.added (stands_writable adds.added adds.stands) in
    let more : length new ≡ length old = ap length adds.sections ∙ length-with_last old adds.added in
    let total : sum_by length new ≡ sum_by length old + 1 = ap (sum_by length) adds.sections ∙ total-with_last old adds.added adds.begun in
    place_is (place_in new) (record { headings = length old; lines = sum_by length old + 1 }) more total ∙ ap (behind (place_in old)) (sym heads)

-- each line may still stand
all-push : (sections : Sections) → list_all (list_all may_stand) sections ≡ true → list_all (list_all may_stand) (sections ++ [] ∷ []) ≡ true
all-push [] e = refl
all-push (ls ∷ sections) e =
    let p = and_parts (list_all may_stand ls) (list_all (list_all may_stand) sections) e in
    ap (λ b. b && list_all (list_all may_stand) (sections ++ [] ∷ [])) p.0 ∙ all-push sections p.1

one_more : (ls : List TableLine) (l : TableLine) → list_all may_stand ls ≡ true → may_stand l ≡ true → list_all may_stand (ls ++ l ∷ []) ≡ true
one_more [] l e f = ap (λ b. b && true) f
one_more (x ∷ ls) l e f =
    let p = and_parts (may_stand x) (list_all may_stand ls) e in
    ap (λ b. b && list_all may_stand (ls ++ l ∷ [])) p.0 ∙ one_more ls l p.1 f

all-with_last : (sections : Sections) (l : TableLine) → list_all (list_all may_stand) sections ≡ true → may_stand l ≡ true → list_all (list_all may_stand) (with_last sections l) ≡ true
all-with_last [] l e f = refl
all-with_last (ls ∷ []) l e f =
    let p = and_parts (list_all may_stand ls) true e in
    ap (λ b. b && true) (one_more ls l p.0 f)
all-with_last (ls ∷ next ∷ sections) l e f =
    let p = and_parts (list_all may_stand ls) (list_all (list_all may_stand) (next ∷ sections)) e in
    ap (λ b. b && list_all (list_all may_stand) (with_last (next ∷ sections) l)) p.0 ∙ all-with_last (next ∷ sections) l p.1 f

-- sections within their limits
pub record AreWithin (d : ℕ) (sections : Sections) : Type 0 where
  pub few_sections : length sections ≤ d
  pub writable : list_all (list_all may_stand) sections ≡ true
  pub few_lines : sum_by length sections ≤ most_lines Two

pub within_still : (d : ℕ) (old new : Sections) (text : List ℕ) → AreWithin d old → TakesText d old new text → AreWithin d new
within_still d old new text w (inl opens) = record {
  few_sections = omega (arith, opens.room, ap length opens.sections, length-append old ([] ∷ []));
  writable = ap (list_all (list_all may_stand)) opens.sections ∙ all-push old w.writable;
  few_lines = omega (arith, w.few_lines, ap (sum_by length) opens.sections, total-push old);
}
within_still d old new text w (inr adds) = record {
  few_sections = omega (arith, w.few_sections, ap length adds.sections, length-with_last old adds.added);
  writable = ap (list_all (list_all may_stand)) adds.sections ∙ all-with_last old adds.added w.writable adds.stands;
  few_lines = omega (arith, adds.room, ap (sum_by length) adds.sections, total-with_last old adds.added adds.begun);
}

-- no line feed stands in a line
section_free : (ls : List TableLine) → list_all may_stand ls ≡ true → list_all (is_free 10) (map line_text ls) ≡ true
section_free [] e = refl
section_free (l ∷ ls) e =
    let p = and_parts (may_stand l) (list_all may_stand ls) e in
    ap (λ b. b && list_all (is_free 10) (map line_text ls)) (line_without_line_feed l (stands_writable l p.0)) ∙ section_free ls p.1

lines_free : (n : ℕ) (sections : Sections) → n + length sections < 2 ^ 63 → list_all (list_all may_stand) sections ≡ true → list_all (is_free 10) (lines_from n sections) ≡ true
lines_free n [] h e = refl
lines_free n (ls ∷ sections) h e =
    let p = and_parts (list_all may_stand ls) (list_all (list_all may_stand) sections) e in
    free_append (section_lines n ls) (lines_from (n + 1) sections)
    (ap (λ b. b && list_all (is_free 10) (map line_text ls)) (heading_without_line_feed n (omega arith)) ∙ section_free ls p.0)
    (lines_free (n + 1) sections (omega arith) p.1)

-- the text of sections is split into their lines
pub split_sections : (d : ℕ) (sections : Sections) → d < 2 ^ 32 → length sections ≤ d → list_all (list_all may_stand) sections ≡ true → slice_split (λ b. b == 10) (sections_spelling sections) ≡ sections_lines sections ++ [] ∷ []
split_sections d sections few all writable =
    ap (slice_split (λ b. b == 10)) (sym (append-nil (sections_spelling sections))) ∙ cut_lines (sections_lines sections) [] (lines_free 0 sections (omega (arith, few, all)) writable)

-- what the reader of a heading answers
heading_is : (o : Option ℤ) (number : ℤ) → Some number ≡ option_map clipped o → (z : ℤ) × (o ≡ Some z) × (to_z w64 (of_z w64 number) ≡ clipped z)
heading_is None number e = cc
heading_is (Some z) number e =
    let same : number ≡ clipped z = cc in
    (z, refl, ap (λ (y : ℤ). to_z w64 (of_z w64 y)) same ∙ to_z-of_z (clipped_fits z))

nothing_is : (o : Option ℤ) → None ≡ option_map clipped o → o ≡ None
nothing_is None e = refl
nothing_is (Some z) e = cc

pub heading_takes : {U : Type 0} (result : Result U ScriptFault) (d : ℕ) (old new : Sections) (text : List ℕ) (number : ℤ) → d < 2 ^ 32 → Some number ≡ option_map clipped (heading_of text)
    → OnOk result (heading_fault d (place_in old) (to_z w64 (of_z w64 number)) ≡ None) → OnOk result (new ≡ old ++ [] ∷ []) → OnOk result (TakesText d old new text)
heading_takes (Ok u) d old new text number few read fine opened =
    let h = heading_is (heading_of text) number read in
    inl (heading_opens d old new text h.0 few h.1 (sym (heading_fault-clipped d (place_in old) h.0 few) ∙ ap (heading_fault d (place_in old)) (sym h.2) ∙ fine) opened)
heading_takes (Err f) d old new text number few read fine opened = tt

module _ {U : Type 0} (result : Result U ScriptFault) (d : ℕ) (old : Sections) (text : List ℕ) where
  pub heading_faults : (number : ℤ) → d < 2 ^ 32 → Some number ≡ option_map clipped (heading_of text) → IfErr result (λ e. IsFaultUnlessMemory e (heading_fault d (place_in old) (to_z w64 (of_z w64 number))))
      → IfErr result (λ e. IsFaultUnlessMemory e (line_fault d (place_in old) text))
  heading_faults number few read fault =
      let h = heading_is (heading_of text) number read in
      let same : heading_fault d (place_in old) (to_z w64 (of_z w64 number)) ≡ line_fault d (place_in old) text =
      ap (heading_fault d (place_in old)) h.2 ∙ heading_fault-clipped d (place_in old) h.0 few ∙ sym (ap (λ o. fault_of_line d (place_in old) o (line_shape text)) h.1)
      in
      subst (λ (o : Option ScriptFault). IfErr result (λ e. IsFaultUnlessMemory e o)) same fault

  pub line_faults : None ≡ option_map clipped (heading_of text) → IfErr result (λ e. IsFaultUnlessMemory e (section_fault (place_in old) (shared_shape (line_shape text))))
      → IfErr result (λ e. IsFaultUnlessMemory e (line_fault d (place_in old) text))
  line_faults read fault =
      let same : section_fault (place_in old) (shared_shape (line_shape text)) ≡ line_fault d (place_in old) text =
      sym (ap (λ o. fault_of_line d (place_in old) o (line_shape text)) (nothing_is (heading_of text) read))
      in
      subst (λ (o : Option ScriptFault). IfErr result (λ e. IsFaultUnlessMemory e o)) same fault
