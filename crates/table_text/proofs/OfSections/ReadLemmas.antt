-- What the lines that were read say of the whole text of sections.
use Rattle.std.proofs.Common.{◌≡◌, ℕ, ◌+◌, ◌<◌, ◌≤◌, ◌^◌, ℤ, pos, List, [], ◌∷◌, ◌++◌, map, length, length-append, Bool, true, false, cond, refl, ap, sym, ◌∙◌, arith, append_assoc, append-nil, None, Some, Ok, Err, IfOk, IfErr}
use Rattle.std.specs.Prelude.{Option, Result, bytes_eq, nat_lt, sum_by, ◌==◌}
use Rattle.std.specs.List.{list_all, slice_split}
use Rattle.std.proofs.lemmas.Bool.{and_parts}
use Rattle.std.proofs.lemmas.Bool.Decides.{nat_tests}
use Rattle.std.proofs.lemmas.List.Splits.{length-slice_split}
use Rattle.std.proofs.lemmas.Slice.Eq.{bytes_eq-Decides}
use Rattle.model_core.specs.Output.{line}
use Rattle.text_script.specs.declared.fault.ScriptFault.{ScriptFault}
use Rattle.text_script.specs.declared.fault.ScriptFault.TheVariants.{Syntax, Order, Range, TooLong, TooMany, Spawn, Memory}
use Rattle.text_script.specs.Split.{split_at_mark}
use Rattle.text_script.specs.Spelling.{IsUnlessMemory, heading_text}
use Rattle.text_script.specs.Faults.{or_else, IsFaultUnlessMemory}
use Rattle.text_script.proofs.SplitLemmas.{split_found, split_whole}
use Rattle.text_script.proofs.ReadLemmas.{split_joined}
use Rattle.text_script.proofs.ScriptLemmas.{total-cons}
use Rattle.text_script.proofs.SectionLemmas.{text_grows}
use Rattle.table_text.specs.declared.line.TableLine.{TableLine}
use Rattle.table_text.specs.declared.version.Version.TheVariants.{Two}
use Rattle.table_text.specs.Forms.{parts}
use Rattle.table_text.specs.Texts.{most_lines}
use Rattle.table_text.specs.Spelling.{first_line, line_text}
use Rattle.table_text.specs.Faults.{LineShape, says, neither, line_shape}
use Rattle.table_text.specs.Sections.Spelling.{Sections, SpellsSections, may_stand, lines_from, sections_lines, sections_spelling}
use Rattle.table_text.specs.Sections.Faults.{Place, start, behind, end_fault, fault_from, first_sections_fault, fault_of_line, heading_of, line_fault, lines_fault, number_at, place_in}
use Rattle.table_text.specs.Sections.Steps.{SpellsBehind, TakesText}
use Rattle.table_text.proofs.RowLemmas.{whole, whole-parts}
use Rattle.table_text.proofs.ShapeLemmas.{shape_line}
use Rattle.table_text.proofs.OfSections.HeadingLemmas.{heading_has, heading_fine, line_heads_nothing}
use Rattle.table_text.proofs.OfSections.LineLemmas.{line_fine, stands_writable, taken_fine}
use Rattle.table_text.proofs.OfSections.TextLemmas.{AreWithin, lines_grow, place_grows, split_sections, within_still}

-- what is known where these sections were read, and the rest is left
pub record ReadTo (d : ℕ) (text : List ℕ) (sections : Sections) (rest : List ℕ) : Type 0 where
  pub text_is : line (first_line Two) ++ text ≡ sections_spelling sections ++ rest
  pub within : AreWithin d sections
  pub faults : fault_from d start (slice_split (λ b. b == 10) text) ≡ fault_from d (place_in sections) (slice_split (λ b. b == 10) rest)

pub read_nothing : (d : ℕ) (text : List ℕ) → ReadTo d text [] text
read_nothing d text = record {
  text_is = ap (λ x. x ++ text) (sym (append-nil (line (first_line Two))));
  within = record { few_sections = omega arith; writable = refl; few_lines = omega arith };
  faults = refl;
}

passed_over : (d : ℕ) (p : Place) (text : List ℕ) (more : List (List ℕ)) → 0 < length more → line_fault d p text ≡ None → fault_from d p (text ∷ more) ≡ fault_from d (behind p (heading_of text)) more
passed_over d p text [] some e = absurd (omega arith)
passed_over d p text (next ∷ more) some e = ap (λ o. or_else o (fault_from d (behind p (heading_of text)) (next ∷ more))) e

stopped_at : (d : ℕ) (p : Place) (text : List ℕ) (more : List (List ℕ)) (f : ScriptFault) → 0 < length more → line_fault d p text ≡ Some f → fault_from d p (text ∷ more) ≡ Some f
stopped_at d p text [] f some e = absurd (omega arith)
stopped_at d p text (next ∷ more) f some e = ap (λ o. or_else o (fault_from d (behind p (heading_of text)) (next ∷ more))) e

-- the reader goes on by a line that is taken
pub read_on : (d : ℕ) (all rest text tail : List ℕ) (old new : Sections) → d < 2 ^ 32 → ReadTo d all old rest → Some (text, tail) ≡ split_at_mark 10 rest → TakesText d old new text → ReadTo d all new tail
read_on d all rest text tail old new few r cutting takes = record {
  text_is = r.text_is ∙ ap (λ x. sections_spelling old ++ x) (split_joined 10 rest (text, tail) (sym cutting) ∙ sym (append_assoc text (10 ∷ []) tail)) ∙ sym (append_assoc (sections_spelling old) (line text) tail)
      ∙ ap (λ x. x ++ tail) (sym (text_grows (sections_lines old) (sections_lines new) text (lines_grow d old new text takes)));
  within = within_still d old new text r.within takes;
  faults = r.faults ∙ ap (fault_from d (place_in old)) (split_found 10 rest text tail cutting)
      ∙ passed_over d (place_in old) text (slice_split (λ b. b == 10) tail) (omega (arith, length-slice_split (λ b. b == 10) tail)) (taken_fine d old new text few takes)
      ∙ ap (λ p. fault_from d p (slice_split (λ b. b == 10) tail)) (sym (place_grows d old new text few takes));
}

-- it stops at a fault
pub is_first : (f : ScriptFault) (o : Option ScriptFault) → o ≡ Some f → IsFaultUnlessMemory f o
is_first Memory o e = tt
is_first (Syntax k) o e = e
is_first (Order k) o e = e
is_first (Range k i) o e = e
is_first (TooLong k) o e = e
is_first (TooMany k) o e = e
is_first (Spawn k) o e = e

pub stopped : (d : ℕ) (all rest text tail : List ℕ) (sections : Sections) (f : ScriptFault) → ReadTo d all sections rest → Some (text, tail) ≡ split_at_mark 10 rest → line_fault d (place_in sections) text ≡ Some f
    → fault_from d start (slice_split (λ b. b == 10) all) ≡ Some f
stopped d all rest text tail sections f r cutting e =
    r.faults ∙ ap (fault_from d (place_in sections)) (split_found 10 rest text tail cutting)
    ∙ stopped_at d (place_in sections) text (slice_split (λ b. b == 10) tail) f (omega (arith, length-slice_split (λ b. b == 10) tail)) e

pub stopped_or_memory : (d : ℕ) (all rest text tail : List ℕ) (sections : Sections) (f : ScriptFault) → ReadTo d all sections rest → Some (text, tail) ≡ split_at_mark 10 rest → IsFaultUnlessMemory f (line_fault d (place_in sections) text)
    → IsFaultUnlessMemory f (fault_from d start (slice_split (λ b. b == 10) all))
stopped_or_memory d all rest text tail sections Memory r cutting e = tt
stopped_or_memory d all rest text tail sections (Syntax k) r cutting e = stopped d all rest text tail sections (Syntax k) r cutting e
stopped_or_memory d all rest text tail sections (Order k) r cutting e = stopped d all rest text tail sections (Order k) r cutting e
stopped_or_memory d all rest text tail sections (Range k i) r cutting e = stopped d all rest text tail sections (Range k i) r cutting e
stopped_or_memory d all rest text tail sections (TooLong k) r cutting e = stopped d all rest text tail sections (TooLong k) r cutting e
stopped_or_memory d all rest text tail sections (TooMany k) r cutting e = stopped d all rest text tail sections (TooMany k) r cutting e
stopped_or_memory d all rest text tail sections (Spawn k) r cutting e = stopped d all rest text tail sections (Spawn k) r cutting e

-- and it ends behind the last line feed
pub ended : (d : ℕ) (all rest : List ℕ) (sections : Sections) → ReadTo d all sections rest → None ≡ split_at_mark 10 rest → fault_from d start (slice_split (λ b. b == 10) all) ≡ end_fault d (place_in sections) rest
ended d all rest sections r cutting = r.faults ∙ ap (fault_from d (place_in sections)) (split_whole 10 rest cutting)

pub ended_well : (d : ℕ) (all rest : List ℕ) (sections : Sections) → ReadTo d all sections rest → end_fault d (place_in sections) rest ≡ None → SpellsBehind d sections all
ended_well d all (b ∷ bs) sections r fine = cc
ended_well d all [] sections r fine = record {
  text_is = r.text_is ∙ append-nil (sections_spelling sections);
  one_each = by (length sections == d) refl fine;
  writable = r.within.writable;
  few_lines = r.within.few_lines;
}
  where
    by : (each : Bool) → (length sections == d) ≡ each → cond each None (Some (Order (number_at (place_in sections)))) ≡ None → length sections ≡ d
    by true is e = grind (arith, nat_tests, is)
    by false is e = cc

-- the first fault of few bytes is that of a line
pub fault_of_few : (d : ℕ) (bytes : List ℕ) → length bytes ≤ 16777216 → first_sections_fault d bytes ≡ lines_fault d (slice_split (λ b. b == 10) bytes)
fault_of_few d bytes few =
    let test : nat_lt 16777216 (length bytes) ≡ false = grind (arith, nat_tests) in
    ap (λ b. cond b (Some (TooLong (length bytes))) (lines_fault d (slice_split (λ b. b == 10) bytes))) test

pub too_long : (d : ℕ) (bytes : List ℕ) → 16777216 < length bytes → first_sections_fault d bytes ≡ Some (TooLong (length bytes))
too_long d bytes many =
    let test : nat_lt 16777216 (length bytes) ≡ true = grind (arith, nat_tests) in
    ap (λ b. cond b (Some (TooLong (length bytes))) (lines_fault d (slice_split (λ b. b == 10) bytes))) test

-- a text without a line feed
pub no_line : (d : ℕ) (bytes : List ℕ) → length bytes ≤ 16777216 → None ≡ split_at_mark 10 bytes → first_sections_fault d bytes ≡ Some (Syntax 1)
no_line d bytes few cutting = fault_of_few d bytes few ∙ ap (lines_fault d) (split_whole 10 bytes cutting)

chosen : (d : ℕ) (is : Bool) (first : List ℕ) (more : List (List ℕ)) → bytes_eq first (first_line Two) ≡ is → 0 < length more → lines_fault d (first ∷ more) ≡ cond is (fault_from d start more) (Some (Syntax 1))
chosen d is first [] e some = absurd (omega arith)
chosen d is first (next ∷ more) e some = ap (λ b. cond b (fault_from d start (next ∷ more)) (Some (Syntax 1))) e

by_first_line : (d : ℕ) (is : Bool) (bytes first tail : List ℕ) → length bytes ≤ 16777216 → Some (first, tail) ≡ split_at_mark 10 bytes → bytes_eq first (first_line Two) ≡ is
    → first_sections_fault d bytes ≡ cond is (fault_from d start (slice_split (λ b. b == 10) tail)) (Some (Syntax 1))
by_first_line d is bytes first tail few cutting e =
    fault_of_few d bytes few ∙ ap (lines_fault d) (split_found 10 bytes first tail cutting) ∙ chosen d is first _ e (omega (arith, length-slice_split (λ b. b == 10) tail))

-- a text with another first line
pub wrong_first_line : (d : ℕ) (bytes first tail : List ℕ) → length bytes ≤ 16777216 → Some (first, tail) ≡ split_at_mark 10 bytes → bytes_eq first (first_line Two) ≡ false → first_sections_fault d bytes ≡ Some (Syntax 1)
wrong_first_line d bytes first tail few cutting other = by_first_line d false bytes first tail few cutting other

-- a text with the first line of the grammar
pub first_read : (d : ℕ) (bytes first tail : List ℕ) → length bytes ≤ 16777216 → Some (first, tail) ≡ split_at_mark 10 bytes → bytes_eq first (first_line Two) ≡ true
    → (bytes ≡ line (first_line Two) ++ tail) × (first_sections_fault d bytes ≡ fault_from d start (slice_split (λ b. b == 10) tail))
first_read d bytes first tail few cutting same = (
  split_joined 10 bytes (first, tail) (sym cutting) ∙ ap (λ x. x ++ 10 ∷ tail) ((bytes_eq-Decides first (first_line Two)).0 same) ∙ sym (append_assoc (first_line Two) (10 ∷ []) tail),
  by_first_line d true bytes first tail few cutting same,
)

pub all_spelled : (d : ℕ) (bytes tail : List ℕ) (sections : Sections) → length bytes ≤ 16777216 → bytes ≡ line (first_line Two) ++ tail → SpellsBehind d sections tail → SpellsSections d sections bytes
all_spelled d bytes tail sections few e s = record { bytes_are = e ∙ s.text_is; one_each = s.one_each; writable = s.writable; few_lines = s.few_lines; few_bytes = few }

pub all_read : (d : ℕ) (bytes tail : List ℕ) (result : Result Sections ScriptFault) → length bytes ≤ 16777216 → bytes ≡ line (first_line Two) ++ tail → IfOk result (λ s. SpellsBehind d s tail) → IfOk result (λ s. SpellsSections d s bytes)
all_read d bytes tail (Ok s) few e found = all_spelled d bytes tail s few e found
all_read d bytes tail (Err f) few e found = tt

-- lines of a section have no fault
section_fine : (d h n : ℕ) (ls : List TableLine) (more : List (List ℕ)) → 0 < h → list_all may_stand ls ≡ true → n + length ls ≤ most_lines Two → 0 < length more
    → fault_from d (record { headings = h; lines = n }) (map line_text ls ++ more) ≡ fault_from d (record { headings = h; lines = n + length ls }) more
section_fine d h n [] more some e few left = ap (λ k. fault_from d (record { headings = h; lines = k }) more) (omega arith)
section_fine d h n (l ∷ ls) more some e few left =
    let p = and_parts (may_stand l) (list_all may_stand ls) e in
    passed_over d (record { headings = h; lines = n }) (line_text l) (map line_text ls ++ more) (omega (arith, left, length-append (map line_text ls) more)) (line_fine d (record { headings = h; lines = n }) l p.0 some (omega (arith, few)))
    ∙ ap (λ o. fault_from d (behind (record { headings = h; lines = n }) o) (map line_text ls ++ more)) (line_heads_nothing l (stands_writable l p.0))
    ∙ section_fine d h (n + 1) ls more some p.1 (omega (arith, few)) left
    ∙ ap (λ k. fault_from d (record { headings = h; lines = k }) more) (omega arith)

-- nor has the next heading
heading_taken : (d : ℕ) (place : Place) → d < 2 ^ 32 → place.headings < d → line_fault d place (heading_text place.headings) ≡ None
heading_taken d place few room = ap (λ o. fault_of_line d place o (line_shape (heading_text place.headings))) (heading_has place.headings (omega (arith, few, room))) ∙ heading_fine d place room

-- sections that are spelled have none
all_fine : (d h n : ℕ) (sections : Sections) → d < 2 ^ 32 → h + length sections ≡ d → list_all (list_all may_stand) sections ≡ true → n + sum_by length sections ≤ most_lines Two
    → fault_from d (record { headings = h; lines = n }) (lines_from h sections ++ [] ∷ []) ≡ None
all_fine d h n [] few each e less =
    let test : (h == d) ≡ true = grind (arith, nat_tests, each) in
    ap (λ b. cond b None (Some (Order (h + n + 2)))) test
all_fine d h n (ls ∷ sections) few each e less =
    let p = and_parts (list_all may_stand ls) (list_all (list_all may_stand) sections) e in
    let rest = lines_from (h + 1) sections ++ [] ∷ [] in
    let place : Place = record { headings = h; lines = n } in
    let total = total-cons ls sections in
    let left : 0 < length rest = omega (arith, length-append (lines_from (h + 1) sections) ([] ∷ [])) in
    ap (λ ts. fault_from d place (heading_text h ∷ ts)) (append_assoc (map line_text ls) (lines_from (h + 1) sections) ([] ∷ []))
    ∙ passed_over d place (heading_text h) (map line_text ls ++ rest) (omega (arith, left, length-append (map line_text ls) rest)) (heading_taken d place few (omega (arith, each)))
    ∙ ap (λ o. fault_from d (behind place o) (map line_text ls ++ rest)) (heading_has h (omega (arith, each, few)))
    ∙ section_fine d (h + 1) n ls rest (omega arith) p.0 (omega (arith, less, total)) left
    ∙ all_fine d (h + 1) (n + length ls) sections few (omega (arith, each)) p.1 (omega (arith, less, total))

pub no_fault : (d : ℕ) (sections : Sections) (bytes : List ℕ) → d < 2 ^ 32 → SpellsSections d sections bytes → first_sections_fault d bytes ≡ None
no_fault d sections bytes few s =
    fault_of_few d bytes s.few_bytes ∙ ap (λ x. lines_fault d (slice_split (λ b. b == 10) x)) s.bytes_are ∙ ap (lines_fault d) (split_sections d sections few (omega (arith, s.one_each)) s.writable)
    ∙ chosen d true (first_line Two) (lines_from 0 sections ++ [] ∷ []) refl (omega (arith, length-append (lines_from 0 sections) ([] ∷ [])))
    ∙ all_fine d 0 0 sections few (omega (arith, s.one_each)) s.writable (omega (arith, s.few_lines))

-- what lines say: those before the first heading, and those of each section
abbrev Decoded : Type 0
Decoded = List TableLine × Sections

abbrev with_shape : LineShape → List TableLine → List TableLine
with_shape (says w zs) ls = whole w zs ∷ ls
with_shape neither ls = ls

abbrev with_text : Option ℤ → LineShape → Decoded → Decoded
with_text (Some z) s read = ([], read.0 ∷ read.1)
with_text None s read = (with_shape s read.0, read.1)

abbrev decoded : List (List ℕ) → Decoded
decoded [] = ([], [])
decoded (t ∷ ts) = with_text (heading_of t) (line_shape t) (decoded ts)

decoded_section : (ls : List TableLine) (more : List (List ℕ)) → list_all may_stand ls ≡ true → decoded (map line_text ls ++ more) ≡ (ls ++ (decoded more).0, (decoded more).1)
decoded_section [] more e = refl
decoded_section (l ∷ ls) more e =
    let p = and_parts (may_stand l) (list_all may_stand ls) e in
    let fit = stands_writable l p.0 in
    ap (λ o. with_text o (line_shape (line_text l)) (decoded (map line_text ls ++ more))) (line_heads_nothing l fit)
    ∙ ap (λ s. with_text None s (decoded (map line_text ls ++ more))) (shape_line l fit)
    ∙ ap (λ x. with_text None (says (parts l).word (parts l).numbers) x) (decoded_section ls more p.1)
    ∙ ap (λ x. (x ∷ (ls ++ (decoded more).0), (decoded more).1)) (whole-parts l)

decoded_from : (n : ℕ) (sections : Sections) → n + length sections < 2 ^ 63 → list_all (list_all may_stand) sections ≡ true → decoded (lines_from n sections ++ [] ∷ []) ≡ ([], sections)
decoded_from n [] few e = refl
decoded_from n (ls ∷ sections) few e =
    let p = and_parts (list_all may_stand ls) (list_all (list_all may_stand) sections) e in
    let rest = lines_from (n + 1) sections ++ [] ∷ [] in
    let below : Decoded = decoded (map line_text ls ++ rest) in
    ap (λ ts. decoded (heading_text n ∷ ts)) (append_assoc (map line_text ls) (lines_from (n + 1) sections) ([] ∷ []))
    ∙ ap (λ o. with_text o (line_shape (heading_text n)) below) (heading_has n (omega (arith, few)))
    ∙ ap (λ (x : Decoded). with_text (Some (pos n)) (line_shape (heading_text n)) x) (decoded_section ls rest p.0 ∙ ap (λ (x : Decoded). (ls ++ x.0, x.1)) (decoded_from (n + 1) sections (omega (arith, few)) p.1))
    ∙ ap (λ x. ([], x ∷ sections)) (append-nil ls)

abbrev sections_in : List (List ℕ) → Sections
sections_in [] = []
sections_in (first ∷ more) = (decoded more).1

sections_found : (d : ℕ) (sections : Sections) (bytes : List ℕ) → d < 2 ^ 32 → SpellsSections d sections bytes → sections_in (slice_split (λ b. b == 10) bytes) ≡ sections
sections_found d sections bytes few s =
    ap (λ x. sections_in (slice_split (λ b. b == 10) x)) s.bytes_are ∙ ap sections_in (split_sections d sections few (omega (arith, s.one_each)) s.writable)
    ∙ ap (λ (x : Decoded). x.1) (decoded_from 0 sections (omega (arith, few, s.one_each)) s.writable)

-- bytes are the spelling of one text alone
pub one_text : (d : ℕ) (a b : Sections) (bytes : List ℕ) → d < 2 ^ 32 → SpellsSections d a bytes → SpellsSections d b bytes → a ≡ b
one_text d a b bytes few s t = sym (sections_found d a bytes few s) ∙ sections_found d b bytes few t

no_other : (d : ℕ) (s : Sections) (bytes : List ℕ) (f : ScriptFault) → d < 2 ^ 32 → SpellsSections d s bytes → first_sections_fault d bytes ≡ Some f → ⊥
no_other d s bytes f few spells e =
    let none = no_fault d s bytes few spells in
    cc

-- what is spelled so is read, unless memory ran out
pub only_read : (d : ℕ) (bytes : List ℕ) (result : Result Sections ScriptFault) → d < 2 ^ 32 → IfOk result (λ s. SpellsSections d s bytes) → IfErr result (λ e. IsFaultUnlessMemory e (first_sections_fault d bytes))
    → (s : Sections) → SpellsSections d s bytes → IsUnlessMemory result (Ok s)
only_read d bytes (Ok t) few found fault s w = ap Ok (one_text d t s bytes few found w)
only_read d bytes (Err Memory) few found fault s w = tt
only_read d bytes (Err (Syntax k)) few found fault s w = absurd (no_other d s bytes (Syntax k) few w fault)
only_read d bytes (Err (Order k)) few found fault s w = absurd (no_other d s bytes (Order k) few w fault)
only_read d bytes (Err (Range k i)) few found fault s w = absurd (no_other d s bytes (Range k i) few w fault)
only_read d bytes (Err (TooLong k)) few found fault s w = absurd (no_other d s bytes (TooLong k) few w fault)
only_read d bytes (Err (TooMany k)) few found fault s w = absurd (no_other d s bytes (TooMany k) few w fault)
only_read d bytes (Err (Spawn k)) few found fault s w = absurd (no_other d s bytes (Spawn k) few w fault)

-- what has a fault is refused by it, unless memory ran out
pub refused_by : (d : ℕ) (bytes : List ℕ) (result : Result Sections ScriptFault) → d < 2 ^ 32 → IfOk result (λ s. SpellsSections d s bytes) → IfErr result (λ e. IsFaultUnlessMemory e (first_sections_fault d bytes))
    → (e : ScriptFault) → first_sections_fault d bytes ≡ Some e → IsUnlessMemory result (Err e)
refused_by d bytes (Ok t) few found fault e first = absurd (no_other d t bytes e few found first)
refused_by d bytes (Err Memory) few found fault e first = tt
refused_by d bytes (Err (Syntax k)) few found fault e first = cc
refused_by d bytes (Err (Order k)) few found fault e first = cc
refused_by d bytes (Err (Range k i)) few found fault e first = cc
refused_by d bytes (Err (TooLong k)) few found fault e first = cc
refused_by d bytes (Err (TooMany k)) few found fault e first = cc
refused_by d bytes (Err (Spawn k)) few found fault e first = cc
