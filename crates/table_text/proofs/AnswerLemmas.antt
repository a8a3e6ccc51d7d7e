-- Bytes spell a table's text, or have a first fault.
use Rattle.std.proofs.Common.{◌≡◌, ◌≢◌, ◌⊎◌, ℕ, zero, suc, ◌+◌, ◌<◌, ◌≤◌, ℤ, List, [], ◌∷◌, ◌++◌, length, length-append, Bool, true, false, cond, None, Some, inl, inr, ⊎_elim, refl, sym, ap, ◌∙◌, arith, append-nil}
use Rattle.std.specs.Prelude.{Option, nat_le, nat_lt, option_map, ◌==◌}
use Rattle.std.specs.List.{list_all, slice_split}
use Rattle.std.proofs.lemmas.Bool.Decides.{nat_tests}
use Rattle.model_core.specs.Output.{line}
use Rattle.text_script.specs.declared.fault.ScriptFault.{ScriptFault}
use Rattle.text_script.specs.declared.fault.ScriptFault.TheVariants.{Memory, Range, Syntax, TooLong, TooMany}
use Rattle.text_script.specs.Split.{split_at_mark}
use Rattle.text_script.proofs.ReadLemmas.{split_joined}
use Rattle.table_text.specs.declared.line.TableLine.{TableLine}
use Rattle.table_text.specs.declared.version.Version.{Version}
use Rattle.table_text.specs.declared.word.Word.{Word}
use Rattle.table_text.specs.Faults.{LineShape, fault_from, fault_of_shape, first_fault, first_out_of_range, line_shape, neither, says, version_of}
use Rattle.table_text.specs.Forms.{form, is_writable, made}
use Rattle.table_text.specs.Texts.{Text, most_lines}
use Rattle.table_text.specs.Spelling.{Spells, first_line, spelled}
use Rattle.table_text.proofs.ReadLemmas.{end_read, fault_read, faults_on, first_read, moved_on, no_line, too_long, wrong_first_line}
use Rattle.table_text.proofs.ShapeLemmas.{line_said}
use Rattle.table_text.proofs.WritableLemmas.{writable-push}

-- what is known where these lines were read, and the rest is left
record ReadTo (v : Version) (behind : List ℕ) (lines : List TableLine) (rest : List ℕ) : Type 0 where
  spelled_as : line (first_line v) ++ behind ≡ spelled v lines ++ rest
  writable : list_all is_writable lines ≡ true
  few : length lines ≤ most_lines v
  faults : fault_from (most_lines v) 0 (slice_split (λ b. b == 10) behind) ≡ fault_from (most_lines v) (length lines) (slice_split (λ b. b == 10) rest)

-- what stands behind the first line is lines of the grammar
record IsSaid (v : Version) (behind : List ℕ) (lines : List TableLine) : Type 0 where
  spelled_as : line (first_line v) ++ behind ≡ spelled v lines
  writable : list_all is_writable lines ≡ true
  few : length lines ≤ most_lines v

-- or has a fault
abbrev Goes : Version → List ℕ → Type 0
Goes v behind = ((lines : List TableLine) × IsSaid v behind lines) ⊎ ((f : ScriptFault) × (f ≢ Memory) × (fault_from (most_lines v) 0 (slice_split (λ b. b == 10) behind) ≡ Some f))

-- a rest is shorter
shorter : (rest text tail : List ℕ) → Some (text, tail) ≡ split_at_mark 10 rest → length tail < length rest
shorter rest text tail cutting = omega (arith, ap length (split_joined 10 rest (text, tail) (sym cutting)), length-append text (10 ∷ tail))

module _ (v : Version) (behind : List ℕ) (lines : List TableLine) (rest : List ℕ) (r : ReadTo v behind lines rest)
    (more : (others : List TableLine) (tail : List ℕ) → length tail < length rest → ReadTo v behind others tail → Goes v behind) where
  abbrev most : ℕ
  most = most_lines v

  abbrev count : ℕ
  count = length lines

  abbrev ranged : Bool → Option ℕ → Option ScriptFault
  ranged many out = cond many (Some (TooMany (count + 2))) (option_map (Range (count + 2)) out)

  module _ (text tail : List ℕ) (cutting : Some (text, tail) ≡ split_at_mark 10 rest) where
    module _ (w : Word) (zs : List ℤ) (shape : line_shape text ≡ says w zs) where
      by_range : (out : Option ℕ) → count < most → first_out_of_range 1 (form w).operands zs ≡ out → Goes v behind
      by_range (Some which) room e =
          let test : nat_le most count ≡ false = grind (arith, nat_tests) in
          inr (
            Range (count + 2) which,
            (λ same. cc),
            fault_read most count _ rest text tail (Range (count + 2) which) r.faults cutting
                (ap (fault_of_shape most (count + 2) count) shape ∙ ap (λ b. ranged b (first_out_of_range 1 (form w).operands zs)) test ∙ ap (option_map (Range (count + 2))) e),
          )
      by_range None room e =
          let said = line_said text w zs shape e in
          let l : TableLine = made w zs in
          let grown : count + 1 ≡ length (lines ++ l ∷ []) = omega (arith, length-append lines (l ∷ [])) in
          more (lines ++ l ∷ []) tail (shorter rest text tail cutting) record {
            spelled_as = moved_on v _ rest text tail lines l r.spelled_as cutting said.text;
            writable = writable-push lines l r.writable said.writable;
            few = omega (arith, room, length-append lines (l ∷ []));
            faults = r.faults ∙ faults_on most count rest text tail l cutting said.text said.writable room ∙ ap (λ n. fault_from most n (slice_split (λ b. b == 10) tail)) grown;
          }

      by_count : (many : Bool) → nat_le most count ≡ many → Goes v behind
      by_count true e =
          inr (
            TooMany (count + 2),
            (λ same. cc),
            fault_read most count _ rest text tail (TooMany (count + 2)) r.faults cutting
                (ap (fault_of_shape most (count + 2) count) shape ∙ ap (λ b. ranged b (first_out_of_range 1 (form w).operands zs)) e),
          )
      by_count false e = by_range (first_out_of_range 1 (form w).operands zs) (grind (arith, nat_tests, e)) refl

    by_shape : (shape : LineShape) → line_shape text ≡ shape → Goes v behind
    by_shape neither e = inr (Syntax (count + 2), (λ same. cc), fault_read most count _ rest text tail (Syntax (count + 2)) r.faults cutting (ap (fault_of_shape most (count + 2) count) e))
    by_shape (says w zs) e = by_count w zs e (nat_le most count) refl

  by_end : (empty : Bool) → empty ≡ (length rest == 0) → None ≡ split_at_mark 10 rest → Goes v behind
  by_end false e cutting = inr (Syntax (count + 2), (λ same. cc), end_read most count _ rest r.faults cutting e)
  by_end true e cutting =
      let none : rest ≡ [] = nothing rest (sym e) in
      inl (lines, record { spelled_as = r.spelled_as ∙ ap (λ x. spelled v lines ++ x) none ∙ append-nil (spelled v lines); writable = r.writable; few = r.few })
    where
      nothing : (x : List ℕ) → (length x == 0) ≡ true → x ≡ []
      nothing [] is = refl
      nothing (b ∷ bs) is = absurd (let none : length (b ∷ bs) ≡ 0 = grind (arith, nat_tests, is) in omega (arith, none))

  by_cut : (cut : Option (List ℕ × List ℕ)) → cut ≡ split_at_mark 10 rest → Goes v behind
  by_cut None cutting = by_end (length rest == 0) refl cutting
  by_cut (Some (text, tail)) cutting = by_shape text tail cutting (line_shape text) refl

-- the lines behind the first
goes_from : (v : Version) (fuel : ℕ) (behind : List ℕ) (lines : List TableLine) (rest : List ℕ) → length rest < fuel → ReadTo v behind lines rest → Goes v behind
goes_from v zero behind lines rest few r = absurd (omega (arith, few))
goes_from v (suc fuel) behind lines rest few r = by_cut v behind lines rest r (λ others tail less there. goes_from v fuel behind others tail (omega (arith, few, less)) there) (split_at_mark 10 rest) refl

-- bytes spell a text, or have a first fault
abbrev IsAnswered : List ℕ → Type 0
IsAnswered bytes = ((text : Text) × Spells text bytes) ⊎ ((f : ScriptFault) × (f ≢ Memory) × (first_fault bytes ≡ Some f))

module _ (bytes : List ℕ) (few : length bytes ≤ 16777216) where
  by_first : (first behind : List ℕ) (v : Option Version) → Some (first, behind) ≡ split_at_mark 10 bytes → version_of first ≡ v → IsAnswered bytes
  by_first first behind None cutting other = inr (Syntax 1, (λ same. cc), wrong_first_line bytes first behind few cutting other)
  by_first first behind (Some v) cutting same =
      let begun = first_read v bytes first behind few cutting same in
      ⊎_elim
      (λ said. inl (record { version = v; lines = said.0 }, record { bytes_are = begun.0 ∙ said.1.spelled_as; writable = said.1.writable; few_lines = said.1.few; few_bytes = few }))
      (λ wrong. inr (wrong.0, wrong.1, begun.1 ∙ wrong.2))
      (goes_from v (suc (length behind)) behind [] behind (omega arith) record { spelled_as = ap (λ x. x ++ behind) (sym (append-nil (line (first_line v)))); writable = refl; few = omega arith; faults = refl })

  by_text : (cut : Option (List ℕ × List ℕ)) → cut ≡ split_at_mark 10 bytes → IsAnswered bytes
  by_text None cutting = inr (Syntax 1, (λ same. cc), no_line bytes few cutting)
  by_text (Some (first, behind)) cutting = by_first first behind (version_of first) cutting refl

by_length : (bytes : List ℕ) (many : Bool) → nat_lt 16777216 (length bytes) ≡ many → IsAnswered bytes
by_length bytes true e = inr (TooLong (length bytes), (λ same. cc), too_long bytes (grind (arith, nat_tests, e)))
by_length bytes false e = by_text bytes (grind (arith, nat_tests, e)) (split_at_mark 10 bytes) refl

pub answered : (bytes : List ℕ) → ((text : Text) × Spells text bytes) ⊎ ((f : ScriptFault) × (f ≢ Memory) × (first_fault bytes ≡ Some f))
answered bytes = by_length bytes (nat_lt 16777216 (length bytes)) refl
