-- Bytes spell a text of sections, or have a first fault.
use Rattle.std.proofs.Common.{◌≡◌, ◌≢◌, ◌⊎◌, ℕ, zero, suc, ◌<◌, ◌≤◌, ◌^◌, List, [], ◌∷◌, length, length-append, Bool, true, false, cond, None, Some, inl, inr, ⊎_elim, refl, sym, ap, ◌∙◌, arith}
use Rattle.std.specs.Prelude.{Option, bytes_eq, nat_lt, ◌==◌}
use Rattle.std.specs.List.{slice_split}
use Rattle.std.proofs.lemmas.Bool.Decides.{nat_tests}
use Rattle.text_script.specs.declared.fault.ScriptFault.{ScriptFault}
use Rattle.text_script.specs.declared.fault.ScriptFault.TheVariants.{Memory, Order, Syntax, TooLong}
use Rattle.text_script.specs.Split.{split_at_mark}
use Rattle.text_script.proofs.ReadLemmas.{split_joined}
use Rattle.table_text.specs.declared.version.Version.TheVariants.{Two}
use Rattle.table_text.specs.Spelling.{first_line}
use Rattle.table_text.specs.Sections.Spelling.{Sections, SpellsSections}
use Rattle.table_text.specs.Sections.Faults.{Place, end_fault, fault_from, first_sections_fault, number_at, place_in, start}
use Rattle.table_text.specs.Sections.Steps.{SpellsBehind}
use Rattle.table_text.proofs.OfSections.LineLemmas.{line_goes}
use Rattle.table_text.proofs.OfSections.ReadLemmas.{ReadTo, all_spelled, ended, ended_well, first_read, no_line, read_nothing, read_on, stopped, too_long, wrong_first_line}

abbrev Goes : ℕ → List ℕ → Type 0
Goes d all = ((sections : Sections) × SpellsBehind d sections all) ⊎ ((f : ScriptFault) × (f ≢ Memory) × (fault_from d start (slice_split (λ b. b == 10) all) ≡ Some f))

-- a rest is shorter
shorter : (rest text tail : List ℕ) → Some (text, tail) ≡ split_at_mark 10 rest → length tail < length rest
shorter rest text tail cutting = omega (arith, ap length (split_joined 10 rest (text, tail) (sym cutting)), length-append text (10 ∷ tail))

-- at the end
end_goes : (d : ℕ) (p : Place) (rest : List ℕ) → (end_fault d p rest ≡ None) ⊎ ((f : ScriptFault) × (f ≢ Memory) × (end_fault d p rest ≡ Some f))
end_goes d p (b ∷ bs) = inr (Syntax (number_at p), (λ same. cc), refl)
end_goes d p [] = by (p.headings == d) refl
  where
    by : (each : Bool) → (p.headings == d) ≡ each → (end_fault d p [] ≡ None) ⊎ ((f : ScriptFault) × (f ≢ Memory) × (end_fault d p [] ≡ Some f))
    by true is = inl (ap (λ b. cond b None (Some (Order (number_at p)))) is)
    by false is = inr (Order (number_at p), (λ same. cc), ap (λ b. cond b None (Some (Order (number_at p)))) is)

module _ (d : ℕ) (all : List ℕ) (sections : Sections) (rest : List ℕ) (few : d < 2 ^ 32) (r : ReadTo d all sections rest)
    (more : (others : Sections) (tail : List ℕ) → length tail < length rest → ReadTo d all others tail → Goes d all) where
  by_cut : (cut : Option (List ℕ × List ℕ)) → cut ≡ split_at_mark 10 rest → Goes d all
  by_cut None cutting =
      ⊎_elim
      (λ fine. inl (sections, ended_well d all rest sections r fine))
      (λ wrong. inr (wrong.0, wrong.1, ended d all rest sections r cutting ∙ wrong.2))
      (end_goes d (place_in sections) rest)
  by_cut (Some (text, tail)) cutting =
      ⊎_elim
      (λ taken. more taken.0 tail (shorter rest text tail cutting) (read_on d all rest text tail sections taken.0 few r cutting taken.1))
      (λ wrong. inr (wrong.0, wrong.1, stopped d all rest text tail sections wrong.0 r cutting wrong.2))
      (line_goes d sections text few)

goes_from : (d fuel : ℕ) (all : List ℕ) (sections : Sections) (rest : List ℕ) → d < 2 ^ 32 → length rest < fuel → ReadTo d all sections rest → Goes d all
goes_from d zero all sections rest few less r = absurd (omega (arith, less))
goes_from d (suc fuel) all sections rest few less r = by_cut d all sections rest few r (λ others tail short there. goes_from d fuel all others tail few (omega (arith, less, short)) there) (split_at_mark 10 rest) refl

-- bytes spell a text, or have a first fault
abbrev IsAnswered : ℕ → List ℕ → Type 0
IsAnswered d bytes = ((sections : Sections) × SpellsSections d sections bytes) ⊎ ((f : ScriptFault) × (f ≢ Memory) × (first_sections_fault d bytes ≡ Some f))

module _ (d : ℕ) (bytes : List ℕ) (small : d < 2 ^ 32) (few : length bytes ≤ 16777216) where
  by_first : (is : Bool) (first tail : List ℕ) → Some (first, tail) ≡ split_at_mark 10 bytes → bytes_eq first (first_line Two) ≡ is → IsAnswered d bytes
  by_first false first tail cutting other = inr (Syntax 1, (λ same. cc), wrong_first_line d bytes first tail few cutting other)
  by_first true first tail cutting same =
      let begun = first_read d bytes first tail few cutting same in
      ⊎_elim
      (λ said. inl (said.0, all_spelled d bytes tail said.0 few begun.0 said.1))
      (λ wrong. inr (wrong.0, wrong.1, begun.1 ∙ wrong.2))
      (goes_from d (suc (length tail)) tail [] tail small (omega arith) (read_nothing d tail))

  by_text : (cut : Option (List ℕ × List ℕ)) → cut ≡ split_at_mark 10 bytes → IsAnswered d bytes
  by_text None cutting = inr (Syntax 1, (λ same. cc), no_line d bytes few cutting)
  by_text (Some (first, tail)) cutting = by_first (bytes_eq first (first_line Two)) first tail cutting refl

by_length : (d : ℕ) (bytes : List ℕ) (many : Bool) → d < 2 ^ 32 → nat_lt 16777216 (length bytes) ≡ many → IsAnswered d bytes
by_length d bytes true small e = inr (TooLong (length bytes), (λ same. cc), too_long d bytes (grind (arith, nat_tests, e)))
by_length d bytes false small e = by_text d bytes small (grind (arith, nat_tests, e)) (split_at_mark 10 bytes) refl

pub answered : (d : ℕ) (bytes : List ℕ) → d < 2 ^ 32 → ((sections : Sections) × SpellsSections d sections bytes) ⊎ ((f : ScriptFault) × (f ≢ Memory) × (first_sections_fault d bytes ≡ Some f))
answered d bytes small = by_length d bytes (nat_lt 16777216 (length bytes)) small refl
