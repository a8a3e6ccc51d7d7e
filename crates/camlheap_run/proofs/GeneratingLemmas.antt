-- The spelling of a script, section by section.
use Rattle.std.proofs.Common.{◌≡◌, ◌∙◌, ℕ, zero, suc, ◌+◌, ◌-◌, ◌<◌, List, [], ◌∷◌, ◌++◌, length, map, refl, sym, ap, arith, append-nil, codes}
use Rattle.std.specs.Prelude.{flat_map, slice_index_or}
use Rattle.std.specs.List.{range_with_len}
use Rattle.std.proofs.lemmas.List.Concat.{flat_map-append}
use Rattle.model_core.specs.declared.command.Command.{Command}
use Rattle.model_core.specs.Output.{line}
use Rattle.text_script.specs.declared.version.Version.TheVariants.{One}
use Rattle.text_script.specs.Spelling.{command_text, heading_text, lines_from, section_lines, spelling}
use Rattle.camlheap_run.specs.Generating.{commands_text, section_text, sections_text}

commands_lines : (cs : List Command) → flat_map line (map command_text cs) ≡ commands_text cs
commands_lines [] = refl
commands_lines (c ∷ cs) = ap (λ (l : List ℕ). line (command_text c) ++ l) (commands_lines cs)

-- the lines of one section are its text
section_is : (all : List (List Command)) (n : ℕ) (cs : List Command) → slice_index_or all n [] ≡ cs → flat_map line (section_lines n cs) ≡ section_text all n
section_is all n cs e = ap (λ (l : List ℕ). line (heading_text n) ++ l) (commands_lines cs ∙ ap commands_text (sym e))

-- the lines of the sections from the n-th on are their texts
from_here : (all rest : List (List Command)) (n : ℕ) → ((i : ℕ) → i < length rest → slice_index_or all (n + i) [] ≡ slice_index_or rest i [])
    → flat_map line (lines_from n rest) ≡ flat_map (section_text all) (range_with_len n (length rest))
from_here all [] n each = refl
from_here all (cs ∷ rest) n each =
    let here : n + 0 ≡ n = omega arith in
    let first : slice_index_or all n [] ≡ cs = ap (λ (m : ℕ). slice_index_or all m []) (sym here) ∙ each 0 (omega arith) in
    let shift : (i : ℕ) → (n + 1) + i ≡ n + suc i = λ i. omega arith in
    let later = from_here all rest (n + 1) (λ i below. ap (λ (m : ℕ). slice_index_or all m []) (shift i) ∙ each (suc i) (omega (arith, below))) in
    flat_map-append line (section_lines n cs) (lines_from (n + 1) rest) ∙ ap (λ (l : List ℕ). l ++ flat_map line (lines_from (n + 1) rest)) (section_is all n cs first)
    ∙ ap (λ (l : List ℕ). section_text all n ++ l) later

same_at : (script : List (List Command)) (i : ℕ) → i < length script → slice_index_or script (0 + i) [] ≡ slice_index_or script i []
same_at script i below = let same : 0 + i ≡ i = omega arith in ap (λ (m : ℕ). slice_index_or script m []) same

-- a script is its first line and the texts of its sections
pub spelling_is : (script : List (List Command)) → spelling One script ≡ line (codes "heap 1") ++ sections_text script (length script)
spelling_is script = ap (λ (l : List ℕ). line (codes "heap 1") ++ l) (from_here script script 0 (same_at script))

-- a range, cut at one of its numbers
range_cut : (a n m : ℕ) → range_with_len a (n + m) ≡ range_with_len a n ++ range_with_len (a + n) m
range_cut a zero m =
    let same : a ≡ a + 0 = omega arith in
    let none : 0 + m ≡ m = omega arith in
    ap (range_with_len a) none ∙ ap (λ (b : ℕ). range_with_len b m) same
range_cut a (suc n) m =
    let same : (a + 1) + n ≡ a + suc n = omega arith in
    let step : suc n + m ≡ suc (n + m) = omega arith in
    ap (range_with_len a) step ∙ ap (λ (l : List ℕ). a ∷ l) (range_cut (a + 1) n m ∙ ap (λ (b : ℕ). range_with_len (a + 1) n ++ range_with_len b m) same)

-- the sections up to one, it, and the sections behind it
pub sections_cut : (script : List (List Command)) (i n : ℕ) → i < n → sections_text script n ≡ sections_text script i ++ (section_text script i ++ flat_map (section_text script) (range_with_len (i + 1) (n - (i + 1))))
sections_cut script i n below =
    let whole : n ≡ i + suc (n - (i + 1)) = omega (arith, below) in
    let at : 0 + i ≡ i = omega arith in
    ap (λ (m : ℕ). sections_text script m) whole ∙ ap (flat_map (section_text script)) (range_cut 0 i (suc (n - (i + 1))))
    ∙ flat_map-append (section_text script) (range_with_len 0 i) (range_with_len (0 + i) (suc (n - (i + 1))))
    ∙ ap (λ (m : ℕ). sections_text script i ++ flat_map (section_text script) (range_with_len m (suc (n - (i + 1))))) at

-- one section more
pub sections_more : (script : List (List Command)) (i : ℕ) → sections_text script (i + 1) ≡ sections_text script i ++ section_text script i
sections_more script i =
    let none : (i + 1) - (i + 1) ≡ 0 = omega arith in
    sections_cut script i (i + 1) (omega arith) ∙ ap (λ (m : ℕ). sections_text script i ++ (section_text script i ++ flat_map (section_text script) (range_with_len (i + 1) m))) none
    ∙ ap (λ (l : List ℕ). sections_text script i ++ l) (append-nil (section_text script i))
