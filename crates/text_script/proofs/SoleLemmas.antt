-- Sections that are read alone, and the script that they make.
use Rattle.std.proofs.Common.{◌≡◌, ◌≢◌, ℕ, ◌+◌, ◌<◌, ◌≤◌, ◌^◌, List, [], ◌∷◌, ◌++◌, map, length, true, ◌&&◌, refl, ap, sym, ◌∙◌, subst, append_assoc, sum_by, None}
use Rattle.std.specs.Prelude.{Option, flat_map, ◌==◌}
use Rattle.std.specs.List.{list_all, slice_split}
use Rattle.std.proofs.lemmas.List.{append-nil, append_cancel_left}
use Rattle.std.proofs.lemmas.List.Concat.{flat_map-append}
use Rattle.std.proofs.lemmas.Bool.{and_parts}
use Rattle.model_core.specs.declared.command.Command.{Command}
use Rattle.model_core.specs.Output.{line}
use Rattle.text_script.specs.declared.version.Version.{Version}
use Rattle.text_script.specs.declared.version.Version.TheVariants.{One, Two, Three}
use Rattle.text_script.specs.declared.fault.ScriptFault.{ScriptFault}
use Rattle.text_script.specs.declared.fault.ScriptFault.TheVariants.{Syntax, Order, Range, TooLong, TooMany, Spawn, Memory}
use Rattle.text_script.specs.Faults.{fault_from, IsFaultUnlessMemory}
use Rattle.text_script.specs.Forms.{is_writable, first_line, version_number}
use Rattle.text_script.specs.Sections.{IsSectionText, AreSectionTexts, headed, text_with}
use Rattle.text_script.specs.Spawning.{start, sections_follow}
use Rattle.text_script.specs.Spelling.{command_text, heading_text, lines_from, spelling, with_empty, IsWritten, Spells}
use Rattle.text_script.proofs.OnlyLemmas.{spelled_once}
use Rattle.text_script.proofs.PlaceLemmas.{first_in_order, second_in_order}
use Rattle.text_script.proofs.ReadLemmas.{faults_on}

-- a script with one section is its heading and the section's lines
sole_spelling : (ver : Version) (cs : List Command) → spelling ver (cs ∷ []) ≡ spelling ver ([] ∷ []) ++ flat_map line (map command_text cs)
sole_spelling ver cs =
    let lines = flat_map line (map command_text cs) in
    ap (λ x. line (first_line ver) ++ (line (heading_text 0) ++ flat_map line x)) (append-nil (map command_text cs))
    ∙ ap (λ x. line (first_line ver) ++ (x ++ lines)) (sym (append-nil (line (heading_text 0))))
    ∙ sym (append_assoc (line (first_line ver)) (line (heading_text 0) ++ []) lines)

-- what was read as the only section of a script is the section
pub sole_read : (ver : Version) (domains : ℕ) (lines : List ℕ) (sections : List (List Command)) (cs : List Command) → IsWritten ver domains sections → spelling ver ([] ∷ []) ++ lines ≡ spelling ver sections → sections ≡ cs ∷ [] → IsSectionText ver domains lines cs
sole_read ver domains lines sections cs w said one = record {
  is_written = subst (IsWritten ver domains) one w;
  lines_are = append_cancel_left (spelling ver ([] ∷ [])) lines (flat_map line (map command_text cs)) (said ∙ ap (spelling ver) one ∙ sole_spelling ver cs);
}

-- a section's lines are read as no other sections
pub sole_alone : (ver : Version) (domains : ℕ) (lines : List ℕ) (sections : List (List Command)) (cs : List Command) → domains < 2 ^ 32 → IsWritten ver domains sections → spelling ver ([] ∷ []) ++ lines ≡ spelling ver sections → IsSectionText ver domains lines cs → length sections ≡ 1
sole_alone ver domains lines sections cs small w said text =
    ap length (spelled_once ver domains sections (cs ∷ []) small w text.is_written (sym said ∙ ap (λ x. spelling ver ([] ∷ []) ++ x) text.lines_are ∙ sym (sole_spelling ver cs)))

-- and have no fault
sole_faultless : (ver : Version) (domains : ℕ) (lines whole : List ℕ) (cs : List Command) → domains < 2 ^ 32 → line (first_line ver) ++ whole ≡ spelling ver ([] ∷ []) ++ lines → IsSectionText ver domains lines cs
    → fault_from ver domains (first_line ver ∷ []) (slice_split (λ b. b == 10) whole) ≡ None
sole_faultless ver domains lines whole cs small said text =
    let spelled = said ∙ ap (λ x. spelling ver ([] ∷ []) ++ x) text.lines_are ∙ sym (sole_spelling ver cs) ∙ sym (append-nil (spelling ver (cs ∷ []))) in
    (faults_on ver domains (cs ∷ []) whole [] small text.is_written spelled).0

no_such_fault : (first : Option ScriptFault) (e : ScriptFault) → e ≢ Memory → first ≡ None → IsFaultUnlessMemory e first → ⊥
no_such_fault first Memory other none fault = other refl
no_such_fault first (Syntax k) other none fault = cc
no_such_fault first (Order k) other none fault = cc
no_such_fault first (Range k i) other none fault = cc
no_such_fault first (TooLong k) other none fault = cc
no_such_fault first (TooMany k) other none fault = cc
no_such_fault first (Spawn k) other none fault = cc

-- the text of a heading and of what stands behind it
pub sole_whole : (ver : Version) (lines : List ℕ) → line (first_line ver) ++ ((line (heading_text 0) ++ []) ++ lines) ≡ spelling ver ([] ∷ []) ++ lines
sole_whole ver lines = sym (append_assoc (line (first_line ver)) (line (heading_text 0) ++ []) lines)

pub sole_sound : (ver : Version) (domains : ℕ) (lines : List ℕ) (e : ScriptFault) (cs : List Command) → domains < 2 ^ 32 → e ≢ Memory
    → IsFaultUnlessMemory e (fault_from ver domains (first_line ver ∷ []) (slice_split (λ b. b == 10) ((line (heading_text 0) ++ []) ++ lines))) → IsSectionText ver domains lines cs → ⊥
sole_sound ver domains lines e cs small other fault text =
    no_such_fault (fault_from ver domains (first_line ver ∷ []) (slice_split (λ b. b == 10) ((line (heading_text 0) ++ []) ++ lines))) e other (sole_faultless ver domains lines ((line (heading_text 0) ++ []) ++ lines) cs small (sole_whole ver lines) text) fault

-- sections behind their headings are the lines of a script
headed_lines : (ver : Version) (domains n : ℕ) (texts : List (List ℕ)) (sections : List (List Command)) → AreSectionTexts ver domains texts sections → headed n texts ≡ flat_map line (lines_from n sections)
headed_lines ver domains n [] [] are = refl
headed_lines ver domains n [] (cs ∷ sections) are = absurd are
headed_lines ver domains n (t ∷ texts) [] are = absurd are
headed_lines ver domains n (t ∷ texts) (cs ∷ sections) are =
    ap (λ x. line (heading_text n) ++ (x ++ headed (n + 1) texts)) are.0.lines_are
    ∙ ap (λ x. line (heading_text n) ++ (flat_map line (map command_text cs) ++ x)) (headed_lines ver domains (n + 1) texts sections are.1)
    ∙ ap (λ x. line (heading_text n) ++ x) (sym (flat_map-append line (map command_text cs) (lines_from (n + 1) sections)))

all_writable : (ver : Version) (domains : ℕ) (texts : List (List ℕ)) (sections : List (List Command)) → AreSectionTexts ver domains texts sections → list_all (list_all (is_writable ver domains)) sections ≡ true
all_writable ver domains [] [] are = refl
all_writable ver domains [] (cs ∷ sections) are = absurd are
all_writable ver domains (t ∷ texts) [] are = absurd are
all_writable ver domains (t ∷ texts) (cs ∷ sections) are =
    let own = (and_parts (list_all (is_writable ver domains) cs) true are.0.is_written.writable).0 in
    ap (λ b. b && list_all (list_all (is_writable ver domains)) sections) own ∙ all_writable ver domains texts sections are.1

unspawned : (ver : Version) (sections : List (List Command)) → ver ≢ Three → sections_follow ver start sections ≡ true
unspawned One sections other = first_in_order start sections
unspawned Two sections other = second_in_order start sections
unspawned Three sections other = absurd (other refl)

pub sections_join : (newest ver : Version) (domains : ℕ) (texts : List (List ℕ)) (sections : List (List Command)) → ver ≢ Three → version_number ver ≤ version_number newest → AreSectionTexts ver domains texts sections
    → length sections ≤ domains → sum_by length sections ≤ 200000 → length (text_with ver texts) ≤ 16777216 → Spells newest domains (record { version = ver; sections = with_empty domains sections }) (text_with ver texts)
sections_join newest ver domains texts sections other read are few short small = record {
  is_read = read;
  written = sections;
  is_written = record {
    few_sections = few;
    few_commands = short;
    writable = all_writable ver domains texts sections are;
    in_order = unspawned ver sections other;
  };
  bytes_are = ap (λ x. line (first_line ver) ++ x) (headed_lines ver domains 0 texts sections are);
  few_bytes = small;
  script_is = refl;
}
