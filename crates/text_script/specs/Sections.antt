-- Sections of a script that are read alone, and the text that they make.
use Rattle.std.specs.Prelude.{◌≡◌, ℕ, ◌+◌, List, [], ◌∷◌, ◌++◌, map, flat_map}
use Rattle.model_core.specs.declared.command.Command.{Command}
use Rattle.model_core.specs.Output.{line}
use Rattle.text_script.specs.declared.version.Version.{Version}
use Rattle.text_script.specs.Forms.{first_line}
use Rattle.text_script.specs.Spelling.{command_text, heading_text, IsWritten}

-- the lines behind a heading are those of these commands, which may be a script's only section
pub record IsSectionText (ver : Version) (domains : ℕ) (lines : List ℕ) (cs : List Command) : Type 0 where
  pub is_written : IsWritten ver domains (cs ∷ [])
  pub lines_are : lines ≡ flat_map line (map command_text cs)

-- the lines of sections, each behind its heading, the first of which has the number n
abbrev pub headed : ℕ → List (List ℕ) → List ℕ
headed n [] = []
headed n (lines ∷ texts) = line (heading_text n) ++ (lines ++ headed (n + 1) texts)

-- the text of a script with these lines of sections
abbrev pub text_with : Version → List (List ℕ) → List ℕ
text_with ver texts = line (first_line ver) ++ headed 0 texts

-- the lines at each place are those of the section at this place
abbrev pub AreSectionTexts : Version → ℕ → List (List ℕ) → List (List Command) → Type 0
AreSectionTexts ver domains [] [] = Unit {0}
AreSectionTexts ver domains (lines ∷ texts) (cs ∷ sections) = IsSectionText ver domains lines cs × AreSectionTexts ver domains texts sections
AreSectionTexts ver domains _ _ = ⊥
