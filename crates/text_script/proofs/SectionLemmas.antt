-- The lines of a script: how they grow by a heading and by a command, and how the script's text is split into them.
use Rattle.text_script.specs.declared.version.Version.{Version}
use Rattle.text_script.specs.declared.version.Version.TheVariants.{One, Two, Three}
use Rattle.std.proofs.Common.{◌≡◌, ℕ, ◌+◌, ◌<◌, ◌^◌, List, [], ◌∷◌, ◌++◌, map, length, length-append, true, ◌&&◌, refl, ap, sym, ◌∙◌, arith, append_assoc, sum_by}
use Rattle.std.specs.Prelude.{flat_map, ◌==◌}
use Rattle.std.specs.List.{list_all, slice_split}
use Rattle.std.proofs.lemmas.List.{append-nil}
use Rattle.std.proofs.lemmas.List.Concat.{flat_map-append}
use Rattle.std.proofs.lemmas.Bool.{and_parts}
use Rattle.model_core.specs.declared.command.Command.{Command}
use Rattle.model_core.specs.Output.{line}
use Rattle.text_script.specs.Forms.{is_writable, first_line}
use Rattle.text_script.specs.Script.{with_command}
use Rattle.text_script.specs.Spawning.{start, place_in, may_begin, may_follow, sections_follow}
use Rattle.text_script.specs.Spelling.{command_text, heading_text, section_lines, lines_from, script_lines, spelling, IsWritten}
use Rattle.text_script.proofs.DecimalLemmas.{is_free}
use Rattle.text_script.proofs.TextLemmas.{split-free}
use Rattle.text_script.proofs.ScriptLemmas.{length-with_last, total-push, total-with_last}
use Rattle.text_script.proofs.PlaceLemmas.{opened_in_order, called_in_order}
use Rattle.text_script.proofs.ShapeLemmas.{written, command_without_line_feed, heading_without_line_feed}

-- the texts of commands, one more at the end
map-push : (cs : List Command) (c : Command) → map command_text (cs ++ c ∷ []) ≡ map command_text cs ++ command_text c ∷ []
map-push [] c = refl
map-push (x ∷ cs) c = ap (λ ls. command_text x ∷ ls) (map-push cs c)

-- a further section adds its heading
lines-opened : (n : ℕ) (sections : List (List Command)) → lines_from n (sections ++ [] ∷ []) ≡ lines_from n sections ++ heading_text (n + length sections) ∷ []
lines-opened n [] = ap (λ k. heading_text k ∷ []) (omega arith)
lines-opened n (cs ∷ sections) =
    ap (λ ls. section_lines n cs ++ ls) (lines-opened (n + 1) sections)
    ∙ sym (append_assoc (section_lines n cs) (lines_from (n + 1) sections) _)
    ∙ ap (λ k. (section_lines n cs ++ lines_from (n + 1) sections) ++ heading_text k ∷ []) (omega arith)

-- a further command adds its line
lines-pushed : (n : ℕ) (sections : List (List Command)) (c : Command) → 0 < length sections → lines_from n (with_command sections c) ≡ lines_from n sections ++ command_text c ∷ []
lines-pushed n [] c h = absurd (omega arith)
lines-pushed n (cs ∷ []) c h =
    append-nil (section_lines n (cs ++ c ∷ [])) ∙ ap (λ ls. heading_text n ∷ ls) (map-push cs c) ∙ ap (λ ls. ls ++ command_text c ∷ []) (sym (append-nil (section_lines n cs)))
lines-pushed n (cs ∷ next ∷ sections) c h =
    ap (λ ls. section_lines n cs ++ ls) (lines-pushed (n + 1) (next ∷ sections) c (omega arith)) ∙ sym (append_assoc (section_lines n cs) (lines_from (n + 1) (next ∷ sections)) _)

-- the text grows by a line
pub text_grows : (old new : List (List ℕ)) (text : List ℕ) → new ≡ old ++ text ∷ [] → flat_map line new ≡ flat_map line old ++ line text
text_grows old new text e = ap (flat_map line) e ∙ flat_map-append line old (text ∷ []) ∙ ap (λ x. flat_map line old ++ x) (append-nil (line text))

spelling_grows : (ver : Version) (old new : List (List Command)) (text : List ℕ) → script_lines ver new ≡ script_lines ver old ++ text ∷ [] → spelling ver new ≡ spelling ver old ++ line text
spelling_grows ver old new text e = text_grows (script_lines ver old) (script_lines ver new) text e

pub lines-open : (ver : Version) (sections : List (List Command)) → script_lines ver (sections ++ [] ∷ []) ≡ script_lines ver sections ++ heading_text (length sections) ∷ []
lines-open ver sections =
    let same : 0 + length sections ≡ length sections = omega arith in
    ap (λ ls. first_line ver ∷ ls) (lines-opened 0 sections ∙ ap (λ k. lines_from 0 sections ++ heading_text k ∷ []) same)

pub lines-push : (ver : Version) (sections : List (List Command)) (c : Command) → 0 < length sections → script_lines ver (with_command sections c) ≡ script_lines ver sections ++ command_text c ∷ []
lines-push ver sections c h = ap (λ ls. first_line ver ∷ ls) (lines-pushed 0 sections c h)

-- the text of lines is split into them
pub cut_lines : (lines : List (List ℕ)) (rest : List ℕ) → list_all (is_free 10) lines ≡ true → slice_split (λ b. b == 10) (flat_map line lines ++ rest) ≡ lines ++ slice_split (λ b. b == 10) rest
cut_lines [] rest e = refl
cut_lines (l ∷ lines) rest e =
    let p = and_parts (is_free 10 l) (list_all (is_free 10) lines) e in
    ap (slice_split (λ b. b == 10)) (append_assoc (line l) (flat_map line lines) rest ∙ append_assoc l (10 ∷ []) (flat_map line lines ++ rest))
    ∙ split-free 10 l (flat_map line lines ++ rest) p.0
    ∙ ap (λ ls. l ∷ ls) (cut_lines lines rest p.1)

pub free_append : (ks bs : List (List ℕ)) → list_all (is_free 10) ks ≡ true → list_all (is_free 10) bs ≡ true → list_all (is_free 10) (ks ++ bs) ≡ true
free_append [] bs e f = f
free_append (a ∷ ks) bs e f =
    let p = and_parts (is_free 10 a) (list_all (is_free 10) ks) e in
    ap (λ b. b && list_all (is_free 10) (ks ++ bs)) p.0 ∙ free_append ks bs p.1 f

commands_free : (ver : Version) (domains : ℕ) (cs : List Command) → list_all (is_writable ver domains) cs ≡ true → list_all (is_free 10) (map command_text cs) ≡ true
commands_free ver domains [] e = refl
commands_free ver domains (c ∷ cs) e =
    let p = and_parts (is_writable ver domains c) (list_all (is_writable ver domains) cs) e in
    ap (λ b. b && list_all (is_free 10) (map command_text cs)) (command_without_line_feed ver domains c (written ver domains c p.0)) ∙ commands_free ver domains cs p.1

lines_free : (ver : Version) (domains : ℕ) (n : ℕ) (sections : List (List Command)) → n + length sections < 2 ^ 63 → list_all (list_all (is_writable ver domains)) sections ≡ true → list_all (is_free 10) (lines_from n sections) ≡ true
lines_free ver domains n [] h e = refl
lines_free ver domains n (cs ∷ sections) h e =
    let p = and_parts (list_all (is_writable ver domains) cs) (list_all (list_all (is_writable ver domains)) sections) e in
    free_append (section_lines n cs) (lines_from (n + 1) sections)
    (ap (λ b. b && list_all (is_free 10) (map command_text cs)) (heading_without_line_feed n (omega arith)) ∙ commands_free ver domains cs p.0)
    (lines_free ver domains (n + 1) sections (omega arith) p.1)

-- no line feed stands in the first line
first_free : (ver : Version) → is_free 10 (first_line ver) ≡ true
first_free One = refl
first_free Two = refl
first_free Three = refl

-- the text of a script, and what stands behind it, is split into the script's lines and what stands behind them
pub split_spelling : (ver : Version) (domains : ℕ) (sections : List (List Command)) (rest : List ℕ) → domains < 2 ^ 32 → IsWritten ver domains sections
    → slice_split (λ b. b == 10) (spelling ver sections ++ rest) ≡ script_lines ver sections ++ slice_split (λ b. b == 10) rest
split_spelling ver domains sections rest small w = cut_lines (script_lines ver sections) rest (ap (λ b. b && list_all (is_free 10) (lines_from 0 sections)) (first_free ver) ∙ lines_free ver domains 0 sections (omega (arith, w.few_sections)) w.writable)

-- a section more, and a command more, are within the limits
all-push : (ver : Version) (domains : ℕ) (sections : List (List Command)) → list_all (list_all (is_writable ver domains)) sections ≡ true → list_all (list_all (is_writable ver domains)) (sections ++ [] ∷ []) ≡ true
all-push ver domains [] e = refl
all-push ver domains (cs ∷ sections) e =
    let p = and_parts (list_all (is_writable ver domains) cs) (list_all (list_all (is_writable ver domains)) sections) e in
    ap (λ b. b && list_all (list_all (is_writable ver domains)) (sections ++ [] ∷ [])) p.0 ∙ all-push ver domains sections p.1

one_more : (ver : Version) (domains : ℕ) (cs : List Command) (c : Command) → list_all (is_writable ver domains) cs ≡ true → is_writable ver domains c ≡ true → list_all (is_writable ver domains) (cs ++ c ∷ []) ≡ true
one_more ver domains [] c e f = ap (λ b. b && true) f
one_more ver domains (x ∷ cs) c e f =
    let p = and_parts (is_writable ver domains x) (list_all (is_writable ver domains) cs) e in
    ap (λ b. b && list_all (is_writable ver domains) (cs ++ c ∷ [])) p.0 ∙ one_more ver domains cs c p.1 f

all-with_command : (ver : Version) (domains : ℕ) (sections : List (List Command)) (c : Command) → list_all (list_all (is_writable ver domains)) sections ≡ true → is_writable ver domains c ≡ true → list_all (list_all (is_writable ver domains)) (with_command sections c) ≡ true
all-with_command ver domains [] c e f = refl
all-with_command ver domains (cs ∷ []) c e f =
    let p = and_parts (list_all (is_writable ver domains) cs) true e in
    ap (λ b. b && true) (one_more ver domains cs c p.0 f)
all-with_command ver domains (cs ∷ next ∷ sections) c e f =
    let p = and_parts (list_all (is_writable ver domains) cs) (list_all (list_all (is_writable ver domains)) (next ∷ sections)) e in
    ap (λ b. b && list_all (list_all (is_writable ver domains)) (with_command (next ∷ sections) c)) p.0 ∙ all-with_command ver domains (next ∷ sections) c p.1 f

-- what one more line leaves
pub record Grown (ver : Version) (domains : ℕ) (old new : List (List Command)) (text : List ℕ) : Type 0 where
  pub is_written : IsWritten ver domains new
  pub lines : script_lines ver new ≡ script_lines ver old ++ text ∷ []
  pub spelled : spelling ver new ≡ spelling ver old ++ line text

pub grown_by_heading : (ver : Version) (domains : ℕ) (old new : List (List Command)) (text : List ℕ) → IsWritten ver domains old → length old < domains → may_begin ver (place_in old) ≡ true → new ≡ old ++ [] ∷ [] → text ≡ heading_text (length old) → Grown ver domains old new text
grown_by_heading ver domains old new text w room may opened said =
    let lines = ap (script_lines ver) opened ∙ lines-open ver old ∙ ap (λ t. script_lines ver old ++ t ∷ []) (sym said) in
    record {
      is_written = record {
        few_sections = omega (arith, ap length opened, length-append old ([] ∷ []));
        few_commands = omega (arith, ap (sum_by length) opened, total-push old, w.few_commands);
        writable = ap (list_all (list_all (is_writable ver domains))) opened ∙ all-push ver domains old w.writable;
        in_order = ap (sections_follow ver start) opened ∙ opened_in_order ver old w.in_order may;
      };
      lines = lines;
      spelled = spelling_grows ver old new text lines;
    }

pub grown_by_command : (ver : Version) (domains : ℕ) (old new : List (List Command)) (c : Command) (text : List ℕ) → IsWritten ver domains old → 0 < length old → sum_by length old < 200000 → is_writable ver domains c ≡ true → may_follow ver (place_in old) c ≡ true → new ≡ with_command old c → text ≡ command_text c → Grown ver domains old new text
grown_by_command ver domains old new c text w some room fit may pushed said =
    let lines = ap (script_lines ver) pushed ∙ lines-push ver old c some ∙ ap (λ t. script_lines ver old ++ t ∷ []) (sym said) in
    record {
      is_written = record {
        few_sections = omega (arith, ap length pushed, length-with_last old c, w.few_sections);
        few_commands = omega (arith, ap (sum_by length) pushed, total-with_last old c some);
        writable = ap (list_all (list_all (is_writable ver domains))) pushed ∙ all-with_command ver domains old c w.writable fit;
        in_order = ap (sections_follow ver start) pushed ∙ called_in_order ver old c some w.in_order may;
      };
      lines = lines;
      spelled = spelling_grows ver old new text lines;
    }
