-- A text is the spelling of one script alone, and has no fault then.
use Rattle.text_script.specs.declared.version.Version.{Version}
use Rattle.text_script.specs.declared.version.Version.TheVariants.{One, Two, Three}
use Rattle.std.proofs.Common.{◌≡◌, ℕ, ◌+◌, ◌<◌, ◌≤◌, ◌^◌, pos, List, [], ◌∷◌, ◌++◌, map, length, length-append, true, false, cond, refl, ap, sym, ◌∙◌, subst, get_or, arith, append_assoc, None, Some, Ok, Err, IfOk, IfErr}
use Rattle.std.specs.Prelude.{Result, option_and_then, nat_lt, nat_le, ◌==◌, if◌then◌else◌}
use Rattle.std.specs.List.{list_all, slice_split}
use Rattle.std.proofs.lemmas.Bool.Decides.{nat_tests}
use Rattle.std.proofs.lemmas.List.{append-nil}
use Rattle.std.proofs.lemmas.Bool.{and_parts}
use Rattle.model_core.specs.declared.command.Command.{Command}
use Rattle.text_script.specs.declared.fault.ScriptFault.{ScriptFault}
use Rattle.text_script.specs.declared.fault.ScriptFault.TheVariants.{Syntax, Order, Range, TooLong, TooMany, Spawn, Memory}
use Rattle.text_script.specs.Forms.{parts, is_writable, version_number, first_line}
use Rattle.text_script.specs.Script.{Scripted}
use Rattle.text_script.specs.Spelling.{command_text, section_lines, lines_from, spelling, with_empty, IsWritten, Spells, IsUnlessMemory}
use Rattle.text_script.specs.Faults.{LineShape, heading, command, neither, line_shape, fault_from, script_fault, fault_behind, first_fault, version_of, read_version, IsFaultUnlessMemory}
use Rattle.text_script.proofs.FormLemmas.{whole, whole-parts}
use Rattle.text_script.proofs.ShapeLemmas.{written, shape-command, shape-heading}
use Rattle.text_script.proofs.SectionLemmas.{split_spelling}
use Rattle.text_script.proofs.FaultLemmas.{faults_behind}

-- the commands before the first heading, and the sections, of some lines
pub record Sections : Type 0 where
  pub open_commands : List Command
  pub sections : List (List Command)

abbrev with_line : LineShape → Sections → Sections
with_line (heading z) s = record { open_commands = []; sections = s.open_commands ∷ s.sections }
with_line (command w zs) s = record { open_commands = whole w zs ∷ s.open_commands; sections = s.sections }
with_line neither s = s

abbrev decoded : (ver : Version) → List (List ℕ) → Sections
decoded ver [] = record { open_commands = []; sections = [] }
decoded ver (l ∷ ls) = with_line (line_shape ver l) (decoded ver ls)

-- the lines of commands give them back
decoded-commands : (ver : Version) (domains : ℕ) (cs : List Command) (rest : List (List ℕ)) (s : Sections) → decoded ver rest ≡ s → s.open_commands ≡ [] → list_all (is_writable ver domains) cs ≡ true
    → decoded ver (map command_text cs ++ rest) ≡ record { open_commands = cs; sections = s.sections }
decoded-commands ver domains [] rest s e none fit = e ∙ ap (λ (cs : List Command). record s { open_commands = cs }) none
decoded-commands ver domains (c ∷ cs) rest s e none fit =
    let p = and_parts (is_writable ver domains c) (list_all (is_writable ver domains) cs) fit in
    ap (λ x. with_line x (decoded ver (map command_text cs ++ rest))) (shape-command ver domains c (written ver domains c p.0))
    ∙ ap (with_line (command (parts c).word (parts c).numbers)) (decoded-commands ver domains cs rest s e none p.1)
    ∙ ap (λ (x : Command). record s { open_commands = x ∷ cs }) (whole-parts c)

-- the lines of sections give them back
decoded-sections : (ver : Version) (domains : ℕ) (n : ℕ) (sections : List (List Command)) (rest : List (List ℕ)) → n + length sections < 2 ^ 63 → decoded ver rest ≡ record { open_commands = []; sections = [] } → list_all (list_all (is_writable ver domains)) sections ≡ true
    → decoded ver (lines_from n sections ++ rest) ≡ record { open_commands = []; sections = sections }
decoded-sections ver domains n [] rest small e fit = e
decoded-sections ver domains n (cs ∷ sections) rest small e fit =
    let p = and_parts (list_all (is_writable ver domains) cs) (list_all (list_all (is_writable ver domains)) sections) fit in
    let later = decoded-sections ver domains (n + 1) sections rest (omega arith) e p.1 in
    ap (decoded ver) (append_assoc (section_lines n cs) (lines_from (n + 1) sections) rest)
    ∙ ap (λ x. with_line x (decoded ver (map command_text cs ++ (lines_from (n + 1) sections ++ rest)))) (shape-heading ver n (omega arith))
    ∙ ap (with_line (heading (pos n))) (decoded-commands ver domains cs (lines_from (n + 1) sections ++ rest) _ later refl p.0)

-- neither the first line nor what stands behind the last is a line of a section
decoded-first : (ver : Version) (ls : List (List ℕ)) → decoded ver (first_line ver ∷ ls) ≡ decoded ver ls
decoded-first One ls = refl
decoded-first Two ls = refl
decoded-first Three ls = refl

decoded-end : (ver : Version) → decoded ver ([] ∷ []) ≡ record { open_commands = []; sections = [] }
decoded-end One = refl
decoded-end Two = refl
decoded-end Three = refl

decoded-script : (ver : Version) (domains : ℕ) (sections : List (List Command)) → domains < 2 ^ 32 → IsWritten ver domains sections → decoded ver (slice_split (λ b. b == 10) (spelling ver sections)) ≡ record { open_commands = []; sections = sections }
decoded-script ver domains sections small w =
    ap (λ x. decoded ver (slice_split (λ b. b == 10) x)) (sym (append-nil (spelling ver sections)))
    ∙ ap (decoded ver) (split_spelling ver domains sections [] small w)
    ∙ decoded-first ver (lines_from 0 sections ++ [] ∷ [])
    ∙ decoded-sections ver domains 0 sections ([] ∷ []) (omega (arith, w.few_sections)) (decoded-end ver) w.writable

-- two scripts with one spelling are one
pub spelled_once : (ver : Version) (domains : ℕ) (a b : List (List Command)) → domains < 2 ^ 32 → IsWritten ver domains a → IsWritten ver domains b → spelling ver a ≡ spelling ver b → a ≡ b
spelled_once ver domains a b small v w e =
    ap (λ (s : Sections). s.sections) (sym (decoded-script ver domains a small v) ∙ ap (λ x. decoded ver (slice_split (λ b. b == 10) x)) e ∙ decoded-script ver domains b small w)

-- the first lines of two versions differ
version_once : (v u : Version) (a b : List (List Command)) → spelling v a ≡ spelling u b → v ≡ u
version_once One One a b e = refl
version_once One Two a b e = absurd (let clash : 49 ≡ 50 = ap (λ (l : List ℕ). get_or l 5 0) e in omega (arith, clash))
version_once One Three a b e = absurd (let clash : 49 ≡ 51 = ap (λ (l : List ℕ). get_or l 5 0) e in omega (arith, clash))
version_once Two One a b e = absurd (let clash : 50 ≡ 49 = ap (λ (l : List ℕ). get_or l 5 0) e in omega (arith, clash))
version_once Two Two a b e = refl
version_once Two Three a b e = absurd (let clash : 50 ≡ 51 = ap (λ (l : List ℕ). get_or l 5 0) e in omega (arith, clash))
version_once Three One a b e = absurd (let clash : 51 ≡ 49 = ap (λ (l : List ℕ). get_or l 5 0) e in omega (arith, clash))
version_once Three Two a b e = absurd (let clash : 51 ≡ 50 = ap (λ (l : List ℕ). get_or l 5 0) e in omega (arith, clash))
version_once Three Three a b e = refl

pub one_script : (newest : Version) (domains : ℕ) (s t : Scripted) (bytes : List ℕ) → domains < 2 ^ 32 → Spells newest domains s bytes → Spells newest domains t bytes → s ≡ t
one_script newest domains s t bytes small v w =
    let same : s.version ≡ t.version = version_once s.version t.version v.written w.written (sym v.bytes_are ∙ w.bytes_are) in
    let sections : s.sections ≡ t.sections = v.script_is ∙ ap (with_empty domains) (spelled_once t.version domains v.written w.written small (subst (λ (u : Version). IsWritten u domains v.written) same v.is_written) w.is_written
    (sym (ap (λ (u : Version). spelling u v.written) same) ∙ (sym v.bytes_are ∙ w.bytes_are))) ∙ sym w.script_is in
    λ i. record { version = same i; sections = sections i }

-- the first fault of few bytes is that of a line
pub fault_of_few : (newest : Version) (domains : ℕ) (bytes : List ℕ) → length bytes ≤ 16777216 → first_fault newest domains bytes ≡ script_fault newest domains (slice_split (λ b. b == 10) bytes)
fault_of_few newest domains bytes few =
    let test : nat_lt 16777216 (length bytes) ≡ false = grind (arith, nat_tests) in
    ap (λ b. cond b (Some (TooLong (length bytes))) (script_fault newest domains (slice_split (λ b. b == 10) bytes))) test

-- behind a first line that names a version that is read the faults are those of its scripts
named_first : (ver : Version) → version_of (first_line ver) ≡ Some ver
named_first One = refl
named_first Two = refl
named_first Three = refl

read_first : (newest ver : Version) → version_number ver ≤ version_number newest → read_version newest (first_line ver) ≡ Some ver
read_first newest ver read =
    let test : nat_le (version_number ver) (version_number newest) ≡ true = grind (arith, nat_tests) in
    ap (option_and_then (λ v. if nat_le (version_number v) (version_number newest) then Some v else None)) (named_first ver) ∙ ap (λ b. cond b (Some ver) None) test

pub begun : (newest ver : Version) (domains : ℕ) (lines : List (List ℕ)) → version_number ver ≤ version_number newest → 0 < length lines
    → script_fault newest domains (first_line ver ∷ lines) ≡ fault_from ver domains (first_line ver ∷ []) lines
begun newest ver domains [] read some = absurd (omega arith)
begun newest ver domains (l ∷ lines) read some = ap (λ o. fault_behind domains (first_line ver) o (l ∷ lines)) (read_first newest ver read)

-- what is spelled has no fault
pub no_fault : (newest : Version) (domains : ℕ) (s : Scripted) (bytes : List ℕ) → domains < 2 ^ 32 → Spells newest domains s bytes → first_fault newest domains bytes ≡ None
no_fault newest domains s bytes small w =
    fault_of_few newest domains bytes w.few_bytes
    ∙ ap (λ x. script_fault newest domains (slice_split (λ b. b == 10) x)) (w.bytes_are ∙ sym (append-nil (spelling s.version w.written)))
    ∙ ap (script_fault newest domains) (split_spelling s.version domains w.written [] small w.is_written)
    ∙ begun newest s.version domains (lines_from 0 w.written ++ [] ∷ []) w.is_read (omega (arith, length-append (lines_from 0 w.written) ([] ∷ [])))
    ∙ (faults_behind s.version domains w.written ([] ∷ []) w.is_written small (omega arith)).0

no_other : (newest : Version) (domains : ℕ) (s : Scripted) (bytes : List ℕ) (f : ScriptFault) → domains < 2 ^ 32 → Spells newest domains s bytes → first_fault newest domains bytes ≡ Some f → ⊥
no_other newest domains s bytes f small w e =
    let none = no_fault newest domains s bytes small w in
    cc

-- what is spelled so is read, unless memory ran out
pub only_read : (newest : Version) (domains : ℕ) (bytes : List ℕ) (result : Result Scripted ScriptFault) → domains < 2 ^ 32 → IfOk result (λ s. Spells newest domains s bytes) → IfErr result (λ e. IsFaultUnlessMemory e (first_fault newest domains bytes))
    → (s : Scripted) → Spells newest domains s bytes → IsUnlessMemory result (Ok s)
only_read newest domains bytes (Ok t) small found fault s w = ap Ok (one_script newest domains t s bytes small found w)
only_read newest domains bytes (Err Memory) small found fault s w = tt
only_read newest domains bytes (Err (Syntax k)) small found fault s w = absurd (no_other newest domains s bytes (Syntax k) small w fault)
only_read newest domains bytes (Err (Order k)) small found fault s w = absurd (no_other newest domains s bytes (Order k) small w fault)
only_read newest domains bytes (Err (Range k i)) small found fault s w = absurd (no_other newest domains s bytes (Range k i) small w fault)
only_read newest domains bytes (Err (TooLong k)) small found fault s w = absurd (no_other newest domains s bytes (TooLong k) small w fault)
only_read newest domains bytes (Err (TooMany k)) small found fault s w = absurd (no_other newest domains s bytes (TooMany k) small w fault)
only_read newest domains bytes (Err (Spawn k)) small found fault s w = absurd (no_other newest domains s bytes (Spawn k) small w fault)

-- what has a fault is refused by it, unless memory ran out
pub refused_by : (newest : Version) (domains : ℕ) (bytes : List ℕ) (result : Result Scripted ScriptFault) → domains < 2 ^ 32 → IfOk result (λ s. Spells newest domains s bytes) → IfErr result (λ e. IsFaultUnlessMemory e (first_fault newest domains bytes))
    → (e : ScriptFault) → first_fault newest domains bytes ≡ Some e → IsUnlessMemory result (Err e)
refused_by newest domains bytes (Ok t) small found fault e first = absurd (no_other newest domains t bytes e small found first)
refused_by newest domains bytes (Err Memory) small found fault e first = tt
refused_by newest domains bytes (Err (Syntax k)) small found fault e first = cc
refused_by newest domains bytes (Err (Order k)) small found fault e first = cc
refused_by newest domains bytes (Err (Range k i)) small found fault e first = cc
refused_by newest domains bytes (Err (TooLong k)) small found fault e first = cc
refused_by newest domains bytes (Err (TooMany k)) small found fault e first = cc
refused_by newest domains bytes (Err (Spawn k)) small found fault e first = cc
