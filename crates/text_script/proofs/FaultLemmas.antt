-- No line of a script has a fault, so the first fault of a text that begins as a script stands behind it.
use Rattle.text_script.specs.declared.version.Version.{Version}
use Rattle.text_script.specs.declared.version.Version.TheVariants.{One, Two, Three}
use Rattle.std.proofs.Common.{◌≡◌, ◌≢◌, ℕ, ◌+◌, ◌<◌, ◌≤◌, ◌^◌, ℤ, pos, List, [], ◌∷◌, ◌++◌, map, length, length-append, true, false, cond, refl, ap, sym, ◌∙◌, subst, arith, append_assoc, sum_by, fold, None, Some}
use Rattle.std.specs.Prelude.{option_map, ◌&&◌, ◌==◌, nat_lt}
use Rattle.std.specs.List.{list_all}
use Rattle.std.specs.Ordering.{int_eq}
use Rattle.std.proofs.lemmas.Bool.Decides.{nat_tests}
use Rattle.std.proofs.lemmas.List.{append-nil}
use Rattle.std.proofs.lemmas.List.Sums.{fold-append}
use Rattle.std.proofs.lemmas.Bool.{and_parts}
use Rattle.model_core.specs.declared.command.Command.{Command}
use Rattle.text_script.specs.declared.form.Word.{Word}
use Rattle.text_script.specs.declared.fault.ScriptFault.{ScriptFault}
use Rattle.text_script.specs.declared.fault.ScriptFault.TheVariants.{Range, Order, Syntax}
use Rattle.text_script.specs.Forms.{form, made, parts as taken_apart, is_writable, first_line}
use Rattle.text_script.specs.Spawning.{Place, start, opened, called, place_in, may_begin, may_follow, follow, sections_follow}
use Rattle.text_script.specs.Spelling.{command_text, heading_text, section_lines, lines_from, script_lines, IsWritten}
use Rattle.text_script.specs.Faults.{LineShape, heading, command, line_shape, behind_shape, place_of, first_out_of_range, order_fault, fault_of_shape, line_fault, fault_from, or_else}
use Rattle.text_script.proofs.ScriptLemmas.{total-cons}
use Rattle.text_script.proofs.PlaceLemmas.{places, places_in, headings_kept, commands_grow}
use Rattle.text_script.proofs.FormLemmas.{made-parts}
use Rattle.text_script.proofs.LineLemmas.{ranges_alone}
use Rattle.text_script.proofs.ShapeLemmas.{written, shape-command, shape-heading}

-- the lines before a line, of which there are some, leave it this place
pub record Before (ver : Version) (before : List (List ℕ)) (p : Place) : Type 0 where
  pub some : 0 < length before
  pub place_is : place_of ver before ≡ p

pub before_more : (ver : Version) (before : List (List ℕ)) (p : Place) (s : LineShape) (l : List ℕ) → Before ver before p → line_shape ver l ≡ s → Before ver (before ++ l ∷ []) (behind_shape p s)
before_more ver before p s l b e = record {
  some = omega (arith, length-append before (l ∷ []));
  place_is = fold-append (λ p l. behind_shape p (line_shape ver l)) start before (l ∷ []) ∙ ap (λ q. behind_shape q (line_shape ver l)) b.place_is ∙ ap (behind_shape p) e;
}

-- the fault of a line below the first, by what stands before it
pub line_fault_below : (ver : Version) (domains : ℕ) (before : List (List ℕ)) (p : Place) (l : List ℕ) → Before ver before p → line_fault ver domains before l ≡ fault_of_shape ver domains (length before + 1) p (line_shape ver l)
line_fault_below ver domains before p l b = ap (λ q. fault_of_shape ver domains (length before + 1) q (line_shape ver l)) b.place_is

-- a line without a fault is passed over
pub passed_over : (ver : Version) (domains : ℕ) (before : List (List ℕ)) (l : List ℕ) (parts : List (List ℕ)) → 0 < length parts → line_fault ver domains before l ≡ None
    → fault_from ver domains before (l ∷ parts) ≡ fault_from ver domains (before ++ l ∷ []) parts
passed_over ver domains before l [] some e = absurd (omega arith)
passed_over ver domains before l (next ∷ more) some e = ap (λ o. or_else o (fault_from ver domains (before ++ l ∷ []) (next ∷ more))) e

-- a line with a fault ends it
pub stopped_at : (ver : Version) (domains : ℕ) (before : List (List ℕ)) (l : List ℕ) (parts : List (List ℕ)) (f : ScriptFault) → 0 < length parts → line_fault ver domains before l ≡ Some f → fault_from ver domains before (l ∷ parts) ≡ Some f
stopped_at ver domains before l [] f some e = absurd (omega arith)
stopped_at ver domains before l (next ∷ more) f some e = ap (λ o. or_else o (fault_from ver domains (before ++ l ∷ []) (next ∷ more))) e

-- what stands behind the last line feed is a fault
pub ended_wrong : (ver : Version) (domains : ℕ) (before : List (List ℕ)) (rest : List ℕ) → false ≡ (length rest == 0) → fault_from ver domains before (rest ∷ []) ≡ Some (Syntax (length before + 1))
ended_wrong ver domains before [] some = cc
ended_wrong ver domains [] (b ∷ bs) some = refl
ended_wrong ver domains (l ∷ before) (b ∷ bs) some = refl

-- the next heading has no fault
no_heading_fault : (ver : Version) (domains line : ℕ) (p : Place) → p.headings < domains → may_begin ver p ≡ true → fault_of_shape ver domains line p (heading (pos p.headings)) ≡ None
no_heading_fault ver domains line p small may =
    let inside : nat_lt p.headings domains ≡ true = grind (arith, nat_tests) in
    let next : int_eq (pos p.headings) (pos p.headings) ≡ true = grind (arith, nat_tests) in
    ap (λ b. cond b (cond (int_eq (pos p.headings) (pos p.headings)) (order_fault (may_begin ver p) line) (Some (Order line))) (Some (Range line 1))) inside
    ∙ ap (λ b. cond b (order_fault (may_begin ver p) line) (Some (Order line))) next ∙ ap (λ b. order_fault b line) may

-- a command of the grammar in its place has no fault
no_command_fault : (ver : Version) (domains line : ℕ) (p : Place) (w : Word) (zs : List ℤ) → 0 < p.headings → p.commands < 200000 → first_out_of_range ver domains 1 (form w).operands zs ≡ None → may_follow ver p (made w zs) ≡ true
    → fault_of_shape ver domains line p (command w zs) ≡ None
no_command_fault ver domains line p w zs some room inside may =
    let begun : p.headings ≢ 0 = omega arith in
    ranges_alone ver domains line p w zs begun room ∙ ap (λ o. or_else (option_map (Range line) o) (order_fault (may_follow ver p (made w zs)) line)) inside ∙ ap (λ b. order_fault b line) may

before_same : (ver : Version) (before after : List (List ℕ)) (p q : Place) → Before ver before p → before ≡ after → p ≡ q → Before ver after q
before_same ver before after p q b e n = record {
  some = omega (arith, ap length e, b.some);
  place_is = ap (place_of ver) (sym e) ∙ b.place_is ∙ n;
}

-- what a walk over lines without faults leaves
pub record Walked (ver : Version) (domains : ℕ) (before lines parts : List (List ℕ)) (p : Place) : Type 0 where
  pub faults : fault_from ver domains before (lines ++ parts) ≡ fault_from ver domains (before ++ lines) parts
  pub leaves : (Before ver) (before ++ lines) p

walked_none : (ver : Version) (domains : ℕ) (before parts : List (List ℕ)) (p : Place) → Before ver before p → Walked ver domains before [] parts p
walked_none ver domains before parts p b = record {
  faults = ap (λ bs. fault_from ver domains bs parts) (sym (append-nil before));
  leaves = before_same ver before (before ++ []) p p b (sym (append-nil before)) refl;
}

walked_more : (ver : Version) (domains : ℕ) (before : List (List ℕ)) (l : List ℕ) (lines parts : List (List ℕ)) (p : Place) → 0 < length parts → line_fault ver domains before l ≡ None → Walked ver domains (before ++ l ∷ []) lines parts p → Walked ver domains before (l ∷ lines) parts p
walked_more ver domains before l lines parts p some e w = record {
  faults = passed_over ver domains before l (lines ++ parts) (omega (arith, length-append lines parts)) e ∙ w.faults ∙ ap (λ bs. fault_from ver domains bs parts) (append_assoc before (l ∷ []) lines);
  leaves = before_same ver ((before ++ l ∷ []) ++ lines) (before ++ l ∷ lines) p p w.leaves (append_assoc before (l ∷ []) lines) refl;
}

walked_both : (ver : Version) (domains : ℕ) (before front back parts : List (List ℕ)) (p q : Place) → Walked ver domains before front (back ++ parts) p → Walked ver domains (before ++ front) back parts q → Walked ver domains before (front ++ back) parts q
walked_both ver domains before front back parts p q v w = record {
  faults = ap (fault_from ver domains before) (append_assoc front back parts) ∙ v.faults ∙ w.faults ∙ ap (λ bs. fault_from ver domains bs parts) (append_assoc before front back);
  leaves = before_same ver ((before ++ front) ++ back) (before ++ (front ++ back)) q q w.leaves (append_assoc before front back) refl;
}

-- the lines of commands
over_commands : (ver : Version) (domains : ℕ) (before : List (List ℕ)) (p : Place) (cs : List Command) (parts : List (List ℕ)) → Before ver before p → 0 < p.headings → p.commands + length cs ≤ 200000 → 0 < length parts
    → list_all (is_writable ver domains) cs ≡ true → follow ver p cs ≡ true → Walked ver domains before (map command_text cs) parts (fold called p cs)
over_commands ver domains before p [] parts b some room more e f = walked_none ver domains before parts p b
over_commands ver domains before p (x ∷ cs) parts b some room more e f =
    let fit = and_parts (is_writable ver domains x) (list_all (is_writable ver domains) cs) e in
    let order = and_parts (may_follow ver p x) (follow ver (called p x) cs) f in
    let w = written ver domains x fit.0 in
    let said = shape-command ver domains x w in
    let is = made-parts ver domains x w.inside in
    let none = line_fault_below ver domains before p (command_text x) b ∙ ap (fault_of_shape ver domains (length before + 1) p) said
    ∙ no_command_fault ver domains (length before + 1) p (taken_apart x).word (taken_apart x).numbers some (omega arith) w.inside (ap (may_follow ver p) is ∙ order.0) in
    let now = before_same ver (before ++ command_text x ∷ []) (before ++ command_text x ∷ []) _ (called p x) (before_more ver before p (command (taken_apart x).word (taken_apart x).numbers) (command_text x) b said) refl (ap (called p) is) in
    walked_more ver domains before (command_text x) (map command_text cs) parts (fold called p (x ∷ cs)) more none
    (over_commands ver domains (before ++ command_text x ∷ []) (called p x) cs parts now some (omega arith) more fit.1 order.1)

-- the lines of a section
over_section : (ver : Version) (domains : ℕ) (before : List (List ℕ)) (p : Place) (cs : List Command) (parts : List (List ℕ)) → Before ver before p → p.headings < domains → domains < 2 ^ 32 → p.commands + length cs ≤ 200000 → 0 < length parts
    → list_all (is_writable ver domains) cs ≡ true → may_begin ver p ≡ true → follow ver (opened p) cs ≡ true → Walked ver domains before (section_lines p.headings cs) parts (fold called (opened p) cs)
over_section ver domains before p cs parts b inside small room more e may f =
    let said = shape-heading ver p.headings (omega arith) in
    let none = line_fault_below ver domains before p (heading_text p.headings) b ∙ ap (fault_of_shape ver domains (length before + 1) p) said ∙ no_heading_fault ver domains (length before + 1) p inside may in
    walked_more ver domains before (heading_text p.headings) (map command_text cs) parts (fold called (opened p) cs) more none
    (over_commands ver domains (before ++ heading_text p.headings ∷ []) (opened p) cs parts (before_more ver before p (heading (pos p.headings)) (heading_text p.headings) b said) (omega arith) room more e f)

-- the lines of sections
over_sections : (ver : Version) (domains : ℕ) (before : List (List ℕ)) (p : Place) (sections : List (List Command)) (parts : List (List ℕ)) → Before ver before p → p.headings + length sections ≤ domains → domains < 2 ^ 32
    → p.commands + sum_by length sections ≤ 200000 → 0 < length parts → list_all (list_all (is_writable ver domains)) sections ≡ true → sections_follow ver p sections ≡ true → Walked ver domains before (lines_from p.headings sections) parts (places p sections)
over_sections ver domains before p [] parts b few small room more e f = walked_none ver domains before parts p b
over_sections ver domains before p (cs ∷ sections) parts b few small room more e f =
    let fit = and_parts (list_all (is_writable ver domains) cs) (list_all (list_all (is_writable ver domains)) sections) e in
    let first = and_parts (may_begin ver p) (follow ver (opened p) cs && sections_follow ver (fold called (opened p) cs) sections) f in
    let second = and_parts (follow ver (opened p) cs) (sections_follow ver (fold called (opened p) cs) sections) first.1 in
    let total = total-cons cs sections in
    let next : Place = fold called (opened p) cs in
    let headings_same : next.headings ≡ p.headings + 1 = headings_kept (opened p) cs in
    let front = over_section ver domains before p cs (lines_from (p.headings + 1) sections ++ parts) b (omega arith) small (omega (arith, total)) (omega (arith, length-append (lines_from (p.headings + 1) sections) parts)) fit.0 first.0 second.0 in
    let back = over_sections ver domains (before ++ section_lines p.headings cs) next sections parts front.leaves (omega (arith, headings_same)) small (omega (arith, total, commands_grow (opened p) cs)) more fit.1 second.1 in
    walked_both ver domains before (section_lines p.headings cs) (lines_from (p.headings + 1) sections) parts next (places next sections) front
    (subst (λ (k : ℕ). Walked ver domains (before ++ section_lines p.headings cs) (lines_from k sections) parts (places next sections)) headings_same back)

-- the first line of a script
before_first : (ver : Version) → Before ver (first_line ver ∷ []) start
before_first One = record { some = omega arith; place_is = refl }
before_first Two = record { some = omega arith; place_is = refl }
before_first Three = record { some = omega arith; place_is = refl }

-- the first fault of what begins as a script
pub faults_behind : (ver : Version) (domains : ℕ) (sections : List (List Command)) (parts : List (List ℕ)) → IsWritten ver domains sections → domains < 2 ^ 32 → 0 < length parts
    → (fault_from ver domains (first_line ver ∷ []) (lines_from 0 sections ++ parts) ≡ fault_from ver domains (script_lines ver sections) parts) × Before ver (script_lines ver sections) (place_in sections)
faults_behind ver domains sections parts w small more =
    let walked = over_sections ver domains (first_line ver ∷ []) start sections parts (before_first ver) (omega (arith, w.few_sections)) small (omega (arith, w.few_commands)) more w.writable w.in_order in
    (walked.faults, subst (Before ver (script_lines ver sections)) (places_in sections) walked.leaves)
