-- What a line that is read, or that isn't taken, says of the whole text.
use Rattle.text_script.specs.declared.version.Version.{Version}
use Rattle.text_script.specs.declared.version.Version.TheVariants.{One, Two, Three}
use Rattle.std.proofs.Common.{◌≡◌, ℕ, ◌+◌, ◌<◌, ◌≤◌, ◌^◌, List, [], ◌∷◌, ◌++◌, length, Bool, true, false, cond, refl, ap, sym, ◌∙◌, subst, arith, append_assoc, inl, inr, None, Some}
use Rattle.std.specs.Prelude.{Option, option_map, option_and_then, bytes_eq, ◌==◌, nat_le, if◌then◌else◌}
use Rattle.std.specs.List.{slice_split}
use Rattle.std.proofs.lemmas.Bool.Decides.{nat_tests}
use Rattle.std.proofs.lemmas.Option.{same_Some}
use Rattle.std.proofs.lemmas.List.Splits.{length-slice_split}
use Rattle.std.proofs.lemmas.Slice.Eq.{bytes_eq-Decides}
use Rattle.model_core.specs.declared.command.Command.{Command}
use Rattle.model_core.specs.Output.{line}
use Rattle.text_script.specs.declared.fault.ScriptFault.{ScriptFault}
use Rattle.text_script.specs.declared.fault.ScriptFault.TheVariants.{Syntax, Order, Range, TooLong, TooMany, Spawn, Memory}
use Rattle.text_script.specs.Split.{split_at_mark}
use Rattle.text_script.specs.Forms.{made, version_number, first_line}
use Rattle.text_script.specs.Spawning.{place_in}
use Rattle.text_script.specs.Spelling.{lines_from, script_lines, spelling, IsWritten}
use Rattle.text_script.specs.Faults.{LineShape, line_shape, fault_of_shape, fault_behind, fault_from, first_fault, script_fault, version_of, read_version, IsFaultUnlessMemory}
use Rattle.text_script.specs.Steps.{TakesLine, TakesSaid, said_with, line_said, fault_of_said}
use Rattle.text_script.proofs.SplitLemmas.{split_found, split_whole}
use Rattle.text_script.proofs.ShapeLemmas.{heading_said, command_said}
use Rattle.text_script.proofs.LineLemmas.{said_line, fault_with}
use Rattle.text_script.proofs.SectionLemmas.{split_spelling, Grown, grown_by_heading, grown_by_command}
use Rattle.text_script.proofs.FaultLemmas.{Before, faults_behind, line_fault_below, stopped_at, ended_wrong}
use Rattle.text_script.proofs.OnlyLemmas.{begun, fault_of_few}

-- a text is its first part, the mark and the rest
joined_by : (t : Bool) (mark b : ℕ) (bs : List ℕ) (o : Option (List ℕ × List ℕ)) (p : List ℕ × List ℕ) → (b == mark) ≡ t → ((q : List ℕ × List ℕ) → o ≡ Some q → bs ≡ q.0 ++ mark ∷ q.1)
    → cond t (Some ([], bs)) (option_map (λ q. (b ∷ q.0, q.1)) o) ≡ Some p → b ∷ bs ≡ p.0 ++ mark ∷ p.1
joined_by true mark b bs o p test below e =
    let same : ([], bs) ≡ p = cc in
    let equal : b ≡ mark = grind (arith, nat_tests) in
    ap (λ x. x ∷ bs) equal ∙ ap (λ q. q.0 ++ mark ∷ q.1) same
joined_by false mark b bs None p test below e = cc
joined_by false mark b bs (Some q) p test below e =
    let same : (b ∷ q.0, q.1) ≡ p = cc in
    ap (λ x. b ∷ x) (below q refl) ∙ ap (λ r. r.0 ++ mark ∷ r.1) same

pub split_joined : (mark : ℕ) (bytes : List ℕ) (p : List ℕ × List ℕ) → split_at_mark mark bytes ≡ Some p → bytes ≡ p.0 ++ mark ∷ p.1
split_joined mark [] p e = cc
split_joined mark (b ∷ bs) p e = joined_by (b == mark) mark b bs (split_at_mark mark bs) p refl (split_joined mark bs) e

-- a line that is taken makes the script grow by it
pub line_taken : (ver : Version) (domains : ℕ) (old new : List (List Command)) (text : List ℕ) → domains < 2 ^ 32 → IsWritten ver domains old → TakesLine ver domains (line_shape ver text) old new → Grown ver domains old new text
line_taken ver domains old new text small w (inl t) = grown_by_heading ver domains old new text w t.in_range t.in_order t.sections (heading_said ver text (length old) (omega (arith, t.in_range)) t.is_next)
line_taken ver domains old new text small w (inr t) =
    let said = command_said ver domains text t.word t.numbers t.is_command t.in_ranges in
    grown_by_command ver domains old new (made t.word t.numbers) text w t.begun t.room said.writable t.in_order t.sections said.text

-- the text moves on by the line
pub moved_on : (ver : Version) (front rest text tail : List ℕ) (old new : List (List Command)) → front ≡ spelling ver old ++ rest → Some (text, tail) ≡ split_at_mark 10 rest → spelling ver new ≡ spelling ver old ++ line text → front ≡ spelling ver new ++ tail
moved_on ver front rest text tail old new said cutting grown =
    said ∙ ap (λ x. spelling ver old ++ x) (split_joined 10 rest (text, tail) (sym cutting) ∙ sym (append_assoc text (10 ∷ []) tail)) ∙ sym (append_assoc (spelling ver old) (line text) tail) ∙ ap (λ x. x ++ tail) (sym grown)

abbrev rest_of : List (List ℕ) → List (List ℕ)
rest_of [] = []
rest_of (l ∷ ls) = ls

first_cut : (ver : Version) (behind : List ℕ) → rest_of (slice_split (λ b. b == 10) (line (first_line ver) ++ behind)) ≡ slice_split (λ b. b == 10) behind
first_cut One behind = refl
first_cut Two behind = refl
first_cut Three behind = refl

-- what stands behind the first line, split into lines
behind_first : (ver : Version) (domains : ℕ) (sections : List (List Command)) (behind rest : List ℕ) → domains < 2 ^ 32 → IsWritten ver domains sections → line (first_line ver) ++ behind ≡ spelling ver sections ++ rest
    → slice_split (λ b. b == 10) behind ≡ lines_from 0 sections ++ slice_split (λ b. b == 10) rest
behind_first ver domains sections behind rest small w e =
    sym (first_cut ver behind) ∙ ap rest_of (ap (slice_split (λ b. b == 10)) e ∙ split_spelling ver domains sections rest small w)

-- the first fault, from the lines that were read on
pub faults_on : (ver : Version) (domains : ℕ) (sections : List (List Command)) (behind rest : List ℕ) → domains < 2 ^ 32 → IsWritten ver domains sections → line (first_line ver) ++ behind ≡ spelling ver sections ++ rest
    → (fault_from ver domains (first_line ver ∷ []) (slice_split (λ b. b == 10) behind) ≡ fault_from ver domains (script_lines ver sections) (slice_split (λ b. b == 10) rest)) × Before ver (script_lines ver sections) (place_in sections)
faults_on ver domains sections behind rest small w e =
    let f = faults_behind ver domains sections (slice_split (λ b. b == 10) rest) w small (omega (arith, length-slice_split (λ b. b == 10) rest)) in
    (ap (fault_from ver domains (first_line ver ∷ [])) (behind_first ver domains sections behind rest small w e) ∙ f.0, f.1)

-- a fault of the next line is the first of the text
pub fault_on : (ver : Version) (domains : ℕ) (sections : List (List Command)) (behind rest text tail : List ℕ) (f : ScriptFault) → domains < 2 ^ 32 → IsWritten ver domains sections → line (first_line ver) ++ behind ≡ spelling ver sections ++ rest
    → Some (text, tail) ≡ split_at_mark 10 rest → fault_of_shape ver domains (length (script_lines ver sections) + 1) (place_in sections) (line_shape ver text) ≡ Some f → fault_from ver domains (first_line ver ∷ []) (slice_split (λ b. b == 10) behind) ≡ Some f
fault_on ver domains sections behind rest text tail f small w e cutting fault =
    let on = faults_on ver domains sections behind rest small w e in
    let below = line_fault_below ver domains (script_lines ver sections) (place_in sections) text on.1 ∙ fault in
    on.0 ∙ ap (fault_from ver domains (script_lines ver sections)) (split_found 10 rest text tail cutting)
    ∙ stopped_at ver domains (script_lines ver sections) text (slice_split (λ b. b == 10) tail) f (omega (arith, length-slice_split (λ b. b == 10) tail)) below

fault_at : (ver : Version) (domains number : ℕ) (sections : List (List Command)) (text : List ℕ) (f : ScriptFault) → number ≡ length (script_lines ver sections) + 1
    → fault_of_shape ver domains number (place_in sections) (line_shape ver text) ≡ Some f → fault_of_shape ver domains (length (script_lines ver sections) + 1) (place_in sections) (line_shape ver text) ≡ Some f
fault_at ver domains number sections text f n e = ap (λ k. fault_of_shape ver domains k (place_in sections) (line_shape ver text)) (sym n) ∙ e

-- the fault of a line that wasn't taken
pub fault_read : (ver : Version) (domains number : ℕ) (sections : List (List Command)) (behind rest text tail : List ℕ) (f : ScriptFault) → domains < 2 ^ 32 → IsWritten ver domains sections → line (first_line ver) ++ behind ≡ spelling ver sections ++ rest
    → Some (text, tail) ≡ split_at_mark 10 rest → number ≡ length (script_lines ver sections) + 1 → IsFaultUnlessMemory f (fault_of_shape ver domains number (place_in sections) (line_shape ver text))
    → IsFaultUnlessMemory f (fault_from ver domains (first_line ver ∷ []) (slice_split (λ b. b == 10) behind))
fault_read ver domains number sections behind rest text tail Memory small w e cutting n fault = tt
fault_read ver domains number sections behind rest text tail (Syntax k) small w e cutting n fault = fault_on ver domains sections behind rest text tail (Syntax k) small w e cutting (fault_at ver domains number sections text (Syntax k) n fault)
fault_read ver domains number sections behind rest text tail (Order k) small w e cutting n fault = fault_on ver domains sections behind rest text tail (Order k) small w e cutting (fault_at ver domains number sections text (Order k) n fault)
fault_read ver domains number sections behind rest text tail (Range k i) small w e cutting n fault = fault_on ver domains sections behind rest text tail (Range k i) small w e cutting (fault_at ver domains number sections text (Range k i) n fault)
fault_read ver domains number sections behind rest text tail (TooLong k) small w e cutting n fault = fault_on ver domains sections behind rest text tail (TooLong k) small w e cutting (fault_at ver domains number sections text (TooLong k) n fault)
fault_read ver domains number sections behind rest text tail (TooMany k) small w e cutting n fault = fault_on ver domains sections behind rest text tail (TooMany k) small w e cutting (fault_at ver domains number sections text (TooMany k) n fault)
fault_read ver domains number sections behind rest text tail (Spawn k) small w e cutting n fault = fault_on ver domains sections behind rest text tail (Spawn k) small w e cutting (fault_at ver domains number sections text (Spawn k) n fault)

-- the fault of a text whose last line has no line feed
pub end_read : (ver : Version) (domains number : ℕ) (sections : List (List Command)) (behind rest : List ℕ) → domains < 2 ^ 32 → IsWritten ver domains sections → line (first_line ver) ++ behind ≡ spelling ver sections ++ rest
    → None ≡ split_at_mark 10 rest → number ≡ length (script_lines ver sections) + 1 → false ≡ (length rest == 0) → fault_from ver domains (first_line ver ∷ []) (slice_split (λ b. b == 10) behind) ≡ Some (Syntax number)
end_read ver domains number sections behind rest small w e cutting n some =
    (faults_on ver domains sections behind rest small w e).0 ∙ ap (fault_from ver domains (script_lines ver sections)) (split_whole 10 rest cutting)
    ∙ ended_wrong ver domains (script_lines ver sections) rest some ∙ ap (λ k. Some (Syntax k)) (sym n)

-- a text without a line feed
pub no_line : (newest : Version) (domains : ℕ) (bytes : List ℕ) → length bytes ≤ 16777216 → None ≡ split_at_mark 10 bytes → first_fault newest domains bytes ≡ Some (Syntax 1)
no_line newest domains bytes few cutting = fault_of_few newest domains bytes few ∙ ap (script_fault newest domains) (split_whole 10 bytes cutting)

-- a text whose first line names no version that is read
no_version : (newest : Version) (domains : ℕ) (first : List ℕ) (lines : List (List ℕ)) → read_version newest first ≡ None → script_fault newest domains (first ∷ lines) ≡ Some (Syntax 1)
no_version newest domains first [] e = refl
no_version newest domains first (l ∷ lines) e = ap (λ (o : Option Version). fault_behind domains first o (l ∷ lines)) e

pub wrong_first_line : (newest : Version) (domains : ℕ) (bytes first behind : List ℕ) → length bytes ≤ 16777216 → Some (first, behind) ≡ split_at_mark 10 bytes → read_version newest first ≡ None → first_fault newest domains bytes ≡ Some (Syntax 1)
wrong_first_line newest domains bytes first behind few cutting none =
    fault_of_few newest domains bytes few ∙ ap (script_fault newest domains) (split_found 10 bytes first behind cutting) ∙ no_version newest domains first (slice_split (λ b. b == 10) behind) none

-- a line that names a version is the first line of its scripts
version_named : (text : List ℕ) (ver : Version) → version_of text ≡ Some ver → text ≡ first_line ver
version_named text ver e = pick (bytes_eq text (first_line One)) (bytes_eq text (first_line Two)) (bytes_eq text (first_line Three)) refl refl refl e where
  pick : (a b c : Bool) → bytes_eq text (first_line One) ≡ a → bytes_eq text (first_line Two) ≡ b → bytes_eq text (first_line Three) ≡ c → (if a then Some One else if b then Some Two else if c then Some Three else None) ≡ Some ver
      → text ≡ first_line ver
  pick true b c x y z is = (bytes_eq-Decides text (first_line One)).0 x ∙ ap first_line (same_Some One ver is)
  pick false true c x y z is = (bytes_eq-Decides text (first_line Two)).0 y ∙ ap first_line (same_Some Two ver is)
  pick false false true x y z is = (bytes_eq-Decides text (first_line Three)).0 z ∙ ap first_line (same_Some Three ver is)
  pick false false false x y z is = cc

-- a version that is read is one that the line names, and at most the newest
version_read : (newest : Version) (text : List ℕ) (ver : Version) → read_version newest text ≡ Some ver → (text ≡ first_line ver) × (version_number ver ≤ version_number newest)
version_read newest text ver e = named (version_of text) refl e where
  kept : (v : Version) (b : Bool) → nat_le (version_number v) (version_number newest) ≡ b → (if b then Some v else None) ≡ Some ver → (v ≡ ver) × (version_number v ≤ version_number newest)
  kept v true test is = (same_Some v ver is, (grind (arith, nat_tests)))
  kept v false test is = cc

  named : (o : Option Version) → version_of text ≡ o → option_and_then (λ v. if nat_le (version_number v) (version_number newest) then Some v else None) o ≡ Some ver → (text ≡ first_line ver) × (version_number ver ≤ version_number newest)
  named None is e = cc
  named (Some v) is e =
      let k = kept v (nat_le (version_number v) (version_number newest)) refl e in
      (version_named text v is ∙ ap first_line k.0, subst (λ (u : Version). version_number u ≤ version_number newest) k.0 k.1)

-- a text whose first line names one
pub first_read : (newest ver : Version) (domains : ℕ) (bytes first behind : List ℕ) → length bytes ≤ 16777216 → Some (first, behind) ≡ split_at_mark 10 bytes → read_version newest first ≡ Some ver
    → (version_number ver ≤ version_number newest) × (bytes ≡ line (first_line ver) ++ behind) × (first_fault newest domains bytes ≡ fault_from ver domains (first_line ver ∷ []) (slice_split (λ b. b == 10) behind))
first_read newest ver domains bytes first behind few cutting same =
    let v = version_read newest first ver same in
    let is = v.0 in (
      v.1,
      split_joined 10 bytes (first, behind) (sym cutting) ∙ ap (λ x. x ++ 10 ∷ behind) is ∙ sym (append_assoc (first_line ver) (10 ∷ []) behind),
      fault_of_few newest domains bytes few ∙ ap (script_fault newest domains) (split_found 10 bytes first behind cutting ∙ ap (λ x. x ∷ slice_split (λ b. b == 10) behind) is)
          ∙ begun newest ver domains (slice_split (λ b. b == 10) behind) v.1 (omega (arith, length-slice_split (λ b. b == 10) behind)),
    )

-- the line that was taken, and what is left behind it
pub said_taken : (ver : Version) (domains : ℕ) (old new : List (List Command)) (front rest left : List ℕ) → domains < 2 ^ 32 → IsWritten ver domains old → front ≡ spelling ver old ++ rest → TakesSaid ver domains (line_said ver rest) left old new
    → (text : List ℕ) × Grown ver domains old new text × (front ≡ spelling ver new ++ left)
said_taken ver domains old new front rest left small w said t =
    let found = said_line ver rest t.shape left t.is_said in
    let grown = line_taken ver domains old new found.0 small w (subst (λ (s : LineShape). TakesLine ver domains s old new) found.2 t.takes) in
    (found.0, grown, moved_on ver front rest found.0 left old new said found.1 grown.spelled)

-- the fault of what stands next, with its line feed or without
fault_by : (ver : Version) (domains number : ℕ) (sections : List (List Command)) (behind rest : List ℕ) (f : ScriptFault) (o : Option (List ℕ × List ℕ)) → split_at_mark 10 rest ≡ o → domains < 2 ^ 32 → IsWritten ver domains sections
    → line (first_line ver) ++ behind ≡ spelling ver sections ++ rest → number ≡ length (script_lines ver sections) + 1 → false ≡ (length rest == 0)
    → IsFaultUnlessMemory f (fault_of_said ver domains number (place_in sections) (option_and_then (λ p. said_with (line_shape ver p.0) p.1) o))
    → IsFaultUnlessMemory f (fault_from ver domains (first_line ver ∷ []) (slice_split (λ b. b == 10) behind))
fault_by ver domains number sections behind rest f None cutting small w e n some fault =
    subst (λ (o : Option ScriptFault). IsFaultUnlessMemory f o) (sym (end_read ver domains number sections behind rest small w e (sym cutting) n some)) fault
fault_by ver domains number sections behind rest f (Some p) cutting small w e n some fault =
    fault_read ver domains number sections behind rest p.0 p.1 f small w e (sym cutting) n
    (subst (λ (o : Option ScriptFault). IsFaultUnlessMemory f o) (fault_with ver domains number (place_in sections) (line_shape ver p.0) p.1) fault)

pub said_fault : (ver : Version) (domains number : ℕ) (sections : List (List Command)) (behind rest : List ℕ) (f : ScriptFault) → domains < 2 ^ 32 → IsWritten ver domains sections
    → line (first_line ver) ++ behind ≡ spelling ver sections ++ rest → number ≡ length (script_lines ver sections) + 1 → 0 < length rest
    → IsFaultUnlessMemory f (fault_of_said ver domains number (place_in sections) (line_said ver rest))
    → IsFaultUnlessMemory f (fault_from ver domains (first_line ver ∷ []) (slice_split (λ b. b == 10) behind))
said_fault ver domains number sections behind rest f small w e n some fault =
    fault_by ver domains number sections behind rest f (split_at_mark 10 rest) refl small w e n (grind (arith, nat_tests)) fault
