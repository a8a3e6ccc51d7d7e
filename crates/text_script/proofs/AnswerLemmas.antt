-- Every text is spelled by a script or has a first fault.
use Rattle.text_script.specs.declared.version.Version.{Version}
use Rattle.text_script.specs.declared.version.Version.TheVariants.{One, Two, Three}
use Rattle.std.proofs.Common.{◌≡◌, ◌≢◌, ◌⊎◌, ℕ, zero, suc, ◌+◌, ◌<◌, ◌≤◌, ◌^◌, ℤ, pos, negsuc, List, [], ◌∷◌, ◌++◌, length, length-append, Bool, true, false, cond, refl, ap, sym, ◌∙◌, arith, sum_by, inl, inr, None, Some, append-nil}
use Rattle.std.specs.Prelude.{Option, option_map, ◌==◌, nat_lt, nat_le}
use Rattle.std.specs.List.{slice_split}
use Rattle.std.specs.Ordering.{int_eq}
use Rattle.std.proofs.lemmas.Bool.Decides.{nat_tests, Decides-int_eq}
use Rattle.model_core.specs.declared.command.Command.{Command}
use Rattle.model_core.specs.Output.{line}
use Rattle.text_script.specs.declared.fault.ScriptFault.{ScriptFault}
use Rattle.text_script.specs.declared.fault.ScriptFault.TheVariants.{Syntax, Order, Range, TooLong, TooMany, Memory}
use Rattle.text_script.specs.Split.{split_at_mark}
use Rattle.text_script.specs.Forms.{form, made, version_number, first_line}
use Rattle.text_script.specs.Spawning.{Place, place_in, may_begin, may_follow}
use Rattle.text_script.specs.Script.{Scripted, with_command}
use Rattle.text_script.specs.Spelling.{script_lines, spelling, with_empty, IsWritten, Spells}
use Rattle.text_script.specs.Faults.{LineShape, heading, command, neither, line_shape, is_section, first_out_of_range, or_else, order_fault, fault_of_shape, fault_from, script_fault, first_fault, read_version}
use Rattle.text_script.specs.Steps.{TakesLine}
use Rattle.text_script.proofs.ReadLemmas.{split_joined, line_taken, moved_on, fault_on, end_read, no_line, wrong_first_line, first_read}

-- a test that is false, and what stands behind it
passed_by : {A : Type 0} (b : Bool) (f : A) (o : Option A) → cond b (Some f) o ≡ None → (b ≡ false) × (o ≡ None)
passed_by true f o e = cc
passed_by false f o e = (refl, e)

-- a test that is true, and what stands before the fault
let_by : {A : Type 0} (b : Bool) (o : Option A) (f : A) → cond b o (Some f) ≡ None → (b ≡ true) × (o ≡ None)
let_by true o f e = (refl, e)
let_by false o f e = cc

unmapped : (line : ℕ) (o : Option ℕ) → option_map (Range line) o ≡ None → o ≡ None
unmapped line None e = refl
unmapped line (Some n) e = cc

section_below : (domains n : ℕ) (z : ℤ) → z ≡ pos n → is_section domains z ≡ true → n < domains
section_below domains n (pos m) e inside =
    let same : m ≡ n = cc in
    grind (arith, nat_tests)
section_below domains n (negsuc m) e inside = cc

-- a spawn, a join or a heading that may stand there
in_order_if : (b : Bool) (line : ℕ) → order_fault b line ≡ None → b ≡ true
in_order_if true line e = refl
in_order_if false line e = cc

both_none : (a b : Option ScriptFault) → or_else a b ≡ None → (a ≡ None) × (b ≡ None)
both_none None b e = (refl, e)
both_none (Some f) b e = cc

-- a line without a fault is taken
taken : (ver : Version) (domains number : ℕ) (old : List (List Command)) (shape : LineShape) → fault_of_shape ver domains number (place_in old) shape ≡ None
    → (new : List (List Command)) × TakesLine ver domains shape old new
taken ver domains number old neither e = cc
taken ver domains number old (heading z) e =
    let section = let_by (is_section domains z) _ _ e in
    let next = let_by (int_eq z (pos (length old))) _ _ section.1 in
    let is = (Decides-int_eq z (pos (length old))).0 next.0 in (
      old ++ [] ∷ [],
      inl (record {
        is_next = ap heading is;
        in_range = section_below domains (length old) z is section.0;
        in_order = in_order_if (may_begin ver (place_in old)) number next.1;
        sections = refl;
      }),
    )
taken ver domains number old (command w zs) e =
    let begun = passed_by (length old == 0) _ _ e in
    let room = passed_by (nat_le 200000 (sum_by length old)) _ _ begun.1 in
    let last = both_none (option_map (Range number) (first_out_of_range ver domains 1 (form w).operands zs)) (order_fault (may_follow ver (place_in old) (made w zs)) number) room.1 in (
      with_command old (made w zs),
      inr (record {
        word = w;
        numbers = zs;
        is_command = refl;
        in_ranges = unmapped number _ last.0;
        begun = let some = begun.0 in grind (arith, nat_tests);
        room = let few = room.0 in grind (arith, nat_tests);
        in_order = in_order_if (may_follow ver (place_in old) (made w zs)) number last.1;
        sections = refl;
      }),
    )

-- no fault of a line is want of memory
order_kept : (b : Bool) (line : ℕ) → order_fault b line ≡ Some Memory → ⊥
order_kept true line e = cc
order_kept false line e = cc

range_kept : (line : ℕ) (o : Option ℕ) (b : Bool) → or_else (option_map (Range line) o) (order_fault b line) ≡ Some Memory → ⊥
range_kept line None b e = order_kept b line e
range_kept line (Some n) b e = cc

heading_kept : (a b c : Bool) (line : ℕ) → cond a (cond b (order_fault c line) (Some (Order line))) (Some (Range line 1)) ≡ Some Memory → ⊥
heading_kept true true c line e = order_kept c line e
heading_kept true false c line e = cc
heading_kept false b c line e = cc

command_kept : (a b c : Bool) (line : ℕ) (o : Option ℕ) → cond a (Some (Order line)) (cond b (Some (TooMany line)) (or_else (option_map (Range line) o) (order_fault c line))) ≡ Some Memory → ⊥
command_kept true b c line o e = cc
command_kept false true c line o e = cc
command_kept false false c line o e = range_kept line o c e

memory_kept : (ver : Version) (domains line : ℕ) (p : Place) (shape : LineShape) → fault_of_shape ver domains line p shape ≡ Some Memory → ⊥
memory_kept ver domains line p neither e = cc
memory_kept ver domains line p (heading z) e = heading_kept (is_section domains z) (int_eq z (pos p.headings)) (may_begin ver p) line e
memory_kept ver domains line p (command w zs) e = command_kept (p.headings == 0) (nat_le 200000 p.commands) (may_follow ver p (made w zs)) line (first_out_of_range ver domains 1 (form w).operands zs) e

-- a fault that isn't want of memory
abbrev IsFault : Option ScriptFault → Type 0
IsFault first = (f : ScriptFault) × (f ≢ Memory) × (first ≡ Some f)

-- what stands behind the first line is the rest of a spelling, or has a fault
abbrev IsDecided : Version → ℕ → List ℕ → Type 0
IsDecided ver domains behind =
    ((written : List (List Command)) × IsWritten ver domains written × (line (first_line ver) ++ behind ≡ spelling ver written))
    ⊎ IsFault (fault_from ver domains (first_line ver ∷ []) (slice_split (λ b. b == 10) behind))

shorter : (rest text tail : List ℕ) → Some (text, tail) ≡ split_at_mark 10 rest → length tail < length rest
shorter rest text tail cutting = omega (arith, ap length (split_joined 10 rest (text, tail) (sym cutting)), length-append text (10 ∷ tail))

decided_end : (ver : Version) (domains : ℕ) (sections : List (List Command)) (behind rest : List ℕ) → domains < 2 ^ 32 → IsWritten ver domains sections → line (first_line ver) ++ behind ≡ spelling ver sections ++ rest
    → None ≡ split_at_mark 10 rest → IsDecided ver domains behind
decided_end ver domains sections behind [] small w e cutting = inl (sections, w, e ∙ append-nil (spelling ver sections))
decided_end ver domains sections behind (b ∷ bs) small w e cutting =
    let some : false ≡ (length (b ∷ bs) == 0) = grind (arith, nat_tests) in
    inr (Syntax (length (script_lines ver sections) + 1), (λ same. cc), end_read ver domains _ sections behind (b ∷ bs) small w e cutting refl some)

decided_line : (ver : Version) (domains : ℕ) (sections : List (List Command)) (behind rest text tail : List ℕ) (fault : Option ScriptFault) → domains < 2 ^ 32 → IsWritten ver domains sections → line (first_line ver) ++ behind ≡ spelling ver sections ++ rest
    → Some (text, tail) ≡ split_at_mark 10 rest → fault_of_shape ver domains (length (script_lines ver sections) + 1) (place_in sections) (line_shape ver text) ≡ fault
    → ((new : List (List Command)) → IsWritten ver domains new → line (first_line ver) ++ behind ≡ spelling ver new ++ tail → IsDecided ver domains behind) → IsDecided ver domains behind
decided_line ver domains sections behind rest text tail (Some f) small w e cutting fault on =
    inr (f, (λ same. memory_kept ver domains _ _ (line_shape ver text) (fault ∙ ap Some same)), fault_on ver domains sections behind rest text tail f small w e cutting fault)
decided_line ver domains sections behind rest text tail None small w e cutting fault on =
    let step = taken ver domains _ sections (line_shape ver text) fault in
    let grown = line_taken ver domains sections step.0 text small w step.1 in
    on step.0 grown.is_written (moved_on ver _ rest text tail sections step.0 e cutting grown.spelled)

decided_by : (ver : Version) (domains : ℕ) (sections : List (List Command)) (behind rest : List ℕ) (cut : Option (List ℕ × List ℕ)) → domains < 2 ^ 32 → IsWritten ver domains sections → line (first_line ver) ++ behind ≡ spelling ver sections ++ rest
    → cut ≡ split_at_mark 10 rest → ((new : List (List Command)) (tail : List ℕ) → length tail < length rest → IsWritten ver domains new → line (first_line ver) ++ behind ≡ spelling ver new ++ tail → IsDecided ver domains behind)
    → IsDecided ver domains behind
decided_by ver domains sections behind rest None small w e cutting on = decided_end ver domains sections behind rest small w e cutting
decided_by ver domains sections behind rest (Some (text, tail)) small w e cutting on =
    decided_line ver domains sections behind rest text tail (fault_of_shape ver domains (length (script_lines ver sections) + 1) (place_in sections) (line_shape ver text)) small w e cutting refl (λ new v f. on new tail (shorter rest text tail cutting) v f)

-- the text is decided, from the lines that were read on; `most` bounds what is left of it
decided : (ver : Version) (domains most : ℕ) (sections : List (List Command)) (behind rest : List ℕ) → domains < 2 ^ 32 → IsWritten ver domains sections → line (first_line ver) ++ behind ≡ spelling ver sections ++ rest
    → length rest ≤ most → IsDecided ver domains behind
decided ver domains zero sections behind rest small w e few =
    decided_by ver domains sections behind rest (split_at_mark 10 rest) small w e refl (λ new tail less v f. absurd (omega arith))
decided ver domains (suc most) sections behind rest small w e few =
    decided_by ver domains sections behind rest (split_at_mark 10 rest) small w e refl (λ new tail less v f. decided ver domains most new behind tail small v f (omega arith))

-- a script of these bytes, or a fault
abbrev IsAnswered : Version → ℕ → List ℕ → Type 0
IsAnswered newest domains bytes = ((script : Scripted) × Spells newest domains script bytes) ⊎ IsFault (first_fault newest domains bytes)

-- the script of no section
none_written : (ver : Version) (domains : ℕ) → IsWritten ver domains []
none_written ver domains = record { few_sections = omega arith; few_commands = omega arith; writable = refl; in_order = refl }

first_alone : (ver : Version) (behind : List ℕ) → line (first_line ver) ++ behind ≡ spelling ver [] ++ behind
first_alone One behind = refl
first_alone Two behind = refl
first_alone Three behind = refl

answered_behind : (newest ver : Version) (domains : ℕ) (bytes behind : List ℕ) → version_number ver ≤ version_number newest → length bytes ≤ 16777216 → bytes ≡ line (first_line ver) ++ behind → first_fault newest domains bytes ≡ fault_from ver domains (first_line ver ∷ []) (slice_split (λ b. b == 10) behind)
    → IsDecided ver domains behind → IsAnswered newest domains bytes
answered_behind newest ver domains bytes behind read few is same (inl d) = inl (
  record { version = ver; sections = with_empty domains d.0 },
  record {
    is_read = read;
    written = d.0;
    is_written = d.1;
    bytes_are = is ∙ d.2;
    few_bytes = few;
    script_is = refl;
  },
)
answered_behind newest ver domains bytes behind read few is same (inr d) = inr (d.0, d.1, same ∙ d.2)

answered_first : (newest : Version) (domains : ℕ) (bytes first behind : List ℕ) (named : Option Version) → domains < 2 ^ 32 → length bytes ≤ 16777216 → Some (first, behind) ≡ split_at_mark 10 bytes → read_version newest first ≡ named → IsAnswered newest domains bytes
answered_first newest domains bytes first behind None small few cutting e = inr (Syntax 1, (λ same. cc), wrong_first_line newest domains bytes first behind few cutting e)
answered_first newest domains bytes first behind (Some ver) small few cutting e =
    let begun = first_read newest ver domains bytes first behind few cutting e in
    answered_behind newest ver domains bytes behind begun.0 few begun.1 begun.2 (decided ver domains (length behind) [] behind behind small (none_written ver domains) (first_alone ver behind) (omega arith))

answered_cut : (newest : Version) (domains : ℕ) (bytes : List ℕ) (cut : Option (List ℕ × List ℕ)) → domains < 2 ^ 32 → length bytes ≤ 16777216 → cut ≡ split_at_mark 10 bytes → IsAnswered newest domains bytes
answered_cut newest domains bytes None small few cutting = inr (Syntax 1, (λ same. cc), no_line newest domains bytes few cutting)
answered_cut newest domains bytes (Some (first, behind)) small few cutting = answered_first newest domains bytes first behind (read_version newest first) small few cutting refl

answered_by : (newest : Version) (domains : ℕ) (bytes : List ℕ) (many : Bool) → domains < 2 ^ 32 → nat_lt 16777216 (length bytes) ≡ many → IsAnswered newest domains bytes
answered_by newest domains bytes true small e = inr (TooLong (length bytes), (λ same. cc), ap (λ b. cond b (Some (TooLong (length bytes))) (script_fault newest domains (slice_split (λ b. b == 10) bytes))) e)
answered_by newest domains bytes false small e = answered_cut newest domains bytes (split_at_mark 10 bytes) small (grind (arith, nat_tests)) refl

-- every text is spelled by a script, or has a first fault
pub answered : (newest : Version) (domains : ℕ) (bytes : List ℕ) → domains < 2 ^ 32 → IsAnswered newest domains bytes
answered newest domains bytes small = answered_by newest domains bytes (nat_lt 16777216 (length bytes)) small refl
