-- The line of a command has at most 64 bytes with its line feed, and so has that of a heading.
use Rattle.text_script.specs.declared.version.Version.{Version}
use Rattle.text_script.specs.declared.version.Version.TheVariants.{One, Two, Three}
use Rattle.std.proofs.Common.{◌≡◌, ℕ, ◌+◌, ◌-◌, min, ◌*◌, ◌≤◌, ◌<◌, ℤ, pos, negsuc, List, [], ◌∷◌, ◌++◌, map, length, length-append, true, ◌&&◌, refl, ap, arith, lit≤, sum_by, decimal}
use Rattle.std.specs.Prelude.{flat_map, codes, unsigned_abs, int_le}
use Rattle.std.specs.Fmt.{signed_decimal}
use Rattle.std.specs.List.{list_all}
use Rattle.std.proofs.lemmas.Fmt.{length_signed_le, length-decimal-le}
use Rattle.std.proofs.lemmas.List.Concat.{flat_map-append}
use Rattle.std.proofs.lemmas.Bool.{and_parts}
use Rattle.std.proofs.lemmas.Bool.Decides.{nat_tests}
use Rattle.std.proofs.lemmas.Int.{ints}
use Rattle.model_core.specs.declared.command.Command.{Command}
use Rattle.model_core.specs.Output.{line}
use Rattle.text_script.specs.declared.form.Operand.{Operand}
use Rattle.text_script.specs.declared.form.Operand.TheVariants.{Integer, Section}
use Rattle.text_script.specs.declared.form.Word.{Word}
use Rattle.text_script.specs.declared.form.Word.TheVariants as word
use Rattle.text_script.specs.Forms.{form, fits, least, greatest, parts, is_built, is_writable, all_fit, first_line}
use Rattle.text_script.specs.Spelling.{command_text, heading_text, section_lines, lines_from, spelling, IsWritten}
use Rattle.text_script.proofs.FormLemmas.{parts_counted}
use Rattle.text_script.proofs.ScriptLemmas.{total-cons}
use Rattle.text_script.proofs.TextLemmas.{spaced}

-- the greatest length of a number of each kind, with the space before it
abbrev room : Operand → ℕ
room Integer = 21
room _ = 7

abbrev room_of : List Operand → ℕ
room_of [] = 0
room_of (kind ∷ kinds) = room kind + room_of kinds

-- the magnitude of a number in a range
magnitude_between : (most : ℕ) (low high z : ℤ) → int_le (negsuc most) low ≡ true → int_le high (pos most) ≡ true → (int_le low z && int_le z high) ≡ true → unsigned_abs z ≤ most + 1
magnitude_between most low high (pos n) l h e = grind (arith, ints, nat_tests)
magnitude_between most low high (negsuc n) l h e = grind (arith, ints, nat_tests)

-- a number of at most five digits, and one of at most nineteen
five_digits : (z : ℤ) → unsigned_abs z ≤ 65536 → length (32 ∷ signed_decimal z) ≤ 7
five_digits (pos n) h = omega (arith, length_signed_le 5 (pos n) (omega arith) (omega arith))
five_digits (negsuc n) h = omega (arith, length_signed_le 5 (negsuc n) (omega arith) (omega arith))

nineteen_digits : (z : ℤ) → unsigned_abs z ≤ 4611686018427387905 → length (32 ∷ signed_decimal z) ≤ 21
nineteen_digits (pos n) h = omega (arith, length_signed_le 19 (pos n) (omega arith) (omega arith))
nineteen_digits (negsuc n) h = omega (arith, length_signed_le 19 (negsuc n) (omega arith) (omega arith))

section_narrow : (domains : ℕ) → int_le (pos (min 7 (domains - 1))) (pos 65535) ≡ true
section_narrow domains = grind (arith, ints, nat_tests)

length-number : (ver : Version) (domains : ℕ) (kind : Operand) (z : ℤ) → fits ver domains kind z ≡ true → length (32 ∷ signed_decimal z) ≤ room kind
length-number ver domains Section z e = five_digits z (magnitude_between 65535 (least Section) (greatest ver domains Section) z refl (section_narrow domains) e)
length-number One domains Integer z e = nineteen_digits z (magnitude_between 4611686018427387904 (least Integer) (greatest One domains Integer) z refl refl e)
length-number Two domains Integer z e = nineteen_digits z (magnitude_between 4611686018427387904 (least Integer) (greatest Two domains Integer) z refl refl e)
length-number Three domains Integer z e = nineteen_digits z (magnitude_between 4611686018427387904 (least Integer) (greatest Three domains Integer) z refl refl e)
length-number One domains kind z e = five_digits z (magnitude_between 65535 (least kind) (greatest One domains kind) z refl refl e)
length-number Two domains kind z e = five_digits z (magnitude_between 65535 (least kind) (greatest Two domains kind) z refl refl e)
length-number Three domains kind z e = five_digits z (magnitude_between 65535 (least kind) (greatest Three domains kind) z refl refl e)

length-spaced : (ver : Version) (domains : ℕ) (kinds : List Operand) (zs : List ℤ) → length zs ≡ length kinds → all_fit ver domains kinds zs ≡ true → length (spaced zs) ≤ room_of kinds
length-spaced ver domains kinds [] n e = omega arith
length-spaced ver domains [] (z ∷ zs) n e = absurd (omega arith)
length-spaced ver domains (kind ∷ kinds) (z ∷ zs) n e =
    let p = and_parts (fits ver domains kind z) (all_fit ver domains kinds zs) e in
    omega (arith, length-append (32 ∷ signed_decimal z) (spaced zs), length-number ver domains kind z p.0, length-spaced ver domains kinds zs (omega arith) p.1)

short_row : (w : Word) → length (form w).text + room_of (form w).operands ≤ 63
short_row word.Int = lit≤ tt
short_row _ = lit≤ tt

-- the line of a command
pub length-command : (ver : Version) (domains : ℕ) (c : Command) → is_writable ver domains c ≡ true → length (line (command_text c)) ≤ 64
length-command ver domains c e =
    let p = and_parts (is_built ver (parts c).word) (all_fit ver domains (form (parts c).word).operands (parts c).numbers) e in
    omega (arith, length-append (command_text c) (10 ∷ []), length-append (form (parts c).word).text (spaced (parts c).numbers), length-spaced ver domains (form (parts c).word).operands (parts c).numbers (parts_counted c) p.1, short_row (parts c).word)

-- the line of a heading
pub length-heading : (n : ℕ) → n < 10 → length (line (heading_text n)) ≤ 64
length-heading n h = omega (arith, length-append (heading_text n) (10 ∷ []), length-append (codes "domain ") (decimal n), length-decimal-le 1 n (omega arith) h (omega arith))

-- the lines of commands
length-commands : (ver : Version) (domains : ℕ) (cs : List Command) → list_all (is_writable ver domains) cs ≡ true → length (flat_map line (map command_text cs)) ≤ 64 * length cs
length-commands ver domains [] e = omega arith
length-commands ver domains (c ∷ cs) e =
    let p = and_parts (is_writable ver domains c) (list_all (is_writable ver domains) cs) e in
    omega (arith, length-append (line (command_text c)) (flat_map line (map command_text cs)), length-command ver domains c p.0, length-commands ver domains cs p.1)

-- the lines of sections
length-sections : (ver : Version) (domains : ℕ) (n : ℕ) (sections : List (List Command)) → n + length sections ≤ 10 → list_all (list_all (is_writable ver domains)) sections ≡ true → length (flat_map line (lines_from n sections)) ≤ 64 * length sections + 64 * sum_by length sections
length-sections ver domains n [] h e = omega arith
length-sections ver domains n (cs ∷ sections) h e =
    let p = and_parts (list_all (is_writable ver domains) cs) (list_all (list_all (is_writable ver domains)) sections) e in
    let text = flat_map line (map command_text cs) in
    omega (
      arith,
      ap length (flat_map-append line (section_lines n cs) (lines_from (n + 1) sections)),
      length-append (line (heading_text n) ++ text) (flat_map line (lines_from (n + 1) sections)),
      length-append (line (heading_text n)) text,
      length-heading n (omega arith),
      length-commands ver domains cs p.0,
      total-cons cs sections,
      length-sections ver domains (n + 1) sections (omega arith) p.1,
    )

-- the first line
first_short : (ver : Version) → length (line (first_line ver)) ≡ 7
first_short One = refl
first_short Two = refl
first_short Three = refl

-- a script within the limits of sections and commands is within that of bytes
pub length-spelling : (ver : Version) (domains : ℕ) (sections : List (List Command)) → domains ≤ 8 → IsWritten ver domains sections → length (spelling ver sections) ≤ 16777216
length-spelling ver domains sections h w =
    omega (arith, first_short ver, length-append (line (first_line ver)) (flat_map line (lines_from 0 sections)), length-sections ver domains 0 sections (omega (arith, w.few_sections)) w.writable, w.few_sections, w.few_commands)
