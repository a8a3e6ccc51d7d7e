-- A script that was read: its sections may be run on the shared heap.
use Rattle.std.proofs.Common.{◌≡◌, ◌≢◌, min, ℕ, zero, suc, ◌-◌, ◌<◌, ◌≤◌, ◌^◌, ℤ, pos, neg_ℤ, ◌≤ℤ◌, ◌<ℤ◌, true, List, [], ◌∷◌, ◌++◌, length, replicate, refl, sym, ap, ◌∙◌, subst, arith, length-append}
use Rattle.std.specs.Prelude.{◌&&◌, int_le, slice_index_or, sum_by}
use Rattle.std.specs.List.{list_all}
use Rattle.std.proofs.lemmas.List.{length-replicate}
use Rattle.std.proofs.Math.Nat.{max-le}
use Rattle.std.specs.Prelude.{Bool, false, not, nat_le, Option, Some, None, if◌then◌else◌}
use Rattle.heap_rule.specs.declared.config.Config.{Config}
use Rattle.heap_rule.specs.Limits.{first_of, first_outside, outside_rooms, sizes_in}
use Rattle.model_core.specs.Domains.{first_outside as outside_sizes}
use Rattle.std.proofs.lemmas.Bool.Decides.{nat_tests}
use Rattle.std.proofs.lemmas.Int.{ints}
use Rattle.std.proofs.lemmas.Bool.{and_parts as both}
use Rattle.model_core.specs.declared.command.Command.{Command}
use Rattle.model_core.specs.declared.command.Command.TheVariants.{PutInt, Copy, Forget, Alloc, AllocMaj, Load, Store, Raw, Cas, Ephe, SetKey, UnsetKey, GetKey, CheckKey, SetData, UnsetData, GetData, CheckData, Finalise, FinaliseLast, Poll, Minor, Major, FullMajor, Spawn, Argument, PutResult, Join}
use Rattle.text_script.specs.declared.form.Operand.TheVariants.{Register, Tag, RawTag, FieldCount, KeyCount, Index, FinaliserNumber, Integer, Section}
use Rattle.run_turns.specs.Tries.{FitsHeap, ephemerons_of}
use Rattle.run_turns.specs.Runs.{AllFit, ephemerons_in, registrations_in}
use Rattle.run_turns.proofs.Owing.{registrations_few}
use Rattle.camlheap_run.specs.Reading.{IsSpelled, IsSpelledScript}
use Rattle.camlheap_run.specs.Running.{AreShort, most_of}
use Rattle.run_turns.specs.declared.supply.Supply.TheVariants.{Section as SectionSupply}
use Rattle.run_turns.specs.Sections.{AllFitIn, FitsSection}
use Rattle.text_script.specs.Spelling.{IsWritten, Spells}
use Rattle.text_script.proofs.SpellsLemmas.{length-script}
use Rattle.text_script.specs.Spawned.Reads.{IsRead}
use Rattle.text_script.specs.declared.version.Version.{Version}
use Rattle.text_script.specs.declared.version.Version.TheVariants.{One, Two, Three}
use Rattle.text_script.specs.Script.{Scripted}
use Rattle.text_script.specs.Forms.{form, parts, is_built, all_fit, is_writable, fits, version_number, last_register, most_fields}
use Rattle.text_script.proofs.ScriptLemmas.{total-cons}

-- a number in a range that begins at 0 or later
in_range : (low high n : ℕ) → (int_le (pos low) (pos n) && int_le (pos n) (pos high)) ≡ true → (low ≤ n) × (n ≤ high)
in_range low high n fits = (grind (arith, ints, nat_tests), grind (arith, ints, nat_tests))

in_integers : (v : ℤ) → (int_le (neg_ℤ (pos 4611686018427387904)) v && int_le v (pos 4611686018427387903)) ≡ true → (neg_ℤ (pos (2 ^ 62)) ≤ℤ v) × (v <ℤ pos (2 ^ 62))
in_integers v fits = (grind (arith, ints, nat_tests), grind (arith, ints, nat_tests))

last_few : (ver : Version) → last_register ver ≤ 15
last_few One = omega arith
last_few Two = omega arith
last_few Three = omega arith

register_fits : (ver : Version) (run n : ℕ) → fits ver run Register (pos n) ≡ true → n < 16
register_fits ver run n w =
    let r = in_range 0 (last_register ver) n w in
    let few = last_few ver in
    omega (arith, r.1, few)

-- no version up to the second has these words
abbrev is_later : Command → Bool
is_later (Spawn section item) = true
is_later (Argument dst) = true
is_later (PutResult item) = true
is_later (Join dst section) = true
is_later _ = false

nothing_later : false ≡ true → ⊥
nothing_later e = cc

nothing_plain : true ≡ false → ⊥
nothing_plain e = cc

later_words : (ver : Version) (c : Command) → version_number ver ≤ 2 → is_later c ≡ true → is_built ver (parts c).word ≡ true → ⊥
later_words One (Spawn section item) old later built = cc
later_words Two (Spawn section item) old later built = cc
later_words One (Argument dst) old later built = cc
later_words Two (Argument dst) old later built = cc
later_words One (PutResult item) old later built = cc
later_words Two (PutResult item) old later built = cc
later_words One (Join dst section) old later built = cc
later_words Two (Join dst section) old later built = cc
later_words Three c old later built = absurd (omega arith)
later_words ver _ old later built = nothing_later later

few_fields : (ver : Version) → most_fields ver ≤ 1022
few_fields One = omega arith
few_fields Two = omega arith
few_fields Three = omega arith

-- a command of the grammar is one that runs on the shared heap, with its numbers in their ranges
ranged_fits : (ver : Version) (run : ℕ) (c : Command) → is_later c ≡ false → is_built ver (parts c).word ≡ true → all_fit ver run (form (parts c).word).operands (parts c).numbers ≡ true → FitsHeap c
ranged_fits ver run (PutInt dst value) plain built w =
    let p = both (fits ver run Register (pos dst)) (fits ver run Integer value && true) w in
    (register_fits ver run dst p.0, in_integers value (both (fits ver run Integer value) true p.1).0)
ranged_fits ver run (Copy dst src) plain built w =
    let p = both (fits ver run Register (pos dst)) (fits ver run Register (pos src) && true) w in
    (register_fits ver run dst p.0, register_fits ver run src (both (fits ver run Register (pos src)) true p.1).0)
ranged_fits ver run (Forget dst) plain built w = register_fits ver run dst (both (fits ver run Register (pos dst)) true w).0
ranged_fits ver run (Alloc dst tag fields) plain built w =
    let p = both (fits ver run Register (pos dst)) (fits ver run Tag (pos tag) && (fits ver run FieldCount (pos fields) && true)) w in
    let q = both (fits ver run Tag (pos tag)) (fits ver run FieldCount (pos fields) && true) p.1 in
    let b = in_range 0 245 tag q.0 in
    let f = in_range 1 (most_fields ver) fields (both (fits ver run FieldCount (pos fields)) true q.1).0 in (register_fits ver run dst p.0, b.1, f.0, (let m = few_fields ver in omega (arith, m, f.1)))
ranged_fits ver run (AllocMaj dst tag fields) plain built w =
    let p = both (fits ver run Register (pos dst)) (fits ver run Tag (pos tag) && (fits ver run FieldCount (pos fields) && true)) w in
    let q = both (fits ver run Tag (pos tag)) (fits ver run FieldCount (pos fields) && true) p.1 in
    let b = in_range 0 245 tag q.0 in
    let f = in_range 1 (most_fields ver) fields (both (fits ver run FieldCount (pos fields)) true q.1).0 in (register_fits ver run dst p.0, b.1, f.0, (let m = few_fields ver in omega (arith, m, f.1)))
ranged_fits ver run (Load dst src index) plain built w =
    let p = both (fits ver run Register (pos dst)) (fits ver run Register (pos src) && (fits ver run Index (pos index) && true)) w in
    (register_fits ver run dst p.0, register_fits ver run src (both (fits ver run Register (pos src)) (fits ver run Index (pos index) && true) p.1).0)
ranged_fits ver run (Store block index item) plain built w =
    let p = both (fits ver run Register (pos block)) (fits ver run Index (pos index) && (fits ver run Register (pos item) && true)) w in
    let q = both (fits ver run Index (pos index)) (fits ver run Register (pos item) && true) p.1 in
    (register_fits ver run block p.0, register_fits ver run item (both (fits ver run Register (pos item)) true q.1).0)
ranged_fits ver run Poll plain built w = tt
ranged_fits ver run (Raw dst tag fields) plain built w =
    let p = both (fits ver run Register (pos dst)) (fits ver run RawTag (pos tag) && (fits ver run FieldCount (pos fields) && true)) w in
    let q = both (fits ver run RawTag (pos tag)) (fits ver run FieldCount (pos fields) && true) p.1 in
    let b = in_range 251 255 tag q.0 in
    let f = in_range 1 (most_fields ver) fields (both (fits ver run FieldCount (pos fields)) true q.1).0 in (register_fits ver run dst p.0, b.0, (omega (arith, b.1)), f.0, (let m = few_fields ver in omega (arith, m, f.1)))
ranged_fits ver run (Cas block index expected item) plain built w =
    let p = both (fits ver run Register (pos block)) (fits ver run Index (pos index) && (fits ver run Register (pos expected) && (fits ver run Register (pos item) && true))) w in
    let q = both (fits ver run Index (pos index)) (fits ver run Register (pos expected) && (fits ver run Register (pos item) && true)) p.1 in
    let r = both (fits ver run Register (pos expected)) (fits ver run Register (pos item) && true) q.1 in
    (register_fits ver run block p.0, register_fits ver run expected r.0, register_fits ver run item (both (fits ver run Register (pos item)) true r.1).0)
ranged_fits ver run (Ephe dst keys) plain built w =
    let p = both (fits ver run Register (pos dst)) (fits ver run KeyCount (pos keys) && true) w in
    let f = in_range 1 8 keys (both (fits ver run KeyCount (pos keys)) true p.1).0 in (register_fits ver run dst p.0, f.0, f.1)
ranged_fits ver run (SetKey ephe index item) plain built w =
    let p = both (fits ver run Register (pos ephe)) (fits ver run Index (pos index) && (fits ver run Register (pos item) && true)) w in
    let q = both (fits ver run Index (pos index)) (fits ver run Register (pos item) && true) p.1 in
    (register_fits ver run ephe p.0, register_fits ver run item (both (fits ver run Register (pos item)) true q.1).0)
ranged_fits ver run (UnsetKey ephe index) plain built w = register_fits ver run ephe (both (fits ver run Register (pos ephe)) (fits ver run Index (pos index) && true) w).0
ranged_fits ver run (GetKey dst ephe index) plain built w =
    let p = both (fits ver run Register (pos dst)) (fits ver run Register (pos ephe) && (fits ver run Index (pos index) && true)) w in
    (register_fits ver run dst p.0, register_fits ver run ephe (both (fits ver run Register (pos ephe)) (fits ver run Index (pos index) && true) p.1).0)
ranged_fits ver run (CheckKey ephe index) plain built w = register_fits ver run ephe (both (fits ver run Register (pos ephe)) (fits ver run Index (pos index) && true) w).0
ranged_fits ver run (SetData ephe item) plain built w =
    let p = both (fits ver run Register (pos ephe)) (fits ver run Register (pos item) && true) w in
    (register_fits ver run ephe p.0, register_fits ver run item (both (fits ver run Register (pos item)) true p.1).0)
ranged_fits ver run (UnsetData ephe) plain built w = register_fits ver run ephe (both (fits ver run Register (pos ephe)) true w).0
ranged_fits ver run (GetData dst ephe) plain built w =
    let p = both (fits ver run Register (pos dst)) (fits ver run Register (pos ephe) && true) w in
    (register_fits ver run dst p.0, register_fits ver run ephe (both (fits ver run Register (pos ephe)) true p.1).0)
ranged_fits ver run (CheckData ephe) plain built w = register_fits ver run ephe (both (fits ver run Register (pos ephe)) true w).0
ranged_fits ver run (Finalise item number dst) plain built w =
    let p = both (fits ver run Register (pos item)) (fits ver run FinaliserNumber (pos number) && (fits ver run Register (pos dst) && true)) w in
    let q = both (fits ver run FinaliserNumber (pos number)) (fits ver run Register (pos dst) && true) p.1 in
    (register_fits ver run item p.0, register_fits ver run dst (both (fits ver run Register (pos dst)) true q.1).0)
ranged_fits ver run (FinaliseLast item number) plain built w = register_fits ver run item (both (fits ver run Register (pos item)) (fits ver run FinaliserNumber (pos number) && true) w).0
ranged_fits ver run Minor plain built w = tt
ranged_fits ver run Major plain built w = tt
ranged_fits ver run FullMajor plain built w = tt
ranged_fits ver run (Spawn section item) plain built w = absurd (nothing_plain plain)
ranged_fits ver run (Argument dst) plain built w = absurd (nothing_plain plain)
ranged_fits ver run (PutResult item) plain built w = absurd (nothing_plain plain)
ranged_fits ver run (Join dst section) plain built w = absurd (nothing_plain plain)

not_later : (b : Bool) → (b ≡ true → ⊥) → b ≡ false
not_later true none = absurd (none refl)
not_later false none = refl

writable_fits : (ver : Version) (run : ℕ) (c : Command) → version_number ver ≤ 2 → is_writable ver run c ≡ true → FitsHeap c
writable_fits ver run c old w = let t = both (is_built ver (parts c).word) (all_fit ver run (form (parts c).word).operands (parts c).numbers) w in ranged_fits ver run c (not_later (is_later c) (λ later. later_words ver c old later t.0)) t.0 t.1

all_writable_fit : (ver : Version) (run : ℕ) (cs : List Command) → version_number ver ≤ 2 → list_all (is_writable ver run) cs ≡ true → AllFit cs
all_writable_fit ver run [] old w i c at = cc
all_writable_fit ver run (x ∷ xs) old w zero c at = let is : x ≡ c = cc in subst FitsHeap is (writable_fits ver run x old (both (is_writable ver run x) (list_all (is_writable ver run) xs) w).0)
all_writable_fit ver run (x ∷ xs) old w (suc i) c at = all_writable_fit ver run xs old (both (is_writable ver run x) (list_all (is_writable ver run) xs) w).1 i c at

-- a section that may be run: not too long, and of such commands
pub record IsFine (cs : List Command) : Type 0 where
  pub few : length cs ≤ 200000
  pub fit : AllFit cs

none_fit : AllFit []
none_fit i c at = cc

written_fine : (ver : Version) (run : ℕ) (sections : List (List Command)) (d : ℕ) → version_number ver ≤ 2 → sum_by length sections ≤ 200000 → list_all (list_all (is_writable ver run)) sections ≡ true → IsFine (slice_index_or sections d [])
written_fine ver run [] d old few w = record { few = omega arith; fit = none_fit }
written_fine ver run (cs ∷ sections) zero old few w = let total = total-cons cs sections in record {
  few = omega arith;
  fit = all_writable_fit ver run cs old (both (list_all (is_writable ver run) cs) (list_all (list_all (is_writable ver run)) sections) w).0;
}
written_fine ver run (cs ∷ sections) (suc d) old few w =
    let total = total-cons cs sections in
    written_fine ver run sections d old (omega arith) (both (list_all (is_writable ver run) cs) (list_all (list_all (is_writable ver run)) sections) w).1

abbrev no_commands : List Command
no_commands = []

empty_at : (n d : ℕ) → slice_index_or (replicate n no_commands) d [] ≡ []
empty_at zero d = refl
empty_at (suc n) zero = refl
empty_at (suc n) (suc d) = empty_at n d

written_at : (sections : List (List Command)) (n d : ℕ) → slice_index_or (sections ++ replicate n []) d [] ≡ slice_index_or sections d []
written_at [] n d = empty_at n d
written_at (cs ∷ sections) n zero = refl
written_at (cs ∷ sections) n (suc d) = written_at sections n d

-- each section of a script may be run
pub spelled_fine : (domains : ℕ) (script : Scripted) → IsSpelled domains script → (d : ℕ) → IsFine (slice_index_or script.sections d [])
spelled_fine domains script spelled d =
    let s = spelled.1 in
    let at : slice_index_or script.sections d [] ≡ slice_index_or s.written d [] = ap (λ (l : List (List Command)). slice_index_or l d []) s.script_is ∙ written_at s.written (domains - length s.written) d in
    subst IsFine (sym at) (written_fine script.version domains s.written d s.is_read s.is_written.few_commands s.is_written.writable)

-- a script has a section for each domain
pub spelled_length : (domains : ℕ) (script : Scripted) → IsSpelled domains script → length script.sections ≡ domains
spelled_length domains script spelled =
    let s = spelled.1 in
    let few = s.is_written.few_sections in
    let more : length (replicate (domains - length s.written) no_commands) ≡ domains - length s.written = length-replicate (domains - length s.written) [] in
    ap length s.script_is ∙ length-append s.written (replicate (domains - length s.written) []) ∙ (omega (arith, more, few))

-- a section of a script with spawns may be run too
fits_section : (c : Command) → is_later c ≡ false → FitsHeap c → FitsSection c
fits_section (Spawn section item) plain fits = absurd (nothing_plain plain)
fits_section (Argument dst) plain fits = absurd (nothing_plain plain)
fits_section (PutResult item) plain fits = absurd (nothing_plain plain)
fits_section (Join dst section) plain fits = absurd (nothing_plain plain)
fits_section c plain fits = fits

low_register : (run n : ℕ) → fits Three run Register (pos n) ≡ true → n < 14
low_register run n w = let r = in_range 0 13 n w in omega (arith, r.1)

low_section : (run n : ℕ) → fits Three run Section (pos n) ≡ true → n < 8
low_section run n w = let r = in_range 0 (min 7 (run - 1)) n w in omega (arith, r.1)

section_by : (run : ℕ) (c : Command) (later : Bool) → is_later c ≡ later → is_built Three (parts c).word ≡ true → all_fit Three run (form (parts c).word).operands (parts c).numbers ≡ true → FitsSection c
section_by run (Spawn section item) later is built w =
    let p = both (fits Three run Section (pos section)) (fits Three run Register (pos item) && true) w in
    (low_section run section p.0, low_register run item (both (fits Three run Register (pos item)) true p.1).0)
section_by run (Argument dst) later is built w = low_register run dst (both (fits Three run Register (pos dst)) true w).0
section_by run (PutResult item) later is built w = low_register run item (both (fits Three run Register (pos item)) true w).0
section_by run (Join dst section) later is built w =
    let p = both (fits Three run Register (pos dst)) (fits Three run Section (pos section) && true) w in
    (low_register run dst p.0, low_section run section (both (fits Three run Section (pos section)) true p.1).0)
section_by run c true is built w = absurd (nothing_later is)
section_by run c false is built w = fits_section c is (ranged_fits Three run c is built w)

writable_section : (run : ℕ) (c : Command) → is_writable Three run c ≡ true → FitsSection c
writable_section run c w = let t = both (is_built Three (parts c).word) (all_fit Three run (form (parts c).word).operands (parts c).numbers) w in section_by run c (is_later c) refl t.0 t.1

all_writable_sections : (run : ℕ) (cs : List Command) → list_all (is_writable Three run) cs ≡ true → AllFitIn SectionSupply cs
all_writable_sections run [] w i c at = cc
all_writable_sections run (x ∷ xs) w zero c at = let is : x ≡ c = cc in subst FitsSection is (writable_section run x (both (is_writable Three run x) (list_all (is_writable Three run) xs) w).0)
all_writable_sections run (x ∷ xs) w (suc i) c at = all_writable_sections run xs (both (is_writable Three run x) (list_all (is_writable Three run) xs) w).1 i c at

written_sections : (run : ℕ) (sections : List (List Command)) (d : ℕ) → list_all (list_all (is_writable Three run)) sections ≡ true → AllFitIn SectionSupply (slice_index_or sections d [])
written_sections run [] d w = λ i c at. cc
written_sections run (cs ∷ sections) zero w = all_writable_sections run cs (both (list_all (is_writable Three run) cs) (list_all (list_all (is_writable Three run)) sections) w).0
written_sections run (cs ∷ sections) (suc d) w = written_sections run sections d (both (list_all (is_writable Three run) cs) (list_all (list_all (is_writable Three run)) sections) w).1

-- no section is too long
short_sections : (sections : List (List Command)) (d : ℕ) → sum_by length sections ≤ 200000 → length (slice_index_or sections d []) ≤ 200000
short_sections [] d few = omega arith
short_sections (cs ∷ sections) zero few = let total = total-cons cs sections in omega (arith, total)
short_sections (cs ∷ sections) (suc d) few = let total = total-cons cs sections in short_sections sections d (omega (arith, total))

section_is : (newest : Version) (domains : ℕ) (script : Scripted) (bytes : List ℕ) (s : Spells newest domains script bytes) (d : ℕ) → slice_index_or script.sections d [] ≡ slice_index_or s.written d []
section_is newest domains script bytes s d = ap (λ (l : List (List Command)). slice_index_or l d []) s.script_is ∙ written_at s.written (domains - length s.written) d

pub spelled_short : (newest : Version) (domains : ℕ) (script : Scripted) (bytes : List ℕ) → Spells newest domains script bytes → AreShort script.sections
spelled_short newest domains script bytes s d = subst (λ (cs : List Command). length cs ≤ 200000) (sym (section_is newest domains script bytes s d)) (short_sections s.written d s.is_written.few_commands)

pub spelled_sections : (newest : Version) (domains : ℕ) (script : Scripted) (bytes : List ℕ) → Spells newest domains script bytes → script.version ≡ Three → (d : ℕ) → AllFitIn SectionSupply (slice_index_or script.sections d [])
spelled_sections newest domains script bytes s third d =
    let w : IsWritten Three domains s.written = subst (λ (v : Version). IsWritten v domains s.written) third s.is_written in
    subst (AllFitIn SectionSupply) (sym (section_is newest domains script bytes s d)) (written_sections domains s.written d w.writable)

-- a script has a section for each domain
pub script_length : (newest : Version) (domains : ℕ) (script : Scripted) (bytes : List ℕ) → Spells newest domains script bytes → length script.sections ≡ domains
script_length newest domains script bytes s = length-script newest domains script bytes s

-- a script of an older version is one without spawns
pub older_script : (domains : ℕ) (script : Scripted) → IsSpelledScript domains script → version_number script.version ≢ 3 → IsSpelled domains script
older_script domains script s other = (s.0, record { is_read = older script.version other; written = s.1.written; is_written = s.1.is_written; bytes_are = s.1.bytes_are; few_bytes = s.1.few_bytes; script_is = s.1.script_is })
  where
    older : (v : Version) → version_number v ≢ 3 → version_number v ≤ 2
    older One other = omega arith
    older Two other = omega arith
    older Three other = absurd (other refl)

pub newer_script : (domains : ℕ) (script : Scripted) → IsSpelledScript domains script → version_number script.version ≡ 3 → IsRead domains script
newer_script domains script s is = record { newest = Three; bytes = s.0; spelled = s.1; third = third script.version is }
  where
    third : (v : Version) → version_number v ≡ 3 → v ≡ Three
    third One is = absurd (omega arith)
    third Two is = absurd (omega arith)
    third Three is = refl

-- a section makes at most as many ephemerons as it has commands
one_at_most : (c : Command) → ephemerons_of c ≤ 1
one_at_most (PutInt dst value) = omega arith
one_at_most (Copy dst src) = omega arith
one_at_most (Forget dst) = omega arith
one_at_most (Alloc dst tag fields) = omega arith
one_at_most (AllocMaj dst tag fields) = omega arith
one_at_most (Load dst src index) = omega arith
one_at_most (Store block index item) = omega arith
one_at_most (Raw dst tag fields) = omega arith
one_at_most (Cas block index expected item) = omega arith
one_at_most (Ephe dst keys) = omega arith
one_at_most (SetKey ephe index item) = omega arith
one_at_most (UnsetKey ephe index) = omega arith
one_at_most (GetKey dst ephe index) = omega arith
one_at_most (CheckKey ephe index) = omega arith
one_at_most (SetData ephe item) = omega arith
one_at_most (UnsetData ephe) = omega arith
one_at_most (GetData dst ephe) = omega arith
one_at_most (CheckData ephe) = omega arith
one_at_most (Finalise item number dst) = omega arith
one_at_most (FinaliseLast item number) = omega arith
one_at_most Poll = omega arith
one_at_most Minor = omega arith
one_at_most Major = omega arith
one_at_most FullMajor = omega arith
one_at_most (Spawn section item) = omega arith
one_at_most (Argument dst) = omega arith
one_at_most (PutResult item) = omega arith
one_at_most (Join dst section) = omega arith

as_many_at_most : (cs : List Command) → ephemerons_in cs ≤ length cs
as_many_at_most [] = omega arith
as_many_at_most (c ∷ cs) =
    let one : ephemerons_of c ≤ 1 = one_at_most c in
    let rest : ephemerons_in cs ≤ length cs = as_many_at_most cs in
    omega arith

-- no section has more of what is counted than a heap may have room for, where each command counts once at most
most_few : (count : List Command → ℕ) → ((cs : List Command) → count cs ≤ length cs) → (script : List (List Command)) → AreShort script → most_of count script ≤ 200000
most_few count once [] fine = omega arith
most_few count once (cs ∷ sections) fine =
    let a : ℕ = count cs in
    let b : ℕ = most_of count sections in
    let first : count cs ≤ length cs = once cs in
    let few : length cs ≤ 200000 = fine 0 in
    let rest : b ≤ 200000 = most_few count once sections (λ d. fine (suc d)) in
    let f : a ≤ 200000 = omega arith in
    max-le f rest

pub few_ephemerons : (script : List (List Command)) → AreShort script → most_of ephemerons_in script ≤ 200000
few_ephemerons script fine = most_few ephemerons_in as_many_at_most script fine

pub few_registrations : (script : List (List Command)) → AreShort script → most_of registrations_in script ≤ 200000
few_registrations script fine = most_few registrations_in registrations_few script fine

abbrev of_two : Bool → Bool → Option ℕ
of_two a b = if not a then Some 4 else (if not b then Some 5 else None)

room_fits : (a b : Bool) → a ≡ true → b ≡ true → of_two a b ≡ None
room_fits true true first second = refl
room_fits false b first second = cc
room_fits true false first second = cc

at_most : (n : ℕ) → n ≤ 200000 → nat_le n 200000 ≡ true
at_most n few = grind (arith, nat_tests)

-- a heap of fitting sizes, with room for as many registrations and as many ephemerons as a section makes
pub rooms_fit : (k : Config) → outside_sizes (sizes_in k) ≡ None → k.finals ≤ 200000 → k.ephes ≤ 200000 → first_outside k ≡ None
rooms_fit k sizes finals ephes =
    ap (λ (o : Option ℕ). first_of o (outside_rooms k)) sizes ∙ room_fits (nat_le k.finals 200000) (nat_le k.ephes 200000) (at_most k.finals finals) (at_most k.ephes ephes)
