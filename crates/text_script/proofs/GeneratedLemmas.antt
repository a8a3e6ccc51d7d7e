-- The generator's script is within the limits of the format.
use Rattle.text_script.specs.declared.version.Version.{Version}
use Rattle.text_script.specs.declared.version.Version.TheVariants.{One, Two, Three}
use Rattle.std.proofs.Common.{◌≡◌, ℕ, ◌+◌, ◌-◌, ◌*◌, ◌/◌, ◌%◌, ◌≤◌, ◌<◌, zero, suc, pos, List, [], ◌∷◌, ◌++◌, map, length, replicate, Bool, true, false, cond, ◌&&◌, refl, ap, sym, ◌∙◌, subst, arith, lit≤, sum_by}
use Rattle.std.specs.Prelude.{◌==◌}
use Rattle.std.specs.List.{list_all, range_with_len}
use Rattle.std.proofs.Math.Nat.{suc-mul, mul-le-mul_right}
use Rattle.std.proofs.lemmas.List.{append-nil}
use Rattle.std.proofs.lemmas.List.Folds.{list_all-map}
use Rattle.std.proofs.lemmas.List.FromFn.{length-map-range_with_len, map-range_with_len_more}
use Rattle.std.proofs.lemmas.Bool.Decides.{nat_tests}
use Rattle.std.proofs.lemmas.Int.{ints}
use Rattle.model_core.specs.declared.command.Command.{Command}
use Rattle.model_core.specs.declared.command.Command.TheVariants.{PutInt, Alloc, Load, Store, Finalise, FinaliseLast}
use Rattle.text_script.specs.Forms.{version_number, is_writable}
use Rattle.text_script.specs.Spawning.{start}
use Rattle.text_script.specs.Generated.{chain_row, ephemeron_row, collection_row, row_of, command_at, section_of, generated}
use Rattle.text_script.specs.Spelling.{spelling, IsWritten, Spells}
use Rattle.text_script.proofs.ScriptLemmas.{total-cons}
use Rattle.text_script.proofs.PlaceLemmas.{first_in_order}
use Rattle.text_script.proofs.LengthLemmas.{length-spelling}

-- one of two commands
chosen : (run : ℕ) (t : Bool) (a b : Command) → is_writable One run a ≡ true → is_writable One run b ≡ true → is_writable One run (cond t a b) ≡ true
chosen run true a b e f = e
chosen run false a b e f = f

chain_writable : (run : ℕ) (j : ℕ) → is_writable One run (chain_row j) ≡ true
chain_writable run j = chosen run (j % 20 == 0) _ _ refl refl

finalise_writable : (run : ℕ) (x : ℕ) → x ≤ 65535 → is_writable One run (Finalise 1 x 7) ≡ true
finalise_writable run x h = grind (arith, ints, nat_tests)

finalise_last_writable : (run : ℕ) (x : ℕ) → x ≤ 65535 → is_writable One run (FinaliseLast 1 x) ≡ true
finalise_last_writable run x h = grind (arith, ints, nat_tests)

ephemeron_writable : (run : ℕ) (j : ℕ) → j ≤ 65535 → is_writable One run (ephemeron_row j) ≡ true
ephemeron_writable run j h =
    chosen run (j % 8 == 0) _ _ refl
    (chosen run (j % 8 == 1) _ _ refl
    (chosen run (j % 8 == 2) _ _ refl
    (chosen run (j % 8 == 3) _ _ (finalise_last_writable run j h)
    (chosen run (j % 8 == 4) _ _ refl
    (chosen run (j % 8 == 5) _ _ (finalise_writable run j h)
    (chosen run (j % 8 == 6) _ _ refl refl))))))

collection_writable : (run : ℕ) (j : ℕ) → is_writable One run (collection_row j) ≡ true
collection_writable run j = chosen run (j % 50 == 24) _ _ refl (chosen run (j % 50 == 49) _ _ refl refl)

alloc_writable : (run : ℕ) (tag fields : ℕ) → tag ≤ 245 → 1 ≤ fields → fields ≤ 126 → is_writable One run (Alloc 1 tag fields) ≡ true
alloc_writable run tag fields t l h = grind (arith, ints, nat_tests)

int_writable : (run : ℕ) (v : ℕ) → v ≤ 4611686018427387903 → is_writable One run (PutInt 2 (pos v)) ≡ true
int_writable run v h = grind (arith, ints, nat_tests)

store_writable : (run : ℕ) (d : ℕ) → d ≤ 1023 → is_writable One run (Store 0 d 1) ≡ true
store_writable run d h = grind (arith, ints, nat_tests)

load_writable : (run : ℕ) (d : ℕ) → d ≤ 1023 → is_writable One run (Load 4 0 d) ≡ true
load_writable run d h = grind (arith, ints, nat_tests)

row_writable : (run : ℕ) (base d j p : ℕ) → base ≤ 1000000 → d < 8 → j ≤ 20000 → is_writable One run (row_of base d j p) ≡ true
row_writable run base d j p b n h =
    chosen run (p == 0) _ _ (alloc_writable run (j % 246) (2 + (base + j) % 125) (omega arith) (omega arith) (omega arith))
    (chosen run (p == 1) _ _ (int_writable run (base + 3 * j + d) (omega arith))
    (chosen run (p == 2) _ _ refl
    (chosen run (p == 3) _ _ (chain_writable run j)
    (chosen run (p == 4) _ _ refl
    (chosen run (p == 5) _ _ (store_writable run d (omega arith))
    (chosen run (p == 6) _ _ (load_writable run d (omega arith))
    (chosen run (p == 7) _ _ refl
    (chosen run (p == 8) _ _ (ephemeron_writable run j (omega arith)) (collection_writable run j)))))))))

-- a test that all numbers of a range pass
all-range : (test : ℕ → Bool) (a n : ℕ) → ((k : ℕ) → k < a + n → test k ≡ true) → list_all test (range_with_len a n) ≡ true
all-range test a zero passes = refl
all-range test a (suc n) passes =
    ap (λ b. b && list_all test (range_with_len (a + 1) n)) (passes a (omega arith)) ∙ all-range test (a + 1) n (λ k h. passes k (omega arith))

section_writable : (run : ℕ) (base commands d : ℕ) → base ≤ 1000000 → d < 8 → commands ≤ 200000 → list_all (is_writable One run) (section_of base commands d) ≡ true
section_writable run base commands d b n h =
    list_all-map (is_writable One run) (command_at base d) (range_with_len 0 commands)
    ∙ all-range (λ k. is_writable One run (command_at base d k)) 0 commands (λ k below. row_writable run base d (k / 10) (k % 10) b n (omega arith))

-- so many commands for each section
total-sections : (base commands a n : ℕ) → sum_by length (map (section_of base commands) (range_with_len a n)) ≡ n * commands
total-sections base commands a zero = omega arith
total-sections base commands a (suc n) =
    omega (arith, total-cons (section_of base commands a) (map (section_of base commands) (range_with_len (a + 1) n)), length-map-range_with_len (command_at base a) 0 commands, total-sections base commands (a + 1) n, suc-mul n commands)

-- the first sections, and one more, have no more commands than all
one_more : (domain domains commands : ℕ) → domain < domains → domain * commands + commands ≤ domains * commands
one_more domain domains commands h =
    let below : suc domain ≤ domains = omega arith in
    omega (arith, mul-le-mul_right commands below, suc-mul domain commands)

pub room_for_section : (base domain domains commands : ℕ) (script : List (List Command)) (section : List Command) → domain < domains → domains * commands ≤ 200000 → script ≡ generated base domain commands → section ≡ section_of base commands domain → sum_by length script + length section ≤ 200000
room_for_section base domain domains commands script section h room e f =
    omega (arith, ap (sum_by length) e, total-sections base commands 0 domain, ap length f, length-map-range_with_len (command_at base domain) 0 commands, one_more domain domains commands h)

-- a command more, and a section more
pub command_added : (base d place : ℕ) (old : List Command) {new : List Command} (c : Command) → old ≡ section_of base place d → c ≡ command_at base d place → new ≡ old ++ c ∷ [] → new ≡ section_of base (place + 1) d
command_added base d place old c e f added =
    added ∙ ap (λ cs. cs ++ c ∷ []) e ∙ ap (λ x. section_of base place d ++ x ∷ []) f ∙ sym (map-range_with_len_more (command_at base d) 0 place place (omega arith))

pub section_added : (base domain commands : ℕ) (old : List (List Command)) {new : List (List Command)} (section : List Command) → old ≡ generated base domain commands → section ≡ section_of base commands domain → new ≡ old ++ section ∷ [] → new ≡ generated base (domain + 1) commands
section_added base domain commands old section e f added =
    added ∙ ap (λ s. s ++ section ∷ []) e ∙ ap (λ x. generated base domain commands ++ x ∷ []) f ∙ sym (map-range_with_len_more (section_of base commands) 0 domain domain (omega arith))

-- the script is within the limits
all_written : (base domains commands : ℕ) → base ≤ 1000000 → 1 ≤ domains → domains ≤ 8 → domains * commands ≤ 200000 → IsWritten One domains (generated base domains commands)
all_written base domains commands b some few room =
    let section : commands ≤ 200000 = omega (arith, one_more 0 domains commands (omega arith)) in
    record {
      few_sections = omega (arith, length-map-range_with_len (section_of base commands) 0 domains);
      few_commands = omega (arith, total-sections base commands 0 domains);
      writable = list_all-map (list_all (is_writable One domains)) (section_of base commands) (range_with_len 0 domains)
          ∙ all-range (λ d. list_all (is_writable One domains) (section_of base commands d)) 0 domains (λ d below. section_writable domains base commands d b (omega arith) section);
      in_order = first_in_order start (generated base domains commands);
    }

pub generated_written : (base domains commands : ℕ) (script : List (List Command)) → base ≤ 1000000 → 1 ≤ domains → domains ≤ 8 → domains * commands ≤ 200000 → script ≡ generated base domains commands → IsWritten One domains script
generated_written base domains commands script b some few room e = subst (IsWritten One domains) (sym e) (all_written base domains commands b some few room)

-- each section is written
none_empty : (domains : ℕ) (sections : List (List Command)) → length sections ≡ domains → sections ≡ sections ++ replicate (domains - length sections) []
none_empty domains sections e =
    let none : 0 ≡ domains - length sections = omega arith in
    sym (append-nil sections) ∙ ap (λ n. sections ++ replicate n []) none

oldest : (newest : Version) → 1 ≤ version_number newest
oldest One = lit≤ tt
oldest Two = lit≤ tt
oldest Three = lit≤ tt

pub generated_spelled : (newest : Version) (base domains commands : ℕ) (script : List (List Command)) → base ≤ 1000000 → 1 ≤ domains → domains ≤ 8 → domains * commands ≤ 200000 → script ≡ generated base domains commands → Spells newest domains (record { version = One; sections = script }) (spelling One script)
generated_spelled newest base domains commands script b some few room e =
    let is_written = generated_written base domains commands script b some few room e in
    record {
      is_read = oldest newest;
      written = script;
      is_written = is_written;
      bytes_are = refl;
      few_bytes = length-spelling One domains script few is_written;
      script_is = none_empty domains script (ap length e ∙ length-map-range_with_len (section_of base commands) 0 domains);
    }
