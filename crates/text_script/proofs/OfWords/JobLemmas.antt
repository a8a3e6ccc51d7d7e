-- What the words ask for: which reading it comes from, and its limits.
use Rattle.std.proofs.Common.{◌≡◌, ◌∙◌, ◌≤◌, ℕ, Bool, true, false, List, [], ◌∷◌, Option, Some, None, codes, inl, inr, refl, sym, ap, subst, arith}
use Rattle.std.specs.Prelude.{◌⊎◌, IfSome, is_none, option_map, bytes_eq, nat_le, if◌then◌else◌}
use Rattle.std.specs.Option.{option_or}
use Rattle.std.proofs.lemmas.Bool.{and_parts}
use Rattle.std.proofs.lemmas.Bool.Decides.{nat_tests}
use Rattle.std.proofs.lemmas.Slice.Eq.{bytes_eq-Decides}
use Rattle.model_core.specs.declared.state.Sizes.{Sizes}
use Rattle.model_core.specs.Domains.{class_count, first_outside}
use Rattle.text_script.specs.declared.words.job.Job.{Job}
use Rattle.text_script.specs.declared.words.job.Job.TheVariants.{Run, Replay, Table, Gen, Load}
use Rattle.text_script.specs.declared.words.job.Generated.{Generated}
use Rattle.text_script.specs.declared.words.options.Given.{Given}
use Rattle.text_script.specs.Words.Numbers.{option_number}
use Rattle.text_script.specs.Words.RunWords.{given_after, if_sizes, is_replay, is_run, is_table, replay_sizes, run_sizes, sizes_after, sizes_or, table_sizes}
use Rattle.text_script.specs.Words.Jobs.{AreReplaySizes, AreTableSizes, IsGenerable, IsWithinRange, asked_job, generated_after, if_generable, is_generable, script_if, script_of}
use Rattle.text_script.proofs.OfWords.WalkLemmas.{some_of, some_map}
use Rattle.text_script.proofs.OfWords.TakesLemmas.{both_hold}

-- the reading that gives what the words ask for
abbrev pub Reads : List (List ℕ) → Job → Type 0
Reads words (Run z) = run_sizes words ≡ Some z
Reads words (Replay z) = replay_sizes words ≡ Some z
Reads words (Table z) = table_sizes words ≡ Some z
Reads words (Gen g) = generated_after (codes "gen") words ≡ Some g
Reads words (Load g) = generated_after (codes "load") words ≡ Some g

or_cases : {A : Type 0} (a b : Option A) (x : A) → option_or a b ≡ Some x → (a ≡ Some x) ⊎ (b ≡ Some x)
or_cases None b x e = inr e
or_cases (Some y) b x e = inl e

-- what is asked for is given by its reading
pub asked_reads : (words : List (List ℕ)) (j : Job) → asked_job words ≡ Some j → Reads words j
unfolding asked_job
asked_reads words j e = elim (or_cases (option_map Run (run_sizes words)) _ j e) [
  | inl run ↦ let z = some_map Run (run_sizes words) j run in subst (Reads words) z.2 z.1
  | inr later ↦ elim (or_cases (option_map Replay (replay_sizes words)) _ j later) [
    | inl replay ↦ let z = some_map Replay (replay_sizes words) j replay in subst (Reads words) z.2 z.1
    | inr more ↦ elim (or_cases (option_map Table (table_sizes words)) _ j more) [
      | inl table ↦ let z = some_map Table (table_sizes words) j table in subst (Reads words) z.2 z.1
      | inr script ↦ elim (or_cases (option_map Gen (generated_after (codes "gen") words)) _ j script) [
        | inl gen ↦ let g = some_map Gen (generated_after (codes "gen") words) j gen in subst (Reads words) g.2 g.1
        | inr load ↦ let g = some_map Load (generated_after (codes "load") words) j load in subst (Reads words) g.2 g.1
      ]
    ]
  ]
]

-- ---- sizes

-- a choice that is made
pub chosen : {A : Type 0} (b : Bool) (o : Option A) (x : A) → (if b then o else None) ≡ Some x → (b ≡ true) × (o ≡ Some x)
chosen true o x e = (refl, e)
chosen false o x e = cc

-- sizes that are taken pass the test
pub fitting : (test : Sizes → Bool) (y z : Sizes) → if_sizes test y ≡ Some z → (test z ≡ true) × (y ≡ z)
fitting test y z e =
    let p = chosen (test y) (Some y) z e in
    let is : y ≡ z = cc in
    (subst (λ (x : Sizes). test x ≡ true) is p.0, is)

-- what the words give, and the sizes that come of it
pub record GivesSizes (command : List ℕ) (domains : ℕ) (test : Sizes → Bool) (words : List (List ℕ)) (z : Sizes) : Type 0 where
  pub given : Given
  pub reads : given_after command words ≡ Some given
  pub sizes : z ≡ sizes_or domains given
  pub passes : test z ≡ true

pub gives_sizes : (command : List ℕ) (domains : ℕ) (test : Sizes → Bool) (words : List (List ℕ)) (z : Sizes) → sizes_after command domains test words ≡ Some z → GivesSizes command domains test words z
gives_sizes command domains test words z e =
    let g = some_of (λ (g : Given). if_sizes test (sizes_or domains g)) (given_after command words) z e in
    let p = fitting test (sizes_or domains g.0) z g.2 in
    record { given = g.0; reads = g.1; sizes = sym p.1; passes = p.0 }

none_there : (o : Option ℕ) → is_none o ≡ true → o ≡ None
none_there None e = refl
none_there (Some n) e = cc

-- the tests of sizes are exact
pub runnable : (z : Sizes) → is_run z ≡ true → first_outside z ≡ None
runnable z e = none_there (first_outside z) e

pub passes_run : (z : Sizes) → first_outside z ≡ None → is_run z ≡ true
passes_run z e = ap is_none e

small : (m n : ℕ) → nat_le m n ≡ true → m ≤ n
small m n e = grind (arith, nat_tests)

test_small : (m n : ℕ) → m ≤ n → nat_le m n ≡ true
test_small m n e = grind (arith, nat_tests)

pub replayable : (z : Sizes) → is_replay z ≡ true → AreReplaySizes z
replayable z e =
    let p = and_parts (is_none (first_outside z)) _ e in
    record { limits = none_there (first_outside z) p.0; pools = small _ _ p.1 }

pub passes_replay : (z : Sizes) → AreReplaySizes z → is_replay z ≡ true
passes_replay z are = both_hold _ _ (ap is_none are.limits) (test_small _ _ are.pools)

pub tabular : (z : Sizes) → is_table z ≡ true → AreTableSizes z
tabular z e =
    let p = and_parts (is_none (first_outside z)) _ e in
    record { limits = none_there (first_outside z) p.0; pools = small _ _ p.1 }

pub passes_table : (z : Sizes) → AreTableSizes z → is_table z ≡ true
passes_table z are = both_hold _ _ (ap is_none are.limits) (test_small _ _ are.pools)

-- ---- scripts

parts_of : (b d c : Option ℕ) (g : Generated) → script_if b d c ≡ Some g → (b ≡ Some g.base) × (d ≡ Some g.domains) × (c ≡ Some g.commands)
parts_of None d c g e = cc
parts_of (Some b) None c g e = cc
parts_of (Some b) (Some d) None g e = cc
parts_of (Some b) (Some d) (Some c) g e =
    let is : script_of b d c ≡ g = cc in
    (ap (λ (x : Generated). Some x.base) is, ap (λ (x : Generated). Some x.domains) is, ap (λ (x : Generated). Some x.commands) is)

-- the words are this command and texts that are the script's numbers
pub record HasNumbers (command : List ℕ) (words : List (List ℕ)) (g : Generated) : Type 0 where
  pub base : List ℕ
  pub domains : List ℕ
  pub commands : List ℕ
  pub words_are : words ≡ command ∷ base ∷ domains ∷ commands ∷ []
  pub base_is : option_number base ≡ Some g.base
  pub domains_are : option_number domains ≡ Some g.domains
  pub commands_are : option_number commands ≡ Some g.commands
  pub test : is_generable g ≡ true

pub numbers_of : (command : List ℕ) (words : List (List ℕ)) (g : Generated) → generated_after command words ≡ Some g → HasNumbers command words g
numbers_of command [] g e = cc
numbers_of command (word ∷ []) g e = cc
numbers_of command (word ∷ base ∷ []) g e = cc
numbers_of command (word ∷ base ∷ domains ∷ []) g e = cc
numbers_of command (word ∷ base ∷ domains ∷ commands ∷ []) g e =
    let p = chosen (bytes_eq word command) _ g e in
    let s = some_of if_generable (script_if (option_number base) (option_number domains) (option_number commands)) g p.1 in
    let fits = chosen (is_generable s.0) (Some s.0) g s.2 in
    let same : s.0 ≡ g = cc in
    let parts = parts_of _ _ _ g (s.1 ∙ fits.1) in
    record {
      base = base;
      domains = domains;
      commands = commands;
      words_are = ap (λ (w : List ℕ). w ∷ base ∷ domains ∷ commands ∷ []) ((bytes_eq-Decides word command).0 p.0);
      base_is = parts.0;
      domains_are = parts.1;
      commands_are = parts.2;
      test = ap is_generable (sym same) ∙ fits.0;
    }
numbers_of command (word ∷ base ∷ domains ∷ commands ∷ more ∷ words) g e = cc

-- the test of a script is exact
pub generable : (g : Generated) → is_generable g ≡ true → IsGenerable g
generable g e =
    let p = and_parts (nat_le g.base 1000000) _ e in
    let q = and_parts (nat_le 1 g.domains) _ p.1 in
    let r = and_parts (nat_le g.domains 8) _ q.1 in
    record { base = small _ _ p.0; some = small _ _ q.0; domains = small _ _ r.0; commands = small _ _ r.1 }

pub passes_test : (g : Generated) → IsGenerable g → is_generable g ≡ true
passes_test g is = both_hold _ _ (test_small _ _ is.base) (both_hold _ _ (test_small _ _ is.some) (both_hold _ _ (test_small _ _ is.domains) (test_small _ _ is.commands)))

-- ---- limits

class_of : (command : List ℕ) (domains : ℕ) (test : Sizes → Bool) (words : List (List ℕ)) (z : Sizes) → GivesSizes command domains test words z → z.classes ≡ class_count
class_of command domains test words z gives = ap (λ (y : Sizes). y.classes) gives.sizes

run_within : (words : List (List ℕ)) (z : Sizes) → run_sizes words ≡ Some z → IsWithinRange (Run z)
run_within words z e = let g = gives_sizes (codes "run") 2 is_run words z e in (runnable z g.passes, class_of _ _ _ words z g)

replay_within : (words : List (List ℕ)) (z : Sizes) → replay_sizes words ≡ Some z → IsWithinRange (Replay z)
replay_within words z e = let g = gives_sizes (codes "replay") 2 is_replay words z e in (replayable z g.passes, class_of _ _ _ words z g)

table_within : (words : List (List ℕ)) (z : Sizes) → table_sizes words ≡ Some z → IsWithinRange (Table z)
table_within words z e = let g = gives_sizes (codes "table") 1 is_table words z e in (tabular z g.passes, class_of _ _ _ words z g)

reads_within : (words : List (List ℕ)) (j : Job) → Reads words j → IsWithinRange j
reads_within words (Run z) e = run_within words z e
reads_within words (Replay z) e = replay_within words z e
reads_within words (Table z) e = table_within words z e
reads_within words (Gen g) e = generable g (numbers_of (codes "gen") words g e).test
reads_within words (Load g) e = generable g (numbers_of (codes "load") words g e).test

-- what is asked for is within its limits
pub asked_within : (words : List (List ℕ)) (j : Job) → asked_job words ≡ Some j → IsWithinRange j
asked_within words j e = reads_within words j (asked_reads words j e)

pub if_asked_within : (words : List (List ℕ)) (o : Option Job) → o ≡ asked_job words → IfSome o IsWithinRange
if_asked_within words None e = tt
if_asked_within words (Some j) e = asked_within words j (sym e)
