-- What the words of the command line ask for.
use Rattle.std.specs.Prelude.{◌≡◌, ℕ, ◌≤◌, ◌+◌, ◌*◌, ◌&&◌, Bool, nat_le, List, [], ◌∷◌, Option, Some, None, option_map, option_and_then, codes, bytes_eq, if◌then◌else◌}
use Rattle.std.specs.Option.{option_or}
use Rattle.model_core.specs.declared.state.Sizes.{Sizes}
use Rattle.model_core.specs.Domains.{class_count, first_outside, reserve}
use Rattle.text_script.specs.declared.words.job.Job.{Job}
use Rattle.text_script.specs.declared.words.job.Job.TheVariants.{Run, Replay, Table, Gen, Load}
use Rattle.text_script.specs.declared.words.job.Generated.{Generated}
use Rattle.text_script.specs.Words.Numbers.{option_number}
use Rattle.text_script.specs.Words.RunWords.{replay_sizes, run_sizes, sizes_or, table_sizes}

-- a generated script that may be asked for: the first number is at most 1,000,000, there are 1 to 8 domains, and at most 200,000 commands in all
pub record IsGenerable (g : Generated) : Type 0 where
  pub base : g.base ≤ 1000000
  pub some : 1 ≤ g.domains
  pub domains : g.domains ≤ 8
  pub commands : g.domains * g.commands ≤ 200000

-- the same as a test
abbrev pub is_generable : Generated → Bool
is_generable g = nat_le g.base 1000000 && (nat_le 1 g.domains && (nat_le g.domains 8 && nat_le (g.domains * g.commands) 200000))

abbrev pub if_generable : Generated → Option Generated
if_generable g = if is_generable g then Some g else None

abbrev pub script_of : ℕ → ℕ → ℕ → Generated
script_of base domains commands = record { base = base; domains = domains; commands = commands }

-- the script of three numbers, where each of them is one
abbrev pub script_if : Option ℕ → Option ℕ → Option ℕ → Option Generated
script_if base domains commands = option_and_then (λ b. option_and_then (λ d. option_map (script_of b d) commands) domains) base

-- the script that the words ask for: this command, and three numbers behind it
abbrev pub generated_after : List ℕ → List (List ℕ) → Option Generated
generated_after command [] = None
generated_after command (word ∷ []) = None
generated_after command (word ∷ base ∷ []) = None
generated_after command (word ∷ base ∷ domains ∷ []) = None
generated_after command (word ∷ base ∷ domains ∷ commands ∷ []) =
    if bytes_eq word command then option_and_then if_generable (script_if (option_number base) (option_number domains) (option_number commands)) else None
generated_after command (word ∷ base ∷ domains ∷ commands ∷ more ∷ words) = None

-- what the words ask for, where they are taken: a run, a replay, a text of a table, or a script that is written or loaded
unfoldable pub asked_job : List (List ℕ) → Option Job
asked_job words =
    option_or (option_map Run (run_sizes words))
    (option_or (option_map Replay (replay_sizes words))
    (option_or (option_map Table (table_sizes words))
    (option_or (option_map Gen (generated_after (codes "gen") words)) (option_map Load (generated_after (codes "load") words)))))

-- a heap on which a script may be replayed: twice the pools that are kept free, and two more, at least
pub record AreReplaySizes (z : Sizes) : Type 0 where
  pub limits : first_outside z ≡ None
  pub pools : 2 * reserve z + 2 ≤ z.pools

-- a heap on which a text of a table may run: 32 pools beside those that are kept free and one for each class
pub record AreTableSizes (z : Sizes) : Type 0 where
  pub limits : first_outside z ≡ None
  pub pools : reserve z + z.classes + 32 ≤ z.pools

-- what is asked for is within its limits: those of a heap that has all its classes, or those of a script
abbrev pub IsWithinRange : Job → Type 0
IsWithinRange (Run z) = (first_outside z ≡ None) × (z.classes ≡ class_count)
IsWithinRange (Replay z) = AreReplaySizes z × (z.classes ≡ class_count)
IsWithinRange (Table z) = AreTableSizes z × (z.classes ≡ class_count)
IsWithinRange (Gen g) = IsGenerable g
IsWithinRange (Load g) = IsGenerable g

-- the sizes of the heap in which a generated script is run: its domains, and otherwise what words without options ask for
abbrev pub load_sizes : Generated → Sizes
load_sizes g = sizes_or 2 (record { domains = Some g.domains; minor = None; pools = None })
