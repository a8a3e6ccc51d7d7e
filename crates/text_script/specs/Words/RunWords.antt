-- The words of a command with options: `run`, `replay` or `table`.
use Rattle.std.specs.Prelude.{ℕ, ◌+◌, ◌*◌, ◌&&◌, Bool, nat_le, List, [], ◌∷◌, Option, Some, None, is_none, option_and_then, unwrap_or, codes, bytes_eq, if◌then◌else◌}
use Rattle.model_core.specs.declared.state.Sizes.{Sizes}
use Rattle.model_core.specs.Domains.{sizes_of, class_count, first_outside, reserve}
use Rattle.text_script.specs.declared.words.options.Given.{Given}
use Rattle.text_script.specs.Words.Options.{given_by, nothing_read}

-- the numbers that the words give behind this command
abbrev pub given_after : List ℕ → List (List ℕ) → Option Given
given_after command [] = None
given_after command (word ∷ words) = if bytes_eq word command then given_by nothing_read words else None

-- the sizes of a heap: so many domains where the words don't say how many; what else isn't given is 32768 minor words and 512 pools
abbrev pub sizes_or : ℕ → Given → Sizes
sizes_or domains g = sizes_of (unwrap_or g.domains domains) (unwrap_or g.pools 512) (unwrap_or g.minor 32768) class_count

-- a run may have sizes that are within the limits of a heap
abbrev pub is_run : Sizes → Bool
is_run z = is_none (first_outside z)

-- a replay may have those with twice the pools that are kept free, and two more, at least
abbrev pub is_replay : Sizes → Bool
is_replay z = is_none (first_outside z) && nat_le (2 * reserve z + 2) z.pools

-- a text of a table may have those with 32 pools beside those that are kept free and one for each class
abbrev pub is_table : Sizes → Bool
is_table z = is_none (first_outside z) && nat_le (reserve z + z.classes + 32) z.pools

abbrev pub if_sizes : (Sizes → Bool) → Sizes → Option Sizes
if_sizes test z = if test z then Some z else None

-- the sizes that the words ask for: this command, and options behind it that give sizes which pass a test
abbrev pub sizes_after : List ℕ → ℕ → (Sizes → Bool) → List (List ℕ) → Option Sizes
sizes_after command domains test words = option_and_then (λ g. if_sizes test (sizes_or domains g)) (given_after command words)

-- the sizes that the words of a run ask for, where the words are taken: without the option it has 2 domains
abbrev pub run_sizes : List (List ℕ) → Option Sizes
run_sizes words = sizes_after (codes "run") 2 is_run words

-- the sizes that the words of a replay ask for, where the words are taken
abbrev pub replay_sizes : List (List ℕ) → Option Sizes
replay_sizes words = sizes_after (codes "replay") 2 is_replay words

-- the sizes that the words of a table ask for, where the words are taken: without the option it has 1 domain
abbrev pub table_sizes : List (List ℕ) → Option Sizes
table_sizes words = sizes_after (codes "table") 1 is_table words
