-- The commands as `clap` parses the words, and what is read of a parse.
use Rattle.std.specs.Prelude.{ℕ, true, List, Option, Some, None, option_map, option_and_then, codes, bytes_eq, if◌then◌else◌}
use Rattle.clap.specs.Words.{App, Row, Rule, Text, first_of, new_app, new_rule, with_rule, with_subcommand}
use Rattle.text_script.specs.declared.words.job.Job.{Job}
use Rattle.text_script.specs.declared.words.job.Job.TheVariants.{Run, Replay, Table, Gen, Load}
use Rattle.text_script.specs.declared.words.job.Generated.{Generated}
use Rattle.text_script.specs.declared.words.options.Given.{Given}
use Rattle.text_script.specs.Words.Numbers.{option_number}
use Rattle.text_script.specs.Words.RunWords.{sizes_or}
use Rattle.text_script.specs.Words.Jobs.{script_if}

-- an option with a long name
abbrev pub option_rule : Text → Rule
option_rule name = record (new_rule name) { long = Some name }

-- a number that stands at its place
abbrev pub number_rule : Text → Rule
number_rule name = record (new_rule name) { required = true }

-- a command with the options of `run`
abbrev pub options_app : Text → App
options_app name = with_rule (with_rule (with_rule (new_app name) (option_rule (codes "domains"))) (option_rule (codes "minor"))) (option_rule (codes "pools"))

-- a command with the three numbers of a script
abbrev pub script_app : Text → App
script_app name = with_rule (with_rule (with_rule (new_app name) (number_rule (codes "base"))) (number_rule (codes "domains"))) (number_rule (codes "commands"))

-- the words hold no name of the program, name a command, and ask for no help
abbrev pub plain_app : App → App
plain_app a = record a { top = record a.top { no_binary_name = true; disable_help_flag = true; disable_help_subcommand = true; subcommand_required = true } }

abbrev pub camlheap_app : App
camlheap_app =
    with_subcommand (with_subcommand (with_subcommand (with_subcommand (with_subcommand (plain_app (new_app (codes "camlheap"))) (options_app (codes "run")).top) (options_app (codes "replay")).top)
    (options_app (codes "table")).top) (script_app (codes "gen")).top) (script_app (codes "load")).top

-- the number that a parse found under a name
abbrev pub number_in : List Row → Text → Option ℕ
number_in rows name = option_and_then option_number (first_of name rows)

abbrev pub given_in : List Row → Given
given_in rows = record { domains = number_in rows (codes "domains"); minor = number_in rows (codes "minor"); pools = number_in rows (codes "pools") }

abbrev pub script_in : List Row → Option Generated
script_in rows = script_if (number_in rows (codes "base")) (number_in rows (codes "domains")) (number_in rows (codes "commands"))

-- what a parse that entered this command found
abbrev pub job_at : Text × List Row → Option Job
job_at entered =
    if bytes_eq entered.0 (codes "run") then Some (Run (sizes_or 2 (given_in entered.1)))
    else (if bytes_eq entered.0 (codes "replay") then Some (Replay (sizes_or 2 (given_in entered.1)))
    else (if bytes_eq entered.0 (codes "table") then Some (Table (sizes_or 1 (given_in entered.1)))
    else (if bytes_eq entered.0 (codes "gen") then option_map Gen (script_in entered.1)
    else (if bytes_eq entered.0 (codes "load") then option_map Load (script_in entered.1) else None))))
