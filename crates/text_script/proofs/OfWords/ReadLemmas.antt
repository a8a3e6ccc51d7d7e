-- What a parse finds of words that are taken is what they ask for.
use Rattle.std.proofs.Common.{◌≡◌, ◌∙◌, ℕ, Bool, true, List, [], ◌∷◌, Option, Some, None, codes, refl, sym, ap, subst}
use Rattle.std.specs.Prelude.{option_and_then, option_map, bytes_eq, IsSome}
use Rattle.std.proofs.lemmas.Slice.Eq.{bytes_eq-Decides}
use Rattle.clap.specs.Walk.{Row, Text, rows_after}
use Rattle.clap.specs.Simple.{HasMatchesOf, subcommand_of, subcommand_rows_of}
use Rattle.clap.specs.Takes.{takes}
use Rattle.clap.specs.declared.parser.matches.ArgMatches.{ArgMatches}
use Rattle.model_core.specs.declared.state.Sizes.{Sizes}
use Rattle.text_script.specs.declared.words.job.Job.{Job}
use Rattle.text_script.specs.declared.words.job.Job.TheVariants.{Run, Replay, Table, Gen, Load}
use Rattle.text_script.specs.declared.words.job.Generated.{Generated}
use Rattle.text_script.specs.declared.words.options.Setting.TheVariants.{Domains, Minor, Pools}
use Rattle.text_script.specs.declared.words.options.Given.{Given}
use Rattle.text_script.specs.Words.Numbers.{option_number}
use Rattle.text_script.specs.Words.Options.{given_by, nothing_read}
use Rattle.text_script.specs.Words.Commands.{camlheap_app, given_in, job_at, script_in}
use Rattle.text_script.specs.Words.RunWords.{is_replay, is_run, is_table, sizes_after, sizes_or}
use Rattle.text_script.specs.Words.Jobs.{asked_job, script_if}
use Rattle.text_script.proofs.OfWords.WalkLemmas.{built_options, run_rules, finds, number_plain}
use Rattle.text_script.proofs.OfWords.TakesLemmas.{options_take}
use Rattle.text_script.proofs.OfWords.ScriptLemmas.{ArePlain, built_script, finds_three, script_rows, takes_three}
use Rattle.text_script.proofs.OfWords.CommandLemmas.{Enters, enters, enters_gen, enters_load, enters_replay, enters_run, enters_table, enters_takes}
use Rattle.text_script.proofs.OfWords.JobLemmas.{HasNumbers, Reads, asked_reads, chosen, gives_sizes, numbers_of}

-- what a parse of these words finds
abbrev found_of_words : List Text → Option Job
found_of_words words = option_and_then job_at (subcommand_of camlheap_app words)

-- the parse takes the words, and finds this
record Finds (words : List Text) (j : Job) : Type 0 where
  taken : takes camlheap_app words ≡ true
  job : found_of_words words ≡ Some j

-- ---- a command with options

same_given : (g h : Given) → g.domains ≡ h.domains → g.minor ≡ h.minor → g.pools ≡ h.pools → g ≡ h
same_given g h a b c = ap (λ x. record g { domains = x }) a ∙ ap (λ x. record g { domains = h.domains; minor = x }) b ∙ ap (λ x. record h { pools = x }) c

finds_given : (words : List Text) (g : Given) → given_by nothing_read words ≡ Some g → given_in (rows_after run_rules [] words) ≡ g
finds_given words g e = same_given (given_in (rows_after run_rules [] words)) g (finds words g e Domains) (finds words g e Minor) (finds words g e Pools)

-- a command of which a parse reads options, whatever it is asked for with the sizes that they give
options_find : (command : Text) (domains : ℕ) (with : Sizes → Job) (words : List Text) (g : Given) → Enters command (built_options command)
    → ((rows : List Row) → job_at (command, rows) ≡ Some (with (sizes_or domains (given_in rows)))) → given_by nothing_read words ≡ Some g → Finds (command ∷ words) (with (sizes_or domains g))
options_find command domains with words g at reads e = record {
  taken = enters_takes command (built_options command) words at (options_take command words g e);
  job = ap (option_and_then job_at) (enters command (built_options command) words at)
      ∙ (reads (rows_after run_rules [] words) ∙ ap (λ (x : Given). Some (with (sizes_or domains x))) (finds_given words g e));
}

sizes_find : (command : Text) (domains : ℕ) (test : Sizes → Bool) (with : Sizes → Job) (words : List Text) (z : Sizes) → Enters command (built_options command)
    → ((rows : List Row) → job_at (command, rows) ≡ Some (with (sizes_or domains (given_in rows)))) → sizes_after command domains test words ≡ Some z → Finds words (with z)
sizes_find command domains test with [] z at reads e = cc
sizes_find command domains test with (word ∷ words) z at reads e =
    let h = gives_sizes command domains test (word ∷ words) z e in
    let p = chosen (bytes_eq word command) (given_by nothing_read words) h.given h.reads in
    let is : word ≡ command = (bytes_eq-Decides word command).0 p.0 in
    subst (λ (y : Sizes). Finds (word ∷ words) (with y)) (sym h.sizes)
    (subst (λ (w : Text). Finds (w ∷ words) (with (sizes_or domains h.given))) (sym is) (options_find command domains with words h.given at reads p.1))

-- ---- a script

plain_numbers : {command : Text} {words : List Text} {g : Generated} (h : HasNumbers command words g) → ArePlain h.base h.domains h.commands
plain_numbers {g = g} h = record {
  first = number_plain h.base g.base h.base_is;
  second = number_plain h.domains g.domains h.domains_are;
  third = number_plain h.commands g.commands h.commands_are;
}

script_found : {command : Text} {words : List Text} {g : Generated} (h : HasNumbers command words g) → script_in (script_rows h.base h.domains h.commands) ≡ Some g
script_found {g = g} h =
    ap (λ (o : Option ℕ). script_if o (option_number h.domains) (option_number h.commands)) h.base_is
    ∙ (ap (λ (o : Option ℕ). script_if (Some g.base) o (option_number h.commands)) h.domains_are ∙ ap (λ (o : Option ℕ). script_if (Some g.base) (Some g.domains) o) h.commands_are)

-- a command of which a parse reads three numbers, whatever it is asked for with them
script_finds : (command : Text) (with : Generated → Job) (words : List Text) (g : Generated) → Enters command (built_script command)
    → ((rows : List Row) → job_at (command, rows) ≡ option_map with (script_in rows)) → HasNumbers command words g → Finds words (with g)
script_finds command with words g at reads h =
    let behind = h.base ∷ h.domains ∷ h.commands ∷ [] in
    let rows = finds_three command h.base h.domains h.commands (plain_numbers h) in
    subst (λ (ws : List Text). Finds ws (with g)) (sym h.words_are) (record {
      taken = enters_takes command (built_script command) behind at (takes_three command h.base h.domains h.commands (plain_numbers h));
      job = ap (option_and_then job_at) (enters command (built_script command) behind at)
          ∙ (ap (λ (rs : List Row). job_at (command, rs)) rows ∙ (reads (script_rows h.base h.domains h.commands) ∙ ap (option_map with) (script_found h)));
    })

-- ---- each command

reads_finds : (words : List Text) (j : Job) → Reads words j → Finds words j
reads_finds words (Run z) e = sizes_find (codes "run") 2 is_run Run words z enters_run (λ rows. refl) e
reads_finds words (Replay z) e = sizes_find (codes "replay") 2 is_replay Replay words z enters_replay (λ rows. refl) e
reads_finds words (Table z) e = sizes_find (codes "table") 1 is_table Table words z enters_table (λ rows. refl) e
reads_finds words (Gen g) e = script_finds (codes "gen") Gen words g enters_gen (λ rows. refl) (numbers_of (codes "gen") words g e)
reads_finds words (Load g) e = script_finds (codes "load") Load words g enters_load (λ rows. refl) (numbers_of (codes "load") words g e)

some_is : {A : Type 0} (o : Option A) → IsSome o → (x : A) × (o ≡ Some x)
some_is None h = cc
some_is (Some x) h = (x, refl)

-- what a parse of words that are taken finds is what they ask for
pub job_is : (words : List Text) (m : ArgMatches) → HasMatchesOf camlheap_app words m → IsSome (asked_job words) → option_and_then job_at (subcommand_rows_of m) ≡ asked_job words
job_is words m has some =
    let j = some_is (asked_job words) some in
    ap (option_and_then job_at) (has refl).1 ∙ ((reads_finds words j.0 (asked_reads words j.0 j.1)).job ∙ sym j.1)

-- words that are taken are taken by the parse
pub fits_takes : (words : List Text) → IsSome (asked_job words) → takes camlheap_app words ≡ true
fits_takes words some =
    let j = some_is (asked_job words) some in
    (reads_finds words j.0 (asked_reads words j.0 j.1)).taken
