-- The options of `run`, `replay` and `table`, and what a list of words gives.
use Rattle.std.specs.Prelude.{ℕ, List, [], ◌∷◌, Option, Some, None, is_some, option_map, option_and_then, codes, bytes_eq, if◌then◌else◌}
use Rattle.clap.specs.Lexer.{long_of}
use Rattle.text_script.specs.declared.words.options.Setting.{Setting}
use Rattle.text_script.specs.declared.words.options.Setting.TheVariants.{Domains, Minor, Pools}
use Rattle.text_script.specs.declared.words.options.Given.{Given}
use Rattle.text_script.specs.declared.words.options.Read.{Read}
use Rattle.text_script.specs.Words.Numbers.{option_number}

-- the option with a name
abbrev pub setting_named : List ℕ → Option Setting
setting_named name =
    if bytes_eq name (codes "domains") then Some Domains
    else (if bytes_eq name (codes "minor") then Some Minor
    else (if bytes_eq name (codes "pools") then Some Pools else None))

-- the number that an option was given
abbrev pub given_at : Given → Setting → Option ℕ
given_at g Domains = g.domains
given_at g Minor = g.minor
given_at g Pools = g.pools

abbrev pub with_number : Given → Setting → ℕ → Given
with_number g Domains n = record g { domains = Some n }
with_number g Minor n = record g { minor = Some n }
with_number g Pools n = record g { pools = Some n }

-- nothing is given and no option waits
abbrev pub nothing_read : Read
nothing_read = record { given = record { domains = None; minor = None; pools = None }; waiting = None }

-- the option has its number: nothing waits any more
abbrev pub settled : Read → Setting → ℕ → Read
settled r s n = record { given = with_number r.given s n; waiting = None }

-- a text is an option's number
abbrev pub with_text : Read → Setting → List ℕ → Option Read
with_text r s text = option_map (settled r s) (option_number text)

-- an option's name, with the text behind its `=` if there is one; each option is given once
abbrev pub with_name : Read → Option (List ℕ) → Setting → Option Read
with_name r (Some text) s = if is_some (given_at r.given s) then None else with_text r s text
with_name r None s = if is_some (given_at r.given s) then None else Some (record r { waiting = Some s })

abbrev pub with_option : Read → List ℕ × Option (List ℕ) → Option Read
with_option r p = option_and_then (with_name r p.1) (setting_named p.0)

-- one more word: the number that an option waits for, `--name`, or `--name=number`
abbrev pub with_word_at : Read → Option Setting → List ℕ → Option Read
with_word_at r (Some s) word = with_text r s word
with_word_at r None word = option_and_then (with_option r) (long_of word)

abbrev pub with_word : Read → List ℕ → Option Read
with_word r word = with_word_at r r.waiting word

-- the numbers that the words give, where they are taken and no option waits at their end
abbrev pub given_if_idle : Given → Option Setting → Option Given
given_if_idle g None = Some g
given_if_idle g (Some s) = None

abbrev pub given_by : Read → List (List ℕ) → Option Given
given_by r [] = given_if_idle r.given r.waiting
given_by r (word ∷ words) = option_and_then (λ next. given_by next words) (with_word r word)
