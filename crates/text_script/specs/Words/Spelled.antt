-- The words as they are spelled: `run`, `replay` or `table` and options, each with its number, or `gen` or `load` and three numbers.
use Rattle.std.specs.Prelude.{◌≡◌, ℕ, ◌<◌, ◌^◌, Bool, List, [], ◌∷◌, ◌++◌, None, codes, decimal, flat_map, if◌then◌else◌}
use Rattle.model_core.specs.declared.state.Sizes.{Sizes}
use Rattle.model_core.specs.Domains.{first_outside}
use Rattle.text_script.specs.declared.words.options.Setting.{Setting}
use Rattle.text_script.specs.declared.words.options.Setting.TheVariants.{Domains, Minor, Pools}
use Rattle.text_script.specs.declared.words.options.Given.{Given}
use Rattle.text_script.specs.Words.Options.{given_at, with_number}
use Rattle.text_script.specs.declared.words.job.Job.{Job}
use Rattle.text_script.specs.declared.words.job.Job.TheVariants.{Run, Replay, Table, Gen, Load}
use Rattle.text_script.specs.declared.words.job.Generated.{Generated}
use Rattle.text_script.specs.Words.Jobs.{AreReplaySizes, AreTableSizes, IsGenerable}
use Rattle.text_script.specs.Words.RunWords.{sizes_or}

-- the name of an option
abbrev pub name_of : Setting → List ℕ
name_of Domains = codes "domains"
name_of Minor = codes "minor"
name_of Pools = codes "pools"

-- an option with its number, in one word or in two
pub record Choice : Type 0 where
  pub setting : Setting
  pub number : ℕ
  pub in_one : Bool

-- its words: `--name=number` (61 is `=`), or `--name` and the number
abbrev pub choice_words : Choice → List (List ℕ)
choice_words c =
    if c.in_one then (codes "--" ++ name_of c.setting ++ 61 ∷ decimal c.number) ∷ []
    else (codes "--" ++ name_of c.setting) ∷ decimal c.number ∷ []

-- with these options, none of them twice, the numbers given grow from the first to the second; each is below 2^32, as every limit is
abbrev pub Gives : Given → List Choice → Given → Type 0
Gives before [] after = before ≡ after
Gives before (c ∷ cs) after = (given_at before c.setting ≡ None) × (c.number < 2 ^ 32) × Gives (with_number before c.setting c.number) cs after

-- the words are this command and options, which give these numbers
pub record SpellsOptions (command : List ℕ) (words : List (List ℕ)) (given : Given) : Type 0 where
  pub choices : List Choice
  pub words_are : words ≡ command ∷ flat_map choice_words choices
  pub gives : Gives (record { domains = None; minor = None; pools = None }) choices given

-- the words are spelled so, and ask for these sizes, of which this holds; so many domains where no option says how many
pub record AsksForSizes (command : List ℕ) (domains : ℕ) (Fits : Sizes → Type 0) (words : List (List ℕ)) (z : Sizes) : Type 0 where
  pub given : Given
  pub spells : SpellsOptions command words given
  pub sizes : z ≡ sizes_or domains given
  pub limits : Fits z

-- the words are this command and the three numbers of a script that may be asked for
pub record AsksForScript (command : List ℕ) (words : List (List ℕ)) (g : Generated) : Type 0 where
  pub words_are : words ≡ command ∷ decimal g.base ∷ decimal g.domains ∷ decimal g.commands ∷ []
  pub limits : IsGenerable g

-- the words are spelled so, and ask for this
abbrev pub AsksFor : List (List ℕ) → Job → Type 0
AsksFor words (Run z) = AsksForSizes (codes "run") 2 (λ y. first_outside y ≡ None) words z
AsksFor words (Replay z) = AsksForSizes (codes "replay") 2 AreReplaySizes words z
AsksFor words (Table z) = AsksForSizes (codes "table") 1 AreTableSizes words z
AsksFor words (Gen g) = AsksForScript (codes "gen") words g
AsksFor words (Load g) = AsksForScript (codes "load") words g
