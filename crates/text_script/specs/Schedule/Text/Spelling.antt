-- The grammar of schedules, by what a schedule prints as. It has one spelling, and other bytes may stand behind it.
use Rattle.std.specs.Prelude.{◌≡◌, ℕ, ◌≤◌, true, List, ◌∷◌, ◌++◌, map, length, flat_map, codes, decimal, Result, Ok, Err}
use Rattle.std.specs.List.{list_all}
use Rattle.model_core.specs.Output.{line}
use Rattle.model_traces.specs.declared.schedules.items.Item.{Item}
use Rattle.model_traces.specs.declared.schedules.items.Item.TheVariants.{Turn, Collect}
use Rattle.text_script.specs.Schedule.Drive.Following.{is_for}
use Rattle.text_script.specs.declared.schedule.text.fault.ScheduleFault.{ScheduleFault}
use Rattle.text_script.specs.declared.schedule.text.fault.ScheduleFault.TheVariants.{Memory}

-- an item as text
abbrev pub item_text : Item → List ℕ
item_text (Turn d) = codes "turn " ++ decimal d
item_text Collect = codes "collect"

-- the lines before the last
abbrev pub front_lines : List Item → List (List ℕ)
front_lines items = codes "schedule 1" ∷ map item_text items

-- what the lines before the last print as
abbrev pub front_text : List Item → List ℕ
front_text items = flat_map line (front_lines items)

-- what a schedule with these items prints as
abbrev pub spelling : List Item → List ℕ
spelling items = front_text items ++ line (codes "end")

-- the bytes up to this place spell these items, for a run with so many domains
pub record Spells (domains : ℕ) (items : List Item) (place : ℕ) (bytes : List ℕ) : Type 0 where
  pub few : length items ≤ 200000
  pub for_domains : list_all (is_for domains) items ≡ true
  pub rest : List ℕ
  pub bytes_are : bytes ≡ spelling items ++ rest
  pub place_is : place ≡ length (spelling items)

-- the answer is this one, unless memory ran out
abbrev pub IsUnlessMemory : {A : Type 0} → Result A ScheduleFault → Result A ScheduleFault → Type 0
IsUnlessMemory (Err Memory) answer = Unit {0}
IsUnlessMemory given answer = given ≡ answer

-- what is spelled so is read, unless memory runs out
abbrev pub ReadsSpelled : ℕ → List ℕ → Result (List Item × ℕ) ScheduleFault → Type 0
ReadsSpelled domains bytes result = (items : List Item) (place : ℕ) → Spells domains items place bytes → IsUnlessMemory result (Ok (items, place))
