-- The first line of a text that isn't as a schedule has it.
use Rattle.std.specs.Prelude.{◌≡◌, ℕ, ◌+◌, nat_lt, List, [], ◌∷◌, codes, bytes_eq, Option, None, Some, ◌==◌, if◌then◌else◌}
use Rattle.std.specs.List.{slice_split}
use Rattle.text_script.specs.Decimals.Natural.{natural}
use Rattle.text_script.specs.Split.{split_at_mark}
use Rattle.model_traces.specs.declared.schedules.items.Item.{Item}
use Rattle.model_traces.specs.declared.schedules.items.Item.TheVariants.{Turn, Collect}
use Rattle.text_script.specs.declared.schedule.text.fault.ScheduleFault.{ScheduleFault}
use Rattle.text_script.specs.declared.schedule.text.fault.ScheduleFault.TheVariants.{Line, Memory}

-- the turn of a domain with this number, if there is one
abbrev pub turn_in : ℕ → Option ℕ → Option Item
turn_in domains None = None
turn_in domains (Some d) = if nat_lt d domains then Some (Turn d) else None

-- what stands before the first space of a line and behind it, as a turn
abbrev pub turn_of : ℕ → Option (List ℕ × List ℕ) → Option Item
turn_of domains None = None
turn_of domains (Some p) = if bytes_eq p.0 (codes "turn") then turn_in domains (natural p.1) else None

-- the item that a line says
abbrev pub item_of : ℕ → List ℕ → Option Item
item_of domains text = if bytes_eq text (codes "collect") then Some Collect else turn_of domains (split_at_mark 32 text)

-- the line that has this number, if it says no item
abbrev pub or_wrong : ℕ → Option Item → Option ℕ → Option ℕ
or_wrong number None later = Some number
or_wrong number (Some i) later = later

-- the number of the first wrong one of these lines, the last of which has no line feed, where so many items stand before them. Those behind the line `end` don't count
abbrev pub wrong_from : ℕ → ℕ → List (List ℕ) → Option ℕ
wrong_from domains count [] = None
wrong_from domains count (rest ∷ []) = Some (count + 2)
wrong_from domains count (text ∷ next ∷ more) =
    if bytes_eq text (codes "end") then None
    else or_wrong (count + 2) (if nat_lt count 200000 then item_of domains text else None) (wrong_from domains (count + 1) (next ∷ more))

-- and the first line among them
abbrev pub wrong_in : ℕ → List (List ℕ) → Option ℕ
wrong_in domains [] = Some 1
wrong_in domains (rest ∷ []) = Some 1
wrong_in domains (text ∷ next ∷ more) = if bytes_eq text (codes "schedule 1") then wrong_from domains 0 (next ∷ more) else Some 1

-- the number of the first wrong line of a text
abbrev pub first_wrong : ℕ → List ℕ → Option ℕ
first_wrong domains bytes = wrong_in domains (slice_split (λ b. b == 10) bytes)

-- the fault is the first one, unless memory ran out
abbrev pub IsFaultUnlessMemory : ScheduleFault → Option ℕ → Type 0
IsFaultUnlessMemory Memory first = Unit {0}
IsFaultUnlessMemory (Line k) first = first ≡ Some k
