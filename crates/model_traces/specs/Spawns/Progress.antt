-- How far a section has come, between any two turns of its domain.
use Rattle.std.specs.Prelude.{◌≡◌, ℕ, Bool, true, false, cond, pos, List, [], ◌++◌, Option, None, Some}
use Rattle.model_core.specs.declared.command.Command as declared_command
use Rattle.model_core.specs.declared.command.Command.TheVariants.{Join}
use Rattle.model_traces.specs.Spawns.Expansion.{Step, Each, is_int, flag_load, IsStart, AreExpansions, IsSection}

-- before its start was seen, in the middle of its commands, and behind its end
pub data Place : Type 0 where
  Before : Place
  Within : Place
  Behind : Place

-- loads of a flag that didn't answer this integer
abbrev pub AreVain : ℕ → Bool → List Step → Type 0
AreVain section ends xs = Each (λ x. (x.command ≡ flag_load section) × (is_int (cond ends (pos 2) (pos 1)) x.answer ≡ false)) xs

-- what was made of a command that is next: of a join the loads by which it has waited, of others nothing
abbrev pub IsBegunCommand : Option declared_command.Command → List Step → Type 0
IsBegunCommand (Some (Join dst section)) xs = AreVain section true xs
IsBegunCommand _ xs = xs ≡ []

-- the section's start, its commands before the next one, and what was made of that
pub record IsWithin (d : ℕ) (spawned : Bool) (cs : List declared_command.Command) (next : Option declared_command.Command) (xs : List Step) : Type 0 where
  pub start : List Step
  pub middle : List Step
  pub begun : List Step
  pub are : xs ≡ start ++ (middle ++ begun)
  pub starts : cond spawned (IsStart d start) (start ≡ [])
  pub makes : AreExpansions d cs middle
  pub waits : IsBegunCommand next begun

-- the steps of section d so far, at a place, where these of its commands were made and this one is next
abbrev pub IsSoFar : ℕ → Bool → Place → List declared_command.Command → Option declared_command.Command → List Step → Type 0
IsSoFar d spawned Before cs next xs = (spawned ≡ true) × (cs ≡ []) × AreVain d false xs
IsSoFar d spawned Within cs next xs = IsWithin d spawned cs next xs
IsSoFar d spawned Behind cs next xs = (spawned ≡ true) × (next ≡ None) × IsSection d true cs xs
