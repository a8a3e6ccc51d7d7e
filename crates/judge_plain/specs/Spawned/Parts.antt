-- Steps that stand in front of others.
use Rattle.std.specs.Prelude.{◌≡◌, ℕ, ℤ, Bool, true, false, List, [], ◌++◌}
use Rattle.model_traces.specs.Spawns.Expansion.{Each, Step, flag_load, is_int}

-- steps of which this holds stand in front of the rest
pub record BeginsWith (Holds : List Step → Type 0) (steps rest : List Step) : Type 0 where
  pub front : List Step
  pub holds : Holds front
  pub are : steps ≡ front ++ rest

-- this holds of the steps if the flag is set, and there are none if it isn't
abbrev pub StandsIf : Bool → (List Step → Type 0) → List Step → Type 0
StandsIf true Holds steps = Holds steps
StandsIf false Holds steps = steps ≡ []

-- loads of a section's flag that don't answer the integer for which it waits
abbrev pub IsEarly : ℕ → ℤ → List Step → Type 0
IsEarly section until steps = Each (λ x. (x.command ≡ flag_load section) × (is_int until x.answer ≡ false)) steps
