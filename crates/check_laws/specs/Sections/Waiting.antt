-- That sections never wait for one another in a circle: how far each has come, and which one it waits for.
use Rattle.std.specs.Prelude.{◌≡◌, ◌≢◌, ◌⊎◌, ℕ, ◌<◌, IsTrue, List, [], ◌∷◌, ◌++◌}
use Rattle.std.specs.List.{list_any}
use Rattle.model_core.specs.declared.command.Command.{Command}
use Rattle.model_core.specs.declared.command.Command.TheVariants.{Join}
use Rattle.model_traces.specs.Spawns.Expansion.{is_spawn_of, is_spawned, section_at}
use Rattle.model_traces.specs.Spawns.Progress.{Place, Before, Within, Behind}
use Rattle.check_laws.specs.Sections.Orders.{IsOrderly}

-- how far a section has come: before its start was seen, in its commands or behind its end, with the commands that it has made and those that are left
pub record Standing : Type 0 where
  pub place : Place
  pub made : List Command
  pub left : List Command

-- how far the sections of a script may have come: none is behind its start without the spawn that names it
pub record AreStandings (domains : ℕ) (script : List (List Command)) (at : ℕ → Standing) : Type 0 where
  pub commands : (d : ℕ) → d < domains → section_at script d ≡ (at d).made ++ (at d).left
  pub early : (d : ℕ) → d < domains → (at d).place ≡ Before → IsTrue (is_spawned script d)
  pub begun : (d : ℕ) → d < domains → (at d).place ≢ Before → IsTrue (is_spawned script d) → (p : ℕ) × (p < domains) × IsTrue (list_any (is_spawn_of d) (at p).made)
  pub ended : (d : ℕ) → d < domains → (at d).place ≡ Behind → (at d).left ≡ []

-- section d waits for section t: before its start for one whose spawn of d is left, and at a join for the end of the one that it names
abbrev pub WaitsFor : (ℕ → Standing) → ℕ → ℕ → Type 0
WaitsFor at d t =
    (((at d).place ≡ Before) × IsTrue (list_any (is_spawn_of d) (at t).left))
    ⊎ (((at d).place ≡ Within) × (dst : ℕ) × (rest : List Command) × ((at d).left ≡ Join dst t ∷ rest) × ((at t).place ≢ Behind))

-- a section that hasn't ended and waits for none
pub record CanGoOn (domains : ℕ) (at : ℕ → Standing) (d : ℕ) : Type 0 where
  pub within : d < domains
  pub unended : (at d).place ≢ Behind
  pub free : (t : ℕ) → t < domains → WaitsFor at d t → ⊥

-- who waits for one leads to where that one leads
pub data LeadsTo (at : ℕ → Standing) : ℕ → ℕ → Type 0 where
  Here : (d : ℕ) → LeadsTo at d d
  By : (d t e : ℕ) → WaitsFor at d t → LeadsTo at t e → LeadsTo at d e

-- each section that hasn't ended goes on, or waits, perhaps over others that wait, for one that goes on
abbrev pub SomeGoesOn : Type 0
SomeGoesOn = (domains : ℕ) (script : List (List Command)) (at : ℕ → Standing) → IsOrderly domains script → AreStandings domains script at
    → (d : ℕ) → d < domains → (at d).place ≢ Behind → (e : ℕ) × LeadsTo at d e × CanGoOn domains at e
