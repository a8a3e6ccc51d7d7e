-- When a command is taken, and why it isn't.
use Rattle.std.specs.Prelude.{ℕ, ◌≤◌, ◌<◌, Option, Some, None}
use Rattle.model_core.specs.declared.command.Command.{Command}
use Rattle.model_core.specs.Counts.Counts.{ephemerons_of, labels_of}
use Rattle.run_turns.specs.Tries.{FitsHeap, registrations_of}
use Rattle.run_turns.specs.declared.singly.refusing.Refusal.{Refusal}
use Rattle.run_turns.specs.declared.singly.refusing.Refusal.TheVariants.{Shape, NoEphemeron, NoFinaliser, NoLabel}

-- a command is taken where there are room for so many ephemerons and finalisers, and so many labels: it fits, and there is what it takes of each
pub record Takes (ephes finals left : ℕ) (c : Command) : Type 0 where
  pub fits : FitsHeap c
  pub room : ephemerons_of c ≤ ephes
  pub enlists : registrations_of c ≤ finals
  pub labels : labels_of c ≤ left

-- the first that is missing
abbrev pub IsRefused : ℕ → ℕ → ℕ → Command → Option Refusal → Type 0
IsRefused ephes finals labels c (Some Shape) = FitsHeap c → ⊥
IsRefused ephes finals labels c (Some NoEphemeron) = FitsHeap c × (ephes < ephemerons_of c)
IsRefused ephes finals labels c (Some NoFinaliser) = FitsHeap c × (ephemerons_of c ≤ ephes) × (finals < registrations_of c)
IsRefused ephes finals labels c (Some NoLabel) = FitsHeap c × (ephemerons_of c ≤ ephes) × (registrations_of c ≤ finals) × (labels < labels_of c)
IsRefused ephes finals labels c None = Takes ephes finals labels c
