-- What a command on an ephemeron names.
use Rattle.std.specs.Prelude.{◌≡◌, ℕ, ◌<◌, Option}
use Rattle.model_core.specs.declared.command.Command.{Command}
use Rattle.model_core.specs.declared.command.Command.TheVariants.{SetKey, UnsetKey, GetKey, CheckKey, SetData, UnsetData, GetData, CheckData}
use Rattle.step_ephemerons.specs.Commands.Heads.{ephemeron_in, key_in}

-- the registers of the ephemeron and of the item are below 16
abbrev pub NamesRegisters : Command → Type 0
NamesRegisters (SetKey ephe i item) = (ephe < 16) × (item < 16)
NamesRegisters (UnsetKey ephe i) = ephe < 16
NamesRegisters (GetKey dst ephe i) = ephe < 16
NamesRegisters (CheckKey ephe i) = ephe < 16
NamesRegisters (SetData ephe item) = (ephe < 16) × (item < 16)
NamesRegisters (UnsetData ephe) = ephe < 16
NamesRegisters (GetData dst ephe) = ephe < 16
NamesRegisters (CheckData ephe) = ephe < 16
NamesRegisters _ = ⊥

-- the command looks into the ephemeron in this register, and at this key or at the datum
abbrev pub LooksInto : Command → ℕ → Option ℕ → Type 0
LooksInto c ephe key = (ephemeron_in c ≡ ephe) × (key_in c ≡ key) × NamesRegisters c
