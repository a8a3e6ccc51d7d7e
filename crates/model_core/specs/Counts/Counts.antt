-- How many labels and ephemerons a command gives out.
use Rattle.std.specs.Prelude.{ℕ, cond}
use Rattle.model_core.specs.declared.command.Command.{Command}
use Rattle.model_core.specs.declared.command.Command.TheVariants.{Ephe}
use Rattle.model_core.specs.declared.reply.Reply.{Reply}
use Rattle.model_core.specs.declared.reply.Reply.TheVariants.{Block}
use Rattle.model_core.specs.Commands.{is_allocation}

-- how many labels a command gives out at most
abbrev pub labels_of : Command → ℕ
labels_of c = cond (is_allocation c) 1 0

-- how many ephemerons it makes at most
abbrev pub ephemerons_of : Command → ℕ
ephemerons_of (Ephe dst keys) = 1
ephemerons_of _ = 0

-- how many blocks a reply shows
abbrev pub blocks_of : Reply → ℕ
blocks_of (Block l) = 1
blocks_of _ = 0

-- how many labels a command gave out: one where it is an allocation that wasn't answered `full`
abbrev pub labels_given : Command → Reply → ℕ
labels_given c r = cond (is_allocation c) (blocks_of r) 0

-- how many ephemerons it made: one where it is `ephe` and wasn't answered `full`
abbrev pub ephemerons_given : Command → Reply → ℕ
ephemerons_given (Ephe dst keys) r = blocks_of r
ephemerons_given _ r = 0
