-- The mode in which a command may come.
use Rattle.std.specs.Prelude.{Option, Some, None}
use Rattle.model_core.specs.declared.command.Command.{Command}
use Rattle.model_core.specs.declared.command.Command.TheVariants.{FullMajor, Spawn, Argument, PutResult, Join}
use Rattle.model_core.specs.declared.state.Mode.{Mode}
use Rattle.model_core.specs.declared.state.Mode.TheVariants.{Open, Answer}

-- the mode that a command needs. The four that stand for several others come in none
abbrev pub mode_for : Command → Option Mode
mode_for (Spawn section item) = None
mode_for (Argument dst) = None
mode_for (PutResult item) = None
mode_for (Join dst section) = None
mode_for FullMajor = Some Answer
mode_for _ = Some Open
