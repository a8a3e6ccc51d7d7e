-- The commands that a run of one domain makes of a script: in version 3 the hidden block is made first, and `argument` and `result` stand for a load and a store of it.
use Rattle.std.specs.Prelude.{cond, ◌==◌, List, [], ◌++◌, map}
use Rattle.model_core.specs.declared.command.Command as declared_command
use Rattle.model_core.specs.declared.command.Command.TheVariants.{Load, Store, Argument, PutResult}
use Rattle.model_core.specs.History.{commands}
use Rattle.text_script.specs.declared.version.Version.{Version}
use Rattle.text_script.specs.Forms.{version_number}
use Rattle.model_traces.specs.Spawns.Hidden.{hidden, argument_of, result_of, prelude}

-- the commands before the first section begins
abbrev pub front : List declared_command.Command
front = commands (prelude 1) 0

-- the command that a command of section 0 stands for
abbrev pub stands_for : declared_command.Command → declared_command.Command
stands_for (Argument dst) = Load dst hidden (argument_of 0)
stands_for (PutResult item) = Store hidden (result_of 0) item
stands_for c = c

-- the commands that are made of those of section 0, in a script of this version
abbrev pub made_of : Version → List declared_command.Command → List declared_command.Command
made_of version cs = cond (version_number version == 3) front [] ++ map stands_for cs
