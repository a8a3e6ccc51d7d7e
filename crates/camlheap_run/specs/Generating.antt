-- What is written of a generated script.
use Rattle.std.specs.Prelude.{◌≡◌, ℕ, List, [], ◌++◌, flat_map, slice_index_or, Option, None}
use Rattle.std.specs.List.{range_with_len}
use Rattle.std.specs.Io.KnownBytes.{Appends}
use Rattle.model_core.specs.declared.command.Command.{Command}
use Rattle.model_core.specs.Output.{line}
use Rattle.heap_rule.specs.Ending.{EndedHeap}
use Rattle.text_script.specs.declared.version.Version.TheVariants.{One}
use Rattle.text_script.specs.Generated.{generated}
use Rattle.text_script.specs.Spelling.{command_text, heading_text, spelling}
use Rattle.text_script.specs.declared.words.job.Generated.{Generated}
use Rattle.text_ends.specs.Writing.{AppendsFront}

-- the lines of commands
abbrev pub commands_text : List Command → List ℕ
commands_text cs = flat_map (λ c. line (command_text c)) cs

-- section d of a script: its heading, and the lines of its commands
abbrev pub section_text : List (List Command) → ℕ → List ℕ
section_text script d = line (heading_text d) ++ commands_text (slice_index_or script d [])

-- the first n sections of a script
abbrev pub sections_text : List (List Command) → ℕ → List ℕ
sections_text script n = flat_map (section_text script) (range_with_len 0 n)

-- the script that these numbers generate
abbrev pub script_of : Generated → List (List Command)
script_of g = generated g.base g.domains g.commands

-- no heap was started, and the script was written
pub record WritesScript (g : Generated) (ended : Option EndedHeap) (before after : Option (List ℕ)) : Type 0 where
  pub no_heap : ended ≡ None
  pub written : Appends before after (spelling One (script_of g))

-- no heap was started, and a front part of the script was written
pub record WritesFrontOfScript (g : Generated) (ended : Option EndedHeap) (before after : Option (List ℕ)) : Type 0 where
  pub no_heap : ended ≡ None
  pub written : AppendsFront before after (spelling One (script_of g))
