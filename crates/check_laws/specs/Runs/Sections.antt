-- What the sections of a run of a script of version 3 rely on holds of each such run that ended well.
use Rattle.std.specs.Prelude.{◌≡◌, ◌<◌, ℕ, List, Option}
use Rattle.std.specs.Io.KnownBytes.{Appends}
use Rattle.model_core.specs.declared.command.Command.{Command}
use Rattle.model_core.specs.declared.entry.Entry.{Entry}
use Rattle.model_core.specs.declared.state.Sizes.{Sizes}
use Rattle.model_core.specs.Domains.{IsWithinLimits, opening}
use Rattle.model_core.specs.History.{state_after}
use Rattle.heap_rule.specs.Ending.{EndedHeap}
use Rattle.text_script.specs.declared.version.Version.TheVariants.{Three}
use Rattle.model_traces.specs.Spawns.Expansion.{IsScriptRun, section_at, steps_from}
use Rattle.model_traces.specs.Spawns.Hidden.{prelude}
use Rattle.model_traces.specs.Spawns.Printed.{printed_of, spawning_output}
use Rattle.check_laws.specs.Sections.Orders.{IsOrderly}
use Rattle.check_laws.specs.Sections.Passed.{AnswersArgument, HasSpawn, passed_value}
use Rattle.check_laws.specs.Sections.Printing.{MayPrintEach}
use Rattle.camlheap_run.specs.Outcome.{RunsToEnd}

-- a run in which each `argument` answers what the spawn passed, and each section prints what its commands may
pub record KeepsItsSections (z : Sizes) (script : List (List Command)) (h : List Entry) : Type 0 where
  pub run : IsScriptRun z script h
  pub orderly : IsOrderly z.domains script
  pub passed : (section parent item : ℕ) → section < z.domains → parent < z.domains → (spawn : HasSpawn section item (steps_from (state_after (opening z) (prelude z.domains)) run.behind parent))
      → AnswersArgument z section run.behind (passed_value spawn.spawn.first.held item)
  pub prints : (d : ℕ) → d < z.domains → MayPrintEach (section_at script d) (printed_of d (steps_from (state_after (opening z) (prelude z.domains)) run.behind d))

-- what was written is the text of such a run
abbrev pub SpawningRunsKeep : Type 0
SpawningRunsKeep = (z : Sizes) (ended : Option EndedHeap) (left_before left_after before after : Option (List ℕ)) → IsWithinLimits z → (x : RunsToEnd z ended left_before left_after before after) → x.script.version ≡ Three
    → (h : List Entry) × KeepsItsSections z x.script.sections h × Appends before after (spawning_output z h)
