use Rattle.std.proofs.Common.{◌≡◌, ◌≤◌, take}
use Rattle.std.specs.Prelude.{count_by}
use Rattle.std.specs.List.{list_any}
use Rattle.model_core.specs.Commands.{is_allocation}
use Rattle.text_script.specs.Schedule.Text.Replayable.{is_major}
use Rattle.text_script.proofs.schedule.text.allowed.tally_of.Given as goal

-- what the commands so far have
abbrev pub invariant-commands : goal.invariant-commands
invariant-commands l = record {
  few : l.tally.blocks ≤ l.command-index;
  blocks : l.tally.blocks ≡ count_by is_allocation (take l.command-index l.section);
  major : l.tally.major ≡ list_any is_major (take l.command-index l.section);
}
