use Rattle.std.proofs.Common.{◌≡◌, take, min, ◌-◌, ◌^◌}
use Rattle.text_script.specs.Schedule.Text.Replayable.{allocations, has_major}
use Rattle.text_script.proofs.schedule.text.allowed.tally_all.Given as goal

-- what the sections so far have
abbrev pub invariant-sections : goal.invariant-sections
invariant-sections l = record {
  blocks : l.all.blocks ≡ min (allocations (take l.i l.script.sections)) (2 ^ 64 - 1);
  major : l.all.major ≡ has_major (take l.i l.script.sections);
}
