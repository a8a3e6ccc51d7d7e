use Rattle.std.proofs.Common.{◌≡◌, ◌≤◌, ◌+◌}
use Rattle.std.specs.Prelude.{drop}
use Rattle.run_turns.specs.Runs.{ephemerons_in, registrations_in}
use Rattle.camlheap_run.proofs.run.begin.needs_of.Given as goal

abbrev pub invariant-commands : goal.invariant-commands
invariant-commands l = record {
  few_ephemerons : l.needs.ephemerons ≤ l.command-index;
  few_registrations : l.needs.registrations ≤ l.command-index;
  ephemerons : l.needs.ephemerons + ephemerons_in (drop l.command-index l.section) ≡ ephemerons_in l.section;
  registrations : l.needs.registrations + registrations_in (drop l.command-index l.section) ≡ registrations_in l.section;
}
