use Rattle.std.proofs.Common.{◌≡◌}
use Rattle.std.specs.Prelude.{drop, max}
use Rattle.run_turns.specs.Runs.{ephemerons_in, registrations_in}
use Rattle.camlheap_run.specs.Running.{most_of}
use Rattle.camlheap_run.proofs.run.begin.most_needs.Given as goal

abbrev pub invariant-sections : goal.invariant-sections
invariant-sections l = record {
  ephemerons : max l.most.ephemerons (most_of ephemerons_in (drop l.i l.script.sections)) ≡ most_of ephemerons_in l.script.sections;
  registrations : max l.most.registrations (most_of registrations_in (drop l.i l.script.sections)) ≡ most_of registrations_in l.script.sections;
}
