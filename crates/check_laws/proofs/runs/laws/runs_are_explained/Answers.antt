use Rattle.check_laws.proofs.OfRuns.Explaining.{explained_replays, explained_runs, explained_sections, explained_spawning_runs, explained_tables, one_run}
use Rattle.check_laws.proofs.runs.laws.runs_are_explained.Goals as goal

pub returns-clause-one : goal.returns-clause-one
returns-clause-one c = one_run

pub returns-clause-runs : goal.returns-clause-runs
returns-clause-runs c = explained_runs

pub returns-clause-spawning : goal.returns-clause-spawning
returns-clause-spawning c = explained_spawning_runs

pub returns-clause-replays : goal.returns-clause-replays
returns-clause-replays c = explained_replays

pub returns-clause-tables : goal.returns-clause-tables
returns-clause-tables c = explained_tables

pub returns-clause-sections : goal.returns-clause-sections
returns-clause-sections c = explained_sections
