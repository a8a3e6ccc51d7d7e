use Rattle.table_sections.specs.Preparing.{HasRunTask}
use Rattle.table_sections.specs.declared.running.Ran.{Ran}
use Rattle.table_sections.specs.declared.running.Task.{Task}
use Rattle.table_sections.proofs.Jobs.{jobs_all}
use Rattle.table_sections.proofs.running.run_all.Goals as goal

pub returns : goal.returns
returns g c = record { ran = jobs_all _ _ c.args.tasks c.map_vec.result c.map_vec.ensures.len c.map_vec.ensures.each (HasRunTask c.args.seats.now) (λ (t : Task) (r : Ran) call. call.met) }
