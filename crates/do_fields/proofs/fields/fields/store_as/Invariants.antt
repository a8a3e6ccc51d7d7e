use Rattle.step_run.specs.Fields.Loads.{subject}
use Rattle.do_fields.proofs.fields.fields.store_as.Given as goal

abbrev pub ghost-tick : goal.ghost-tick
ghost-tick g a = g.entry

abbrev pub ghost-head_load : goal.ghost-head_load
ghost-head_load g a = g.entry

abbrev pub ghost-field_store : goal.ghost-field_store
ghost-field_store g a = g.entry

abbrev pub ghost-overwrite_barrier : goal.ghost-overwrite_barrier
ghost-overwrite_barrier g a = subject g.entry
