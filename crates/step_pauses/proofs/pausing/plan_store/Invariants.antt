use Rattle.step_pauses.specs.Pauses.{LeadTold}
use Rattle.heap_rule.specs.Phases.{kind_at}
use Rattle.step_pauses.proofs.pausing.plan_store.Given as goal

abbrev pub ghosts-raw_store : goal.ghosts-raw_store
ghosts-raw_store a = record { tells = LeadTold a.heap.now.config (kind_at a.new) }
