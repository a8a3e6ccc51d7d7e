use Rattle.std.proofs.Common.{rules}
use Rattle.model_core.proofs.OfControls.Led.{led_whole}
use Rattle.gc_pause.proofs.OfPhases.Works.{decide_works}
use Rattle.gc_pause.proofs.phases.sharing.work.Goals as goal

pub returns-in-Decide-clause-works : goal.returns-in-Decide-clause-works
returns-in-Decide-clause-works c = search (rules, decide_works)

pub returns-in-Roots-clause-works : goal.returns-in-Roots-clause-works
returns-in-Roots-clause-works c = search (rules, led_whole)
