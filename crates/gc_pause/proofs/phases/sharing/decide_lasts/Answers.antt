use Rattle.std.proofs.Common.{refl}
use Rattle.heap_rule.specs.declared.phase.Kind.TheVariants.{Lasts}
use Rattle.gc_pause.proofs.OfPhases.Works.{lasts_works}
use Rattle.gc_pause.proofs.phases.sharing.decide_lasts.Goals as goal

pub returns-clause-works : goal.returns-clause-works
returns-clause-works c = lasts_works c.args.heap.now.config Lasts c.args.dom.now.view c.requires.stage c.last.new.dom.view c.sweep_anew.new.dom.view refl c.last.ensures.decided c.sweep_anew.ensures.told
