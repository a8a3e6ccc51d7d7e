use Rattle.std.proofs.Common.{false, refl}
use Rattle.heap_rule.specs.declared.phase.Kind.TheVariants.{Answer}
use Rattle.gc_pause.proofs.OfPhases.Opens.{leads_list, answer_runs}
use Rattle.gc_pause.proofs.phases.opening.after_answer.Goals as goal

pub before_run-requires-clause-leader : goal.before_run-requires-clause-leader
before_run-requires-clause-leader c = leads_list c.args.dom.now.view Answer c.requires.first c.requires.odd ((λ e. cc), λ e. cc)

pub returns-clause-opens : goal.returns-clause-opens
returns-clause-opens c who =
    let x = c.args.dom.now.view in
    answer_runs c.args.heap.now.config who x x c.before_run.new.dom.view false c.before_run.result c.before_run.ensures.lists c.before_run.ensures.list refl refl
