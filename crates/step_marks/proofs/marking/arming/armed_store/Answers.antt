use Rattle.step_marks.proofs.OfMarking.ArmingSteps.{arm_may, knows_stored}
use Rattle.step_marks.proofs.OfMarking.Plain.{armed_closes}
use Rattle.std.proofs.Common.{◌≡◌, ℕ, sym, subst}
use Rattle.heap_rule.specs.Phases.{flag}
use Rattle.heap_rule.specs.Raw.{MayStore}
use Rattle.step_marks.specs.Marking.Arming.{ArmedTold}
use Rattle.step_marks.proofs.marking.arming.armed_store.Goals as goal

pub raw_store-requires-clause-may : goal.raw_store-requires-clause-may
raw_store-requires-clause-may c =
    let word : c.from.result ≡ flag c.args.armed = c.from.ensures in
    subst (λ (n : ℕ). MayStore c.args.heap.now.config c.args.dom.now.view 4 n ArmedTold) (sym word) (arm_may c.args.heap.now.config c.args.dom.now.view c.args.armed c.requires.may)

pub raw_store-requires-clause-closes : goal.raw_store-requires-clause-closes
raw_store-requires-clause-closes c = armed_closes c.args.heap.now.config c.args.dom.now.view c.from.result

pub returns-clause-told : goal.returns-clause-told
returns-clause-told c =
    let word : c.from.result ≡ flag c.args.armed = c.from.ensures in
    knows_stored c.args.dom.now.view c.raw_store.new.dom.view c.args.armed (subst (λ (n : ℕ). ArmedTold c.args.dom.now.view n c.raw_store.new.dom.view) word c.raw_store.ensures.told)
