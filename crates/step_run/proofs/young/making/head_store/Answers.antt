use Rattle.step_run.proofs.OfYoung.Plain.{alloc_closes}
use Rattle.step_run.proofs.OfYoung.MakeSteps.{alloc_may, alloc_fits, alloc_facts}
use Rattle.step_run.proofs.young.making.head_store.Goals as goal

pub raw_store-requires-clause-may : goal.raw_store-requires-clause-may
raw_store-requires-clause-may g c = alloc_may c.args.heap.now.config c.index_of-index.result c.args.dom.now.view c.args.at c.args.new g.entry c.args.changes.now c.index_of-index.ensures c.requires.1.1.1

pub raw_store-requires-clause-closes : goal.raw_store-requires-clause-closes
raw_store-requires-clause-closes g c =
    let f = alloc_facts c.args.heap.now.config c.args.dom.now.view c.args.at c.args.new c.args.changes.now g.entry c.requires.1.1.1 in
    let fits = alloc_fits c.args.heap.now.config c.args.dom.now.view c.args.at c.args.new c.args.changes.now g.entry c.requires.1.1.1 in
    alloc_closes c.args.heap.now.config c.args.dom.now.view c.args.new c.args.words g.entry c.args.changes.now fits c.requires.1.1.0 f.room c.config-limits.ensures.limits.minor_words f.serial
