use Rattle.std.proofs.Common.{sym, ◌∙◌, arith}
use Rattle.gc_copy.proofs.Preparing.{place_inside, took_place, prepare_may, prepared_now}
use Rattle.gc_copy.proofs.claiming.prepare.Goals as goal

pub prepare_store-requires-clause-inside : goal.prepare_store-requires-clause-inside
prepare_store-requires-clause-inside c = let k = c.args.heap.now.config in
    place_inside k c.args.class c.take_for_copy-at.result c.requires.class (took_place k c.args.class c.take_for_copy-at.result c.args.dom.now.view c.take_for_copy-at.new.dom.view c.requires.class c.requires.works c.take_for_copy-at.ensures.took.took c.take_for_copy-at.ensures.took.free)

pub prepare_store-requires-clause-may : goal.prepare_store-requires-clause-may
prepare_store-requires-clause-may c = let t = c.take_for_copy-at.ensures.took.took in
    prepare_may c.args.heap.now.config c.args.class c.take_for_copy-at.result c.args.dom.now.view c.take_for_copy-at.new.dom.view c.requires.class c.requires.works t c.take_for_copy-at.ensures.took.free c.spot_in-spot.result 1 (λ e. omega arith)
    (sym c.prepared.ensures.place ∙ c.in_default.is) (c.spot_in-spot.ensures t.pool t.slot t.below t.address)

pub returns-clause-prepared : goal.returns-clause-prepared
returns-clause-prepared c =
    prepared_now c.args.heap.now.config c.args.class c.take_for_copy-at.result c.args.dom.now.view c.take_for_copy-at.new.dom.view c.requires.class c.requires.works c.take_for_copy-at.ensures.took.took c.take_for_copy-at.ensures.took.free 1 c.prepare_store.new.dom.view c.prepared.ensures.wide c.prepare_store.ensures.told
