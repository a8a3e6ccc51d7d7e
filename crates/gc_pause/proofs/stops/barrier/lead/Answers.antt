use Rattle.gc_pause.proofs.OfStops.Leading.{lead_may, led_to}
use Rattle.gc_pause.proofs.stops.barrier.lead.Goals as goal

pub plan_store-requires-clause-may : goal.plan_store-requires-clause-may
plan_store-requires-clause-may c = lead_may c.args.heap.now.config c.args.dom.now.view c.clear_for.new.dom.view c.word_of.result c.args.next c.requires.leads c.requires.odd c.requires.may.follows c.requires.may.may c.word_of.ensures c.requires.may.list c.requires.may.set_back c.clear_for.ensures.view

pub returns-clause-led : goal.returns-clause-led
returns-clause-led c = led_to c.args.heap.now.config c.args.dom.now.view c.clear_for.new.dom.view c.plan_store.new.dom.view c.word_of.result c.args.next c.word_of.ensures c.clear_for.ensures.view c.plan_store.ensures.told
