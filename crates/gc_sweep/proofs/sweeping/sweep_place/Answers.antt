use Rattle.std.proofs.Common.{◌≡◌, true, false}
use Rattle.gc_sweep.proofs.Sweepings.{is_garbage, may_free, no_garbage, swept_clean, swept_dirty}
use Rattle.gc_sweep.proofs.sweeping.sweep_place.Goals as goal

pub free_store-requires-clause-may : goal.free_store-requires-clause-may
free_store-requires-clause-may c = may_free c.args.pool c.args.class c.args.slot c.args.dom.now.view c.requires.next c.args.garbage c.place_address-at.result c.sweep_load-word.result c.sweep_load-word.new.dom.view c.requires.sweeps c.place_address-at.ensures.value c.sweep_load-word.ensures.told (c.has_colour.ensures.0 c.if-has_colour.true)

pub returns-then-has_colour-clause-swept : goal.returns-then-has_colour-clause-swept
returns-then-has_colour-clause-swept c = swept_dirty c.args.pool c.args.class c.args.slot c.args.dom.now.view c.requires.next c.sweep_load-word.new.dom.view c.free_store.new.dom.view
    (is_garbage c.args.pool c.args.class c.args.slot c.args.dom.now.view c.requires.next c.args.garbage c.place_address-at.result c.sweep_load-word.result c.sweep_load-word.new.dom.view c.requires.sweeps c.place_address-at.ensures.value c.sweep_load-word.ensures.told (c.has_colour.ensures.0 c.if-has_colour.true)) c.free_store.ensures.told

pub returns-else-has_colour-clause-swept : goal.returns-else-has_colour-clause-swept
returns-else-has_colour-clause-swept c = swept_clean c.args.pool c.args.class c.args.slot c.args.dom.now.view c.requires.next c.sweep_load-word.new.dom.view
    (no_garbage c.args.pool c.args.class c.args.slot c.args.dom.now.view c.requires.next c.args.garbage c.place_address-at.result c.sweep_load-word.result c.sweep_load-word.new.dom.view c.requires.sweeps c.place_address-at.ensures.value c.sweep_load-word.ensures.told (λ dead. let clash : false ≡ true = c.if-has_colour.ensures.1 dead in cc))
