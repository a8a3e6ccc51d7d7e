use Rattle.do_ephemerons.proofs.Wipes.{keys_begin, next_known, next_may}
use Rattle.do_ephemerons.proofs.cleaning.clean_keys.Goals as goal

pub loop-i-init : goal.loop-i-init
loop-i-init c = record { here = c.requires.here; cleaned = keys_begin c.args.dom.now.view c.args.at c.args.keys c.requires.begins }

pub clean_key-emptied-requires-clause-may : goal.clean_key-emptied-requires-clause-may
clean_key-emptied-requires-clause-may c = next_may c.args.dom.now.view c.loop-i.dom.view c.args.at c.args.keys c.loop-i.i c.loop-i.emptied c.loop-i.invariant.cleaned c.loop-i-test.true

pub clean_key-emptied-requires-clause-known : goal.clean_key-emptied-requires-clause-known
clean_key-emptied-requires-clause-known c = next_known c.args.dom.now.view c.loop-i.dom.view c.args.at c.args.keys c.loop-i.i c.loop-i.emptied c.loop-i.invariant.cleaned c.args.colours c.requires.known
