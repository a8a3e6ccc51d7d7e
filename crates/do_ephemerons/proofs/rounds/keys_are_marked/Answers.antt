use Rattle.do_ephemerons.proofs.Keys.{keys_may}
use Rattle.do_ephemerons.proofs.rounds.keys_are_marked.Goals as goal

pub key_is_marked-requires-clause-darkening : goal.key_is_marked-requires-clause-darkening
key_is_marked-requires-clause-darkening c = (keys_may c.args.dom.now.view c.loop-i.dom.view c.args.at c.args.keys c.loop-i.i c.loop-i.invariant.view c.args.colours c.requires.darkening c.loop-i-test.true).0

pub key_is_marked-requires-clause-may : goal.key_is_marked-requires-clause-may
key_is_marked-requires-clause-may c = (keys_may c.args.dom.now.view c.loop-i.dom.view c.args.at c.args.keys c.loop-i.i c.loop-i.invariant.view c.args.colours c.requires.darkening c.loop-i-test.true).1
