use Rattle.do_ephemerons.proofs.Keys.{head_passed}
use Rattle.do_ephemerons.proofs.rounds.look_at.Goals as goal

pub returns-in_default-clause-through : goal.returns-in_default-clause-through
returns-in_default-clause-through c = head_passed c.args.heap.now.config c.args.dom.now.view c.ephemeron_load-word.new.dom.view c.args.at c.ephemeron_load-word.result c.args.colours c.requires.darkening c.ephemeron_load-word.ensures.told c.requires.idle c.in_default.ensures
