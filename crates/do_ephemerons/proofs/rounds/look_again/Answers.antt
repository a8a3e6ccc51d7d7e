use Rattle.std.proofs.Common.{sym}
use Rattle.do_ephemerons.proofs.Passes.{among}
use Rattle.do_ephemerons.proofs.rounds.look_again.Goals as goal

pub look_at-requires-clause-listed : goal.look_at-requires-clause-listed
look_at-requires-clause-listed c = among c.loop.dom.view.own.ephemerons.items _ c.ephemeron_at-at.result (sym c.ephemeron_at-at.ensures.item)
