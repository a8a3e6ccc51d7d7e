use Rattle.do_ephemerons.proofs.Picks.{change_of}
use Rattle.do_ephemerons.proofs.changing.set_data.Given as goal

abbrev pub ghost-put : goal.ghost-put
ghost-put a = change_of a.ephe a.key a.item
