use Rattle.do_ephemerons.proofs.Picks.{get_of}
use Rattle.do_ephemerons.proofs.looking.get_key.Given as goal

abbrev pub ghost-get : goal.ghost-get
ghost-get a = get_of a.dst a.ephe a.key
