use Rattle.do_ephemerons.proofs.Picks.{check_of}
use Rattle.do_ephemerons.proofs.looking.check_key.Given as goal

abbrev pub ghost-check : goal.ghost-check
ghost-check a = check_of a.ephe a.key
