use Rattle.do_alloc.proofs.pools.ephemerons.write_ephemeron.Given as goal

abbrev pub ghost-write_coloured : goal.ghost-write_coloured
ghost-write_coloured g a = g.entry
