use Rattle.do_alloc.proofs.pools.ephemerons.write_coloured.Given as goal

abbrev pub ghost-ephe_store : goal.ghost-ephe_store
ghost-ephe_store g a = g.entry
