use Rattle.do_alloc.proofs.pools.allocation.write_coloured.Given as goal

abbrev pub ghost-head_store : goal.ghost-head_store
ghost-head_store g a = g.entry
