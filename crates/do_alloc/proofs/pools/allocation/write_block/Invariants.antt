use Rattle.do_alloc.proofs.pools.allocation.write_block.Given as goal

abbrev pub ghost-write_coloured : goal.ghost-write_coloured
ghost-write_coloured g a = g.entry
