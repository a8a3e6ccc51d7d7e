use Rattle.gc_mark.proofs.scanning.scan_block.Given as goal

abbrev pub ghost-scanned_store : goal.ghost-scanned_store
ghost-scanned_store g a = g.site
