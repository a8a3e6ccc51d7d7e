use Rattle.gc_mark.proofs.places.mark_place.Given as goal

abbrev pub ghost-scan_block : goal.ghost-scan_block
ghost-scan_block g a = g.site
