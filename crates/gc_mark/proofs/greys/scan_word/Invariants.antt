use Rattle.gc_mark.proofs.greys.scan_word.Given as goal

abbrev pub ghost-darken_fields : goal.ghost-darken_fields
ghost-darken_fields g a = g.head
