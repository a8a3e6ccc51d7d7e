use Rattle.gc_mark.proofs.slices.scan_hint.Given as goal

abbrev pub ghost-look : goal.ghost-look
ghost-look g a = g.known

abbrev pub ghost-scan_word : goal.ghost-scan_word
ghost-scan_word g a = a.word
