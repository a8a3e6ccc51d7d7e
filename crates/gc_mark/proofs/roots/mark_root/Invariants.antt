use Rattle.gc_mark.proofs.roots.mark_root.Given as goal

abbrev pub ghost-darken : goal.ghost-darken
ghost-darken g a = g.reason
