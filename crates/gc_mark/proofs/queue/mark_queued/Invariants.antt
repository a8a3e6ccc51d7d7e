use Rattle.gc_mark.proofs.queue.mark_queued.Given as goal

abbrev pub ghost-darken : goal.ghost-darken
ghost-darken g a = g.reason
