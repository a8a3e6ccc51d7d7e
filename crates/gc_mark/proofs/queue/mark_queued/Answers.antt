use Rattle.std.proofs.Common.{◌≡◌, Some}
use Rattle.heap_rule.specs.declared.view.DomainView.{DomainView}
use Rattle.heap_rule.specs.declared.view.Held.TheVariants.{Queue}
use Rattle.heap_rule.specs.Finalisers.{held_at}
use Rattle.gc_mark.proofs.Queues.{counts_won, held_here, queue_darkens}
use Rattle.gc_mark.proofs.queue.mark_queued.Goals as goal

pub darken-requires : goal.darken-requires
darken-requires g c =
    let x : DomainView = c.args.dom.now.view in
    let q = c.requires.1 in
    let held : held_at x.own.finalisers (Queue c.args.place) ≡ Some c.in-Fin.address = held_here x.own.finalisers c.args.place c.in-Fin.address c.in-Fin.number c.in-Fin.register c.queue_at.result c.queue_at.ensures c.in-Fin.is in
    (c.requires.0, (q.1.1.1.1.0 (Queue c.args.place) c.in-Fin.address held, (q.1.1.0, queue_darkens x c.args.colours c.args.place c.in-Fin.address g.reason q.0 q.1.0 q.1.1.1.1.1 held)))

pub returns-clause-marked : goal.returns-clause-marked
returns-clause-marked g c = counts_won c.args.dom.now.view c.darken.new.dom.view g.reason c.in-Fin.address c.darken.result c.darken.ensures.darkened
