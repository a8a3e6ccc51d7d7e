use Rattle.gc_pause.proofs.OfPhases.Works.{shares_in}
use Rattle.gc_pause.proofs.phases.sharing.share.Goals as goal

pub returns-clause-shares : goal.returns-clause-shares
returns-clause-shares c = shares_in c.args.heap.now.config c.args.kind c.args.dom.now.view c.work.new.dom.view c.arrive.new.dom.view c.work.ensures.works c.arrive.ensures.view
