use Rattle.run_turns.proofs.Bringing.{looks_brought, met_brought}
use Rattle.run_turns.proofs.meeting.meet_at_once.Goals as goal

pub returns-then-looks-clause-brought : goal.returns-then-looks-clause-brought
returns-then-looks-clause-brought c = looks_brought c.args.heap.now.config c.args.heap.now c.args.domains.now.items c.look_all.new.domains.items c.look_all.result c.requires.some c.requires.here c.look_all.ensures.here c.look_all.ensures.answer

pub returns-clause-brought : goal.returns-clause-brought
returns-clause-brought c = met_brought c.args.heap.now.config c.args.domains.now.items c.meet_all.new.domains.items c.requires.some c.meet_all.ensures.met
