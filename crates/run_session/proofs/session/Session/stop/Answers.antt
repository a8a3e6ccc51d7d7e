use Rattle.run_session.proofs.Collectors.{stops}
use Rattle.run_session.proofs.session.Session.stop.Goals as goal

pub returns-clause-stops : goal.returns-clause-stops
returns-clause-stops c = λ none. stops c.args.self c.end.result c.stop.result.history c.shows_legal.ensures.limits c.shows_legal.ensures.alone none c.end.ensures c.stop.ensures.follows
