use Rattle.check_laws.proofs.OfSessions.Calling.{session_law}
use Rattle.check_laws.proofs.sessions.laws.sessions_make_their_calls.Goals as goal

pub returns : goal.returns
returns c = session_law
