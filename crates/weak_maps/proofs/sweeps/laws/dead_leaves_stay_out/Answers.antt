use Rattle.weak_maps.proofs.OfSweeps.LawLemmas.{respecting_brings}
use Rattle.weak_maps.proofs.OfSweeps.SpanLemmas.{steps_bring}
use Rattle.weak_maps.proofs.sweeps.laws.dead_leaves_stay_out.Goals as goal

pub returns-clause-steps : goal.returns-clause-steps
returns-clause-steps c = steps_bring

pub returns-clause-respecting : goal.returns-clause-respecting
returns-clause-respecting c = respecting_brings
