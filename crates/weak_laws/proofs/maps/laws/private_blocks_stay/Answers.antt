use Rattle.weak_laws.proofs.OfMaps.PrivateLemmas.{private_stays, private_stands_nowhere}
use Rattle.weak_laws.proofs.maps.laws.private_blocks_stay.Goals as goal

pub returns-clause-stays : goal.returns-clause-stays
returns-clause-stays c = private_stays

pub returns-clause-nowhere : goal.returns-clause-nowhere
returns-clause-nowhere c = private_stands_nowhere
