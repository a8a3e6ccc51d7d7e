use Rattle.weak_laws.proofs.OfMaps.RespectLemmas.{alone_leaves as leaves_law, alone_respects as respects_law}
use Rattle.weak_laws.proofs.maps.laws.alone_respects.Goals as goal

pub returns-clause-respects : goal.returns-clause-respects
returns-clause-respects c = respects_law

pub returns-clause-leaves : goal.returns-clause-leaves
returns-clause-leaves c = leaves_law
