use Rattle.weak_laws.proofs.OfMaps.WayLemmas.{ways_differ, ways_part}
use Rattle.weak_laws.proofs.maps.laws.ways_differ.Goals as goal

pub returns-clause-differ : goal.returns-clause-differ
returns-clause-differ c = ways_differ

pub returns-clause-part : goal.returns-clause-part
returns-clause-part c = ways_part
