use Rattle.weak_laws.proofs.OfMaps.TidyLemmas.{cleaned_blocks, cleaned_leaves, tidy_few, tidy_lead}
use Rattle.weak_laws.proofs.maps.laws.tidy_maps_are_small.Goals as goal

pub returns-clause-lead : goal.returns-clause-lead
returns-clause-lead c = tidy_lead

pub returns-clause-few : goal.returns-clause-few
returns-clause-few c = tidy_few

pub returns-clause-blocks : goal.returns-clause-blocks
returns-clause-blocks c = cleaned_blocks

pub returns-clause-leaves : goal.returns-clause-leaves
returns-clause-leaves c = cleaned_leaves
