use Rattle.weak_laws.proofs.OfLists.LabelLemmas.{labels_stand, leaves_stand, apart_thinned}
use Rattle.weak_laws.proofs.lists.laws.listed_labels_stand.Goals as goal

pub returns-clause-labels : goal.returns-clause-labels
returns-clause-labels c = labels_stand

pub returns-clause-leaves : goal.returns-clause-leaves
returns-clause-leaves c = leaves_stand

pub returns-clause-apart : goal.returns-clause-apart
returns-clause-apart c = apart_thinned
