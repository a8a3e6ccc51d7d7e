use Rattle.weak_laws.proofs.OfLists.StepLemmas.{deepen_listed, clear_listed, empty_listed, untouched_listed}
use Rattle.weak_laws.proofs.lists.laws.other_steps_keep_the_list.Goals as goal

pub returns-clause-deeper : goal.returns-clause-deeper
returns-clause-deeper c = deepen_listed

pub returns-clause-cleared : goal.returns-clause-cleared
returns-clause-cleared c = clear_listed

pub returns-clause-emptied : goal.returns-clause-emptied
returns-clause-emptied c = empty_listed

pub returns-clause-untouched : goal.returns-clause-untouched
returns-clause-untouched c = untouched_listed
