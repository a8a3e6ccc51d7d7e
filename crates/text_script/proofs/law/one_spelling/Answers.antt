use Rattle.text_script.proofs.OnlyLemmas.{one_script}
use Rattle.text_script.proofs.SpellsLemmas.{printed_again}
use Rattle.text_script.proofs.law.one_spelling.Goals as goal

pub returns-clause-printed_again : goal.returns-clause-printed_again
returns-clause-printed_again c = printed_again

pub returns-clause-one_script : goal.returns-clause-one_script
returns-clause-one_script c = one_script
