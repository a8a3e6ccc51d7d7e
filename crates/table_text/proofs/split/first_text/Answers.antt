use Rattle.text_script.proofs.SplitLemmas.{split_found, split_whole}
use Rattle.table_text.proofs.split.first_text.Goals as goal

pub returns-in-Some : goal.returns-in-Some
returns-in-Some c = split_found 32 c.args.line.now _ _ c.in-Some.ensures.value

pub returns-in-None : goal.returns-in-None
returns-in-None c = split_whole 32 c.args.line.now c.in-None.ensures.value
