use Rattle.text_script.proofs.OfWords.SpelledLemmas.{asked, answered}
use Rattle.text_script.proofs.words.words.words_fit.Goals as goal

pub returns-clause-spelled : goal.returns-clause-spelled
returns-clause-spelled c = λ j. (asked _ j, answered _ j)
