use Rattle.check_laws.proofs.OfTexts.Lines.{texts_law}
use Rattle.check_laws.proofs.texts.laws.texts_agree.Goals as goal

pub returns : goal.returns
returns c = texts_law
