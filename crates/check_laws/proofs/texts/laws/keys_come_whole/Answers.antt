use Rattle.check_laws.proofs.OfTexts.Parting.{apart, kept}
use Rattle.check_laws.proofs.texts.laws.keys_come_whole.Goals as goal

pub returns-clause-kept : goal.returns-clause-kept
returns-clause-kept c = kept

pub returns-clause-never : goal.returns-clause-never
returns-clause-never c = apart
