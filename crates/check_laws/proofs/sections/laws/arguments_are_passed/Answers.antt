use Rattle.check_laws.proofs.OfSections.Passing.{passed_arguments, zero_arguments}
use Rattle.check_laws.proofs.sections.laws.arguments_are_passed.Goals as goal

pub returns-clause-passed : goal.returns-clause-passed
returns-clause-passed c = passed_arguments

pub returns-clause-zero : goal.returns-clause-zero
returns-clause-zero c = zero_arguments
