use Rattle.std.proofs.Common.{arith}
use Rattle.std.proofs.lemmas.Fmt.{decimal_digit}
use Rattle.text_script.proofs.FrontLemmas.{count_of_digits}
use Rattle.text_script.proofs.front.digits.Goals as goal

pub returns-in-Some : goal.returns-in-Some
returns-in-Some c = count_of_digits c.args.n c.in-Some.power c.ranges.n.fits c.in-Some.ensures.power_le c.in-Some.ensures.next_power_gt

pub returns-in-None : goal.returns-in-None
returns-in-None c = rw (c.in-None.ensures.none, decimal_digit 0 (omega arith))
