use Rattle.std.proofs.Common.{decimal}
use Rattle.text_script.proofs.FrontLemmas.{behind_digits}
use Rattle.text_script.proofs.front.put_digits.Goals as goal

pub returns-clause-rest : goal.returns-clause-rest
returns-clause-rest c =
    rw c.digits.ensures
    (behind_digits c.args.at c.write_digits.result (decimal c.args.n) c.args.out.now c.write_digits.new.buf (rw c.digits.ensures at c.write_digits.ensures.start) (rw c.digits.ensures at c.write_digits.ensures.written))
