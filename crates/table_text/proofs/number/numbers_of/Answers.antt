use Rattle.std.proofs.Common.{arith}
use Rattle.table_text.proofs.NumberLemmas.{behind_some, counted_wrong}
use Rattle.table_text.proofs.number.numbers_of.Goals as goal

pub returns-then-is_some-clause-value : goal.returns-then-is_some-clause-value
returns-then-is_some-clause-value c =
    let more = behind_some (λ r. r.now) c.texts.rest c.if-is_some.ensures in
    counted_wrong c.args.count _ (omega (arith, c.texts.invariant.count, more))
