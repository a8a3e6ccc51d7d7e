use Rattle.std.proofs.Common.{rules, arith, ap, ◌∙◌, ◌≤◌, ◌++◌, ◌∷◌, [], take, length, decimal}
use Rattle.text_script.proofs.FrontLemmas.{same_further, row_on, number_at, short_number}
use Rattle.text_script.proofs.print.put_row.Goals as goal

pub put_number-at-requires : goal.put_number-at-requires
put_number-at-requires c =
    let small = (c.type_inv.numbers c.loop-number.number-index).fits in
    let short : length (decimal c.from.result) ≤ 10 = short_number c.from.result (omega arith) in
    omega (arith, c.loop-number.invariant.short)

pub loop-number-preserved : goal.loop-number-preserved
loop-number-preserved c =
    let small = (c.type_inv.numbers c.loop-number.number-index).fits in
    let short : length (decimal c.from.result) ≤ 10 = short_number c.from.result (omega arith) in
    let further : c.loop-number.at ≤ c.put_number-at.result = omega (arith, c.put_number-at.ensures.end) in
    let put = c.put_number-at.ensures.front ∙ ap (λ n. (take c.loop-number.at c.loop-number.out ++ 32 ∷ []) ++ decimal n) c.from.ensures in
    record {
      printed = row_on _ _ _ _ _ _ put c.loop-number.invariant.printed (number_at c.args.numbers.now c.loop-number.number-index (search rules));
      short = omega (arith, c.loop-number.invariant.short, c.put_number-at.ensures.end);
      begun = omega (arith, c.loop-number.invariant.begun);
      rest = c.put_number-at.ensures.rest ∙ same_further c.loop-number.at c.put_number-at.result c.loop-number.out c.put-at.new.out further c.loop-number.invariant.rest;
    }

pub returns-clause-rest : goal.returns-clause-rest
returns-clause-rest c = c.loop-number.invariant.rest ∙ same_further c.put-at.result c.loop-number.at c.put-at.new.out c.args.out.now c.loop-number.invariant.begun c.put-at.ensures.rest
