use Rattle.std.proofs.Common.{rules, arith, ◌∙◌, ap, Some, length, drop, ◌+◌}
use Rattle.text_script.specs.Split.{begins_with, first_text, read_whole}
use Rattle.text_script.proofs.NumberLemmas.{some_behind, minus_read, minus_place, minus_alone, minus_zero}
use Rattle.text_script.proofs.number.negative_at.Goals as goal

pub returns-in-Some-natural_at-clause-value : goal.returns-in-Some-natural_at-clause-value
returns-in-Some-natural_at-clause-value c =
    let minus = some_behind (begins_with 45 (drop c.args.at c.args.bytes.now)) (c.args.at + 1) c.in-Some.digits c.in-Some.ensures in
    ap (λ z. read_whole (c.args.at + length (first_text (drop c.args.at c.args.bytes.now))) (Some (z, c.in-Some-natural_at.end))) (search rules)
    ∙ minus_read c.args.at c.in-Some.digits c.in-Some-natural_at.end c.in-Some-natural_at.magnitude c.args.bytes.now minus.0 minus.1 (search rules) c.in-Some-natural_at.ensures.value

pub returns-in-Some-natural_at-clause-within : goal.returns-in-Some-natural_at-clause-within
returns-in-Some-natural_at-clause-within c =
    let minus = some_behind (begins_with 45 (drop c.args.at c.args.bytes.now)) (c.args.at + 1) c.in-Some.digits c.in-Some.ensures in
    omega (arith, c.in-Some-natural_at.ensures.within, minus_place c.args.at c.in-Some.digits c.args.bytes.now minus.0 minus.1)

pub returns-in-None-natural_at-clause-value : goal.returns-in-None-natural_at-clause-value
returns-in-None-natural_at-clause-value c =
    let minus = some_behind (begins_with 45 (drop c.args.at c.args.bytes.now)) (c.args.at + 1) c.in-Some.digits c.in-Some.ensures in
    minus_alone c.args.at c.in-Some.digits c.args.bytes.now minus.0 minus.1 (search rules)

pub returns-in-None-natural_at-2-clause-value : goal.returns-in-None-natural_at-2-clause-value
returns-in-None-natural_at-2-clause-value c =
    let minus = some_behind (begins_with 45 (drop c.args.at c.args.bytes.now)) (c.args.at + 1) c.in-Some.digits c.in-Some.ensures in
    minus_zero c.args.at c.in-Some.digits _ _ c.args.bytes.now minus.0 minus.1 (search rules) c.in-None-natural_at.ensures.value
