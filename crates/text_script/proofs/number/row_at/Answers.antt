use Rattle.std.proofs.Common.{rules, arith, ◌≡◌, ◌∙◌, ◌+◌, ◌-◌, ap, sym, drop, take, suc, ℕ, ℤ, List, Some}
use Rattle.std.specs.Prelude.{slice_set, option_map}
use Rattle.std.proofs.lemmas.List.{take_more_set}
use Rattle.text_script.specs.Split.{begins_with, numbers_behind}
use Rattle.text_script.proofs.NumberLemmas.{done, some_behind, none_behind, number_read_at, number_missing_at, line_ended_at, line_goes_on}
use Rattle.text_script.proofs.number.row_at.Goals as goal

pub returns-in_err-number-clause-value : goal.returns-in_err-number-clause-value
returns-in_err-number-clause-value c =
    let left : c.args.count - c.numbers.i ≡ (c.args.count - suc c.numbers.i) + 1 = omega (arith, c.numbers-test.true) in
    ap (option_map {U = List ℤ × List ℕ} (λ r. (take c.args.count r.numbers, drop r.next c.args.bytes.now))) c.from_residual-in_err-number.ensures ∙ sym (c.numbers.invariant.said ∙ ap (λ k. done (take c.numbers.i c.numbers.numbers) (numbers_behind k (drop c.numbers.end c.args.bytes.now))) left
    ∙ number_missing_at (take c.numbers.i c.numbers.numbers) (c.args.count - suc c.numbers.i) c.numbers.end c.in_ok-behind.field-0 c.args.bytes.now c.in_ok-behind.ensures c.in_err-number.ensures.value)

pub numbers-preserved : goal.numbers-preserved
numbers-preserved c =
    let left : c.args.count - c.numbers.i ≡ (c.args.count - (c.numbers.i + 1)) + 1 = omega (arith, c.numbers-test.true) in
    record {
      said = c.numbers.invariant.said ∙ ap (λ k. done (take c.numbers.i c.numbers.numbers) (numbers_behind k (drop c.numbers.end c.args.bytes.now))) left
          ∙ number_read_at (take c.numbers.i c.numbers.numbers) (c.args.count - (c.numbers.i + 1)) c.numbers.end c.in_ok-behind.field-0 c.in_ok-number.behind_it c.args.bytes.now c.in_ok-number.number c.in_ok-behind.ensures
          (omega (arith, c.in_ok-number.ensures.some)) c.in_ok-number.ensures.within c.in_ok-number.ensures.value
          ∙ ap (λ items. done items (numbers_behind (c.args.count - (c.numbers.i + 1)) (drop c.in_ok-number.behind_it c.args.bytes.now))) (sym (take_more_set c.numbers.numbers c.numbers.i c.in_ok-number.number (omega (arith, c.numbers.invariant.four, c.numbers-test.true, c.requires))) ∙ ap (λ z. take (c.numbers.i + 1) (slice_set c.numbers.numbers c.numbers.i z)) (search rules));
      four = search rules;
      begun = (omega (arith, c.numbers.invariant.begun, c.in_ok-number.ensures.some, some_behind (begins_with 32 (drop c.numbers.end c.args.bytes.now)) (c.numbers.end + 1) c.in_ok-behind.field-0 c.in_ok-behind.ensures));
    }

pub returns-in_err-next-clause-value : goal.returns-in_err-next-clause-value
returns-in_err-next-clause-value c =
    let left : c.args.count - c.numbers.i ≡ 0 = omega (arith, c.numbers-test.false) in
    ap (option_map {U = List ℤ × List ℕ} (λ r. (take c.args.count r.numbers, drop r.next c.args.bytes.now))) c.from_residual-in_err-next.ensures ∙ sym (c.numbers.invariant.said
    ∙ ap (λ k. done (take c.numbers.i c.numbers.numbers) (numbers_behind k (drop c.numbers.end c.args.bytes.now))) left
    ∙ line_goes_on (take c.numbers.i c.numbers.numbers) (drop c.numbers.end c.args.bytes.now) (sym (none_behind (begins_with 10 (drop c.numbers.end c.args.bytes.now)) (c.numbers.end + 1) c.in_err-next.ensures)))

pub returns-clause-value : goal.returns-clause-value
returns-clause-value c =
    let left : c.args.count - c.numbers.i ≡ 0 = omega (arith, c.numbers-test.false) in
    let all : c.args.count ≡ c.numbers.i = omega (arith, c.numbers-test.false) in
    ap (λ n. Some (take n c.numbers.numbers, drop c.in_ok-next.next c.args.bytes.now)) all
    ∙ sym (c.numbers.invariant.said ∙ ap (λ k. done (take c.numbers.i c.numbers.numbers) (numbers_behind k (drop c.numbers.end c.args.bytes.now))) left
    ∙ line_ended_at (take c.numbers.i c.numbers.numbers) c.numbers.end c.in_ok-next.next c.args.bytes.now c.in_ok-next.ensures)
