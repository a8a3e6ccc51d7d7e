use Rattle.std.proofs.Common.{◌≡◌, ℕ, List, [], length, false, None, sym, ap, subst, arith}
use Rattle.model_core.specs.declared.reply.Reply.{Reply}
use Rattle.heap_rule.specs.declared.phase.Progress.{Progress}
use Rattle.run_turns.specs.Runs.{IsRun}
use Rattle.run_turns.proofs.run.DomainRun.begin.Goals as goal

pub room_for_replies-kept-requires-clause-one : goal.room_for_replies-kept-requires-clause-one
room_for_replies-kept-requires-clause-one c = λ handed. let one = (c.requires.run.one handed).one in omega (arith, one, c.len.ensures)

pub invariant_of-result : goal.invariant_of-result
invariant_of-result c =
    let a = c.args in
    let replies : c.in_ok-replies.replies.items ≡ [] = c.in_ok-replies.ensures.items in
    let ran : c.in_ok-ran.ran.items ≡ [] = c.in_ok-ran.ensures.empty in
    let spare : c.finals_room-spare.result ≡ a.domain.config.finals = omega (arith, c.finals_room-spare.ensures.room, c.requires.none_listed) in
    let is = subst (λ (w : List Reply × (List Reply × (Progress × ℕ))). IsRun (record { token = a.domain; commands = a.commands.items; next = 0; replies = w.0; ended = false; left = None; asked = None; collected = false; progress = w.1.1.0; due = 0; hints = a.hints; supply = a.supply; place = a.place; spare = w.1.1.1; ran = w.1.0 })) (λ i. (sym replies i, (sym ran i, (sym c.start.ensures i, sym spare i)))) c.requires.run in
    let kept = c.room_for_replies-kept.ensures in
    let first = c.in_ok-replies.ensures.exact in
    let second = c.in_ok-ran.ensures.room in (
      is,
      record {
        answers = let few = kept.answers in omega (arith, few, first);
        one = λ handed. let both = kept.apart handed in (c.requires.one handed, omega (arith, both.0, first));
        apart = λ handed. let both = kept.apart handed in let none : length c.in_ok-ran.ran.items ≡ 0 = ap (λ (rs : List Reply). length rs) ran in omega (arith, both.1, second, none);
      },
    )
