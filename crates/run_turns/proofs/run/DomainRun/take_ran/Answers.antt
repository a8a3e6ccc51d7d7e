use Rattle.std.proofs.Common.{◌≡◌, ◌∙◌, ◌+◌, List, [], ◌∷◌, drop, length, refl, sym, ap, subst, arith}
use Rattle.model_core.specs.declared.reply.Reply.{Reply}
use Rattle.run_turns.specs.Runs.{IsRun, RunView}
use Rattle.run_turns.proofs.Supplying.{taken_is_run}
use Rattle.run_turns.proofs.run.DomainRun.take_ran.Goals as goal

one_less : {A : Type 0} (xs : List A) → (length xs ≡ 0 → ⊥) → length (drop 1 xs) + 1 ≡ length xs
one_less [] some = absurd (some refl)
one_less (x ∷ xs) some = omega arith

pub invariant_of-self : goal.invariant_of-self
invariant_of-self c =
    let r : RunView = record { token = c.self.inside.domain; commands = c.self.inside.commands.items; next = c.self.inside.next; replies = c.self.inside.replies.items; ended = c.self.inside.ended; left = c.self.inside.left; asked = c.self.inside.asked; collected = c.self.inside.collected; progress = c.self.inside.progress; due = c.self.inside.due; hints = c.self.inside.hints; supply = c.self.inside.supply; place = c.self.inside.place; spare = c.self.inside.spare; ran = c.self.inside.ran.items } in
    let rest : c.remove.new.self.items ≡ drop 1 r.ran = c.remove.ensures.items in
    let count : length c.remove.new.self.items ≡ length (drop 1 r.ran) = ap (λ (rs : List Reply). length rs) rest in
    let less = one_less r.ran (λ none. c.if-len-eq0.false (c.len.ensures ∙ none)) in
    let more = c.remove.ensures.room in
    let kept = c.self.invariant.1 in (
      subst (λ (rs : List Reply). IsRun (record r { ran = rs })) (sym rest) (taken_is_run r c.self.invariant.0),
      record { answers = kept.answers; one = kept.one; apart = λ handed. let room = kept.apart handed in omega (arith, room, count, less, more) },
    )
