use Rattle.std.proofs.Common.{◌≡◌, ◌∙◌, ◌+◌, ◌++◌, ◌∷◌, [], List, Some, drop, length, length-append, slice_get, ap, arith, sym}
use Rattle.model_core.specs.declared.reply.Reply.{Reply}
use Rattle.run_turns.specs.Runs.{RunView}
use Rattle.run_turns.proofs.Adding.{taken_first}
use Rattle.run_seats.proofs.closing.take_all.Goals as goal

one_less : (xs : List Reply) (r : Reply) → Some r ≡ slice_get xs 0 → length (drop 1 xs) + 1 ≡ length xs
one_less [] r first = cc
one_less (x ∷ xs) r first = omega arith

pub waiting-preserved : goal.waiting-preserved
waiting-preserved c =
    let s : RunView = c.waiting.run in
    let n : RunView = c.take_ran.new.self in
    let was = c.waiting.invariant in
    let old : List Reply = c.waiting.taken.items in
    let first : Some c.in-Some.ran ≡ slice_get s.ran 0 = sym c.in-Some.is ∙ c.take_ran.ensures.oldest in
    let rest : n.ran ≡ drop 1 s.ran = ap (λ (v : RunView). v.ran) c.take_ran.ensures.others in
    let less = one_less s.ran c.in-Some.ran first in
    let count = ap (λ (rs : List Reply). length rs) rest in
    let grows : c.push_reserved.new.self.items ≡ old ++ c.in-Some.ran ∷ [] = c.push_reserved.ensures.items in
    let more = ap (λ (rs : List Reply). length rs) grows ∙ length-append old (c.in-Some.ran ∷ []) in
    record {
      are = taken_first c.args.run.now.ran old s.ran c.in-Some.ran was.are first ∙ (λ i. sym grows i ++ sym rest i);
      left = let left = was.left in omega (arith, left, less, count);
      same = c.take_ran.ensures.others ∙ (ap (λ (v : RunView). record v { ran = drop 1 s.ran }) was.same ∙ (λ i. record c.args.run.now { ran = sym rest i }));
      room = let room = was.room in omega (arith, room, less, count, more, c.push_reserved.ensures.capacity);
    }
