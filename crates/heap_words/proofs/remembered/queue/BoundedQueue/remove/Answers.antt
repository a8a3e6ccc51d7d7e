use Rattle.std.proofs.Common.{rules, ap, ◌≡◌, ◌<◌, ◌+◌, ◌-◌, ◌++◌, ◌∙◌, drop, length, take, sym, subst, arith}
use Rattle.std.specs.List.{remove}
use Rattle.std.specs.VecDeque.{deque_len}
use Rattle.heap_words.proofs.OfRemembered.Turning.{turned_remove, length_turned}
use Rattle.heap_words.proofs.remembered.queue.BoundedQueue.remove.Goals as goal

pub returns-clause-items : goal.returns-clause-items
returns-clause-items g c =
    let view : drop c.self.inside.turned c.self.inside.items.items ++ take c.self.inside.turned c.self.inside.items.items ≡ c.args.self.now.items = ap (λ v. v.items) c.self.view_is in
    let wide : deque_len c.self.inside.items ≡ length c.self.inside.items.items = search rules in
    let left : deque_len c.pop_back.new.self ≡ length c.pop_back.new.self.items = search rules in
    let long : length c.args.self.now.items ≡ length c.self.inside.items.items = ap length (sym view) ∙ length_turned c.self.inside.items.items c.self.inside.turned in
    let lent : c.len.result ≡ deque_len c.self.inside.items = c.len.ensures in
    let kept : deque_len c.turn-2.new.items ≡ deque_len c.self.inside.items = c.turn-2.ensures.len in
    let less : deque_len c.pop_back.new.self + 1 ≡ deque_len c.turn-2.new.items = search rules in
    let inside : c.args.i < c.len.result = let need = c.requires in omega arith in
    subst (λ z. drop (c.len.result - 1 - c.args.i) c.pop_back.new.self.items ++ take (c.len.result - 1 - c.args.i) c.pop_back.new.self.items ≡ remove z c.args.i) (c.turn-2.ensures.same ∙ view) (turned_remove c.turn-2.new.items.items c.pop_back.new.self.items c.in-Some-pop_back.item (c.len.result - 1 - c.args.i) c.args.i c.in-Some-pop_back.ensures.items (omega arith))
