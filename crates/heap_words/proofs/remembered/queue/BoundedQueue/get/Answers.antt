use Rattle.std.proofs.Common.{rules, ap, ◌≡◌, ◌<◌, ◌≤◌, ◌++◌, ◌∙◌, drop, length, take, sym, subst, arith, get_or}
use Rattle.std.specs.VecDeque.{deque_len}
use Rattle.std.proofs.lemmas.Option.{slice_get_read}
use Rattle.heap_words.proofs.OfRemembered.Turning.{turned_get, length_turned}
use Rattle.heap_words.proofs.remembered.queue.BoundedQueue.get.Goals as goal

pub returns : goal.returns
returns g c =
    let view : drop c.self.inside.turned c.self.inside.items.items ++ take c.self.inside.turned c.self.inside.items.items ≡ c.args.self.now.items = ap (λ v. v.items) c.self.view_is in
    let wide : deque_len c.self.inside.items ≡ length c.self.inside.items.items = search rules in
    let few : c.self.inside.turned ≤ deque_len c.self.inside.items = search rules in
    let long : length c.args.self.now.items ≡ length c.self.inside.items.items = ap length (sym view) ∙ length_turned c.self.inside.items.items c.self.inside.turned in
    let lent : c.len.result ≡ deque_len c.self.inside.items = c.len.ensures in
    let inside : c.args.i < c.len.result = let need = c.requires in omega arith in
    sym (slice_get_read c.args.self.now.items c.len.result c.args.i c.index.result.now (lent ∙ wide ∙ sym long) inside
    (subst (λ z. c.index.result.now ≡ get_or z c.args.i c.index.result.now) view (c.index.ensures ∙ sym (turned_get c.self.inside.items.items c.len.result c.self.inside.turned c.args.i c.place_of.result c.index.result.now (lent ∙ wide) (omega arith) inside c.place_of.ensures.first c.place_of.ensures.last))))
