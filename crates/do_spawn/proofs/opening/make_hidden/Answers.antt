use Rattle.std.proofs.Common.{◌≤◌, ℕ, ap, arith, refl}
use Rattle.heap_rule.specs.Token.{Token}
use Rattle.heap_words.specs.Remembered.Bounded.{Bounded}
use Rattle.do_spawn.proofs.Opens.{class_of_hidden, made_hidden, room_there}
use Rattle.do_spawn.proofs.Making.{room_kept}
use Rattle.do_spawn.proofs.opening.make_hidden.Goals as goal

pub unreachable-requires : goal.unreachable-requires
unreachable-requires c = c.in_default.ensures.none.known 3 class_of_hidden (record { pool = 0; class = 3; slot = 1 }) (ap (λ (t : Token). t.view.seen.spare) c.requires.starts) refl

pub store-requires-clause-room : goal.store-requires-clause-room
store-requires-clause-room c = (let n : ℕ = c.alloc_major.new.dom.view.own.remembered.room in let two : 2 ≤ n = room_there c.args.heap.now c.args.first.now c.alloc_major.new.dom c.config-limits.ensures.limits c.requires.starts c.in-Ok.ensures.made.grows in let e : 1 ≤ n = omega arith in e)

pub returns : goal.returns
returns c = record {
  made = made_hidden c.args.heap.now c.args.first.now c.alloc_major.new.dom c.store.new.dom _ c.store.result c.requires.starts c.requires.some c.in-Ok.ensures.made.did c.in-Ok.ensures.made.grows c.store.ensures.did c.store.ensures.remembers.rest
      (room_kept _ c.alloc_major.new.dom.view.own.remembered.room c.store.new.dom.view.own.remembered.room (room_there c.args.heap.now c.args.first.now c.alloc_major.new.dom c.config-limits.ensures.limits c.requires.starts c.in-Ok.ensures.made.grows)
      (λ p. ap (λ (b : Bounded ℕ). b.room) (c.store.ensures.remembers.remembered p)) (λ never. ap (λ (b : Bounded ℕ). b.room) (c.store.ensures.remembers.unremembered never)));
}
