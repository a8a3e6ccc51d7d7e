use Rattle.std.proofs.Common.{rules}
use Rattle.judge_plain.proofs.OfSpawned.MakeLemmas.{makes_of, replies_of}
use Rattle.judge_plain.proofs.spawned.replay.read_domain.Goals as goal

pub returns-then-makes_section-clause-makes : goal.returns-then-makes_section-clause-makes
returns-then-makes_section-clause-makes c =
    makes_of c.args.sizes.now c.args.script.now.sections c.args.d c.args.front.now c.args.behind.now c.in_ok-heap.heap c.play.new.heap c.play-2.new.heap _ _ _ _ _ _ _ c.in_ok-heap.ensures c.requires.begins
    (rw c.in-Some.is at c.in_ok-play.ensures) (rw c.in-Some-2.is at c.in_ok-told.ensures) (c.makes_section.ensures (search rules))

pub returns-then-makes_section-clause-replies : goal.returns-then-makes_section-clause-replies
returns-then-makes_section-clause-replies c =
    replies_of c.args.sizes.now c.args.d c.args.front.now c.args.behind.now c.in_ok-heap.heap c.play.new.heap c.play-2.new.heap _ _ _ _ _ _ _ c.in_ok-heap.ensures c.new-replies.ensures.items
    (rw c.in-Some.is at c.in_ok-play.ensures) (rw c.in-Some-2.is at c.in_ok-told.ensures)
