use Rattle.std.proofs.Common.{ℕ, Bool, List, sym, subst}
use Rattle.gc_mark.specs.Shares.{Noted}
use Rattle.gc_mark.proofs.Notes.{noted_last}
use Rattle.gc_mark.proofs.following.follow_all.Goals as goal

pub follow-darkened-requires-clause-noted : goal.follow-darkened-requires-clause-noted
follow-darkened-requires-clause-noted c =
    subst (λ (z : List ℕ). Noted c.args.heap.now.config c.loop.dom.view z c.pop.new.self.lost) c.in-Some.ensures.last
    (subst (λ (b : Bool). Noted c.args.heap.now.config c.loop.dom.view c.loop.trail.items b) (sym c.pop.ensures.lost) c.loop.invariant.noted)

pub follow-darkened-requires-clause-inside : goal.follow-darkened-requires-clause-inside
follow-darkened-requires-clause-inside c = let n = noted_last c.args.heap.now.config c.loop.dom.view c.pop.new.self.items c.pop.new.self.lost c.in-Some.at (follow-darkened-requires-clause-noted c) in (n.0, n.1)

pub follow-darkened-requires-clause-marked : goal.follow-darkened-requires-clause-marked
follow-darkened-requires-clause-marked c = (noted_last c.args.heap.now.config c.loop.dom.view c.pop.new.self.items c.pop.new.self.lost c.in-Some.at (follow-darkened-requires-clause-noted c)).2
