use Rattle.std.proofs.Common.{rules, ◌≡◌, ◌∙◌, refl, sym, ap, subst}
use Rattle.heap_rule.specs.declared.view.DomainView.{DomainView}
use Rattle.gc_mark.specs.Shares.{block_in, with_marks}
use Rattle.gc_mark.proofs.Notes.{noted_end}
use Rattle.gc_mark.proofs.rounds.walk_pools.Goals as goal

pub returns-else-has_lost-clause-walked : goal.returns-else-has_lost-clause-walked
returns-else-has_lost-clause-walked c =
    let l = c.loop-pool.invariant in record {
      view = subst (λ (u : DomainView). u ≡ with_marks c.args.dom.now.view u) (sym l.walked.view) refl;
      walked = search rules;
      followed = noted_end c.args.heap.now.config c.loop-pool.dom.view c.loop-pool.trail.items c.loop-pool.trail.lost l.noted l.none (sym c.has_lost.ensures ∙ c.if-has_lost.false) l.marks.stage (ap block_in l.marks.idle);
    }
