use Rattle.std.proofs.Common.{rules, ◌∙◌, ap, arith, length, subst}
use Rattle.do_spawn.specs.Opening.{MetUpto}
use Rattle.do_spawn.proofs.Leveling.{met_next}
use Rattle.do_spawn.proofs.Opens.{set_count}
use Rattle.do_spawn.proofs.opening.meet_each.Goals as goal

pub meet_at-first-requires-clause-other : goal.meet_at-first-requires-clause-other
meet_at-first-requires-clause-other c = λ t there. (c.loop-at.invariant.met.waits c.loop-at.at t (λ less. omega (arith, less)) there).0.runs

pub loop-at-preserved : goal.loop-at-preserved
loop-at-preserved c =
    let m = c.meet_at-first.ensures.met in record {
      met = met_next c.args.heap.now c.args.first.view.seen.front c.loop-at.first c.meet_at-first.result c.loop-at.others.items c.meet_at-first.new.others.items c.loop-at.at c.loop-at.invariant.met m;
      count = ap length m.others ∙ (set_count c.loop-at.others.items c.loop-at.at m.other_now ∙ c.loop-at.invariant.count);
      capacity = c.meet_at-first.ensures.capacity ∙ c.loop-at.invariant.capacity;
    }

pub returns-clause-met : goal.returns-clause-met
returns-clause-met c = subst (MetUpto c.args.heap.now c.args.first.view.seen.front c.loop-at.first c.loop-at.others.items) (search rules) c.loop-at.invariant.met
