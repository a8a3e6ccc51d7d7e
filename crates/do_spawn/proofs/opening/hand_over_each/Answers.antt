use Rattle.std.proofs.Common.{rules, ◌∙◌, ◌+◌, ap, arith, length, subst, sym}
use Rattle.heap_rule.specs.Running.{Runs}
use Rattle.do_spawn.specs.Opening.{HandedUpto}
use Rattle.do_spawn.proofs.Handing.{handed_next, opening_began}
use Rattle.do_spawn.proofs.Opens.{below_all, set_count}
use Rattle.do_spawn.proofs.opening.hand_over_each.Goals as goal

pub hand_over_at-first-requires-clause-other : goal.hand_over_at-first-requires-clause-other
hand_over_at-first-requires-clause-other c = λ t there.
    let h = c.args.heap.now in
    subst (Runs h) (sym (c.loop-at.invariant.handed.waits c.loop-at.at t (λ less. omega (arith, less)) there))
    (opening_began h (c.loop-at.at + 1) (below_all c.loop-at.others.items c.args.others.now.items c.loop-at.at h.config.domains t there c.loop-at.invariant.count c.requires.count)).runs

pub loop-at-preserved : goal.loop-at-preserved
loop-at-preserved c =
    let h = c.args.heap.now in
    let o = c.hand_over_at-first.ensures.handed in record {
      handed = handed_next h c.loop-at.first c.hand_over_at-first.result c.loop-at.others.items c.hand_over_at-first.new.others.items c.loop-at.at
          (below_all c.loop-at.others.items c.args.others.now.items c.loop-at.at h.config.domains o.other o.was c.loop-at.invariant.count c.requires.count) c.loop-at.invariant.handed o;
      count = ap length o.others ∙ (set_count c.loop-at.others.items c.loop-at.at o.other_now ∙ c.loop-at.invariant.count);
      capacity = c.hand_over_at-first.ensures.capacity ∙ c.loop-at.invariant.capacity;
    }

pub returns-clause-handed : goal.returns-clause-handed
returns-clause-handed c = subst (HandedUpto c.args.heap.now c.loop-at.first c.loop-at.others.items) (search rules) c.loop-at.invariant.handed
