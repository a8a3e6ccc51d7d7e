use Rattle.std.proofs.Common.{◌≡◌, ◌+◌, ◌-◌, ◌<◌, ◌≤◌, ℕ, ap, arith}
use Rattle.heap_rule.specs.declared.view.Swept.{Swept}
use Rattle.gc_sweep.proofs.Sweepings.{less_left, sweeping_still, sweeps_twice}
use Rattle.gc_sweep.proofs.sweeping.sweep_pools.Goals as goal

pub sweeping-preserved : goal.sweeping-preserved
sweeping-preserved c = record {
  here = c.sweep_pool-count.ensures.here;
  sweeps = sweeping_still c.args.garbage c.sweeping.dom.view c.sweep_pool-count.new.dom.view c.sweep_pool-count.result c.sweep_pool-count.ensures.swept c.sweeping.invariant.sweeps;
  swept = sweeps_twice c.args.dom.now.view c.sweeping.dom.view c.sweep_pool-count.new.dom.view c.sweeping.count c.sweep_pool-count.result c.sweeping.invariant.swept c.sweep_pool-count.ensures.swept;
  few = let n : ℕ = c.sweep_pool-count.result in let m : ℕ = c.args.most in let i : ℕ = c.sweeping.count in let l : n ≤ m - i = c.sweep_pool-count.ensures.few in let h : i < m = c.sweeping-test.true in let g : i + n ≤ m = omega arith in g;
}

pub sweeping-smaller : goal.sweeping-smaller
sweeping-smaller c = less_left c.sweeping.dom.view c.sweep_pool-count.new.dom.view c.args.most c.sweeping.count c.sweep_pool-count.result c.config-pools.result.pools c.sweep_pool-count.ensures.swept c.sweep_pool-count.ensures.onward c.sweep_pool-count.ensures.few c.sweeping-test.true
    (let p : ℕ = c.sweeping.dom.view.own.swept.spot.pool in let q : ℕ = c.swept.result.spot.pool in let e : q ≡ p = ap (λ (s : Swept). s.spot.pool) c.swept.ensures.value in let k : ℕ = c.config-pools.result.pools in let l : q < k = c.if-swept-pools.true in let g : p < k = omega arith in g)
