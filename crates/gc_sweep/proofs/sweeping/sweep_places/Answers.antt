use Rattle.std.proofs.Common.{◌≡◌, ◌+◌, ◌-◌, ◌≤◌, ℕ, arith, subst}
use Rattle.gc_sweep.specs.Sweeping.{Sweeps}
use Rattle.gc_sweep.proofs.Sweepings.{next_place, sweeping_still, sweeps_twice}
use Rattle.gc_sweep.proofs.sweeping.sweep_places.Goals as goal

pub loop-slot-preserved : goal.loop-slot-preserved
loop-slot-preserved c = let p = c.sweep_place.ensures.swept in record {
  here = c.sweep_place.ensures.here;
  sweeps = sweeping_still c.args.garbage c.loop-slot.dom.view c.sweep_place.new.dom.view 1 p.sweeps c.loop-slot.invariant.sweeps;
  swept =
      let i : ℕ = c.loop-slot.slot in
      let first : ℕ = c.swept-first.result.spot.slot in
      let low : first ≤ i = c.loop-slot.auto.slot in
      subst (λ (n : ℕ). Sweeps c.args.dom.now.view c.sweep_place.new.dom.view n) (let e : i - first + 1 ≡ i + 1 - first = omega arith in e) (sweeps_twice c.args.dom.now.view c.loop-slot.dom.view c.sweep_place.new.dom.view (i - first) 1 c.loop-slot.invariant.swept p.sweeps);
  more = λ low. next_place c.args.pool c.args.class c.loop-slot.slot c.loop-slot.dom.view c.sweep_place.new.dom.view p c.requires.next.few low;
}
