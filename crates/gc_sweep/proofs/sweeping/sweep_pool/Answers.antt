use Rattle.std.proofs.Common.{◌<◌, ℕ, ap, subst, sym}
use Rattle.heap_rule.specs.declared.view.Swept.{Swept}
use Rattle.gc_sweep.proofs.OwnPools.{onward_other}
use Rattle.gc_sweep.proofs.sweeping.sweep_pool.Goals as goal

pub returns-in_default-2-clause-onward : goal.returns-in_default-2-clause-onward
returns-in_default-2-clause-onward c = onward_other c.swept.result.spot.pool c.sweep_own_load-word.result c.number.result c.args.dom.now.view c.sweep_own_load-word.new.dom.view c.number.ensures.value c.args.heap.now.config c.sweep_own_load-word.ensures.told (subst (λ (p : ℕ). p < c.args.heap.now.config.pools) (sym (ap (λ (s : Swept). s.spot.pool) c.swept.ensures.value)) c.requires.inside) (ap (λ (s : Swept). s.spot.pool) c.swept.ensures.value) c.in_default.ensures
