use Rattle.std.proofs.Common.{ℕ, ◌≤◌, ◌<◌, sym, subst}
use Rattle.heap_rule.proofs.Classes.{some_block}
use Rattle.step_pools.proofs.Sizes.{blocks_shifted}
use Rattle.step_pools.proofs.walking.class_blocks.Goals as goal

pub returns-clause-value : goal.returns-clause-value
returns-clause-value c = blocks_shifted c.args.class c.requires

pub returns-clause-few : goal.returns-clause-few
returns-clause-few c = subst (λ (n : ℕ). (0 < n) × (n ≤ 1024)) (sym (blocks_shifted c.args.class c.requires)) (some_block c.args.class c.requires)
