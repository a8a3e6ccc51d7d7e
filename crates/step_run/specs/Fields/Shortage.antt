-- A domain that is short of pools.
use Rattle.std.specs.Prelude.{◌≡◌, ℕ, ◌+◌, ◌*◌, ◌≤◌, length, Some}
use Rattle.model_core.specs.Domains.{class_count, reserve}
use Rattle.heap_rule.specs.declared.config.Config.{Config}
use Rattle.heap_rule.specs.declared.view.DomainView.{DomainView}
use Rattle.heap_rule.specs.Limits.{sizes_in}
use Rattle.heap_rule.specs.Pools.{last_found}
use Rattle.heap_rule.specs.Rule.{state_of}
use Rattle.heap_rule.specs.Standing.{Acts, Looked}

-- a running domain has found no more free pools than the reserve
pub record IsShort (k : Config) (x : DomainView) : Type 0 where
  pub acts : Acts k x
  pub free : ℕ
  pub found : last_found x ≡ Some free
  pub few : free ≤ reserve (sizes_in k)

-- no entry stands at the step. The blocks that were ever made are so many that, with the reserve and one pool for each size class and domain, they are at least as many as the pools
pub record ShortTold (k : Config) (x : DomainView) (found : ℕ) (y : DomainView) : Type 0 where
  pub looked : Looked k x y
  pub made : k.pools ≤ length (state_of k y.seen.front).graph + reserve (sizes_in k) + class_count * k.domains
