-- What the clauses of young allocation and of the choice of a class refuse, beside those of `Pools`.
use Rattle.std.proofs.Common.{ℕ, ◌<◌, List, arith}
use Rattle.model_core.specs.Domains.{reserve}
use Rattle.heap_words.specs.Classes.Table.{IsLeastFor}
use Rattle.heap_rule.specs.declared.config.Config.{Config}
use Rattle.heap_rule.specs.declared.view.DomainView.{DomainView}
use Rattle.heap_rule.specs.Limits.{sizes_in}
use Rattle.do_alloc.specs.Young.Area.{IsOpened}

-- a minor area isn't opened where fewer pools were found free than promotion may need
pub no_area_is_open_below_the_reserve : (k : Config) (x y : DomainView) (o : IsOpened k x y) → o.free < reserve (sizes_in k) → ⊥
no_area_is_open_below_the_reserve k x y o few = let enough = o.enough in let n : ℕ = reserve (sizes_in k) in omega (arith, enough, few)

-- a block has one size class
pub a_block_has_one_class : (sizes : List ℕ) (words one other : ℕ) → IsLeastFor sizes words one → IsLeastFor sizes words other → one < other → ⊥
a_block_has_one_class sizes words one other a b below = let fits = a.fits in let none = b.least one below in omega (arith, fits, none)
