-- What the clauses of promotion refuse.
use Rattle.std.proofs.Common.{◌≡◌, ◌∙◌, ℕ, ◌*◌, ◌<◌, ◌≤◌, Some, None, List, [], ◌∷◌, sym, subst, arith}
use Rattle.model_core.specs.Domains.{class_count}
use Rattle.heap_words.specs.declared.value.Value.TheVariants.{Ref}
use Rattle.heap_rule.specs.declared.config.Config.{Config}
use Rattle.heap_rule.specs.declared.view.DomainView.{DomainView}
use Rattle.heap_rule.specs.Changes.{value_at}
use Rattle.heap_rule.specs.declared.view.Held.TheVariants.{Queue}
use Rattle.heap_rule.specs.Copies.{IsOldValue}
use Rattle.heap_rule.specs.Finalisers.{held_at}
use Rattle.heap_rule.specs.Pools.{prepared_at}
use Rattle.gc_copy.specs.Sharing.{Shared}

-- no register is left with a block of a minor area
pub no_register_keeps_a_young_block : (k : Config) (x y : DomainView) (r a : ℕ) → Shared k x y → r < 16 → value_at y.own.registers r ≡ Ref a → k.pools * 4096 < a → ⊥
no_register_keeps_a_young_block k x y r a s few holds young =
    let low : a ≤ k.pools * 4096 = subst (IsOldValue k) holds (s.holds_old.0 r few) in omega (arith, low, young)

-- and no place of the queue of finalisers
pub no_queue_keeps_a_young_block : (k : Config) (x y : DomainView) (i a : ℕ) → Shared k x y → held_at y.own.finalisers (Queue i) ≡ Some a → k.pools * 4096 < a → ⊥
no_queue_keeps_a_young_block k x y i a s waits young = let low : a ≤ k.pools * 4096 = s.holds_old.1 (Queue i) a waits in omega (arith, low, young)

-- no remembered field is left unlooked at
pub no_remembered_field_is_left : (k : Config) (x y : DomainView) (field : ℕ) (rest : List ℕ) → Shared k x y → y.seen.remembered ≡ field ∷ rest → ⊥
no_remembered_field_is_left k x y field rest s left = let e : field ∷ rest ≡ [] = sym left ∙ s.looked_through in cc

-- no place of a pool is kept that was prepared for a copy
pub no_prepared_place_is_kept : (k : Config) (x y : DomainView) (class a : ℕ) → Shared k x y → class < class_count → prepared_at y.own.prepared class ≡ Some a → ⊥
no_prepared_place_is_kept k x y class a s few kept = let e : Some a ≡ None = sym kept ∙ s.unprepared class few in cc
