-- What the word of a pool's owner tells the domain that has loaded it.
use Rattle.std.proofs.Common.{◌≡◌, ◌∙◌, ℕ, ◌+◌, ◌*◌, Some, ap, sym, subst, refl, ⊎_elim, arith}
use Rattle.heap_rule.specs.declared.view.DomainView.{DomainView}
use Rattle.heap_rule.specs.Pools.{owned, owner_word}
use Rattle.step_marks.specs.Marking.Marking.{OwnTold}
use Rattle.gc_mark.specs.Shares.{IsNotOf, IsOfClass, Walked}

-- it names one class
one_class : (d c e word : ℕ) → word ≡ owner_word (owned d c) → word ≡ owner_word (owned d e) → c ≡ e
one_class d c e word x y = let f : 16 * d + c + 1 ≡ 16 * d + e + 1 = sym x ∙ y in omega arith

module _ (pool found number : ℕ) (x y : DomainView) (same : number ≡ y.own.number) (told : OwnTold pool x found y) where
  number_is : number ≡ x.own.number
  number_is = same ∙ ⊎_elim (λ u. ap (λ (v : DomainView). v.own.number) u.3) (λ u. ap (λ (v : DomainView). v.own.number) u.1) told.told

  module _ (class : ℕ) (of : IsOfClass number found class) where
    here : found ≡ owner_word (owned x.own.number class)
    here = subst (λ (d : ℕ). found ≡ owner_word (owned d class)) number_is of.is

    -- the pool is the domain's own
    pub own_is : y.seen.share.own_pool ≡ Some (record { pool = pool; class = class })
    own_is = ⊎_elim
        (λ u. ap (λ (v : DomainView). v.seen.share.own_pool) u.3 ∙ ap (λ (c : ℕ). Some (record { pool = pool; class = c })) (one_class x.own.number u.0 class found u.2 here))
        (λ u. absurd (u.0 class of.below here))
        told.told

    -- and the walk is at it still
    pub walk_is : x.seen.share.walk ≡ record { pool = pool; slot = 0 } → y.seen.share.walk ≡ record { pool = pool; slot = 0 }
    walk_is next = ⊎_elim
        (λ u. ap (λ (v : DomainView). v.seen.share.walk) u.3 ∙ next)
        (λ u. absurd (u.0 class of.below here))
        told.told

  -- or the walk goes on behind it
  pub walked_by : IsNotOf number found → Walked (record { pool = pool + 1; slot = 0 }) x y
  walked_by none = ⊎_elim
      (λ u. absurd (none u.0 u.1 (subst (λ (d : ℕ). found ≡ owner_word (owned d u.0)) (sym number_is) u.2)))
      (λ u. subst (Walked (record { pool = pool + 1; slot = 0 }) x) (sym u.1) record { view = refl })
      told.told
