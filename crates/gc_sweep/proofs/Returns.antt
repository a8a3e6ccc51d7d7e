-- How the top sinks.
use Rattle.std.proofs.Common.{◌≡◌, ◌∙◌, ◌≢◌, ℕ, ◌<◌, ap, sym, subst, refl, ⊎_elim}
use Rattle.model_core.specs.Domains.{class_count}
use Rattle.heap_rule.specs.declared.config.Config.{Config}
use Rattle.heap_rule.specs.declared.view.DomainView.{DomainView}
use Rattle.heap_rule.specs.Pools.{owned, owner_word}
use Rattle.step_sweep.specs.Holding.{Returns}
use Rattle.step_sweep.specs.Returning.{TopTold}
use Rattle.gc_sweep.specs.Emptiness.{sunk}

module _ (pool found number : ℕ) (x y : DomainView) (told : TopTold pool x found y) where
  -- a look at the owner of the last pool below the top changes the top alone
  pub top_view : y ≡ sunk x y
  top_view = ⊎_elim (λ u. subst (λ (v : DomainView). v ≡ sunk x v) (sym u.1) refl) (λ u. subst (λ (v : DomainView). v ≡ sunk x v) (sym u.1) refl) told.told

  -- which sinks to the pool where that isn't the domain's
  pub top_sinks : number ≡ y.own.number → ((class : ℕ) → class < class_count → found ≢ owner_word (owned number class)) → y.own.swept.top ≡ pool
  top_sinks same none = ⊎_elim
      (λ u. absurd (none u.0.0 u.0.1.0 (subst (λ (d : ℕ). found ≡ owner_word (owned d u.0.0)) (sym (same ∙ ap (λ (v : DomainView). v.own.number) u.1)) u.0.1.1)))
      (λ u. ap (λ (v : DomainView). v.own.swept.top) u.1)
      told.told

-- looks at several pools below the top
pub sunk_twice : (x y z : DomainView) → y ≡ sunk x y → z ≡ sunk y z → z ≡ sunk x z
sunk_twice x y z a b = b ∙ ap (λ (v : DomainView). sunk v z) a

pub sunk_returns : (k : Config) (x y : DomainView) → y ≡ sunk x y → Returns k x → Returns k y
sunk_returns k x y view returns = subst (Returns k) (sym view) returns
