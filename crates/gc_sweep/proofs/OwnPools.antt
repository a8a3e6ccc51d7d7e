-- What the word of a pool's owner tells the domain that has loaded it.
use Rattle.std.proofs.Common.{◌≡◌, ◌≢◌, ◌∙◌, ℕ, ◌+◌, ◌<◌, Some, ap, sym, subst, refl, inl, inr, ⊎_elim}
use Rattle.model_core.specs.Domains.{class_count}
use Rattle.heap_rule.specs.declared.config.Config.{Config}
use Rattle.heap_rule.specs.declared.view.DomainView.{DomainView}
use Rattle.heap_rule.specs.Pools.{owned, owner_word}
use Rattle.step_pools.specs.Writes.{pool_after}
use Rattle.step_pools.proofs.Tops.{after_later}
use Rattle.step_sweep.specs.Counting.{CountOwnTold}
use Rattle.step_sweep.specs.Freeing.{IsAmong, SweepOwnTold}
use Rattle.step_sweep.specs.Holding.{HeldOwnTold, Returns}
use Rattle.step_sweep.proofs.Entering.{one_class}
use Rattle.gc_sweep.specs.Counting.{CountedPool, CountsIn}
use Rattle.gc_sweep.specs.Emptiness.{LooksFrom, LooksIn, with_looks}
use Rattle.step_sweep.specs.Freeing.{sweeping_from}
use Rattle.gc_sweep.specs.Sweeping.{Onward, Sweeps}
use Rattle.gc_sweep.proofs.Sweepings.{looks_still, swept_none}

-- the looks leave whether the domain may give pools back
pub still_returns : (k : Config) (x y : DomainView) → y ≡ with_looks x y → Returns k x → Returns k y
still_returns k x y view may = subst (Returns k) (sym view) may

module _ (pool found number : ℕ) (x y : DomainView) (same : number ≡ y.own.number) where
  module _ (k : Config) (told : HeldOwnTold pool x found y) (from : LooksFrom k x pool) where
    looks_number : number ≡ x.own.number
    looks_number = same ∙ ⊎_elim (λ u. ap (λ (v : DomainView). v.own.number) u.3) (λ u. ap (λ (v : DomainView). v.own.number) u.1) told.told

    -- it looks into the pool, if that is its own
    pub looks_in : (class : ℕ) → class < class_count → found ≡ owner_word (owned number class) → LooksIn k y pool class
    looks_in class few is =
        let here : found ≡ owner_word (owned x.own.number class) = subst (λ (d : ℕ). found ≡ owner_word (owned d class)) looks_number is in ⊎_elim
        (λ u. subst (λ (v : DomainView). LooksIn k v pool class) (sym u.3) record {
          own = ap (λ (c : ℕ). Some (record { pool = pool; class = c })) (one_class x.own.number u.0 class found u.2 here);
          from = record { returns = from.returns; next = from.next; first = from.first };
        })
        (λ u. absurd (u.0 class few here))
        told.told

    -- else behind it
    pub looks_behind : ((class : ℕ) → class < class_count → found ≢ owner_word (owned number class)) → LooksFrom k y (pool + 1)
    looks_behind none = ⊎_elim
        (λ u. absurd (none u.0 u.1 (subst (λ (d : ℕ). found ≡ owner_word (owned d u.0)) (sym looks_number) u.2)))
        (λ u. subst (λ (v : DomainView). LooksFrom k v (pool + 1)) (sym u.1) record { returns = from.returns; next = refl; first = from.first })
        told.told

  module _ (told : CountOwnTold pool x found y) (next : x.seen.share.counted_to ≡ record { pool = pool; slot = 0 }) where
    counts_number : number ≡ x.own.number
    counts_number = same ∙ ⊎_elim (λ u. ap (λ (v : DomainView). v.own.number) u.3) (λ u. ap (λ (v : DomainView). v.own.number) u.1) told.told

    -- it counts in the pool, if that is its own
    pub counts_in : (class : ℕ) → class < class_count → found ≡ owner_word (owned number class) → CountsIn y pool class
    counts_in class few is =
        let here : found ≡ owner_word (owned x.own.number class) = subst (λ (d : ℕ). found ≡ owner_word (owned d class)) counts_number is in ⊎_elim
        (λ u. subst (λ (v : DomainView). CountsIn v pool class) (sym u.3) record {
          own = ap (λ (c : ℕ). Some (record { pool = pool; class = c })) (one_class x.own.number u.0 class found u.2 here);
          next = next;
        })
        (λ u. absurd (u.0 class few here))
        told.told

    -- else it has counted all of it
    pub counts_none : ((class : ℕ) → class < class_count → found ≢ owner_word (owned number class)) → CountedPool pool x y
    counts_none none = ⊎_elim
        (λ u. absurd (none u.0 u.1 (subst (λ (d : ℕ). found ≡ owner_word (owned d u.0)) (sym counts_number) u.2)))
        (λ u. subst (CountedPool pool x) (sym u.1) record { view = refl; next = refl })
        told.told

  module _ (k : Config) (told : SweepOwnTold k pool x found y) (inside : pool < k.pools) (next : pool ≡ x.own.swept.spot.pool) where
    sweeps_number : number ≡ x.own.number
    sweeps_number = same ∙ ⊎_elim (λ u. ap (λ (v : DomainView). v.own.number) u.2) (λ u. ap (λ (v : DomainView). v.own.number) u.1) told.told

    sweeps_onward : ((class : ℕ) → IsAmong class x.own found → ⊥) → Onward x y 0
    sweeps_onward none = ⊎_elim
        (λ u. absurd (none u.0 u.1))
        (λ u. inr (subst (λ (v : DomainView). x.own.swept.spot.pool < v.own.swept.spot.pool) (sym u.1) (subst (λ (p : ℕ). p < pool_after k.pools x.own.swept.top pool) next (after_later k.pools x.own.swept.top pool inside))))
        told.told

    -- the sweep goes on behind a pool of somebody else
    pub onward_other : ((class : ℕ) → class < class_count → found ≢ owner_word (owned number class)) → Onward x y 0
    onward_other none = sweeps_onward (λ class a. none class a.0 (subst (λ (d : ℕ). found ≡ owner_word (owned d class)) (sym sweeps_number) a.1))

    -- and sweeps nothing
    pub other_swept : ((class : ℕ) → class < class_count → found ≢ owner_word (owned number class)) → Sweeps x y 0
    other_swept none = ⊎_elim
        (λ u. absurd (none u.0 u.1.0 (subst (λ (d : ℕ). found ≡ owner_word (owned d u.0)) (sym sweeps_number) u.1.1)))
        (λ u. subst (λ (v : DomainView). Sweeps x v 0) (sym u.1) record {
          view = refl;
          colours = refl;
          ephemerons = refl;
          listed = refl;
          looked = looks_still x;
          on = swept_none x (record x { own = sweeping_from x.own (record { pool = pool_after k.pools x.own.swept.top pool; slot = 0 }) }) refl (inl (subst (λ (p : ℕ). p < pool_after k.pools x.own.swept.top pool) next (after_later k.pools x.own.swept.top pool inside)));
        })
        told.told
