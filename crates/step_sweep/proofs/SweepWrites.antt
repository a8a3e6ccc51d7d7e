-- What the steps of sweeping tell of a token's own data.
use Rattle.std.proofs.Common.{◌≡◌, ℕ, ◌+◌, ◌<◌, ◌≤◌, List, set, length-set, get_or-set_same, get_or-set_other, sym, ap, ◌∙◌, subst, inl, ⊎_elim, arith, lt_of_not-le}
use mathlib.Core.Logic.{dite}
use native.Mathlib.Decide.{ℕ_discrete, dec_le}
use Rattle.model_core.specs.Domains.{IsWithinLimits, class_count}
use Rattle.heap_rule.specs.declared.config.Config.{Config}
use Rattle.heap_rule.specs.declared.view.DomainView.{DomainView}
use Rattle.heap_rule.specs.declared.view.Own.{Own}
use Rattle.heap_rule.specs.declared.view.Reaping.TheVariants.{Inside, AtGarbage}
use Rattle.heap_rule.specs.declared.view.Spot.{Spot}
use Rattle.heap_rule.specs.declared.view.Swept.{Swept}
use Rattle.heap_rule.specs.Limits.{sizes_in}
use Rattle.heap_rule.specs.Pools.{blocks_of}
use Rattle.heap_rule.specs.Raw.{Closes, StepsOnce}
use Rattle.step_sweep.specs.Returning.{IsOwn, SinksTop, TopMay, TopTold, topped}
use Rattle.step_pools.specs.Writes.{pool_after}
use Rattle.step_pools.proofs.Tops.{after_within}
use Rattle.heap_rule.specs.Sweeping.{nothing_swept}
use Rattle.heap_rule.specs.Token.{AllInHeap, OwnFits, SweptWithin}
use Rattle.heap_rule.proofs.Classes.{some_block}
use Rattle.heap_rule.proofs.Closes.{front_same}
use Rattle.step_marks.specs.Marking.Looks.{with_share}
use Rattle.step_marks.specs.Marking.Marking.{behind}
use Rattle.step_marks.proofs.OfMarking.WalkSteps.{last_behind, next_behind}
use Rattle.heap_rule.proofs.Searches.{looks_freed}
use Rattle.step_sweep.specs.Freeing.{AnewTold, CanFree, CanSweep, CanSweepOwn, FreeTold, FreesPlace, IsAmong, IsColoured, SweepOwnTold, SweepTold, SweepsOwn, SweepsPlace, freed_own, passed, sweeping_from, unswept}
use Rattle.heap_rule.proofs.Fits.{fits_with, swept_fits}

few_pools : (k : Config) (pool : ℕ) → IsWithinLimits (sizes_in k) → pool < k.pools → pool < 2048
few_pools k pool limits inside = let all = limits.pools in let p : ℕ = k.pools in let i : pool < p = inside in omega arith

-- no entry stands at a step that leaves the front, the registers and the blocks
pub once_same : (k : Config) (x y : DomainView) → y.seen.front ≡ x.seen.front → y.own.registers ≡ x.own.registers → y.own.used ≡ x.own.used → y.own.serial ≡ x.own.serial → StepsOnce k x y
once_same k x y front registers used serial = λ _. inl (record { front = front_same x y front; registers = registers; used = used; serial = serial })

-- the place behind one lies within the pools
behind_within : (k : Config) (pool class slot listed top : ℕ) → pool < k.pools → class < class_count → top ≤ k.pools → SweptWithin k (record { listed = listed; spot = behind pool class slot; top = top })
behind_within k pool class slot listed top inside few low =
    let p : ℕ = k.pools in
    let i : pool < p = inside in
    let b : ℕ = blocks_of class in
    let most : b ≤ 1024 = (some_block class few).1 in
    dite (dec_le (blocks_of class) (slot + 1))
    (λ last. subst (λ (spot : Spot). SweptWithin k (record { listed = listed; spot = spot; top = top })) (sym (last_behind pool class slot last)) (record { pool = (let g : pool + 1 ≤ p = omega arith in g); slot = omega arith; top = low }))
    (λ more. let next : slot + 1 < blocks_of class = lt_of_not-le more in subst (λ (spot : Spot). SweptWithin k (record { listed = listed; spot = spot; top = top })) (sym (next_behind pool class slot next)) (record { pool = (let g : pool ≤ p = omega arith in g); slot = (let l : slot + 1 < b = next in omega arith); top = low }))

pub anew_closes : (k : Config) (x : DomainView) (found : ℕ) → Closes k x found AnewTold (λ _. Unit {0}) (λ own after. after ≡ unswept own)
anew_closes k x found y fits told = let own : y.own ≡ unswept x.own = ap (λ (z : DomainView). z.own) told in record {
  can_write = tt;
  written = λ after is. own ∙ sym is;
  fits = subst (OwnFits k) (sym own) (swept_fits k x.own x.own.ephemerons (nothing_swept x.own.swept.top) fits.ephemerons (record { pool = omega arith; slot = omega arith; top = fits.swept.top }) fits);
  once = once_same k x y (ap (λ (z : DomainView). z.seen.front) told) (ap (λ (o : Own). o.registers) own) (ap (λ (o : Own). o.used) own) (ap (λ (o : Own). o.serial) own);
}

-- the sweep goes on in the next pool, or behind the last one
abbrev onward : ℕ → ℕ → Own → Own
onward pools pool own = sweeping_from own (record { pool = pool_after pools own.swept.top pool; slot = 0 })

pub sweep_own_closes : (k : Config) (x : DomainView) (found pools pool : ℕ) → pools ≡ k.pools → pool < k.pools → IsWithinLimits (sizes_in k) → Closes k x found (SweepOwnTold k pool) (CanSweepOwn pool) (SweepsOwn pools pool found)
sweep_own_closes k x found pools pool all inside limits = subst (λ (n : ℕ). Closes k x found (SweepOwnTold k pool) (CanSweepOwn pool) (SweepsOwn n pool found)) (sym all) (λ y fits told. ⊎_elim
    (λ (u : (class : ℕ) × IsAmong class x.own found × (y ≡ with_share x (record x.seen.share { reaping = Inside pool class }))). record {
      can_write = few_pools k pool limits inside;
      written = λ after is. ⊎_elim
          (λ (w : ((class : ℕ) × IsAmong class x.own found) × (after ≡ x.own)). ap (λ (z : DomainView). z.own) u.2 ∙ sym w.1)
          (λ (w : ((class : ℕ) → IsAmong class x.own found → ⊥) × (after ≡ onward k.pools pool x.own)). absurd (w.0 u.0 u.1))
          is;
      fits = subst (OwnFits k) (sym (ap (λ (z : DomainView). z.own) u.2)) fits;
      once = once_same k x y (ap (λ (z : DomainView). z.seen.front) u.2) (ap (λ (z : DomainView). z.own.registers) u.2) (ap (λ (z : DomainView). z.own.used) u.2) (ap (λ (z : DomainView). z.own.serial) u.2);
    })
    (λ (u : ((class : ℕ) → IsAmong class x.own found → ⊥) × (y ≡ record x { own = onward k.pools pool x.own })). record {
      can_write = few_pools k pool limits inside;
      written = λ after is. ⊎_elim
          (λ (w : ((class : ℕ) × IsAmong class x.own found) × (after ≡ x.own)). absurd (u.0 w.0.0 w.0.1))
          (λ (w : ((class : ℕ) → IsAmong class x.own found → ⊥) × (after ≡ onward k.pools pool x.own)). ap (λ (z : DomainView). z.own) u.1 ∙ sym w.1)
          is;
      fits = subst (OwnFits k) (sym (ap (λ (z : DomainView). z.own) u.1)) (swept_fits k x.own x.own.ephemerons (onward k.pools pool x.own).swept fits.ephemerons (record { pool = after_within k.pools x.own.swept.top pool inside; slot = omega arith; top = fits.swept.top }) fits);
      once = once_same k x y (ap (λ (z : DomainView). z.seen.front) u.1) (ap (λ (z : DomainView). z.own.registers) u.1) (ap (λ (z : DomainView). z.own.used) u.1) (ap (λ (z : DomainView). z.own.serial) u.1);
    })
    told.told)

pub sweep_closes : (k : Config) (x : DomainView) (found pool class slot garbage : ℕ) → pool < k.pools → class < class_count → slot < blocks_of class → IsWithinLimits (sizes_in k) → Closes k x found (SweepTold pool class slot garbage) (CanSweep pool class slot) (SweepsPlace pool class slot garbage found)
sweep_closes k x found pool class slot garbage inside few low limits y fits told = ⊎_elim
    (λ (u : (IsColoured garbage found → ⊥) × (y ≡ passed pool class slot x)). record {
      can_write = (few_pools k pool limits inside, few, low);
      written = λ after is. ⊎_elim
          (λ (w : (IsColoured garbage found → ⊥) × (after ≡ sweeping_from x.own (behind pool class slot))). ap (λ (z : DomainView). z.own) u.1 ∙ sym w.1)
          (λ (w : IsColoured garbage found × (after ≡ x.own)). absurd (u.0 w.0))
          is;
      fits = subst (OwnFits k) (sym (ap (λ (z : DomainView). z.own) u.1)) (swept_fits k x.own x.own.ephemerons (record x.own.swept { spot = behind pool class slot }) fits.ephemerons (let b = behind_within k pool class slot x.own.swept.listed x.own.swept.top inside few fits.swept.top in record { pool = b.pool; slot = b.slot; top = b.top }) fits);
      once = once_same k x y (ap (λ (z : DomainView). z.seen.front) u.1) (ap (λ (z : DomainView). z.own.registers) u.1) (ap (λ (z : DomainView). z.own.used) u.1) (ap (λ (z : DomainView). z.own.serial) u.1);
    })
    (λ (u : IsColoured garbage found × (y ≡ with_share x (record x.seen.share { reaping = AtGarbage pool class slot }))). record {
      can_write = (few_pools k pool limits inside, few, low);
      written = λ after is. ⊎_elim
          (λ (w : (IsColoured garbage found → ⊥) × (after ≡ sweeping_from x.own (behind pool class slot))). absurd (w.0 u.0))
          (λ (w : IsColoured garbage found × (after ≡ x.own)). ap (λ (z : DomainView). z.own) u.1 ∙ sym w.1)
          is;
      fits = subst (OwnFits k) (sym (ap (λ (z : DomainView). z.own) u.1)) fits;
      once = once_same k x y (ap (λ (z : DomainView). z.seen.front) u.1) (ap (λ (z : DomainView). z.own.registers) u.1) (ap (λ (z : DomainView). z.own.used) u.1) (ap (λ (z : DomainView). z.own.serial) u.1);
    })
    told.told

pub free_closes : (k : Config) (x : DomainView) (pool class slot : ℕ) → pool < k.pools → class < class_count → slot < blocks_of class → IsWithinLimits (sizes_in k) → Closes k x 0 (FreeTold pool class slot) (CanFree pool class slot) (FreesPlace pool class slot)
free_closes k x pool class slot inside few low limits y fits told = let own : y.own ≡ freed_own pool class slot x.own = ap (λ (z : DomainView). z.own) told in let b = behind_within k pool class slot x.own.swept.listed x.own.swept.top inside few fits.swept.top in record {
  can_write = (few_pools k pool limits inside, few, low, fits.looked.wide);
  written = λ after is. own ∙ sym is;
  fits = subst (OwnFits k) (sym own) (fits_with k x.own (freed_own pool class slot x.own).looked x.own.prepared x.own.pending x.own.ephemerons (freed_own pool class slot x.own).swept (looks_freed k x.own.looked pool class slot (let p : ℕ = k.pools in let i : pool < p = inside in let g : pool ≤ p = omega arith in g) few low fits.looked) fits.prepared fits.pending fits.ephemerons (record { pool = b.pool; slot = b.slot; top = b.top }) fits);
  once = once_same k x y (ap (λ (z : DomainView). z.seen.front) told) (ap (λ (o : Own). o.registers) own) (ap (λ (o : Own). o.used) own) (ap (λ (o : Own). o.serial) own);
}

-- the top sinks to a pool that isn't the domain's own
pub top_closes : (k : Config) (x : DomainView) (found pool word : ℕ) → TopMay k x word pool → Closes k x found (TopTold pool) (λ _. Unit {0}) (SinksTop pool found)
top_closes k x found pool word may y fits told = ⊎_elim
    (λ (u : ((class : ℕ) × IsOwn class x.own found) × (y ≡ x)). record {
      can_write = tt;
      written = λ after is. ⊎_elim
          (λ (w : ((class : ℕ) × IsOwn class x.own found) × (after ≡ x.own)). ap (λ (z : DomainView). z.own) u.1 ∙ sym w.1)
          (λ (w : ((class : ℕ) → IsOwn class x.own found → ⊥) × (after ≡ topped x.own pool)). absurd (w.0 u.0.0 u.0.1))
          is;
      fits = subst (OwnFits k) (sym (ap (λ (z : DomainView). z.own) u.1)) fits;
      once = once_same k x y (ap (λ (z : DomainView). z.seen.front) u.1) (ap (λ (z : DomainView). z.own.registers) u.1) (ap (λ (z : DomainView). z.own.used) u.1) (ap (λ (z : DomainView). z.own.serial) u.1);
    })
    (λ (u : ((class : ℕ) → IsOwn class x.own found → ⊥) × (y ≡ record x { own = topped x.own pool })). record {
      can_write = tt;
      written = λ after is. ⊎_elim
          (λ (w : ((class : ℕ) × IsOwn class x.own found) × (after ≡ x.own)). absurd (u.0 w.0.0 w.0.1))
          (λ (w : ((class : ℕ) → IsOwn class x.own found → ⊥) × (after ≡ topped x.own pool)). ap (λ (z : DomainView). z.own) u.1 ∙ sym w.1)
          is;
      fits = subst (OwnFits k) (sym (ap (λ (z : DomainView). z.own) u.1)) (swept_fits k x.own x.own.ephemerons (topped x.own pool).swept fits.ephemerons (record { pool = fits.swept.pool; slot = fits.swept.slot; top = (let t : ℕ = x.own.swept.top in let e : t ≡ pool + 1 = may.last in let p : ℕ = k.pools in let low : t ≤ p = fits.swept.top in let g : pool ≤ p = omega arith in g) }) fits);
      once = once_same k x y (ap (λ (z : DomainView). z.seen.front) u.1) (ap (λ (z : DomainView). z.own.registers) u.1) (ap (λ (z : DomainView). z.own.used) u.1) (ap (λ (z : DomainView). z.own.serial) u.1);
    })
    told.told
