-- Which labels' blocks lie in pools, and whose the places are.
use Rattle.std.proofs.Common.{◌≡◌, ℕ, zero, suc, ◌+◌, ◌*◌, ◌/◌, ◌%◌, ◌<◌, ◌≤◌, Bool, true, false, cond, ◌||◌, IsTrue, eq-eqb, Option, Some, None, sym, refl, ap, ◌∙◌, subst, ⊎_elim, arith, add-one}
use Rattle.std.proofs.Math.Nat.{mul-mod_left}
use Rattle.std.proofs.lemmas.Bool.{le-leb, leb-true}
use Rattle.std.proofs.lemmas.Option.{none-some}
use Rattle.std.specs.Prelude.{nat_le}
use Rattle.model_core.specs.declared.label.Label.{Label}
use Rattle.model_core.specs.Domains.{class_count}
use Rattle.model_core.specs.Graph.{same_label}
use Rattle.model_core.proofs.Graphs.GraphLemmas.{same_label-true, same_label_refl}
use Rattle.model_core.proofs.Reach.ReachLemmas.{or_cases, or_left, or_right}
use Rattle.model_cycle.proofs.Sharing.{last_or}
use Rattle.heap_rule.specs.declared.config.Config.{Config}
use Rattle.heap_rule.specs.Beside.{IsPooled}
use Rattle.heap_rule.specs.Cycles.{label_in, label_at, starts_in, owner_at}
use Rattle.heap_rule.specs.Places.{Place, Live, IsOldAt}
use Rattle.heap_rule.specs.Pools.{Holder, Lot, place_in, size_of}
use Rattle.heap_rule.proofs.Classes.{slot_inside, size_least}

abbrev pub is_label : Option Label → Label → Bool
is_label None l = false
is_label (Some m) l = same_label m l

-- whether the block with a label lies at one of so many addresses of the pools
abbrev pub lies_below : Config → Live → ℕ → Label → Bool
lies_below k live zero l = false
lies_below k live (suc n) l = is_label (label_at k live n) l || lies_below k live n l

-- whether it lies in a pool
abbrev pub lies_in_pool : Config → Live → Label → Bool
lies_in_pool k live l = lies_below k live (k.pools * 4096 + 1) l

below_has : (k : Config) (live : Live) (n a : ℕ) (l : Label) → a < n → label_at k live a ≡ Some l → IsTrue (lies_below k live n l)
below_has k live zero a l low is = absurd (omega arith)
below_has k live (suc n) a l low is = ⊎_elim
    (λ (below : a < n). or_right (is_label (label_at k live n) l) (lies_below k live n l) (below_has k live n a l below is))
    (λ (same : a ≡ n). or_left (is_label (label_at k live n) l) (lies_below k live n l) (subst (λ (o : Option Label). IsTrue (is_label o l)) (sym is ∙ ap (label_at k live) same) (same_label_refl l)))
    (last_or a n low)

its_label : (o : Option Label) (l : Label) → IsTrue (is_label o l) → o ≡ Some l
its_label None l is = cc
its_label (Some m) l is = ap Some (same_label-true m l is)

below_lies : (k : Config) (live : Live) (n : ℕ) (l : Label) → IsTrue (lies_below k live n l) → (a : ℕ) × (label_at k live a ≡ Some l)
below_lies k live zero l is = cc
below_lies k live (suc n) l is = ⊎_elim
    (λ (here : IsTrue (is_label (label_at k live n) l)). (n, its_label (label_at k live n) l here))
    (λ (below : IsTrue (lies_below k live n l)). below_lies k live n l below)
    (or_cases (is_label (label_at k live n) l) (lies_below k live n l) is)

-- the label at an address of the pools
pub pool_label : (k : Config) (live : Live) (a : ℕ) (p : Place) → live a ≡ Some p → a ≤ k.pools * 4096 → label_at k live a ≡ Some p.label
pool_label k live a p lives low = ap (λ (b : Bool). cond b (label_in (live a)) None) (le-leb a (k.pools * 4096) low) ∙ ap label_in lives

-- and the block there
pub label_pooled : (k : Config) (live : Live) (a : ℕ) (l : Label) → label_at k live a ≡ Some l → IsPooled k live l
label_pooled k live a l is = go (nat_le a (k.pools * 4096)) refl is
  where
    inner : (o : Option Place) → live a ≡ o → IsOldAt k a → label_in o ≡ Some l → IsPooled k live l
    inner None e low f = absurd (none-some l f)
    inner (Some p) e low f = record { address = a; place = p; lives = e; old = low; label = (let g : Some p.label ≡ Some l = f in cc) }

    go : (b : Bool) → nat_le a (k.pools * 4096) ≡ b → cond b (label_in (live a)) None ≡ Some l → IsPooled k live l
    go true e f = inner (live a) refl (leb-true a (k.pools * 4096) e) f
    go false e f = absurd (none-some l f)

pub pooled_lies : (k : Config) (live : Live) (l : Label) → IsPooled k live l → IsTrue (lies_in_pool k live l)
pooled_lies k live l p =
    let a : ℕ = p.address in
    let low : a ≤ k.pools * 4096 = p.old in
    below_has k live (k.pools * 4096 + 1) p.address l (omega arith) (pool_label k live p.address p.place p.lives p.old ∙ ap Some p.label)

pub lies_pooled : (k : Config) (live : Live) (l : Label) → IsTrue (lies_in_pool k live l) → IsPooled k live l
lies_pooled k live l is = let b = below_lies k live (k.pools * 4096 + 1) l is in label_pooled k live b.0 l b.1

-- whose a place is at which a block lies
pub owner_of_lot : (holder : ℕ → Holder) (a : ℕ) (p : Place) (at : Lot holder a p) → at.class < class_count → owner_at holder a ≡ Some at.domain
owner_of_lot holder a p at few =
    let d : ℕ = at.domain in
    let q : ℕ = at.pool in
    let c : ℕ = at.class in
    let z : ℕ = at.slot * size_of c in
    let y : ℕ = size_of c in
    let large : 4 ≤ y = size_least c few in
    let top : z + y ≤ 4096 = slot_inside c at.slot few at.inside in
    let n : ℕ = q * 4096 + z in
    let whole : place_in q c at.slot ≡ suc n = add-one n in
    let pool : n / 4096 ≡ q = omega arith in
    let rest : n % 4096 ≡ z = omega arith in
    let starts : z % size_of c ≡ 0 = mul-mod_left at.slot (size_of c) in
    ap (owner_at holder) (at.begins ∙ whole) ∙ (ap (λ (m : ℕ × ℕ). starts_in (holder m.0) m.1) (λ i. (pool i, rest i)) ∙ (ap (λ (h : Holder). starts_in h z) at.owned_is ∙ ap (λ (b : Bool). cond b (Some d) None) (eq-eqb (z % size_of c) 0 starts)))
