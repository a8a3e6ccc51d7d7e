-- Whose the places of the pools are.
use Rattle.std.proofs.Common.{◌≡◌, ℕ, zero, suc, ◌+◌, ◌-◌, ◌*◌, ◌/◌, ◌%◌, ◌<◌, ◌≤◌, Bool, cond, eq-eqb, ne_eqb, Some, None, sym, ap, ◌∙◌, subst, arith, refl}
use Rattle.std.proofs.Math.Nat.{mod-eq-sub-div-mul, div-mul-le_self, lt_of_mul-lt-mul_right}
use mathlib.Core.Logic.{dite}
use native.Mathlib.Decide.{ℕ_discrete}
use Rattle.model_core.specs.Domains.{class_count}
use Rattle.heap_rule.specs.Pools.{Holder, nobody, drawn, owned, size_of, blocks_of, OwnPlace}
use Rattle.heap_rule.specs.Cycles.{starts_in, owner_at}
use Rattle.heap_rule.proofs.Classes.{fill}
use Rattle.std.proofs.lemmas.Option.{none-some, same_Some}

-- the pool of one owner isn't that of another
pub owned_same : (d e c b : ℕ) → ◌≡◌ {A = Holder} (owned d c) (owned e b) → (d ≡ e) × (c ≡ b)
owned_same d e c b h = (cc, cc)

-- a word of a pool at which a place of the class begins
slot_of : (c rest : ℕ) → c < class_count → rest < 4096 → rest % size_of c ≡ 0 → (rest / size_of c < blocks_of c) × (rest / size_of c * size_of c ≡ rest)
slot_of c rest few low starts =
    let z : ℕ = rest / size_of c * size_of c in
    let under : z ≤ rest = div-mul-le_self rest (size_of c) in
    let none : rest - z ≡ 0 = sym (mod-eq-sub-div-mul rest (size_of c)) ∙ starts in
    let whole : z ≡ rest = omega arith in
    let top : z < 4096 = omega arith in
    (lt_of_mul-lt-mul_right (size_of c) (subst (λ (n : ℕ). z < n) (sym (fill c few)) top), whole)

pub own_place : (holder : ℕ → Holder) → ((q d c : ℕ) → holder q ≡ owned d c → c < class_count) → (d a : ℕ) → owner_at holder a ≡ Some d → OwnPlace holder a d
own_place holder few d zero is = absurd (none-some d is)
own_place holder few d (suc n) is = go (holder (n / 4096)) refl is
  where
    go : (h : Holder) → holder (n / 4096) ≡ h → starts_in h (n % 4096) ≡ Some d → OwnPlace holder (suc n) d
    go nobody e o = absurd (none-some d o)
    go (drawn j) e o = absurd (none-some d o)
    go (owned j c) e o = dite (ℕ_discrete (n % 4096 % size_of c) 0)
        (λ starts.
        let same : j ≡ d = same_Some j d (sym (ap (λ (b : Bool). cond b (Some j) None) (eq-eqb (n % 4096 % size_of c) 0 starts)) ∙ o) in
        let t = slot_of c (n % 4096) (few (n / 4096) j c e) (omega arith) starts in
        let z : ℕ = n % 4096 / size_of c * size_of c in
        let whole : z ≡ n % 4096 = t.1 in record {
          pool = n / 4096;
          class = c;
          slot = n % 4096 / size_of c;
          owned_is = e ∙ ap (λ (i : ℕ). owned i c) same;
          inside = t.0;
          begins = let g : suc n ≡ n / 4096 * 4096 + z + 1 = omega arith in g;
        })
        (λ other. absurd (none-some d (sym (ap (λ (b : Bool). cond b (Some j) None) (ne_eqb (n % 4096 % size_of c) 0 other)) ∙ o)))
