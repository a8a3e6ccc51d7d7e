-- Whose the places of the pools are, and which labels' blocks lie there.
use Rattle.std.proofs.Common.{◌≡◌, ◌≢◌, ◌⊎◌, inl, inr, sym, ℕ, suc, ◌+◌, ◌*◌, ◌/◌, ◌%◌, ◌<◌, ◌≤◌, Bool, true, false, cond, eq-eqb, Option, Some, None, refl, ap, ◌∙◌, arith, add-one}
use mathlib.Core.Logic.{dite}
use native.Mathlib.Decide.{ℕ_discrete}
use Rattle.std.proofs.Math.Nat.{mul-mod_left}
use Rattle.std.proofs.lemmas.Bool.{le-leb}
use Rattle.std.specs.Prelude.{nat_le}
use Rattle.model_core.specs.declared.label.Label.{Label}
use Rattle.model_core.specs.Domains.{class_count}
use Rattle.heap_rule.specs.declared.config.Config.{Config}
use Rattle.heap_rule.specs.Places.{Place, Live}
use Rattle.heap_rule.specs.Pools.{Holder, blocks_of, drawn, nobody, owned, owner_word, place_in, size_of}
use Rattle.heap_rule.specs.Cycles.{label_in, label_at, starts_in, owner_at}
use Rattle.heap_rule.specs.Layout.{owner_of}
use Rattle.heap_rule.specs.Rule.{Rule}
use Rattle.heap_rule.proofs.Classes.{slot_inside, size_least}
use Rattle.heap_rule.proofs.Holders.{drawn_owned, nobody_owned}
use Rattle.heap_rule.proofs.Keeps.{Words}
use Rattle.heap_rule.proofs.OwnPlaces.{owned_same}
use Rattle.std.proofs.lemmas.Option.{none-some}

pub owner_of_place : (holder : ℕ → Holder) (q d c slot : ℕ) → c < class_count → holder q ≡ owned d c → slot < blocks_of c → owner_at holder (place_in q c slot) ≡ Some d
owner_of_place holder q d c slot few is inside =
    let z : ℕ = slot * size_of c in
    let y : ℕ = size_of c in
    let large : 4 ≤ y = size_least c few in
    let top : z + y ≤ 4096 = slot_inside c slot few inside in
    let n : ℕ = q * 4096 + z in
    let whole : place_in q c slot ≡ suc n = add-one n in
    let pool : n / 4096 ≡ q = omega arith in
    let rest : n % 4096 ≡ z = omega arith in
    let starts : z % size_of c ≡ 0 = mul-mod_left slot (size_of c) in
    ap (owner_at holder) whole ∙ (ap (λ (m : ℕ × ℕ). starts_in (holder m.0) m.1) (λ i. (pool i, rest i)) ∙ (ap (λ (h : Holder). starts_in h z) is ∙ ap (λ (b : Bool). cond b (Some d) None) (eq-eqb (z % size_of c) 0 starts)))

-- the label at an address in the pools
pub label_there : (k : Config) (live : Live) (a : ℕ) (p : Place) → live a ≡ Some p → a ≤ k.pools * 4096 → label_at k live a ≡ Some p.label
label_there k live a p lives low = ap (λ (b : Bool). cond b (label_in (live a)) None) (le-leb a (k.pools * 4096) low) ∙ ap label_in lives

pub record Labelled (live : Live) (a : ℕ) (l : Label) : Type 0 where
  pub place : Place
  pub lives : live a ≡ Some place
  pub label : place.label ≡ l

pub labelled : (k : Config) (live : Live) (a : ℕ) (l : Label) → label_at k live a ≡ Some l → Labelled live a l
labelled k live a l is = go (nat_le a (k.pools * 4096)) refl is
  where
    inner : (o : Option Place) → live a ≡ o → label_in o ≡ Some l → Labelled live a l
    inner None e f = absurd (none-some l f)
    inner (Some p) e f = record { place = p; lives = e; label = (let g : Some p.label ≡ Some l = f in cc) }

    go : (b : Bool) → nat_le a (k.pools * 4096) ≡ b → cond b (label_in (live a)) None ≡ Some l → Labelled live a l
    go true e f = inner (live a) refl f
    go false e f = absurd (none-some l f)

-- a pool is a domain's own, for blocks of a class, or its owner word is another
pub whose : (k : Config) (s : Words) (r : Rule k s) (d pool : ℕ) → pool < k.pools → (h : Holder) → r.account.tenancy.holder pool ≡ h → ((class : ℕ) × (r.account.tenancy.holder pool ≡ owned d class) × (class < class_count) × (owner_of k s.words pool ≡ owner_word (owned d class)))
    ⊎ (((class : ℕ) → r.account.tenancy.holder pool ≢ owned d class) × ((class : ℕ) → class < class_count → owner_of k s.words pool ≢ owner_word (owned d class)))
whose k s r d pool inside nobody e = inr (λ class f. nobody_owned d class (sym e ∙ f), λ class few f. let z : owner_of k s.words pool ≡ 0 = r.whole.pools.owners pool inside ∙ ap owner_word e in let w : ℕ = owner_of k s.words pool in let g : w ≡ 16 * d + class + 1 = f in let h : w ≡ 0 = z in omega arith)
whose k s r d pool inside (drawn n) e = inr (λ class f. drawn_owned n d class (sym e ∙ f), λ class few f. let z : owner_of k s.words pool ≡ 0 = r.whole.pools.owners pool inside ∙ ap owner_word e in let w : ℕ = owner_of k s.words pool in let g : w ≡ 16 * d + class + 1 = f in let h : w ≡ 0 = z in omega arith)
whose k s r d pool inside (owned n class) e =
    let is : owner_of k s.words pool ≡ owner_word (owned n class) = r.whole.pools.owners pool inside ∙ ap owner_word e in
    let small : class < class_count = (r.whole.pools.owned_by pool n class e).2 in
    dite (ℕ_discrete n d)
    (λ same. inl (class, e ∙ ap (λ (i : ℕ). owned i class) same, small, is ∙ ap (λ (i : ℕ). owner_word (owned i class)) same))
    (λ other. inr (λ b f. other (owned_same n d class b (sym e ∙ f)).0, λ b few f. let w : ℕ = owner_of k s.words pool in let g : w ≡ 16 * d + b + 1 = f in let h : w ≡ 16 * n + class + 1 = is in other (omega arith)))
