-- Looks at addresses at which grey blocks may begin.
use Rattle.std.proofs.Common.{◌≡◌, ℕ, Bool, false, cond, ◌+◌, ◌-◌, ◌*◌, ◌/◌, ◌%◌, ◌<◌, ◌≤◌, ◌≢◌, ◌⊎◌, arith, inl, inr, ⊎_elim, sym, refl, ap, subst, ◌∙◌}
use Rattle.std.proofs.lemmas.Bool.{cases_lt}
use Rattle.std.proofs.lemmas.Nat.{div-mul-add, mod-mul-add}
use Rattle.model_core.specs.Domains.{class_count}
use Rattle.heap_words.specs.declared.colours.Colours.{Colours}
use Rattle.heap_words.specs.ColourWords.{IsPermutation}
use Rattle.heap_rule.specs.declared.config.Config.{Config}
use Rattle.heap_rule.specs.declared.view.DomainView.{DomainView}
use Rattle.heap_rule.specs.declared.view.Known.{Known}
use Rattle.heap_rule.specs.declared.view.Known.TheVariants.{Pool, Shape as Shaped, Vain}
use Rattle.heap_rule.specs.Pools.{blocks_of, owned, owner_word, size_of}
use Rattle.heap_rule.specs.Standing.{IsInHeap}
use Rattle.heap_rule.proofs.Classes.{size_least, slot_inside}
use Rattle.step_marks.specs.Marking.Marking.{IsGrey, IsScanned, IsUnmarked}
use Rattle.step_marks.specs.Beside.Marking.{Begins, PlaceMay, PlaceTold, PoolMay, PoolTold, learning}
use Rattle.do_fields.specs.Darkening.Aware.{darkened_in, scanned_in, tells_darkening, tells_scan}
use Rattle.do_fields.proofs.OfDarkening.Exchanges.{one_meaning}
use Rattle.gc_mark.specs.Slices.{BeginsHere, BeginsNowhere, FoundGrey, FoundNone, LookedAtHint, Slices}
use Rattle.gc_mark.proofs.Visits.{not_passed}

-- no block begins at an address that is at no place
pub no_place : (at pool class size blocks : ℕ) → size ≡ size_of class → 4 ≤ size → blocks ≡ blocks_of class → ((at - (pool * 4096 + 1)) % size ≢ 0) ⊎ (blocks ≤ (at - (pool * 4096 + 1)) / size) → Begins at pool class → ⊥
no_place at pool class size blocks is some count out b =
    let e : at - (pool * 4096 + 1) ≡ b.slot * size + 0 = away (pool * 4096) (b.slot * size) (b.begins ∙ ap (λ (n : ℕ). pool * 4096 + b.slot * n + 1) (sym is)) in
    let positive : 0 < size = omega (arith, some) in ⊎_elim
    (λ (d : (at - (pool * 4096 + 1)) % size ≢ 0). d (ap (λ (n : ℕ). n % size) e ∙ mod-mul-add b.slot size 0 positive))
    (λ (h : blocks ≤ (at - (pool * 4096 + 1)) / size).
    let is_slot : (at - (pool * 4096 + 1)) / size ≡ b.slot = ap (λ (n : ℕ). n / size) e ∙ div-mul-add b.slot size 0 positive in
    let below = b.inside in omega (arith, h, is_slot, count, below))
    out
  where
    away : (p m : ℕ) → at ≡ p + m + 1 → at - (p + 1) ≡ m + 0
    away p m e = omega (arith, e)

-- where a block begins lies in the heap
pub here_inside : (k : Config) (word at pool class slot : ℕ) → pool < k.pools → BeginsHere word at pool class slot → IsInHeap k at
here_inside k word at pool class slot below h =
    let fits = slot_inside class slot h.below h.inside in
    between (slot * size_of class) (size_of class) h.begins (size_least class h.below) fits
  where
    between : (m n : ℕ) → at ≡ pool * 4096 + m + 1 → 4 ≤ n → m + n ≤ 4096 → IsInHeap k at
    between m n e some fits = (omega (arith, e), omega (arith, e, some, fits, below))

-- and in the pools
pub here_low : (k : Config) (word at pool class slot : ℕ) → pool < k.pools → BeginsHere word at pool class slot → at ≤ k.pools * 4096
here_low k word at pool class slot below h = between (slot * size_of class) (size_of class) h.begins (size_least class h.below) (slot_inside class slot h.below h.inside)
  where
    between : (m n : ℕ) → at ≡ pool * 4096 + m + 1 → 4 ≤ n → m + n ≤ 4096 → at ≤ k.pools * 4096
    between m n e some fits = omega (arith, e, some, fits, below)

-- no block is there
pub no_grey : (colours : Colours) → IsPermutation colours → IsGrey colours 0 → ⊥
no_grey colours p g = not_passed colours 0 p g (inl refl)

one_class : (d class e kind : ℕ) → class < class_count → kind < class_count → 16 * d + class + 1 ≡ 16 * e + kind + 1 → kind ≡ class
one_class d class e kind few some is = omega (arith, few, some, is)

-- the domain knows the class of the pool in which a block begins
pub owner_known : (x y : DomainView) (at pool word class slot : ℕ) → PoolTold at pool x word y → BeginsHere word at pool class slot → y ≡ learning x (Pool pool class)
owner_known x y at pool word class slot t h = ⊎_elim
    (λ (u : (d : ℕ) × (kind : ℕ) × (kind < class_count) × (word ≡ owner_word (owned d kind)) × Begins at pool kind × (y ≡ learning x (Pool pool kind))).
    u.5 ∙ ap (λ (n : ℕ). learning x (Pool pool n)) (one_class h.owner class u.0 u.1 h.below u.2 (sym h.is ∙ u.3)))
    (λ (u : ((word ≡ 0) ⊎ ((d : ℕ) × (kind : ℕ) × (kind < class_count) × (word ≡ owner_word (owned d kind)) × (Begins at pool kind → ⊥))) × (y ≡ learning x (Vain at))). ⊎_elim
    (λ (e : word ≡ 0). absurd (let is = h.is in omega (arith, e, is)))
    (λ (v : (d : ℕ) × (kind : ℕ) × (kind < class_count) × (word ≡ owner_word (owned d kind)) × (Begins at pool kind → ⊥)).
    absurd (v.4 (subst (Begins at pool) (sym (one_class h.owner class v.0 v.1 h.below v.2 (sym h.is ∙ v.3))) record { slot = slot; inside = h.inside; begins = h.begins })))
    u.0)
    t.told

-- or the look at its owner was in vain
pub owner_vain : (x y : DomainView) (at pool word : ℕ) → PoolTold at pool x word y → BeginsNowhere word at pool → y ≡ learning x (Vain at)
owner_vain x y at pool word t none = ⊎_elim
    (λ (u : (d : ℕ) × (kind : ℕ) × (kind < class_count) × (word ≡ owner_word (owned d kind)) × Begins at pool kind × (y ≡ learning x (Pool pool kind))).
    absurd (none u.0 u.1 u.2 u.3 u.4))
    (λ (u : ((word ≡ 0) ⊎ ((d : ℕ) × (kind : ℕ) × (kind < class_count) × (word ≡ owner_word (owned d kind)) × (Begins at pool kind → ⊥))) × (y ≡ learning x (Vain at))). u.1)
    t.told

-- the head at a place of the pool may be looked at
pub place_may : (colours : Colours) (x y : DomainView) (word at pool class slot : ℕ) → Slices colours x → y ≡ learning x (Pool pool class) → BeginsHere word at pool class slot → PlaceMay y at pool class slot
place_may colours x y word at pool class slot s e h = subst (λ (v : DomainView). PlaceMay v at pool class slot) (sym e) record {
  knows = record { beside = record { runs = s.runs; armed = s.armed }; colours = colours; known = s.known };
  owned = inl refl;
  inside = h.inside;
  begins = h.begins;
}

-- a look in vain
pub vain_looked : (colours : Colours) (x y : DomainView) (at : ℕ) → IsPermutation colours → y ≡ learning x (Vain at) → LookedAtHint colours at x 0 y
vain_looked colours x y at p e = subst (LookedAtHint colours at x 0) (sym e) record {
  learnt = record { view = refl; grows = λ f k. inr k };
  colours_stay = refl;
  armed = refl;
  owes = refl;
  scanned = refl;
  darkened = refl;
  told = inl record { none = λ g. not_passed colours 0 p g (inl refl); known = inl refl; vain = refl };
}

-- a look that tells one thing more, behind what the pool is
place_learnt : (colours : Colours) (x : DomainView) (at pool class word : ℕ) (f : Known) → tells_scan f ≡ false → tells_darkening f ≡ false → let y : DomainView = learning (learning x (Pool pool class)) f in FoundNone colours at x word y ⊎ FoundGrey colours at x word y → LookedAtHint colours at x word y
place_learnt colours x at pool class word f scan dark told = record {
  learnt = record { view = refl; grows = λ g k. inr (inr k) };
  colours_stay = refl;
  armed = refl;
  owes = refl;
  scanned = ap (λ (b : Bool). cond b (scanned_in x.seen.share.known + 1) (scanned_in x.seen.share.known)) scan;
  darkened = ap (λ (b : Bool). cond b (darkened_in x.seen.share.known + 1) (darkened_in x.seen.share.known)) dark;
  told = told;
}

-- a look at the head
pub place_looked : (colours : Colours) (x y z : DomainView) (at pool class word : ℕ) → IsPermutation colours → Slices colours x → y ≡ learning x (Pool pool class) → PlaceTold at y word z → LookedAtHint colours at x word z
place_looked colours x y z at pool class word p s e told =
    let v = learning x (Pool pool class) in
    let t : PlaceTold at v word z = subst (λ (u : DomainView). PlaceTold at u word z) e told in
    let same : t.colours ≡ colours = one_meaning x.seen.share.colours colours t.colours s.known t.known in ⊎_elim
    (λ (q : ((word ≡ 0) ⊎ (IsUnmarked t.colours word ⊎ IsScanned t.colours word)) × (z ≡ learning v (Vain at))).
    subst (LookedAtHint colours at x word) (sym q.1) (place_learnt colours x at pool class word (Vain at) refl refl
    (inl record { none = λ g. not_passed colours word p g (subst (λ (c : Colours). (word ≡ 0) ⊎ (IsUnmarked c word ⊎ IsScanned c word)) same q.0); known = inl refl; vain = refl })))
    (λ (q : IsGrey t.colours word × (z ≡ learning v (Shaped at word))).
    subst (LookedAtHint colours at x word) (sym q.1) (place_learnt colours x at pool class word (Shaped at word) refl refl (inr record { grey = subst (λ (c : Colours). IsGrey c word) same q.0; known = inl refl; vain = refl })))
    t.told

-- the owner of the pool in which the address lies may be looked at
pub pool_may : (k : Config) (colours : Colours) (x : DomainView) (at word pool : ℕ) → Slices colours x → pool < k.pools → word ≡ 11 + k.pools + pool → (at ≤ k.pools * 4096 → (pool * 4096 < at) × (at ≤ pool * 4096 + 4096)) → PoolMay k x at word pool
pool_may k colours x at word pool s below is inside = record {
  beside = record { runs = s.runs; armed = s.armed };
  inside = below;
  lies = ⊎_elim (λ (behind : k.pools * 4096 < at). inr behind) (λ (low : at ≤ k.pools * 4096). inl (inside low)) (cases_lt (k.pools * 4096) at);
  word_is = is;
}
