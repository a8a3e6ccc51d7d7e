-- Domains that are put into handles, one after the other.
use Rattle.std.proofs.Common.{◌≡◌, ℕ, zero, suc, ◌+◌, ◌<◌, ◌≤◌, Bool, true, false, not, nat_le, List, [], ◌∷◌, ◌++◌, length, map, get_or, slice_get, slice_set, Some, None, refl, sym, ap, subst, ◌∙◌, ◌⊎◌, inl, inr, ⊎_elim, arith}
use Rattle.std.specs.Prelude.{if◌then◌else◌}
use Rattle.model_core.specs.Domains.{fits_domains, fits_minor_words, fits_pools}
use Rattle.heap_rule.specs.declared.config.Config.{Config}
use Rattle.heap_rule.specs.Limits.{first_of, first_outside, most_room, sizes_in}
use Rattle.heap_rule.specs.Opening.{opening_tokens}
use Rattle.heap_rule.specs.Token.{SharedHeap}
use Rattle.run_turns.specs.Singly.Opening.{opened}
use Rattle.run_seats.specs.Shared.Sharing.{SharedView, shared_by}
use Rattle.camlheap_c.specs.declared.handle.CamlheapDomain.{CamlheapDomain}
use Rattle.camlheap_c.specs.Exported.{Fills, IsHandleOf}

below_or_at : (i at : ℕ) → i < at + 1 → (i < at) ⊎ (i ≡ at)
below_or_at zero zero few = inr refl
below_or_at zero (suc at) few = inl (omega arith)
below_or_at (suc i) zero few = absurd (omega (arith, few))
below_or_at (suc i) (suc at) few = ⊎_elim (λ (b : i < at). inl (omega (arith, b))) (λ (e : i ≡ at). inr (ap suc e)) (below_or_at i at (omega (arith, few)))

-- one more
pub fills_more : (handed : List SharedView) (s : SharedView) (old new : List CamlheapDomain) (d : CamlheapDomain) → Fills handed old new → length handed < length old → IsHandleOf s d → Fills (handed ++ s ∷ []) old (slice_set new (length handed) d)
fills_more [] s [] new d same room is = absurd (omega (arith, room))
fills_more [] s (x ∷ old) new d same room is = subst (λ (ds : List CamlheapDomain). Fills (s ∷ []) (x ∷ old) (slice_set ds 0 d)) (sym same) (is, refl)
fills_more (t ∷ handed) s [] new d fills room is = absurd fills
fills_more (t ∷ handed) s (x ∷ old) [] d fills room is = absurd fills
fills_more (t ∷ handed) s (x ∷ old) (e ∷ new) d (first, rest) room is = (first, fills_more handed s old new d rest (omega (arith, room)) is)

-- the handle at a place
pub found_at : (handles : List CamlheapDomain) (at : ℕ) (d : CamlheapDomain) → at < length handles → slice_get handles at ≡ Some (get_or handles at d)
found_at [] at d room = absurd (omega (arith, room))
found_at (x ∷ handles) zero d room = refl
found_at (x ∷ handles) (suc at) d room = found_at handles at d (omega (arith, room))

-- a handle that was looked at is as it was
set_back : (handles : List CamlheapDomain) (at : ℕ) (d : CamlheapDomain) → slice_get handles at ≡ Some d → slice_set handles at d ≡ handles
set_back [] at d there = let clash : None ≡ Some d = there in cc
set_back (x ∷ handles) zero d there = let same : x ≡ d = cc in ap (λ (y : CamlheapDomain). y ∷ handles) (sym same)
set_back (x ∷ handles) (suc at) d there = ap (λ (ys : List CamlheapDomain). x ∷ ys) (set_back handles at d there)

-- none of the handles before one holds a domain
abbrev pub NoneBefore : List CamlheapDomain → ℕ → Type 0
NoneBefore handles at = (i : ℕ) (d : CamlheapDomain) → i < at → slice_get handles i ≡ Some d → d.full ≡ false

one_more_none : (handles : List CamlheapDomain) (at : ℕ) (d : CamlheapDomain) → slice_get handles at ≡ Some d → d.full ≡ false → NoneBefore handles at → NoneBefore handles (at + 1)
one_more_none handles at d there empty none i x few is = ⊎_elim
    (λ (before : i < at). none i x before is)
    (λ (here : i ≡ at). let same : Some d ≡ Some x = sym there ∙ (ap (slice_get handles) (sym here) ∙ is) in let e : d ≡ x = cc in subst (λ (y : CamlheapDomain). y.full ≡ false) e empty)
    (below_or_at i at few)

-- and none so far holds a domain
pub still_none : (handles : List CamlheapDomain) (at : ℕ) (d e : CamlheapDomain) → slice_get handles at ≡ Some d → e ≡ d → d.full ≡ false → NoneBefore handles at → (slice_set handles at e ≡ handles) × NoneBefore (slice_set handles at e) (at + 1)
still_none handles at d e there is empty none =
    let same : slice_set handles at e ≡ handles = ap (slice_set handles at) is ∙ set_back handles at d there in
    (same, subst (λ (hs : List CamlheapDomain). NoneBefore hs (at + 1)) (sym same) (one_more_none handles at d there empty none))

pub none_left : {A : Type 0} (xs : List A) → length xs ≡ 0 → xs ≡ []
none_left [] e = refl
none_left (x ∷ xs) e = absurd (omega (arith, e))

-- The first field outside its limit is one of five.
some_is : (a b : ℕ) → Some a ≡ Some b → a ≡ b
some_is a b e = cc

few : (a b c d e : Bool) (n : ℕ) → first_of (if a then Some 1 else (if b then Some 2 else (if c then Some 3 else None))) (if d then Some 4 else (if e then Some 5 else None)) ≡ Some n → (1 ≤ n) × (n < 6)
few true b c d e n is = let same = some_is 1 n is in (omega (arith, same), omega (arith, same))
few false true c d e n is = let same = some_is 2 n is in (omega (arith, same), omega (arith, same))
few false false true d e n is = let same = some_is 3 n is in (omega (arith, same), omega (arith, same))
few false false false true e n is = let same = some_is 4 n is in (omega (arith, same), omega (arith, same))
few false false false false true n is = let same = some_is 5 n is in (omega (arith, same), omega (arith, same))
few false false false false false n is = let clash : None ≡ Some n = is in cc

pub outside_few : (k : Config) (n : ℕ) → first_outside k ≡ Some n → (1 ≤ n) × (n < 6)
outside_few k n is = few (not (fits_domains (sizes_in k))) (not (fits_minor_words (sizes_in k))) (not (fits_pools (sizes_in k))) (not (nat_le k.finals most_room)) (not (nat_le k.ephes most_room)) n is

-- as many domains as the heap has
pub shared_count : (h : SharedHeap) (k : Config) (from n : ℕ) → length (shared_by h (map opened (opening_tokens h.table k from n))) ≡ n
shared_count h k from zero = refl
shared_count h k from (suc n) = ap suc (shared_count h k (from + 1) n)
