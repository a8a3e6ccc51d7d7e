-- Bounds on the numbers of a heap within its limits.
use Rattle.std.proofs.Common.{◌≡◌, ℕ, suc, ◌+◌, ◌*◌, ◌^◌, ◌<◌, ◌≤◌, suc-mul, mul-le-mul_right, subst, arith, rules, Option, Some, None, ◌⊎◌, inr, refl}
use Rattle.model_core.specs.Domains.{IsWithinLimits, first_outside as outside_sizes}
use Rattle.model_core.specs.declared.state.Sizes.{Sizes}
use Rattle.heap_rule.specs.declared.config.Config.{Config}
use Rattle.heap_rule.specs.Limits.{sizes_in, first_of, outside_rooms, first_outside}
use Rattle.heap_rule.specs.Layout.{heap_words, base_of}

-- the areas of two domains lie one behind the other
pub area_below : (k : Config) (d e : ℕ) → d < e → base_of k d + k.minor_words ≤ base_of k e
area_below k d e below =
    let m : suc d * k.minor_words ≤ e * k.minor_words = mul-le-mul_right k.minor_words below in
    let s = suc-mul d k.minor_words in
    let x : ℕ = d * k.minor_words in
    let y : ℕ = e * k.minor_words in
    let n : ℕ = k.minor_words in
    let m' : x + n ≤ y = subst (λ (z : ℕ). z ≤ y) s m in
    let p : ℕ = k.pools * 4096 in
    let z : p + x + 1 + n ≤ p + y + 1 = omega arith in z

pub area_inside : (k : Config) (d : ℕ) → d < k.domains → base_of k d + k.minor_words ≤ heap_words k + 1
area_inside k d below = let h : base_of k d + k.minor_words ≤ base_of k k.domains = area_below k d k.domains below in h

-- the heap of the largest limits has fewer than 2^24 words
pub heap_small : (k : Config) → IsWithinLimits (sizes_in k) → heap_words k < 2 ^ 24
heap_small k limits =
    let n : ℕ = k.domains in
    let m : ℕ = k.minor_words in
    let few : n ≤ 8 = limits.domains in
    let small : m ≤ 65536 = limits.minor_words in
    let a : n * m ≤ 8 * m = mul-le-mul_right m few in
    let x : ℕ = n * m in
    let b : x ≤ 8 * m = a in
    let p : k.pools ≤ 2048 = limits.pools in
    let z : k.pools * 4096 + x < 2 ^ 24 = omega arith in z

-- there is room for the shared block
pub heap_large : (k : Config) → IsWithinLimits (sizes_in k) → 4096 ≤ heap_words k
heap_large k limits = let p = limits.some_pools in let x : ℕ = k.domains * k.minor_words in let some : 1 ≤ k.pools = omega arith in let z : 4096 ≤ k.pools * 4096 + x = omega arith in z

-- where the first of two is nothing
pub first_none : (a b : Option ℕ) → first_of a b ≡ None → a ≡ None
first_none (Some n) b e = cc
first_none None b e = refl

within_sizes : (z : Sizes) → (z.classes ≡ 6) ⊎ (z.classes ≡ 9) → outside_sizes z ≡ None → IsWithinLimits z
within_sizes z classes fits = search rules

-- where no field is outside its limit
pub within : (k : Config) → first_outside k ≡ None → IsWithinLimits (sizes_in k)
within k fits = within_sizes (sizes_in k) (inr refl) (first_none (outside_sizes (sizes_in k)) (outside_rooms k) fits)

pub some_pool : (k : Config) → IsWithinLimits (sizes_in k) → 1 ≤ k.pools
some_pool k limits = let h = limits.some_pools in omega arith
