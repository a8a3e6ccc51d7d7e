-- The size classes of pools, and where their places lie. Nothing here names a size: the table is checked as a whole.
use Rattle.std.proofs.Common.{◌≡◌, ℕ, zero, suc, ◌+◌, ◌*◌, ◌/◌, ◌<◌, ◌≤◌, Bool, true, false, cond, leb, leb-true, eqb, eqb-true, List, [], ◌∷◌, length, suc-mul, mul-le-mul_right, get_or, refl, ap, subst, arith}
use Rattle.std.proofs.Math.Nat.{mul-le-mul_left, zero-mul}
use Rattle.heap_words.specs.declared.classes.TheConstants.{SIZES}
use Rattle.model_core.specs.Domains.{class_count}
use Rattle.heap_rule.specs.Pools.{size_of, blocks_of}

-- blocks of a class have at least four words, a multiple of four, and fill a pool
record IsSize (n : ℕ) : Type 0 where
  pub least : 4 ≤ n
  pub fours : n / 4 * 4 ≡ n
  pub fills : 4096 / n * n ≡ 4096

-- whether all sizes of a table are so
abbrev all_fill : List ℕ → Bool
all_fill [] = true
all_fill (n ∷ ns) = cond (leb 4 n) (cond (eqb (n / 4 * 4) n) (cond (eqb (4096 / n * n) 4096) (all_fill ns) false) false) false

all_true : (a b c d : Bool) → cond a (cond b (cond c d false) false) false ≡ true → (a ≡ true) × (b ≡ true) × (c ≡ true) × (d ≡ true)
all_true true true true d e = (refl, refl, refl, e)
all_true true true false d e = cc
all_true true false c d e = cc
all_true false b c d e = cc

size_in : (l : List ℕ) (c : ℕ) → all_fill l ≡ true → c < length l → IsSize (get_or l c 0)
size_in [] c all h = absurd (omega arith)
size_in (n ∷ ns) zero all h = let t = all_true (leb 4 n) (eqb (n / 4 * 4) n) (eqb (4096 / n * n) 4096) (all_fill ns) all in record { least = leb-true 4 n t.0; fours = eqb-true (n / 4 * 4) n t.1; fills = eqb-true (4096 / n * n) 4096 t.2 }
size_in (n ∷ ns) (suc c) all h = size_in ns c (all_true (leb 4 n) (eqb (n / 4 * 4) n) (eqb (4096 / n * n) 4096) (all_fill ns) all).3 (omega arith)

its_size : (c : ℕ) → c < class_count → IsSize (size_of c)
unfolding size_of
its_size c h = size_in SIZES c refl h

-- each class has at least four words, and its blocks fill a pool
pub size_least : (c : ℕ) → c < class_count → 4 ≤ size_of c
size_least c h = (its_size c h).least

pub size_fours : (c : ℕ) → c < class_count → size_of c / 4 * 4 ≡ size_of c
size_fours c h = (its_size c h).fours

pub fill : (c : ℕ) → c < class_count → blocks_of c * size_of c ≡ 4096
unfolding blocks_of
fill c h = (its_size c h).fills

pub some_block : (c : ℕ) → c < class_count → (0 < blocks_of c) × (blocks_of c ≤ 1024)
some_block c h =
    let b : ℕ = blocks_of c in
    let z : ℕ = size_of c in
    let most : b * 4 ≤ b * z = mul-le-mul_left b (size_least c h) in
    let all : b * z ≡ 4096 = fill c h in (some b z all, let p : ℕ = b * z in let e : p ≡ 4096 = all in let m : b * 4 ≤ p = most in omega arith)
  where
    some : (b z : ℕ) → b * z ≡ 4096 → 0 < b
    some zero z e = let f : 0 * z ≡ 0 = zero-mul z in absurd (omega arith)
    some (suc b) z e = omega arith

-- a place lies behind another of its pool and class
pub slot_below : (c i j : ℕ) → i < j → i * size_of c + size_of c ≤ j * size_of c
slot_below c i j h =
    let z : ℕ = size_of c in
    let m : suc i * z ≤ j * z = mul-le-mul_right z (let g : suc i ≤ j = omega arith in g) in
    subst (λ (n : ℕ). n ≤ j * z) (suc-mul i z) m

-- a place lies in its pool
pub slot_inside : (c slot : ℕ) → c < class_count → slot < blocks_of c → slot * size_of c + size_of c ≤ 4096
slot_inside c slot few h = subst (λ (n : ℕ). slot * size_of c + size_of c ≤ n) (fill c few) (slot_below c slot (blocks_of c) h)

pub size_most : (c : ℕ) → c < class_count → size_of c ≤ 4096
size_most c h = let z : ℕ = size_of c in let s : 0 * z + z ≤ 4096 = slot_inside c 0 h (some_block c h).0 in let e : 0 * z ≡ 0 = zero-mul z in omega arith

pub size_is : (c : ℕ) → get_or SIZES c 0 ≡ size_of c
unfolding size_of
size_is c = refl

pub blocks_is : (c n : ℕ) → n ≡ size_of c → 4096 / n ≡ blocks_of c
unfolding blocks_of
blocks_is c n e = ap (λ (m : ℕ). 4096 / m) e
