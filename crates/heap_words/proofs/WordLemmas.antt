-- Two things with one word are one.
use Rattle.std.proofs.Common.{◌≡◌, ℕ, ◌+◌, ◌*◌, ◌^◌, ◌≤◌, ◌<◌, Bool, true, false, arith, refl, ap}
use Rattle.heap_words.specs.declared.head.Head.{Head}
use Rattle.heap_words.specs.declared.head.Head.TheVariants.{Free, Plain, Ephe, Forward}
use Rattle.heap_words.specs.declared.value.Value.{Value}
use Rattle.heap_words.specs.declared.value.Value.TheVariants.{Int, Ref, Nothing}
use Rattle.heap_words.specs.Heads.{IsPackableHead, head_word, bit_of}
use Rattle.heap_words.specs.Labels.{label_word}
use Rattle.heap_words.specs.Values.{IsPackable, value_word}
use Rattle.std.proofs.lemmas.Int.{ints}

pub value_word-injective : (v w : Value) → IsPackable v → IsPackable w → value_word v ≡ value_word w → v ≡ w
value_word-injective (Int a) (Int b) p q e = ap Int (omega (arith, ints))
value_word-injective (Int a) (Ref b) p q e = absurd (omega (arith, ints))
value_word-injective (Int a) Nothing p q e = absurd (omega (arith, ints))
value_word-injective (Ref a) (Int b) p q e = absurd (omega (arith, ints))
value_word-injective (Ref a) (Ref b) p q e = ap Ref (omega arith)
value_word-injective (Ref a) Nothing p q e = absurd (omega arith)
value_word-injective Nothing (Int b) p q e = absurd (omega (arith, ints))
value_word-injective Nothing (Ref b) p q e = absurd (omega arith)
value_word-injective Nothing Nothing p q e = refl

pub label_word-injective : (d s k t : ℕ) → d < 8 → k < 8 → label_word d s ≡ label_word k t → (d ≡ k) × (s ≡ t)
label_word-injective d s k t p q e = (omega arith, omega arith)

-- a bit tells its mark
bit_of-injective : (a b : Bool) → bit_of a ≡ bit_of b → a ≡ b
bit_of-injective true true e = refl
bit_of-injective false false e = refl
bit_of-injective true false e = absurd (omega arith)
bit_of-injective false true e = absurd (omega arith)

bit_of-fits : (b : Bool) → bit_of b ≤ 1
bit_of-fits true = omega arith
bit_of-fits false = omega arith

pub head_word-injective : (h k : Head) → IsPackableHead h → IsPackableHead k → head_word h ≡ head_word k → h ≡ k
head_word-injective Free Free p q e = refl
head_word-injective Free (Plain n t c s) p q e = absurd (omega arith)
head_word-injective Free (Ephe n c s) p q e = absurd (omega arith)
head_word-injective Free (Forward a) p q e = absurd (omega arith)
head_word-injective (Plain n t c s) Free p q e = absurd (omega arith)
head_word-injective (Plain n t c s) (Plain m u d r) p q e =
    let first = bit_of-fits s in
    let second = bit_of-fits r in
    let size : n ≡ m = omega arith in
    let tag : t ≡ u = omega arith in
    let colour : c ≡ d = omega arith in
    let scanned : s ≡ r = bit_of-injective s r (omega arith) in
    cc
head_word-injective (Plain n t c s) (Ephe m d r) p q e = absurd (omega arith)
head_word-injective (Plain n t c s) (Forward a) p q e = absurd (omega arith)
head_word-injective (Ephe n c s) Free p q e = absurd (omega arith)
head_word-injective (Ephe n c s) (Plain m u d r) p q e = absurd (omega arith)
head_word-injective (Ephe n c s) (Ephe m d r) p q e =
    let first = bit_of-fits s in
    let second = bit_of-fits r in
    let keys : n ≡ m = omega arith in
    let colour : c ≡ d = omega arith in
    let scanned : s ≡ r = bit_of-injective s r (omega arith) in
    cc
head_word-injective (Ephe n c s) (Forward a) p q e = absurd (omega arith)
head_word-injective (Forward a) Free p q e = absurd (omega arith)
head_word-injective (Forward a) (Plain m u d r) p q e = absurd (omega arith)
head_word-injective (Forward a) (Ephe m d r) p q e = absurd (omega arith)
head_word-injective (Forward a) (Forward b) p q e = ap Forward (omega arith)
