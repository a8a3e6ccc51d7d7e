-- Sums over domains and classes, and counts of words: the copies have room in the pools that are kept for them.
use Rattle.std.proofs.Common.{◌≡◌, ◌≢◌, ℕ, zero, suc, ◌+◌, ◌*◌, ◌/◌, ◌<◌, ◌≤◌, ltb, lt-ltb, le-ltb, Bool, true, false, cond, if◌then◌else◌, suc-mul, zero-le, mul-le-mul_right, lt_of_not-le, List, Option, Some, None, sym, refl, ap, ◌∙◌, subst, arith}
use Rattle.std.proofs.Math.Nat.{mul_assoc}
use mathlib.Core.Logic.{dite}
use native.Mathlib.Decide.{ℕ_discrete, dec_le}
use Rattle.model_core.specs.Domains.{class_count, IsWithinLimits, reserve}
use Rattle.heap_rule.specs.declared.config.Config.{Config}
use Rattle.heap_rule.specs.Limits.{sizes_in}
use Rattle.heap_rule.specs.Layout.{heap_words, listed, cursor}
use Rattle.heap_rule.specs.Places.{Place, Live, Spread, span}
use Rattle.heap_rule.specs.Copies.{Promoting}
use Rattle.heap_rule.specs.Phases.{Pause, sum_of}
use Rattle.heap_rule.specs.Pools.{Stock, size_of, blocks_of}
use Rattle.heap_rule.specs.Room.{count, drawn_in_all, copied_words, Room}
use Rattle.heap_rule.proofs.Classes.{fill}
use Rattle.std.proofs.lemmas.Option.{same_Some}

times_plus : (a b q : ℕ) → (a + b) * q ≡ a * q + b * q
times_plus zero b q = omega arith
times_plus (suc a) b q =
    let x : ℕ = (a + b) * q in let y : ℕ = a * q in let z : ℕ = b * q in
    let e : x ≡ y + z = times_plus a b q in
    let g : suc a + b ≡ suc (a + b) = omega arith in
    ap (λ (n : ℕ). n * q) g ∙ (suc-mul (a + b) q ∙ ((let i : x + q ≡ y + q + z = omega arith in i) ∙ ap (λ (n : ℕ). n + z) (sym (suc-mul a q))))

times_sum : (n a b : ℕ) → n * (a + b) ≡ n * a + n * b
times_sum zero a b = omega arith
times_sum (suc n) a b =
    let x : ℕ = n * a in let y : ℕ = n * b in
    let e : n * (a + b) ≡ x + y = times_sum n a b in
    suc-mul n (a + b) ∙ (ap (λ (z : ℕ). z + (a + b)) e ∙ ((let g : x + y + (a + b) ≡ x + a + (y + b) = omega arith in g) ∙ (λ i. sym (suc-mul n a) i + sym (suc-mul n b) i)))

-- sums
pub sum_le : (f g : ℕ → ℕ) (n : ℕ) → ((i : ℕ) → i < n → f i ≤ g i) → sum_of f n ≤ sum_of g n
sum_le f g zero each = zero-le
sum_le f g (suc n) each =
    let x : ℕ = sum_of f n in let y : ℕ = sum_of g n in let v : ℕ = f n in let w : ℕ = g n in
    let a : x ≤ y = sum_le f g n (λ i h. each i (omega arith)) in
    let b : v ≤ w = each n (omega arith) in
    let z : x + v ≤ y + w = omega arith in z

-- where one of them is less by so much
pub sum_le_more : (f g : ℕ → ℕ) (e j n : ℕ) → j < n → ((i : ℕ) → i < n → f i ≤ g i) → f j + e ≤ g j → sum_of f n + e ≤ sum_of g n
sum_le_more f g e j zero below each more = absurd (omega arith)
sum_le_more f g e j (suc n) below each more =
    let x : ℕ = sum_of f n in let y : ℕ = sum_of g n in let v : ℕ = f n in let w : ℕ = g n in
    dite (ℕ_discrete j n)
    (λ same.
    let a : x ≤ y = sum_le f g n (λ i h. each i (omega arith)) in
    let b : v + e ≤ w = subst (λ (i : ℕ). f i + e ≤ g i) same more in
    let z : x + v + e ≤ y + w = omega arith in z)
    (λ other.
    let a : x + e ≤ y = sum_le_more f g e j n (let o : j ≢ n = other in omega arith) (λ i h. each i (omega arith)) more in
    let b : v ≤ w = each n (omega arith) in
    let z : x + v + e ≤ y + w = omega arith in z)

pub sum_times : (f : ℕ → ℕ) (q n : ℕ) → sum_of (λ i. f i * q) n ≡ sum_of f n * q
sum_times f q zero = omega arith
sum_times f q (suc n) =
    let e : sum_of (λ i. f i * q) n ≡ sum_of f n * q = sum_times f q n in
    ap (λ (x : ℕ). x + f n * q) e ∙ sym (times_plus (sum_of f n) (f n) q)

sum_plus : (f : ℕ → ℕ) (m n : ℕ) → sum_of (λ i. f i + m) n ≡ sum_of f n + n * m
sum_plus f m zero = omega arith
sum_plus f m (suc n) =
    let x : ℕ = sum_of f n in let y : ℕ = n * m in let z : ℕ = f n in
    let e : sum_of (λ i. f i + m) n ≡ x + y = sum_plus f m n in
    ap (λ (w : ℕ). w + (z + m)) e ∙ ((let w : x + y + (z + m) ≡ x + z + (y + m) = omega arith in w) ∙ ap (λ (w : ℕ). x + z + w) (sym (suc-mul n m)))

-- one domain and one class: its copies have the words of all its pools but one
words_pay : (drawn copies blocks size : ℕ) → blocks * size ≡ 4096 → drawn * blocks ≤ copies + blocks → drawn * 4096 ≤ copies * size + 4096
words_pay drawn copies blocks size is le =
    let m : drawn * blocks * size ≤ (copies + blocks) * size = mul-le-mul_right size le in
    let e : drawn * blocks * size ≡ drawn * 4096 = mul_assoc drawn blocks size ∙ ap (λ (x : ℕ). drawn * x) is in
    let f : (copies + blocks) * size ≡ copies * size + 4096 = times_plus copies blocks size ∙ ap (λ (x : ℕ). copies * size + x) is in
    subst (λ (x : ℕ × ℕ). x.0 ≤ x.1) (λ i. (e i, f i)) m

-- of all its pools, where these are used up
words_pay_all : (drawn copies blocks size : ℕ) → blocks * size ≡ 4096 → drawn * blocks ≤ copies → drawn * 4096 ≤ copies * size
words_pay_all drawn copies blocks size is le =
    let m : drawn * blocks * size ≤ copies * size = mul-le-mul_right size le in
    let e : drawn * blocks * size ≡ drawn * 4096 = mul_assoc drawn blocks size ∙ ap (λ (x : ℕ). drawn * x) is in
    subst (λ (x : ℕ). x ≤ copies * size) e m

-- Where the copies of n domains, of so many classes, have no more words than areas of m pools each, and the pools that one of them has drawn for a class are used up, fewer pools are drawn than m for each area and one for each domain and class
pub drawn_below : (n classes m : ℕ) (drawn copies : ℕ → ℕ → ℕ) (blocks size : ℕ → ℕ) (me class : ℕ) → ((c : ℕ) → c < classes → blocks c * size c ≡ 4096) → ((d c : ℕ) → drawn d c * blocks c ≤ copies d c + blocks c)
    → me < n → class < classes → drawn me class * blocks class ≤ copies me class → sum_of (λ d. sum_of (λ c. copies d c * size c) classes) n ≤ n * (m * 4096) → sum_of (λ d. sum_of (drawn d) classes) n + 1 ≤ n * (m + classes)
drawn_below n classes m drawn copies blocks size me class whole fills inside few used fits =
    let words : ℕ → ℕ = λ d. sum_of (λ c. copies d c * size c) classes in
    let pools : ℕ → ℕ = λ d. sum_of (drawn d) classes in
    let pays : (d c : ℕ) → c < classes → drawn d c * 4096 ≤ copies d c * size c + 4096 = (λ d c h. words_pay (drawn d c) (copies d c) (blocks c) (size c) (whole c h) (fills d c)) in
    let of_words : (d : ℕ) → sum_of (λ c. copies d c * size c + 4096) classes ≡ words d + classes * 4096 = (λ d. sum_plus (λ c. copies d c * size c) 4096 classes) in
    let of_pools : (d : ℕ) → sum_of (λ c. drawn d c * 4096) classes ≡ pools d * 4096 = (λ d. sum_times (drawn d) 4096 classes) in
    let each : (d : ℕ) → d < n → pools d * 4096 ≤ words d + classes * 4096 = (λ d _.
    subst (λ (x : ℕ × ℕ). x.0 ≤ x.1) (λ i. (of_pools d i, of_words d i)) (sum_le (λ c. drawn d c * 4096) (λ c. copies d c * size c + 4096) classes (pays d))) in
    let own_class : drawn me class * 4096 + 4096 ≤ copies me class * size class + 4096 =
    (let a : drawn me class * 4096 ≤ copies me class * size class = words_pay_all (drawn me class) (copies me class) (blocks class) (size class) (whole class few) used in
    let x : ℕ = copies me class * size class in let y : ℕ = drawn me class * 4096 in let b : y ≤ x = a in let g : y + 4096 ≤ x + 4096 = omega arith in g) in
    let own : pools me * 4096 + 4096 ≤ words me + classes * 4096 =
    subst (λ (x : ℕ × ℕ). x.0 + 4096 ≤ x.1) (λ i. (of_pools me i, of_words me i)) (sum_le_more (λ c. drawn me c * 4096) (λ c. copies me c * size c + 4096) 4096 class classes few (pays me) own_class) in
    let all : sum_of pools n * 4096 + 4096 ≤ sum_of words n + n * (classes * 4096) =
    subst (λ (x : ℕ × ℕ). x.0 + 4096 ≤ x.1) (λ i. (sum_times pools 4096 n i, sum_plus words (classes * 4096) n i)) (sum_le_more (λ d. pools d * 4096) (λ d. words d + classes * 4096) 4096 me n inside each own) in
    let v : ℕ = sum_of pools n in
    let w : ℕ = sum_of words n in
    let x : ℕ = n * m in
    let y : ℕ = n * classes in
    let most : w ≤ x * 4096 = subst (λ (z : ℕ). w ≤ z) (sym (mul_assoc n m 4096)) fits in
    let total : v * 4096 + 4096 ≤ w + y * 4096 = subst (λ (z : ℕ). v * 4096 + 4096 ≤ w + z) (sym (mul_assoc n classes 4096)) all in
    subst (λ (z : ℕ). v + 1 ≤ z) (sym (times_sum n m classes)) (let g : v + 1 ≤ x + y = omega arith in g)

-- counts of words
bool_cases : (b : Bool) → (b ≡ true → ⊥) → b ≡ false
bool_cases true not_so = absurd (not_so refl)
bool_cases false _ = refl

count_none : (f : ℕ → Bool) (n : ℕ) → ((x : ℕ) → x < n → f x ≡ true → ⊥) → count f n ≡ 0
count_none f zero none = refl
count_none f (suc n) none = λ i. count_none f n (λ x h. none x (omega arith)) i + (if bool_cases (f n) (none n (omega arith)) i then 1 else 0)

bit_few : (b : Bool) (m n : ℕ) → m ≤ n → m + (if b then 1 else 0) ≤ suc n
bit_few true m n l = omega arith
bit_few false m n l = omega arith

-- those above p are no more than there are
pub count_above : (f : ℕ → Bool) (p n : ℕ) → ((x : ℕ) → f x ≡ true → p < x) → count f (p + n + 1) ≤ n
count_above f p zero above =
    let e : p + 0 + 1 ≡ p + 1 = omega arith in
    let c : count f (p + 1) ≡ 0 = count_none f (p + 1) (λ x h t. let a : p < x = above x t in omega arith) in
    subst (λ (m : ℕ). count f m ≤ 0) (sym e) (let m : ℕ = count f (p + 1) in let g : m ≡ 0 = c in let o : m ≤ 0 = omega arith in o)
count_above f p (suc n) above =
    let e : p + suc n + 1 ≡ suc (p + n + 1) = omega arith in
    subst (λ (m : ℕ). count f m ≤ suc n) (sym e) (bit_few (f (p + n + 1)) (count f (p + n + 1)) n (count_above f p n above))

-- the words of an interval join those that were counted
abbrev pub joined_with : (ℕ → Bool) → ℕ → ℕ → ℕ → Bool
joined_with f a w x = cond (ltb x a) (f x) (cond (ltb x (a + w)) true (f x))

joined_below : (f : ℕ → Bool) (a w x : ℕ) → x < a → joined_with f a w x ≡ f x
joined_below f a w x h = ap (λ (b : Bool). cond b (f x) (cond (ltb x (a + w)) true (f x))) (lt-ltb x a h)

joined_inside : (f : ℕ → Bool) (a w x : ℕ) → a ≤ x → x < a + w → joined_with f a w x ≡ true
joined_inside f a w x l h = ap (λ (b : Bool). cond b (f x) (cond (ltb x (a + w)) true (f x))) (le-ltb x a l) ∙ ap (λ (b : Bool). cond b true (f x)) (lt-ltb x (a + w) h)

joined_past : (f : ℕ → Bool) (a w x : ℕ) → a + w ≤ x → joined_with f a w x ≡ f x
joined_past f a w x h = ap (λ (b : Bool). cond b (f x) (cond (ltb x (a + w)) true (f x))) (le-ltb x a (omega arith)) ∙ ap (λ (b : Bool). cond b true (f x)) (le-ltb x (a + w) h)

count_step : (f g : ℕ → Bool) (n : ℕ) → count f n ≡ count g n → f n ≡ g n → count f (suc n) ≡ count g (suc n)
count_step f g n e h = λ i. e i + (if h i then 1 else 0)

count_below : (f : ℕ → Bool) (a w n : ℕ) → n ≤ a → count (joined_with f a w) n ≡ count f n
count_below f a w zero h = refl
count_below f a w (suc n) h = count_step (joined_with f a w) f n (count_below f a w n (omega arith)) (joined_below f a w n (omega arith))

count_inside : (f : ℕ → Bool) (a w n : ℕ) → ((x : ℕ) → a ≤ x → x < a + w → f x ≡ false) → n ≤ w → count (joined_with f a w) (a + n) ≡ count f (a + n) + n
count_inside f a w zero free h =
    let e : a + 0 ≡ a = omega arith in
    let c : ℕ = count f a in
    let g : c ≡ c + 0 = omega arith in
    ap (count (joined_with f a w)) e ∙ (count_below f a w a (omega arith) ∙ (g ∙ ap (λ (x : ℕ). count f x + 0) (sym e)))
count_inside f a w (suc n) free h =
    let x : ℕ = a + n in
    let e : a + suc n ≡ suc x = omega arith in
    let before : count (joined_with f a w) x ≡ count f x + n = count_inside f a w n free (omega arith) in
    let new : joined_with f a w x ≡ true = joined_inside f a w x (omega arith) (omega arith) in
    let old : f x ≡ false = free x (omega arith) (omega arith) in
    let q : ℕ = count f x in
    let z : q + n + 1 ≡ q + 0 + suc n = omega arith in
    ap (count (joined_with f a w)) e ∙ ((λ i. before i + (if new i then 1 else 0)) ∙ (z ∙ ((λ i. count f x + (if sym old i then 1 else 0) + suc n) ∙ ap (λ (y : ℕ). count f y + suc n) (sym e))))

pub count_joined : (f : ℕ → Bool) (a w n : ℕ) → ((x : ℕ) → a ≤ x → x < a + w → f x ≡ false) → a + w ≤ n → count (joined_with f a w) n ≡ count f n + w
count_joined f a w zero free h = (let z : 0 ≡ 0 + w = omega arith in z)
count_joined f a w (suc n) free h = dite (ℕ_discrete (suc n) (a + w))
    (λ e. ap (count (joined_with f a w)) e ∙ (count_inside f a w w free (omega arith) ∙ ap (λ (x : ℕ). count f x + w) (sym e)))
    (λ other.
    let rest : count (joined_with f a w) n ≡ count f n + w = count_joined f a w n free (let o : suc n ≢ a + w = other in omega arith) in
    let same : joined_with f a w n ≡ f n = joined_past f a w n (let o : suc n ≢ a + w = other in omega arith) in
    let q : ℕ = count f n in
    let c : ℕ = if f n then 1 else 0 in
    let z : q + w + c ≡ q + c + w = omega arith in
    (λ i. rest i + (if same i then 1 else 0)) ∙ z)

-- a word among them was counted before or lies in the interval
pub joined_cases : (f : ℕ → Bool) (a w x : ℕ) {A : Type 0} → joined_with f a w x ≡ true → (f x ≡ true → A) → (a ≤ x → x < a + w → A) → A
joined_cases f a w x e was new = dite (dec_le a x)
    (λ le. dite (dec_le (a + w) x)
    (λ past. was (sym (joined_past f a w x past) ∙ e))
    (λ not_past. new le (lt_of_not-le not_past)))
    (λ gt. was (sym (joined_below f a w x (lt_of_not-le gt)) ∙ e))

forwards_not : (p q : Place) (c : ℕ) → p.forward ≡ None → q.forward ≡ Some c → q ≡ p → ⊥
forwards_not p q c none some same = let e : ◌≡◌ {A = Option ℕ} None (Some c) = sym none ∙ (sym (ap (λ (z : Place). z.forward) same) ∙ some) in cc

module _ (k : Config) (live : Live) (pause : Pause) (s : Stock) (words : List ℕ) (room : Room k live pause s words) where
  -- the words of the blocks that were copied are words of minor areas
  pub claimed_few : count s.claimed (heap_words k + 1) ≤ k.domains * k.minor_words
  claimed_few = count_above s.claimed (k.pools * 4096) (k.domains * k.minor_words) (λ x e. let c = room.claims x e in let y : k.pools * 4096 < c.block = c.young in let f : c.block ≤ x = c.from in omega arith)

  -- Where a block lives in a minor area, and the pools that a domain has drawn for a class are used up, a pool is to be had
  pub room_left : IsWithinLimits (sizes_in k) → (me class : ℕ) → me < k.domains → class < class_count → s.drawn me class * blocks_of class ≤ s.copies me class → Promoting pause → (a : ℕ) (q : Place) → live a ≡ Some q → k.pools * 4096 < a → cursor words < listed words
  room_left limits me class inside few used promoting a q lives young =
      let m : ℕ = k.minor_words / 4096 in
      let whole : m * 4096 ≡ k.minor_words = (let w = limits.whole_pools in omega arith) in
      let fits : sum_of (copied_words s) k.domains ≤ k.domains * (m * 4096) = subst (λ (n : ℕ). sum_of (copied_words s) k.domains ≤ k.domains * n) (sym whole) (
      let x : ℕ = sum_of (copied_words s) k.domains in let y : ℕ = count s.claimed (heap_words k + 1) in let z : ℕ = k.domains * k.minor_words in
      let f : x ≤ y = room.fit in let g : y ≤ z = claimed_few in let o : x ≤ z = omega arith in o) in
      let below : drawn_in_all k s + 1 ≤ k.domains * (m + class_count) = drawn_below k.domains class_count m s.drawn s.copies blocks_of size_of me class fill room.fills inside few used fits in
      let left : cursor words + reserve (sizes_in k) ≤ listed words + drawn_in_all k s = room.left promoting a q lives young in
      let v : ℕ = drawn_in_all k s in let z : ℕ = reserve (sizes_in k) in let c : ℕ = cursor words in let l : ℕ = listed words in
      let b : v + 1 ≤ z = below in let f : c + z ≤ l + v = left in let o : c < l = omega arith in o

  -- the words of a block that wasn't copied join those of the blocks that were
  module _ (spread : Spread k live) (a : ℕ) (p : Place) (lives : live a ≡ Some p) (bare : p.forward ≡ None) (young : k.pools * 4096 < a) where
    pub unclaimed : (x : ℕ) → a ≤ x → x < a + span p.shape → s.claimed x ≡ false
    unclaimed x from to = bool_cases (s.claimed x) (λ e.
        let c = room.claims x e in
        let u : ℕ = span p.shape in
        let v : ℕ = span c.place.shape in
        let b : ℕ = c.block in
        let low : b ≤ x = c.from in
        let high : x < b + v = c.to in
        let high' : x < a + u = to in
        let low' : a ≤ x = from in
        dite (ℕ_discrete b a)
        (λ same. forwards_not p c.place c.copy bare c.forwards (same_Some c.place p (sym c.lives ∙ (ap live same ∙ lives))))
        (λ other. dite (dec_le a b)
        (λ le. let g : a + u ≤ b = spread.apart a b p c.place lives c.lives young (let o : b ≢ a = other in omega arith) in omega arith)
        (λ gt. let g : b + v ≤ a = spread.apart b a c.place p c.lives lives c.young (lt_of_not-le gt) in omega arith)))

    pub claim_counts : count (joined_with s.claimed a (span p.shape)) (heap_words k + 1) ≡ count s.claimed (heap_words k + 1) + span p.shape
    claim_counts = count_joined s.claimed a (span p.shape) (heap_words k + 1) unclaimed (spread.inside a p lives young)

    -- so they have room in the minor areas
    pub claim_few : sum_of (copied_words s) k.domains + span p.shape ≤ k.domains * k.minor_words
    claim_few =
        let above : (x : ℕ) → joined_with s.claimed a (span p.shape) x ≡ true → k.pools * 4096 < x = (λ x e. joined_cases s.claimed a (span p.shape) x e
        (λ was. let c = room.claims x was in let y : k.pools * 4096 < c.block = c.young in let f : c.block ≤ x = c.from in omega arith)
        (λ from to. omega arith)) in
        let few : count (joined_with s.claimed a (span p.shape)) (heap_words k + 1) ≤ k.domains * k.minor_words = count_above (joined_with s.claimed a (span p.shape)) (k.pools * 4096) (k.domains * k.minor_words) above in
        let u : ℕ = span p.shape in
        let x : ℕ = sum_of (copied_words s) k.domains in
        let y : ℕ = count s.claimed (heap_words k + 1) in
        let z : ℕ = k.domains * k.minor_words in
        let f : x ≤ y = room.fit in
        let g : y + u ≤ z = subst (λ (n : ℕ). n ≤ z) claim_counts few in
        let o : x + u ≤ z = omega arith in o
