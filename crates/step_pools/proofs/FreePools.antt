-- The pools whose owner words say nobody.
use Rattle.std.proofs.Common.{◌≡◌, ◌≢◌, ℕ, zero, suc, ◌+◌, ◌<◌, ◌≤◌, ◌==◌, if◌then◌else◌, true, false, Bool, List, [], ◌∷◌, ◌++◌, length, slice_get, Some, refl, ap, eqb-true, eq-eqb, ne_eqb, append-nil, ◌∙◌, subst, arith}
use Rattle.step_pools.specs.Listings.{free_from}

-- the pool q goes before those behind it, if it is free
abbrev pub put : Bool → ℕ → List ℕ → List ℕ
put b q rest = if b then q ∷ rest else rest

put_append : (b : Bool) (q : ℕ) (rest more : List ℕ) → put b q (rest ++ more) ≡ put b q rest ++ more
put_append true q rest more = refl
put_append false q rest more = refl

-- one owner word more
pub free_more : (q w : ℕ) (ws : List ℕ) → free_from q (ws ++ w ∷ []) ≡ free_from q ws ++ put (w == 0) (q + length ws) []
unfolding free_from
free_more q w [] = let e : q ≡ q + 0 = omega arith in ap (λ (n : ℕ). put (w == 0) n []) e
free_more q w (v ∷ vs) =
    let e : q + 1 + length vs ≡ q + suc (length vs) = omega arith in
    ap (put (v == 0) q) (free_more (q + 1) w vs ∙ ap (λ (n : ℕ). free_from (q + 1) vs ++ put (w == 0) n []) e) ∙ put_append (v == 0) q (free_from (q + 1) vs) (put (w == 0) (q + suc (length vs)) [])

-- p is one of these pools
pub record IsFree (q p : ℕ) (ws : List ℕ) : Type 0 where
  pub low : q ≤ p
  pub inside : p < q + length ws
  pub word : (i : ℕ) → p ≡ q + i → slice_get ws i ≡ Some 0

later : (q p w : ℕ) (ws : List ℕ) → IsFree (q + 1) p ws → IsFree q p (w ∷ ws)
later q p w ws t = record {
  low = let l = t.low in omega arith;
  inside = let n : ℕ = length ws in let f : p < q + 1 + n = t.inside in let o : p < q + suc n = omega arith in o;
  word = at_word;
} where
  at_word : (m : ℕ) → p ≡ q + m → slice_get (w ∷ ws) m ≡ Some 0
  at_word zero is = let l = t.low in absurd (omega arith)
  at_word (suc m) is = t.word m (omega arith)

first : (q w : ℕ) (ws : List ℕ) → w ≡ 0 → IsFree q q (w ∷ ws)
first q w ws none = record {
  low = omega arith;
  inside = let n : ℕ = length ws in let o : q < q + suc n = omega arith in o;
  word = at_word;
} where
  at_word : (m : ℕ) → q ≡ q + m → slice_get (w ∷ ws) m ≡ Some 0
  at_word zero is = ap Some none
  at_word (suc m) is = absurd (omega arith)

put_free : (b : Bool) (q i p w : ℕ) (ws : List ℕ) → (w == 0) ≡ b → ((j : ℕ) → slice_get (free_from (q + 1) ws) j ≡ Some p → IsFree q p (w ∷ ws)) → slice_get (put b q (free_from (q + 1) ws)) i ≡ Some p → IsFree q p (w ∷ ws)
put_free false q i p w ws is rest got = rest i got
put_free true q zero p w ws is rest got = let here : q ≡ p = cc in subst (λ (n : ℕ). IsFree q n (w ∷ ws)) here (first q w ws (eqb-true w 0 is))
put_free true q (suc i) p w ws is rest got = rest i got

-- each of them is one
pub free_there : (q i p : ℕ) (ws : List ℕ) → slice_get (free_from q ws) i ≡ Some p → IsFree q p ws
unfolding free_from
free_there q i p [] e = cc
free_there q i p (w ∷ ws) e = put_free (w == 0) q i p w ws refl (λ j got. later q p w ws (free_there (q + 1) j p ws got)) e

put_later : (b : Bool) (q i p : ℕ) (rest : List ℕ) → slice_get rest i ≡ Some p → (j : ℕ) × (slice_get (put b q rest) j ≡ Some p)
put_later true q i p rest got = (suc i, got)
put_later false q i p rest got = (i, got)

put_here : (b : Bool) (q : ℕ) (rest : List ℕ) → b ≡ true → slice_get (put b q rest) 0 ≡ Some q
put_here true q rest is = refl
put_here false q rest is = cc

-- each pool that is free is one of them
pub free_all : (q p : ℕ) (ws : List ℕ) → slice_get ws p ≡ Some 0 → (i : ℕ) × (slice_get (free_from q ws) i ≡ Some (q + p))
unfolding free_from
free_all q p [] e = cc
free_all q zero (w ∷ ws) e =
    let none : w ≡ 0 = cc in
    let here : q ≡ q + 0 = omega arith in
    (0, put_here (w == 0) q (free_from (q + 1) ws) (eq-eqb w 0 none) ∙ ap Some here)
free_all q (suc p) (w ∷ ws) e =
    let rest = free_all (q + 1) p ws e in
    let there : q + 1 + p ≡ q + suc p = omega arith in
    put_later (w == 0) q rest.0 (q + suc p) (free_from (q + 1) ws) (rest.1 ∙ ap Some there)

put_once : (b : Bool) (q i j p : ℕ) (ws : List ℕ) → ((m : ℕ) → slice_get (free_from (q + 1) ws) m ≡ Some p → q < p) → ((m n : ℕ) → slice_get (free_from (q + 1) ws) m ≡ Some p → slice_get (free_from (q + 1) ws) n ≡ Some p → m ≡ n)
    → slice_get (put b q (free_from (q + 1) ws)) i ≡ Some p → slice_get (put b q (free_from (q + 1) ws)) j ≡ Some p → i ≡ j
put_once false q i j p ws above once e g = once i j e g
put_once true q zero zero p ws above once e g = refl
put_once true q zero (suc j) p ws above once e g = let here : q ≡ p = cc in let a = above j g in absurd (omega arith)
put_once true q (suc i) zero p ws above once e g = let here : q ≡ p = cc in let a = above i e in absurd (omega arith)
put_once true q (suc i) (suc j) p ws above once e g = ap suc (once i j e g)

-- and no two are the same
pub free_once : (q i j p : ℕ) (ws : List ℕ) → slice_get (free_from q ws) i ≡ Some p → slice_get (free_from q ws) j ≡ Some p → i ≡ j
unfolding free_from
free_once q i j p [] e g = cc
free_once q i j p (w ∷ ws) e g = put_once (w == 0) q i j p ws (λ m got. let l = (free_there (q + 1) m p ws got).low in omega arith) (λ m n a b. free_once (q + 1) m n p ws a b) e g

put_few : (b : Bool) (q : ℕ) (rest : List ℕ) (n : ℕ) → length rest ≤ n → length (put b q rest) ≤ suc n
put_few true q rest n few = omega arith
put_few false q rest n few = omega arith

-- they are no more than the pools
pub free_few : (q : ℕ) (ws : List ℕ) → length (free_from q ws) ≤ length ws
unfolding free_from
free_few q [] = omega arith
free_few q (w ∷ ws) = put_few (w == 0) q (free_from (q + 1) ws) (length ws) (free_few (q + 1) ws)

-- a pool that is free goes last, another doesn't
pub free_last : (ws : List ℕ) (w : ℕ) → w ≡ 0 → free_from 0 (ws ++ w ∷ []) ≡ free_from 0 ws ++ length ws ∷ []
free_last ws w none = free_more 0 w ws ∙ (ap (λ (v : ℕ). free_from 0 ws ++ put (v == 0) (0 + length ws) []) none ∙ (let e : 0 + length ws ≡ length ws = omega arith in ap (λ (n : ℕ). free_from 0 ws ++ n ∷ []) e))

pub free_same : (ws : List ℕ) (w : ℕ) → w ≢ 0 → free_from 0 (ws ++ w ∷ []) ≡ free_from 0 ws
free_same ws w some = free_more 0 w ws ∙ (ap (λ (b : Bool). free_from 0 ws ++ put b (0 + length ws) []) (ne_eqb w 0 some) ∙ append-nil (free_from 0 ws))
