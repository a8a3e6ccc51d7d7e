-- What the domains add up to is what is reachable, each block once.
use Rattle.std.proofs.lemmas.List.Sums.{sum_by-cons}
use Rattle.std.proofs.Common.{◌≡◌, ⊎_elim, ℕ, zero, suc, ◌+◌, ◌<◌, ◌≤◌, arith, Bool, true, false, cond, IsTrue, List, [], ◌∷◌, ◌++◌, length, Some, refl, ap, sym, ◌∙◌, subst}
use Rattle.std.specs.List.{sum_by}
use Rattle.model_core.specs.declared.label.Label.{Label}
use Rattle.model_core.specs.declared.state.State.{State}
use Rattle.model_core.specs.Graph.{Graph, has_label, has_no_repeats, words_at}
use Rattle.model_core.specs.Domains.{queues, roots, reach}
use Rattle.model_core.proofs.Reach.LabelListLemmas.{tally_same, no_repeats_append, length-tally}
use Rattle.model_core.proofs.Reach.ReachLemmas.{has-append_cases, has-append_left, has-append_right}
use Rattle.model_core.proofs.Reach.ReachSizeLemmas.{reachable-no_repeats}
use Rattle.model_core.proofs.Histories.TallyLemmas.{tally, tally-append}
use Rattle.model_cycle.specs.Counting.{CountLaw, total, added_up, IsShareOut, InCount}
use Rattle.model_cycle.specs.Marks.{IsWhole}
use Rattle.model_cycle.specs.Shares.{Layout, OnePlaceEach, AllOwned, at_domain}
use Rattle.model_cycle.specs.Taking.{IsLeft}
use Rattle.model_cycle.proofs.Tracing.{marked_reach}
use Rattle.model_cycle.proofs.Sharing.{last_or, at_cases}

-- the lists of the first domains, one after the other
joined : (ℕ → List Label) → ℕ → List Label
joined own zero = []
joined own (suc n) = joined own n ++ own n

module _ (y : Layout) (one : OnePlaceEach y) (marked : Label → Bool) (own : ℕ → List Label) (out : IsShareOut y marked own) where
  joined_was : (n : ℕ) (l : Label) → IsTrue (has_label (joined own n) l) → (d : ℕ) × (d < n) × IsTrue (has_label (own d) l)
  unfolding joined
  joined_was zero l h = let clash : false ≡ true = h in cc
  joined_was (suc n) l h = ⊎_elim
      (λ a. let t = joined_was n l a in (t.0, omega (arith, t.1), t.2))
      (λ b. (n, omega arith, b))
      (has-append_cases (joined own n) (own n) l h)

  joined_is : (n d : ℕ) (l : Label) → d < n → IsTrue (has_label (own d) l) → IsTrue (has_label (joined own n) l)
  unfolding joined
  joined_is zero d l lt h = absurd (omega arith)
  joined_is (suc n) d l lt h = ⊎_elim
      (λ less. has-append_left (joined own n) (own n) l (joined_is n d l less h))
      (λ same. has-append_right (joined own n) (own n) l (subst (λ z. IsTrue (has_label (own z) l)) same h))
      (last_or d n lt)

  joined_once : (n : ℕ) → IsTrue (has_no_repeats (joined own n))
  unfolding joined
  joined_once zero = refl
  joined_once (suc n) = no_repeats_append (joined own n) (own n) (joined_once n) (out.once n) (λ l a b.
      let t = joined_was n l a in
      let first = out.owned t.0 l t.2 in
      let second = out.owned n l b in
      let place : first.0 ≡ second.0 = one first.0 second.0 l first.1 second.1 in
      let there : y.owner second.0 ≡ Some t.0 = subst (λ z. y.owner z ≡ Some t.0) place first.2 in
      let here : y.owner second.0 ≡ Some n = second.2 in
      let same : t.0 ≡ n = cc in
      let lt = t.1 in
      absurd (omega arith))

  tally_joined : (f : Label → ℕ) (n : ℕ) → tally f (joined own n) ≡ total (λ d. tally f (own d)) n
  unfolding joined
  tally_joined f zero = refl
  tally_joined f (suc n) = tally-append f (joined own n) (own n) ∙ ap (λ z. z + tally f (own n)) (tally_joined f n)

  -- what the domains have of it adds up to the whole
  pub shared_out : (domains : ℕ) → AllOwned domains y marked → (live : List Label) → IsTrue (has_no_repeats live) → ((l : Label) → has_label live l ≡ marked l)
      → (f : Label → ℕ) → total (λ d. tally f (own d)) domains ≡ tally f live
  shared_out domains owned live once same f =
      sym (tally_joined f domains)
      ∙ tally_same f (joined own domains) live (joined_once domains) once
      (λ l h. let t = joined_was domains l h in subst (λ b. IsTrue b) (sym (same l)) (out.owned t.0 l t.2).3)
      (λ l h. let is : IsTrue (marked l) = subst (λ b. IsTrue b) (same l) h in
      let t = owned l is in joined_is domains t.0 l t.2 (out.all t.0 t.1 l t.3 t.4 is))

-- a sum in std's words
sum-tally : {A : Type 0} (f : A → ℕ) (xs : List A) → sum_by f xs ≡ tally f xs
sum-tally f [] = refl
sum-tally f (x ∷ xs) = sum_by-cons f x xs ∙ ap (λ t. f x + t) (sum-tally f xs)

pub total_same : (f g : ℕ → ℕ) → ((d : ℕ) → f d ≡ g d) → (n : ℕ) → total f n ≡ total g n
total_same f g same zero = refl
total_same f g same (suc n) = let a = total_same f g same n in let b = same n in omega (arith, a, b)

-- in a whole cycle what the domains count is what `full_major` answers
pub live_counted : (domains : ℕ) (y : Layout) (s : State) (marked : Label → Bool) (own : ℕ → List Label) → OnePlaceEach y → AllOwned domains y marked → IsShareOut y marked own
    → IsLeft s marked → IsWhole s.graph (roots s (queues s)) marked
    → (total (λ d. length (own d)) domains ≡ length (reach s)) × (total (λ d. sum_by (words_at s.graph) (own d)) domains ≡ sum_by (words_at s.graph) (reach s))
live_counted domains y s marked own one owned out left whole = (
  total_same _ _ (λ d. length-tally (own d)) domains ∙ sums (λ _. 1) ∙ sym (length-tally (reach s)),
  total_same _ _ (λ d. sum-tally (words_at s.graph) (own d)) domains ∙ sums (words_at s.graph) ∙ sym (sum-tally (words_at s.graph) (reach s)),
)
  where
    same : (l : Label) → has_label (reach s) l ≡ marked l
    same l = sym (marked_reach s.graph (roots s (queues s)) marked left.marks.closed left.marks.roots whole l)

    sums : (f : Label → ℕ) → total (λ d. tally f (own d)) domains ≡ tally f (reach s)
    sums = shared_out y one marked own out domains owned (reach s) (reachable-no_repeats s.graph (roots s (queues s))) same

-- a domain adds what it counted
added_other : (added : ℕ → Bool) (f : ℕ → ℕ) (d : ℕ) (n : ℕ) → n ≤ d → added_up (at_domain added d true) f n ≡ added_up added f n
added_other added f d zero le = refl
added_other added f d (suc n) le =
    let rest = added_other added f d n (omega arith) in
    let here : cond (at_domain added d true n) (f n) 0 ≡ cond (added n) (f n) 0 = ⊎_elim
    (λ t. absurd (let same = t.0 in omega arith))
    (λ t. ap (λ b. cond b (f n) 0) t.1)
    (at_cases added d true n) in
    omega (arith, rest, here)

pub adds : (added : ℕ → Bool) (f : ℕ → ℕ) (d : ℕ) (n : ℕ) → d < n → added d ≡ false → added_up (at_domain added d true) f n ≡ added_up added f n + f d
adds added f d zero lt new = absurd (omega arith)
adds added f d (suc n) lt new = ⊎_elim
    (λ t.
    let rest = added_other added f d n (let same = t.0 in omega arith) in
    let now : cond (at_domain added d true n) (f n) 0 ≡ f n = ap (λ b. cond b (f n) 0) t.1 in
    let was : cond (added n) (f n) 0 ≡ 0 = ap (λ b. cond b (f n) 0) (ap added t.0 ∙ new) in
    let val : f n ≡ f d = ap f t.0 in
    omega (arith, rest, now, was, val))
    (λ t.
    let rest = adds added f d n (⊎_elim (λ less. less) (λ same. absurd (t.0 (sym same))) (last_or d n lt)) new in
    let same : cond (at_domain added d true n) (f n) 0 ≡ cond (added n) (f n) 0 = ap (λ b. cond b (f n) 0) t.1 in
    omega (arith, rest, same))
    (at_cases added d true n)

-- once all have added, all is added up
pub added_all : (added : ℕ → Bool) (f : ℕ → ℕ) (n : ℕ) → ((d : ℕ) → d < n → IsTrue (added d)) → added_up added f n ≡ total f n
added_all added f zero all = refl
added_all added f (suc n) all =
    let rest = added_all added f n (λ d lt. all d (omega arith)) in
    let here : cond (added n) (f n) 0 ≡ f n = ap (λ b. cond b (f n) 0) (all n (omega arith)) in
    omega (arith, rest, here)

-- the live words in Sweep: at its start, as a domain adds, and at its end
none_added : (f : ℕ → ℕ) (n : ℕ) → added_up (λ d. false) f n ≡ 0
none_added f zero = refl
none_added f (suc n) = let rest = none_added f n in omega (arith, rest)

module _ (n : ℕ) (y : Layout) (g : Graph) (marked : Label → Bool) (own : ℕ → List Label) where
  pub count_start : IsShareOut y marked own → InCount n y g marked own (λ d. false) 0 0
  count_start out = record { out = out; blocks_are = sym (none_added (λ d. length (own d)) n); words_are = sym (none_added (λ d. sum_by (words_at g) (own d)) n) }

  module _ (added : ℕ → Bool) (blocks words : ℕ) (i : InCount n y g marked own added blocks words) where
    pub count_adds : (d : ℕ) → d < n → added d ≡ false
        → InCount n y g marked own (at_domain added d true) (blocks + length (own d)) (words + sum_by (words_at g) (own d))
    count_adds d lt new =
        let a = adds added (λ k. length (own k)) d n lt new in
        let b = adds added (λ k. sum_by (words_at g) (own k)) d n lt new in
        let blocks_were = i.blocks_are in
        let words_were = i.words_are in
        record { out = i.out; blocks_are = ap (λ z. z + length (own d)) blocks_were ∙ sym a; words_are = ap (λ z. z + sum_by (words_at g) (own d)) words_were ∙ sym b }

pub count_end : (n : ℕ) (y : Layout) (s : State) (marked : Label → Bool) (own : ℕ → List Label) (added : ℕ → Bool) (blocks words : ℕ)
    → InCount n y s.graph marked own added blocks words → OnePlaceEach y → ((d : ℕ) → d < n → IsTrue (added d)) → AllOwned n y marked → IsLeft s marked
    → IsWhole s.graph (roots s (queues s)) marked → (blocks ≡ length (reach s)) × (words ≡ sum_by (words_at s.graph) (reach s))
count_end n y s marked own added blocks words i one all owned left whole =
    let t = live_counted n y s marked own one owned i.out left whole in (
      i.blocks_are ∙ added_all added (λ d. length (own d)) n all ∙ t.0,
      i.words_are ∙ added_all added (λ d. sum_by (words_at s.graph) (own d)) n all ∙ t.1,
    )

pub count_law : CountLaw
count_law = record { start = count_start; adds = count_adds; end = count_end }
