-- Where a seat stands for all domains, one of them acts in the phase.
use Rattle.std.proofs.Common.{◌≡◌, ◌≢◌, ⊎_elim, ℕ, zero, suc, ◌+◌, ◌*◌, ◌<◌, ◌≤◌, inl, inr, List, [], ◌∷◌, length, refl, ap, ◌∙◌, subst, arith}
use Rattle.std.proofs.lemmas.Bool.{cases_eq, cases_lt}
use Rattle.std.proofs.Math.Nat.{mul-suc}
use mathlib.Core.Option.{some}
use lib.ListN.{get_elem?}
use Rattle.heap_rule.specs.declared.config.Config.{Config}
use Rattle.heap_rule.specs.declared.view.DomainView.{DomainView}
use Rattle.heap_rule.specs.declared.view.View.{View}
use Rattle.heap_rule.specs.Phases.{sum_of}
use Rattle.heap_rule.specs.Rule.{Good, Rule}
use Rattle.heap_rule.specs.Views.{AllDomains, Distinct, IsSeated, SomeDomain}
use Rattle.heap_rule.proofs.Keeps.{Words}
use Rattle.heap_rule.proofs.Lists.{domains_map, some_with}

-- 1 at one number
abbrev hit : ℕ → ℕ → ℕ
hit zero zero = 1
hit zero (suc k) = 0
hit (suc a) zero = 0
hit (suc a) (suc k) = hit a k

hit_same : (a : ℕ) → hit a a ≡ 1
hit_same zero = refl
hit_same (suc a) = hit_same a

hit_other : (a k : ℕ) → a ≢ k → hit a k ≡ 0
hit_other zero zero other = absurd (other refl)
hit_other zero (suc k) other = refl
hit_other (suc a) zero other = refl
hit_other (suc a) (suc k) other = hit_other a k (λ e. other (ap suc e))

-- sums
sum_add : (f g : ℕ → ℕ) (n : ℕ) → sum_of (λ k. f k + g k) n ≡ sum_of f n + sum_of g n
sum_add f g zero = refl
sum_add f g (suc n) = let rest = sum_add f g n in omega (arith, rest)

sum_past : (a n : ℕ) → n ≤ a → sum_of (hit a) n ≡ 0
sum_past a zero past = refl
sum_past a (suc n) past =
    let rest = sum_past a n (omega (arith, past)) in
    let here = hit_other a n (λ e. omega (arith, e, past)) in
    omega (arith, rest, here)

sum_hit : (a n : ℕ) → a < n → sum_of (hit a) n ≡ 1
sum_hit a zero below = absurd (omega (arith, below))
sum_hit a (suc n) below =
    ⊎_elim
    (λ (same : a ≡ n).
    let rest = sum_past a n (omega (arith, same)) in
    let here : hit a n ≡ 1 = subst (λ k. hit a k ≡ 1) same (hit_same a) in
    omega (arith, rest, here))
    (λ (other : a ≢ n).
    let rest = sum_hit a n (omega (arith, below, other)) in
    let here = hit_other a n other in
    omega (arith, rest, here))
    (cases_eq a n)

sum_few : (f : ℕ → ℕ) (n : ℕ) → ((k : ℕ) → f k ≤ 1) → sum_of f n ≤ n
sum_few f zero few = omega arith
sum_few f (suc n) few = let rest = sum_few f n few in let here = few n in omega (arith, rest, here)

sum_less : (f : ℕ → ℕ) (d n : ℕ) → ((k : ℕ) → f k ≤ 1) → d < n → f d ≡ 0 → sum_of f n + 1 ≤ n
sum_less f d zero few below none = absurd (omega (arith, below))
sum_less f d (suc n) few below none =
    ⊎_elim
    (λ (same : d ≡ n).
    let here : f n ≡ 0 = subst (λ k. f k ≡ 0) same none in
    let rest = sum_few f n few in
    omega (arith, here, rest))
    (λ (other : d ≢ n).
    let rest = sum_less f d n few (omega (arith, below, other)) none in
    let here = few n in
    omega (arith, rest, here))
    (cases_eq d n)

-- how often a number stands among these domains
abbrev count : List DomainView → ℕ → ℕ
count [] k = 0
count (x ∷ xs) k = hit x.own.number k + count xs k

none_there : (a : ℕ) (xs : List DomainView) → AllDomains (λ y. y.own.number ≢ a) xs → count xs a ≡ 0
none_there a [] apart = refl
none_there a (x ∷ xs) apart =
    let here = hit_other x.own.number a apart.0 in
    let rest = none_there a xs apart.1 in
    omega (arith, here, rest)

once : (xs : List DomainView) → Distinct xs → (k : ℕ) → count xs k ≤ 1
once [] apart k = omega arith
once (x ∷ xs) apart k =
    ⊎_elim
    (λ (same : x.own.number ≡ k).
    let none = none_there x.own.number xs apart.0 in
    let rest : count xs k ≡ 0 = subst (λ n. count xs n ≡ 0) same none in
    let here : hit x.own.number k ≡ 1 = subst (λ n. hit x.own.number n ≡ 1) same (hit_same x.own.number) in
    omega (arith, rest, here))
    (λ (other : x.own.number ≢ k).
    let here = hit_other x.own.number k other in
    let rest = once xs apart.1 k in
    omega (arith, here, rest))
    (cases_eq x.own.number k)

all_counted : (xs : List DomainView) (n : ℕ) → AllDomains (λ y. y.own.number < n) xs → sum_of (count xs) n ≡ length xs
all_counted [] n within = zeros n
  where
    zeros : (n : ℕ) → sum_of (λ k. 0) n ≡ 0
    zeros zero = refl
    zeros (suc n) = let rest = zeros n in omega (arith, rest)
all_counted (x ∷ xs) n within =
    let here = sum_hit x.own.number n within.0 in
    let rest = all_counted xs n within.1 in
    let both = sum_add (hit x.own.number) (count xs) n in
    omega (arith, here, rest, both)

-- one that stands there
found : (xs : List DomainView) (k : ℕ) → 1 ≤ count xs k → SomeDomain (λ x. x.own.number ≡ k) xs
found [] k there = absurd (omega (arith, there))
found (x ∷ xs) k there =
    ⊎_elim
    (λ (same : x.own.number ≡ k). inl same)
    (λ (other : x.own.number ≢ k). inr (found xs k (let here = hit_other x.own.number k other in omega (arith, here, there))))
    (cases_eq x.own.number k)

-- so where there are as many of them as numbers, each number stands there
each_there : (xs : List DomainView) (n d : ℕ) → Distinct xs → AllDomains (λ y. y.own.number < n) xs → length xs ≡ n → d < n → SomeDomain (λ x. x.own.number ≡ d) xs
each_there xs n d apart within many below =
    let few = once xs apart in
    let sum = all_counted xs n within in
    found xs d
    (⊎_elim
    (λ (none : count xs d ≡ 0). absurd (let less = sum_less (count xs) d n few below none in omega (arith, less, sum, many)))
    (λ (there : count xs d ≢ 0). omega (arith, there))
    (cases_eq (count xs d) 0))

-- where not all have arrived once more, some domain acts in the phase
someone_acts : (f : ℕ → ℕ) (p n : ℕ) → sum_of f n < (p + 1) * n → (d : ℕ) × (d < n) × (f d ≤ p)
someone_acts f p zero few = absurd (let none : (p + 1) * 0 ≡ 0 = omega arith in omega (arith, few, none))
someone_acts f p (suc m) few =
    ⊎_elim
    (λ (here : f m < p + 1). (m, omega arith, omega (arith, here)))
    (λ (late : p + 1 ≤ f m).
    let times : (p + 1) * suc m ≡ (p + 1) * m + (p + 1) = mul-suc (p + 1) m in
    let rest = someone_acts f p m (omega (arith, few, late, times)) in
    (rest.0, (let b = rest.1 in omega (arith, b)), rest.2))
    (cases_lt (f m) (p + 1))

-- a seat that stands for all domains has one that has arrived as often as the number of the phase: it acts
pub acts_among : (k : Config) (s : Words) (r : Rule k s) (id : ℕ) (v : View) → get_elem? s.views id ≡ some v → length v.domains ≡ k.domains → SomeDomain (λ x. x.own.arrivals ≡ r.account.pause.phase) v.domains
acts_among k s r id v at many =
    let knows = r.views id v at in
    let p = r.whole.phases in
    let pause = r.account.pause in
    let sum = p.sum in
    let unfinished = p.unfinished in
    let late : sum_of pause.arrived k.domains < (pause.phase + 1) * k.domains = subst (λ n. n < (pause.phase + 1) * k.domains) sum unfinished in
    let one = someone_acts pause.arrived pause.phase k.domains late in
    let inside = domains_map (IsSeated k r.account.log r.seat id) (λ y. y.own.number < k.domains) v.domains (λ y seated. seated.inside) knows.domains in
    let low = (p.each one.0 one.1).0 in
    let high = one.2 in
    some_with (λ x. x.own.number ≡ one.0) (Good k r.account s.words) (λ x. x.own.arrivals ≡ pause.phase) v.domains
    (λ x same good. let arrivals : x.own.arrivals ≡ pause.arrived one.0 = good.staged.arrivals ∙ ap pause.arrived same in omega (arith, low, high, arrivals))
    (each_there v.domains k.domains one.0 knows.distinct inside many one.1) (r.good id v at)
