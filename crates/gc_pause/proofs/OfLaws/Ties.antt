-- A domain that runs again after a complete collection has gone through the phase in which it was answered.
use Rattle.std.proofs.Common.{◌≡◌, ◌≢◌, inl, inr, ⊎_elim, ℕ, ◌+◌, ◌*◌, ◌<◌, ◌≤◌, Option, Some, None, refl, sym, ap, ◌∙◌, subst, arith}
use Rattle.std.proofs.lemmas.Bool.{cases_lt}
use Rattle.heap_rule.specs.declared.phase.Kind.{Kind}
use Rattle.heap_rule.specs.declared.phase.Kind.TheVariants.{Run, Answer}
use Rattle.heap_rule.specs.declared.phase.Stage.TheVariants.{In, Gone}
use Rattle.heap_rule.specs.Phases.{AtStage, IsEven, IsOdd, LeftOdd, Pause}
use Rattle.gc_pause.specs.Laws.Ties.{InPause, KnowsKind, NamesRun, Started, Tied}

pub some_is : (a b : Kind) → ◌≡◌ {A = Option Kind} (Some a) (Some b) → a ≡ b
some_is a b is = cc

some_none : (a : Kind) → ◌≡◌ {A = Option Kind} (Some a) None → ⊥
some_none a is = cc

pub none_some : (a : Kind) → ◌≡◌ {A = Option Kind} None (Some a) → ⊥
none_some a is = cc

-- a domain that has arrived
gone : (t : Pause) (d a : ℕ) (k : Kind) → InPause t d a (Some k) → AtStage t d a (Gone k)
gone t d a k p = subst (AtStage t d a) p.stands p.at

-- or runs
runs : (t : Pause) (d a : ℕ) → InPause t d a None → AtStage t d a (In Run)
runs t d a p = subst (AtStage t d a) p.stands p.at

-- what it knows is so
kind_odd : (t : Pause) (d a : ℕ) (k : Kind) (j : ℕ) → InPause t d a (Some k) → a ≡ j * 2 + 1 → t.kinds j ≡ k
kind_odd t d a k j p is = (gone t d a k p).0 j is

kind_even : (t : Pause) (d a : ℕ) (k : Kind) (j : ℕ) → InPause t d a (Some k) → a ≡ j * 2 + 2 → d ≢ 0 → t.kinds j ≡ k
kind_even t d a k j p is other =
    let l : LeftOdd t.kinds d a k = (gone t d a k p).1 (j + 1, omega (arith, is)) in
    let i : ℕ = l.0 in
    let at : a ≡ i * 2 + 2 = l.1 in
    let same : i ≡ j = omega (arith, is, at) in
    subst (λ n. t.kinds n ≡ k) same (l.3 other)

kind_named : (t : Pause) (a : ℕ) (k : Kind) (j : ℕ) → InPause t 0 a (Some k) → a ≡ j * 2 + 2 → t.kinds (j + 1) ≡ k
kind_named t a k j p is =
    let l : LeftOdd t.kinds 0 a k = (gone t 0 a k p).1 (j + 1, omega (arith, is)) in
    let i : ℕ = l.0 in
    let at : a ≡ i * 2 + 2 = l.1 in
    let same : i ≡ j = omega (arith, is, at) in
    subst (λ n. t.kinds (n + 1) ≡ k) same (l.2 refl)

-- domain 0 and another one know one kind of one phase
pub same_kind : (t : Pause) (d first a : ℕ) (k kind : Kind) (j : ℕ) → InPause t 0 first (Some k) → InPause t d a (Some kind) → d ≢ 0 → first ≡ j * 2 + 1 → KnowsKind a j → kind ≡ k
same_kind t d first a k kind j p q other odd knows =
    ⊎_elim
    (λ here. sym (kind_odd t d a kind j q here) ∙ kind_odd t 0 first k j p odd)
    (λ here. sym (kind_even t d a kind j q here other) ∙ kind_odd t 0 first k j p odd)
    knows

-- the tie holds where domain 0 has arrived from an even phase
pub tied_odd : (first a : ℕ) (l left : Option Kind) → IsOdd first → Tied first l a left
tied_odd first a l left odd j kind is knows names = let i : ℕ = odd.0 in let o : first ≡ i * 2 + 1 = odd.1 in let e : first ≡ j * 2 + 2 = names.0 in absurd (omega (arith, o, e))

-- and where it has named a kind: that the domains run it names behind the answer alone
pub tied_leads : (t : Pause) (d first a i : ℕ) (k next : Kind) (left : Option Kind) → InPause t 0 first (Some k) → InPause t d a left → d ≢ 0 → first ≡ i * 2 + 1 → (next ≡ Run → k ≡ Answer) → Tied (first + 1) (Some next) a left
tied_leads t d first a i k next left p q other odd walk j kind is knows names =
    let e : first + 1 ≡ j * 2 + 2 = names.0 in
    let at : first ≡ j * 2 + 1 = omega (arith, e) in
    let run : next ≡ Run = ⊎_elim (λ named. some_is next Run named) (λ none. absurd (some_none next none)) names.1 in
    same_kind t d first a k kind j p (subst (InPause t d a) is q) other at knows ∙ walk run

-- it runs there
pub tied_runs : (first a : ℕ) (left : Option Kind) → Tied first (Some Run) a left → Tied first None a left
tied_runs first a left tied j kind is knows names = tied j kind is knows (names.0, inl refl)

-- another domain goes through an even phase: domain 0 can't have named the next kind
pub tied_passes : (t : Pause) (d first a i : ℕ) (l left new : Option Kind) → InPause t 0 first l → InPause t d a left → a ≡ i * 2 → Tied first l (a + 1) new
tied_passes t d first a i l left new p q even j kind is knows names =
    let e : first ≡ j * 2 + 2 = names.0 in
    let high = p.high in
    let low = q.low in
    ⊎_elim
    (λ (at : a + 1 ≡ j * 2 + 1). absurd (omega (arith, e, high, low, even, at)))
    (λ (at : a + 1 ≡ j * 2 + 2). absurd (omega (arith, even, at)))
    knows

-- or arrives in an odd one
pub tied_arrives : (first a i : ℕ) (l left : Option Kind) → a ≡ i * 2 + 1 → Tied first l a left → Tied first l (a + 1) left
tied_arrives first a i l left odd tied j kind is knows names =
    ⊎_elim
    (λ (at : a + 1 ≡ j * 2 + 1). absurd (omega (arith, odd, at)))
    (λ (at : a + 1 ≡ j * 2 + 2). tied j kind is (inl (omega (arith, at))) names)
    knows

-- so where it runs again the phase that it knew was that of the answer
pub tied_ends : (t : Pause) (d first a : ℕ) (l : Option Kind) (kind : Kind) → InPause t 0 first l → InPause t d a None → d ≢ 0 → (j : ℕ) → a ≡ j * 2 + 2 → Started first l a → Tied first l a (Some kind) → kind ≡ Answer
tied_ends t d first a l kind p q other j even started tied = tied j kind refl (inr even) (named l refl)
  where
    here : a ≡ t.phase
    here = (runs t d a q).0

    kind_is : t.kinds (j + 1) ≡ Run
    kind_is =
        let r = (runs t d a q).1 in
        let i : ℕ = r.0 in
        let at : t.phase ≡ i * 2 = r.1 in
        let same : i ≡ j + 1 = (let h = here in omega (arith, h, at, even)) in
        subst (λ n. t.kinds n ≡ Run) same r.2

    named : (o : Option Kind) → l ≡ o → NamesRun first l j
    named None is =
        let at : first ≡ t.phase = (runs t 0 first (subst (InPause t 0 first) is p)).0 in
        let h = here in
        (omega (arith, at, h, even), inr is)
    named (Some k) is = ⊎_elim
        (λ (low : first < j * 2 + 3).
        let least = p.low in
        let h = here in
        let at : first ≡ j * 2 + 2 = omega (arith, low, least, h, even) in
        let run : k ≡ Run = sym (kind_named t first k j (subst (InPause t 0 first) is p) at) ∙ kind_is in
        (at, inl (is ∙ ap (λ (x : Kind). Some x) run)))
        (λ (high : j * 2 + 3 ≤ first).
        let most = p.high in
        let h = here in
        let at : first ≡ (j + 1) * 2 + 1 = omega (arith, high, most, h, even) in
        let run : k ≡ Run = sym (kind_odd t 0 first k (j + 1) (subst (InPause t 0 first) is p) at) ∙ kind_is in
        let late = started (is ∙ ap (λ (x : Kind). Some x) run) (j + 1, at) in
        absurd (omega (arith, late, high, even)))
        (cases_lt first (j * 2 + 3))

-- while domain 0 leads nowhere the others only arrive more often
pub started_more : (first a b : ℕ) (l : Option Kind) → a ≤ b → Started first l a → Started first l b
started_more first a b l more started is odd = let few = started is odd in omega (arith, few, more)

pub started_even : (first a : ℕ) (l : Option Kind) → IsEven first → Started first l a
started_even first a l even is odd = let i : ℕ = even.0 in let e : first ≡ i * 2 = even.1 in let j : ℕ = odd.0 in let o : first ≡ j * 2 + 1 = odd.1 in absurd (omega (arith, e, o))

pub started_other : (first a : ℕ) (k : Kind) → k ≢ Run → Started first (Some k) a
started_other first a k other is odd = absurd (other (some_is k Run is))

-- the kind of an even phase in which a domain acts is the one that domain 0 knows
pub same_even : (t : Pause) (d first a : ℕ) (k kind : Kind) → InPause t 0 first (Some k) → AtStage t d a (In kind) → kind ≡ k
same_even t d first a k kind p at = ⊎_elim
    (λ (low : first < t.phase + 1).
    let least = p.low in
    let l : LeftOdd t.kinds 0 first k = (gone t 0 first k p).1 (j, omega (arith, even, low, least)) in
    let i : ℕ = l.0 in
    let named : first ≡ i * 2 + 2 = l.1 in
    let same : j ≡ i + 1 = omega (arith, named, even, low, least) in
    sym kind_is ∙ subst (λ n. t.kinds n ≡ k) (sym same) (l.2 refl))
    (λ (high : t.phase + 1 ≤ first).
    let most = p.high in
    sym kind_is ∙ kind_odd t 0 first k j p (omega (arith, high, most, even)))
    (cases_lt first (t.phase + 1))
  where
    j : ℕ
    j = at.1.0

    even : t.phase ≡ j * 2
    even = at.1.1

    kind_is : t.kinds j ≡ kind
    kind_is = at.1.2

-- and where domain 0 runs there the domain does
pub same_run : (t : Pause) (d first a : ℕ) (kind : Kind) → InPause t 0 first None → AtStage t d a (In kind) → kind ≡ Run
same_run t d first a kind p at =
    let r = (runs t 0 first p).1 in
    let i : ℕ = r.0 in
    let j : ℕ = at.1.0 in
    let e : t.phase ≡ i * 2 = r.1 in
    let f : t.phase ≡ j * 2 = at.1.1 in
    let same : i ≡ j = omega (arith, e, f) in
    sym at.1.2 ∙ subst (λ n. t.kinds n ≡ Run) same r.2
