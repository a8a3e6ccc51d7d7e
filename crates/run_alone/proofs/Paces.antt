-- Each step brings a pause of a heap's only domain nearer to its end.
use Rattle.std.proofs.Common.{◌≡◌, ◌≢◌, ◌∙◌, ◌⊎◌, ◌<◌, ◌≤◌, ◌+◌, ◌-◌, ◌*◌, ◌%◌, inl, inr, ⊎_elim, ℕ, Bool, true, false, if◌then◌else◌, Option, Some, None, arith, refl, sym, ap, subst}
use Rattle.std.proofs.lemmas.Bool.{eq-eqb, ne_eqb}
use Rattle.heap_rule.specs.declared.config.Config.{Config}
use Rattle.heap_rule.specs.declared.phase.Kind.{Kind}
use Rattle.heap_rule.specs.declared.phase.Kind.TheVariants.{Run, Promote, Reset, Roots, Mark, Rounds, Decide, Queued, Clean, Lasts, Sweep, Answer}
use Rattle.heap_rule.specs.declared.phase.Progress.{Progress}
use Rattle.heap_rule.specs.declared.phase.Stage.{Stage}
use Rattle.heap_rule.specs.declared.phase.Stage.TheVariants.{In, Leads as Leading}
use Rattle.heap_rule.specs.declared.view.DomainView.{DomainView}
use Rattle.heap_rule.specs.Phases.{Comes, IsEven, IsOdd}
use Rattle.heap_rule.specs.Rule.{state_of}
use Rattle.heap_rule.specs.Token.{SharedHeap}
use Rattle.step_pauses.specs.Pauses.{IsModeOf, arrived_view, kind_in, progress_after}
use Rattle.gc_pause.specs.declared.phases.decider.Decider.{Decider}
use Rattle.gc_pause.specs.Phases.Leading.{LeadsOn}
use Rattle.gc_pause.specs.Phases.Measure.{any_left, any_named}
use Rattle.gc_pause.proofs.OfPhases.Measure.{leads_nearer}
use Rattle.run_turns.specs.Pausing.{ComesToAnswer, LeavesEven, LeavesOdd}
use Rattle.run_turns.specs.declared.turned.Turned.TheVariants.{Did}
use Rattle.run_turns.specs.Runs.{GoesBy, IsRun, PassesOn, Resumes, RunView, SeesAnswer, StandsAt, halted}
use Rattle.run_turns.specs.Runs.{IsAnswered as RunIsAnswered}
use Rattle.run_turns.proofs.LeavingLemmas.{passes_leaves}
use Rattle.run_turns.proofs.PauseLemmas.{even_next, odd_next}
use Rattle.run_alone.specs.Paces.{IsPaced, is_even, last_arrival, last_of, most_in_pause, steps_left, steps_of}

pub even_is : (n : ℕ) → IsEven n → is_even n ≡ true
even_is n e = eq-eqb (n % 2) 0 (let j : ℕ = e.0 in let is : n ≡ j * 2 = e.1 in omega arith)

pub odd_is : (n : ℕ) → IsOdd n → is_even n ≡ false
odd_is n o = ne_eqb (n % 2) 0 (λ z. let j : ℕ = o.0 in let is : n ≡ j * 2 + 1 = o.1 in omega arith)

pub stands_gone : (left : Option Kind) (kind : Kind) (stage : Stage) → left ≡ Some kind → StandsAt left stage → kind_in stage ≡ kind
stands_gone left kind stage is stands = ap kind_in (subst (λ (o : Option Kind). StandsAt o stage) is stands)

-- the domain has arrived so often already
pub last_high : (all arrivals : ℕ) (left : Option Kind) (p : Progress) (unmarked : ℕ) → arrivals ≤ last_arrival all arrivals left p unmarked
last_high all arrivals None p unmarked = omega arith
last_high all arrivals (Some kind) p unmarked = by (is_even arrivals) (any_named all kind p unmarked) (any_left all kind p unmarked)
  where
    by : (b : Bool) (named left : ℕ) → arrivals ≤ (if b then arrivals + 1 + named * 2 else arrivals + left * 2)
    by true named left = omega arith
    by false named left = omega arith

-- by whether it has named a kind or gone through it
pub last_even : (all arrivals : ℕ) (left : Option Kind) (kind : Kind) (p : Progress) (unmarked : ℕ) → left ≡ Some kind → IsEven arrivals → last_arrival all arrivals left p unmarked ≡ arrivals + 1 + any_named all kind p unmarked * 2
last_even all arrivals left kind p unmarked is even =
    ap (λ (o : Option Kind). last_arrival all arrivals o p unmarked) is ∙ ap (λ (b : Bool). if b then arrivals + 1 + any_named all kind p unmarked * 2 else arrivals + any_left all kind p unmarked * 2) (even_is arrivals even)

pub last_odd : (all arrivals : ℕ) (left : Option Kind) (kind : Kind) (p : Progress) (unmarked : ℕ) → left ≡ Some kind → IsOdd arrivals → last_arrival all arrivals left p unmarked ≡ arrivals + any_left all kind p unmarked * 2
last_odd all arrivals left kind p unmarked is odd =
    ap (λ (o : Option Kind). last_arrival all arrivals o p unmarked) is ∙ ap (λ (b : Bool). if b then arrivals + 1 + any_named all kind p unmarked * 2 else arrivals + any_left all kind p unmarked * 2) (odd_is arrivals odd)

-- where it runs
pub last_running : (k : Config) (r : RunView) → r.left ≡ None → last_of k r ≡ r.token.view.own.arrivals + 1
last_running k r runs = ap (λ (o : Option Kind). last_arrival (k.pools * 1024) r.token.view.own.arrivals o r.token.view.seen.share.progress r.token.view.seen.share.unmarked) runs

-- a kind in which the domains don't run
pub named_left : (all : ℕ) (kind : Kind) (p : Progress) (unmarked : ℕ) → (kind ≡ Run → ⊥) → any_named all kind p unmarked ≡ any_left all kind p unmarked
named_left all Run p unmarked other = absurd (other refl)
named_left all Promote p unmarked other = refl
named_left all Reset p unmarked other = refl
named_left all Roots p unmarked other = refl
named_left all Mark p unmarked other = refl
named_left all Rounds p unmarked other = refl
named_left all Decide p unmarked other = refl
named_left all Queued p unmarked other = refl
named_left all Clean p unmarked other = refl
named_left all Lasts p unmarked other = refl
named_left all Sweep p unmarked other = refl
named_left all Answer p unmarked other = refl

-- what it keeps in an even phase
record Keeps (x y : DomainView) : Type 0 where
  pub progress : y.seen.share.progress ≡ x.seen.share.progress
  pub unmarked : y.seen.share.unmarked ≡ x.seen.share.unmarked

kept_as : (x y z : DomainView) → y ≡ z → z.seen.share.progress ≡ x.seen.share.progress → z.seen.share.unmarked ≡ x.seen.share.unmarked → Keeps x y
kept_as x y z is progress unmarked = record { progress = ap (λ (v : DomainView). v.seen.share.progress) is ∙ progress; unmarked = ap (λ (v : DomainView). v.seen.share.unmarked) is ∙ unmarked }

keeps_twice : (x y z : DomainView) → Keeps x y → Keeps y z → Keeps x z
keeps_twice x y z a b = record { progress = b.progress ∙ a.progress; unmarked = b.unmarked ∙ a.unmarked }

even_keeps : (k : Config) (kind : Kind) (b y : DomainView) → LeavesEven k kind b y → Keeps b y
even_keeps k Run b y l = absurd l
even_keeps k Promote b y l = kept_as b y _ l.view (ap (λ (v : DomainView). v.seen.share.progress) l.shared.view) (ap (λ (v : DomainView). v.seen.share.unmarked) l.shared.view)
even_keeps k Reset b y l = kept_as b y _ l.view refl refl
even_keeps k Answer b y l = absurd l
even_keeps k Roots b y l = kept_as b y _ l.view refl refl
even_keeps k Mark b y l = kept_as b y _ l.view refl refl
even_keeps k Rounds b y l = kept_as b y _ l.view refl refl
even_keeps k Decide b y l = kept_as b y _ l.view refl refl
even_keeps k Queued b y l = kept_as b y _ l.view refl refl
even_keeps k Clean b y l = kept_as b y _ l.view refl refl
even_keeps k Lasts b y l = kept_as b y _ l.view refl refl
even_keeps k Sweep b y l = kept_as b y _ l.view refl refl

not_run : (k : Config) (kind : Kind) (b y : DomainView) → LeavesEven k kind b y → kind ≡ Run → ⊥
not_run k kind b y l is = subst (λ (c : Kind). LeavesEven k c b y) is l

answer_run : Answer ≡ Run → ⊥
answer_run e = cc

-- a step of domain 0, whoever decides
module _ (h : SharedHeap) (decider : Decider) (r s : RunView) (is : IsRun r) (first : r.token.view.own.number ≡ 0) where
  abbrev k : Config
  k = h.config

  abbrev all : ℕ
  all = k.pools * 1024

  abbrev x : DomainView
  x = r.token.view

  abbrev y : DomainView
  y = s.token.view

  -- it has gone through the phase that it had named
  through : (kind : Kind) → (kind ≡ Run → ⊥) → r.left ≡ Some kind → s.left ≡ Some kind → IsEven x.own.arrivals → y.own.arrivals ≡ x.own.arrivals + 1 → Keeps x y → last_of k s ≤ last_of k r
  through kind other was now even more keeps =
      let before = last_even all x.own.arrivals r.left kind x.seen.share.progress x.seen.share.unmarked was even in
      let odd : IsOdd y.own.arrivals = subst IsOdd (sym more) (even_next x.own.arrivals even) in
      let behind = last_odd all y.own.arrivals s.left kind y.seen.share.progress y.seen.share.unmarked now odd in
      let same = named_left all kind x.seen.share.progress x.seen.share.unmarked other in
      let kept : any_left all kind y.seen.share.progress y.seen.share.unmarked ≡ any_left all kind x.seen.share.progress x.seen.share.unmarked = λ i. any_left all kind (keeps.progress i) (keeps.unmarked i) in
      omega (arith, before, behind, same, kept, more)

  -- or found which kind comes next, and named it
  names : (b : DomainView) (last kind : Kind) → r.left ≡ Some last → s.left ≡ Some kind → IsOdd x.own.arrivals → y.own.arrivals ≡ x.own.arrivals + 1 → Keeps x b → LeadsOn k decider b y last kind → last_of k s ≤ last_of k r
  names b last kind was now odd more keeps l =
      let before = last_odd all x.own.arrivals r.left last x.seen.share.progress x.seen.share.unmarked was odd in
      let even : IsEven y.own.arrivals = subst IsEven (sym more) (odd_next x.own.arrivals odd) in
      let behind = last_even all y.own.arrivals s.left kind y.seen.share.progress y.seen.share.unmarked now even in
      let near : any_named all kind (progress_after last kind b.seen.share.progress) y.seen.share.unmarked < any_left all last b.seen.share.progress b.seen.share.unmarked = leads_nearer k decider b y last kind l in
      let kept : any_left all last b.seen.share.progress b.seen.share.unmarked ≡ any_left all last x.seen.share.progress x.seen.share.unmarked = λ i. any_left all last (keeps.progress i) (keeps.unmarked i) in
      let later : any_named all kind y.seen.share.progress y.seen.share.unmarked ≡ any_named all kind (progress_after last kind b.seen.share.progress) y.seen.share.unmarked = ap (λ (p : Progress). any_named all kind p y.seen.share.unmarked) (ap (λ (v : DomainView). v.seen.share.progress) l.view) in
      omega (arith, before, behind, near, kept, later, more)

  -- where a collection is answered it had named that
  named_answer : (last : Kind) → r.left ≡ Some last → (b : DomainView) → ComesToAnswer k x b → r.left ≡ Some Answer
  named_answer last was b comes = was ∙ ap Some (sym (stands_gone r.left last x.seen.stage was is.between.stands) ∙ sym (comes.named.0 first))

  answers : (last : Kind) → r.left ≡ Some last → s.left ≡ Some Answer → (b z : DomainView) → ComesToAnswer k x b → y ≡ z → z.own.arrivals ≡ b.own.arrivals + 1 → Keeps b z → last_of k s ≤ last_of k r
  answers last was now b z comes view arrives keeps =
      let at : b.own.arrivals ≡ x.own.arrivals = ap (λ (v : DomainView). v.own.arrivals) comes.passed.view in
      let more : y.own.arrivals ≡ x.own.arrivals + 1 = ap (λ (v : DomainView). v.own.arrivals) view ∙ (arrives ∙ ap (λ (n : ℕ). n + 1) at) in
      through Answer answer_run (named_answer last was b comes) now comes.even more (keeps_twice x b y (kept_as x b _ comes.passed.view refl refl) (kept_as b y z view keeps.progress keeps.unmarked))

  -- the pause ends no later than before
  pub no_later : PassesOn h decider r s Did → last_of k s ≤ last_of k r
  no_later p = ⊎_elim
      (λ (g : GoesBy h decider r s).
      let left : s.left ≡ Some g.kind = ap (λ (z : RunView). z.left) g.run in
      let more : y.own.arrivals ≡ x.own.arrivals + 1 = (passes_leaves decider k x y g.last g.kind g.passes).arrivals in
      let begun : DomainView = g.passes.begun in
      let looked : Keeps x begun = kept_as x begun _ g.passes.passed.view refl refl in
      let number : begun.own.number ≡ 0 = ap (λ (v : DomainView). v.own.number) g.passes.passed.view ∙ first in ⊎_elim
      (λ (e : IsEven x.own.arrivals × (begun.seen.stage ≡ In g.kind) × Comes x.own.number g.last g.kind × IsModeOf g.kind (state_of k begun.seen.front).mode × LeavesEven k g.kind begun y).
      through g.kind (not_run k g.kind begun y e.4) (g.arrived ∙ ap Some (sym (e.2.0 first))) left e.0 more (keeps_twice x begun y looked (even_keeps k g.kind begun y e.4)))
      (λ (o : IsOdd x.own.arrivals × (begun.seen.stage ≡ Leading g.last) × LeavesOdd k decider begun y g.last g.kind). ⊎_elim
      (λ (l : (begun.own.number ≡ 0) × LeadsOn k decider begun y g.last g.kind). names begun g.last g.kind g.arrived left o.0 more looked l.1)
      (λ (f : (begun.own.number ≢ 0) × (g.kind ≡ g.last) × (y ≡ arrived_view begun)). absurd (f.0 number))
      o.2)
      g.passes.share)
      (λ rest. ⊎_elim
      (λ (a : RunIsAnswered h r s). answers a.last a.arrived (ap (λ (z : RunView). z.left) a.run) a.answers.begun _ a.answers.comes a.answers.view refl (kept_as a.answers.begun _ _ refl refl refl))
      (λ others. ⊎_elim
      (λ (a : SeesAnswer h r s). answers a.last a.arrived (ap (λ (z : RunView). z.left) a.run) a.gives.begun _ a.gives.comes a.gives.view refl (kept_as a.gives.begun _ _ refl refl refl))
      (λ (a : Resumes h r s).
      let run : r.left ≡ Some Run = a.arrived.1 ∙ ap Some (sym (a.arrived.2.0 first)) in
      let before = last_even all x.own.arrivals r.left Run x.seen.share.progress x.seen.share.unmarked run a.even in
      let behind : last_of k s ≡ y.own.arrivals + 1 = ap (λ (o : Option Kind). last_arrival all y.own.arrivals o y.seen.share.progress y.seen.share.unmarked) (ap (λ (z : RunView). z.left) a.run) in
      let same : y.own.arrivals ≡ x.own.arrivals = ap (λ (v : DomainView). v.own.arrivals) a.passed.view in
      omega (arith, before, behind, same))
      others)
      rest)
      p

-- how a step in a pause left the domain: it runs again, or it has arrived once more
abbrev pub Went : RunView → RunView → Type 0
Went r s = ((s.left ≡ None) × (s.token.view.own.arrivals ≡ r.token.view.own.arrivals)) ⊎ ((s.left ≢ None) × (s.token.view.own.arrivals ≡ r.token.view.own.arrivals + 1))

some_left : (o : Option Kind) (kind : Kind) → o ≡ Some kind → o ≢ None
some_left o kind is none = let e : ◌≡◌ {A = Option Kind} None (Some kind) = sym none ∙ is in cc

pub went : (h : SharedHeap) (decider : Decider) (r s : RunView) → PassesOn h decider r s Did → Went r s
went h decider r s p = ⊎_elim
    (λ (g : GoesBy h decider r s). inr (some_left s.left g.kind (ap (λ (z : RunView). z.left) g.run), (passes_leaves decider h.config r.token.view s.token.view g.last g.kind g.passes).arrivals))
    (λ more. ⊎_elim
    (λ (a : RunIsAnswered h r s). inr (some_left s.left Answer (ap (λ (z : RunView). z.left) a.run), ap (λ (v : DomainView). v.own.arrivals) a.answers.view ∙ ap (λ (v : DomainView). v.own.arrivals + 1) a.answers.comes.passed.view))
    (λ rest. ⊎_elim
    (λ (a : SeesAnswer h r s). inr (some_left s.left Answer (ap (λ (z : RunView). z.left) a.run), ap (λ (v : DomainView). v.own.arrivals) a.gives.view ∙ ap (λ (v : DomainView). v.own.arrivals + 1) a.gives.comes.passed.view))
    (λ (a : Resumes h r s). inl (ap (λ (z : RunView). z.left) a.run, ap (λ (v : DomainView). v.own.arrivals) a.passed.view))
    rest)
    more)
    p

-- who had arrived
steps_gone : (last : ℕ) (left : Option Kind) (arrivals : ℕ) → left ≢ None → steps_of last left arrivals ≡ last + 1 - arrivals
steps_gone last None arrivals gone = absurd (gone refl)
steps_gone last (Some kind) arrivals gone = refl

-- fewer steps are left behind each
pub nearer : (h : SharedHeap) (decider : Decider) (r s : RunView) → IsRun r → r.token.view.own.number ≡ 0 → r.left ≢ None → PassesOn h decider r s Did → steps_left h.config s < steps_left h.config r
nearer h decider r s is first gone p =
    let less = no_later h decider r s is first p in
    let many = steps_gone (last_of h.config r) r.left r.token.view.own.arrivals gone in
    let high = last_high (h.config.pools * 1024) r.token.view.own.arrivals r.left r.token.view.seen.share.progress r.token.view.seen.share.unmarked in
    ⊎_elim
    (λ (b : (s.left ≡ None) × (s.token.view.own.arrivals ≡ r.token.view.own.arrivals)).
    let none : steps_left h.config s ≡ 0 = ap (λ (o : Option Kind). steps_of (last_of h.config s) o s.token.view.own.arrivals) b.0 in
    omega (arith, many, high, none))
    (λ (g : (s.left ≢ None) × (s.token.view.own.arrivals ≡ r.token.view.own.arrivals + 1)).
    let now = steps_gone (last_of h.config s) s.left s.token.view.own.arrivals g.0 in
    let more = g.1 in
    omega (arith, many, high, now, more, less))
    (went h decider r s p)

-- one that runs
pub runs_paced : (k : Config) (r : RunView) → r.left ≡ None → IsPaced k r
runs_paced k r runs = let last = last_running k r runs in omega (arith, last)

-- one that has just arrived from its commands
pub begun_paced : (k : Config) (r : RunView) → k.pools ≤ 2048 → r.left ≡ Some Run → IsOdd r.token.view.own.arrivals → IsPaced k r
begun_paced k r pools left odd =
    let last : last_of k r ≡ r.token.view.own.arrivals + (26 + k.pools * 1024 * 8) * 2 = last_odd (k.pools * 1024) r.token.view.own.arrivals r.left Run r.token.view.seen.share.progress r.token.view.seen.share.unmarked left odd in
    omega (arith, last, pools)

pub halted_paced : (k : Config) (r : RunView) → k.pools ≤ 2048 → IsEven r.token.view.own.arrivals → IsPaced k (halted r)
halted_paced k r pools even = begun_paced k (halted r) pools refl (even_next r.token.view.own.arrivals even)

pub halted_last : (k : Config) (r : RunView) → k.pools ≤ 2048 → r.left ≡ None → IsEven r.token.view.own.arrivals → last_of k (halted r) ≤ last_of k r + most_in_pause
halted_last k r pools runs even = let before = last_running k r runs in let few : last_of k (halted r) < (r.token.view.own.arrivals + 1) + most_in_pause = halted_paced k r pools even in omega (arith, before, few)
