-- Each step brings a pause nearer to its end.
use Rattle.std.proofs.Common.{◌≡◌, ◌≢◌, ◌∙◌, ◌⊎◌, ◌<◌, ◌≤◌, ◌+◌, ◌-◌, ◌*◌, ◌^◌, ⊎_elim, ℕ, zero, suc, Bool, true, false, if◌then◌else◌, List, [], ◌∷◌, Option, Some, None, length, arith, refl, sym, ap, subst}
use Rattle.std.specs.Prelude.{slice_get, sum_by}
use Rattle.std.proofs.lemmas.List.Sums.{sum_by-cons}
use Rattle.heap_rule.specs.declared.config.Config.{Config}
use Rattle.heap_rule.specs.declared.phase.Kind.{Kind}
use Rattle.heap_rule.specs.declared.phase.Kind.TheVariants.{Run, Promote, Reset, Roots, Mark, Rounds, Decide, Queued, Clean, Lasts, Sweep, Answer}
use Rattle.heap_rule.specs.declared.phase.Progress.{Progress}
use Rattle.heap_rule.specs.declared.phase.Stage.TheVariants.{In, Leads as Leading}
use Rattle.heap_rule.specs.declared.view.DomainView.{DomainView}
use Rattle.heap_rule.specs.Phases.{Comes, IsEven, IsOdd}
use Rattle.heap_rule.specs.Rule.{state_of}
use Rattle.heap_rule.specs.Token.{SharedHeap}
use Rattle.step_pauses.specs.Pauses.{IsModeOf, arrived_view, progress_after}
use Rattle.gc_pause.specs.declared.phases.decider.Decider.TheVariants.{Caller}
use Rattle.gc_pause.specs.Phases.Leading.{LeadsOn}
use Rattle.gc_pause.specs.Phases.Measure.{any_left, any_named}
use Rattle.gc_pause.proofs.OfPhases.Measure.{leads_nearer}
use Rattle.run_turns.specs.Pausing.{ComesToAnswer, LeavesEven, LeavesOdd}
use Rattle.run_turns.specs.declared.turned.Turned.TheVariants.{Did}
use Rattle.run_turns.specs.Runs.{GoesBy, IsRun, PassesOn, Resumes, RunView, SeesAnswer, run_seeing}
use Rattle.run_turns.specs.Runs.{IsAnswered as RunIsAnswered}
use Rattle.run_turns.proofs.LeavingLemmas.{passes_leaves}
use Rattle.run_turns.proofs.PauseLemmas.{even_next, odd_next}
use Rattle.run_replay.specs.Gathered.{HasRun, is_even}
use Rattle.run_replay.specs.Leveled.{Leveled}
use Rattle.run_replay.specs.Moves.{IsSooner, PassesAt, forgetting, halted_run}
use Rattle.run_replay.specs.Pace.{last_arrival, last_by, last_of, steps_at, steps_of}
use Rattle.run_replay.proofs.InStep.{becomes_stood, runs_here, went}
use Rattle.run_replay.proofs.PassLemmas.{even_is, odd_is, stands_gone}
use Rattle.run_replay.proofs.SlotLemmas.{inside, one_there}

-- sums of lists whose items are no greater
sum_few : {A : Type 0} (f g : A → ℕ) (xs ys : List A) → length xs ≡ length ys → ((d : ℕ) (x y : A) → slice_get xs d ≡ Some x → slice_get ys d ≡ Some y → f x ≤ g y) → sum_by f xs ≤ sum_by g ys
sum_few f g [] [] count each = omega arith
sum_few f g [] (y ∷ ys) count each = absurd (omega (arith, count))
sum_few f g (x ∷ xs) [] count each = absurd (omega (arith, count))
sum_few f g (x ∷ xs) (y ∷ ys) count each =
    let here = each 0 x y refl refl in
    let rest = sum_few f g xs ys (omega (arith, count)) (λ d a b p q. each (suc d) a b p q) in
    let one = sum_by-cons f x xs in
    let two = sum_by-cons g y ys in
    omega (arith, here, rest, one, two)

-- and one of which is less
sum_less : {A : Type 0} (f g : A → ℕ) (xs ys : List A) (at : ℕ) → length xs ≡ length ys → at < length xs → ((d : ℕ) (x y : A) → slice_get xs d ≡ Some x → slice_get ys d ≡ Some y → f x ≤ g y)
    → ((x y : A) → slice_get xs at ≡ Some x → slice_get ys at ≡ Some y → f x < g y) → sum_by f xs < sum_by g ys
sum_less f g [] ys at count within each less = absurd (omega (arith, within))
sum_less f g (x ∷ xs) [] at count within each less = absurd (omega (arith, count))
sum_less f g (x ∷ xs) (y ∷ ys) zero count within each less =
    let here = less x y refl refl in
    let rest = sum_few f g xs ys (omega (arith, count)) (λ d a b p q. each (suc d) a b p q) in
    let one = sum_by-cons f x xs in
    let two = sum_by-cons g y ys in
    omega (arith, here, rest, one, two)
sum_less f g (x ∷ xs) (y ∷ ys) (suc at) count within each less =
    let here = each 0 x y refl refl in
    let rest = sum_less f g xs ys at (omega (arith, count)) (omega (arith, within)) (λ d a b p q. each (suc d) a b p q) less in
    let one = sum_by-cons f x xs in
    let two = sum_by-cons g y ys in
    omega (arith, here, rest, one, two)

-- domain 0 has arrived so often already
pub last_high : (all arrivals : ℕ) (left : Option Kind) (p : Progress) (unmarked : ℕ) → arrivals ≤ last_arrival all arrivals left p unmarked
last_high all arrivals None p unmarked = omega arith
last_high all arrivals (Some kind) p unmarked = by (is_even arrivals) (any_named all kind p unmarked) (any_left all kind p unmarked)
  where
    by : (b : Bool) (named left : ℕ) → arrivals ≤ (if b then arrivals + 1 + named * 2 else arrivals + left * 2)
    by true named left = omega arith
    by false named left = omega arith

-- by whether it has named a kind or gone through it
last_even : (all arrivals : ℕ) (left : Option Kind) (kind : Kind) (p : Progress) (unmarked : ℕ) → left ≡ Some kind → IsEven arrivals → last_arrival all arrivals left p unmarked ≡ arrivals + 1 + any_named all kind p unmarked * 2
last_even all arrivals left kind p unmarked is even =
    ap (λ (o : Option Kind). last_arrival all arrivals o p unmarked) is ∙ ap (λ (b : Bool). if b then arrivals + 1 + any_named all kind p unmarked * 2 else arrivals + any_left all kind p unmarked * 2) (even_is arrivals even)

last_odd : (all arrivals : ℕ) (left : Option Kind) (kind : Kind) (p : Progress) (unmarked : ℕ) → left ≡ Some kind → IsOdd arrivals → last_arrival all arrivals left p unmarked ≡ arrivals + any_left all kind p unmarked * 2
last_odd all arrivals left kind p unmarked is odd =
    ap (λ (o : Option Kind). last_arrival all arrivals o p unmarked) is ∙ ap (λ (b : Bool). if b then arrivals + 1 + any_named all kind p unmarked * 2 else arrivals + any_left all kind p unmarked * 2) (odd_is arrivals odd)

-- a kind in which the domains don't run
pub named_left : (all : ℕ) (kind : Kind) (p : Progress) (unmarked : ℕ) → (kind ≡ Run → ⊥) → any_named all kind p unmarked ≡ any_left all kind p unmarked
named_left all Run p unmarked other = absurd (other refl)
named_left all Promote p unmarked other = refl
named_left all Reset p unmarked other = refl
named_left all Roots p unmarked other = refl
named_left all Mark p unmarked other = refl
named_left all Rounds p unmarked other = refl
named_left all Decide p unmarked other = refl
named_left all Queued p unmarked other = refl
named_left all Clean p unmarked other = refl
named_left all Lasts p unmarked other = refl
named_left all Sweep p unmarked other = refl
named_left all Answer p unmarked other = refl

-- what domain 0 keeps in an even phase
record Keeps (x y : DomainView) : Type 0 where
  pub progress : y.seen.share.progress ≡ x.seen.share.progress
  pub unmarked : y.seen.share.unmarked ≡ x.seen.share.unmarked

kept_as : (x y z : DomainView) → y ≡ z → z.seen.share.progress ≡ x.seen.share.progress → z.seen.share.unmarked ≡ x.seen.share.unmarked → Keeps x y
kept_as x y z is progress unmarked = record { progress = ap (λ (v : DomainView). v.seen.share.progress) is ∙ progress; unmarked = ap (λ (v : DomainView). v.seen.share.unmarked) is ∙ unmarked }

keeps_twice : (x y z : DomainView) → Keeps x y → Keeps y z → Keeps x z
keeps_twice x y z a b = record { progress = b.progress ∙ a.progress; unmarked = b.unmarked ∙ a.unmarked }

even_keeps : (k : Config) (kind : Kind) (b y : DomainView) → LeavesEven k kind b y → Keeps b y
even_keeps k Run b y l = absurd l
even_keeps k Promote b y l = kept_as b y _ l.view (ap (λ (v : DomainView). v.seen.share.progress) l.shared.view) (ap (λ (v : DomainView). v.seen.share.unmarked) l.shared.view)
even_keeps k Reset b y l = kept_as b y _ l.view refl refl
even_keeps k Answer b y l = absurd l
even_keeps k Roots b y l = kept_as b y _ l.view refl refl
even_keeps k Mark b y l = kept_as b y _ l.view refl refl
even_keeps k Rounds b y l = kept_as b y _ l.view refl refl
even_keeps k Decide b y l = kept_as b y _ l.view refl refl
even_keeps k Queued b y l = kept_as b y _ l.view refl refl
even_keeps k Clean b y l = kept_as b y _ l.view refl refl
even_keeps k Lasts b y l = kept_as b y _ l.view refl refl
even_keeps k Sweep b y l = kept_as b y _ l.view refl refl

not_run : (k : Config) (kind : Kind) (b y : DomainView) → LeavesEven k kind b y → kind ≡ Run → ⊥
not_run k kind b y l is = subst (λ (c : Kind). LeavesEven k c b y) is l

answer_run : Answer ≡ Run → ⊥
answer_run e = cc

-- a step of domain 0
module _ (h : SharedHeap) (complete : Bool) (r s : RunView) (is : IsRun r) (first : r.token.view.own.number ≡ 0) where
  abbrev k : Config
  k = h.config

  abbrev all : ℕ
  all = k.pools * 1024

  abbrev x : DomainView
  x = r.token.view

  abbrev y : DomainView
  y = s.token.view

  -- it has gone through the phase that it had named
  through : (kind : Kind) → (kind ≡ Run → ⊥) → r.left ≡ Some kind → s.left ≡ Some kind → IsEven x.own.arrivals → y.own.arrivals ≡ x.own.arrivals + 1 → Keeps x y → last_of k s ≤ last_of k r
  through kind other was now even more keeps =
      let before = last_even all x.own.arrivals r.left kind x.seen.share.progress x.seen.share.unmarked was even in
      let odd : IsOdd y.own.arrivals = subst IsOdd (sym more) (even_next x.own.arrivals even) in
      let behind = last_odd all y.own.arrivals s.left kind y.seen.share.progress y.seen.share.unmarked now odd in
      let same = named_left all kind x.seen.share.progress x.seen.share.unmarked other in
      let kept : any_left all kind y.seen.share.progress y.seen.share.unmarked ≡ any_left all kind x.seen.share.progress x.seen.share.unmarked = λ i. any_left all kind (keeps.progress i) (keeps.unmarked i) in
      omega (arith, before, behind, same, kept, more)

  -- or found which kind comes next, and named it
  names : (b : DomainView) (last kind : Kind) → r.left ≡ Some last → s.left ≡ Some kind → IsOdd x.own.arrivals → y.own.arrivals ≡ x.own.arrivals + 1 → Keeps x b → LeadsOn k (Caller complete) b y last kind → last_of k s ≤ last_of k r
  names b last kind was now odd more keeps l =
      let before = last_odd all x.own.arrivals r.left last x.seen.share.progress x.seen.share.unmarked was odd in
      let even : IsEven y.own.arrivals = subst IsEven (sym more) (odd_next x.own.arrivals odd) in
      let behind = last_even all y.own.arrivals s.left kind y.seen.share.progress y.seen.share.unmarked now even in
      let near : any_named all kind (progress_after last kind b.seen.share.progress) y.seen.share.unmarked < any_left all last b.seen.share.progress b.seen.share.unmarked = leads_nearer k (Caller complete) b y last kind l in
      let kept : any_left all last b.seen.share.progress b.seen.share.unmarked ≡ any_left all last x.seen.share.progress x.seen.share.unmarked = λ i. any_left all last (keeps.progress i) (keeps.unmarked i) in
      let later : any_named all kind y.seen.share.progress y.seen.share.unmarked ≡ any_named all kind (progress_after last kind b.seen.share.progress) y.seen.share.unmarked = ap (λ (p : Progress). any_named all kind p y.seen.share.unmarked) (ap (λ (v : DomainView). v.seen.share.progress) l.view) in
      omega (arith, before, behind, near, kept, later, more)

  -- where a collection is answered it had named that
  named_answer : (last : Kind) → r.left ≡ Some last → (b : DomainView) → ComesToAnswer k x b → r.left ≡ Some Answer
  named_answer last was b comes = was ∙ ap Some (sym (stands_gone r.left last x.seen.stage was is.between.stands) ∙ sym (comes.named.0 first))

  answers : (last : Kind) → r.left ≡ Some last → s.left ≡ Some Answer → (b z : DomainView) → ComesToAnswer k x b → y ≡ z → z.own.arrivals ≡ b.own.arrivals + 1 → Keeps b z → last_of k s ≤ last_of k r
  answers last was now b z comes view arrives keeps =
      let at : b.own.arrivals ≡ x.own.arrivals = ap (λ (v : DomainView). v.own.arrivals) comes.passed.view in
      let more : y.own.arrivals ≡ x.own.arrivals + 1 = ap (λ (v : DomainView). v.own.arrivals) view ∙ (arrives ∙ ap (λ (n : ℕ). n + 1) at) in
      through Answer answer_run (named_answer last was b comes) now comes.even more (keeps_twice x b y (kept_as x b _ comes.passed.view refl refl) (kept_as b y z view keeps.progress keeps.unmarked))

  -- the pause ends no later than before
  pub no_later : PassesOn h (Caller complete) r s Did → last_of k s ≤ last_of k r
  no_later p = ⊎_elim
      (λ (g : GoesBy h (Caller complete) r s).
      let left : s.left ≡ Some g.kind = ap (λ (z : RunView). z.left) g.run in
      let more : y.own.arrivals ≡ x.own.arrivals + 1 = (passes_leaves (Caller complete) k x y g.last g.kind g.passes).arrivals in
      let begun : DomainView = g.passes.begun in
      let looked : Keeps x begun = kept_as x begun _ g.passes.passed.view refl refl in
      let number : begun.own.number ≡ 0 = ap (λ (v : DomainView). v.own.number) g.passes.passed.view ∙ first in ⊎_elim
      (λ (e : IsEven x.own.arrivals × (begun.seen.stage ≡ In g.kind) × Comes x.own.number g.last g.kind × IsModeOf g.kind (state_of k begun.seen.front).mode × LeavesEven k g.kind begun y).
      through g.kind (not_run k g.kind begun y e.4) (g.arrived ∙ ap Some (sym (e.2.0 first))) left e.0 more (keeps_twice x begun y looked (even_keeps k g.kind begun y e.4)))
      (λ (o : IsOdd x.own.arrivals × (begun.seen.stage ≡ Leading g.last) × LeavesOdd k (Caller complete) begun y g.last g.kind). ⊎_elim
      (λ (l : (begun.own.number ≡ 0) × LeadsOn k (Caller complete) begun y g.last g.kind). names begun g.last g.kind g.arrived left o.0 more looked l.1)
      (λ (f : (begun.own.number ≢ 0) × (g.kind ≡ g.last) × (y ≡ arrived_view begun)). absurd (f.0 number))
      o.2)
      g.passes.share)
      (λ rest. ⊎_elim
      (λ (a : RunIsAnswered h r s). answers a.last a.arrived (ap (λ (z : RunView). z.left) a.run) a.answers.begun _ a.answers.comes a.answers.view refl (kept_as a.answers.begun _ _ refl refl refl))
      (λ others. ⊎_elim
      (λ (a : SeesAnswer h r s). answers a.last a.arrived (ap (λ (z : RunView). z.left) a.run) a.gives.begun _ a.gives.comes a.gives.view refl (kept_as a.gives.begun _ _ refl refl refl))
      (λ (a : Resumes h r s).
      let run : r.left ≡ Some Run = a.arrived.1 ∙ ap Some (sym (a.arrived.2.0 first)) in
      let before = last_even all x.own.arrivals r.left Run x.seen.share.progress x.seen.share.unmarked run a.even in
      let behind : last_of k s ≡ y.own.arrivals + 1 = ap (λ (o : Option Kind). last_arrival all y.own.arrivals o y.seen.share.progress y.seen.share.unmarked) (ap (λ (z : RunView). z.left) a.run) in
      let same : y.own.arrivals ≡ x.own.arrivals = ap (λ (v : DomainView). v.own.arrivals) a.passed.view in
      omega (arith, before, behind, same))
      others)
      rest)
      p

-- the first of the runs
pub last_at : (k : Config) (runs : List (Option RunView)) (r : RunView) → HasRun runs 0 r → last_by k runs ≡ last_of k r
last_at k [] r is = cc
last_at k (o ∷ os) r is = let here : o ≡ Some r = cc in ap (λ (p : Option RunView). last_by k (p ∷ os)) here

-- all have met
pub met_last : (k : Config) (old new : List (Option RunView)) (l : Leveled old new) → 0 < length old → last_by k new ≡ last_by k old
met_last k old new l some =
    let f = l.stay 0 some in
    let was = l.more 0 f.0 f.1 in
    last_at k new f.0 f.1 ∙ (ap (last_of k) was.2.is ∙ sym (last_at k old was.0 was.1))

-- no steps are left of a domain that runs, and no more than before where the pause ends no later
steps_less : (last now : ℕ) (left : Option Kind) (arrivals : ℕ) → now ≤ last → steps_of now left arrivals ≤ steps_of last left arrivals
steps_less last now None arrivals few = omega arith
steps_less last now (Some kind) arrivals few = omega (arith, few)

steps_gone : (last : ℕ) (left : Option Kind) (arrivals : ℕ) → left ≢ None → steps_of last left arrivals ≡ last + 1 - arrivals
steps_gone last None arrivals gone = absurd (gone refl)
steps_gone last (Some kind) arrivals gone = refl

-- one that has arrived least often made a step
module _ (h : SharedHeap) (complete : Bool) (old mid new : List (Option RunView)) (at : ℕ) (l : Leveled old mid) (are : (d : ℕ) (r : RunView) → HasRun mid d r → IsRun r) (numbers : (d : ℕ) (r : RunView) → HasRun mid d r → r.token.view.own.number ≡ d)
    (least : (d : ℕ) → IsSooner mid at d) (gone : (r : RunView) → HasRun mid at r → r.left ≢ None) (p : PassesAt h complete l.pause mid new at) (filled : (d : ℕ) → d < length new → (r : RunView) × HasRun new d r) (count : length new ≡ length mid) where
  abbrev s : RunView
  s = forgetting p.passed

  within : at < length mid
  within = inside mid at (Some p.run) p.becomes.was

  some : 0 < length old
  some = let w = within in let same = l.count in omega (arith, w, same)

  begin : (r : RunView) × HasRun mid 0 r
  begin = l.stay 0 some

  -- what stands elsewhere is as it was
  place : (d : ℕ) (q : RunView) → HasRun new d q → ((d ≡ at) × (q ≡ s)) ⊎ ((d ≢ at) × HasRun mid d q)
  place = becomes_stood h mid new at p.run s p.becomes

  pub passed_last : last_by h.config new ≤ last_by h.config old
  passed_last =
      let same = met_last h.config old mid l some in
      let was = last_at h.config mid begin.0 begin.1 in
      let now = filled 0 (let w = within in omega (arith, w, count)) in
      let behind = last_at h.config new now.0 now.1 in
      ⊎_elim
      (λ (mine : (0 ≡ at) × (now.0 ≡ s)).
      let r : HasRun mid 0 p.run = subst (λ (n : ℕ). HasRun mid n p.run) (sym mine.0) p.becomes.was in
      let one : begin.0 ≡ p.run = one_there mid 0 begin.0 p.run begin.1 r in
      let before : last_of h.config begin.0 ≡ last_of h.config p.run = ap (last_of h.config) one in
      let after : last_of h.config now.0 ≡ last_of h.config p.passed = ap (last_of h.config) mine.1 in
      let less = no_later h complete p.run p.passed (are 0 p.run r) (numbers 0 p.run r) p.passes in
      omega (arith, same, was, behind, before, after, less))
      (λ (other : (0 ≢ at) × HasRun mid 0 now.0).
      let one : last_of h.config now.0 ≡ last_of h.config begin.0 = ap (last_of h.config) (one_there mid 0 now.0 begin.0 other.1 begin.1) in
      omega (arith, same, was, behind, one))
      (place 0 now.0 now.1)

  abbrev before : ℕ
  before = last_by h.config old

  abbrev after : ℕ
  after = last_by h.config new

  -- it has arrived no more often than the pause takes at most
  pub few_arrivals : p.run.token.view.own.arrivals ≤ before
  few_arrivals =
      let sooner = least 0 p.run begin.0 p.becomes.was begin.1 in
      let same = met_last h.config old mid l some in
      let was = last_at h.config mid begin.0 begin.1 in
      let high : begin.0.token.view.own.arrivals ≤ last_of h.config begin.0 = last_high (h.config.pools * 1024) begin.0.token.view.own.arrivals begin.0.left begin.0.token.view.seen.share.progress begin.0.token.view.seen.share.unmarked in
      omega (arith, sooner, same, was, high)

  -- what is left of each
  met_steps : (d : ℕ) (q r : RunView) → HasRun mid d q → HasRun old d r → steps_at after (Some q) ≤ steps_at before (Some r)
  met_steps d q r there was =
      let m = l.more d q there in
      let one : m.0 ≡ r = one_there old d m.0 r m.1 was in
      let same : q ≡ run_seeing r l.history = m.2.is ∙ ap (λ (z : RunView). run_seeing z l.history) one in
      subst (λ (z : RunView). steps_of after z.left z.token.view.own.arrivals ≤ steps_of before r.left r.token.view.own.arrivals) (sym same) (steps_less before after r.left r.token.view.own.arrivals passed_last)

  mine_less : (r : RunView) → HasRun old at r → steps_at after (Some s) < steps_at before (Some r)
  mine_less r was =
      let m = l.more at p.run p.becomes.was in
      let one : m.0 ≡ r = one_there old at m.0 r m.1 was in
      let same : p.run ≡ run_seeing r l.history = m.2.is ∙ ap (λ (z : RunView). run_seeing z l.history) one in
      let left : p.run.left ≡ r.left = ap (λ (z : RunView). z.left) same in
      let arrivals : p.run.token.view.own.arrivals ≡ r.token.view.own.arrivals = ap (λ (z : RunView). z.token.view.own.arrivals) same in
      let many : steps_of before r.left r.token.view.own.arrivals ≡ before + 1 - r.token.view.own.arrivals = steps_gone before r.left r.token.view.own.arrivals (λ none. gone p.run p.becomes.was (left ∙ none)) in
      let few = few_arrivals in
      let less = passed_last in
      ⊎_elim
      (λ (b : (p.passed.left ≡ None) × (p.passed.token.view.own.arrivals ≡ p.run.token.view.own.arrivals)).
      let none : steps_of after p.passed.left p.passed.token.view.own.arrivals ≡ 0 = ap (λ (o : Option Kind). steps_of after o p.passed.token.view.own.arrivals) b.0 in
      omega (arith, many, few, none, arrivals))
      (λ (g : (p.passed.left ≢ None) × (p.passed.token.view.own.arrivals ≡ p.run.token.view.own.arrivals + 1)).
      let now : steps_of after p.passed.left p.passed.token.view.own.arrivals ≡ after + 1 - p.passed.token.view.own.arrivals = steps_gone after p.passed.left p.passed.token.view.own.arrivals g.0 in
      let more = g.1 in
      omega (arith, many, few, now, more, arrivals, less))
      (went h complete l.pause p.run p.passed p.passes)

  some_at : (d : ℕ) (o : Option RunView) → slice_get new d ≡ Some o → (q : RunView) × (o ≡ Some q)
  some_at d o at_o =
      let f = filled d (inside new d o at_o) in
      (f.0, let same : ◌≡◌ {A = Option (Option RunView)} (Some o) (Some (Some f.0)) = sym at_o ∙ f.1 in cc)

  was_at : (d : ℕ) (q : RunView) (o : Option RunView) → HasRun mid d q → slice_get old d ≡ Some o → (r : RunView) × (o ≡ Some r)
  was_at d q o there at_o =
      let m = l.more d q there in
      (m.0, let same : ◌≡◌ {A = Option (Option RunView)} (Some o) (Some (Some m.0)) = sym at_o ∙ m.1 in cc)

  -- each step of the pause leaves fewer
  pub passed_nearer : sum_by (steps_at after) new < sum_by (steps_at before) old
  passed_nearer = sum_less (steps_at after) (steps_at before) new old at (count ∙ l.count) (let w = within in omega (arith, w, count))
      (λ d o z at_o at_z.
      let f = some_at d o at_o in
      let there : HasRun new d f.0 = at_o ∙ ap Some f.1 in ⊎_elim
      (λ (mine : (d ≡ at) × (f.0 ≡ s)).
      let m = l.more at p.run p.becomes.was in
      let was : HasRun old d m.0 = subst (λ (n : ℕ). HasRun old n m.0) (sym mine.0) m.1 in
      let z_is : z ≡ Some m.0 = let same : ◌≡◌ {A = Option (Option RunView)} (Some z) (Some (Some m.0)) = sym at_z ∙ was in cc in
      let less = mine_less m.0 m.1 in
      let few : steps_at after (Some s) ≤ steps_at before (Some m.0) = omega (arith, less) in
      subst (λ (w : Option RunView × Option RunView). steps_at after w.0 ≤ steps_at before w.1) (λ i. (sym (f.1 ∙ ap Some mine.1) i, sym z_is i)) few)
      (λ (other : (d ≢ at) × HasRun mid d f.0).
      let r = was_at d f.0 z other.1 at_z in
      subst (λ (w : Option RunView × Option RunView). steps_at after w.0 ≤ steps_at before w.1) (λ i. (sym f.1 i, sym r.1 i)) (met_steps d f.0 r.0 other.1 (at_z ∙ ap Some r.1)))
      (place d f.0 there))
      (λ o z at_o at_z.
      let f = some_at at o at_o in
      let there : HasRun new at f.0 = at_o ∙ ap Some f.1 in ⊎_elim
      (λ (mine : (at ≡ at) × (f.0 ≡ s)).
      let m = l.more at p.run p.becomes.was in
      let z_is : z ≡ Some m.0 = let same : ◌≡◌ {A = Option (Option RunView)} (Some z) (Some (Some m.0)) = sym at_z ∙ m.1 in cc in
      subst (λ (w : Option RunView × Option RunView). steps_at after w.0 < steps_at before w.1) (λ i. (sym (f.1 ∙ ap Some mine.1) i, sym z_is i)) (mine_less m.0 m.1))
      (λ (other : (at ≢ at) × HasRun mid at f.0). absurd (other.0 refl))
      (place at f.0 there))

-- all have arrived, from where they ran
pub halted_last : (k : Config) (old mid new : List (Option RunView)) (l : Leveled old mid) → 0 < length old → k.pools ≤ 2048 → ((d : ℕ) (r : RunView) → HasRun mid d r → (r.left ≡ None) × IsEven r.token.view.own.arrivals) → (s : RunView) → HasRun new 0 s
    → (r : RunView) → HasRun mid 0 r → s ≡ halted_run r → last_by k new ≤ last_by k old + 67108864
halted_last k old mid new l some pools runs s there r was is =
    let same = met_last k old mid l some in
    let before = last_at k mid r was in
    let behind = last_at k new s there in
    let all : ℕ = k.pools * 1024 in
    let run = runs 0 r was in
    let runs_on : last_of k r ≡ r.token.view.own.arrivals + 1 = ap (λ (o : Option Kind). last_arrival all r.token.view.own.arrivals o r.token.view.seen.share.progress r.token.view.seen.share.unmarked) run.0 in
    let halts : last_of k s ≡ last_of k (halted_run r) = ap (last_of k) is in
    let now : last_of k (halted_run r) ≡ (r.token.view.own.arrivals + 1) + (26 + all * 8) * 2
    = last_odd all (r.token.view.own.arrivals + 1) (Some Run) Run (halted_run r).token.view.seen.share.progress (halted_run r).token.view.seen.share.unmarked refl (even_next r.token.view.own.arrivals run.1) in
    omega (arith, same, before, behind, runs_on, halts, now, pools)

-- they have arrived as often as domain 0 or once more
pub few_before : (old mid : List (Option RunView)) (l : Leveled old mid) (are : (d : ℕ) (r : RunView) → HasRun mid d r → IsRun r) → ((d : ℕ) (r : RunView) → HasRun mid d r → r.left ≡ None) → (first : RunView) → HasRun old 0 first → first.token.view.own.arrivals < 2 ^ 60
    → (d : ℕ) (r : RunView) → HasRun mid d r → r.token.view.own.arrivals < 2 ^ 60
few_before old mid l are run first was few d r there =
    let f = l.stay 0 (inside old 0 (Some first) was) in
    let m = l.more 0 f.0 f.1 in
    let one : m.0 ≡ first = one_there old 0 m.0 first m.1 was in
    let same : f.0.token.view.own.arrivals ≡ first.token.view.own.arrivals = ap (λ (z : RunView). z.token.view.own.arrivals) m.2.is ∙ ap (λ (z : RunView). z.token.view.own.arrivals) one in
    let a = (runs_here old mid l are 0 f.0 f.1 (run 0 f.0 f.1)).0 in
    let b = (runs_here old mid l are d r there (run d r there)).0 in
    omega (arith, a, b, same, few)
