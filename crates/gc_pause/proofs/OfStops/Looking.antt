-- From the telling of a look to its answer.
use Rattle.std.proofs.Common.{◌≡◌, ◌≢◌, ℕ, ◌+◌, ◌*◌, ◌%◌, ◌<◌, ◌≤◌, sym, ap, ◌∙◌, subst, ⊎_elim, arith, lt_of_not-le}
use mathlib.Core.Logic.{dite}
use native.Mathlib.Decide.{dec_le}
use Rattle.heap_rule.specs.declared.config.Config.{Config}
use Rattle.heap_rule.specs.declared.view.DomainView.{DomainView}
use Rattle.heap_rule.specs.declared.phase.Kind.{Kind}
use Rattle.heap_rule.specs.declared.phase.Stage.TheVariants.{In, Leads}
use Rattle.heap_rule.specs.Phases.{IsEven, IsOdd, code}
use Rattle.step_pauses.specs.Pauses.{kind_in, LookTold, Begun, PlanTold}
use Rattle.gc_pause.specs.declared.stops.answer.Look.TheVariants.{NotAll, Next, Lead}
use Rattle.gc_pause.specs.Stops.Looks.{PassedBarrier, LookAnswers}

pub same_arrivals : (k : Config) (x y : DomainView) (b : ℕ) → LookTold k x b y → y.own.arrivals ≡ x.own.arrivals
same_arrivals k x y b told = dite (dec_le (x.own.arrivals * k.domains) b) (λ past. ap (λ (z : DomainView). z.own.arrivals) (told.begun past).view) (λ not_past. ap (λ (z : DomainView). z.own.arrivals) (told.waits (lt_of_not-le not_past)))

pub waits : (k : Config) (x y : DomainView) (b : ℕ) → LookTold k x b y → b < y.own.arrivals * k.domains → LookAnswers k x y (NotAll b)
waits k x y b told below = let e : b < x.own.arrivals * k.domains = subst (λ (n : ℕ). b < n * k.domains) (same_arrivals k x y b told) below in (e, told.waits e)

begun : (k : Config) (x y : DomainView) (b : ℕ) → LookTold k x b y → y.own.arrivals * k.domains ≤ b → Begun k x b y
begun k x y b told not_below = told.begun (subst (λ (n : ℕ). n * k.domains ≤ b) (same_arrivals k x y b told) not_below)

passed : (k : Config) (x y : DomainView) (b : ℕ) → LookTold k x b y → y.own.arrivals * k.domains ≤ b → PassedBarrier k x y
passed k x y b told not_below = let g = begun k x y b told not_below in record {
  found = b;
  all = subst (λ (n : ℕ). n * k.domains ≤ b) (same_arrivals k x y b told) not_below;
  seen = g.seen;
  led = g.led;
  legal = g.legal;
  view = g.view;
}

pub odd : (k : Config) (x y : DomainView) (b : ℕ) → LookTold k x b y → y.own.arrivals * k.domains ≤ b → y.own.arrivals % 2 ≡ 1 → LookAnswers k x y Lead
odd k x y b told not_below rem =
    let g = begun k x y b told not_below in
    let same : y.own.arrivals ≡ x.own.arrivals = same_arrivals k x y b told in
    ⊎_elim (λ (t : (y.seen.stage ≡ In g.kind) × IsEven x.own.arrivals). absurd (let j : ℕ = t.1.0 in let e : x.own.arrivals ≡ j * 2 = t.1.1 in omega arith))
    (λ (t : (y.seen.stage ≡ Leads (kind_in x.seen.stage)) × IsOdd x.own.arrivals). (passed k x y b told not_below, t.0, t.1)) g.stage

pub next : (k : Config) (x y z : DomainView) (b word : ℕ) (kind : Kind) → LookTold k x b y → y.own.arrivals * k.domains ≤ b → y.own.arrivals % 2 ≢ 1 → PlanTold y word z → ((c : Kind) → word ≡ code c → kind ≡ c) → LookAnswers k x z (Next kind)
next k x y z b word kind told not_below rem plan is =
    let g = begun k x y b told not_below in
    let same : y.own.arrivals ≡ x.own.arrivals = same_arrivals k x y b told in
    ⊎_elim (λ (t : (y.seen.stage ≡ In g.kind) × IsEven x.own.arrivals).
    let found : kind ≡ g.kind = is g.kind (plan.told g.kind t.0) in
    subst (λ (v : DomainView). LookAnswers k x v (Next kind)) (sym plan.view) (let is = t.0 ∙ sym (ap In found) in (passed k x y b told not_below, is, t.1, g.comes kind is, g.mode kind is)))
    (λ (t : (y.seen.stage ≡ Leads (kind_in x.seen.stage)) × IsOdd x.own.arrivals). absurd (let j : ℕ = t.1.0 in let e : x.own.arrivals ≡ j * 2 + 1 = t.1.1 in let r : y.own.arrivals % 2 ≢ 1 = rem in omega arith)) g.stage
