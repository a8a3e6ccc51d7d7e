-- With each kind that domain 0 names fewer phases are left of a pause, whoever decides.
use Rattle.std.proofs.Common.{◌≡◌, ◌∙◌, ℕ, zero, suc, ◌+◌, ◌-◌, ◌*◌, ◌<◌, ◌≤◌, ◌==◌, Bool, true, false, not, if◌then◌else◌, Some, sym, ap, subst, arith}
use Rattle.std.proofs.lemmas.Bool.{ne_eqb}
use Rattle.heap_rule.specs.declared.config.Config.{Config}
use Rattle.heap_rule.specs.declared.phase.Kind.{Kind}
use Rattle.heap_rule.specs.declared.phase.Kind.TheVariants.{Run, Promote, Reset, Roots, Mark, Rounds, Decide, Queued, Clean, Lasts, Sweep, Answer}
use Rattle.heap_rule.specs.declared.phase.Progress.{Progress}
use Rattle.heap_rule.specs.declared.view.DomainView.{DomainView}
use Rattle.heap_rule.specs.Cycles.{IsMarking}
use Rattle.step_pauses.specs.Pauses.{asks_again, progress_after, unmarked_after}
use Rattle.gc_pause.specs.declared.phases.decider.Decider.{Decider}
use Rattle.gc_pause.specs.Phases.Leading.{Findings, LeadsOn, begins, completes, finishes, next_kind}
use Rattle.model_cycle.proofs.Ending.{Fewer}
use Rattle.gc_pause.specs.Phases.Measure.{IsNearer, any_left, any_named, more_of}

more_few : (all : ℕ) (whole unswept : Bool) → more_of all whole unswept ≤ 12 + all * 4
more_few all true false = omega arith
more_few all true true = omega arith
more_few all false true = omega arith
more_few all false false = omega arith

-- what domain 0 keeps
abbrev keeping : Bool → Bool → Bool → Bool → Progress
keeping cut whole unswept armed = record { cut = cut; whole = whole; unswept = unswept; armed = armed }

-- a kind that is named after another
abbrev Nearer : ℕ → ℕ → ℕ → Kind → Kind → Progress → Type 0
Nearer all was now last next p = any_named all next (progress_after last next p) now < any_left all last p was

module _ (all was now : ℕ) where
  behind_reset : now ≤ all → (cut whole unswept armed finish begin : Bool) → Nearer all was now Reset (if armed then (if finish then Mark else Run) else (if begin then (if unswept then Sweep else Roots) else Run)) (keeping cut whole unswept armed)
  behind_reset less cut whole unswept true true begin = let m = more_few all false unswept in omega (arith, less, m)
  behind_reset less cut whole unswept true false begin = omega arith
  behind_reset less cut whole true false finish true = let m = more_few all whole true in omega (arith, m)
  behind_reset less cut whole false false finish true = omega arith
  behind_reset less cut whole unswept false finish false = omega arith

  behind_roots : now ≤ all → (cut whole unswept armed complete : Bool) → Nearer all was now Roots (if complete then Mark else Run) (keeping cut whole unswept armed)
  behind_roots less cut whole unswept armed true = omega (arith, less)
  behind_roots less cut whole unswept armed false = omega arith

  behind_mark : (b cut whole unswept armed : Bool) → Fewer (not b) was now → Nearer all was now Mark (if b then Rounds else Mark) (keeping cut whole unswept armed)
  behind_mark true true whole unswept armed less = omega (arith, less)
  behind_mark true false whole unswept armed less = omega (arith, less)
  behind_mark false true whole unswept armed less = omega (arith, less)
  behind_mark false false whole unswept armed less = omega (arith, less)

  behind_rounds : (b cut whole unswept armed : Bool) → Fewer (not b) was now → Nearer all was now Rounds (if b then (if cut then Clean else Decide) else Mark) (keeping cut whole unswept armed)
  behind_rounds true true whole unswept armed less = omega (arith, less)
  behind_rounds true false whole unswept armed less = omega (arith, less)
  behind_rounds false true whole unswept armed less = omega (arith, less)
  behind_rounds false false whole unswept armed less = omega (arith, less)

  behind_queued : (b cut whole unswept armed : Bool) → now ≤ all → Nearer all was now Queued (if b then Clean else Mark) (keeping cut whole unswept armed)
  behind_queued true cut whole unswept armed less = omega arith
  behind_queued false cut whole unswept armed less = omega (arith, less)

  behind_lasts : (cut whole unswept armed complete : Bool) → Nearer all was now Lasts (if complete then Sweep else Run) (keeping cut whole unswept armed)
  behind_lasts cut whole unswept armed true = omega arith
  behind_lasts cut whole unswept armed false = omega arith

  behind_sweep : (cut whole unswept armed begin : Bool) → Nearer all was now Sweep (if unswept then (if begin then Roots else Run) else (if whole then Answer else Roots)) (keeping cut whole unswept armed)
  behind_sweep cut true true armed true = omega arith
  behind_sweep cut false true armed true = omega arith
  behind_sweep cut whole true armed false = omega arith
  behind_sweep cut true false armed begin = omega arith
  behind_sweep cut false false armed begin = omega arith

  -- how the number of unmarked blocks goes on
  abbrev pub Falls : Kind → ℕ → Type 0
  Falls Mark changed = Fewer (not (changed == 0)) was now
  Falls Rounds changed = Fewer (not (changed == 0)) was now
  Falls _ changed = now ≤ all

  -- whatever it finds
  any_nearer : (k : Config) (decider : Decider) (f : Findings) (kind : Kind) (cut whole unswept armed : Bool) → Falls kind f.changed
      → Nearer all was now kind (next_kind k decider kind (keeping cut whole unswept armed) f) (keeping cut whole unswept armed)
  any_nearer k decider f Run cut whole unswept armed less = omega arith
  any_nearer k decider f Promote cut whole unswept armed less = omega arith
  any_nearer k decider f Reset cut whole unswept armed less = behind_reset less cut whole unswept armed (finishes decider f.wants) (begins k decider f.wants f.free)
  any_nearer k decider f Roots cut whole unswept armed less = behind_roots less cut whole unswept armed (completes decider f.wants)
  any_nearer k decider f Mark cut whole unswept armed less = behind_mark (f.changed == 0) cut whole unswept armed less
  any_nearer k decider f Rounds cut whole unswept armed less = behind_rounds (f.changed == 0) cut whole unswept armed less
  any_nearer k decider f Decide cut whole unswept armed less = omega arith
  any_nearer k decider f Queued cut whole unswept armed less = behind_queued (f.changed == 0) cut whole unswept armed less
  any_nearer k decider f Clean cut whole unswept armed less = omega arith
  any_nearer k decider f Lasts cut whole unswept armed less = behind_lasts cut whole unswept armed (completes decider f.wants)
  any_nearer k decider f Sweep cut whole unswept armed less = behind_sweep cut whole unswept armed (begins k decider f.wants f.free)
  any_nearer k decider f Answer cut whole unswept armed less = omega arith

-- behind a phase of the marking that asks for another one, one fewer is unmarked
less_marked : (found was : ℕ) → asks_again (Some found) ≤ was → Fewer (not (found == 0)) was (was - asks_again (Some found))
less_marked zero was grown = omega arith
less_marked (suc n) was grown = subst (λ (b : Bool). Fewer (not b) was (was - asks_again (Some (suc n)))) (sym (ne_eqb (suc n) 0 (λ e. omega (arith, e)))) (omega (arith, grown))

pub falls : (k : Config) (kind : Kind) (found was : ℕ) → (IsMarking kind → asks_again (Some found) ≤ was) → Falls (k.pools * 1024) was (unmarked_after k kind (Some found) was) kind found
falls k Mark found was grown = less_marked found was (grown tt)
falls k Rounds found was grown = less_marked found was (grown tt)
falls k Run found was grown = omega arith
falls k Promote found was grown = omega arith
falls k Reset found was grown = omega arith
falls k Roots found was grown = omega arith
falls k Decide found was grown = omega arith
falls k Queued found was grown = omega arith
falls k Clean found was grown = omega arith
falls k Lasts found was grown = omega arith
falls k Sweep found was grown = omega arith
falls k Answer found was grown = omega arith

-- domain 0 has led on
pub leads_nearer : (k : Config) (who : Decider) (x y : DomainView) (last kind : Kind) → LeadsOn k who x y last kind → IsNearer k last kind x.seen.share.progress (progress_after last kind x.seen.share.progress) x.seen.share.unmarked y.seen.share.unmarked
leads_nearer k who x y last kind l =
    let p : Progress = x.seen.share.progress in
    let n : ℕ = unmarked_after k last (Some l.findings.changed) x.seen.share.unmarked in
    let near = any_nearer (k.pools * 1024) x.seen.share.unmarked n k who l.findings last p.cut p.whole p.unswept p.armed (falls k last l.findings.changed x.seen.share.unmarked l.grown) in
    let named : any_named (k.pools * 1024) kind (progress_after last kind p) n < any_left (k.pools * 1024) last p x.seen.share.unmarked
    = subst (λ (m : Kind). any_named (k.pools * 1024) m (progress_after last m p) n < any_left (k.pools * 1024) last p x.seen.share.unmarked) (sym l.chosen) near in
    subst (λ (m : ℕ). any_named (k.pools * 1024) kind (progress_after last kind p) m < any_left (k.pools * 1024) last p x.seen.share.unmarked)
    (sym (ap (λ (w : DomainView). w.seen.share.unmarked) l.view)) named
