-- With each kind that domain 0 names for its caller fewer phases are left of a complete pause.
use Rattle.std.proofs.Common.{◌≡◌, ℕ, ◌<◌, ◌≤◌, ◌==◌, Bool, true, false, not, if◌then◌else◌, refl, sym, subst}
use Rattle.std.proofs.lemmas.Bool.{false≢true}
use Rattle.heap_rule.specs.declared.config.Config.{Config}
use Rattle.heap_rule.specs.declared.phase.Kind.{Kind}
use Rattle.heap_rule.specs.declared.phase.Kind.TheVariants.{Run, Promote, Reset, Roots, Mark, Rounds, Decide, Queued, Clean, Lasts, Sweep, Answer}
use Rattle.heap_rule.specs.declared.phase.Progress.{Progress}
use Rattle.step_pauses.specs.Pauses.{cut_in}
use Rattle.gc_pause.specs.declared.phases.decider.Decider.TheVariants.{Caller}
use Rattle.gc_pause.specs.Phases.Leading.{Findings, next_kind}
use Rattle.model_cycle.specs.Ending.{Answering, GoesOn, Marking, Place, Queueing, Rooting, Rounding, leads_to, pause_left}
use Rattle.model_cycle.proofs.Ending.{Fewer, nearer}
use Rattle.gc_pause.specs.Phases.Measure.{marking_place, place_named, place_of}

-- which place comes where a kind is named
mark_named : (cut b : Bool) → place_named cut (if b then Rounds else Mark) ≡ leads_to (marking_place cut Marking) (not b)
mark_named false false = refl
mark_named false true = refl
mark_named true false = refl
mark_named true true = refl

rounds_named : (cut b : Bool) → place_named cut (if b then (if cut then Clean else Decide) else Mark) ≡ leads_to (marking_place cut Rounding) (not b)
rounds_named false false = refl
rounds_named false true = refl
rounds_named true false = refl
rounds_named true true = refl

queued_named : (b : Bool) → place_named true (if b then Clean else Mark) ≡ leads_to Queueing (not b)
queued_named false = refl
queued_named true = refl

reset_named : (armed unswept : Bool) → armed ≡ false → unswept ≡ false → place_named false (if armed then (if true then Mark else Run) else (if true then (if unswept then Sweep else Roots) else Run)) ≡ Rooting
reset_named true unswept a u = absurd (false≢true (sym a))
reset_named false true a u = absurd (false≢true (sym u))
reset_named false false a u = refl

sweep_named : (cut unswept whole begins : Bool) → unswept ≡ false → whole ≡ true → place_named cut (if unswept then (if begins then Roots else Run) else (if whole then Answer else Roots)) ≡ Answering
sweep_named cut true whole begins u w = absurd (false≢true (sym u))
sweep_named cut false false begins u w = absurd (false≢true w)
sweep_named cut false true begins u w = refl

-- the kinds that domain 0 names by `next_kind` for a caller who wants a complete collection, where none goes on and none has left garbage
pub named : (k : Config) (f : Findings) (p : Progress) (kind : Kind) → p.armed ≡ false → p.unswept ≡ false → p.whole ≡ true → place_named (cut_in kind p.cut) (next_kind k (Caller true) kind p f) ≡ leads_to (place_of p.cut kind) (not (f.changed == 0))
named k f p Run a u w = refl
named k f p Promote a u w = refl
named k f p Reset a u w = reset_named p.armed p.unswept a u
named k f p Roots a u w = refl
named k f p Mark a u w = mark_named p.cut (f.changed == 0)
named k f p Rounds a u w = rounds_named p.cut (f.changed == 0)
named k f p Decide a u w = refl
named k f p Queued a u w = queued_named (f.changed == 0)
named k f p Clean a u w = refl
named k f p Lasts a u w = refl
named k f p Sweep a u w = sweep_named p.cut p.unswept p.whole true u w
named k f p Answer a u w = refl

going : (cut : Bool) (kind : Kind) → GoesOn (place_of cut kind)
going cut Run = tt
going cut Promote = tt
going cut Reset = tt
going cut Roots = tt
going false Mark = tt
going true Mark = tt
going false Rounds = tt
going true Rounds = tt
going cut Decide = tt
going cut Queued = tt
going cut Clean = tt
going cut Lasts = tt
going cut Sweep = tt
going cut Answer = tt

-- so, with what `IsGrowing` says of the changed word, fewer phases are left
pub leads_nearer : (k : Config) (f : Findings) (p : Progress) (kind : Kind) (all was now : ℕ) → p.armed ≡ false → p.unswept ≡ false → p.whole ≡ true → was ≤ all → Fewer (not (f.changed == 0)) was now
    → pause_left all (place_named (cut_in kind p.cut) (next_kind k (Caller true) kind p f)) now < pause_left all (place_of p.cut kind) was
leads_nearer k f p kind all was now a u w few less =
    subst (λ (q : Place). pause_left all q now < pause_left all (place_of p.cut kind) was) (sym (named k f p kind a u w))
    (nearer all was now (place_of p.cut kind) (not (f.changed == 0)) (going p.cut kind) few less)
