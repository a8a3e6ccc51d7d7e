-- Each kind that domain 0 names for its caller comes as the walk says.
use Rattle.std.proofs.Common.{◌≡◌, ◌∙◌, ◌==◌, Bool, true, false, true≢false, if◌then◌else◌, inl, inr, refl, sym, subst}
use Rattle.heap_rule.specs.declared.config.Config.{Config}
use Rattle.heap_rule.specs.declared.phase.Kind.{Kind}
use Rattle.heap_rule.specs.declared.phase.Kind.TheVariants.{Run, Promote, Reset, Roots, Mark, Rounds, Decide, Queued, Clean, Lasts, Sweep, Answer}
use Rattle.heap_rule.specs.declared.phase.Progress.{Progress}
use Rattle.step_pauses.specs.Pauses.{entry_of, progress_after}
use Rattle.gc_pause.specs.declared.phases.decider.Decider.TheVariants.{Caller}
use Rattle.gc_pause.specs.Phases.Leading.{Findings, next_kind}
use Rattle.text_script.specs.Schedule.Drive.Together.{LeadStep}
use Rattle.run_replay.specs.Walk.{IsOfCollection, IsWalk, controls_of, lead_left, lead_named}

-- one step: the entry that stands is the one of the way, and the walk goes on
pub record Goes (complete : Bool) (left kind : Kind) (p : Progress) : Type 0 where
  pub step : LeadStep (lead_left complete left) (lead_named complete kind) (controls_of (entry_of p.unswept left kind))
  pub on : IsWalk complete kind (progress_after left kind p)

-- so far as no collection has begun in this pause
before : (complete cut whole : Bool) (kind : Kind) → IsOfCollection kind ≡ false → IsWalk complete kind (record { cut = cut; whole = whole; unswept = false; armed = false })
before complete cut whole kind none = record { armed = refl; unswept = refl; asked = λ e. absurd (true≢false (sym e ∙ none)); whole = λ e. absurd (true≢false (sym e ∙ none)) }

-- and behind where one has
behind : (cut : Bool) (kind : Kind) → IsWalk true kind (record { cut = cut; whole = true; unswept = false; armed = false })
behind cut kind = record { armed = refl; unswept = refl; asked = λ _. refl; whole = λ _. refl }

-- nothing stands in between
silent : (left kind : Kind) (cut after : Bool) → LeadStep (lead_left true left) (lead_named true kind) (controls_of (entry_of false left kind)) → progress_after left kind (record { cut = cut; whole = true; unswept = false; armed = false }) ≡ record { cut = after; whole = true; unswept = false; armed = false }
    → Goes true left kind (record { cut = cut; whole = true; unswept = false; armed = false })
silent left kind cut after step is = record { step = step; on = subst (IsWalk true kind) (sym is) (behind after kind) }

-- by whether nothing was changed, and whether the cut is made
marks : (cut quiet : Bool) → Goes true Mark (if quiet then Rounds else Mark) (record { cut = cut; whole = true; unswept = false; armed = false })
marks cut true = silent Mark Rounds cut cut (inl refl) refl
marks cut false = silent Mark Mark cut cut (inl refl) refl

rounds : (cut quiet : Bool) → Goes true Rounds (if quiet then (if cut then Clean else Decide) else Mark) (record { cut = cut; whole = true; unswept = false; armed = false })
rounds true true = silent Rounds Clean true true (inr (inr refl)) refl
rounds false true = silent Rounds Decide false false (inr (inl refl)) refl
rounds cut false = silent Rounds Mark cut cut (inl refl) refl

queued : (cut quiet : Bool) → Goes true Queued (if quiet then Clean else Mark) (record { cut = cut; whole = true; unswept = false; armed = false })
queued cut true = silent Queued Clean cut true (inr (inr refl)) refl
queued cut false = silent Queued Mark cut true (inl refl) refl

-- where a collection goes on
module _ (k : Config) (f : Findings) where
  goes_on : (whole cut : Bool) (left : Kind) → IsOfCollection left ≡ true → whole ≡ true
      → let p : Progress = record { cut = cut; whole = whole; unswept = false; armed = false } in Goes true left (next_kind k (Caller true) left p f) p
  goes_on false cut left of w = absurd (true≢false (sym w))
  goes_on true cut Run of w = absurd (true≢false (sym of))
  goes_on true cut Promote of w = absurd (true≢false (sym of))
  goes_on true cut Reset of w = absurd (true≢false (sym of))
  goes_on true cut Roots of w = silent Roots Mark cut false (inl refl) refl
  goes_on true cut Mark of w = marks cut (f.changed == 0)
  goes_on true cut Rounds of w = rounds cut (f.changed == 0)
  goes_on true cut Decide of w = silent Decide Queued cut cut (inl refl) refl
  goes_on true cut Queued of w = queued cut (f.changed == 0)
  goes_on true cut Clean of w = silent Clean Lasts cut cut (inl refl) refl
  goes_on true cut Lasts of w = silent Lasts Sweep cut cut (inl refl) refl
  goes_on true cut Sweep of w = silent Sweep Answer cut cut refl refl
  goes_on true cut Answer of w = silent Answer Run cut cut refl refl

  -- whatever came left
  goes : (complete armed unswept whole cut : Bool) (left : Kind) → armed ≡ false → unswept ≡ false → (IsOfCollection left ≡ true → complete ≡ true) → (IsOfCollection left ≡ true → whole ≡ true)
      → let p : Progress = record { cut = cut; whole = whole; unswept = unswept; armed = armed } in Goes complete left (next_kind k (Caller complete) left p f) p
  goes complete true unswept whole cut left a u c w = absurd (true≢false a)
  goes complete false true whole cut left a u c w = absurd (true≢false u)
  goes true false false whole cut Run a u c w = record { step = inl refl; on = before true cut whole Promote refl }
  goes false false false whole cut Run a u c w = record { step = refl; on = before false cut whole Promote refl }
  goes true false false whole cut Promote a u c w = record { step = inl refl; on = before true cut whole Reset refl }
  goes false false false whole cut Promote a u c w = record { step = refl; on = before false cut whole Reset refl }
  goes true false false whole cut Reset a u c w = record { step = inl refl; on = behind false Roots }
  goes false false false whole cut Reset a u c w = record { step = refl; on = before false false whole Run refl }
  goes true false false whole cut Roots a u c w = goes_on whole cut Roots refl (w refl)
  goes true false false whole cut Mark a u c w = goes_on whole cut Mark refl (w refl)
  goes true false false whole cut Rounds a u c w = goes_on whole cut Rounds refl (w refl)
  goes true false false whole cut Decide a u c w = goes_on whole cut Decide refl (w refl)
  goes true false false whole cut Queued a u c w = goes_on whole cut Queued refl (w refl)
  goes true false false whole cut Clean a u c w = goes_on whole cut Clean refl (w refl)
  goes true false false whole cut Lasts a u c w = goes_on whole cut Lasts refl (w refl)
  goes true false false whole cut Sweep a u c w = goes_on whole cut Sweep refl (w refl)
  goes true false false whole cut Answer a u c w = goes_on whole cut Answer refl (w refl)
  goes false false false whole cut Roots a u c w = absurd (true≢false (sym (c refl)))
  goes false false false whole cut Mark a u c w = absurd (true≢false (sym (c refl)))
  goes false false false whole cut Rounds a u c w = absurd (true≢false (sym (c refl)))
  goes false false false whole cut Decide a u c w = absurd (true≢false (sym (c refl)))
  goes false false false whole cut Queued a u c w = absurd (true≢false (sym (c refl)))
  goes false false false whole cut Clean a u c w = absurd (true≢false (sym (c refl)))
  goes false false false whole cut Lasts a u c w = absurd (true≢false (sym (c refl)))
  goes false false false whole cut Sweep a u c w = absurd (true≢false (sym (c refl)))
  goes false false false whole cut Answer a u c w = absurd (true≢false (sym (c refl)))

  -- domain 0 leads one step further on its walk
  pub walk_goes : (complete : Bool) (left : Kind) (p : Progress) → IsWalk complete left p → Goes complete left (next_kind k (Caller complete) left p f) p
  walk_goes complete left p w = goes complete p.armed p.unswept p.whole p.cut left w.armed w.unswept w.asked w.whole

-- a walk begins where domains run
pub walk_begins : (complete : Bool) (p : Progress) → p.armed ≡ false → p.unswept ≡ false → IsWalk complete Run p
walk_begins complete p armed unswept = record { armed = armed; unswept = unswept; asked = λ e. absurd (true≢false (sym e)); whole = λ e. absurd (true≢false (sym e)) }
