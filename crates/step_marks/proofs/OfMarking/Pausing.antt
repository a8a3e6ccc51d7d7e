-- While a collection stops the domains none of them runs, and each knows on what it knew as it ran: nothing.
use Rattle.std.proofs.Common.{◌≢◌, ℕ, Bool, List, refl}
use Rattle.model_core.specs.declared.label.Label.{Label}
use Rattle.heap_rule.specs.declared.config.Config.{Config}
use Rattle.heap_rule.specs.declared.phase.Kind.TheVariants.{Run}
use Rattle.heap_rule.specs.declared.phase.Stage.TheVariants.{In}
use Rattle.heap_rule.specs.declared.view.DomainView.{DomainView}
use Rattle.heap_rule.specs.Beside.{RunsBeside, IsUnaware}
use Rattle.heap_rule.specs.Cycles.{Cycling, Told}
use Rattle.heap_rule.specs.Phases.{Pause, Staged}
use Rattle.heap_rule.specs.Places.{Live}
use Rattle.heap_rule.specs.Pools.{Holder}
use Rattle.heap_rule.proofs.BesideLemmas.{runs_on, unaware_of}
use Rattle.heap_rule.proofs.Sharings.{kind_now}

module _ (k : Config) (p : Pause) (c : Cycling) (told : Told k p c.kind c.shares) (paused : c.kind ≢ Run) where
  pub nobody_runs : (z : DomainView) → Staged p z → z.seen.stage ≢ In Run
  nobody_runs z staged runs = paused (kind_now k p c z Run runs staged told)

  -- it knows on whatever happens to blocks, pools, marks and words
  pub paused_on : (live live' : Live) (holder holder' : ℕ → Holder) (marked marked' : Label → Bool) (words words' : List ℕ) (z : DomainView) → Staged p z → RunsBeside k live holder c.armed c.past marked words z.own.number z.seen.stage z.seen.share
      → RunsBeside k live' holder' c.armed c.past marked' words' z.own.number z.seen.stage z.seen.share
  paused_on live live' holder holder' marked marked' words words' z staged h = runs_on k live live' holder holder' c.armed c.past c.past marked marked' words words' z.own.number z.seen.stage z.seen.share (λ runs. absurd (nobody_runs z staged runs)) refl (λ r. refl) h

  pub paused_unaware : (live : Live) (holder : ℕ → Holder) (marked : Label → Bool) (words : List ℕ) (z : DomainView) → Staged p z → RunsBeside k live holder c.armed c.past marked words z.own.number z.seen.stage z.seen.share → IsUnaware z.seen.share
  paused_unaware live holder marked words z staged h = unaware_of k live holder c.armed c.past marked words z.own.number z.seen.stage z.seen.share (nobody_runs z staged) h
