-- The second Roots: what each move of a domain keeps of the marked blocks that are closed, and what follows once all have arrived.
use Rattle.std.proofs.Common.{◌≡◌, ⊎_elim, ℕ, ◌<◌, Bool, true, false, IsTrue, refl, sym, ◌∙◌, subst}
use Rattle.model_core.specs.declared.label.Label.{Label}
use Rattle.model_core.specs.declared.state.State.{State}
use Rattle.model_core.specs.Reach.{IsClosedUnder}
use Rattle.model_cycle.specs.Queueing.{InQueued}
use Rattle.model_cycle.specs.Shares.{AllArrived, Shares, arrives, no_shares, owing, stored_changed}
use Rattle.model_cycle.proofs.Sharing.{at_cases, at_same}
use Rattle.model_cycle.proofs.Tracing.{never}

module _ (n : ℕ) (s : State) (marked : Label → Bool) where
  pub queued_start : IsClosedUnder s.graph marked → InQueued n s marked no_shares
  queued_start closed = record { paid = λ d h. refl; closed = λ quiet. closed }

  module _ (w : Shares) (i : InQueued n s marked w) (d : ℕ) where
    -- who darkens a block owes, so it isn't quiet
    pub queued_owing : (other : Label → Bool) → d < n → w.arrived d ≡ false → InQueued n s other (owing w d)
    queued_owing other inside acts = record {
      paid = λ k h. ⊎_elim
          (λ t. absurd (never (w.arrived d) acts (subst (λ j. IsTrue (w.arrived j)) t.0 h)))
          (λ t. t.1 ∙ i.paid k h)
          (at_cases w.owes d true k);
      closed = λ quiet. let clash : true ≡ false = sym (at_same w.owes d true) ∙ quiet.paid d inside in cc;
    }

    pub queued_stored : InQueued n s marked (stored_changed w d)
    queued_stored = record {
      paid = λ k h. ⊎_elim (λ t. t.1) (λ t. t.1 ∙ i.paid k h) (at_cases w.owes d false k);
      closed = λ quiet. let clash : true ≡ false = quiet.unchanged in cc;
    }

    pub queued_arrived : w.owes d ≡ false → InQueued n s marked (arrives w d)
    queued_arrived paid = record {
      paid = λ k h. ⊎_elim
          (λ t. subst (λ j. w.owes j ≡ false) (sym t.0) paid)
          (λ t. i.paid k (subst (λ b. IsTrue b) t.1 h))
          (at_cases w.arrived d true k);
      closed = λ quiet. i.closed (record { unchanged = quiet.unchanged; paid = quiet.paid });
    }

  -- where all have arrived and nothing was changed, the marked blocks are closed still
  pub queued_end : (w : Shares) → InQueued n s marked w → AllArrived n w → w.changed ≡ false → IsClosedUnder s.graph marked
  queued_end w i arrived unchanged = i.closed (record { unchanged = unchanged; paid = λ d inside. i.paid d (arrived d inside) })
