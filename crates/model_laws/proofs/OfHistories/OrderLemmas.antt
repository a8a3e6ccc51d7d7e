-- Finalisers run in the order in which they were queued.
use Rattle.std.proofs.Common.{◌≡◌, ◌≢◌, ℕ, zero, suc, ◌<◌, Bool, true, false, cond, nat_lt, IsTrue, List, [], ◌∷◌, ◌++◌, take, replicate, get_or, set, length, Option, Some, None, refl, ap, sym, ◌∙◌, subst, arith, eqb, eqb-true, get_or-set_same, get_or-set_other, append_assoc, append-nil}
use Rattle.std.specs.List.{list_all}
use Rattle.std.proofs.lemmas.Bool.{ltb-true}
use Rattle.model_core.specs.declared.label.Label.{Label}
use Rattle.model_core.specs.declared.entry.Entry.{Entry}
use Rattle.model_core.specs.declared.entry.Entry.TheVariants.{Command as CommandOf, End, Cut, Queue, Seal, Wipe, Last as LastOf, Collected, Done, Ran}
use Rattle.model_core.specs.declared.graph.Node.{Node}
use Rattle.model_core.specs.declared.graph.Node.TheVariants.{Plain, Raw, Ephe}
use Rattle.model_core.specs.declared.state.Pending.{Pending}
use Rattle.model_core.specs.declared.state.Pending.TheVariants.{Fin, Last}
use Rattle.model_core.specs.declared.state.DomainState.{DomainState}
use Rattle.model_core.specs.declared.state.State.{State}
use Rattle.model_core.specs.Graph.{node_at}
use Rattle.model_core.specs.Domains.{domain_at, with_domain, no_domain, opening, opening_domain}
use Rattle.model_core.specs.Entries.{is_rising, Allowed, with_queued, with_last_queued, with_finals_open, with_lasts_open, freshened, ended, wiped, with_wiped, without_first, after_run, next}
use Rattle.model_core.specs.History.{state_after, LegalFrom}
use Rattle.model_core.specs.Registrations.{ran, all_ran}
use Rattle.model_core.proofs.Reach.ReachLemmas.{and_left}
use Rattle.model_core.proofs.Commands.FrameLemmas.{Frame, part_set, part_map, inside_running, not_same, frame_command}
use Rattle.model_laws.specs.Histories.Finalisers.{queued, all_queued, FinalisersRunInOrder}

abbrev queue_at : List DomainState → ℕ → List Pending
queue_at xs k = (get_or xs k no_domain).queue

-- a domain whose queue grows at its end, or loses its first entry
appended : (xs : List DomainState) (d : ℕ) (y : DomainState) (k : ℕ) (more : List Pending) → d < length xs → y.queue ≡ queue_at xs d ++ more
    → queue_at xs k ++ cond (eqb d k) more [] ≡ queue_at (set xs d y) k
appended xs d y k more inside grown = go (eqb d k) refl
  where
    here : queue_at xs d ++ more ≡ queue_at (set xs d y) d
    here = sym grown ∙ ap (λ (x : DomainState). x.queue) (sym (get_or-set_same xs d y no_domain inside))

    go : (b : Bool) → eqb d k ≡ b → queue_at xs k ++ cond b more [] ≡ queue_at (set xs d y) k
    go true e = subst (λ j. queue_at xs j ++ more ≡ queue_at (set xs d y) j) (eqb-true d k e) here
    go false e = append-nil (queue_at xs k) ∙ ap (λ (x : DomainState). x.queue) (sym (get_or-set_other xs d k y no_domain (not_same d k e)))

popped : (xs : List DomainState) (d : ℕ) (y : DomainState) (k : ℕ) (p : Pending) (rest : List Pending) → d < length xs → queue_at xs d ≡ p ∷ rest → y.queue ≡ rest
    → queue_at xs k ≡ cond (eqb d k) (p ∷ []) [] ++ queue_at (set xs d y) k
popped xs d y k p rest inside was is = go (eqb d k) refl
  where
    here : queue_at xs d ≡ p ∷ queue_at (set xs d y) d
    here = was ∙ ap (λ t. p ∷ t) (sym is ∙ ap (λ (x : DomainState). x.queue) (sym (get_or-set_same xs d y no_domain inside)))

    go : (b : Bool) → eqb d k ≡ b → queue_at xs k ≡ cond b (p ∷ []) [] ++ queue_at (set xs d y) k
    go true e = subst (λ j. queue_at xs j ≡ p ∷ queue_at (set xs d y) j) (eqb-true d k e) here
    go false e = ap (λ (x : DomainState). x.queue) (sym (get_or-set_other xs d k y no_domain (not_same d k e)))

-- a domain of which a registration may still be queued is one of the heap's
inside_low : (xs : List DomainState) (d p : ℕ) → p < (get_or xs d no_domain).low → d < length xs
inside_low [] d p lt = absurd (omega arith)
inside_low (x ∷ xs) zero p lt = omega arith
inside_low (x ∷ xs) (suc d) p lt = let rest : d < length xs = inside_low xs d p lt in omega (arith, rest)

pub inside_places : (xs : List DomainState) (d : ℕ) (places : List ℕ) → IsTrue (is_rising places) → IsTrue (list_all (λ p. nat_lt p (get_or xs d no_domain).low) places) → d < length xs
inside_places xs d [] rising below = cc
inside_places xs d (p ∷ ps) rising below = inside_low xs d p (ltb-true p (get_or xs d no_domain).low (and_left (nat_lt p (get_or xs d no_domain).low) (list_all (λ q. nat_lt q (get_or xs d no_domain).low) ps) below))

module _ (k : ℕ) where
  -- what an entry queues and runs
  abbrev Fits : State → State → List Pending → List Pending → Type 0
  Fits s t more less = queue_at s.domains k ++ more ≡ less ++ queue_at t.domains k

  fits_same : (s t : State) → queue_at t.domains k ≡ queue_at s.domains k → Fits s t [] []
  fits_same s t same = append-nil (queue_at s.domains k) ∙ sym same

  fits_frame : (d : ℕ) (s t : State) → Frame d s t → Fits s t [] []
  fits_frame d s t frame = fits_same s t (go (eqb d k) refl)
    where
      go : (b : Bool) → eqb d k ≡ b → queue_at t.domains k ≡ queue_at s.domains k
      go true e = subst (λ j. queue_at t.domains j ≡ queue_at s.domains j) (eqb-true d k e) frame.queue
      go false e = ap (λ (x : DomainState). x.queue) (frame.elsewhere k (not_same d k e))

  fits_wiped : (s : State) (l : Label) (places : List ℕ) (o : Option Node) → queue_at (with_wiped s l (wiped places o)).domains k ≡ queue_at s.domains k
  fits_wiped s l places None = refl
  fits_wiped s l places (Some (Plain tag fields)) = refl
  fits_wiped s l places (Some (Raw tag fields)) = refl
  fits_wiped s l places (Some (Ephe keys datum)) = refl

  fits_run : (s : State) (d : ℕ) (queue : List Pending) → (domain_at s d).queue ≡ queue → queue ≢ [] → d < length s.domains → Fits s (after_run s d queue) [] (cond (eqb d k) (take 1 queue) [])
  fits_run s d [] e some inside = absurd (some refl)
  fits_run s d (Fin number l r ∷ rest) e some inside =
      let x : DomainState = without_first (domain_at s d) rest in
      append-nil (queue_at s.domains k) ∙ (popped s.domains d x k (Fin number l r) rest inside e refl
      ∙ ap (λ t. cond (eqb d k) (Fin number l r ∷ []) [] ++ t) (sym (part_set (λ y. y.queue) (with_domain s d x).domains d _ refl k)))
  fits_run s d (Last number ∷ rest) e some inside = append-nil (queue_at s.domains k) ∙ popped s.domains d (without_first (domain_at s d) rest) k (Last number) rest inside e refl

  fits_next : (s : State) (e : Entry) → Allowed s e → Fits s (next s e) (queued k s e) (ran k s e)
  fits_next s (CommandOf d c full) allowed = fits_frame d s _ (frame_command s d c full)
  fits_next s (End d) allowed = fits_same s (next s (End d)) (part_set (λ y. y.queue) s.domains d (ended (domain_at s d)) refl k)
  fits_next s Cut allowed = fits_same s (next s Cut) (part_map (λ y. y.queue) with_finals_open (λ x. refl) s.domains k)
  fits_next s (Queue d places) allowed = appended s.domains d (with_queued (domain_at s d) places) k _ (inside_places s.domains d places allowed.rising allowed.below) refl
  fits_next s Seal allowed = fits_same s (next s Seal) (part_map (λ y. y.queue) with_lasts_open (λ x. refl) s.domains k)
  fits_next s (Wipe l keys) allowed = append-nil (queue_at s.domains k) ∙ sym (fits_wiped s l keys (node_at s.graph l))
  fits_next s (LastOf d place) allowed = appended s.domains d (with_last_queued (domain_at s d) place) k _ (inside_low s.domains d place allowed.below) refl
  fits_next s Collected allowed = fits_same s (next s Collected) (part_map (λ y. y.queue) freshened (λ x. refl) s.domains k)
  fits_next s Done allowed = append-nil (queue_at s.domains k)
  fits_next s (Ran d) allowed = fits_run s d (domain_at s d).queue refl allowed.queue (inside_running s.domains d allowed.running)

  fits_all : (s : State) (h : List Entry) → LegalFrom s h → Fits s (state_after s h) (all_queued k s h) (all_ran k s h)
  fits_all s [] legal = append-nil (queue_at s.domains k)
  fits_all s (e ∷ h) legal =
      let t : State = next s e in
      sym (append_assoc (queue_at s.domains k) (queued k s e) (all_queued k t h))
      ∙ (ap (λ a. a ++ all_queued k t h) (fits_next s e legal.0)
      ∙ (append_assoc (ran k s e) (queue_at t.domains k) (all_queued k t h)
      ∙ (ap (λ a. ran k s e ++ a) (fits_all t h legal.1)
      ∙ sym (append_assoc (ran k s e) (all_ran k t h) (queue_at (state_after t h).domains k)))))

  none_at_start : (n : ℕ) (j : ℕ) → queue_at (replicate n opening_domain) j ≡ []
  none_at_start zero j = refl
  none_at_start (suc n) zero = refl
  none_at_start (suc n) (suc j) = none_at_start n j

pub order_law : FinalisersRunInOrder
order_law z h k legal =
    sym (fits_all k (opening z) h legal) ∙ ap (λ a. a ++ all_queued k (opening z) h) (none_at_start k z.domains k)
