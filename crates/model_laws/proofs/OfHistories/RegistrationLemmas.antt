-- No registration of a domain that runs is lost, and finalisers run in the order in which they were queued.
use Rattle.std.proofs.Common.{◌≡◌, ℕ, zero, suc, ◌+◌, ◌<◌, Bool, true, false, cond, IsTrue, List, [], ◌∷◌, ◌++◌, map, reverse, remove, take, replicate, slice_get, option_map, option_to_list, get_or, set, length, Option, Some, None, refl, ap, sym, ◌∙◌, subst, arith, eqb, eqb-true, get_or-set_same, get_or-set_other}
use Rattle.model_core.specs.declared.label.Label.{Label}
use Rattle.model_core.specs.declared.command.Command.{Command}
use Rattle.model_core.specs.declared.command.Command.TheVariants.{Finalise, FinaliseLast}
use Rattle.model_core.specs.declared.entry.Entry.{Entry}
use Rattle.model_core.specs.declared.entry.Entry.TheVariants.{Command as CommandOf, End, Cut, Queue, Seal, Wipe, Last as LastOf, Collected, Done, Ran}
use Rattle.model_core.specs.declared.graph.Value.TheVariants.{Block}
use Rattle.model_core.specs.declared.graph.Node.{Node}
use Rattle.model_core.specs.declared.graph.Node.TheVariants.{Plain, Raw, Ephe}
use Rattle.model_core.specs.declared.state.Finaliser.{Finaliser}
use Rattle.model_core.specs.declared.state.LastFinaliser.{LastFinaliser}
use Rattle.model_core.specs.declared.state.Pending.{Pending}
use Rattle.model_core.specs.declared.state.Pending.TheVariants.{Fin, Last}
use Rattle.model_core.specs.declared.state.DomainState.{DomainState}
use Rattle.model_core.specs.declared.state.State.{State}
use Rattle.model_core.specs.Graph.{node_at}
use Rattle.model_core.specs.Domains.{domain_at, with_domain, with_register, no_domain, label_in, opening, opening_domain}
use Rattle.model_core.specs.Commands.{outcome, finalised, finalised_last, after_command}
use Rattle.model_core.specs.Entries.{is_rising, Allowed, queued_final, queued_last, at_places, without_places, with_queued, with_last_queued, with_finals_open, with_lasts_open, freshened, ended, wiped, with_wiped, without_first, after_run, next}
use Rattle.model_core.specs.History.{state_after, LegalFrom, is_entry_of}
use Rattle.model_core.specs.Registrations.{registered_by, registered, ran, all_registered, all_ran, left_over}
use Rattle.model_core.proofs.Commands.FrameLemmas.{part_set, part_map, inside_running, not_same, keeps_next}
use Rattle.model_core.proofs.Histories.TallyLemmas.{one_place, tally, tally-append, tally-map, tally-cond, tally-remove, tally-without, tally_count, counted, increasing}
use Rattle.model_core.proofs.Commands.MoveLemmas.{registers_one}
use Rattle.model_core.proofs.Commands.DomainStepLemmas.{SameWork, work_outcome}
use Rattle.model_core.proofs.Collections.RegistrationLemmas.{Fits, Outlives, fits_next, none_at_start}
use Rattle.model_core.proofs.Histories.EndedLemmas.{running_before}
use Rattle.model_laws.specs.Histories.Finalisers.{NoRegistrationIsLost}

-- a domain that runs afterwards hasn't ended
outlives : (s : State) (e : Entry) (k : ℕ) → Allowed s e → (domain_at (next s e) k).ended ≡ false → Outlives k e
outlives s (End d) k allowed runs = go (eqb d k) refl
  where
    go : (b : Bool) → eqb d k ≡ b → b ≡ false
    go true e =
        let over : (domain_at (next s (End d)) d).ended ≡ true =
        ap (λ (x : DomainState). x.ended) (get_or-set_same s.domains d (ended (domain_at s d)) no_domain (inside_running s.domains d allowed.running)) in
        absurd (let clash : true ≡ false = sym (subst (λ j. (domain_at (next s (End d)) j).ended ≡ true) (eqb-true d k e) over) ∙ runs in cc)
    go false e = refl
outlives s (CommandOf d c full) k allowed runs = cc
outlives s Cut k allowed runs = cc
outlives s (Queue d places) k allowed runs = cc
outlives s Seal k allowed runs = cc
outlives s (Wipe l keys) k allowed runs = cc
outlives s (LastOf d place) k allowed runs = cc
outlives s Collected k allowed runs = cc
outlives s Done k allowed runs = cc
outlives s (Ran d) k allowed runs = cc

module _ (f : Pending → ℕ) where
  fits_all : (s : State) (h : List Entry) (k : ℕ) → LegalFrom s h → (domain_at (state_after s h) k).ended ≡ false
      → Fits f k s (state_after s h) (tally f (all_ran k s h)) (tally f (all_registered k s h))
  fits_all s [] k legal runs = omega arith
  fits_all s (e ∷ h) k legal runs =
      let first = fits_next f s k e legal.0 (outlives s e k legal.0 (running_before (next s e) h k legal.1 runs)) in
      let rest = fits_all (next s e) h k legal.1 runs in
      let done = tally-append f (ran k s e) (all_ran k (next s e) h) in
      let made = tally-append f (registered k s e) (all_registered k (next s e) h) in
      omega (arith, first, rest, done, made)

pub not_lost_law : NoRegistrationIsLost
not_lost_law z h k test legal runs =
    let f : Pending → ℕ = counted test in
    let s : State = state_after (opening z) h in
    let all = fits_all f (opening z) h k legal runs in
    let none = none_at_start f z.domains k in
    let over = tally_count test (left_over (domain_at s k)) in
    let done = tally_count test (all_ran k (opening z) h) in
    let made = tally_count test (all_registered k (opening z) h) in
    omega (arith, all, none, over, done, made)
