-- What one collection takes it takes together.
use Rattle.std.proofs.Common.{◌≡◌, ℕ, true, false, not, IsTrue, List, [], ◌∷◌, ◌++◌, map, slice_get, Some, refl, sym, ◌∙◌, subst}
use Rattle.model_core.specs.declared.label.Label.{Label}
use Rattle.model_core.specs.declared.entry.Entry.{Entry}
use Rattle.model_core.specs.declared.entry.Entry.TheVariants.{Seal, Done}
use Rattle.model_core.specs.declared.state.Finaliser.{Finaliser}
use Rattle.model_core.specs.declared.state.LastFinaliser.{LastFinaliser}
use Rattle.model_core.specs.declared.state.DomainState.{DomainState}
use Rattle.model_core.specs.declared.state.Sizes.{Sizes}
use Rattle.model_core.specs.declared.state.State.{State}
use Rattle.model_core.specs.Graph.{has_label}
use Rattle.model_core.specs.Domains.{domain_at, queues, roots, reach, waiting, settled_roots, opening}
use Rattle.model_core.specs.Entries.{left_reach, DoneAllowed}
use Rattle.model_core.specs.History.{state_after}
use Rattle.model_core.proofs.Reach.ReachLemmas.{never_true, not_true, has-append_left, has-append_right}
use Rattle.model_core.proofs.Collections.CollectionLemmas.{all_has, sealed_together}
use Rattle.model_laws.specs.Histories.Cells.{Key, Datum}
use Rattle.model_laws.specs.Histories.Together.{FinalsGoTogether, IsTakenOut, TakenTogether}
use Rattle.model_laws.proofs.OfHistories.LostLemmas.{last_labels, left_cells, left_roots, reached_left}
use Rattle.model_laws.proofs.OfHistories.SplitLemmas.{legal_rest, mapped_has, domain_has}

-- a registration that waits is among those that wait
waits : (s : State) (d p : ℕ) (f : Finaliser) → slice_get (domain_at s d).finals p ≡ Some f → IsTrue (has_label (waiting s) f.label)
waits s d p f at = domain_has (λ (x : DomainState). map (λ (g : Finaliser). g.label) x.finals) refl s.domains d f.label (mapped_has (λ (g : Finaliser). g.label) (domain_at s d).finals p f at)

pub finals_together_law : FinalsGoTogether
finals_together_law z h l legal queued d p f at same =
    let s : State = state_after (opening z) h in
    let none : has_label (waiting s) l ≡ false = sealed_together s (legal_rest (opening z) h (Seal ∷ []) legal).0 l queued in
    let here : IsTrue (has_label (waiting s) l) = subst (λ z. IsTrue (has_label (waiting s) z)) same (waits s d p f at) in
    let clash : true ≡ false = sym here ∙ none in cc

module _ (z : Sizes) (h : List Entry) (l : Label) (allowed : DoneAllowed (state_after (opening z) h)) (taken : IsTrue (has_label (state_after (opening z) h).taken l)) where
  abbrev s : State
  s = state_after (opening z) h

  not_left : IsTrue (has_label (left_reach s) l) → ⊥
  not_left left = not_true (has_label (left_reach s) l) (all_has (λ x. not (has_label (left_reach s) x)) s.taken allowed.apart l taken) left

  taken_out : IsTakenOut s l
  taken_out = record {
    unreached = never_true (has_label (reach s) l) (λ there. not_left (reached_left z h l there));
    keys = λ e i there at. not_left (left_cells z h e (Key i) l (reached_left z h e there) at);
    datum = λ e there at. not_left (left_cells z h e Datum l (reached_left z h e there) at);
    finals = λ d p f at same. not_left (left_roots z h l (has-append_left (settled_roots s (queues s)) (last_labels s) l
        (has-append_right (roots s (queues s)) (waiting s) l (subst (λ w. IsTrue (has_label (waiting s) w)) same (waits s d p f at)))));
    lasts = λ d p f at same. not_left (left_roots z h l (has-append_right (settled_roots s (queues s)) (last_labels s) l
        (subst (λ w. IsTrue (has_label (last_labels s) w)) same
        (domain_has (λ (x : DomainState). map (λ (g : LastFinaliser). g.label) x.lasts) refl s.domains d f.label (mapped_has (λ (g : LastFinaliser). g.label) (domain_at s d).lasts p f at)))));
  }

pub taken_together_law : TakenTogether
taken_together_law z h l legal taken = taken_out z h l (legal_rest (opening z) h (Done ∷ []) legal).0 taken
