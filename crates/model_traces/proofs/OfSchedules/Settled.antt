-- Where a collection may be answered nothing is left that is gone. So what it has taken is known.
use Rattle.std.proofs.Common.{◌≡◌, ℕ, zero, suc, Bool, true, not, ◌&&◌, List, [], ◌∷◌, ◌++◌, map, get_or, refl, sym, ap, ◌∙◌, None, Some}
use Rattle.std.specs.Prelude.{Option, reverse}
use Rattle.std.specs.List.{list_all}
use Rattle.std.proofs.lemmas.Bool.{and_parts}
use Rattle.model_core.specs.declared.label.Label.{Label}
use Rattle.model_core.specs.declared.graph.Node.{Node}
use Rattle.model_core.specs.declared.graph.Node.TheVariants.{Ephe}
use Rattle.model_core.specs.declared.graph.Value.{Value}
use Rattle.model_core.specs.declared.state.DomainState.{DomainState}
use Rattle.model_core.specs.declared.state.LastFinaliser.{LastFinaliser}
use Rattle.model_core.specs.declared.state.State.{State}
use Rattle.model_core.specs.Graph.{has_label, node_at}
use Rattle.model_core.specs.Domains.{no_domain, domain_at, queues, roots, waiting, settled_roots, settled_reach, reach}
use Rattle.model_core.specs.Reach.{key_holds}
use Rattle.model_core.specs.Entries.{has_live_keys, queued_last, CollectedAllowed}
use Rattle.model_core.proofs.Collections.CollectionLemmas.{all_has}
use Rattle.model_core.proofs.Reach.ReachLemmas.{has-append_left, reachable_more}
use Rattle.model_traces.proofs.OfSchedules.Queued.{dead_of, others_of}
use Rattle.model_traces.proofs.OfSchedules.Wiped.{is_gone_key, emptied_node}
use Rattle.model_traces.proofs.OfSchedules.Taken.{gone_in, gone_last, Taking, lasts_known, ephemeron_known}

all_get : (P : DomainState → Bool) (xs : List DomainState) (d : ℕ) → P no_domain ≡ true → list_all P xs ≡ true → P (get_or xs d no_domain) ≡ true
all_get P [] zero none all = none
all_get P [] (suc d) none all = none
all_get P (x ∷ xs) zero none all = (and_parts (P x) (list_all P xs) all).0
all_get P (x ∷ xs) (suc d) none all = all_get P xs d none (and_parts (P x) (list_all P xs) all).1

module _ (s t : State) (r : Taking s t) where
  -- what is reached then wasn't gone at the seal
  not_gone : (l : Label) → has_label (reach t) l ≡ true → not (gone_in s l) ≡ true
  not_gone l h =
      let inside : has_label (settled_reach t (queues t)) l ≡ true = reachable_more t.graph (roots t (queues t)) (settled_roots t (queues t)) (has-append_left (roots t (queues t)) (waiting t)) l h in
      ap (λ b. not (not b)) (sym (ap (λ (ls : List Label). has_label ls l) r.settled) ∙ inside)

  lasts_left : (fs : List LastFinaliser) → list_all (λ f. has_label (reach t) f.label) fs ≡ true → list_all (λ f. not (gone_last s f)) fs ≡ true
  lasts_left [] e = refl
  lasts_left (f ∷ fs) e =
      let parts = and_parts (has_label (reach t) f.label) (list_all (λ g. has_label (reach t) g.label) fs) e in
      ap (λ b. b && list_all (λ g. not (gone_last s g)) fs) (not_gone f.label parts.0) ∙ lasts_left fs parts.1

  keys_left : (ks : List (Option Label)) → list_all (key_holds (has_label (reach t))) ks ≡ true → list_all (λ k. not (is_gone_key (gone_in s) k)) ks ≡ true
  keys_left [] e = refl
  keys_left (None ∷ ks) e = keys_left ks (and_parts (key_holds (has_label (reach t)) None) (list_all (key_holds (has_label (reach t))) ks) e).1
  keys_left (Some l ∷ ks) e =
      let parts = and_parts (has_label (reach t) l) (list_all (key_holds (has_label (reach t))) ks) e in
      ap (λ b. b && list_all (λ k. not (is_gone_key (gone_in s) k)) ks) (not_gone l parts.0) ∙ keys_left ks parts.1

  -- the registrations of `finalise_last`, and the queues
  pub collected_lasts : (d : ℕ) → CollectedAllowed t → ((domain_at t d).lasts ≡ others_of queued_last (gone_last s) (domain_at s d).lasts)
      × ((domain_at t d).queue ≡ (domain_at s d).queue ++ map queued_last (reverse (dead_of queued_last (gone_last s) (domain_at s d).lasts)))
  collected_lasts d a = lasts_known s t d r (lasts_left (domain_at t d).lasts (all_get (λ x. list_all (λ f. has_label (reach t) f.label) x.lasts) t.domains d refl a.lasts))

  -- and each ephemeron that is reached
  pub collected_ephemeron : (l : Label) (keys : List (Option Label)) (datum : Value) (now : List (Option Label)) (left : Value) → CollectedAllowed t → has_label (reach t) l ≡ true
      → node_at s.graph l ≡ Some (Ephe keys datum) → node_at t.graph l ≡ Some (Ephe now left) → Ephe now left ≡ emptied_node (gone_in s) (Ephe keys datum)
  collected_ephemeron l keys datum now left a h was is =
      let live : has_live_keys t (node_at t.graph l) ≡ true = all_has (λ x. has_live_keys t (node_at t.graph x)) (reach t) a.keys l h in
      let held : list_all (key_holds (has_label (reach t))) now ≡ true = sym (ap (λ (o : Option Node). has_live_keys t o) is) ∙ live in
      ephemeron_known s (node_at s.graph l) (node_at t.graph l) keys datum now left (r.nodes l) was is (keys_left now held)
