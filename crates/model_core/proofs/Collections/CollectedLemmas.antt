-- After a collection that is complete nothing is left that its entries may take.
use Rattle.std.proofs.Common.{◌≡◌, ℕ, zero, suc, Bool, true, false, not, ◌&&◌, IsTrue, List, [], ◌∷◌, ◌++◌, map, flat_map, filter_map, get_or, slice_get, Option, Some, None, refl, ap, sym, ◌∙◌, subst}
use Rattle.std.specs.List.{list_all}
use Rattle.model_core.specs.declared.label.Label.{Label}
use Rattle.model_core.specs.declared.entry.Entry.TheVariants.{Collected}
use Rattle.model_core.specs.declared.graph.Node.{Node}
use Rattle.model_core.specs.declared.graph.Node.TheVariants.{Plain, Raw, Ephe}
use Rattle.model_core.specs.declared.state.DomainState.{DomainState}
use Rattle.model_core.specs.declared.state.Finaliser.{Finaliser}
use Rattle.model_core.specs.declared.state.LastFinaliser.{LastFinaliser}
use Rattle.model_core.specs.declared.state.Pending.{Pending}
use Rattle.model_core.specs.declared.state.State.{State}
use Rattle.model_core.specs.Graph.{same_label, has_label, label_of, node_at}
use Rattle.model_core.specs.Domains.{domain_at, no_domain, queues, roots, reach, waiting, settled_roots, settled_reach, is_reachable_with, pending_label, opening}
use Rattle.model_core.specs.Reach.{key_holds, reachable, is_reachable}
use Rattle.model_core.specs.Entries.{is_some_and, is_dead, is_gone, is_let_go, has_gone_keys, keys_are_live, freshened, CollectedAllowed, next}
use Rattle.model_core.specs.History.{state_after}
use Rattle.model_core.specs.Laws.{NothingPermitted, CollectedLeavesNothing, FullMajorCountsReach}
use Rattle.model_core.proofs.Graphs.ListLemmas.{flat_map-map}
use Rattle.model_core.proofs.Collections.CollectionLemmas.{all_has}
use Rattle.model_core.proofs.Collections.CutLemmas.{queues_mapped}
use Rattle.model_core.proofs.Graphs.ListLemmas.{all_at}
use Rattle.model_core.proofs.Reach.ReachLemmas.{or_left, or_right, and_left, and_right, and_both, has-append_left, has-append_right, reachable_more}
use Rattle.model_core.proofs.Reach.ReachSizeLemmas.{reachable-no_repeats}
use Rattle.model_core.proofs.Histories.WellFormedLemmas.{reach_after}
use Rattle.model_core.proofs.Graphs.GraphLemmas.{same_label_refl}

-- what is reachable isn't gone
not_gone : (s : State) (l : Label) → IsTrue (has_label (reach s) l) → is_gone s (queues s) l ≡ false
not_gone s l h =
    let settled : IsTrue (has_label (settled_reach s (queues s)) l) =
    reachable_more s.graph (roots s (queues s)) (settled_roots s (queues s)) (has-append_left (roots s (queues s)) (waiting s)) l h in
    ap not settled

-- a test that fails at each full key fails at one place
no_key : (s : State) (keys : List (Option Label)) (p : ℕ) → IsTrue (list_all (key_holds (has_label (reach s))) keys)
    → is_some_and (is_some_and (is_gone s (queues s))) (slice_get keys p) ≡ false
no_key s keys p all = go (slice_get keys p) refl
  where
    go : (o : Option (Option Label)) → slice_get keys p ≡ o → is_some_and (is_some_and (is_gone s (queues s))) o ≡ false
    go None e = refl
    go (Some None) e = refl
    go (Some (Some k)) e = not_gone s k (all_at (key_holds (has_label (reach s))) keys all p (Some k) e)

and_false : (b : Bool) → b ≡ false → b && true ≡ false
and_false true e = cc
and_false false e = refl

false_and : (a b : Bool) → a ≡ false → a && b ≡ false
false_and true b e = cc
false_and false b e = refl

no_keys : (s : State) (o : Option Node) (p : ℕ) → IsTrue (keys_are_live (has_label (reach s)) o) → has_gone_keys s (p ∷ []) o ≡ false
no_keys s None p live = refl
no_keys s (Some (Plain tag fields)) p live = refl
no_keys s (Some (Raw tag fields)) p live = refl
no_keys s (Some (Ephe keys datum)) p live = and_false (is_some_and (is_some_and (is_gone s (queues s))) (slice_get keys p)) (no_key s keys p live)

-- a registration of a domain is one of all
final_at : (xs : List Finaliser) (p : ℕ) (f : Finaliser) → slice_get xs p ≡ Some f → IsTrue (has_label (map (λ g. g.label) xs) f.label)
final_at [] p f e = cc
final_at (x ∷ xs) zero f e =
    let same : x ≡ f = cc in
    or_left (same_label x.label f.label) (has_label (map (λ g. g.label) xs) f.label)
    (subst (λ (z : Finaliser). IsTrue (same_label x.label z.label)) same (same_label_refl x.label))
final_at (x ∷ xs) (suc p) f e = or_right (same_label x.label f.label) (has_label (map (λ g. g.label) xs) f.label) (final_at xs p f e)

waiting_at : (xs : List DomainState) (d p : ℕ) (f : Finaliser) → slice_get (get_or xs d no_domain).finals p ≡ Some f
    → IsTrue (has_label (flat_map (λ x. map (λ g. g.label) x.finals) xs) f.label)
waiting_at [] d p f e = cc
waiting_at (x ∷ xs) zero p f e = has-append_left (map (λ g. g.label) x.finals) (flat_map (λ y. map (λ g. g.label) y.finals) xs) f.label (final_at x.finals p f e)
waiting_at (x ∷ xs) (suc d) p f e = has-append_right (map (λ g. g.label) x.finals) (flat_map (λ y. map (λ g. g.label) y.finals) xs) f.label (waiting_at xs d p f e)

-- a test that each `finalise_last` of each domain passes
last_at : (test : Label → Bool) (xs : List DomainState) (d p : ℕ) (f : LastFinaliser) → IsTrue (list_all (λ x. list_all (λ g. test g.label) x.lasts) xs)
    → slice_get (get_or xs d no_domain).lasts p ≡ Some f → IsTrue (test f.label)
last_at test [] d p f all e = cc
last_at test (x ∷ xs) zero p f all e = all_at (λ g. test g.label) x.lasts (and_left (list_all (λ g. test g.label) x.lasts) _ all) p f e
last_at test (x ∷ xs) (suc d) p f all e = last_at test xs d p f (and_right (list_all (λ g. test g.label) x.lasts) _ all) e

-- what Collected asks for, but for the mode
record IsCollected (s : State) : Type 0 where
  keys : IsTrue (list_all (λ l. keys_are_live (has_label (reach s)) (node_at s.graph l)) (reach s))
  finals : IsTrue (list_all (is_reachable_with s s.cut) (waiting s))
  lasts : IsTrue (list_all (λ x. list_all (λ f. has_label (reach s) f.label) x.lasts) s.domains)

nothing_left : (s : State) → IsCollected s → NothingPermitted s
nothing_left s collected = record {
  keys = λ l h p. no_keys s (node_at s.graph l) p (all_has (λ x. keys_are_live (has_label (reach s)) (node_at s.graph x)) (reach s) collected.keys l h);
  finals = λ d p. no_final d p (slice_get (domain_at s d).finals p) refl;
  lasts = λ d p. no_last d p (slice_get (domain_at s d).lasts p) refl;
}
  where
    no_final : (d p : ℕ) (o : Option Finaliser) → slice_get (domain_at s d).finals p ≡ o → is_some_and (λ f. is_dead s s.cut f.label) o ≡ false
    no_final d p None e = refl
    no_final d p (Some f) e =
        let reached : IsTrue (is_reachable_with s s.cut f.label) = all_has (is_reachable_with s s.cut) (waiting s) collected.finals f.label (waiting_at s.domains d p f e) in
        ap not reached

    no_last : (d p : ℕ) (o : Option LastFinaliser) → slice_get (domain_at s d).lasts p ≡ o → is_some_and (λ f. is_gone s (queues s) f.label && is_let_go s f.label) o ≡ false
    no_last d p None e = refl
    no_last d p (Some f) e = false_and (is_gone s (queues s) f.label) (is_let_go s f.label)
        (not_gone s f.label (last_at (has_label (reach s)) s.domains d p f collected.lasts e))

-- Collected changes nothing of what is reachable
pub lasts_fresh : (test : Label → Bool) (xs : List DomainState) → IsTrue (list_all (λ x. list_all (λ f. test f.label) x.lasts) xs)
    → IsTrue (list_all (λ x. list_all (λ f. test f.label) x.lasts) (map freshened xs))
lasts_fresh test [] all = refl
lasts_fresh test (x ∷ xs) all = and_both (list_all (λ f. test f.label) x.lasts) _ (and_left (list_all (λ f. test f.label) x.lasts) _ all)
    (lasts_fresh test xs (and_right (list_all (λ f. test f.label) x.lasts) _ all))

module _ (s : State) where
  abbrev after : State
  after = next s Collected

  pub roots_fresh : (qs : List (List Pending)) → roots after qs ≡ roots s qs
  roots_fresh qs = ap (λ t. t ++ flat_map (filter_map pending_label) qs) (flat_map-map (λ (x : DomainState). filter_map label_of x.registers) freshened s.domains)

  pub reach_fresh : reach after ≡ reach s
  reach_fresh = ap (reachable s.graph) (ap (roots after) (queues_mapped freshened (λ x. refl) s.domains) ∙ roots_fresh (queues s))

  pub waiting_fresh : waiting after ≡ waiting s
  waiting_fresh = flat_map-map (λ (x : DomainState). map (λ f. f.label) x.finals) freshened s.domains

  collected_fresh : CollectedAllowed s → IsCollected after
  collected_fresh allowed = record {
    keys = subst (λ z. IsTrue (list_all (λ l. keys_are_live (has_label z) (node_at s.graph l)) z)) (sym reach_fresh) allowed.keys;
    finals = subst (λ z. IsTrue (list_all (is_reachable s.graph z) (waiting after))) (sym (roots_fresh s.cut))
        (subst (λ z. IsTrue (list_all (is_reachable s.graph (roots s s.cut)) z)) (sym waiting_fresh) allowed.finals);
    lasts = subst (λ z. IsTrue (list_all (λ x. list_all (λ f. has_label z f.label) x.lasts) (map freshened s.domains))) (sym reach_fresh)
        (lasts_fresh (has_label (reach s)) s.domains allowed.lasts);
  }

-- after a Collected that is allowed nothing permitted is left
pub collected_law : CollectedLeavesNothing
collected_law s allowed = nothing_left (next s Collected) (collected_fresh s allowed)

-- what `full_major` counts is what is reachable
pub counts_law : FullMajorCountsReach
counts_law z h d =
    let s : State = state_after (opening z) h in
    record { live = reach s; once = reachable-no_repeats s.graph (roots s (queues s)); least = reach_after z h; answers = refl }
