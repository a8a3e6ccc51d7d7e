-- What the wipes of a schedule's collection make of each block: each ephemeron that is reached loses all keys that are gone, and its data with one.
use Rattle.std.proofs.Common.{◌≡◌, ◌⊎◌, inl, inr, ℕ, Bool, true, false, cond, ◌&&◌, ◌||◌, IsTrue, List, [], ◌∷◌, ◌++◌, refl, sym, ap, ◌∙◌, subst, ⊎_elim, None, Some}
use Rattle.std.specs.Prelude.{Option, filter, flat_map}
use Rattle.std.specs.List.{list_all, list_any}
use Rattle.std.proofs.lemmas.List.Folds.{list_all-append}
use Rattle.model_core.specs.declared.label.Label.{Label}
use Rattle.model_core.specs.declared.entry.Entry.{Entry}
use Rattle.model_core.specs.declared.entry.Entry.TheVariants.{Wipe}
use Rattle.model_core.specs.declared.graph.Node.{Node}
use Rattle.model_core.specs.declared.graph.Node.TheVariants.{Plain, Raw, Ephe}
use Rattle.model_core.specs.declared.graph.Value.{Value}
use Rattle.model_core.specs.declared.graph.Value.TheVariants.{Nothing}
use Rattle.model_core.specs.declared.state.State.{State}
use Rattle.model_core.specs.Graph.{Graph, has_label, node_at, same_label, with_node}
use Rattle.model_core.specs.Domains.{reach}
use Rattle.model_core.specs.Entries.{keys_at, next, wiped, wiped_keys, with_taken, with_wiped}
use Rattle.model_core.specs.History.{state_after}
use Rattle.model_core.proofs.Graphs.GraphLemmas.{node_at-with_node_other, node_at-with_node_same, same_label-true, same_label_refl}
use Rattle.model_core.proofs.Histories.HistoryLemmas.{state_after-append}
use Rattle.model_core.proofs.Reach.ReachLemmas.{or_cases, or_left, or_right}
use Rattle.model_traces.specs.Schedules.Sameness.{is_taking}
use Rattle.model_traces.specs.Schedules.Scheduled.{all_wiped, gone_keys, labels_in_order, places_where, wiping}
use Rattle.model_traces.proofs.OfSchedules.Wiped.{all_emptied, emptied_node, is_gone_key}
use Rattle.model_traces.proofs.OfSchedules.Taken.{gone_in}
use Rattle.model_traces.proofs.OfSchedules.Keeping.{wiped_domains}
use Rattle.model_traces.proofs.OfSchedules.Moving.{label_cases}
use Rattle.model_traces.proofs.OfSchedules.Placing.{all_wiped_keys, any_gone, some_of, wiped_again}

-- the label is in a filtered list where it is in the list and passes
has_filter : (test : Label → Bool) (ls : List Label) (m : Label) → IsTrue (test m) → IsTrue (has_label ls m) → IsTrue (has_label (filter test ls) m)
has_filter test [] m passes h = h
has_filter test (l ∷ ls) m passes h = ⊎_elim
    (λ (here : IsTrue (same_label l m)).
    let is : l ≡ m = same_label-true l m here in
    let own : IsTrue (test l) = subst (λ z. IsTrue (test z)) (sym is) passes in
    rw own (or_left (same_label l m) (has_label (filter test ls) m) here))
    (λ (later : IsTrue (has_label ls m)). go (test l) (has_filter test ls m passes later))
    (or_cases (same_label l m) (has_label ls m) h)
  where
    go : (b : Bool) → IsTrue (has_label (filter test ls) m) → IsTrue (has_label (cond b (l ∷ filter test ls) (filter test ls)) m)
    go true rest = or_right (same_label l m) (has_label (filter test ls) m) rest
    go false rest = rest

module _ (s : State) where
  -- a block that has lost all that is gone
  abbrev pub cleaned : Option Node → Option Node
  cleaned None = None
  cleaned (Some n) = Some (emptied_node (gone_in s) n)

  -- each block is as it was or has lost all that is gone
  abbrev Fits : State → Type 0
  Fits t = (m : Label) → (node_at t.graph m ≡ node_at s.graph m) ⊎ (node_at t.graph m ≡ cleaned (node_at s.graph m))

  abbrev wipe_of : Label → List Entry
  wipe_of l = wiping l (gone_keys s (node_at s.graph l))

  record IsCleanedAt (t u : State) (l : Label) (o : Option Node) : Type 0 where
    own : node_at u.graph l ≡ cleaned o
    others : (m : Label) → ((m ≡ l) → ⊥) → node_at u.graph m ≡ node_at t.graph m

  -- nothing is to be done
  stays_at : (t : State) (l : Label) (o : Option Node) → Fits t → node_at s.graph l ≡ o → cleaned o ≡ o → IsCleanedAt t t l o
  stays_at t l o fits at same = record {
    own = ⊎_elim (λ old. old ∙ at ∙ sym same) (λ new. new ∙ ap cleaned at) (fits l);
    others = λ m other. refl;
  }

  -- the graph once a block was wiped
  wiped_graph : (t : State) (l : Label) (places : List ℕ) (o : Option Node) → Graph
  wiped_graph t l places o = (with_taken (with_wiped t l (wiped places o)) (keys_at places o)).graph

  wiped_at : (t : State) (l : Label) (keys : List (Option Label)) (datum : Value) (p : ℕ) (ps : List ℕ) → Fits t → node_at s.graph l ≡ Some (Ephe keys datum) → places_where (is_gone_key (gone_in s)) keys ≡ p ∷ ps
      → IsCleanedAt t (next t (Wipe l (p ∷ ps))) l (Some (Ephe keys datum))
  unfolding wiped_graph
  wiped_at t l keys datum p ps fits at places =
      let gone : list_any (is_gone_key (gone_in s)) keys ≡ true = any_gone (gone_in s) keys ∙ ap some_of places in
      let empty : Node = Ephe (all_emptied (gone_in s) keys) Nothing in
      let is : cleaned (Some (Ephe keys datum)) ≡ Some empty = ap (λ b. Some (cond b empty (Ephe keys datum))) gone in
      ⊎_elim
      (λ (old : node_at t.graph l ≡ node_at s.graph l).
      let there : node_at t.graph l ≡ Some (Ephe keys datum) = old ∙ at in
      let keys_are : wiped_keys (p ∷ ps) keys ≡ all_emptied (gone_in s) keys = ap (λ ns. wiped_keys ns keys) (sym places) ∙ all_wiped_keys (gone_in s) keys in
      let graph : (next t (Wipe l (p ∷ ps))).graph ≡ with_node t.graph l empty = ap (wiped_graph t l (p ∷ ps)) there ∙ ap (λ ks. with_node t.graph l (Ephe ks Nothing)) keys_are in
      done t l empty (Ephe keys datum) (Some (Ephe keys datum)) (next t (Wipe l (p ∷ ps))) graph there is)
      (λ (new : node_at t.graph l ≡ cleaned (node_at s.graph l)).
      let there : node_at t.graph l ≡ Some empty = new ∙ ap cleaned at ∙ is in
      let keys_are : wiped_keys (p ∷ ps) (all_emptied (gone_in s) keys) ≡ all_emptied (gone_in s) keys = ap (λ ns. wiped_keys ns (all_emptied (gone_in s) keys)) (sym places) ∙ wiped_again (gone_in s) keys in
      let graph : (next t (Wipe l (p ∷ ps))).graph ≡ with_node t.graph l empty = ap (wiped_graph t l (p ∷ ps)) there ∙ ap (λ ks. with_node t.graph l (Ephe ks Nothing)) keys_are in
      done t l empty empty (Some (Ephe keys datum)) (next t (Wipe l (p ∷ ps))) graph there is)
      (fits l)
    where
      done : (t : State) (l : Label) (empty old : Node) (o : Option Node) (u : State) → u.graph ≡ with_node t.graph l empty → node_at t.graph l ≡ Some old → cleaned o ≡ Some empty → IsCleanedAt t u l o
      done t l empty old o u graph there is = record {
        own = ap (λ g. node_at g l) graph ∙ node_at-with_node_same t.graph l empty old there ∙ sym is;
        others = λ m other. ap (λ g. node_at g m) graph ∙ node_at-with_node_other t.graph l m empty other;
      }

  cleaned_at : (t : State) (l : Label) (o : Option Node) → Fits t → node_at s.graph l ≡ o → IsCleanedAt t (state_after t (wiping l (gone_keys s o))) l o
  cleaned_at t l None fits at = stays_at t l None fits at refl
  cleaned_at t l (Some (Plain tag fields)) fits at = stays_at t l (Some (Plain tag fields)) fits at refl
  cleaned_at t l (Some (Raw tag fields)) fits at = stays_at t l (Some (Raw tag fields)) fits at refl
  cleaned_at t l (Some (Ephe keys datum)) fits at = go (places_where (is_gone_key (gone_in s)) keys) refl
    where
      go : (ps : List ℕ) → places_where (is_gone_key (gone_in s)) keys ≡ ps → IsCleanedAt t (state_after t (wiping l ps)) l (Some (Ephe keys datum))
      go [] none =
          let gone : list_any (is_gone_key (gone_in s)) keys ≡ false = any_gone (gone_in s) keys ∙ ap some_of none in
          stays_at t l (Some (Ephe keys datum)) fits at (ap (λ b. Some (cond b (Ephe (all_emptied (gone_in s) keys) Nothing) (Ephe keys datum))) gone)
      go (p ∷ ps) some = wiped_at t l keys datum p ps fits at some

  -- all of a list
  record AreCleaned (t u : State) (ls : List Label) : Type 0 where
    inside : (m : Label) → IsTrue (has_label ls m) → node_at u.graph m ≡ cleaned (node_at s.graph m)
    outside : (m : Label) → has_label ls m ≡ false → node_at u.graph m ≡ node_at t.graph m

  fits_after : (t u : State) (l : Label) → Fits t → IsCleanedAt t u l (node_at s.graph l) → Fits u
  fits_after t u l fits one m = ⊎_elim
      (λ (here : m ≡ l). inr (subst (λ z. node_at u.graph z ≡ cleaned (node_at s.graph z)) (sym here) one.own))
      (λ (other : (m ≡ l) → ⊥). ⊎_elim (λ old. inl (one.others m other ∙ old)) (λ new. inr (one.others m other ∙ new)) (fits m))
      (label_cases m l)

  all_cleaned : (ls : List Label) (t : State) → Fits t → AreCleaned t (state_after t (flat_map wipe_of ls)) ls
  all_cleaned [] t fits = record { inside = λ m h. cc; outside = λ m h. refl }
  all_cleaned (l ∷ ls) t fits =
      let u : State = state_after t (wipe_of l) in
      let one : IsCleanedAt t u l (node_at s.graph l) = cleaned_at t l (node_at s.graph l) fits refl in
      let later : AreCleaned u (state_after u (flat_map wipe_of ls)) ls = all_cleaned ls u (fits_after t u l fits one) in
      let whole : state_after t (wipe_of l ++ flat_map wipe_of ls) ≡ state_after u (flat_map wipe_of ls) = state_after-append t (wipe_of l) (flat_map wipe_of ls) in
      subst (λ (v : State). AreCleaned t v (l ∷ ls)) (sym whole) (record {
        inside = λ m h. among m (has_label ls m) refl h later one;
        outside = λ m h.
            let parts = neither (same_label l m) (has_label ls m) h in
            later.outside m parts.1 ∙ one.others m (λ is. let clash : true ≡ false = sym (same_label_refl m) ∙ subst (λ z. same_label z m ≡ false) (sym is) parts.0 in cc);
      })
    where
      neither : (a b : Bool) → (a || b) ≡ false → (a ≡ false) × (b ≡ false)
      neither true b e = cc
      neither false b e = (refl, e)

      among : (m : Label) (b : Bool) → has_label ls m ≡ b → IsTrue (same_label l m || has_label ls m) → AreCleaned (state_after t (wipe_of l)) (state_after (state_after t (wipe_of l)) (flat_map wipe_of ls)) ls
          → IsCleanedAt t (state_after t (wipe_of l)) l (node_at s.graph l) → node_at (state_after (state_after t (wipe_of l)) (flat_map wipe_of ls)).graph m ≡ cleaned (node_at s.graph m)
      among m true e h later one = later.inside m e
      among m false e h later one = ⊎_elim
          (λ (here : IsTrue (same_label l m)).
          let is : l ≡ m = same_label-true l m here in
          later.outside m e ∙ subst (λ z. node_at (state_after t (wipe_of l)).graph z ≡ cleaned (node_at s.graph z)) is one.own)
          (λ (there : IsTrue (has_label ls m)). let clash : true ≡ false = sym there ∙ e in cc)
          (or_cases (same_label l m) (has_label ls m) h)

  -- each block that is reached has lost all that is gone
  pub all_wiped_nodes : (m : Label) → IsTrue (has_label (reach s) m) → IsTrue (has_label (labels_in_order s) m) → node_at (state_after s (all_wiped s)).graph m ≡ cleaned (node_at s.graph m)
  all_wiped_nodes m reached listed = (all_cleaned (filter (has_label (reach s)) (labels_in_order s)) s (λ l. inl refl)).inside m (has_filter (has_label (reach s)) (labels_in_order s) m reached listed)

  one_is_taking : (l : Label) (ps : List ℕ) → list_all is_taking (wiping l ps) ≡ true
  one_is_taking l [] = refl
  one_is_taking l (p ∷ ps) = refl

  are_taking : (ls : List Label) → list_all is_taking (flat_map wipe_of ls) ≡ true
  are_taking [] = refl
  are_taking (l ∷ ls) = list_all-append is_taking (wipe_of l) (flat_map wipe_of ls) ∙ ap (λ b. b && list_all is_taking (flat_map wipe_of ls)) (one_is_taking l (gone_keys s (node_at s.graph l))) ∙ are_taking ls

  pub all_wiped_is_taking : list_all is_taking (all_wiped s) ≡ true
  all_wiped_is_taking = are_taking (filter (has_label (reach s)) (labels_in_order s))

  wiped_domains_of : (t : State) (ls : List Label) → (state_after t (flat_map wipe_of ls)).domains ≡ t.domains
  wiped_domains_of t [] = refl
  wiped_domains_of t (l ∷ ls) =
      ap (λ (v : State). v.domains) (state_after-append t (wipe_of l) (flat_map wipe_of ls)) ∙ wiped_domains_of (state_after t (wipe_of l)) ls ∙ one (gone_keys s (node_at s.graph l))
    where
      one : (ps : List ℕ) → (state_after t (wiping l ps)).domains ≡ t.domains
      one [] = refl
      one (p ∷ ps) = wiped_domains t l (p ∷ ps) (node_at t.graph l) (keys_at (p ∷ ps) (node_at t.graph l))

  pub all_wiped_domains : (state_after s (all_wiped s)).domains ≡ s.domains
  all_wiped_domains = wiped_domains_of s (filter (has_label (reach s)) (labels_in_order s))
