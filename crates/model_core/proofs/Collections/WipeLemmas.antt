-- To empty a key of an ephemeron that is gone, and its data with it, changes nothing of what is reachable.
use Rattle.std.proofs.Common.{◌≡◌, ℕ, zero, suc, Bool, true, false, cond, not, ◌&&◌, IsTrue, List, [], ◌∷◌, ◌++◌, length, flat_map, fold, slice_get, option_to_list, Option, Some, None, refl, ap, ap₂, sym, ◌∙◌, subst}
use Rattle.std.specs.List.{list_all}
use Rattle.std.specs.Option.{option_map_or}
use Rattle.model_core.specs.declared.label.Label.{Label}
use Rattle.model_core.specs.declared.graph.Value.{Value}
use Rattle.model_core.specs.declared.graph.Value.TheVariants.{Nothing}
use Rattle.model_core.specs.declared.graph.Node.{Node}
use Rattle.model_core.specs.declared.graph.Node.TheVariants.{Plain, Raw, Ephe}
use Rattle.model_core.specs.declared.state.Pending.{Pending}
use Rattle.model_core.specs.declared.state.State.{State}
use Rattle.model_core.specs.declared.entry.Entry.TheVariants.{Wipe}
use Rattle.model_core.specs.Domains.{queues, roots, reach, waiting, settled_roots, settled_reach}
use Rattle.model_core.specs.Entries.{is_rising, is_some_and, is_gone, has_gone_keys, wiped_keys, wiped as wiped_node, with_wiped, WipeAllowed, next}
use Rattle.model_core.specs.Graph.{Graph, same_label, has_label, label_of, node_at, with_node}
use Rattle.model_core.specs.Reach.{key_holds, edges_of, edges_at, with_label, grow, grow_rounds, reachable}
use Rattle.model_core.proofs.Graphs.GraphLemmas.{same_label-true, same_label_refl, node_at-with_node_same, node_at-with_node_other}
use Rattle.model_core.proofs.Reach.ReachLemmas.{is_false, and_left, has-append_left, rounds_old, reachable_more}
use Rattle.model_core.proofs.Commands.ShapeLemmas.{length-with_node}

flat_map_same : (f h : Label → List Label) (xs : List Label) → ((x : Label) → f x ≡ h x) → flat_map f xs ≡ flat_map h xs
flat_map_same f h [] same = refl
flat_map_same f h (x ∷ xs) same = ap₂ (λ a b. a ++ b) (same x) (flat_map_same f h xs same)

-- a key that isn't alive keeps the data from being kept alive
lost_key : (alive : Label → Bool) (keys : List (Option Label)) (p : ℕ) (k : Label) → slice_get keys p ≡ Some (Some k) → alive k ≡ false
    → list_all (key_holds alive) keys ≡ false
lost_key alive [] p k at lost = cc
lost_key alive (key ∷ keys) zero k at lost = rw first lost_first
  where
    first : key ≡ Some k
    first = cc

    lost_first : alive k && list_all (key_holds alive) keys ≡ false
    lost_first = rw lost refl
lost_key alive (key ∷ keys) (suc p) k at lost = go (key_holds alive key) (lost_key alive keys p k at lost)
  where
    go : (b : Bool) → list_all (key_holds alive) keys ≡ false → b && list_all (key_holds alive) keys ≡ false
    go true rest = rest
    go false rest = refl

nothing_kept : (b : Bool) (v : List Label) → b ≡ false → cond b v [] ≡ []
nothing_kept true v e = cc
nothing_kept false v e = refl

no_data : (b : Bool) → cond b (option_to_list (label_of Nothing)) [] ≡ []
no_data true = refl
no_data false = refl

has_or_not : (live : List Label) (k : Label) (all : List Label) → ((x : Label) → IsTrue (has_label live x) → IsTrue (has_label all x))
    → has_label all k ≡ false → has_label live k ≡ false
has_or_not live k all within lost = go (has_label live k) refl
  where
    go : (b : Bool) → has_label live k ≡ b → b ≡ false
    go true e = absurd (let there = within k e in let clash : true ≡ false = sym there ∙ lost in cc)
    go false e = refl

module _ (g : Graph) (l k : Label) (keys after : List (Option Label)) (datum : Value) (p : ℕ)
    (node : node_at g l ≡ Some (Ephe keys datum)) (at : slice_get keys p ≡ Some (Some k)) where
  abbrev wiped : Graph
  wiped = with_node g l (Ephe after Nothing)

  edges_same : (live : List Label) → has_label live k ≡ false → (x : Label) → edges_at wiped (has_label live) x ≡ edges_at g (has_label live) x
  edges_same live lost x = go (same_label x l) refl
    where
      here : x ≡ l → edges_at wiped (has_label live) x ≡ edges_at g (has_label live) x
      here e = rw (e, node_at-with_node_same g l (Ephe after Nothing) (Ephe keys datum) node, node)
          (no_data (list_all (key_holds (has_label live)) after)
          ∙ sym (nothing_kept (list_all (key_holds (has_label live)) keys) (option_to_list (label_of datum)) (lost_key (has_label live) keys p k at lost)))

      go : (b : Bool) → same_label x l ≡ b → edges_at wiped (has_label live) x ≡ edges_at g (has_label live) x
      go true e = here (same_label-true x l e)
      go false e =
          let other : x ≡ l → ⊥ = λ same. let clash : true ≡ false = sym (same_label_refl l) ∙ subst (λ z. same_label z l ≡ false) same e in cc in
          ap (λ n. option_map_or (edges_of (has_label live)) n []) (node_at-with_node_other g l x (Ephe after Nothing) other)

  rounds_same : (n : ℕ) (live : List Label) → has_label (grow_rounds n g live) k ≡ false → grow_rounds n wiped live ≡ grow_rounds n g live
  rounds_same zero live lost = refl
  rounds_same (suc n) live lost =
      let lost_now : has_label live k ≡ false = has_or_not live k (grow_rounds (suc n) g live) (rounds_old (suc n) g live) lost in
      let round : grow wiped live ≡ grow g live =
      ap (fold with_label live) (flat_map_same (edges_at wiped (has_label live)) (edges_at g (has_label live)) live (edges_same live lost_now)) in
      ap (grow_rounds n wiped) round ∙ rounds_same n (grow g live) lost

  pub reachable-wiped : (roots : List Label) → has_label (reachable g roots) k ≡ false → reachable wiped roots ≡ reachable g roots
  unfolding reachable
  reachable-wiped roots lost =
      ap (λ n. grow_rounds n wiped (fold with_label [] roots)) (length-with_node g l (Ephe after Nothing))
      ∙ rounds_same (length g) (fold with_label [] roots) lost

-- the labels that can't be reached from fewer roots
has_more : (live more : List Label) (k : Label) → ((x : Label) → IsTrue (has_label live x) → IsTrue (has_label more x)) → IsTrue (not (has_label more k)) → has_label live k ≡ false
has_more live more k within gone = has_or_not live k more within (is_false (has_label more k) gone)

-- the first of the places holds a full key that is gone
first_key : (test : Label → Bool) (o : Option (Option Label)) → IsTrue (is_some_and (is_some_and test) o) → (k : Label) × (o ≡ Some (Some k)) × IsTrue (test k)
first_key test None h = cc
first_key test (Some None) h = cc
first_key test (Some (Some k)) h = (k, refl, h)

module _ (s : State) (l : Label) (places : List ℕ) where
  -- what a wipe leaves: the reach of roots that lie in the settled ones stays
  wiped_reach : (o : Option Node) → node_at s.graph l ≡ o → IsTrue (is_rising places) → IsTrue (has_gone_keys s places o)
      → (rs : List Label) → ((x : Label) → IsTrue (has_label rs x) → IsTrue (has_label (settled_roots s (queues s)) x))
      → reachable (with_wiped s l (wiped_node places o)).graph rs ≡ reachable s.graph rs
  wiped_reach None e rising gone rs within = cc
  wiped_reach (Some (Plain tag fields)) e rising gone rs within = cc
  wiped_reach (Some (Raw tag fields)) e rising gone rs within = cc
  wiped_reach (Some (Ephe keys datum)) e rising gone rs within = go places rising gone
    where
      go : (ps : List ℕ) → IsTrue (is_rising ps) → IsTrue (has_gone_keys s ps (Some (Ephe keys datum)))
          → reachable (with_node s.graph l (Ephe (wiped_keys places keys) Nothing)) rs ≡ reachable s.graph rs
      go [] rising gone = cc
      go (p ∷ ps) rising gone =
          let t = first_key (is_gone s (queues s)) (slice_get keys p) (and_left _ _ gone) in
          reachable-wiped s.graph l t.0 keys (wiped_keys places keys) datum p e t.1 rs
          (has_more (reachable s.graph rs) (settled_reach s (queues s)) t.0 (reachable_more s.graph rs (settled_roots s (queues s)) within) t.2)

  module _ (allowed : WipeAllowed s l places) where
    pub wipe_keeps_reachable : (rs : List Label) → ((x : Label) → IsTrue (has_label rs x) → IsTrue (has_label (settled_roots s (queues s)) x))
        → reachable (next s (Wipe l places)).graph rs ≡ reachable s.graph rs
    wipe_keeps_reachable = wiped_reach (node_at s.graph l) refl allowed.rising allowed.gone

    roots_same : (o : Option Node) (qs : List (List Pending)) → roots (with_wiped s l (wiped_node places o)) qs ≡ roots s qs
    roots_same None qs = refl
    roots_same (Some (Plain tag fields)) qs = refl
    roots_same (Some (Raw tag fields)) qs = refl
    roots_same (Some (Ephe keys datum)) qs = refl

    waiting_same : (o : Option Node) → waiting (with_wiped s l (wiped_node places o)) ≡ waiting s
    waiting_same None = refl
    waiting_same (Some (Plain tag fields)) = refl
    waiting_same (Some (Raw tag fields)) = refl
    waiting_same (Some (Ephe keys datum)) = refl

    queues_same : (o : Option Node) → queues (with_wiped s l (wiped_node places o)) ≡ queues s
    queues_same None = refl
    queues_same (Some (Plain tag fields)) = refl
    queues_same (Some (Raw tag fields)) = refl
    queues_same (Some (Ephe keys datum)) = refl

    -- the entry Wipe changes neither the reach nor the settled reach
    pub wipe_keeps_reach : reach (next s (Wipe l places)) ≡ reach s
    wipe_keeps_reach =
        let o = node_at s.graph l in
        ap (reachable (next s (Wipe l places)).graph) (ap (roots (next s (Wipe l places))) (queues_same o) ∙ roots_same o (queues s))
        ∙ wipe_keeps_reachable (roots s (queues s)) (has-append_left (roots s (queues s)) (waiting s))

    pub wipe_keeps_settled_reach : settled_reach (next s (Wipe l places)) (queues (next s (Wipe l places))) ≡ settled_reach s (queues s)
    wipe_keeps_settled_reach =
        let o = node_at s.graph l in
        ap (reachable (next s (Wipe l places)).graph)
        (ap₂ (λ a b. a ++ b) (ap (roots (next s (Wipe l places))) (queues_same o) ∙ roots_same o (queues s)) (waiting_same o))
        ∙ wipe_keeps_reachable (settled_roots s (queues s)) (λ x h. h)

    -- so the wipes of one collection are judged alike
    pub wipe_keeps_gone : (k : Label) → is_gone (next s (Wipe l places)) (queues (next s (Wipe l places))) k ≡ is_gone s (queues s) k
    wipe_keeps_gone k = ap (λ (live : List Label). not (has_label live k)) wipe_keeps_settled_reach
