-- The number of a map's bindings falls by one at most at each entry, so each number between is that of some front.
use Rattle.std.proofs.Common.{◌≡◌, ◌≢◌, ⊎_elim, ℕ, ◌+◌, ◌≤◌, Bool, true, false, IsTrue, List, [], ◌∷◌, ◌++◌, length, flat_map, Option, Some, None, refl, ap, sym, ◌∙◌, subst, arith}
use Rattle.std.proofs.lemmas.Bool.Decides.{leb_tells}
use Rattle.std.proofs.lemmas.List.{length-append, map-append}
use Rattle.model_core.specs.declared.label.Label.{Label}
use Rattle.model_core.specs.declared.entry.Entry.{Entry}
use Rattle.model_core.specs.declared.entry.Entry.TheVariants as entry
use Rattle.model_core.specs.declared.graph.Value.{Value}
use Rattle.model_core.specs.declared.graph.Node.{Node}
use Rattle.model_core.specs.declared.graph.Node.TheVariants.{Plain, Raw, Ephe}
use Rattle.model_core.specs.declared.state.Sizes.{Sizes}
use Rattle.model_core.specs.declared.state.State.{State}
use Rattle.model_core.specs.Graph.{Graph, has_label, has_no_repeats, node_at, same_label}
use Rattle.model_core.specs.Domains.{shared_label}
use Rattle.model_core.specs.Entries.{next, wiped, with_wiped}
use Rattle.model_core.specs.History.{IsPrefix, Legal, is_entry_of}
use Rattle.model_core.proofs.Commands.FrameLemmas.{label_cases}
use Rattle.model_core.proofs.Graphs.GraphLemmas.{node_at-with_node_other, same_label_refl}
use Rattle.model_core.proofs.Reach.ReachLemmas.{or_left, has-append_left, has-append_right}
use Rattle.weak_laws.specs.Tables.Structures.{Binding, binding_of, keys_of}
use Rattle.weak_laws.specs.Tables.Thinning.{WasOutside, is_collector, state_of}
use Rattle.weak_laws.specs.Tables.Stages.{Goes, graph_of}
use Rattle.weak_laws.proofs.OfTables.ChangeLemmas.{changes_more, changes_twice}
use Rattle.weak_laws.proofs.OfTables.OnceLemmas.{lacks, once_parts}
use Rattle.weak_laws.proofs.OfTables.StageLemmas.{goes_from}
use Rattle.weak_laws.proofs.OfMaps.FrontLemmas.{prefix_before, prefix_more, prefix_same, prefix_trans, walk_along}
use Rattle.weak_laws.proofs.OfMaps.RespectLemmas.{allowed_at, graph_push}
use Rattle.weak_laws.specs.Maps.Steps.{IsThinned}
use Rattle.weak_maps.specs.Walks.{OwnQuiet}
use Rattle.weak_laws.specs.Lists.Lists.{bindings_of, map_leaves}
use Rattle.weak_laws.proofs.OfLists.FoundLemmas.{listed_once}
use Rattle.weak_laws.proofs.OfLists.StepLemmas.{leaves_kept}
use Rattle.weak_maps.specs.Lists.Stretches.{bound_in, IsListed}
use Rattle.weak_maps.proofs.OfLists.AloneLemmas.{collects, legal_before, other_thins, was_wider}
use Rattle.weak_maps.proofs.OfLists.StretchLemmas.{goes_listed, quiet_goes}

-- leaves of which one may have lost its binding
module _ (g h : Graph) (l : Label) (others : (e : Label) → e ≢ l → node_at h e ≡ node_at g e) where
  abbrev all_of : Graph → List Label → List Binding
  all_of x ls = flat_map (λ e. binding_of (node_at x e)) ls

  -- where none of them binds the key of that one
  none_less : (k : Label) (v : Value) (ls : List Label) → binding_of (node_at g l) ≡ (k, v) ∷ [] → has_label (keys_of (all_of g ls)) k ≡ false → all_of h ls ≡ all_of g ls
  none_less k v [] one apart = refl
  none_less k v (e ∷ ls) one apart = λ t. ap binding_of (others e differ) t ++ none_less k v ls one rest t
    where
      split : keys_of (all_of g (e ∷ ls)) ≡ keys_of (binding_of (node_at g e)) ++ keys_of (all_of g ls)
      split = map-append (λ (b : Binding). b.0) (binding_of (node_at g e)) (all_of g ls)

      differ : e ≡ l → ⊥
      differ same =
          let key : IsTrue (has_label (keys_of (binding_of (node_at g e))) k) = subst (λ (bs : List Binding). IsTrue (has_label (keys_of bs) k)) (sym (ap (λ (x : Label). binding_of (node_at g x)) same ∙ one)) (or_left (same_label k k) false (same_label_refl k)) in
          let there : IsTrue (has_label (keys_of (all_of g (e ∷ ls))) k) = subst (λ (ks : List Label). IsTrue (has_label ks k)) (sym split) (has-append_left (keys_of (binding_of (node_at g e))) (keys_of (all_of g ls)) k key) in
          let clash : true ≡ false = sym there ∙ apart in
          cc

      rest : has_label (keys_of (all_of g ls)) k ≡ false
      rest = lacks (keys_of (all_of g ls)) k (λ there.
          let all : IsTrue (has_label (keys_of (all_of g (e ∷ ls))) k) = subst (λ (ks : List Label). IsTrue (has_label ks k)) (sym split) (has-append_right (keys_of (binding_of (node_at g e))) (keys_of (all_of g ls)) k there) in
          let clash : true ≡ false = sym all ∙ apart in
          cc)

  data Shape (e : Label) : Type 0 where
    Bare : binding_of (node_at g e) ≡ [] → Shape e
    One : (k : Label) (v : Value) → binding_of (node_at g e) ≡ (k, v) ∷ [] → Shape e

  shape_of : (e : Label) → Shape e
  shape_of e = go (node_at g e) refl
    where
      go : (o : Option Node) → node_at g e ≡ o → Shape e
      go None is = Bare (ap binding_of is)
      go (Some (Plain tag fs)) is = Bare (ap binding_of is)
      go (Some (Raw tag fs)) is = Bare (ap binding_of is)
      go (Some (Ephe [] datum)) is = Bare (ap binding_of is)
      go (Some (Ephe (None ∷ []) datum)) is = Bare (ap binding_of is)
      go (Some (Ephe (Some k ∷ []) datum)) is = One k datum (ap binding_of is)
      go (Some (Ephe (key ∷ key2 ∷ keys) datum)) is = Bare (ap binding_of is)

  one_less : (ls : List Label) → IsTrue (has_no_repeats (keys_of (all_of g ls))) → length (all_of g ls) ≤ length (all_of h ls) + 1
  one_less [] once = omega arith
  one_less (e ∷ ls) once = label_cases (length (all_of g (e ∷ ls)) ≤ length (all_of h (e ∷ ls)) + 1) e l (here (one_less ls parts.1)) (beside (one_less ls parts.1))
    where
      parts : IsTrue (has_no_repeats (keys_of (binding_of (node_at g e)))) × IsTrue (has_no_repeats (keys_of (all_of g ls))) × ((x : Label) → IsTrue (has_label (keys_of (binding_of (node_at g e))) x) → has_label (keys_of (all_of g ls)) x ≡ false)
      parts = once_parts (keys_of (binding_of (node_at g e))) (keys_of (all_of g ls)) (subst (λ (ks : List Label). IsTrue (has_no_repeats ks)) (map-append (λ (b : Binding). b.0) (binding_of (node_at g e)) (all_of g ls)) once)

      Rest : Type 0
      Rest = length (all_of g ls) ≤ length (all_of h ls) + 1

      sum_g : length (all_of g (e ∷ ls)) ≡ length (binding_of (node_at g e)) + length (all_of g ls)
      sum_g = length-append (binding_of (node_at g e)) (all_of g ls)

      sum_h : length (all_of h (e ∷ ls)) ≡ length (binding_of (node_at h e)) + length (all_of h ls)
      sum_h = length-append (binding_of (node_at h e)) (all_of h ls)

      beside : Rest → e ≢ l → length (all_of g (e ∷ ls)) ≤ length (all_of h (e ∷ ls)) + 1
      beside rec other =
          let same : length (binding_of (node_at h e)) ≡ length (binding_of (node_at g e)) = ap (λ (o : Option Node). length (binding_of o)) (others e other) in
          let r = rec in let a = sum_g in let b = sum_h in
          omega (arith, same, r, a, b)

      here : Rest → e ≡ l → length (all_of g (e ∷ ls)) ≤ length (all_of h (e ∷ ls)) + 1
      here rec is = go (shape_of e)
        where
          go : Shape e → length (all_of g (e ∷ ls)) ≤ length (all_of h (e ∷ ls)) + 1
          go (Bare none) =
              let zero_g : length (binding_of (node_at g e)) ≡ 0 = ap length none in
              let r = rec in let a = sum_g in let b = sum_h in
              omega (arith, zero_g, r, a, b)
          go (One k v one) =
              let one_g : length (binding_of (node_at g e)) ≡ 1 = ap length one in
              let key : IsTrue (has_label (keys_of (binding_of (node_at g e))) k) = subst (λ (bs : List Binding). IsTrue (has_label (keys_of bs) k)) (sym one) (or_left (same_label k k) false (same_label_refl k)) in
              let rest : length (all_of h ls) ≡ length (all_of g ls) = ap length (none_less k v ls (ap (λ (x : Label). binding_of (node_at g x)) (sym is) ∙ one) (parts.2 k key)) in
              let a = sum_g in let b = sum_h in
              omega (arith, one_g, rest, a, b)

-- an entry of the collector changes one block at most
wiped_one : (s : State) (l : Label) (places : List ℕ) (o : Option Node) (e : Label) → e ≢ l → node_at (with_wiped s l (wiped places o)).graph e ≡ node_at s.graph e
wiped_one s l places None e other = refl
wiped_one s l places (Some (Plain tag fields)) e other = node_at-with_node_other s.graph l e _ other
wiped_one s l places (Some (Raw tag fields)) e other = node_at-with_node_other s.graph l e _ other
wiped_one s l places (Some (Ephe keys datum)) e other = node_at-with_node_other s.graph l e _ other

only_one : (s : State) (e : Entry) → IsTrue (is_collector e) → (l : Label) × ((k : Label) → k ≢ l → node_at (next s e).graph k ≡ node_at s.graph k)
only_one s (entry.Command d c full) mine = cc
only_one s (entry.End d) mine = cc
only_one s entry.Cut mine = (shared_label, λ k other. refl)
only_one s (entry.Queue d places) mine = (shared_label, λ k other. refl)
only_one s entry.Seal mine = (shared_label, λ k other. refl)
only_one s (entry.Wipe l keys) mine = (l, λ k other. wiped_one s l keys (node_at s.graph l) k other)
only_one s (entry.Last d place) mine = (shared_label, λ k other. refl)
only_one s entry.Collected mine = (shared_label, λ k other. refl)
only_one s entry.Done mine = (shared_label, λ k other. refl)
only_one s (entry.Ran d) mine = cc

-- two stretches in which no block is written
pub goes_twice : (z : Sizes) (a b c : List Entry) → Goes z a b [] → Goes z b c [] → Goes z a c []
goes_twice z a b c x y = record {
  legal = y.legal;
  grows = prefix_trans a b c x.grows y.grows;
  changes = changes_twice (WasOutside z a c) [] (graph_of z a) (graph_of z b) (graph_of z c)
      (changes_more (WasOutside z a b) (WasOutside z a c) [] [] (graph_of z a) (graph_of z b) (was_wider z a a b c (prefix_same a) y.grows) (λ l h. h) x.changes)
      (changes_more (WasOutside z b c) (WasOutside z a c) [] [] (graph_of z b) (graph_of z c) (was_wider z a b c c x.grows (prefix_same c)) (λ l h. h) y.changes);
}

module _ (z : Sizes) (one : z.domains ≡ 1) (root : Label) where
  fewer_by_one : (f : List Entry) (e : Entry) → Legal z (f ++ e ∷ []) → is_entry_of 0 e ≡ false → IsListed z f root → length (bound_in z f root) ≤ length (bound_in z (f ++ e ∷ []) root) + 1
  fewer_by_one f e legal other listed =
      let thin : IsThinned (WasOutside z f (f ++ e ∷ [])) (graph_of z f) (graph_of z (f ++ e ∷ [])) root = (λ p l n there node. other_thins z one f e legal other l n node refl) in
      let mine : IsTrue (is_collector e) = collects z one f e (allowed_at z f (f ++ e ∷ []) e legal (prefix_same (f ++ e ∷ []))) other in
      let but = only_one (state_of z f) e mine in
      let leaves : map_leaves (graph_of z (f ++ e ∷ [])) root ≡ map_leaves (graph_of z f) root = leaves_kept (WasOutside z f (f ++ e ∷ [])) (graph_of z f) (graph_of z (f ++ e ∷ [])) root listed.map thin in
      let less = one_less (graph_of z f) (graph_of z (f ++ e ∷ [])) but.0 (λ k apart. ap (λ (x : Graph). node_at x k) (graph_push z f e) ∙ but.1 k apart) (map_leaves (graph_of z f) root) (listed_once z.domains (graph_of z f) root listed.placed) in
      subst (λ (ls : List Label). length (bound_in z f root) ≤ length (flat_map (λ k. binding_of (node_at (graph_of z (f ++ e ∷ [])) k)) ls) + 1) (sym leaves) less

  -- a front at which the list has so many bindings, up to which and from which on no block was written
  pub record HasMany (old new : List Entry) (n : ℕ) : Type 0 where
    pub front : List Entry
    pub before : Goes z old front []
    pub behind : Goes z front new []
    pub many : length (bound_in z front root) ≡ n

  pub declines : (old new : List Entry) → IsPrefix old new → Legal z new → OwnQuiet z 0 old new → IsListed z old root → (n : ℕ) → n ≤ length (bound_in z old root) → length (bound_in z new root) ≤ n → HasMany old new n
  declines old new grows legal quiet listed n high low = walk_along P old new grows each start n high low
    where
      P : List Entry → Type 0
      P h = (n : ℕ) → n ≤ length (bound_in z old root) → length (bound_in z h root) ≤ n → HasMany old h n

      legal_old : Legal z old
      legal_old = legal_before z old new grows legal

      start : P old
      start n few many = record { front = old; before = goes_from z old [] legal_old; behind = goes_from z old [] legal_old; many = omega (arith, few, many) }

      goes_at : (a b : List Entry) → IsPrefix old a → IsPrefix a b → IsPrefix b new → Goes z a b []
      goes_at a b since through until = quiet_goes z one a b through (legal_before z b new until legal) (λ f e from to own. quiet f e (prefix_trans old a f since from) (prefix_trans (f ++ e ∷ []) b new to until) own)

      each : (f : List Entry) (e : Entry) → IsPrefix old f → IsPrefix (f ++ e ∷ []) new → P f → P (f ++ e ∷ [])
      each f e since until was n few many = go (is_entry_of 0 e) refl
        where
          f_new : IsPrefix f new
          f_new = prefix_before f e new until

          step : Goes z f (f ++ e ∷ []) []
          step = goes_at f (f ++ e ∷ []) since (prefix_more f (e ∷ [])) until

          extend : HasMany old f n → HasMany old (f ++ e ∷ []) n
          extend x = record { front = x.front; before = x.before; behind = goes_twice z x.front f (f ++ e ∷ []) x.behind step; many = x.many }

          at_end : n ≤ length (bound_in z (f ++ e ∷ []) root) → HasMany old (f ++ e ∷ []) n
          at_end most = record { front = f ++ e ∷ []; before = goes_at old (f ++ e ∷ []) (prefix_same old) (prefix_trans old f (f ++ e ∷ []) since (prefix_more f (e ∷ []))) until; behind = goes_from z (f ++ e ∷ []) [] step.legal; many = omega (arith, most, many) }

          go : (b : Bool) → is_entry_of 0 e ≡ b → HasMany old (f ++ e ∷ []) n
          go true own =
              let same : length (bound_in z (f ++ e ∷ []) root) ≡ length (bound_in z f root) = ap (λ (g : Graph). length (bindings_of g root)) (quiet f e since until own) in
              extend (was n few (omega (arith, same, many)))
          go false other =
              let less = fewer_by_one f e step.legal other (goes_listed z old f root (goes_at old f (prefix_same old) since f_new) listed) in
              ⊎_elim (λ all. let enough = all.1 in extend (was n few enough)) (λ one. let short = one.1 in at_end (omega (arith, less, short))) (leb_tells (length (bound_in z f root)) n)
