-- From the Seal to the end of Clean: each Wipe that is made is allowed, and at the end no marked ephemeron has an unmarked key.
use Rattle.std.proofs.Math.ListN.{get_or-map}
use Rattle.std.proofs.lemmas.Bool.{ne_eqb}
use Rattle.std.proofs.Common.{◌≡◌, ⊎_elim, ℕ, zero, suc, arith, Bool, true, false, cond, not, IsTrue, List, [], ◌∷◌, ◌++◌, map, flat_map, filter_map, length, set, slice_get, Option, Some, None, refl, ap, ap₂, sym, ◌∙◌, subst, eqb}
use Rattle.std.specs.List.{cons_option, list_all, list_any}
use Rattle.std.specs.Option.{option_map_or}
use Rattle.model_core.specs.Domains.{no_domain, pending_label, queues, roots, waiting}
use Rattle.model_core.specs.declared.label.Label.{Label}
use Rattle.model_core.specs.declared.entry.Entry.TheVariants.{Seal, Wipe}
use Rattle.model_core.specs.declared.graph.Value.{Value}
use Rattle.model_core.specs.declared.graph.Value.TheVariants.{Nothing}
use Rattle.model_core.specs.declared.graph.Node.{Node}
use Rattle.model_core.specs.declared.graph.Node.TheVariants.{Ephe}
use Rattle.model_core.specs.declared.state.DomainState.{DomainState}
use Rattle.model_core.specs.declared.state.Pending.{Pending}
use Rattle.model_core.specs.declared.state.State.{State}
use Rattle.model_core.specs.Graph.{Graph, same_label, has_label, label_of, node_at, with_node}
use Rattle.model_core.specs.Reach.{key_holds, edges_of, edges_at, reachable, is_reachable, HoldsRoots, IsClosedUnder}
use Rattle.model_core.specs.Entries.{is_rising, is_some_and, with_lasts_open, at_places, wiped_keys, wiped, with_wiped, keys_at, with_taken, full_keys, WipeAllowed, next}
use Rattle.model_core.specs.Marked.{IsMarked}
use Rattle.model_core.proofs.Collections.CutLemmas.{queues_mapped}
use Rattle.model_core.proofs.Graphs.GraphLemmas.{same_label-true, node_at-with_node_same, node_at-with_node_other}
use Rattle.model_core.proofs.Commands.FrameLemmas.{label_cases}
use Rattle.model_core.proofs.Collections.MarkLemmas.{wipe_unmarked}
use Rattle.model_core.proofs.Collections.WipeLemmas.{wipe_keeps_reachable, wipe_keeps_reach}
use Rattle.model_core.proofs.Reach.ReachLemmas.{or_cases, and_left, and_right, has-append_cases, has-append_left}
use Rattle.model_cycle.specs.Marks.{KeysMarked, IsWhole}
use Rattle.model_cycle.specs.Shares.{Layout, Shares, no_shares, sees, arrives, AllArrived, AllOwned}
use Rattle.model_cycle.specs.Queueing.{WaitingReached, CutStays}
use Rattle.model_cycle.specs.Taking.{InClean}
use Rattle.model_cycle.proofs.DomainParts.{listed_at, listed_cases}
use Rattle.model_cycle.proofs.Sharing.{shares_start, shares_sees, shares_arrives, sees_was}

-- labels of one kind, after each domain was changed
pub part_mapped : (f : DomainState → List Label) (g : DomainState → DomainState) → ((x : DomainState) → f (g x) ≡ f x) → (xs : List DomainState) → flat_map f (map g xs) ≡ flat_map f xs
part_mapped f g same [] = refl
part_mapped f g same (x ∷ xs) = ap₂ (λ a b. a ++ b) (same x) (part_mapped f g same xs)

module _ (s : State) (g : DomainState → DomainState) (registers : (x : DomainState) → (g x).registers ≡ x.registers) (queue : (x : DomainState) → (g x).queue ≡ x.queue) where
  abbrev mapped : State
  mapped = record s { domains = map g s.domains }

  pub roots_mapped : (qs : List (List Pending)) → roots mapped qs ≡ roots s qs
  roots_mapped qs = ap (λ z. z ++ flat_map (filter_map pending_label) qs)
      (part_mapped (λ x. filter_map label_of x.registers) g (λ x. ap (filter_map label_of) (registers x)) s.domains)

  pub roots_mapped_now : roots mapped (queues mapped) ≡ roots s (queues s)
  roots_mapped_now = ap (roots mapped) (queues_mapped g queue s.domains) ∙ roots_mapped (queues s)

-- the entry Seal
pub clean_start : (n : ℕ) (y : Layout) (s : State) (marked : Label → Bool) → AllOwned n y marked → IsMarked s (queues s) marked
    → InClean n y (next s Seal) marked no_shares
clean_start n y s marked owned marks = record {
  mode = refl;
  shares = shares_start n y false;
  owned = owned;
  marks = record {
    roots = subst (λ z. HoldsRoots z marked) (sym (roots_mapped_now s with_lasts_open (λ x. refl) (λ x. refl))) marks.roots;
    waiting = subst (λ z. HoldsRoots z marked) (sym (part_mapped (λ x. map (λ f. f.label) x.finals) with_lasts_open (λ x. refl) s.domains)) marks.waiting;
    closed = marks.closed;
  };
  taken = λ l h. cc;
  clean = λ d a l h. cc;
  low = λ d. let at = get_or-map with_lasts_open s.domains d no_domain in ap (λ (x : DomainState). x.low) at ∙ ap (λ (x : DomainState). length x.lasts) (sym at);
}

-- a key that is left after a wipe stood there, at none of the places
get_set_none : (keys : List (Option Label)) (q p : ℕ) (k : Label) → slice_get (set keys q None) p ≡ Some (Some k) → (slice_get keys p ≡ Some (Some k)) × (q ≡ p → ⊥)
get_set_none [] q p k e = cc
get_set_none (x ∷ keys) zero zero k e = cc
get_set_none (x ∷ keys) zero (suc p) k e = (e, (λ same. absurd (omega arith)))
get_set_none (x ∷ keys) (suc q) zero k e = (e, (λ same. absurd (omega arith)))
get_set_none (x ∷ keys) (suc q) (suc p) k e = let t = get_set_none keys q p k e in (t.0, (λ same. t.1 (omega arith)))

get_wiped : (places : List ℕ) (keys : List (Option Label)) (p : ℕ) (k : Label) → slice_get (wiped_keys places keys) p ≡ Some (Some k)
    → (slice_get keys p ≡ Some (Some k)) × (list_any (λ q. eqb q p) places ≡ false)
get_wiped [] keys p k e = (e, refl)
get_wiped (q ∷ ps) keys p k e =
    let first = get_set_none (wiped_keys ps keys) q p k e in
    let rest = get_wiped ps keys p k first.0 in
    let here : eqb q p ≡ false = ne_eqb q p first.1 in
    (rest.0, rw here rest.1)

-- so keys that were marked stay so
keys_wiped : (marked : Label → Bool) (keys : List (Option Label)) (places : List ℕ) → HoldsRoots (filter_map (λ k. k) keys) marked
    → HoldsRoots (filter_map (λ k. k) (wiped_keys places keys)) marked
keys_wiped marked keys places holds l h =
    let t = listed_cases (λ o. o) (wiped_keys places keys) l h in
    holds l (listed_at (λ o. o) keys t.0 (Some l) l (get_wiped places keys t.0 l (t.2 ∙ ap Some t.3)).0 refl)

-- the labels that a wipe takes
keys_taken : (marked : Label → Bool) (keys : List (Option Label)) (places : List ℕ)
    → IsTrue (list_all (λ p. is_some_and (is_some_and (λ k. not (marked k))) (slice_get keys p)) places)
    → (l : Label) → IsTrue (has_label (filter_map (λ k. k) (at_places places keys)) l) → IsTrue (not (marked l))
keys_taken marked keys [] all l h = cc
keys_taken marked keys (p ∷ ps) all l h =
    let test = λ (o : Option (Option Label)). is_some_and (is_some_and (λ k. not (marked k))) o in
    go (slice_get keys p) (keys_taken marked keys ps (and_right (test (slice_get keys p)) (list_all (λ q. test (slice_get keys q)) ps) all) l)
    (and_left (test (slice_get keys p)) (list_all (λ q. test (slice_get keys q)) ps) all) h
  where
    go : (o : Option (Option Label)) → (IsTrue (has_label (filter_map (λ k. k) (at_places ps keys)) l) → IsTrue (not (marked l)))
        → IsTrue (is_some_and (is_some_and (λ k. not (marked k))) o)
        → IsTrue (has_label (filter_map (λ k. k) (cons_option o (at_places ps keys))) l) → IsTrue (not (marked l))
    go None rest un at = rest at
    go (Some None) rest un at = rest at
    go (Some (Some k)) rest un at = ⊎_elim
        (λ here. subst (λ z. IsTrue (not (marked z))) (same_label-true k l here) un)
        (λ later. rest later)
        (or_cases (same_label k l) (has_label (filter_map (λ k. k) (at_places ps keys)) l) at)

-- a graph in which an ephemeron was wiped
module _ (g : Graph) (marked : Label → Bool) (l : Label) (keys after : List (Option Label)) (datum : Value) (node : node_at g l ≡ Some (Ephe keys datum)) where
  abbrev wiped_graph : Graph
  wiped_graph = with_node g l (Ephe after Nothing)

  wiped_here : node_at wiped_graph l ≡ Some (Ephe after Nothing)
  wiped_here = node_at-with_node_same g l (Ephe after Nothing) (Ephe keys datum) node

  no_edges : (b : Bool) (x : Label) → IsTrue (has_label (cond b [] []) x) → ⊥
  no_edges true x h = let clash : false ≡ true = h in cc
  no_edges false x h = let clash : false ≡ true = h in cc

  pub closed_wiped : IsClosedUnder g marked → IsClosedUnder wiped_graph marked
  closed_wiped closed x y is h = label_cases (IsTrue (marked y)) x l
      (λ same.
      let here : IsTrue (has_label (edges_at wiped_graph marked l) y) = subst (λ z. IsTrue (has_label (edges_at wiped_graph marked z) y)) same h in
      let now : IsTrue (has_label (cond (list_all (key_holds marked) after) [] []) y) =
      subst (λ o. IsTrue (has_label (option_map_or (edges_of marked) o []) y)) wiped_here here in
      absurd (no_edges (list_all (key_holds marked) after) y now))
      (λ other. closed x y is (subst (λ o. IsTrue (has_label (option_map_or (edges_of marked) o []) y)) (node_at-with_node_other g l x (Ephe after Nothing) other) h))

  pub keys_stay : (HoldsRoots (filter_map (λ k. k) keys) marked → HoldsRoots (filter_map (λ k. k) after) marked)
      → (x : Label) → KeysMarked g marked x → KeysMarked wiped_graph marked x
  keys_stay less x holds = label_cases (KeysMarked wiped_graph marked x) x l
      (λ same.
      let old : HoldsRoots (filter_map (λ k. k) keys) marked = subst (λ o. HoldsRoots (full_keys o) marked) node (subst (KeysMarked g marked) same holds) in
      subst (KeysMarked wiped_graph marked) (sym same) (subst (λ o. HoldsRoots (full_keys o) marked) (sym wiped_here) (less old)))
      (λ other. subst (λ o. HoldsRoots (full_keys o) marked) (sym (node_at-with_node_other g l x (Ephe after Nothing) other)) holds)

module _ (n : ℕ) (y : Layout) (s : State) (marked : Label → Bool) (w : Shares) (i : InClean n y s marked w) where
  module _ (l : Label) (places : List ℕ) (keys : List (Option Label)) (datum : Value) (node : node_at s.graph l ≡ Some (Ephe keys datum))
      (rising : IsTrue (is_rising places)) (un : IsTrue (list_all (λ p. is_some_and (is_some_and (λ k. not (marked k))) (slice_get keys p)) places)) where
    abbrev after_wipe : Option Node → State
    after_wipe o = with_taken (with_wiped s l (wiped places o)) (keys_at places o)

    -- the entry Wipe of unmarked keys
    pub wipe_allowed : WipeAllowed s l places
    wipe_allowed = wipe_unmarked s marked l places keys datum i.mode rising node i.marks un

    pub clean_wipes : InClean n y (next s (Wipe l places)) marked w
    clean_wipes = subst (λ o. InClean n y (after_wipe o) marked w) (sym node) (record {
      mode = i.mode;
      shares = i.shares;
      owned = i.owned;
      marks = record {
        roots = i.marks.roots;
        waiting = i.marks.waiting;
        closed = closed_wiped s.graph marked l keys (wiped_keys places keys) datum node i.marks.closed;
      };
      taken = λ x h. ⊎_elim
          (λ old. i.taken x old)
          (λ new. keys_taken marked keys places un x new)
          (has-append_cases s.taken (filter_map (λ k. k) (at_places places keys)) x h);
      clean = λ d a x seen there is. keys_stay s.graph marked l keys (wiped_keys places keys) datum node (keys_wiped marked keys places) x (i.clean d a x seen there is);
      low = i.low;
    })

    -- after it no key of the ephemeron is unmarked, if the others were marked
    pub wipe_cleans : ((p : ℕ) (k : Label) → slice_get keys p ≡ Some (Some k) → list_any (λ q. eqb q p) places ≡ false → IsTrue (marked k))
        → KeysMarked (next s (Wipe l places)).graph marked l
    wipe_cleans others = subst (λ o. KeysMarked (after_wipe o).graph marked l) (sym node)
        (subst (λ o. HoldsRoots (full_keys o) marked) (sym (wiped_here s.graph marked l keys (wiped_keys places keys) datum node))
        (λ k h. let t = listed_cases (λ o. o) (wiped_keys places keys) k h in let was = get_wiped places keys t.0 k (t.2 ∙ ap Some t.3) in others t.0 k was.0 was.1))

    -- a whole cycle stays so
    pub wipe_whole : IsWhole s.graph (roots s (queues s)) marked
        → IsWhole (next s (Wipe l places)).graph (roots (next s (Wipe l places)) (queues (next s (Wipe l places)))) marked
    wipe_whole whole x is = subst (λ (z : List Label). IsTrue (has_label z x)) (sym (wipe_keeps_reach s l places wipe_allowed)) (whole x is)

    pub wipe_waiting : CutStays s → WaitingReached s → WaitingReached (next s (Wipe l places))
    wipe_waiting stays reached =
        let same : reachable (after_wipe (node_at s.graph l)).graph (roots s s.cut) ≡ reachable s.graph (roots s s.cut) =
        wipe_keeps_reachable s l places wipe_allowed (roots s s.cut) (λ x h. has-append_left (roots s (queues s)) (waiting s) x (stays x h)) in
        let same' : reachable (after_wipe (Some (Ephe keys datum))).graph (roots s s.cut) ≡ reachable s.graph (roots s s.cut) =
        subst (λ o. reachable (after_wipe o).graph (roots s s.cut) ≡ reachable s.graph (roots s s.cut)) node same in
        subst (λ o. WaitingReached (after_wipe o)) (sym node)
        (λ x h. subst (λ (z : List Label). IsTrue (has_label z x)) (sym same') (reached x h))

    pub wipe_cut_stays : CutStays s → CutStays (next s (Wipe l places))
    wipe_cut_stays stays = subst (λ o. CutStays (after_wipe o)) (sym node) stays

  -- a domain looks at an own block, and arrives
  pub clean_sees : (d a : ℕ) → y.owner a ≡ Some d → ((l : Label) → y.live a ≡ Some l → IsTrue (marked l) → KeysMarked s.graph marked l)
      → InClean n y s marked (sees w d a)
  clean_sees d a at keys = record {
    mode = i.mode;
    shares = shares_sees n y w i.shares d a at;
    owned = i.owned;
    marks = i.marks;
    taken = i.taken;
    clean = λ k b x seen there. ⊎_elim
        (λ t. keys x (subst (λ z. y.live z ≡ Some x) (sym t.1) there))
        (λ old. i.clean k b x old there)
        (sees_was w d a k b seen);
    low = i.low;
  }

  pub clean_arrives : (d : ℕ) → ((a : ℕ) → y.owner a ≡ Some d → IsTrue (w.seen d a)) → InClean n y s marked (arrives w d)
  clean_arrives d all = record {
    mode = i.mode;
    shares = shares_arrives n y w i.shares d all;
    owned = i.owned;
    marks = i.marks;
    taken = i.taken;
    clean = i.clean;
    low = i.low;
  }

  pub clean_end : AllArrived n w → (l : Label) → IsTrue (marked l) → KeysMarked s.graph marked l
  clean_end arrived l is = let t = i.owned l is in i.clean t.0 t.1 l (i.shares.all t.0 t.1 (arrived t.0 t.2) t.4) t.3 is

-- the Seal leaves a whole cycle whole
pub whole_seal : (s : State) (marked : Label → Bool) → IsWhole s.graph (roots s (queues s)) marked → IsWhole s.graph (roots (next s Seal) (queues (next s Seal))) marked
whole_seal s marked = subst (λ z. IsWhole s.graph z marked) (sym (roots_mapped_now s with_lasts_open (λ x. refl) (λ x. refl)))

pub waiting_seal : (s : State) → WaitingReached s → WaitingReached (next s Seal)
waiting_seal s reached l h = subst (λ z. IsTrue (is_reachable s.graph z l)) (sym (roots_mapped s with_lasts_open (λ x. refl) (λ x. refl) s.cut))
    (reached l (subst (λ z. IsTrue (has_label z l)) (part_mapped (λ x. map (λ f. f.label) x.finals) with_lasts_open (λ x. refl) s.domains) h))

pub cut_stays_seal : (s : State) → CutStays s → CutStays (next s Seal)
cut_stays_seal s stays l h = subst (λ z. IsTrue (has_label z l)) (sym (roots_mapped_now s with_lasts_open (λ x. refl) (λ x. refl)))
    (stays l (subst (λ z. IsTrue (has_label z l)) (roots_mapped s with_lasts_open (λ x. refl) (λ x. refl) s.cut) h))
