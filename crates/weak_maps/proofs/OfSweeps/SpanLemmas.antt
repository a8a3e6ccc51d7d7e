-- A stretch of a history in which a domain does nothing to a map but take leaves out that bind nothing, while others respect the map.
use Rattle.std.proofs.Common.{◌≡◌, ◌⊎◌, inl, inr, ⊎_elim, ℕ, zero, suc, Bool, true, false, List, [], ◌∷◌, ◌++◌, get_or, set, replicate, pos, Some, None, refl, ap, sym, ◌∙◌, subst, append_assoc, append-nil}
use Rattle.model_core.specs.declared.label.Label.{Label}
use Rattle.model_core.specs.declared.command.Command.{Command}
use Rattle.model_core.specs.declared.entry.Entry.{Entry}
use Rattle.model_core.specs.declared.graph.Value.{Value}
use Rattle.model_core.specs.declared.graph.Value.TheVariants.{Int, Block, Nothing}
use Rattle.model_core.specs.declared.graph.Node.TheVariants.{Plain, Ephe}
use Rattle.model_core.specs.declared.reply.Reply.{Reply}
use Rattle.model_core.specs.declared.state.Sizes.{Sizes}
use Rattle.model_core.specs.Graph.{Graph, node_at}
use Rattle.model_core.specs.Entries.{next}
use Rattle.model_core.specs.History.{IsPrefix, is_entry_of}
use Rattle.model_core.proofs.Commands.FrameLemmas.{label_cases}
use Rattle.model_core.proofs.Graphs.GraphLemmas.{node_at-with_node_other}
use Rattle.weak_laws.specs.Tables.Thinning.{IsOutside, Thin, state_of}
use Rattle.weak_laws.specs.Tables.Stages.{graph_of}
use Rattle.weak_laws.proofs.OfTables.ChangeLemmas.{thin_is}
use Rattle.weak_laws.specs.Maps.Tries.{at, inside, fields_of, found, node_width, IsMap}
use Rattle.weak_laws.specs.Maps.Steps.{AllRespect, Clears, ClearsField, Deepens, GoesDeeper, IsThinned, OthersRespect, OwnRespect, RespectsMap, SetsKey, SparesLeaves, TakesKeys, Untouched, WasUnreached, WritesField}
use Rattle.weak_laws.specs.Maps.Calls.{bound_after, Looks, OwnKeep, PerformedBy}
use Rattle.weak_laws.specs.Maps.Within.{IsMadeBehind, OwnWithin, StepsWithin}
use Rattle.weak_laws.proofs.OfMaps.FrontLemmas.{before_or_behind, other_between, prefix_before, prefix_more, prefix_same, prefix_trans, walk_along}
use Rattle.weak_laws.proofs.OfMaps.MapLemmas.{NoLabel, at_same, clear_keeps, untouched_thinned, written_map}
use Rattle.weak_laws.proofs.OfMaps.OwnLemmas.{at_the_end, leaf_stays, nothing_between, reading_respects}
use Rattle.weak_laws.proofs.OfMaps.RespectLemmas.{graph_push, leaf_after, map_between, place_after, respect_both, respect_within}
use Rattle.weak_laws.proofs.OfMaps.SetLemmas.{block_is, now_inside, others_inside, still_end, was_inside}
use Rattle.weak_laws.proofs.OfMaps.WalkLemmas.{at_any, at_stop, set_else, set_same, same_number}
use Rattle.weak_laws.proofs.OfMaps.TreeLemmas.{leads_nowhere}
use Rattle.weak_laws.proofs.OfMaps.WithinLemmas.{within_same, within_written}
use Rattle.weak_maps.proofs.BesideLemmas.{until_new}
use Rattle.weak_maps.proofs.DescendLemmas.{at_append, at_one}
use Rattle.weak_maps.proofs.FreshLemmas.{thin_empty}
use Rattle.weak_maps.proofs.GetLemmas.{grows_by}
use Rattle.weak_maps.proofs.PlaceLemmas.{goes_through, only_there}
use Rattle.weak_maps.specs.Sweeps.Dead.{BringsNoDead, IsDeadLeaf, OthersBringNoDead, OwnBringNoDead, OwnClear, StoodDead}
use Rattle.weak_maps.specs.Sweeps.Sweeps.{NoDeadAt}
use Rattle.weak_maps.specs.Sweeps.SweepLaws.{StepsBringNoDead}

-- an ephemeron has no fields
pub dead_end : (g : Graph) (l : Label) → IsDeadLeaf g l → inside g (Block l) ≡ None
dead_end g l dead = ap fields_of dead.1

-- a place that is one
stays_put : (g : Graph) (root : Label) (p : List ℕ) (l : Label) → at (inside g) p (Block root) ≡ Some (Block l) → (q : List ℕ) × (r : List ℕ) × (p ≡ q ++ r) × (at (inside g) q (Block root) ≡ Some (Block l))
stays_put g root p l there = (p, [], sym (append-nil p), there)

-- what a thinned map has at a place, it had there
pub thinned_brings : (P : Label → Type 0) (g h : Graph) (root : Label) → IsMap g root → IsThinned P g h root → BringsNoDead g h root
thinned_brings P g h root map thin p l dead there = stays_put g root p l (sym (at_same P g h root map thin p) ∙ there)

-- a field is written with what is no such leaf
written_brings : (g h : Graph) (root : Label) (p : List ℕ) (i : ℕ) (held new : Value) → WritesField g h root p i held new → IsMap g root → inside g new ≡ None → ((l : Label) → new ≡ Block l → IsDeadLeaf g l → ⊥) → BringsNoDead g h root
written_brings g h root p i held new w map leaf none q l dead there = ⊎_elim (λ old. stays_put g root q l old) (λ same. absurd (none l (sym same) dead))
    (at_any (inside g) (inside h) (Block w.block) i new w.fields (was_inside g h root p i held new w map.tree) (now_inside g h root p i held new w map.tree) (others_inside g h root p i held new w map.tree)
    (block_is w.block) w.below (still_end g h root p i held new new w map.tree leaf) q (Block root) (Block l) there)

pub clear_brings : (g h : Graph) (root : Label) → IsMap g root → Clears g h root → BringsNoDead g h root
clear_brings g h root map c = written_brings g h root c.p c.i c.held (Int (pos 0)) c.writes map refl (λ l same dead. cc)

-- a field of a fresh block is 0, or none
blank_field : (m j : ℕ) (l : Label) → get_or (replicate m (Int (pos 0))) j Nothing ≡ Block l → ⊥
blank_field zero j l is = cc
blank_field (suc m) zero l is = cc
blank_field (suc m) (suc j) l is = blank_field m j l is

-- a leaf goes one block deeper
deeper_brings : (n : ℕ) (g h : Graph) (root : Label) → IsMap g root → Deepens n g h root → BringsNoDead g h root
deeper_brings n g h root map s x l dead there = go (goes_through (inside g) (inside h) (Block w.block) s.i (Block s.block) w.fields (was_inside g h root s.p s.i s.held (Block s.block) w map.tree)
    (now_inside g h root s.p s.i s.held (Block s.block) w map.tree) (others_inside g h root s.p s.i s.held (Block s.block) w map.tree) (block_is w.block) w.below x (Block root) (Block l) there)
  where
    w : WritesField g h root s.p s.i s.held (Block s.block)
    w = s.writes

    ms : List Value
    ms = set (replicate node_width (Int (pos 0))) s.j s.held

    apart : Block s.block ≡ Block w.block → ⊥
    apart same = s.fresh s.p (w.there ∙ ap Some (sym same))

    inner : inside h (Block s.block) ≡ Some ms
    inner = others_inside g h root s.p s.i s.held (Block s.block) w map.tree (Block s.block) apart ∙ s.inner

    ends_there : (j : ℕ) → inside h (get_or ms j Nothing) ≡ None
    ends_there j = leads_nowhere h s.j j node_width s.held s.small (still_end g h root s.p s.i s.held (Block s.block) s.held w map.tree w.end)

    Came : Type 0
    Came = (q : List ℕ) × (r : List ℕ) × (x ≡ q ++ r) × (at (inside g) q (Block root) ≡ Some (Block l))

    -- behind the field stands the fresh block, and the leaf in it
    held_is : (j : ℕ) → get_or ms j Nothing ≡ Block l → s.held ≡ Block l
    held_is j field = ⊎_elim
        (λ hit. sym (set_same (replicate node_width (Int (pos 0))) s.j s.held Nothing s.small) ∙ (ap (λ (k : ℕ). get_or ms k Nothing) (sym hit) ∙ field))
        (λ other. absurd (blank_field node_width j l (sym (set_else (replicate node_width (Int (pos 0))) s.j j s.held Nothing other) ∙ field)))
        (same_number j s.j)

    behind : (p2 q : List ℕ) → x ≡ p2 ++ s.i ∷ q → at (inside g) p2 (Block root) ≡ Some (Block w.block) → at (inside h) q (Block s.block) ≡ Some (Block l) → Came
    behind p2 [] split at_block rest =
        let same : s.block ≡ l = cc in
        let clash : Some ms ≡ None = sym s.inner ∙ (ap (λ (m : Label). inside g (Block m)) same ∙ dead_end g l dead) in cc
    behind p2 (j ∷ q) split at_block rest =
        let only = only_there h q (get_or ms j Nothing) l (ends_there j) (sym (step_in j q) ∙ rest) in
        (p2 ++ s.i ∷ [], j ∷ q, split ∙ sym (append_assoc p2 (s.i ∷ []) (j ∷ q)), at_one (inside g) p2 s.i (Block root) (Block w.block) w.fields at_block (was_inside g h root s.p s.i s.held (Block s.block) w map.tree) ∙ ap Some (w.was ∙ held_is j only.1))
      where
        step_in : (j : ℕ) (q : List ℕ) → at (inside h) (j ∷ q) (Block s.block) ≡ at (inside h) q (get_or ms j Nothing)
        step_in j q = rw inner refl

    go : (at (inside g) x (Block root) ≡ Some (Block l)) ⊎ ((p2 : List ℕ) × (q : List ℕ) × (x ≡ p2 ++ s.i ∷ q) × (at (inside g) p2 (Block root) ≡ Some (Block w.block)) × (at (inside h) q (Block s.block) ≡ Some (Block l))) → Came
    go (inl old) = stays_put g root x l old
    go (inr (p2, q, split, at_block, rest)) = behind p2 q split at_block rest

pub steps_bring : StepsBringNoDead
steps_bring n root s e map (Untouched same) = thinned_brings NoLabel s.graph (next s e).graph root map (untouched_thinned NoLabel s.graph (next s e).graph root same)
steps_bring n root s e map (SetsKey k new set) = written_brings s.graph (next s e).graph root set.p set.i set.held new set.writes map set.leaf (λ l same dead. set.alive l dead.0 same dead.1)
steps_bring n root s e map (GoesDeeper deeper) = deeper_brings n s.graph (next s e).graph root map deeper
steps_bring n root s e map (ClearsField cleared) = clear_brings s.graph (next s e).graph root map cleared
steps_bring n root s e map (TakesKeys thin) = thinned_brings (IsOutside s) s.graph (next s e).graph root map thin

-- of two ways of which each begins a third, one begins the other
pub prefix_cases : (p q x w : List ℕ) → p ++ x ≡ q ++ w → ((s : List ℕ) × (p ≡ q ++ s)) ⊎ ((s : List ℕ) × (q ≡ p ++ s) × (x ≡ s ++ w))
prefix_cases [] q x w is = inr (q, refl, is)
prefix_cases (a ∷ p) [] x w is = inl (a ∷ p, refl)
prefix_cases (a ∷ p) (b ∷ q) x w is = go (prefix_cases p q x w (let rest : p ++ x ≡ q ++ w = cc in rest))
  where
    head : a ≡ b
    head = cc

    go : ((s : List ℕ) × (p ≡ q ++ s)) ⊎ ((s : List ℕ) × (q ≡ p ++ s) × (x ≡ s ++ w)) → ((s : List ℕ) × (a ∷ p ≡ (b ∷ q) ++ s)) ⊎ ((s : List ℕ) × (b ∷ q ≡ (a ∷ p) ++ s) × (x ≡ s ++ w))
    go (inl (s, same)) = inl (s, (λ i. head i ∷ same i))
    go (inr (s, same, rest)) = inr (s, (λ i. sym head i ∷ same i), rest)

-- a leaf stands at no place on the way to a block
pub not_above : (g : Graph) (root l : Label) (p s : List ℕ) (u : Value) (fields : List Value) → IsDeadLeaf g l → at (inside g) p (Block root) ≡ Some (Block l) → at (inside g) (p ++ s) (Block root) ≡ Some u → inside g u ≡ Some fields → ⊥
not_above g root l p [] u fields dead leaf there plain =
    let same : Some (Block l) ≡ Some u = sym leaf ∙ (ap (λ (q : List ℕ). at (inside g) q (Block root)) (sym (append-nil p)) ∙ there) in
    let is : Block l ≡ u = cc in
    let clash : None ≡ Some fields = sym (dead_end g l dead) ∙ (ap (inside g) is ∙ plain) in cc
not_above g root l p (j ∷ s) u fields dead leaf there plain =
    let clash : None ≡ Some u = sym (at_append (inside g) p (j ∷ s) (Block root) (Block l) leaf ∙ at_stop (inside g) j s (Block l) (dead_end g l dead)) ∙ there in cc

module _ (z : Sizes) (root : Label) (d : ℕ) where
  -- an entry that takes a leaf out respects the map, wherever that stands
  clear_spares : (front : List Entry) (e : Entry) → Clears (graph_of z front) (next (state_of z front) e).graph root → SparesLeaves z root front e
  clear_spares front e c former q l n before there leaf is =
      label_cases (Thin (IsOutside (state_of z front)) n (node_at (next (state_of z front) e).graph l)) l c.writes.block
      (λ same.
      let m = leaf_stays z former front l before leaf in
      let clash : Some (Ephe (m.0 ∷ []) m.1) ≡ Some (Plain c.writes.tag c.writes.fields) = sym m.2 ∙ (ap (node_at (graph_of z front)) same ∙ c.writes.node) in cc)
      (λ other. thin_is (IsOutside (state_of z front)) n (node_at (next (state_of z front) e).graph l) (ap (λ (g : Graph). node_at g l) c.writes.now ∙ (node_at-with_node_other (graph_of z front) c.writes.block l _ other ∙ is)))

  clear_respects : (front : List Entry) (e : Entry) → (graph_of z (front ++ e ∷ []) ≡ graph_of z front) ⊎ Clears (graph_of z front) (graph_of z (front ++ e ∷ [])) root → RespectsMap z root front e
  clear_respects front e (inl same) = reading_respects z root front e (sym (graph_push z front e) ∙ same)
  clear_respects front e (inr c) = let c2 = subst (λ (g : Graph). Clears (graph_of z front) g root) (graph_push z front e) c in record { step = ClearsField c2; leaves = clear_spares front e c2 }

  pub own_respect : (old new : List Entry) → OwnClear z root d old new → OwnRespect z root d old new
  own_respect old new clear front e since until own = clear_respects front e (clear front e since until own)

  pub record Span (old new : List Entry) : Type 0 where
    pub grows : IsPrefix old new
    pub clear : OwnClear z root d old new
    pub others : OthersRespect z root d old new
    pub map : IsMap (graph_of z old) root

  module _ (old new : List Entry) (x : Span old new) where
    pub span_all : AllRespect z root old new
    span_all = respect_both z root d old new x.others (own_respect old new x.clear)

    pub span_between : (front : List Entry) → IsPrefix old front → IsPrefix front new → IsMap (graph_of z front) root
    span_between = map_between z root old new x.grows span_all x.map

    pub span_map : IsMap (graph_of z new) root
    span_map = span_between new x.grows (prefix_same new)

    pub span_block : (q : List ℕ) (u : Value) (fields : List Value) → at (inside (graph_of z old)) q (Block root) ≡ Some u → inside (graph_of z old) u ≡ Some fields
        → (at (inside (graph_of z new)) q (Block root) ≡ Some u) × ((now : List Value) × (inside (graph_of z new) u ≡ Some now))
    span_block = place_after z root old new x.grows span_all x.map

    -- a leaf that has lost its key stays without it
    pub span_dead : (l : Label) → StoodDead z root old l → StoodDead z root new l
    span_dead l s = record {
      former = s.former;
      before = prefix_trans s.former old new s.before x.grows;
      p = s.p;
      there = s.there;
      leaf = s.leaf;
      dead = (s.dead.0, thin_empty (WasUnreached z old new) s.dead.0 (node_at (graph_of z new) l) (leaf_after z root old new x.grows span_all x.map s.former s.p l (Ephe (None ∷ []) s.dead.0) s.before s.there s.leaf s.dead.1));
    }

    pub span_within : (a b : List Entry) → IsPrefix old a → IsPrefix a b → IsPrefix b new → Span a b
    span_within a b first grows last = record {
      grows = grows;
      clear = λ f e since until own. x.clear f e (prefix_trans old a f first since) (prefix_trans (f ++ e ∷ []) b new until last) own;
      others = λ f e since until other. x.others f e (prefix_trans old a f first since) (prefix_trans (f ++ e ∷ []) b new until last) other;
      map = span_between a first (prefix_trans a b new grows last);
    }

    -- what the domain's entries leave
    each_entry : (f : List Entry) (e : Entry) → IsPrefix old f → IsPrefix (f ++ e ∷ []) new → is_entry_of d e ≡ true → IsMap (graph_of z f) root
    each_entry f e since until own = span_between f since (prefix_before f e new until)

    pub span_looks : Looks z root d old new
    span_looks = record { keeps = keeps; respects = own_respect old new x.clear }
      where
        kept : (f : List Entry) (e : Entry) → IsMap (graph_of z f) root → (graph_of z (f ++ e ∷ []) ≡ graph_of z f) ⊎ Clears (graph_of z f) (graph_of z (f ++ e ∷ [])) root → (l : Label) → bound_after z root (f ++ e ∷ []) l ≡ bound_after z root f l
        kept f e map (inl same) l = ap (λ (g : Graph). found z.domains g root l) same
        kept f e map (inr c) l = clear_keeps z.domains (graph_of z f) (graph_of z (f ++ e ∷ [])) root map c l

        keeps : OwnKeep z root d old new
        keeps f e since until own l = kept f e (each_entry f e since until own) (x.clear f e since until own) l

    pub span_own_within : (base : List Entry) → OwnWithin z root d base old new
    span_own_within base f e since until own = go (each_entry f e since until own) (x.clear f e since until own)
      where
        go : IsMap (graph_of z f) root → (graph_of z (f ++ e ∷ []) ≡ graph_of z f) ⊎ Clears (graph_of z f) (graph_of z (f ++ e ∷ [])) root → StepsWithin (IsMadeBehind z d base) (graph_of z f) (graph_of z (f ++ e ∷ [])) root
        go map (inl same) = within_same (IsMadeBehind z d base) (graph_of z f) (graph_of z (f ++ e ∷ [])) root same
        go map (inr c) = within_written (IsMadeBehind z d base) (graph_of z f) (graph_of z (f ++ e ∷ [])) root c.p c.i c.held (Int (pos 0)) c.writes map
            (written_map (graph_of z f) (graph_of z (f ++ e ∷ [])) root c.p c.i c.held (Int (pos 0)) c.writes map refl refl) refl (λ l same. cc)

    pub span_brings : OwnBringNoDead z root d old new
    span_brings f e since until own = go (each_entry f e since until own) (x.clear f e since until own)
      where
        go : IsMap (graph_of z f) root → (graph_of z (f ++ e ∷ []) ≡ graph_of z f) ⊎ Clears (graph_of z f) (graph_of z (f ++ e ∷ [])) root → BringsNoDead (graph_of z f) (graph_of z (f ++ e ∷ [])) root
        go map (inl same) p l dead there = stays_put (graph_of z f) root p l (ap (λ (g : Graph). at (inside g) p (Block root)) (sym same) ∙ there)
        go map (inr c) p l dead there = clear_brings (graph_of z f) (graph_of z (f ++ e ∷ [])) root map c p l dead there

    pub span_others_bring : OthersBringNoDead z root d old new
    span_others_bring f e since until other = subst (λ (g : Graph). BringsNoDead (graph_of z f) g root) (sym (graph_push z f e))
        (steps_bring z.domains root (state_of z f) e (span_between f since (prefix_before f e new until)) (x.others f e since until other).step)

    -- a dead leaf that stands in the map at the end stood there, or on the way there
    pub span_down : OthersBringNoDead z root d old new → (l : Label) → StoodDead z root old l → (p : List ℕ) → at (inside (graph_of z new)) p (Block root) ≡ Some (Block l)
        → (q : List ℕ) × (r : List ℕ) × (p ≡ q ++ r) × (at (inside (graph_of z old)) q (Block root) ≡ Some (Block l))
    span_down brings l s = walk_along P old new x.grows step (λ p there. stays_put (graph_of z old) root p l there)
      where
        P : List Entry → Type 0
        P h = (p : List ℕ) → at (inside (graph_of z h)) p (Block root) ≡ Some (Block l) → (q : List ℕ) × (r : List ℕ) × (p ≡ q ++ r) × (at (inside (graph_of z old)) q (Block root) ≡ Some (Block l))

        one : (f : List Entry) (e : Entry) → IsPrefix old f → IsPrefix (f ++ e ∷ []) new → (b : Bool) → is_entry_of d e ≡ b → BringsNoDead (graph_of z f) (graph_of z (f ++ e ∷ [])) root
        one f e since until true own = span_brings f e since until own
        one f e since until false other = brings f e since until other

        dead_at : (f : List Entry) (e : Entry) → IsPrefix old f → IsPrefix (f ++ e ∷ []) new → IsDeadLeaf (graph_of z f) l
        dead_at f e since until = (s.dead.0, thin_empty (WasUnreached z old f) s.dead.0 (node_at (graph_of z f) l) (leaf_after z root old f since (respect_within z root old old f new (prefix_same old) (prefix_before f e new until) span_all) x.map s.former s.p l (Ephe (None ∷ []) s.dead.0) s.before s.there s.leaf s.dead.1))

        join : (f : List Entry) (p : List ℕ) → P f → (q : List ℕ) × (r : List ℕ) × (p ≡ q ++ r) × (at (inside (graph_of z f)) q (Block root) ≡ Some (Block l)) → (q : List ℕ) × (r : List ℕ) × (p ≡ q ++ r) × (at (inside (graph_of z old)) q (Block root) ≡ Some (Block l))
        join f p so_far (q, r, split, there) =
            let y = so_far q there in
            (y.0, y.1 ++ r, split ∙ (ap (λ (w : List ℕ). w ++ r) y.2 ∙ append_assoc y.0 y.1 r), y.3)

        step : (f : List Entry) (e : Entry) → IsPrefix old f → IsPrefix (f ++ e ∷ []) new → P f → P (f ++ e ∷ [])
        step f e since until so_far p there = join f p so_far (one f e since until (is_entry_of d e) refl p l (dead_at f e since until) there)

    -- below a field of a block it stands only where it stood below that field before
    pub span_pinned : OthersBringNoDead z root d old new → (l : Label) → StoodDead z root old l → (p : List ℕ) (u : Value) (fields : List Value) → at (inside (graph_of z old)) p (Block root) ≡ Some u → inside (graph_of z old) u ≡ Some fields
        → (i : ℕ) (r : List ℕ) → at (inside (graph_of z new)) (p ++ i ∷ r) (Block root) ≡ Some (Block l) → (s : List ℕ) × (t : List ℕ) × (r ≡ s ++ t) × (at (inside (graph_of z old)) (p ++ i ∷ s) (Block root) ≡ Some (Block l))
    span_pinned brings l s p u fields block plain i r there = go (span_down brings l s (p ++ i ∷ r) there)
      where
        Pinned : Type 0
        Pinned = (s : List ℕ) × (t : List ℕ) × (r ≡ s ++ t) × (at (inside (graph_of z old)) (p ++ i ∷ s) (Block root) ≡ Some (Block l))

        above : (q : List ℕ) → at (inside (graph_of z old)) q (Block root) ≡ Some (Block l) → (t : List ℕ) → p ≡ q ++ t → ⊥
        above q at_q t is = not_above (graph_of z old) root l q t u fields s.dead at_q (ap (λ (w : List ℕ). at (inside (graph_of z old)) w (Block root)) (sym is) ∙ block) plain

        below : (q w : List ℕ) → at (inside (graph_of z old)) q (Block root) ≡ Some (Block l) → (t : List ℕ) → q ≡ p ++ t → i ∷ r ≡ t ++ w → Pinned
        below q w at_q [] is split = absurd (above q at_q [] (sym (append-nil p) ∙ (sym is ∙ sym (append-nil q))))
        below q w at_q (j ∷ t) is split =
            let head : i ≡ j = cc in
            let rest : r ≡ t ++ w = cc in
            (t, w, rest, ap (λ (k : ℕ). at (inside (graph_of z old)) (p ++ k ∷ t) (Block root)) head ∙ (ap (λ (y : List ℕ). at (inside (graph_of z old)) y (Block root)) (sym is) ∙ at_q))

        go : (q : List ℕ) × (w : List ℕ) × (p ++ i ∷ r ≡ q ++ w) × (at (inside (graph_of z old)) q (Block root) ≡ Some (Block l)) → Pinned
        go (q, w, split, at_q) = ⊎_elim (λ up. absurd (above q at_q up.0 up.1)) (λ down. below q w at_q down.0 down.1 down.2) (prefix_cases p q (i ∷ r) w split)

  -- two stretches, one after the other
  pub clear_twice : (a b c : List Entry) → IsPrefix b c → OwnClear z root d a b → OwnClear z root d b c → OwnClear z root d a c
  clear_twice a b c grows x y f e since until own = ⊎_elim (λ before. x f e since before own) (λ behind. y f e behind until own) (before_or_behind b c f e grows until)

  pub clear_none : (h : List Entry) → OwnClear z root d h h
  clear_none h f e since until own = absurd (nothing_between h f e since until)

  -- over one command
  module _ (old new : List Entry) (c : Command) (r : Reply) (p : PerformedBy z d old new c r) where
    pub clear_to : OwnClear z root d old (old ++ p.between)
    clear_to f e since until own = let clash : true ≡ false = sym own ∙ other_between d old p.between f e p.others since until in cc

    pub clear_once : (graph_of z new ≡ graph_of z (old ++ p.between)) ⊎ Clears (graph_of z (old ++ p.between)) (graph_of z new) root → OwnClear z root d old new
    clear_once did f e since until own =
        let same = at_the_end z root d old new c r p f e since until own in
        subst (λ (w : List Entry × Entry). (graph_of z (w.0 ++ w.1 ∷ []) ≡ graph_of z w.0) ⊎ Clears (graph_of z w.0) (graph_of z (w.0 ++ w.1 ∷ [])) root) (λ i. (sym same.0 i, sym same.1 i)) (subst
        (λ (h : List Entry). (graph_of z h ≡ graph_of z (old ++ p.between)) ⊎ Clears (graph_of z (old ++ p.between)) (graph_of z h) root) p.appends did)

  pub respects_twice : (a b c : List Entry) → IsPrefix b c → OthersRespect z root d a b → OthersRespect z root d b c → OthersRespect z root d a c
  respects_twice a b c grows x y f e since until other = ⊎_elim (λ before. x f e since before other) (λ behind. y f e behind until other) (before_or_behind b c f e grows until)

  pub span_twice : (a b c : List Entry) → Span a b → Span b c → Span a c
  span_twice a b c x y = record { grows = prefix_trans a b c x.grows y.grows; clear = clear_twice a b c y.grows x.clear y.clear; others = respects_twice a b c y.grows x.others y.others; map = x.map }

  pub brings_within : (old new a b : List Entry) → IsPrefix old a → IsPrefix b new → OthersBringNoDead z root d old new → OthersBringNoDead z root d a b
  brings_within old new a b first last x f e since until other = x f e (prefix_trans old a f first since) (prefix_trans (f ++ e ∷ []) b new until last) other

  -- a stretch up to a command, and over one
  module _ (old new : List Entry) (c : Command) (r : Reply) (p : PerformedBy z d old new c r) (respects : OthersRespect z root d old new) (map : IsMap (graph_of z old) root) where
    pub span_to : Span old (old ++ p.between)
    span_to = record {
      grows = prefix_more old p.between;
      clear = clear_to old new c r p;
      others = λ f e since until other. respects f e since (prefix_trans (f ++ e ∷ []) (old ++ p.between) new until (until_new z d old new c r p)) other;
      map = map;
    }

    pub span_once : (graph_of z new ≡ graph_of z (old ++ p.between)) ⊎ Clears (graph_of z (old ++ p.between)) (graph_of z new) root → Span old new
    span_once did = record { grows = grows_by z d old new c r p; clear = clear_once old new c r p did; others = respects; map = map }

  -- what was dead before is dead behind a stretch, so none of it stands there either
  pub no_dead_earlier : (old now new : List Entry) (here : List ℕ) → Span old now → IsPrefix now new → NoDeadAt z root d now new here → NoDeadAt z root d old new here
  no_dead_earlier old now new here x grows gone brings l s q = gone (brings_within old new now new x.grows (prefix_same new) brings) l (span_dead old now x l s) q
