-- What the entries of a call write beside a map, step by step, and that another map stays.
use Rattle.std.proofs.Common.{◌≡◌, ◌≢◌, ◌⊎◌, inl, inr, ⊎_elim, ℕ, zero, suc, Bool, true, false, cond, List, [], ◌∷◌, ◌++◌, get_or, set, replicate, pos, Option, Some, None, refl, ap, sym, ◌∙◌, subst}
use Rattle.model_core.specs.declared.label.Label.{Label}
use Rattle.model_core.specs.declared.command.Command.{Command}
use Rattle.model_core.specs.declared.entry.Entry.{Entry}
use Rattle.model_core.specs.declared.graph.Value.{Value}
use Rattle.model_core.specs.declared.graph.Value.TheVariants.{Int, Block, Nothing}
use Rattle.model_core.specs.declared.graph.Node.{Node}
use Rattle.model_core.specs.declared.graph.Node.TheVariants.{Ephe}
use Rattle.model_core.specs.declared.reply.Reply.{Reply}
use Rattle.model_core.specs.declared.state.Sizes.{Sizes}
use Rattle.model_core.specs.Graph.{Graph, same_label, node_at, with_node}
use Rattle.model_core.specs.Entries.{next}
use Rattle.model_core.specs.History.{IsPrefix, is_entry_of}
use Rattle.model_core.proofs.Commands.FrameLemmas.{label_cases}
use Rattle.model_core.proofs.Graphs.GraphLemmas.{same_label-false, node_at-with_node_other}
use Rattle.weak_laws.specs.Tables.Thinning.{IsOutside, state_of}
use Rattle.weak_laws.specs.Tables.Stages.{graph_of}
use Rattle.weak_laws.proofs.OfTables.ChangeLemmas.{thin_is}
use Rattle.weak_laws.specs.Maps.Tries.{at, inside, is_leaf, node_width, fields_of, IsMap}
use Rattle.weak_laws.specs.Maps.Steps.{Deepens, Empties, IsThinned, IsUntouched, OthersLeave, SparesLeaves, Untouched, WasUnreached, WritesField}
use Rattle.weak_laws.specs.Maps.Calls.{bound_after, Looks, PerformedBy}
use Rattle.weak_laws.specs.Maps.MapLaws.{BoundOrTaken}
use Rattle.weak_laws.specs.Maps.Within.{AreApart, IsBlockOf, IsMadeBehind, OtherMapsStay, OwnWithin, StandsIn, StepsWithin}
use Rattle.weak_laws.proofs.OfMaps.EmptyLemmas.{emptied_any, emptied_map}
use Rattle.weak_laws.proofs.OfMaps.FieldLemmas.{at_field}
use Rattle.weak_laws.proofs.OfMaps.FrontLemmas.{before_or_behind, prefix_before, prefix_more, prefix_same, prefix_trans, walk_along}
use Rattle.weak_laws.proofs.OfMaps.MapLemmas.{NoLabel, at_same, deeper_map, thinned_binds, thinned_map, untouched_binds, untouched_thinned}
use Rattle.weak_laws.proofs.OfMaps.OwnLemmas.{apart_untouched, at_the_end, fresh_untouched, grew_along, leaf_stays, nothing_between, there_is}
use Rattle.weak_laws.proofs.OfMaps.RespectLemmas.{graph_push}
use Rattle.weak_laws.proofs.OfMaps.SetLemmas.{block_is, now_inside, others_inside, still_end, was_inside}
use Rattle.weak_laws.proofs.OfMaps.TreeLemmas.{came_any, leads_nowhere}
use Rattle.weak_laws.proofs.OfMaps.WalkLemmas.{at_any}

-- a block that is appended leaves what other labels have
append_other : (g : Graph) (x : Label × Node) (l : Label) → l ≢ x.0 → node_at (g ++ x ∷ []) l ≡ node_at g l
append_other [] x l other = ap (λ (b : Bool). cond b (Some x.1) None) (same_label-false x.0 l (λ same. other (sym same)))
append_other (y ∷ g) x l other = ap (λ (o : Option Node). cond (same_label y.0 l) (Some y.1) o) (append_other g x l other)

-- what has no block now had none before
pub none_before : (z : Sizes) (old new : List Entry) (l : Label) → IsPrefix old new → node_at (graph_of z new) l ≡ None → node_at (graph_of z old) l ≡ None
none_before z old new l grows none = go (node_at (graph_of z old) l) refl
  where
    go : (o : Option Node) → node_at (graph_of z old) l ≡ o → o ≡ None
    go None is = refl
    go (Some n) is = let later = grew_along z old new grows l n is in let clash : None ≡ Some later.0 = sym none ∙ later.1 in cc

pub made_earlier : (z : Sizes) (d : ℕ) (older first : List Entry) (l : Label) → IsPrefix older first → IsMadeBehind z d first l → IsMadeBehind z d older l
made_earlier z d older first l grows mine = (mine.0, none_before z older first l grows mine.1)

-- what the fields of a fresh block hold
blank_field : (m j : ℕ) (l : Label) → get_or (replicate m (Int (pos 0))) j Nothing ≡ Block l → ⊥
blank_field zero j l is = cc
blank_field (suc m) zero l is = cc
blank_field (suc m) (suc j) l is = blank_field m j l is

only_held : (m k j : ℕ) (held : Value) (l : Label) → get_or (set (replicate m (Int (pos 0))) k held) j Nothing ≡ Block l → held ≡ Block l
only_held zero k j held l is = cc
only_held (suc m) zero zero held l is = is
only_held (suc m) zero (suc j) held l is = absurd (blank_field m j l is)
only_held (suc m) (suc k) zero held l is = cc
only_held (suc m) (suc k) (suc j) held l is = only_held m k j held l is

-- of two fronts of a history one comes before the other
either_first : (a b x y : List Entry) → a ++ x ≡ b ++ y → IsPrefix a b ⊎ IsPrefix b a
either_first [] b x y is = inl (record { rest = b; appends = refl })
either_first (e ∷ a) [] x y is = inr (record { rest = e ∷ a; appends = refl })
either_first (e ∷ a) (f ∷ b) x y is =
    let head : e ≡ f = cc in
    let tail : a ++ x ≡ b ++ y = cc in
    ⊎_elim (λ p. inl (record { rest = p.rest; appends = λ i. sym head i ∷ p.appends i })) (λ p. inr (record { rest = p.rest; appends = λ i. head i ∷ p.appends i })) (either_first a b x y tail)

-- one step
module _ (P : Label → Type 0) (g h : Graph) (root : Label) where
  pub within_same : h ≡ g → StepsWithin P g h root
  within_same same = record {
    writes = λ l. inl (ap (λ (x : Graph). node_at x l) same);
    joins = λ p l there. inl (p, ap (λ (x : Graph). at (inside x) p (Block root)) (sym same) ∙ there);
    map = λ map. subst (λ (x : Graph). IsMap x root) (sym same) map;
  }

  -- it leaves the map untouched
  within_untouched : IsMap g root → IsUntouched g h root → ((l : Label) → (node_at h l ≡ node_at g l) ⊎ (IsBlockOf g root l ⊎ P l)) → StepsWithin P g h root
  within_untouched map same writes =
      let thin = untouched_thinned NoLabel g h root same in record {
        writes = writes;
        joins = λ p l there. inl (p, sym (at_same NoLabel g h root map thin p) ∙ there);
        map = λ is. thinned_map NoLabel g h root is thin;
      }

  -- it makes a block
  pub within_fresh : IsMap g root → (x : Label × Node) → P x.0 → h ≡ g ++ x ∷ [] → StepsWithin P g h root
  within_fresh map x mine grown = within_untouched map (fresh_untouched g h root map x grown)
      (λ l. label_cases ((node_at h l ≡ node_at g l) ⊎ (IsBlockOf g root l ⊎ P l)) l x.0
      (λ same. inr (inr (subst P (sym same) mine)))
      (λ other. inl (ap (λ (y : Graph). node_at y l) grown ∙ append_other g x l other)))

  -- it writes one of the call's own, apart from the map
  pub within_apart : IsMap g root → (l : Label) (n : Node) → ((p : List ℕ) → at (inside g) p (Block root) ≡ Some (Block l) → ⊥) → P l → h ≡ with_node g l n → StepsWithin P g h root
  within_apart map l n apart mine written = within_untouched map (apart_untouched g h root l n apart written)
      (λ k. label_cases ((node_at h k ≡ node_at g k) ⊎ (IsBlockOf g root k ⊎ P k)) k l
      (λ same. inr (inr (subst P (sym same) mine)))
      (λ other. inl (ap (λ (y : Graph). node_at y k) written ∙ node_at-with_node_other g l k n other)))

  -- it writes a field of the map: what comes there is no block of a map, and the call's own
  pub within_written : (p : List ℕ) (i : ℕ) (held new : Value) (w : WritesField g h root p i held new) → IsMap g root → IsMap h root → inside g new ≡ None → ((l : Label) → new ≡ Block l → P l) → StepsWithin P g h root
  within_written p i held new w map map_new leaf mine = record {
    writes = λ l. label_cases ((node_at h l ≡ node_at g l) ⊎ (IsBlockOf g root l ⊎ P l)) l w.block
        (λ same. inr (inl (subst (IsBlockOf g root) (sym same) (p, w.there, (w.fields, ap fields_of w.node)))))
        (λ other. inl (ap (λ (y : Graph). node_at y l) w.now ∙ node_at-with_node_other g w.block l _ other));
    joins = λ x l there. ⊎_elim (λ old. inl (x, old)) (λ same. inr (mine l (sym same)))
        (at_any (inside g) (inside h) (Block w.block) i new w.fields (was_inside g h root p i held new w map.tree) (now_inside g h root p i held new w map.tree) (others_inside g h root p i held new w map.tree)
        (block_is w.block) w.below (still_end g h root p i held new new w map.tree leaf) x (Block root) (Block l) there);
    map = λ is. map_new;
  }

  -- a leaf goes one block deeper, which is the call's own
  pub within_deeper : (n : ℕ) (s : Deepens n g h root) → IsMap g root → P s.block → StepsWithin P g h root
  within_deeper n s map mine = record {
    writes = λ l. label_cases ((node_at h l ≡ node_at g l) ⊎ (IsBlockOf g root l ⊎ P l)) l w.block
        (λ same. inr (inl (subst (IsBlockOf g root) (sym same) (s.p, w.there, (w.fields, ap fields_of w.node)))))
        (λ other. inl (ap (λ (y : Graph). node_at y l) w.now ∙ node_at-with_node_other g w.block l _ other));
    joins = λ x l there. go l x (came_any (inside g) (inside h) (Block w.block) s.i (Block s.block) w.fields ms (was_inside g h root s.p s.i s.held (Block s.block) w map.tree) (now_inside g h root s.p s.i s.held (Block s.block) w map.tree)
        (others_inside g h root s.p s.i s.held (Block s.block) w map.tree) (block_is w.block) w.below inner leads x (Block root) (Block l) there);
    map = λ is. deeper_map n g h root map s;
  }
    where
      w : WritesField g h root s.p s.i s.held (Block s.block)
      w = s.writes

      ms : List Value
      ms = set (replicate node_width (Int (pos 0))) s.j s.held

      inner : inside h (Block s.block) ≡ Some ms
      inner = others_inside g h root s.p s.i s.held (Block s.block) w map.tree (Block s.block) (λ same. s.fresh s.p (w.there ∙ ap Some (sym same))) ∙ s.inner

      leads : (j : ℕ) → inside h (get_or ms j Nothing) ≡ None
      leads j = leads_nowhere h s.j j node_width s.held s.small (still_end g h root s.p s.i s.held (Block s.block) s.held w map.tree w.end)

      go : (l : Label) (x : List ℕ) → (at (inside g) x (Block root) ≡ Some (Block l)) ⊎ ((Block l ≡ Block s.block) ⊎ ((j : ℕ) × (Block l ≡ get_or ms j Nothing))) → StandsIn g root l ⊎ P l
      go l x (inl old) = inl (x, old)
      go l x (inr (inl same)) = let is : s.block ≡ l = cc in inr (subst P is mine)
      go l x (inr (inr (j, field))) =
          let held : s.held ≡ Block l = only_held node_width s.j j s.held l (sym field) in
          inl (s.p ++ s.i ∷ [], at_field g s.p (Block root) w.block w.fields s.i w.there (ap fields_of w.node) ∙ ap Some (w.was ∙ held))

  -- a field that holds nothing is emptied
  pub within_emptied : IsMap g root → Empties g h root → StepsWithin P g h root
  within_emptied map e = record {
    writes = λ l. label_cases ((node_at h l ≡ node_at g l) ⊎ (IsBlockOf g root l ⊎ P l)) l e.block
        (λ same. inr (inl (subst (IsBlockOf g root) (sym same) (e.p, e.there, (e.fields, ap fields_of e.node)))))
        (λ other. inl (ap (λ (y : Graph). node_at y l) e.now ∙ node_at-with_node_other g e.block l _ other));
    joins = λ x l there. ⊎_elim (λ old. inl (x, old)) (λ same. let none : Block l ≡ Int (pos 0) = same in cc) (emptied_any g h root map e x (Block l) there);
    map = λ is. emptied_map g h root map e;
  }

pub within_more : (P Q : Label → Type 0) (g h : Graph) (root : Label) → ((l : Label) → P l → Q l) → StepsWithin P g h root → StepsWithin Q g h root
within_more P Q g h root more s = record {
  writes = λ l. ⊎_elim (λ same. inl same) (λ wrote. inr (⊎_elim (λ block. inl block) (λ mine. inr (more l mine)) wrote)) (s.writes l);
  joins = λ p l there. ⊎_elim (λ old. inl old) (λ mine. inr (more l mine)) (s.joins p l there);
  map = s.map;
}

-- the entries of a call
module _ (z : Sizes) (root : Label) (d : ℕ) where
  pub within_none : (first h : List Entry) → OwnWithin z root d first h h
  within_none first h f e a b own = absurd (nothing_between h f e a b)

  pub within_twice : (first old now new : List Entry) → IsPrefix now new → OwnWithin z root d first old now → OwnWithin z root d first now new → OwnWithin z root d first old new
  within_twice first old now new grows one more f e a b own = ⊎_elim (λ before. one f e a before own) (λ behind. more f e behind b own) (before_or_behind now new f e grows b)

  -- what is made behind a front is made behind an earlier one
  pub within_earlier : (older first old new : List Entry) → IsPrefix older first → OwnWithin z root d first old new → OwnWithin z root d older old new
  within_earlier older first old new grows one f e a b own = within_more (IsMadeBehind z d first) (IsMadeBehind z d older) (graph_of z f) (graph_of z (f ++ e ∷ [])) root (λ l mine. made_earlier z d older first l grows mine) (one f e a b own)

  pub within_once : (first old new : List Entry) (c : Command) (r : Reply) (p : PerformedBy z d old new c r) → StepsWithin (IsMadeBehind z d first) (graph_of z (old ++ p.between)) (graph_of z new) root → OwnWithin z root d first old new
  within_once first old new c r p step f e a b own =
      let same = at_the_end z root d old new c r p f e a b own in
      subst (λ (w : List Entry × Entry). StepsWithin (IsMadeBehind z d first) (graph_of z w.0) (graph_of z (w.0 ++ w.1 ∷ [])) root) (λ i. (sym same.0 i, sym same.1 i))
      (subst (λ (h : List Entry). StepsWithin (IsMadeBehind z d first) (graph_of z (old ++ p.between)) (graph_of z h) root) p.appends step)

-- another map
module _ (z : Sizes) (a b : Label) (d : ℕ) (old new : List Entry) (within : OwnWithin z a d old old new) (leave_a : OthersLeave z a d old new) (leave_b : OthersLeave z b d old new)
    (map_a : IsMap (graph_of z old) a) (map_b : IsMap (graph_of z old) b) (apart : AreApart (graph_of z old) a b) where
  record Between (f : List Entry) : Type 0 where
    its_map : IsMap (graph_of z f) a
    other_map : IsMap (graph_of z f) b
    still : (p : List ℕ) → at (inside (graph_of z f)) p (Block b) ≡ at (inside (graph_of z old)) p (Block b)
    came : (l : Label) → StandsIn (graph_of z f) a l → StandsIn (graph_of z old) a l ⊎ IsMadeBehind z d old l

  -- what stands in the other map is none of the call's own, nor stands in its map
  not_made : (l : Label) → StandsIn (graph_of z old) b l → IsMadeBehind z d old l → ⊥
  not_made l there mine = let n = there_is (graph_of z old) b map_b there.0 l there.1 in let clash : None ≡ Some n.0 = sym mine.1 ∙ n.1 in cc

  was_there : (f : List Entry) → Between f → (l : Label) → StandsIn (graph_of z f) b l → StandsIn (graph_of z old) b l
  was_there f x l there = (there.0, sym (x.still there.0) ∙ there.1)

  apart_there : (f : List Entry) → Between f → AreApart (graph_of z f) a b
  apart_there f x l in_a in_b = ⊎_elim (λ stood. apart l stood (was_there f x l in_b)) (λ mine. not_made l (was_there f x l in_b) mine) (x.came l in_a)

  -- so an entry of the call leaves it untouched
  own_untouched : (f : List Entry) (e : Entry) → Between f → StepsWithin (IsMadeBehind z d old) (graph_of z f) (graph_of z (f ++ e ∷ [])) a → IsUntouched (graph_of z f) (graph_of z (f ++ e ∷ [])) b
  own_untouched f e x s p l there = ⊎_elim (λ same. same)
      (λ wrote. ⊎_elim (λ block. absurd (apart_there f x l (block.0, block.1) (p, there))) (λ mine. absurd (not_made l (was_there f x l (p, there)) mine)) wrote)
      (s.writes l)

  thinned_push : (root : Label) (f : List Entry) (e : Entry) → IsThinned (IsOutside (state_of z f)) (graph_of z f) (next (state_of z f) e).graph root → IsThinned (IsOutside (state_of z f)) (graph_of z f) (graph_of z (f ++ e ∷ [])) root
  thinned_push root f e thin = subst (λ (x : Graph). IsThinned (IsOutside (state_of z f)) (graph_of z f) x root) (sym (graph_push z f e)) thin

  own_next : (f : List Entry) (e : Entry) → Between f → StepsWithin (IsMadeBehind z d old) (graph_of z f) (graph_of z (f ++ e ∷ [])) a → Between (f ++ e ∷ [])
  own_next f e x s =
      let thin = untouched_thinned NoLabel (graph_of z f) (graph_of z (f ++ e ∷ [])) b (own_untouched f e x s) in record {
        its_map = s.map x.its_map;
        other_map = thinned_map NoLabel (graph_of z f) (graph_of z (f ++ e ∷ [])) b x.other_map thin;
        still = λ p. at_same NoLabel (graph_of z f) (graph_of z (f ++ e ∷ [])) b x.other_map thin p ∙ x.still p;
        came = λ l there. ⊎_elim (λ stood. x.came l stood) (λ mine. inr mine) (s.joins there.0 l there.1);
      }

  other_next : (f : List Entry) (e : Entry) → Between f → IsThinned (IsOutside (state_of z f)) (graph_of z f) (graph_of z (f ++ e ∷ [])) a → IsThinned (IsOutside (state_of z f)) (graph_of z f) (graph_of z (f ++ e ∷ [])) b → Between (f ++ e ∷ [])
  other_next f e x thin_a thin_b =
      let P = IsOutside (state_of z f) in record {
        its_map = thinned_map P (graph_of z f) (graph_of z (f ++ e ∷ [])) a x.its_map thin_a;
        other_map = thinned_map P (graph_of z f) (graph_of z (f ++ e ∷ [])) b x.other_map thin_b;
        still = λ p. at_same P (graph_of z f) (graph_of z (f ++ e ∷ [])) b x.other_map thin_b p ∙ x.still p;
        came = λ l there. x.came l (there.0, sym (at_same P (graph_of z f) (graph_of z (f ++ e ∷ [])) a x.its_map thin_a there.0) ∙ there.1);
      }

  step_next : (f : List Entry) (e : Entry) → IsPrefix old f → IsPrefix (f ++ e ∷ []) new → Between f → Between (f ++ e ∷ [])
  step_next f e since until x = go (is_entry_of d e) refl
    where
      go : (mine : Bool) → is_entry_of d e ≡ mine → Between (f ++ e ∷ [])
      go true own = own_next f e x (within f e since until own)
      go false other = other_next f e x (thinned_push a f e (leave_a f e since until other)) (thinned_push b f e (leave_b f e since until other))

  between : (f : List Entry) → IsPrefix old f → IsPrefix f new → Between f
  between f since until = walk_along Between old f since (λ g e from to x. step_next g e from (prefix_trans (g ++ e ∷ []) f new to until) x)
      (record { its_map = map_a; other_map = map_b; still = λ p. refl; came = λ l there. inl there })

  -- nor does it write a leaf that ever stood there
  not_made_leaf : (former f : List Entry) (p : List ℕ) (l : Label) → IsPrefix old f → IsPrefix f new → IsPrefix former f → at (inside (graph_of z former)) p (Block b) ≡ Some (Block l) → is_leaf (node_at (graph_of z former) l) → IsMadeBehind z d old l → ⊥
  not_made_leaf former f p l since until before there leaf mine = ⊎_elim
      (λ earlier. let is = leaf_stays z former old l earlier leaf in let clash : None ≡ Some (Ephe (is.0 ∷ []) is.1) = sym mine.1 ∙ is.2 in cc)
      (λ later. not_made l (was_there former (between former later (prefix_trans former f new before until)) l (p, there)) mine)
      (either_first former old before.rest since.rest (sym before.appends ∙ since.appends))

  own_spares : (f : List Entry) (e : Entry) → IsPrefix old f → IsPrefix f new → StepsWithin (IsMadeBehind z d old) (graph_of z f) (graph_of z (f ++ e ∷ [])) a → SparesLeaves z b f e
  own_spares f e since until s former p l n before there leaf node =
      thin_is (IsOutside (state_of z f)) n (node_at (next (state_of z f) e).graph l) (ap (λ (x : Graph). node_at x l) (sym (graph_push z f e)) ∙ (same (s.writes l) ∙ node))
    where
      same : (node_at (graph_of z (f ++ e ∷ [])) l ≡ node_at (graph_of z f) l) ⊎ (IsBlockOf (graph_of z f) a l ⊎ IsMadeBehind z d old l) → node_at (graph_of z (f ++ e ∷ [])) l ≡ node_at (graph_of z f) l
      same (inl is) = is
      same (inr (inl (q, at_q, (fields, plain)))) =
          let is = leaf_stays z former f l before leaf in
          let clash : None ≡ Some fields = sym (ap fields_of is.2) ∙ plain in cc
      same (inr (inr mine)) = absurd (not_made_leaf former f p l since until before there leaf mine)

  -- to the other map the call does no more than a lookup
  looks : Looks z b d old new
  looks = record {
    keeps = λ f e since until own l.
        let x = between f since (prefix_before f e new until) in
        untouched_binds z.domains (graph_of z f) (graph_of z (f ++ e ∷ [])) b x.other_map (own_untouched f e x (within f e since until own)) l;
    respects = λ f e since until own.
        let x = between f since (prefix_before f e new until) in
        let s = within f e since until own in record {
          step = Untouched (subst (λ (h : Graph). IsUntouched (graph_of z f) h b) (graph_push z f e) (own_untouched f e x s));
          leaves = own_spares f e since (prefix_before f e new until) s;
        };
  }

  -- and each key of it is bound as it was, or outside reach and unbound
  bound_on : (k : Label) (f : List Entry) (e : Entry) → IsPrefix old f → IsPrefix (f ++ e ∷ []) new → BoundOrTaken z b old f k (bound_after z b old k) → BoundOrTaken z b old (f ++ e ∷ []) k (bound_after z b old k)
  bound_on k f e since until before = go (is_entry_of d e) refl
    where
      Left_by : Type 0
      Left_by = (bound_after z b (f ++ e ∷ []) k ≡ bound_after z b f k) ⊎ (IsOutside (state_of z f) k × (bound_after z b (f ++ e ∷ []) k ≡ None))

      later : WasUnreached z old f k → WasUnreached z old (f ++ e ∷ []) k
      later w = record { front = w.front; since = w.since; until = prefix_trans w.front f (f ++ e ∷ []) w.until (prefix_more f (e ∷ [])); outside = w.outside }

      both : Left_by → BoundOrTaken z b old f k (bound_after z b old k) → BoundOrTaken z b old (f ++ e ∷ []) k (bound_after z b old k)
      both (inl same) (inl bound) = inl (same ∙ bound)
      both (inl same) (inr (w, none)) = inr (later w, same ∙ none)
      both (inr (outside, none)) was = inr (record { front = f; since = since; until = prefix_more f (e ∷ []); outside = outside }, none)

      go : (mine : Bool) → is_entry_of d e ≡ mine → BoundOrTaken z b old (f ++ e ∷ []) k (bound_after z b old k)
      go true own = both (inl (looks.keeps f e since until own k)) before
      go false other =
          let x = between f since (prefix_before f e new until) in
          both (thinned_binds (IsOutside (state_of z f)) (graph_of z f) (graph_of z (f ++ e ∷ [])) b x.other_map (thinned_push b f e (leave_b f e since until other)) z.domains k) before

  stays_bound : IsPrefix old new → (k : Label) → BoundOrTaken z b old new k (bound_after z b old k)
  stays_bound grows k = walk_along (λ h. BoundOrTaken z b old h k (bound_after z b old k)) old new grows (bound_on k) (inl refl)

  pub other_stays : IsPrefix old new → Looks z b d old new × IsMap (graph_of z new) b × AreApart (graph_of z new) a b × ((k : Label) → BoundOrTaken z b old new k (bound_after z b old k))
  other_stays grows = (looks, (between new grows (prefix_same new)).other_map, apart_there new (between new grows (prefix_same new)), stays_bound grows)

pub other_maps_stay : OtherMapsStay
other_maps_stay z a b d old new grows within leave_a leave_b map_a map_b apart = other_stays z a b d old new within leave_a leave_b map_a map_b apart grows
