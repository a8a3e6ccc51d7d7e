-- The bindings of a shared map, from front to front.
use Rattle.std.proofs.Common.{◌≡◌, ◌⊎◌, inl, inr, ⊎_elim, List, [], ◌∷◌, ◌++◌, Option, Some, None, refl, ap, sym, ◌∙◌, subst}
use Rattle.model_core.specs.declared.label.Label.{Label}
use Rattle.model_core.specs.declared.entry.Entry.{Entry}
use Rattle.model_core.specs.declared.graph.Value.{Value}
use Rattle.model_core.specs.declared.state.Sizes.{Sizes}
use Rattle.model_core.specs.Graph.{Graph}
use Rattle.model_core.specs.Entries.{next}
use Rattle.model_core.specs.History.{IsPrefix}
use Rattle.model_core.proofs.Commands.FrameLemmas.{label_cases}
use Rattle.weak_laws.specs.Tables.Thinning.{IsOutside, IsUnheld, state_of}
use Rattle.weak_laws.specs.Tables.Stages.{graph_of}
use Rattle.weak_laws.proofs.OfTables.CollectorLemmas.{outside_unheld}
use Rattle.weak_laws.specs.Maps.Tries.{bound_by, found, IsMap}
use Rattle.weak_laws.specs.Maps.Steps.{MapStep, Untouched, SetsKey, GoesDeeper, ClearsField, TakesKeys, LeavesBinding}
use Rattle.weak_laws.specs.Maps.Calls.{bound_after}
use Rattle.weak_laws.specs.Maps.MapLaws.{SetsAt}
use Rattle.weak_laws.proofs.OfMaps.FrontLemmas.{prefix_before, prefix_more, prefix_same, prefix_trans, walk_along}
use Rattle.weak_laws.proofs.OfMaps.MapLemmas.{step_tells}
use Rattle.weak_laws.proofs.OfMaps.OwnLemmas.{nothing_between}
use Rattle.weak_laws.proofs.OfMaps.RespectLemmas.{graph_push, held_found, respect_within}
use Rattle.weak_laws.proofs.OfMaps.SetLemmas.{set_binds}
use Rattle.weak_maps.specs.Shared.Sharing.{IsShared}
use Rattle.weak_maps.specs.Shared.Orders.{BindingsAreOfOneOrder, FoundWasPut, PlainStep, Keeps, Loses, PutIsFoundByAll, Sets, TakesDiffer, WasPut}
use Rattle.weak_maps.proofs.OfShared.SharingLemmas.{all_respect, map_there}

-- a front of a history with one entry more is one of the history, or all of it
front_or_whole : (g f : List Entry) (e : Entry) → IsPrefix g (f ++ e ∷ []) → IsPrefix g f ⊎ (g ≡ f ++ e ∷ [])
front_or_whole [] f e p = inl (record { rest = f; appends = refl })
front_or_whole (a ∷ []) [] e p = let same : e ≡ a = cc in inr (ap (λ (y : Entry). y ∷ []) (sym same))
front_or_whole (a ∷ b ∷ g) [] e p = cc
front_or_whole (a ∷ g) (b ∷ f) e p =
    let head : b ≡ a = cc in
    let tail : f ++ e ∷ [] ≡ g ++ p.rest = cc in
    ⊎_elim (λ before. inl (record { rest = before.rest; appends = (λ i. head i ∷ before.appends i) })) (λ whole. inr (λ i. sym head i ∷ whole i))
    (front_or_whole g f e (record { rest = p.rest; appends = tail }))

-- two labels are one, or aren't
label_cases_of : (k j : Label) → (k ≡ j) ⊎ (k ≡ j → ⊥)
label_cases_of k j = label_cases ((k ≡ j) ⊎ (k ≡ j → ⊥)) k j (λ is. inl is) (λ other. inr other)

module _ (z : Sizes) (root : Label) (base h : List Entry) (x : IsShared z root base h) where
  -- what is bound behind an entry, by the graph that it leaves
  pushed : (front : List Entry) (e : Entry) (l : Label) → bound_after z root (front ++ e ∷ []) l ≡ found z.domains (next (state_of z front) e).graph root l
  pushed front e l = ap (λ (g : Graph). found z.domains g root l) (graph_push z front e)

  pub plain_step : (front : List Entry) (e : Entry) → IsPrefix base front → IsPrefix (front ++ e ∷ []) h → PlainStep z root front e (bound_after z root front) (bound_after z root (front ++ e ∷ []))
  plain_step front e since until = by step (step_tells z.domains root (state_of z front) e map step)
    where
      map : IsMap (graph_of z front) root
      map = (map_there z root base h x front since (prefix_before front e h until)).0

      step : MapStep z.domains root (state_of z front) e
      step = (all_respect z root base h x front e since until).step

      lost : (l : Label) → (found z.domains (next (state_of z front) e).graph root l ≡ bound_after z root front l) ⊎ (IsOutside (state_of z front) l × (found z.domains (next (state_of z front) e).graph root l ≡ None))
          → (bound_after z root (front ++ e ∷ []) l ≡ bound_after z root front l) ⊎ (IsUnheld (state_of z front) l × (bound_after z root (front ++ e ∷ []) l ≡ None))
      lost l (inl same) = inl (pushed front e l ∙ same)
      lost l (inr (outside, gone)) = inr (outside_unheld (state_of z front) l outside, pushed front e l ∙ gone)

      by : (s : MapStep z.domains root (state_of z front) e) → ((l : Label) → LeavesBinding z.domains root (state_of z front) e s l) → PlainStep z root front e (bound_after z root front) (bound_after z root (front ++ e ∷ []))
      by (Untouched u) tells = Keeps (λ l. pushed front e l ∙ tells l)
      by (SetsKey k new set) tells =
          let law = set_binds z.domains (graph_of z front) (next (state_of z front) e).graph root k new map set in
          Sets k new set (pushed front e k ∙ law.0) (λ l other. pushed front e l ∙ law.1 l other)
      by (GoesDeeper u) tells = Keeps (λ l. pushed front e l ∙ tells l)
      by (ClearsField u) tells = Keeps (λ l. pushed front e l ∙ tells l)
      by (TakesKeys u) tells = Loses (λ l. lost l (tells l))

  -- a key that was unbound is unbound still, or was set, and is bound to what the last entry put that set it
  module _ (k : Label) (old : List Entry) (behind : IsPrefix base old) (unbound : bound_after z root old k ≡ None) where
    abbrev Told : List Entry → Type 0
    Told f = (bound_after z root f k ≡ None) ⊎ ((v : Value) × (bound_after z root f k ≡ Some v) × WasPut z root old f k v)

    -- over an entry that leaves its binding
    told_on : (f : List Entry) (e : Entry) → bound_after z root (f ++ e ∷ []) k ≡ bound_after z root f k → Told f → Told (f ++ e ∷ [])
    told_on f e same (inl is) = inl (same ∙ is)
    told_on f e same (inr (v, is, w)) = inr (
      v,
      same ∙ is,
      record {
        front = w.front;
        entry = w.entry;
        since = w.since;
        until = prefix_trans (w.front ++ w.entry ∷ []) f (f ++ e ∷ []) w.until (prefix_more f (e ∷ []));
        leaf = w.leaf;
        sets = w.sets;
        binds = w.binds;
        stays = λ g after before. ⊎_elim (λ early. w.stays g after early) (λ whole. ap (λ (y : List Entry). bound_after z root y k) whole ∙ (same ∙ is)) (front_or_whole g f e before);
      },
    )

    -- over one that sets it
    told_set : (f : List Entry) (e : Entry) → IsPrefix old f → (u : Value) → SetsAt z root f e k u → bound_after z root (f ++ e ∷ []) k ≡ bound_by (graph_of z f) k u → Told (f ++ e ∷ [])
    told_set f e since u set is = go (bound_by (graph_of z f) k u) refl
      where
        go : (o : Option Value) → bound_by (graph_of z f) k u ≡ o → Told (f ++ e ∷ [])
        go None none = inl (is ∙ none)
        go (Some v) some = inr (
          v,
          is ∙ some,
          record {
            front = f;
            entry = e;
            since = since;
            until = prefix_same (f ++ e ∷ []);
            leaf = u;
            sets = set;
            binds = some;
            stays = λ g after before.
                ⊎_elim (λ early. absurd (nothing_between f f e (prefix_same f) (prefix_trans (f ++ e ∷ []) g f after early))) (λ whole. ap (λ (y : List Entry). bound_after z root y k) whole ∙ (is ∙ some)) (front_or_whole g f e before);
          },
        )

    told_step : (f : List Entry) (e : Entry) → IsPrefix old f → PlainStep z root f e (bound_after z root f) (bound_after z root (f ++ e ∷ [])) → Told f → Told (f ++ e ∷ [])
    told_step f e since (Keeps same) told = told_on f e (same k) told
    told_step f e since (Sets j u set binds others) told = by (label_cases_of k j)
      where
        by : (k ≡ j) ⊎ (k ≡ j → ⊥) → Told (f ++ e ∷ [])
        by (inl is) = told_set f e since u (subst (λ (y : Label). SetsAt z root f e y u) (sym is) set) (subst (λ (y : Label). bound_after z root (f ++ e ∷ []) y ≡ bound_by (graph_of z f) y u) (sym is) binds)
        by (inr other) = told_on f e (others k other) told
    told_step f e since (Loses left) told = ⊎_elim (λ same. told_on f e same told) (λ gone. inl gone.1) (left k)

    pub told_at : (f : List Entry) → IsPrefix old f → IsPrefix f h → Told f
    told_at f grows until = walk_along Told old f grows
        (λ g e a b told. told_step g e a (plain_step g e (prefix_trans base old g behind a) (prefix_trans (g ++ e ∷ []) f h b until)) told) (inl unbound)

    pub was_put : (f : List Entry) (v : Value) → IsPrefix old f → IsPrefix f h → bound_after z root f k ≡ Some v → WasPut z root old f k v
    was_put f v grows until bound = go (told_at f grows until)
      where
        go : Told f → WasPut z root old f k v
        go (inl none) = let clash : None ≡ Some v = sym none ∙ bound in cc
        go (inr (w, is, put)) = let both : Some w ≡ Some v = sym is ∙ bound in let same : w ≡ v = cc in subst (WasPut z root old f k) same put

pub bindings_are_of_one_order : BindingsAreOfOneOrder
bindings_are_of_one_order z root base h x front e since until = plain_step z root base h x front e since until

pub found_was_put : FoundWasPut
found_was_put z root base h x k v unbound old new d behind none grows until gets =
    was_put z root base h x k unbound behind none gets.front v (prefix_trans unbound old gets.front grows gets.since) (prefix_trans gets.front new h gets.until until) gets.bound

pub takes_differ : TakesDiffer
takes_differ z root base h x k v w d e a b p q behind until_b until_q first last grows =
    let after : List Entry = first.front ++ first.entry ∷ [] in
    was_put z root base h x k after (prefix_trans base first.front after (prefix_trans base a first.front behind first.since) (prefix_more first.front (first.entry ∷ []))) first.binds last.front w grows
    (prefix_trans last.front q h (prefix_before last.front last.entry q last.until) until_q) last.was

pub put_is_found_by_all : PutIsFoundByAll
put_is_found_by_all z root base h x d reader old mid later new k v before datum behind grows until put gets none reached =
    let after : List Entry = put.front ++ put.entry ∷ [] in
    let since : IsPrefix base after = prefix_trans base put.front after (prefix_trans base old put.front behind put.since) (prefix_more put.front (put.entry ∷ [])) in
    let to_front : IsPrefix after gets.front = prefix_trans after mid gets.front put.until (prefix_trans mid later gets.front grows gets.since) in
    let to_h : IsPrefix gets.front h = prefix_trans gets.front new h gets.until until in
    let map : IsMap (graph_of z after) root = (map_there z root base h x after since (prefix_trans after gets.front h to_front to_h)).0 in
    sym gets.bound
    ∙ held_found z root after gets.front to_front (respect_within z root base after gets.front h since to_h (all_respect z root base h x)) map k v put.binds
    (λ f e a b u set. none f e a (prefix_trans (f ++ e ∷ []) gets.front new b gets.until) u set) (λ f a b. reached f a (prefix_trans f gets.front new b gets.until))
