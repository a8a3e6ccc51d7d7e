-- A field of a map is cleaned, command by command, beside a collector.
use Rattle.std.proofs.Common.{◌≡◌, ◌⊎◌, inl, inr, ℕ, ◌≤◌, Bool, true, false, not, ◌&&◌, cond, nat_le, List, [], ◌∷◌, ◌++◌, Option, Some, None, refl, ap, sym, ◌∙◌, subst, arith, append_assoc, append-nil}
use Rattle.std.proofs.lemmas.Bool.Decides.{nat_tests}
use Rattle.model_core.specs.declared.label.Label.{Label}
use Rattle.model_core.specs.declared.command.Command.{Command}
use Rattle.model_core.specs.declared.entry.Entry.{Entry}
use Rattle.model_core.specs.declared.reply.Reply.{Reply}
use Rattle.model_core.specs.declared.graph.Value.{Value}
use Rattle.model_core.specs.declared.graph.Value.TheVariants.{Block, Nothing}
use Rattle.model_core.specs.declared.graph.Node.{Node}
use Rattle.model_core.specs.declared.graph.Node.TheVariants.{Ephe, Plain}
use Rattle.model_core.specs.declared.state.Sizes.{Sizes}
use Rattle.model_core.specs.Graph.{Graph, node_at}
use Rattle.model_core.specs.Entries.{next}
use Rattle.model_core.specs.Fronts.{NoneOf}
use Rattle.model_core.specs.History.{IsPrefix, is_entry_of}
use Rattle.model_core.proofs.Histories.FrontLemmas.{none_cons}
use Rattle.weak_laws.specs.Tables.Thinning.{IsOutside, Thin, state_of}
use Rattle.weak_laws.specs.Tables.Performing.{is_spared}
use Rattle.weak_laws.specs.Tables.Stages.{graph_of}
use Rattle.weak_laws.specs.Maps.Tries.{at, fields_of, found, inside, is_leaf, IsMap, IsInPlace}
use Rattle.weak_laws.specs.Maps.Steps.{IsThinned, OthersLeave}
use Rattle.weak_laws.specs.Maps.Calls.{HasKey, OwnKeep, PerformedBy, bound_after}
use Rattle.weak_laws.proofs.OfMaps.FrontLemmas.{other_between, prefix_same, prefix_trans, walk_along}
use Rattle.weak_laws.proofs.OfMaps.MapLemmas.{at_same, inside_same, thinned_map}
use Rattle.weak_laws.proofs.OfMaps.OwnLemmas.{keeps_none, keeps_once, keeps_twice}
use Rattle.weak_laws.proofs.OfMaps.RespectLemmas.{graph_push}
use Rattle.weak_laws.proofs.OfMaps.SetLemmas.{no_longer}
use Rattle.weak_laws.specs.Maps.Within.{IsMadeBehind, OwnWithin, StepsWithin}
use Rattle.weak_laws.proofs.OfMaps.WithinLemmas.{within_earlier, within_none, within_once, within_same, within_twice}
use Rattle.weak_maps.specs.Cleans.{Below, Cleans, LeftAlone}
use Rattle.weak_maps.proofs.BesideLemmas.{until_new}
use Rattle.weak_maps.proofs.DescendLemmas.{leaf_node, plain_node}
use Rattle.weak_maps.proofs.GetLemmas.{grows_by}
use Rattle.weak_maps.proofs.PlaceLemmas.{thin_place}
use Rattle.weak_maps.proofs.StayLemmas.{quiet_looks, within_quiet}
use Rattle.weak_maps.specs.Walks.{OwnQuiet}

-- a field isn't at a place below it
pub not_below : (p : List ℕ) (i : ℕ) → Below (p ++ i ∷ []) p → ⊥
not_below p i (r, is) = no_longer p i r (is ∙ append_assoc p (i ∷ []) r)

-- nor is another field, or what stands below that
pub other_below : (p : List ℕ) (i j : ℕ) (q : List ℕ) → (j ≡ i → ⊥) → Below (p ++ i ∷ []) (p ++ j ∷ q) → ⊥
other_below [] i j q other (r, is) = other cc
other_below (a ∷ p) i j q other (r, is) = other_below p i j q other (r, (let rest : p ++ j ∷ q ≡ (p ++ i ∷ []) ++ r = cc in rest))

pub below_more : (p : List ℕ) (i : ℕ) (q : List ℕ) → (Below p q → ⊥) → Below (p ++ i ∷ []) q → ⊥
below_more p i q apart (r, is) = apart (i ∷ r, is ∙ append_assoc p (i ∷ []) r)

pub below_same : (p : List ℕ) → Below p p
below_same p = ([], sym (append-nil p))

-- a register from 8 on is none of those that a call writes only where it is told to
pub high_spared : (r : ℕ) → 8 ≤ r → is_spared r ≡ 0
high_spared r high =
    let past : nat_le r 7 ≡ false = grind (arith, nat_tests, high) in
    ap (λ (b : Bool). cond b 1 0) (and_false (nat_le 1 r) (nat_le r 7) past)
  where
    and_false : (a b : Bool) → b ≡ false → (a && b) ≡ false
    and_false true b is = is
    and_false false b is = refl

pub leaves_within : (z : Sizes) (root : Label) (d : ℕ) (old new later earlier : List Entry) → IsPrefix old later → IsPrefix earlier new → OthersLeave z root d old new → OthersLeave z root d later earlier
leaves_within z root d old new later earlier after before leaves front e since until other = leaves front e (prefix_trans old later front after since) (prefix_trans (front ++ e ∷ []) earlier new until before) other

module _ (z : Sizes) (root : Label) (d : ℕ) where
  -- nothing was done
  pub cleans_none : (h : List Entry) → IsMap (graph_of z h) root → IsInPlace z.domains (graph_of z h) root → Cleans z root d h h
  cleans_none h map placed = record { keeps = keeps_none z root d h; within = within_none z root d h h; grows = prefix_same h; map = map; placed = placed; stood = λ p l x. x }

  pub left_none : (h : List Entry) → IsMap (graph_of z h) root → IsInPlace z.domains (graph_of z h) root → LeftAlone z root d h h
  left_none h map placed = record { cleans = cleans_none h map placed; places = λ q. refl; blocks = λ q u there. refl; dead = λ q l datum there is. is }

  pub cleans_twice : (a b c : List Entry) → Cleans z root d a b → Cleans z root d b c → Cleans z root d a c
  cleans_twice a b c x y = record { keeps = keeps_twice z root d a b c y.grows x.keeps y.keeps; within = within_twice z root d a a b c y.grows x.within (within_earlier z root d a b b c x.grows y.within); grows = prefix_trans a b c x.grows y.grows; map = y.map; placed = y.placed; stood = λ p l k. x.stood p l (y.stood p l k) }

  pub left_twice : (a b c : List Entry) → LeftAlone z root d a b → LeftAlone z root d b c → LeftAlone z root d a c
  left_twice a b c x y = record {
    cleans = cleans_twice a b c x.cleans y.cleans;
    places = λ q. y.places q ∙ x.places q;
    blocks = λ q u there. y.blocks q u (x.places q ∙ there) ∙ x.blocks q u there;
    dead = λ q l datum there is. y.dead q l datum (x.places q ∙ there) (x.dead q l datum there is);
  }

  -- one entry of another domain, or of the collector
  module _ (front : List Entry) (e : Entry) (thin : IsThinned (IsOutside (state_of z front)) (graph_of z front) (next (state_of z front) e).graph root) (map : IsMap (graph_of z front) root) (placed : IsInPlace z.domains (graph_of z front) root) where
    abbrev P : Label → Type 0
    P = IsOutside (state_of z front)

    abbrev g : Graph
    g = graph_of z front

    abbrev h : Graph
    h = graph_of z (front ++ e ∷ [])

    thinned : IsThinned P g h root
    thinned = subst (λ (x : Graph). IsThinned P g x root) (sym (graph_push z front e)) thin

    still : (o : Option Node) (datum : Value) → Thin P (Ephe (None ∷ []) datum) o → o ≡ Some (Ephe (None ∷ []) datum)
    still o datum (inl same) = same
    still o datum (inr (j, full, gone, empty)) = cc

    stood_one : (p : List ℕ) (l : Label) → HasKey h root p l → HasKey g root p l
    stood_one p l x = of_slot (map.slots p (Block l) there)
      where
        there : at (inside g) p (Block root) ≡ Some (Block l)
        there = sym (at_same P g h root map thinned p) ∙ x.there

        had : (o : Option Label) (datum : Value) → node_at g l ≡ Some (Ephe (o ∷ []) datum) → Thin P (Ephe (o ∷ []) datum) (node_at h l) → HasKey g root p l
        had o datum is (inl same) = record { there = there; key = x.key; datum = x.datum; node = is ∙ (sym same ∙ x.node) }
        had o datum is (inr (k, full, gone, empty)) = let clash : Some (Ephe (None ∷ []) Nothing) ≡ Some (Ephe (Some x.key ∷ []) x.datum) = sym empty ∙ x.node in cc

        of_slot : (is_leaf (node_at g l) ⊎ ((fields : List Value) × (fields_of (node_at g l) ≡ Some fields))) → HasKey g root p l
        of_slot (inl leaf) = let n = leaf_node (node_at g l) leaf in had n.0 n.1 n.2 (thinned p l (Ephe (n.0 ∷ []) n.1) there n.2)
        of_slot (inr (fields, plain)) =
            let n = plain_node (node_at g l) fields plain in
            let clash : Some (Plain n.0 fields) ≡ Some (Ephe (Some x.key ∷ []) x.datum) = sym (thinned p l (Plain n.0 fields) there n.1) ∙ x.node in cc

    pub left_one : OwnKeep z root d front (front ++ e ∷ []) → OwnWithin z root d front front (front ++ e ∷ []) → LeftAlone z root d front (front ++ e ∷ [])
    left_one keeps within = record {
      cleans = record { keeps = keeps; within = within; grows = record { rest = e ∷ []; appends = refl }; map = thinned_map P g h root map thinned; placed = thin_place z.domains P g h root map thinned placed; stood = stood_one };
      places = λ q. at_same P g h root map thinned q;
      blocks = λ q u there. inside_same P g h root map thinned q u there;
      dead = λ q l datum there is. still (node_at h l) datum (thinned q l (Ephe (None ∷ []) datum) there is);
    }

  keeps_others : (now between : List Entry) → NoneOf d between → OwnKeep z root d now (now ++ between)
  keeps_others now between none f e a b own l = let clash : true ≡ false = sym own ∙ other_between d now between f e none a b in cc

  within_others : (first now between : List Entry) → NoneOf d between → OwnWithin z root d first now (now ++ between)
  within_others first now between none f e a b own = let clash : true ≡ false = sym own ∙ other_between d now between f e none a b in cc

  -- over entries of others
  pub left_others : (now between : List Entry) → NoneOf d between → IsMap (graph_of z now) root → IsInPlace z.domains (graph_of z now) root → OthersLeave z root d now (now ++ between) → LeftAlone z root d now (now ++ between)
  left_others now [] none map placed leaves = subst (LeftAlone z root d now) (sym (append-nil now)) (left_none now map placed)
  left_others now (e ∷ more) none map placed leaves =
      let parts = none_cons d e more none in
      let whole : (now ++ e ∷ []) ++ more ≡ now ++ e ∷ more = append_assoc now (e ∷ []) more in
      let one : LeftAlone z root d now (now ++ e ∷ []) = left_one now e (leaves now e (prefix_same now) (record { rest = more; appends = sym whole }) parts.0) map placed (keeps_others now (e ∷ []) (none_one e parts.0)) (within_others now now (e ∷ []) (none_one e parts.0)) in
      let rest : LeftAlone z root d (now ++ e ∷ []) ((now ++ e ∷ []) ++ more) = left_others (now ++ e ∷ []) more parts.1 one.cleans.map one.cleans.placed
      (leaves_within z root d now (now ++ e ∷ more) (now ++ e ∷ []) ((now ++ e ∷ []) ++ more) (record { rest = e ∷ []; appends = refl }) (record { rest = []; appends = sym whole ∙ sym (append-nil ((now ++ e ∷ []) ++ more)) }) leaves) in
      subst (LeftAlone z root d now) whole (left_twice now (now ++ e ∷ []) ((now ++ e ∷ []) ++ more) one rest)
    where
      none_one : (e : Entry) → is_entry_of d e ≡ false → NoneOf d (e ∷ [])
      none_one e other = ap (λ (b : Bool). not b && true) other

  -- over entries of others, and of the domain where they change no block
  pub left_quiet : (old new : List Entry) → IsPrefix old new → OwnQuiet z d old new → OthersLeave z root d old new → IsMap (graph_of z old) root → IsInPlace z.domains (graph_of z old) root → LeftAlone z root d old new
  left_quiet old new grows quiet leaves map placed = walk_along (LeftAlone z root d old) old new grows (λ f e since until x. left_twice old f (f ++ e ∷ []) x (one f e since until x (is_entry_of d e) refl)) (left_none old map placed)
    where
      one : (f : List Entry) (e : Entry) → IsPrefix old f → IsPrefix (f ++ e ∷ []) new → LeftAlone z root d old f → (own : Bool) → is_entry_of d e ≡ own → LeftAlone z root d f (f ++ e ∷ [])
      one f e since until x false other =
          let none : NoneOf d (e ∷ []) = ap (λ (b : Bool). not b && true) other in
          left_one f e (leaves f e since until other) x.cleans.map x.cleans.placed (keeps_others f (e ∷ []) none) (within_others f f (e ∷ []) none)
      one f e since until x true own =
          let same = quiet f e since until own in
          let once : OwnQuiet z d f (f ++ e ∷ []) = λ g h a b mine. quiet g h (prefix_trans old f g since a) (prefix_trans (g ++ h ∷ []) (f ++ e ∷ []) new b until) mine in record {
            cleans = record {
              keeps = (quiet_looks z root d f (f ++ e ∷ []) once).keeps;
              within = within_quiet z root d f f (f ++ e ∷ []) once;
              grows = record { rest = e ∷ []; appends = refl };
              map = subst (λ (g : Graph). IsMap g root) (sym same) x.cleans.map;
              placed = subst (λ (g : Graph). IsInPlace z.domains g root) (sym same) x.cleans.placed;
              stood = λ q l had. subst (λ (g : Graph). HasKey g root q l) same had;
            };
            places = λ q. ap (λ (g : Graph). at (inside g) q (Block root)) same;
            blocks = λ q u there. ap (λ (g : Graph). inside g u) same;
            dead = λ q l datum there is. ap (λ (g : Graph). node_at g l) same ∙ is;
          }

  -- up to a command, and behind one that changes no block
  module _ (now new : List Entry) (c : Command) (r : Reply) (p : PerformedBy z d now new c r) (leaves : OthersLeave z root d now new) (map : IsMap (graph_of z now) root) (placed : IsInPlace z.domains (graph_of z now) root) where
    abbrev mid : List Entry
    mid = now ++ p.between

    pub to_command : LeftAlone z root d now mid
    to_command = left_others now p.between p.others map placed (leaves_within z root d now new now mid (prefix_same now) (until_new z d now new c r p) leaves)

    -- the command's own part, by what it leaves of the bindings
    pub behind_command : IsMap (graph_of z new) root → IsInPlace z.domains (graph_of z new) root → ((l : Label) → found z.domains (graph_of z new) root l ≡ found z.domains (graph_of z mid) root l)
        → ((q : List ℕ) (l : Label) → HasKey (graph_of z new) root q l → HasKey (graph_of z mid) root q l) → StepsWithin (IsMadeBehind z d now) (graph_of z mid) (graph_of z new) root → Cleans z root d now new
    behind_command map_new placed_new kept stood within = record {
      keeps = keeps_once z root d now new c r p (λ l. ap (λ (h : List Entry). bound_after z root h l) (sym p.appends) ∙ kept l);
      within = within_once z root d now now new c r p within;
      grows = grows_by z d now new c r p;
      map = map_new;
      placed = placed_new;
      stood = λ q l x. to_command.cleans.stood q l (stood q l x);
    }

    pub left_command : graph_of z new ≡ graph_of z mid → LeftAlone z root d now new
    left_command same =
        let x = to_command in record {
          cleans = behind_command (subst (λ (y : Graph). IsMap y root) (sym same) x.cleans.map) (subst (λ (y : Graph). IsInPlace z.domains y root) (sym same) x.cleans.placed) (λ l. ap (λ (y : Graph). found z.domains y root l) same) (λ q l had. subst (λ (y : Graph). HasKey y root q l) same had) (within_same (IsMadeBehind z d now) (graph_of z mid) (graph_of z new) root same);
          places = λ q. ap (λ (y : Graph). at (inside y) q (Block root)) same ∙ x.places q;
          blocks = λ q u there. ap (λ (y : Graph). inside y u) same ∙ x.blocks q u there;
          dead = λ q l datum there is. ap (λ (y : Graph). node_at y l) same ∙ x.dead q l datum there is;
        }
