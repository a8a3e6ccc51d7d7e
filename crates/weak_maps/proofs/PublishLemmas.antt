-- The compare-and-set by which a leaf comes into a map.
use Rattle.std.proofs.Common.{◌≡◌, ◌≢◌, ◌⊎◌, inl, inr, ⊎_elim, ℕ, ◌<◌, Bool, true, false, cond, List, [], ◌∷◌, ◌++◌, length, get_or, set, slice_get, Option, Some, None, refl, ap, sym, ◌∙◌, subst, eq-eqb}
use Rattle.std.proofs.lemmas.Option.{slice_get-get_or}
use Rattle.std.proofs.lemmas.Bool.Decides.{Decides-int_eq}
use Rattle.model_core.specs.declared.label.Label.{Label}
use Rattle.model_core.specs.declared.command.Command.{Command}
use Rattle.model_core.specs.declared.command.Command.TheVariants.{Cas, Poll}
use Rattle.model_core.specs.declared.entry.Entry.{Entry}
use Rattle.model_core.specs.declared.entry.Entry.TheVariants.{Command as CommandOf}
use Rattle.model_core.specs.declared.reply.Reply.{Reply}
use Rattle.model_core.specs.declared.reply.Reply.TheVariants as reply
use Rattle.model_core.specs.declared.graph.Value.{Value}
use Rattle.model_core.specs.declared.graph.Value.TheVariants.{Int, Block, Nothing}
use Rattle.model_core.specs.declared.graph.Node.{Node}
use Rattle.model_core.specs.declared.graph.Node.TheVariants.{Plain, Ephe}
use Rattle.model_core.specs.declared.state.Sizes.{Sizes}
use Rattle.model_core.specs.declared.state.State.{State}
use Rattle.model_core.specs.Graph.{Graph, block_at, label_of, same_label, node_at, with_node}
use Rattle.std.specs.Prelude.{option_and_then, option_map}
use Rattle.model_core.specs.Domains.{IsWithinLimits, register}
use Rattle.model_core.specs.Commands.{Outcome, at_field, block_in, exchanged, outcome, same_value, written_where, after_command}
use Rattle.model_core.specs.Entries.{next}
use Rattle.model_core.specs.Fronts.{NoneOf}
use Rattle.model_core.specs.History.{IsPrefix}
use Rattle.model_core.proofs.Commands.LeavesLemmas.{takes_plain}
use Rattle.model_core.proofs.Graphs.GraphLemmas.{same_label-true, same_label-false, same_label_refl}
use Rattle.weak_laws.specs.Tables.Thinning.{IsOutside, Thin, state_of}
use Rattle.weak_laws.specs.Tables.Stages.{graph_of}
use Rattle.weak_laws.specs.Maps.Tries.{at, inside, fields_of, bound_by, bound_in, found, is_leaf, low_digits, IsMap}
use Rattle.weak_laws.specs.Maps.Private.{IsPrivate}
use Rattle.weak_laws.specs.Maps.Steps.{AllRespect, Sets, SetsKey, OthersRespect, RespectsMap, WasUnreached}
use Rattle.weak_laws.specs.Maps.Calls.{PerformedBy, bound_after, registers_after}
use Rattle.weak_laws.specs.Maps.Within.{IsMadeBehind}
use Rattle.weak_laws.proofs.OfMaps.CallLemmas.{cas_step, registers_kept}
use Rattle.weak_laws.proofs.OfMaps.FrontLemmas.{other_between, prefix_more, prefix_same, prefix_trans, walk_along}
use Rattle.weak_laws.proofs.OfMaps.MapLemmas.{map_stays}
use Rattle.weak_laws.proofs.OfMaps.OwnLemmas.{changes_once, plain_spares}
use Rattle.weak_laws.proofs.OfMaps.PrivateLemmas.{private_own}
use Rattle.weak_laws.proofs.OfMaps.RespectLemmas.{graph_push}
use Rattle.weak_laws.proofs.OfMaps.SetLemmas.{set_binds}
use Rattle.weak_laws.proofs.OfMaps.WithinLemmas.{within_written}
use Rattle.weak_maps.specs.Beside.{held_by}
use Rattle.weak_maps.specs.Fields.{AtField, MapStays}
use Rattle.weak_maps.specs.Puts.{BindsOnly, FieldBinds, IsLeafOf, OwnBlock, Published, PublishLost}
use Rattle.weak_maps.proofs.BesideLemmas.{left_is, same_held, until_new}
use Rattle.weak_maps.proofs.CountLemmas.{not_refused}
use Rattle.weak_maps.proofs.DescendLemmas.{plain_node}
use Rattle.weak_maps.proofs.FreshLemmas.{held_not_outside, map_by, next_is, own_kept, own_middle, reads_on, thin_held, within_by}
use Rattle.weak_maps.proofs.GetLemmas.{grows_by}
use Rattle.weak_maps.proofs.StayLemmas.{respects_within, stays_middle, stays_same, stays_twice, field_as}

-- a leaf of a key stays one over a history whose entries respect a map
leaf_all : (z : Sizes) (root : Label) (now new : List Entry) → IsPrefix now new → AllRespect z root now new → (front : List Entry) (q : List ℕ) (l k : Label) → IsPrefix front now
    → at (inside (graph_of z front)) q (Block root) ≡ Some (Block l) → is_leaf (node_at (graph_of z front) l) → IsLeafOf (graph_of z now) k l → IsLeafOf (graph_of z new) k l
leaf_all z root now new grows all front q l k before there leaf is = walk_along (λ h. IsLeafOf (graph_of z h) k l) now new grows
    (λ f e a b x. subst (λ (g : Graph). IsLeafOf g k l) (sym (graph_push z f e))
    (go f e (λ n node. (all f e a b).leaves front q l n (prefix_trans front now f before a) there leaf node) x)) is
  where
    left : (P : Label → Type 0) (key : Option Label) (datum : Value) (o : Option Node) → ((key ≡ Some k) ⊎ (key ≡ None)) → Thin P (Ephe (key ∷ []) datum) o → (now_datum : Value) × ((o ≡ Some (Ephe (Some k ∷ []) now_datum)) ⊎ (o ≡ Some (Ephe (None ∷ []) now_datum)))
    left P key datum o (inl some) (inl same) = (datum, inl (same ∙ ap (λ (x : Option Label). Some (Ephe (x ∷ []) datum)) some))
    left P key datum o (inr empty) (inl same) = (datum, inr (same ∙ ap (λ (x : Option Label). Some (Ephe (x ∷ []) datum)) empty))
    left P key datum o which (inr (j, full, gone, lost)) = (Nothing, inr lost)

    go : (f : List Entry) (e : Entry) → ((n : Node) → node_at (graph_of z f) l ≡ Some n → Thin (IsOutside (state_of z f)) n (node_at (next (state_of z f) e).graph l)) → IsLeafOf (graph_of z f) k l → IsLeafOf (next (state_of z f) e).graph k l
    go f e thins (datum, inl some) = left (IsOutside (state_of z f)) (Some k) datum (node_at (next (state_of z f) e).graph l) (inl refl) (thins _ some)
    go f e thins (datum, inr empty) = left (IsOutside (state_of z f)) None datum (node_at (next (state_of z f) e).graph l) (inr refl) (thins _ empty)

-- so with what a field binds
pub binds_all : (z : Sizes) (root : Label) (now new : List Entry) → IsPrefix now new → AllRespect z root now new → (front : List Entry) (q : List ℕ) (v : Value) (k : Label) → IsPrefix front now
    → at (inside (graph_of z front)) q (Block root) ≡ Some v → FieldBinds z front now v k → FieldBinds z front new v k
binds_all z root now new grows all front q (Int i) k before there x = record { binds = x.binds; leaf = x.leaf }
binds_all z root now new grows all front q (Block l) k before there x = record { binds = leaf_all z root now new grows all front q l k before there (x.leaf l refl) x.binds; leaf = x.leaf }
binds_all z root now new grows all front q Nothing k before there x = absurd x.binds

-- while others go on
pub binds_along : (z : Sizes) (root : Label) (d : ℕ) (now between : List Entry) → NoneOf d between → OthersRespect z root d now (now ++ between) → (front : List Entry) (q : List ℕ) (v : Value) (k : Label) → IsPrefix front now
    → at (inside (graph_of z front)) q (Block root) ≡ Some v → FieldBinds z front now v k → FieldBinds z front (now ++ between) v k
binds_along z root d now between none respects = binds_all z root now (now ++ between) (prefix_more now between) (λ f e a b. respects f e a b (other_between d now between f e none a b))

pub binds_some : (g : Graph) (k : Label) (v : Value) → BindsOnly g k v → v ≢ Nothing
binds_some g k (Int i) binds e = cc
binds_some g k (Block l) binds e = cc
binds_some g k Nothing binds e = binds

pub binds_end : (g : Graph) (k : Label) (v : Value) → BindsOnly g k v → inside g v ≡ None
binds_end g k (Int i) binds = refl
binds_end g k (Block l) (datum, inl some) = ap fields_of some
binds_end g k (Block l) (datum, inr empty) = ap fields_of empty
binds_end g k Nothing binds = absurd binds

pub binds_other : (g : Graph) (k j : Label) (v : Value) → j ≢ k → BindsOnly g k v → bound_by g j v ≡ None
binds_other g k j (Int i) other binds = refl
binds_other g k j (Block l) other (datum, inl some) = ap (bound_in j) some ∙ ap (λ (b : Bool). cond b (Some datum) None) (same_label-false k j (λ e. other (sym e)))
binds_other g k j (Block l) other (datum, inr empty) = ap (bound_in j) empty
binds_other g k j Nothing other binds = absurd binds

-- two values that are the same
pub value_same : (v w : Value) → same_value v w ≡ true → v ≡ w
value_same (Int a) (Int b) is = ap Int ((Decides-int_eq a b).0 is)
value_same (Block a) (Block b) is = ap Block (same_label-true a b is)
value_same (Int a) (Block b) is = cc
value_same (Int a) Nothing is = cc
value_same (Block a) (Int b) is = cc
value_same (Block a) Nothing is = cc
value_same Nothing w is = cc

pub same_itself : (v : Value) → v ≢ Nothing → same_value v v ≡ true
same_itself (Int a) some = (Decides-int_eq a a).1 refl
same_itself (Block l) some = same_label_refl l
same_itself Nothing some = absurd (some refl)

block_is : (s : State) (d r : ℕ) (l : Label) (n : Node) → register s d r ≡ Block l → node_at s.graph l ≡ Some n → block_in s d r ≡ Some (l, n)
block_is s d r l n held node = ap (λ v. option_and_then (block_at s.graph) (label_of v)) held ∙ ap (option_map (λ m. (l, m))) node

-- a compare-and-set that is refused leaves the state
module _ (s : State) (d block i expected item : ℕ) (l : Label) (tag : ℕ) (fields : List Value) (was : Value) (holds : register s d block ≡ Block l) (node : node_at s.graph l ≡ Some (Plain tag fields)) (at_i : slice_get fields i ≡ Some was) where
  lost_at : (e v : Value) → register s d expected ≡ e → e ≢ Nothing → register s d item ≡ v → v ≢ Nothing → same_value was e ≡ false → (outcome s d (Cas block i expected item)).state ≡ s
  lost_at e v expects full is some other = go e expects full other
    where
      f : Value → Label → Node → Value → Outcome
      f w m new held = written_where s m new (same_value held w)

      at_block : (w : Value) → at_field s i (block_in s d block) (register s d item) (f w) ≡ written_where s l (Plain tag (set fields i v)) (same_value was w)
      at_block w = (λ j. at_field s i (block_is s d block l (Plain tag fields) holds node j) (is j) (f w)) ∙ (takes_plain tag fields i v was at_i some).found s l (f w)

      refused : (w : Value) → same_value was w ≡ false → at_field s i (block_in s d block) (register s d item) (f w) ≡ written_where s l (Plain tag (set fields i v)) false
      refused w no_match = at_block w ∙ ap (written_where s l (Plain tag (set fields i v))) no_match

      go : (w : Value) → register s d expected ≡ w → w ≢ Nothing → same_value was w ≡ false → (outcome s d (Cas block i expected item)).state ≡ s
      go (Int a) e_is full2 no_match = ap (λ (o : Outcome). o.state) (ap (λ (w : Value). exchanged s i (block_in s d block) w (register s d item)) e_is ∙ refused (Int a) no_match)
      go (Block a) e_is full2 no_match = ap (λ (o : Outcome). o.state) (ap (λ (w : Value). exchanged s i (block_in s d block) w (register s d item)) e_is ∙ refused (Block a) no_match)
      go Nothing e_is full2 no_match = absurd (full2 refl)

-- so a block stays private that it had at hand
pub private_lost : (s : State) (d : ℕ) (l : Label) (c : Command) (item : ℕ) → register s d item ≢ Block l → (outcome s d c).state ≡ s → IsPrivate s d l → IsPrivate (next s (CommandOf d c false)) d l
private_lost s d l c item other same private = subst (λ (t : State). IsPrivate (after_command t d) d l) (sym same) (private_own d l s private Poll false item (λ j is. let clash : false ≡ true = is in cc) other)

module _ (z : Sizes) (limits : IsWithinLimits z) (root : Label) (d : ℕ) (first front : List Entry) (k l : Label) (v : Value) (now new : List Entry) (r : Reply) (i rest : ℕ) (s : Reply) (kr : ℕ) (p : PerformedBy z d now new (Cas 8 i 9 10) r) (respects : OthersRespect z root d now new)
    (map : IsMap (graph_of z now) root) (x : AtField z d first front now root k i rest s) (field : FieldBinds z front now x.v k) (leaf : OwnBlock z d now root 10 l (Ephe (Some k ∷ []) v)) (key : held_by z d now kr ≡ Block k) where
  abbrev c : Command
  c = Cas 8 i 9 10

  abbrev mid : List Entry
  mid = now ++ p.between

  abbrev entry : Entry
  entry = CommandOf d c p.full

  abbrev g : Graph
  g = graph_of z mid

  stay : MapStays z root front mid
  stay = stays_twice z root front now mid x.stays (stays_middle z root d now now new c r p respects (prefix_same now) map)

  moved : (at (inside g) x.p (Block root) ≡ Some (Block x.l)) × ((left : List Value) × (inside g (Block x.l) ≡ Some left))
  moved = stay.block x.p (Block x.l) x.fields x.there x.plain

  abbrev fields : List Value
  fields = moved.1.0

  node : (tag : ℕ) × (node_at g x.l ≡ Some (Plain tag fields))
  node = plain_node (node_at g x.l) fields moved.1.1

  below : i < length fields
  below = subst (λ (m : ℕ). i < m) (sym (stay.map.wide x.p (Block x.l) fields moved.0 moved.1.1)) x.narrow

  abbrev was : Value
  was = get_or fields i Nothing

  held_is : slice_get fields i ≡ Some was
  held_is = slice_get-get_or fields i Nothing below

  binds : FieldBinds z front mid x.v k
  binds = binds_along z root d now p.between p.others (respects_within z root d now new now mid (prefix_same now) (until_new z d now new c r p) respects) front (x.p ++ i ∷ []) x.v k x.until x.was field

  leaf_mid : OwnBlock z d mid root 10 l (Ephe (Some k ∷ []) v)
  leaf_mid = own_middle z d root now new c r p 10 l (Ephe (Some k ∷ []) v) (λ o. thin_held (WasUnreached z now mid) k v o (held_not_outside z d now p.between k kr p.others key)) leaf

  abbrev h : Graph
  h = with_node g x.l (Plain node.0 (set fields i (Block l)))

  took : ((same_value was x.v ≡ true) × ((graph_of z new ≡ h) × (registers_after z d new ≡ registers_after z d now) × (r ≡ reply.Yes)))
      ⊎ ((same_value was x.v ≡ false) × ((graph_of z new ≡ g) × (registers_after z d new ≡ registers_after z d now) × (r ≡ reply.No)))
  took = cas_step z d now new r 8 i 9 10 p x.l node.0 fields x.v (Block l) was x.held node.1 held_is x.holds (binds_some g k x.v binds.binds) leaf.held (λ e. cc)

  -- the leaf isn't the block
  not_block : x.l ≢ l
  not_block same = let clash : Some (Plain node.0 fields) ≡ Some (Ephe (Some k ∷ []) v) = sym node.1 ∙ (ap (node_at g) same ∙ leaf_mid.node) in cc

  -- where it is refused all is as it was
  pub publish_lost : (r ≡ reply.Yes → ⊥) → PublishLost z d first front now new root k i rest s x l v
  publish_lost other = ⊎_elim (λ won. absurd (other won.1.2))
      (λ lost.
      let on = reads_on z d root now new c r p respects map lost.1.0 in
      let grows = grows_by z d now new c r p in
      let keeps : (j : ℕ) → held_by z d new j ≡ held_by z d now j = same_held z d now new lost.1.1 in
      let eight : held_by z d mid 8 ≡ Block x.l = ap (λ (rs : List Value). get_or rs 8 Nothing) (registers_kept z d now new c r p) ∙ x.held in
      let nine : held_by z d mid 9 ≡ x.v = ap (λ (rs : List Value). get_or rs 9 Nothing) (registers_kept z d now new c r p) ∙ x.holds in
      let state : (outcome (state_of z mid) d c).state ≡ state_of z mid = lost_at (state_of z mid) d 8 i 9 10 x.l node.0 fields was eight node.1 held_is x.v (Block l) nine (binds_some g k x.v binds.binds) leaf_mid.held (λ e. cc) lost.0 in
      let private : IsPrivate (next (state_of z mid) (CommandOf d c false)) d l = private_lost (state_of z mid) d l c 8 (λ e. not_block (let both : Block x.l ≡ Block l = sym eight ∙ e in let same : x.l ≡ l = cc in same)) state leaf_mid.private in
      let none : p.full ≡ false = not_refused z d now new c r p refl in
      let here : state_of z new ≡ next (state_of z mid) (CommandOf d c false) = left_is z d now new c r p ∙ ap (λ b. next (state_of z mid) (CommandOf d c b)) none in record {
        on = record { looks = on.0; within = on.2 now; grows = grows; map = on.1 };
        at = (
          field_as z d first first front now new root k i rest s x (keeps 8) (keeps 9) x.since (prefix_trans front now new x.until grows) (stays_same z root front mid new lost.1.0 stay),
          refl,
        );
        leaf = own_kept z d root now new c r p 10 l (Ephe (Some k ∷ []) v) (Ephe (Some k ∷ []) v) leaf_mid (subst (λ (t : State). IsPrivate t d l) (sym here) private) (keeps 10) (ap (λ (m : Graph). node_at m l) lost.1.0 ∙ leaf_mid.node);
        keeps = keeps;
      })
      took

  -- where it is made the key is bound by the leaf, and no other binding changes
  module _ (same : same_value was x.v ≡ true) (graph : graph_of z new ≡ h) where
    is : (next (state_of z mid) entry).graph ≡ h
    is = next_is z d root now new c r p h graph

    binds_of : (j : Label) → bound_by g j (Block l) ≡ cond (same_label k j) (Some v) None
    binds_of j = ap (bound_in j) leaf_mid.node

    sets : Sets z.domains g (next (state_of z mid) entry).graph root k (Block l)
    sets = record {
      p = x.p;
      i = i;
      q = low_digits x.left rest;
      way = x.way;
      held = x.v;
      writes = record { block = x.l; tag = node.0; fields = fields; there = moved.0; node = node.1; below = below; was = value_same was x.v same; end = binds_end g k x.v binds.binds; now = is };
      leaf = ap fields_of leaf_mid.node;
      slot = inl (subst is_leaf (sym leaf_mid.node) tt);
      alive = λ m datum it dead. (let is_m : l ≡ m = cc in let clash : Some (Ephe (Some k ∷ []) v) ≡ Some (Ephe (None ∷ []) datum) = sym leaf_mid.node ∙ (ap (node_at g) is_m ∙ dead) in cc);
      mine = λ j other. (binds_other g k j x.v other binds.binds, binds_of j ∙ ap (λ (b : Bool). cond b (Some v) None) (same_label-false k j (λ e. other (sym e))));
    }

    law : (found z.domains (next (state_of z mid) entry).graph root k ≡ bound_by g k (Block l)) × ((j : Label) → j ≢ k → found z.domains (next (state_of z mid) entry).graph root j ≡ found z.domains g root j)
    law = set_binds z.domains g (next (state_of z mid) entry).graph root k (Block l) stay.map sets

    own : RespectsMap z root mid entry
    own = record { step = SetsKey k (Block l) sets; leaves = plain_spares z root mid entry x.l node.0 fields (Plain node.0 (set fields i (Block l))) node.1 is }

    published : Published z d now new root k l v
    unfolding sets
    published = record {
      map = map_by z d root now new c r p respects map own;
      grows = grows_by z d now new c r p;
      before = bound_after z root mid k;
      changes = changes_once z root d now new c r p own k (Some v)
          (ap (λ (m : Graph). found z.domains m root k) (graph_push z mid entry) ∙ (law.0 ∙ (binds_of k ∙ ap (λ (b : Bool). cond b (Some v) None) (same_label_refl k))))
          (λ j other. ap (λ (m : Graph). found z.domains m root j) (graph_push z mid entry) ∙ law.1 j other) (eq-eqb d d refl);
      within = λ base mine. within_by z d root now new c r p base (within_written (IsMadeBehind z d base) g (next (state_of z mid) entry).graph root x.p i x.v (Block l) sets.writes stay.map
          (map_stays z.domains root (state_of z mid) entry stay.map own.step) (ap fields_of leaf_mid.node) (λ m same. let both : l ≡ m = cc in subst (IsMadeBehind z d base) both mine));
      keeps = λ j. held_now j;
    }
      where
        held_now : (j : ℕ) → held_by z d new j ≡ held_by z d now j
        held_now = ⊎_elim (λ won. same_held z d now new won.1.1) (λ lost. same_held z d now new lost.1.1) took

  pub publish_won : r ≡ reply.Yes → Published z d now new root k l v
  publish_won won_it = ⊎_elim (λ won. published won.0 won.1.0) (λ lost. let clash : reply.No ≡ reply.Yes = sym lost.1.2 ∙ won_it in cc) took
