-- Room is made at a field: a leaf of another key goes one block deeper.
use Rattle.std.proofs.Common.{◌≡◌, ◌≢◌, ◌⊎◌, ⊎_elim, ℕ, ◌+◌, ◌<◌, true, false, eqb-true, List, [], ◌∷◌, ◌++◌, length, get_or, set, replicate, pos, Some, ap, sym, ◌∙◌, subst, arith, length-append}
use Rattle.std.proofs.lemmas.Option.{slice_get-get_or}
use Rattle.std.proofs.lemmas.List.{length-replicate}
use Rattle.model_core.specs.declared.label.Label.{Label}
use Rattle.model_core.specs.declared.command.Command.TheVariants.{Alloc, Cas, Store}
use Rattle.model_core.specs.declared.entry.Entry.{Entry}
use Rattle.model_core.specs.declared.entry.Entry.TheVariants.{Command as CommandOf}
use Rattle.model_core.specs.declared.reply.Reply.{Reply}
use Rattle.model_core.specs.declared.reply.Reply.TheVariants as reply
use Rattle.model_core.specs.declared.graph.Value.{Value}
use Rattle.model_core.specs.declared.graph.Value.TheVariants.{Int, Block, Nothing}
use Rattle.model_core.specs.declared.graph.Node.{Node}
use Rattle.model_core.specs.declared.graph.Node.TheVariants.{Plain, Ephe}
use Rattle.model_core.specs.declared.state.Sizes.{Sizes}
use Rattle.model_core.specs.Graph.{Graph, node_at, with_node}
use Rattle.model_core.specs.Domains.{IsWithinLimits}
use Rattle.model_core.specs.Commands.{same_value}
use Rattle.model_core.specs.Entries.{next}
use Rattle.model_core.specs.History.{IsPrefix}
use Rattle.model_core.proofs.Commands.FrameLemmas.{label_cases}
use Rattle.model_core.proofs.Graphs.GraphLemmas.{node_at-append_old, node_at-with_node_other, node_at-with_node_same}
use Rattle.weak_laws.specs.Tables.Thinning.{state_of}
use Rattle.weak_laws.specs.Tables.Stages.{graph_of}
use Rattle.weak_laws.specs.Maps.Tries.{at, inside, fields_of, found, node_width, way_length, way_to, IsMap}
use Rattle.weak_laws.specs.Maps.Steps.{AllRespect, Deepens, GoesDeeper, OthersLeave, OthersRespect, RespectsMap, WasUnreached}
use Rattle.weak_laws.specs.Maps.Calls.{PerformedBy, Looks, registers_after}
use Rattle.weak_laws.proofs.OfMaps.CallLemmas.{alloc_step, cas_step, made, store_step}
use Rattle.weak_laws.proofs.OfMaps.DeepenLemmas.{deepen_keeps}
use Rattle.weak_laws.proofs.OfMaps.FieldLemmas.{at_field}
use Rattle.weak_laws.proofs.OfMaps.FrontLemmas.{prefix_same, prefix_trans}
use Rattle.weak_laws.proofs.OfMaps.OwnLemmas.{apart_untouched, fresh_untouched, looks_once, plain_spares}
use Rattle.weak_laws.proofs.OfMaps.PrivateLemmas.{private_outside}
use Rattle.weak_laws.proofs.OfMaps.RespectLemmas.{graph_push, map_after, place_after, respect_both}
use Rattle.weak_laws.proofs.OfMaps.WalkLemmas.{set_same}
use Rattle.weak_laws.specs.Maps.Within.{IsMadeBehind, OwnWithin}
use Rattle.weak_laws.proofs.OfMaps.WithinLemmas.{within_deeper}
use Rattle.weak_maps.specs.Beside.{held_by}
use Rattle.weak_maps.specs.Fields.{AtField, MapStays}
use Rattle.weak_maps.specs.Guards.{Guards}
use Rattle.weak_maps.specs.Puts.{FieldBinds, GoesOn, IsBlockAt, OwnBlock, RoomMade, RoomRefused}
use Rattle.weak_maps.proofs.BesideLemmas.{same_held, set_here, set_other, sixteen, until_new}
use Rattle.weak_maps.proofs.CleanLemmas.{leaves_within}
use Rattle.weak_maps.proofs.DescendLemmas.{plain_node}
use Rattle.weak_maps.proofs.FreshLemmas.{held_not_outside, made_behind, makes_on, map_by, map_mid, next_is, not_held_before, own_born, own_middle, own_on, reads_on, thin_held, thin_plain, within_by, writes_on}
use Rattle.weak_maps.proofs.GetLemmas.{grows_by}
use Rattle.weak_maps.proofs.GuardLemmas.{guards_since, guards_twice}
use Rattle.weak_maps.proofs.PublishLemmas.{binds_all, binds_along, binds_end, binds_other, binds_some, same_itself, value_same}
use Rattle.weak_maps.proofs.PutLemmas.{goes_by}
use Rattle.weak_maps.proofs.StayLemmas.{respects_within, stays_middle, stays_twice}
use Rattle.weak_maps.proofs.StillLemmas.{still_between, still_untouched}

-- over a history whose entries respect a map its blocks stay
pub stays_all : (z : Sizes) (root : Label) (old new : List Entry) → IsPrefix old new → AllRespect z root old new → IsMap (graph_of z old) root → MapStays z root old new
stays_all z root old new grows all map = record { map = map_after z root old new grows all map; block = λ q u fields there plain. place_after z root old new grows all map q u fields there plain }

pub goes_all : (z : Sizes) (root : Label) (d : ℕ) (old new : List Entry) → OthersRespect z root d old new → GoesOn z root d old new → AllRespect z root old new
goes_all z root d old new others on = respect_both z root d old new others on.looks.respects

-- how long the part of a way is behind which two digits are left
pub two_left : (n : ℕ) (j : Label) (p : List ℕ) (i digit : ℕ) (q : List ℕ) → way_to n j ≡ p ++ i ∷ digit ∷ q → length p + 1 < way_length
two_left n j p i digit q way =
    let whole : way_length ≡ length (p ++ i ∷ digit ∷ q) = ap length way in
    let parts = length-append p (i ∷ digit ∷ q) in
    omega (arith, whole, parts)

-- the allocation is refused
pub room_refused : (z : Sizes) (root : Label) (d : ℕ) (old new : List Entry) (r : Reply) → PerformedBy z d old new (Alloc 11 0 32) r → r ≡ reply.Full → IsMap (graph_of z old) root → OthersRespect z root d old new → RoomRefused z d old new root
room_refused z root d old new r p full map respects = ⊎_elim
    (λ refused.
    let on = reads_on z d root old new (Alloc 11 0 32) r p respects map refused.1.0 in record {
      on = record { looks = on.0; within = on.2 old; grows = grows_by z d old new (Alloc 11 0 32) r p; map = on.1 };
      keeps = same_held z d old new refused.1.1;
    })
    (λ granted. let clash : reply.Block (made z d old new (Alloc 11 0 32) r p) ≡ reply.Full = sym granted.2.2 ∙ full in cc)
    (alloc_step z d old new r 11 0 32 p)

module _ (z : Sizes) (limits : IsWithinLimits z) (root : Label) (d : ℕ) (first front : List Entry) (k j l : Label) (v : Value) (now n0 : List Entry) (r0 : Reply) (i rest digit : ℕ) (s : Reply) (kr : ℕ) (few : kr < 8) (small : digit < node_width)
    (p0 : PerformedBy z d now n0 (Alloc 11 0 32) r0) (granted_it : r0 ≡ reply.Full → ⊥) (map : IsMap (graph_of z now) root)
    (x : AtField z d first front now root k i rest s) (field : FieldBinds z front now x.v j) (leaf : OwnBlock z d now root 10 l (Ephe (Some k ∷ []) v)) (key : held_by z d now kr ≡ Block k) (way : (q : List ℕ) × (way_to z.domains j ≡ x.p ++ i ∷ digit ∷ q)) (e0 : OthersRespect z root d now n0) where
  abbrev b : Label
  b = made z d now n0 (Alloc 11 0 32) r0 p0

  abbrev blank : Node
  blank = Plain 0 (replicate node_width (Int (pos 0)))

  abbrev filled : List Value
  filled = set (replicate node_width (Int (pos 0))) digit x.v

  abbrev mine : Node
  mine = Ephe (Some k ∷ []) v

  g0 : IsPrefix now n0
  g0 = grows_by z d now n0 (Alloc 11 0 32) r0 p0

  -- the leaf in the making is neither the block nor what the field held
  here : (at (inside (graph_of z now)) x.p (Block root) ≡ Some (Block x.l)) × ((left : List Value) × (inside (graph_of z now) (Block x.l) ≡ Some left))
  here = x.stays.block x.p (Block x.l) x.fields x.there x.plain

  not_block : x.l ≢ l
  not_block same =
      let n = plain_node (node_at (graph_of z now) x.l) here.1.0 here.1.1 in
      let clash : Some (Plain n.0 here.1.0) ≡ Some mine = sym n.1 ∙ (ap (node_at (graph_of z now)) same ∙ leaf.node) in cc

  not_eight : held_by z d now 8 ≢ Block l
  not_eight is = not_block (let both : Block x.l ≡ Block l = sym x.held ∙ is in let same : x.l ≡ l = cc in same)

  not_nine : x.v ≢ Block l
  not_nine is = leaf.never front (x.p ++ i ∷ []) x.until (x.was ∙ ap Some is) (field.leaf l is)

  -- the block is made
  abbrev Made : Type 0
  Made = GoesOn z root d now n0 × ((m : ℕ) → m ≢ 11 → held_by z d n0 m ≡ held_by z d now m) × OwnBlock z d n0 root 11 b blank × OwnBlock z d n0 root 10 l mine × IsMadeBehind z d now b

  pub first_made : Made
  first_made = ⊎_elim
      (λ refused. absurd (granted_it refused.1.2))
      (λ granted.
      let its = made_behind z d root now n0 (Alloc 11 0 32) r0 p0 now (prefix_same now) granted.1 in
      let on = makes_on z d root now n0 (Alloc 11 0 32) r0 p0 e0 map (b, blank) granted.2.0 in
      let keeps : (m : ℕ) → m ≢ 11 → held_by z d n0 m ≡ held_by z d now m = set_other z d now n0 11 (Block b) granted.2.1 in
      let leaf_mid = own_middle z d root now n0 (Alloc 11 0 32) r0 p0 10 l mine (λ o. thin_held (WasUnreached z now (now ++ p0.between)) k v o (held_not_outside z d now p0.between k kr p0.others key)) leaf in (
        record { looks = on.0; within = on.2 now its; grows = g0; map = on.1 },
        keeps,
        own_born z d root now n0 (Alloc 11 0 32) r0 p0 11 blank (λ m is. let clash : false ≡ true = is in cc) (map_mid z d root now n0 (Alloc 11 0 32) r0 p0 e0 map).own granted.1 granted.2.0
            (set_here z d now n0 11 (Block b) granted.2.1 (sixteen z d now n0 (Alloc 11 0 32) r0 p0 limits) (omega arith)),
        own_on z d root now n0 (Alloc 11 0 32) r0 p0 10 l mine mine 8 leaf_mid (λ m is. let clash : false ≡ true = is in cc) not_eight (keeps 10 (λ e. absurd (omega (arith, e))))
            (ap (λ (g : Graph). node_at g l) granted.2.0 ∙ node_at-append_old (graph_of z (now ++ p0.between)) (b, blank) l mine leaf_mid.node),
        its,
      ))
      (alloc_step z d now n0 r0 11 0 32 p0)

  key0 : held_by z d n0 kr ≡ Block k
  key0 = first_made.1 kr (λ e. absurd (omega (arith, few, e))) ∙ key

  nine0 : held_by z d n0 9 ≡ x.v
  nine0 = first_made.1 9 (λ e. absurd (omega (arith, e))) ∙ x.holds

  -- and gets the other leaf
  module _ (n1 : List Entry) (r1 : Reply) (p1 : PerformedBy z d n0 n1 (Store 11 digit 9) r1) (e1 : OthersRespect z root d n0 n1) where
    g1 : IsPrefix n0 n1
    g1 = grows_by z d n0 n1 (Store 11 digit 9) r1 p1

    abbrev Stored : Type 0
    Stored = GoesOn z root d now n1 × ((m : ℕ) → m ≢ 11 → held_by z d n1 m ≡ held_by z d now m) × OwnBlock z d n1 root 11 b (Plain 0 filled) × OwnBlock z d n1 root 10 l mine

    blank_then : OwnBlock z d (n0 ++ p1.between) root 11 b blank
    blank_then = own_middle z d root n0 n1 (Store 11 digit 9) r1 p1 11 b blank (thin_plain (WasUnreached z n0 (n0 ++ p1.between)) 0 (replicate node_width (Int (pos 0)))) first_made.2

    filled_now : (graph_of z n1 ≡ with_node (graph_of z (n0 ++ p1.between)) b (Plain 0 filled)) × (registers_after z d n1 ≡ registers_after z d n0)
    filled_now =
        let below : digit < length (replicate node_width (Int (pos 0))) = subst (λ (m : ℕ). digit < m) (sym (length-replicate node_width (Int (pos 0)))) small in
        let all = store_step z d n0 n1 r1 11 digit 9 p1 b 0 (replicate node_width (Int (pos 0))) x.v (get_or (replicate node_width (Int (pos 0))) digit Nothing) first_made.2.held blank_then.node (slice_get-get_or (replicate node_width (Int (pos 0))) digit Nothing below) nine0 (binds_some (graph_of z now) j x.v field.binds) in
        (all.0, all.1)

    pub stored : Stored
    stored =
        let mid : List Entry = n0 ++ p1.between in
        let inner = blank_then in
        let leaf_mid = own_middle z d root n0 n1 (Store 11 digit 9) r1 p1 10 l mine (λ o. thin_held (WasUnreached z n0 mid) k v o (held_not_outside z d n0 p1.between k kr p1.others key0)) first_made.3 in
        let all = filled_now in
        let on = writes_on z d root n0 n1 (Store 11 digit 9) r1 p1 e1 first_made.0.map 11 b blank (Plain 0 filled) inner all.0 in
        let keeps : (m : ℕ) → held_by z d n1 m ≡ held_by z d n0 m = same_held z d n0 n1 all.1 in
        let apart : l ≢ b = λ same. (let clash : Some mine ≡ Some blank = sym leaf_mid.node ∙ (ap (node_at (graph_of z mid)) same ∙ inner.node) in cc) in (
          goes_by z root d now n0 n1 (Store 11 digit 9) r1 p1 first_made.0 on.0 on.1 (on.2 now first_made.4),
          (λ m other. keeps m ∙ first_made.1 m other),
          own_on z d root n0 n1 (Store 11 digit 9) r1 p1 11 b blank (Plain 0 filled) 9 inner (λ m e. sym (eqb-true 9 m e))
              (λ e. not_held_before z d root now n0 (Alloc 11 0 32) r0 p0 9 (x.holds ∙ (sym nine0 ∙ e))) (keeps 11)
              (ap (λ (g : Graph). node_at g b) all.0 ∙ node_at-with_node_same (graph_of z mid) b (Plain 0 filled) blank inner.node),
          own_on z d root n0 n1 (Store 11 digit 9) r1 p1 10 l mine mine 9 leaf_mid (λ m e. sym (eqb-true 9 m e)) (λ e. not_nine (sym nine0 ∙ e)) (keeps 10)
              (ap (λ (g : Graph). node_at g l) all.0 ∙ (node_at-with_node_other (graph_of z mid) b l (Plain 0 filled) apart ∙ leaf_mid.node)),
        )

    -- up to the compare-and-set
    module _ (new : List Entry) (r2 : Reply) (p2 : PerformedBy z d n1 new (Cas 8 i 9 11) r2) (respects : OthersRespect z root d now new) where
      g2 : IsPrefix n1 new
      g2 = grows_by z d n1 new (Cas 8 i 9 11) r2 p2

      e01 : OthersRespect z root d now n1
      e01 = respects_within z root d now new now n1 (prefix_same now) g2 respects

      e2 : OthersRespect z root d n1 new
      e2 = respects_within z root d now new n1 new (prefix_trans now n0 n1 g0 g1) (prefix_same new) respects

      abbrev mid : List Entry
      mid = n1 ++ p2.between

      abbrev entry : Entry
      entry = CommandOf d (Cas 8 i 9 11) p2.full

      abbrev g : Graph
      g = graph_of z mid

      all_then : AllRespect z root now n1
      all_then = goes_all z root d now n1 e01 stored.0

      stay_then : MapStays z root front n1
      stay_then = stays_twice z root front now n1 x.stays (stays_all z root now n1 stored.0.grows all_then map)

      mid_map : IsMap g root
      mid_map = map_mid z d root n1 new (Cas 8 i 9 11) r2 p2 e2 stored.0.map

      moved_then : (at (inside (graph_of z n1)) x.p (Block root) ≡ Some (Block x.l)) × ((left : List Value) × (inside (graph_of z n1) (Block x.l) ≡ Some left))
      moved_then = stay_then.block x.p (Block x.l) x.fields x.there x.plain

      e2_mid : OthersRespect z root d n1 mid
      e2_mid = respects_within z root d n1 new n1 mid (prefix_same n1) (until_new z d n1 new (Cas 8 i 9 11) r2 p2) e2

      moved : (at (inside g) x.p (Block root) ≡ Some (Block x.l)) × ((left : List Value) × (inside g (Block x.l) ≡ Some left))
      moved = (stays_middle z root d n1 n1 new (Cas 8 i 9 11) r2 p2 e2 (prefix_same n1) stored.0.map).block x.p (Block x.l) moved_then.1.0 moved_then.0 moved_then.1.1

      abbrev fields : List Value
      fields = moved.1.0

      node : (tag : ℕ) × (node_at g x.l ≡ Some (Plain tag fields))
      node = plain_node (node_at g x.l) fields moved.1.1

      below_then : i < length fields
      below_then = subst (λ (m : ℕ). i < m) (sym (mid_map.wide x.p (Block x.l) fields moved.0 moved.1.1)) x.narrow

      abbrev was : Value
      was = get_or fields i Nothing

      binds : FieldBinds z front mid x.v j
      binds = binds_along z root d n1 p2.between p2.others e2_mid front (x.p ++ i ∷ []) x.v j (prefix_trans front now n1 x.until stored.0.grows) x.was
          (binds_all z root now n1 stored.0.grows all_then front (x.p ++ i ∷ []) x.v j x.until x.was field)

      inner : OwnBlock z d mid root 11 b (Plain 0 filled)
      inner = own_middle z d root n1 new (Cas 8 i 9 11) r2 p2 11 b (Plain 0 filled) (thin_plain (WasUnreached z n1 mid) 0 filled) stored.2

      leaf_then : OwnBlock z d mid root 10 l mine
      leaf_then = own_middle z d root n1 new (Cas 8 i 9 11) r2 p2 10 l mine (λ o. thin_held (WasUnreached z n1 mid) k v o (held_not_outside z d n1 p2.between k kr p2.others (stored.1 kr (λ e. absurd (omega (arith, few, e))) ∙ key))) stored.3

      abbrev h : Graph
      h = with_node g x.l (Plain node.0 (set fields i (Block b)))

      took : ((same_value was x.v ≡ true) × ((graph_of z new ≡ h) × (registers_after z d new ≡ registers_after z d n1) × (r2 ≡ reply.Yes)))
          ⊎ ((same_value was x.v ≡ false) × ((graph_of z new ≡ g) × (registers_after z d new ≡ registers_after z d n1) × (r2 ≡ reply.No)))
      took = cas_step z d n1 new r2 8 i 9 11 p2 x.l node.0 fields x.v (Block b) was (stored.1 8 (λ e. absurd (omega (arith, e))) ∙ x.held) node.1 (slice_get-get_or fields i Nothing below_then) (stored.1 9 (λ e. absurd (omega (arith, e))) ∙ x.holds)
          (binds_some g j x.v binds.binds) stored.2.held (λ e. cc)

      -- what is left behind it
      leaf_kept : ((m : ℕ) → held_by z d new m ≡ held_by z d n1 m) → node_at (graph_of z new) l ≡ Some mine → OwnBlock z d new root 10 l mine
      leaf_kept keeps is = own_on z d root n1 new (Cas 8 i 9 11) r2 p2 10 l mine mine 11 leaf_then (λ m e. sym (eqb-true 11 m e))
          (λ e. let both : Block b ≡ Block l = sym stored.2.held ∙ e in let same : b ≡ l = cc in let clash : Some (Plain 0 filled) ≡ Some mine = sym inner.node ∙ (ap (node_at g) same ∙ leaf_then.node) in cc) (keeps 10) is

      abbrev place : List ℕ
      place = x.p ++ i ∷ []

      abbrev GoesDown : Type 0
      GoesDown = at (inside (graph_of z now)) place (Block root) ≡ Some x.v → OthersLeave z root d now new → IsBlockAt z new root place

      leaves : (on : Looks z root d n1 new × IsMap (graph_of z new) root × ((first : List Entry) → IsMadeBehind z d first b → OwnWithin z root d first n1 new)) → ((m : ℕ) → held_by z d new m ≡ held_by z d n1 m) → node_at (graph_of z new) l ≡ Some mine → (MapStays z root front new → GoesDown) → RoomMade z d front now new root k l v place x.v
      leaves on keeps is deeper =
          let whole = goes_by z root d now n1 new (Cas 8 i 9 11) r2 p2 stored.0 on.0 on.1 (on.2 now first_made.4) in
          let stays = stays_twice z root front now new x.stays (stays_all z root now new whole.grows (goes_all z root d now new respects whole) map) in record {
            on = whole;
            stays = stays;
            leaf = leaf_kept keeps is;
            keeps = λ m2 other. keeps m2 ∙ stored.1 m2 other;
            deeper = deeper stays;
          }

      -- where no other domain uses the map, the field holds what it held
      still_was : at (inside (graph_of z now)) place (Block root) ≡ Some x.v → OthersLeave z root d now new → was ≡ x.v
      still_was held leave =
          let e_made = leaves_within z root d now new now (now ++ p0.between) (prefix_same now) (prefix_trans (now ++ p0.between) n0 new (until_new z d now n0 (Alloc 11 0 32) r0 p0) (prefix_trans n0 n1 new g1 g2)) leave in
          let e_stored = leaves_within z root d now new n0 (n0 ++ p1.between) g0 (prefix_trans (n0 ++ p1.between) n1 new (until_new z d n0 n1 (Store 11 digit 9) r1 p1) g2) leave in
          let e_cas = leaves_within z root d now new n1 mid (prefix_trans now n0 n1 g0 g1) (until_new z d n1 new (Cas 8 i 9 11) r2 p2) leave in
          let made_then = map_mid z d root now n0 (Alloc 11 0 32) r0 p0 e0 map in
          let stored_then = map_mid z d root n0 n1 (Store 11 digit 9) r1 p1 e1 first_made.0.map in
          let a = still_between z root d now p0.between p0.others e_made map place in
          let b1 : at (inside (graph_of z n0)) place (Block root) ≡ at (inside (graph_of z (now ++ p0.between))) place (Block root) = ⊎_elim
          (λ refused. absurd (granted_it refused.1.2))
          (λ granted. still_untouched (graph_of z (now ++ p0.between)) (graph_of z n0) root made_then (fresh_untouched (graph_of z (now ++ p0.between)) (graph_of z n0) root made_then (b, blank) granted.2.0) place)
          (alloc_step z d now n0 r0 11 0 32 p0) in
          let c = still_between z root d n0 p1.between p1.others e_stored first_made.0.map place in
          let d1 = still_untouched (graph_of z (n0 ++ p1.between)) (graph_of z n1) root stored_then
          (apart_untouched (graph_of z (n0 ++ p1.between)) (graph_of z n1) root b (Plain 0 filled) (private_outside z d b root (n0 ++ p1.between) blank_then.private blank_then.apart) filled_now.0) place in
          let e = still_between z root d n1 p2.between p2.others e_cas stored.0.map place in
          let there : at (inside g) place (Block root) ≡ Some was = at_field g x.p (Block root) x.l fields i moved.0 moved.1.1 in
          let both : Some was ≡ Some x.v = sym there ∙ (e ∙ (d1 ∙ (c ∙ (b1 ∙ (a ∙ held))))) in cc

      module _ (same : same_value was x.v ≡ true) (graph : graph_of z new ≡ h) where
        is : (next (state_of z mid) entry).graph ≡ h
        is = next_is z d root n1 new (Cas 8 i 9 11) r2 p2 h graph

        deepens : Deepens z.domains g (next (state_of z mid) entry).graph root
        deepens = record {
          p = x.p;
          i = i;
          j = digit;
          held = x.v;
          block = b;
          writes = record { block = x.l; tag = node.0; fields = fields; there = moved.0; node = node.1; below = below_then; was = value_same was x.v same; end = binds_end g j x.v binds.binds; now = is };
          inner = ap fields_of inner.node;
          small = small;
          low = two_left z.domains j x.p i digit way.0 way.1;
          fresh = private_outside z d b root mid inner.private inner.apart;
          next = λ m some. label_cases ((q : List ℕ) × (way_to z.domains m ≡ x.p ++ i ∷ digit ∷ q)) m j (λ e. (way.0, ap (way_to z.domains) e ∙ way.1)) (λ other. absurd (some (binds_other g j m x.v other binds.binds)));
        }

        own : RespectsMap z root mid entry
        own = record { step = GoesDeeper deepens; leaves = plain_spares z root mid entry x.l node.0 fields (Plain node.0 (set fields i (Block b))) node.1 is }

        deepened : Looks z root d n1 new × IsMap (graph_of z new) root × ((first : List Entry) → IsMadeBehind z d first b → OwnWithin z root d first n1 new)
        unfolding deepens
        deepened = (
          looks_once z root d n1 new (Cas 8 i 9 11) r2 p2 own (λ m. ap (λ (y : Graph). found z.domains y root m) (graph_push z mid entry) ∙ deepen_keeps z.domains g (next (state_of z mid) entry).graph root mid_map deepens m),
          map_by z d root n1 new (Cas 8 i 9 11) r2 p2 e2 stored.0.map own,
          (λ base its. within_by z d root n1 new (Cas 8 i 9 11) r2 p2 base (within_deeper (IsMadeBehind z d base) g (next (state_of z mid) entry).graph root z.domains deepens mid_map its)),
        )

      -- so the exchange is made, and the block stands there
      module _ (won : graph_of z new ≡ h) (stays : MapStays z root front new) where
        goes_down : IsBlockAt z new root place
        goes_down =
            let above : inside (graph_of z new) (Block x.l) ≡ Some (set fields i (Block b)) = ap (λ (y : Graph). inside y (Block x.l)) won ∙ ap fields_of (node_at-with_node_same g x.l (Plain node.0 (set fields i (Block b))) (Plain node.0 fields) node.1) in
            let apart : b ≢ x.l = λ same. private_outside z d b root mid inner.private inner.apart x.p (moved.0 ∙ ap (λ (m : Label). Some (Block m)) (sym same)) in (
              b,
              filled,
              at_field (graph_of z new) x.p (Block root) x.l (set fields i (Block b)) i (stays.block x.p (Block x.l) x.fields x.there x.plain).0 above ∙ ap Some (set_same fields i (Block b) Nothing below_then),
              ap (λ (y : Graph). inside y (Block b)) won ∙ ap fields_of (node_at-with_node_other g x.l b (Plain node.0 (set fields i (Block b))) apart ∙ inner.node),
            )

      goes_anyway : same_value was x.v ≡ false → GoesDown
      goes_anyway lost held leave =
          let same = still_was held leave in
          let clash : true ≡ false = sym (same_itself x.v (binds_some g j x.v binds.binds)) ∙ (ap (λ (w : Value). same_value w x.v) (sym same) ∙ lost) in cc

      pub room_made : RoomMade z d front now new root k l v place x.v
      room_made = ⊎_elim
          (λ won. leaves (deepened won.0 won.1.0) (same_held z d n1 new won.1.1)
          (ap (λ (y : Graph). node_at y l) won.1.0 ∙ (node_at-with_node_other g x.l l (Plain node.0 (set fields i (Block b))) (λ e. not_block (sym e)) ∙ leaf_then.node)) (λ stays held leave. goes_down won.1.0 stays))
          (λ lost. leaves (let on = reads_on z d root n1 new (Cas 8 i 9 11) r2 p2 e2 stored.0.map lost.1.0 in (on.0, on.1, (λ base its. on.2 base))) (same_held z d n1 new lost.1.1) (ap (λ (y : Graph). node_at y l) lost.1.0 ∙ leaf_then.node) (λ stays. goes_anyway lost.0))
          took

-- the three commands one after the other
module _ (z : Sizes) (limits : IsWithinLimits z) (root : Label) (d : ℕ) (first front : List Entry) (k j l : Label) (v : Value) (now n0 n1 new : List Entry) (r0 r1 r2 : Reply) (i rest digit : ℕ) (s : Reply) (kr : ℕ) (few : kr < 8) (small : digit < node_width)
    (p0 : PerformedBy z d now n0 (Alloc 11 0 32) r0) (p1 : PerformedBy z d n0 n1 (Store 11 digit 9) r1) (p2 : PerformedBy z d n1 new (Cas 8 i 9 11) r2) (granted_it : r0 ≡ reply.Full → ⊥) (map : IsMap (graph_of z now) root)
    (x : AtField z d first front now root k i rest s) (field : FieldBinds z front now x.v j) (leaf : OwnBlock z d now root 10 l (Ephe (Some k ∷ []) v)) (key : held_by z d now kr ≡ Block k) (way : (q : List ℕ) × (way_to z.domains j ≡ x.p ++ i ∷ digit ∷ q)) where
  w2 : IsPrefix n1 new
  w2 = grows_by z d n1 new (Cas 8 i 9 11) r2 p2

  w1 : IsPrefix n0 n1
  w1 = grows_by z d n0 n1 (Store 11 digit 9) r1 p1

  w0 : IsPrefix now n0
  w0 = grows_by z d now n0 (Alloc 11 0 32) r0 p0

  begun : OthersRespect z root d now n0 → GoesOn z root d now n0
  begun e = (first_made z limits root d first front k j l v now n0 r0 i rest digit s kr few small p0 granted_it map x field leaf key way e).0

  filled_in : OthersRespect z root d now n1 → GoesOn z root d now n1
  filled_in e =
      (stored z limits root d first front k j l v now n0 r0 i rest digit s kr few small p0 granted_it map x field leaf key way (respects_within z root d now n1 now n0 (prefix_same now) w1 e) n1 r1 p1 (respects_within z root d now n1 n0 n1 w0 (prefix_same n1) e)).0

  pub room_whole : OthersRespect z root d now new → RoomMade z d front now new root k l v (x.p ++ i ∷ []) x.v
  room_whole e =
      room_made z limits root d first front k j l v now n0 r0 i rest digit s kr few small p0 granted_it map x field leaf key way (respects_within z root d now new now n0 (prefix_same now) (prefix_trans n0 n1 new w1 w2) e) n1 r1 p1 (respects_within z root d now new n0 n1 w0 w2 e) new r2 p2 e

  -- each of them respects the map, if others did up to it
  pub room_guards : Guards z root d now now new
  room_guards =
      guards_twice z root d now now n0 new (prefix_trans n0 n1 new w1 w2) (guards_since z root d now now n0 (Alloc 11 0 32) r0 p0 (prefix_same now) (λ e. (begun e).looks.respects))
      (guards_twice z root d now n0 n1 new w2 (guards_since z root d now n0 n1 (Store 11 digit 9) r1 p1 w0 (λ e. (filled_in e).looks.respects))
      (guards_since z root d now n1 new (Cas 8 i 9 11) r2 p2 (prefix_trans now n0 n1 w0 w1) (λ e. (room_whole e).on.looks.respects)))
