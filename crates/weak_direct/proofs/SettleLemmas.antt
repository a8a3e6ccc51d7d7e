-- One try of a put, where it is over and where it stops.
use Rattle.std.proofs.Common.{◌≡◌, ℕ, ◌<◌, ◌%◌, ◌^◌, ◌++◌, ◌∷◌, List, Some, None, inl, inr, refl, ap, subst, ◌∙◌}
use Rattle.model_core.specs.declared.label.Label.{Label}
use Rattle.model_core.specs.declared.command.Command.TheVariants.{Alloc, Cas, Store}
use Rattle.model_core.specs.declared.entry.Entry.{Entry}
use Rattle.model_core.specs.declared.graph.Value.{Value}
use Rattle.model_core.specs.declared.graph.Value.TheVariants.{Block}
use Rattle.model_core.specs.declared.reply.Reply.{Reply}
use Rattle.model_core.specs.declared.reply.Reply.TheVariants as reply
use Rattle.model_core.specs.declared.state.Sizes.{Sizes}
use Rattle.model_core.specs.Domains.{IsWithinLimits, opening}
use Rattle.model_core.specs.History.{IsPrefix, Legal}
use Rattle.weak_laws.specs.Tables.Stages.{graph_of}
use Rattle.weak_laws.proofs.OfTables.StageLemmas.{prefix_trans}
use Rattle.weak_laws.proofs.OfTables.StepLemmas.{legal_parts}
use Rattle.weak_laws.specs.Maps.Tries.{IsInPlace, IsMap, node_width, number_of, way_to}
use Rattle.weak_laws.specs.Maps.Steps.{OthersRespect}
use Rattle.weak_laws.specs.Maps.Calls.{PerformedBy, PutsOrFull}
use Rattle.weak_laws.proofs.OfMaps.OwnLemmas.{changes_before, changes_behind}
use Rattle.weak_laws.proofs.OfMaps.WithinLemmas.{within_twice}
use Rattle.weak_maps.specs.Beside.{held_by}
use Rattle.weak_maps.specs.Guards.{Guards}
use Rattle.weak_maps.specs.Puts.{Arrived, GoesOn, Published, PublishLost, rest_of}
use Rattle.weak_maps.specs.Walks.{OwnQuiet}
use Rattle.weak_maps.proofs.BesideLemmas.{low_beside}
use Rattle.weak_maps.proofs.DescendLemmas.{below_width}
use Rattle.weak_maps.proofs.GetLemmas.{grows_by}
use Rattle.weak_maps.proofs.GuardLemmas.{guards_by, guards_quiet, guards_since, guards_twice}
use Rattle.weak_maps.proofs.PublishLemmas.{publish_lost, publish_won}
use Rattle.weak_maps.proofs.PutLemmas.{goes_twice}
use Rattle.weak_maps.proofs.RoomLemmas.{first_made, room_refused, room_whole, stored}
use Rattle.weak_maps.proofs.SettleLemmas.{key_label, other_label}
use Rattle.weak_maps.proofs.StayLemmas.{looking_from, prefix_same, quiet_looks, respects_within, within_quiet}
use Rattle.weak_maps.proofs.TryLemmas.{put_digit}
use Rattle.weak_direct.specs.Leaves.{TakeLeaves}
use Rattle.weak_direct.specs.Tries.{KeepsBeside}
use Rattle.weak_direct.proofs.LookLemmas.{looking_over}
use Rattle.weak_direct.proofs.PutLemmas.{goes_over}

-- a history is legal where it goes on legally
legal_before : (z : Sizes) (now new : List Entry) → IsPrefix now new → Legal z new → Legal z now
legal_before z now new x legal = (legal_parts (opening z) now x.rest (subst (Legal z) x.appends legal)).0

-- the leaf in the way was stored where its key's way goes on, in the block for room
pub stored_at : (z : Sizes) (d : ℕ) (a b : List Entry) (r : Reply) (j : Label) (level domains number rest digit : ℕ) → domains ≡ z.domains → number ≡ number_of domains j → rest ≡ rest_of number level → digit ≡ rest % node_width
    → PerformedBy z d a b (Store 11 digit 9) r → PerformedBy z d a b (Store 11 (rest_of (number_of z.domains j) level % node_width) 9) r
stored_at z d a b r j level domains number rest digit domains_is number_is rest_is digit_is p =
    subst (λ (n : ℕ). PerformedBy z d a b (Store 11 n 9) r) (digit_is ∙ ap (λ (n : ℕ). n % node_width) (rest_is ∙ ap (λ (n : ℕ). rest_of n level) (number_is ∙ ap (λ (n : ℕ). number_of n j) domains_is))) p

module _ (z : Sizes) (limits : IsWithinLimits z) (root : Label) (d : ℕ) (old now : List Entry) (k : Label) (v : Value) (kr : ℕ) (few : kr < 8) (key : held_by z d old kr ≡ Block k) (i rest level : ℕ) where
  -- the exchange by which the leaf is published
  module _ (t : Arrived z d old now root k v i rest level None) (n1 : List Entry) (r : Reply) (p : PerformedBy z d now n1 (Cas 8 i 9 10) r) where
    g1 : IsPrefix now n1
    g1 = grows_by z d now n1 (Cas 8 i 9 10) r p

    later : OthersRespect z root d old n1 → OthersRespect z root d now n1
    later e = respects_within z root d old n1 now n1 t.on.grows (prefix_same n1) e

    won : r ≡ reply.Yes → OthersRespect z root d now n1 → Published z d now n1 root k t.l v
    won is e = publish_won z limits root d t.first t.found.front k t.l v now n1 r i rest t.found.shows kr p e t.on.map t.found.field t.found.binds t.leaf (t.keeps kr (low_beside kr few) ∙ key) is

    lost : (r ≡ reply.Yes → ⊥) → OthersRespect z root d now n1 → PublishLost z d t.first t.found.front now n1 root k i rest t.found.shows t.found.field t.l v
    lost other e = publish_lost z limits root d t.first t.found.front k t.l v now n1 r i rest t.found.shows kr p e t.on.map t.found.field t.found.binds t.leaf (t.keeps kr (low_beside kr few) ∙ key) other

    pub lost_goes : (r ≡ reply.Yes → ⊥) → OthersRespect z root d old n1 → GoesOn z root d old n1
    lost_goes other e = goes_twice z root d old now n1 t.on (lost other (later e)).on

    pub lost_guards : (r ≡ reply.Yes → ⊥) → Guards z root d old now n1
    lost_guards other = guards_by z root d old now n1 (Cas 8 i 9 10) r p (λ e. (lost other (later e)).on.looks.respects)

    pub won_guards : r ≡ reply.Yes → (new : List Entry) → IsPrefix n1 new → OwnQuiet z d n1 new → Guards z root d old now new
    won_guards is new grows quiet = guards_twice z root d old now n1 new grows (guards_by z root d old now n1 (Cas 8 i 9 10) r p (λ e. (won is (later e)).changes.respects)) (guards_quiet z root d old n1 new quiet)

    pub won_settles : r ≡ reply.Yes → (new : List Entry) → IsPrefix n1 new → OwnQuiet z d n1 new → KeepsBeside z d now new → OthersRespect z root d old new → PutsOrFull z root d old new k v reply.Done × TakeLeaves z d old new root
    won_settles is new grows quiet keeps respects =
        let x = won is (respects_within z root d old new now n1 t.on.grows grows respects) in
        let tail = respects_within z root d old new n1 new (prefix_trans old now n1 t.on.grows g1) (prefix_same new) respects in
        let looking = looking_over z root d n1 n1 new grows quiet tail (looking_from z root d n1 x.map) in (
          inl (refl, (x.before, changes_before z root d old n1 new k x.before (Some v) grows (changes_behind z root d old now n1 k x.before (Some v) t.on.grows t.on.looks x.grows x.changes) (quiet_looks z root d n1 new looking.quiet))),
          record { map = looking.map; within = within_twice z root d old old n1 new grows (within_twice z root d old old now n1 x.grows t.on.within (x.within old t.made)) (within_quiet z root d old n1 new looking.quiet); keeps = λ j beside. keeps j beside ∙ t.keeps j beside },
        )

  -- the block for room
  module _ (j : Label) (serial_k : k.serial < 2 ^ 32) (serial_j : j.serial < 2 ^ 32) (map : IsMap (graph_of z old) root) (placed : IsInPlace z.domains (graph_of z old) root) (t : Arrived z d old now root k v i rest level (Some j))
      (n0 : List Entry) (r0 : Reply) (p0 : PerformedBy z d now n0 (Alloc 11 0 32) r0) where
    g0 : IsPrefix now n0
    g0 = grows_by z d now n0 (Alloc 11 0 32) r0 p0

    legal : Legal z now
    legal = legal_before z now n0 g0 p0.legal

    abbrev pub digit : ℕ
    digit = rest_of (number_of z.domains j) level % node_width

    way : OthersRespect z root d old now → (q : List ℕ) × (way_to z.domains j ≡ t.found.field.p ++ i ∷ digit ∷ q)
    way before = put_digit z limits root d old k v kr few key now i rest level (Some j) t map placed before j refl (key_label z limits root d old now k v kr few key legal i rest level (Some j) t serial_k) (other_label z limits root d old now k v kr few key legal i rest level j t serial_j)

    held : held_by z d now kr ≡ Block k
    held = t.keeps kr (low_beside kr few) ∙ key

    -- which is refused
    refused : r0 ≡ reply.Full → OthersRespect z root d old n0 → GoesOn z root d old n0
    refused full e = goes_twice z root d old now n0 t.on (room_refused z root d now n0 r0 p0 full t.on.map (respects_within z root d old n0 now n0 t.on.grows (prefix_same n0) e)).on

    pub full_guards : r0 ≡ reply.Full → (new : List Entry) → IsPrefix n0 new → OwnQuiet z d n0 new → Guards z root d old now new
    full_guards full new grows quiet = guards_twice z root d old now n0 new grows (guards_since z root d old now n0 (Alloc 11 0 32) r0 p0 t.on.grows (λ e. (refused full e).looks.respects)) (guards_quiet z root d old n0 new quiet)

    pub full_settles : r0 ≡ reply.Full → (new : List Entry) → IsPrefix n0 new → OwnQuiet z d n0 new → KeepsBeside z d now new → OthersRespect z root d old new → PutsOrFull z root d old new k v reply.Full × TakeLeaves z d old new root
    full_settles full new grows quiet keeps respects =
        let x = goes_over z root d old n0 new (refused full (respects_within z root d old new old n0 (prefix_same old) grows respects)) grows quiet respects in
        (inr (refl, x.looks), record { map = x.map; within = x.within; keeps = λ m beside. keeps m beside ∙ t.keeps m beside })

    module _ (other : r0 ≡ reply.Full → ⊥) where
      begun : OthersRespect z root d old n0 → GoesOn z root d old n0
      begun e = goes_twice z root d old now n0 t.on
          (first_made z limits root d t.first t.found.front k j t.l v now n0 r0 i rest digit t.found.shows kr few (below_width (rest_of (number_of z.domains j) level)) p0 other t.on.map t.found.field t.found.binds t.leaf held
          (way (respects_within z root d old n0 old now (prefix_same old) g0 e)) (respects_within z root d old n0 now n0 t.on.grows (prefix_same n0) e)).0

      begun_guards : Guards z root d old now n0
      begun_guards = guards_since z root d old now n0 (Alloc 11 0 32) r0 p0 t.on.grows (λ e. (begun e).looks.respects)

      pub begun_stops : (new : List Entry) → IsPrefix n0 new → OwnQuiet z d n0 new → OthersRespect z root d old new → GoesOn z root d old new
      begun_stops new grows quiet respects = goes_over z root d old n0 new (begun (respects_within z root d old new old n0 (prefix_same old) grows respects)) grows quiet respects

      pub begun_guarded : (new : List Entry) → IsPrefix n0 new → OwnQuiet z d n0 new → Guards z root d old now new
      begun_guarded new grows quiet = guards_twice z root d old now n0 new grows begun_guards (guards_quiet z root d old n0 new quiet)

      module _ (n1 : List Entry) (r1 : Reply) (p1 : PerformedBy z d n0 n1 (Store 11 digit 9) r1) where
        h1 : IsPrefix n0 n1
        h1 = grows_by z d n0 n1 (Store 11 digit 9) r1 p1

        whole1 : IsPrefix now n1
        whole1 = prefix_trans now n0 n1 g0 h1

        filled : OthersRespect z root d old n1 → GoesOn z root d old n1
        filled e = goes_twice z root d old now n1 t.on
            (stored z limits root d t.first t.found.front k j t.l v now n0 r0 i rest digit t.found.shows kr few (below_width (rest_of (number_of z.domains j) level)) p0 other t.on.map t.found.field t.found.binds t.leaf held
            (way (respects_within z root d old n1 old now (prefix_same old) whole1 e)) (respects_within z root d old n1 now n0 t.on.grows h1 e)
            n1 r1 p1 (respects_within z root d old n1 n0 n1 (prefix_trans old now n0 t.on.grows g0) (prefix_same n1) e)).0

        filled_guards : Guards z root d old now n1
        filled_guards = guards_twice z root d old now n0 n1 h1 begun_guards (guards_since z root d old n0 n1 (Store 11 digit 9) r1 p1 (prefix_trans old now n0 t.on.grows g0) (λ e. (filled e).looks.respects))

        pub filled_stops : (new : List Entry) → IsPrefix n1 new → OwnQuiet z d n1 new → OthersRespect z root d old new → GoesOn z root d old new
        filled_stops new grows quiet respects = goes_over z root d old n1 new (filled (respects_within z root d old new old n1 (prefix_same old) grows respects)) grows quiet respects

        pub filled_guarded : (new : List Entry) → IsPrefix n1 new → OwnQuiet z d n1 new → Guards z root d old now new
        filled_guarded new grows quiet = guards_twice z root d old now n1 new grows filled_guards (guards_quiet z root d old n1 new quiet)

        module _ (n2 : List Entry) (r2 : Reply) (p2 : PerformedBy z d n1 n2 (Cas 8 i 9 11) r2) where
          g2 : IsPrefix n1 n2
          g2 = grows_by z d n1 n2 (Cas 8 i 9 11) r2 p2

          pub room_goes : OthersRespect z root d old n2 → GoesOn z root d old n2
          room_goes e = goes_twice z root d old now n2 t.on
              (room_whole z limits root d t.first t.found.front k j t.l v now n0 n1 n2 r0 r1 r2 i rest digit t.found.shows kr few (below_width (rest_of (number_of z.domains j) level)) p0 p1 p2 other t.on.map t.found.field t.found.binds t.leaf held
              (way (respects_within z root d old n2 old now (prefix_same old) (prefix_trans now n1 n2 whole1 g2) e)) (respects_within z root d old n2 now n2 t.on.grows (prefix_same n2) e)).on

          pub room_guarded : Guards z root d old now n2
          room_guarded = guards_twice z root d old now n1 n2 g2 filled_guards (guards_since z root d old n1 n2 (Cas 8 i 9 11) r2 p2 (prefix_trans old now n1 t.on.grows whole1) (λ e. (room_goes e).looks.respects))
