-- A whole map is cleaned, and the registers between are emptied.
use Rattle.std.proofs.Common.{◌≡◌, ⊎_elim, ℕ, ◌<◌, ◌≤◌, Bool, List, [], ◌∷◌, length, get_or, set, pos, Some, None, refl, ap, sym, ◌∙◌, arith}
use Rattle.model_core.specs.declared.label.Label.{Label}
use Rattle.model_core.specs.declared.command.Command.TheVariants.{PutInt}
use Rattle.model_core.specs.declared.entry.Entry.{Entry}
use Rattle.model_core.specs.declared.reply.Reply.{Reply}
use Rattle.model_core.specs.declared.graph.Value.TheVariants.{Int, Block, Nothing}
use Rattle.model_core.specs.declared.state.Sizes.{Sizes}
use Rattle.model_core.specs.Graph.{Graph, node_at}
use Rattle.model_core.specs.Domains.{IsWithinLimits}
use Rattle.model_core.specs.History.{IsPrefix}
use Rattle.weak_laws.specs.Tables.Stages.{graph_of}
use Rattle.weak_laws.specs.Maps.Tries.{at, inside, root_width, IsMap, IsInPlace}
use Rattle.weak_laws.specs.Maps.Steps.{OthersLeave}
use Rattle.weak_laws.specs.Maps.Calls.{CleanAnswers, HadKeys, IsTidy, PerformedBy, registers_after}
use Rattle.weak_laws.proofs.OfMaps.CallLemmas.{put_step}
use Rattle.weak_laws.proofs.OfMaps.FieldLemmas.{at_field}
use Rattle.weak_laws.proofs.OfMaps.FrontLemmas.{prefix_same, prefix_trans}
use Rattle.weak_laws.proofs.OfMaps.OwnLemmas.{keeps_twice}
use Rattle.weak_laws.proofs.OfMaps.WalkLemmas.{at_step}
use Rattle.weak_maps.specs.Beside.{held_by}
use Rattle.weak_maps.specs.Cleans.{AtBlock, BlockCleaned, CleanLeaves, CleansBlock, EmptiedHigh, LeftAlone}
use Rattle.weak_maps.proofs.BesideLemmas.{set_here, set_other, sixteen}
use Rattle.weak_laws.proofs.OfMaps.WithinLemmas.{within_earlier, within_twice}
use Rattle.weak_maps.proofs.CleanLemmas.{leaves_within, left_command, left_quiet}
use Rattle.weak_maps.proofs.CleanedLemmas.{beyond, less_or, nothing_there}
use Rattle.weak_maps.proofs.DescendLemmas.{leaf_none, still_leaf}
use Rattle.weak_maps.proofs.GetLemmas.{grows_by}
use Rattle.weak_maps.proofs.PlaceLemmas.{only_there}

module _ (z : Sizes) (limits : IsWithinLimits z) (d : ℕ) (old : List Entry) where
  -- the whole map
  pub map_cleaned : (root : Label) (n0 n1 new : List Entry) (r : Reply) (map : ℕ) (empty : Bool) → map < 8 → held_by z d old map ≡ Block root → IsMap (graph_of z old) root → IsInPlace z.domains (graph_of z old) root
      → PerformedBy z d old n0 (PutInt 15 (pos 0)) r → CleansBlock z d n0 n1 map 6 root_width empty → EmptiedHigh z d n1 new 16 → IsPrefix n0 n1 → IsPrefix n1 new → OthersLeave z root d old new → CleanAnswers z root d old new empty × CleanLeaves z d old new root
  map_cleaned root n0 n1 new r map empty small held is_map placed p cleans forgets g1 g2 leaves = (
    record {
      keeps = keeps_twice z root d old n0 new (prefix_trans n0 n1 new g1 g2) zeroed.cleans.keeps (keeps_twice z root d n0 n1 new g2 y.cleans.keeps after.cleans.keeps);
      tidy = tidy;
      live = live;
      fields = y.fields;
      plain = after.blocks [] (Block root) refl ∙ y.plain;
      holds = y.holds;
    },
    record {
      map = after.cleans.map;
      placed = after.cleans.placed;
      within = within_twice z root d old old n0 new (prefix_trans n0 n1 new g1 g2) zeroed.cleans.within
          (within_twice z root d old n0 n1 new g2 (within_earlier z root d old n0 n0 n1 g0 y.cleans.within) (within_earlier z root d old n1 n1 new (prefix_trans old n0 n1 g0 g1) after.cleans.within));
      clean = forgets.clean;
      registers = λ i few. forgets.low i few ∙ (y.low.0 i few ∙ others i few);
    },
  )
    where
      registers_are : registers_after z d n0 ≡ set (registers_after z d old) 15 (Int (pos 0))
      registers_are = (put_step z d old n0 r 15 (pos 0) p).1

      zeroed : LeftAlone z root d old n0
      zeroed = left_command z root d old n0 (PutInt 15 (pos 0)) r p (leaves_within z root d old new old n0 (prefix_same old) (prefix_trans n0 n1 new g1 g2) leaves) is_map placed (put_step z d old n0 r 15 (pos 0) p).0

      g0 : IsPrefix old n0
      g0 = grows_by z d old n0 (PutInt 15 (pos 0)) r p

      others : (i : ℕ) → i < 8 → held_by z d n0 i ≡ held_by z d old i
      others i few = set_other z d old n0 15 (Int (pos 0)) registers_are i (λ same. absurd (omega (arith, few, same)))

      start : AtBlock z d n0 root [] root map 6
      start = record {
        map = zeroed.cleans.map;
        placed = zeroed.cleans.placed;
        deep = refl;
        there = refl;
        fields = zeroed.cleans.map.own.0;
        plain = zeroed.cleans.map.own.1;
        held = others map small ∙ held;
        zero = set_here z d old n0 15 (Int (pos 0)) registers_are (sixteen z d old n0 (PutInt 15 (pos 0)) r p limits) (omega arith);
      }

      y : BlockCleaned z d n0 n1 root [] root 8 root_width empty
      y = cleans root [] root start (leaves_within z root d old new n0 n1 g0 g2 leaves)

      after : LeftAlone z root d n1 new
      after = left_quiet z root d n1 new g2 forgets.quiet (leaves_within z root d old new n1 new (prefix_trans old n0 n1 g0 g1) (prefix_same new) leaves) y.cleans.map y.cleans.placed

      g : Graph
      g = graph_of z n1

      none_beyond : (i : ℕ) → root_width ≤ i → get_or y.fields i Nothing ≡ Nothing
      none_beyond i far =
          let wide : length y.fields ≡ root_width = y.cleans.map.wide [] (Block root) y.fields refl y.plain in
          beyond y.fields i (omega (arith, far, wide))

      end_beyond : (i : ℕ) → root_width ≤ i → inside g (get_or y.fields i Nothing) ≡ None
      end_beyond i far = ap (inside g) (none_beyond i far)

      tidy : IsTidy (graph_of z new) root
      tidy i q u fields there plain =
          let at_then : at (inside g) (i ∷ q) (Block root) ≡ Some u = sym (after.places (i ∷ q)) ∙ there in
          let plain_then : inside g u ≡ Some fields = sym (after.blocks (i ∷ q) u at_then) ∙ plain in
          ⊎_elim (λ few. y.tidy i few q u fields at_then plain_then)
          (λ far.
          let end : at (inside g) (i ∷ []) (Block root) ≡ Some Nothing = at_field g [] (Block root) root y.fields i refl y.plain ∙ ap Some (none_beyond i far) in
          absurd (nothing_there g root (i ∷ []) q Nothing u fields end refl at_then plain_then))
          (less_or i root_width)

      live : HadKeys z root old new
      live [] l there leaf =
          let same : root ≡ l = cc in
          let clash : Some after.cleans.map.own.0 ≡ None = sym after.cleans.map.own.1 ∙ (ap (λ (m : Label). inside (graph_of z new) (Block m)) same ∙ leaf_none (node_at (graph_of z new) l) leaf) in cc
      live (i ∷ q) l there leaf =
          let at_then : at (inside g) (i ∷ q) (Block root) ≡ Some (Block l) = sym (after.places (i ∷ q)) ∙ there in
          let leaf_then = still_leaf g (graph_of z new) root (i ∷ q) l y.cleans.map at_then (after.blocks (i ∷ q) (Block l) at_then) leaf in
          ⊎_elim (λ few. zeroed.cleans.stood (i ∷ q) l (y.live i few q l at_then leaf_then))
          (λ far.
          let only = only_there g q (get_or y.fields i Nothing) l (end_beyond i far) (sym (at_step (inside g) i q (Block root) y.fields y.plain) ∙ at_then) in
          let clash : Nothing ≡ Block l = sym (none_beyond i far) ∙ only.1 in cc)
          (less_or i root_width)
