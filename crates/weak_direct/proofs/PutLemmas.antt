-- What a put has done where it stops.
use Rattle.std.proofs.Common.{◌≡◌, ◌≢◌, ℕ, ◌<◌, List}
use Rattle.model_core.specs.declared.label.Label.{Label}
use Rattle.model_core.specs.declared.command.Command.TheVariants.{Ephe, SetData}
use Rattle.model_core.specs.declared.entry.Entry.{Entry}
use Rattle.model_core.specs.declared.graph.Value.TheVariants.{Nothing}
use Rattle.model_core.specs.declared.reply.Reply.{Reply}
use Rattle.model_core.specs.declared.reply.Reply.TheVariants as reply
use Rattle.model_core.specs.declared.state.Sizes.{Sizes}
use Rattle.model_core.specs.Domains.{IsWithinLimits}
use Rattle.model_core.specs.History.{IsPrefix}
use Rattle.weak_laws.specs.Tables.Stages.{graph_of}
use Rattle.weak_laws.proofs.OfTables.StageLemmas.{prefix_trans}
use Rattle.weak_laws.specs.Maps.Tries.{IsMap}
use Rattle.weak_laws.specs.Maps.Steps.{OthersRespect}
use Rattle.weak_laws.specs.Maps.Calls.{PerformedBy}
use Rattle.weak_maps.specs.Beside.{held_by}
use Rattle.weak_maps.specs.Guards.{Guards}
use Rattle.weak_maps.specs.Puts.{GoesOn}
use Rattle.weak_maps.specs.Walks.{OwnQuiet}
use Rattle.weak_maps.proofs.GetLemmas.{grows_by}
use Rattle.weak_maps.proofs.GuardLemmas.{guards_quiet, guards_since, guards_twice}
use Rattle.weak_maps.proofs.PutLemmas.{goes_twice, leaf_begun, leaf_filled}
use Rattle.weak_maps.proofs.StayLemmas.{looking_from, prefix_same, quiet_looks, respects_within, within_quiet}
use Rattle.weak_direct.specs.Leaves.{StopLeaves}
use Rattle.weak_direct.proofs.LookLemmas.{looking_over}

-- a stretch that changes no block
pub goes_quiet : (z : Sizes) (root : Label) (d : ℕ) (old new : List Entry) → IsMap (graph_of z old) root → IsPrefix old new → OwnQuiet z d old new → OthersRespect z root d old new → GoesOn z root d old new
goes_quiet z root d old new map grows quiet respects = record {
  looks = quiet_looks z root d old new quiet;
  within = within_quiet z root d old old new quiet;
  grows = grows;
  map = (looking_over z root d old old new grows quiet respects (looking_from z root d old map)).map;
}

pub goes_over : (z : Sizes) (root : Label) (d : ℕ) (old now new : List Entry) → GoesOn z root d old now → IsPrefix now new → OwnQuiet z d now new → OthersRespect z root d old new → GoesOn z root d old new
goes_over z root d old now new on grows quiet respects = goes_twice z root d old now new on (goes_quiet z root d now new on.map grows quiet (respects_within z root d old new now new on.grows (prefix_same new) respects))

-- what a call that only went on leaves where it stops
pub goes_stops : (z : Sizes) (root : Label) (d : ℕ) (old new : List Entry) → GoesOn z root d old new → StopLeaves z d old new root
goes_stops z root d old new on = record { keeps = on.looks.keeps; within = on.within }

-- a leaf in the making: its ephemeron, and its datum
module _ (z : Sizes) (limits : IsWithinLimits z) (root : Label) (d : ℕ) (old n0 : List Entry) (r0 : Reply) (map : IsMap (graph_of z old) root) (p0 : PerformedBy z d old n0 (Ephe 10 1) r0) (other : r0 ≡ reply.Full → ⊥) where
  begun : OthersRespect z root d old n0 → GoesOn z root d old n0
  begun e = (leaf_begun z limits root d old n0 r0 map p0 other e).0

  pub begun_stops : (new : List Entry) → IsPrefix n0 new → OwnQuiet z d n0 new → OthersRespect z root d old new → GoesOn z root d old new
  begun_stops new grows quiet respects = goes_over z root d old n0 new (begun (respects_within z root d old new old n0 (prefix_same old) grows respects)) grows quiet respects

  begun_guards : Guards z root d old old n0
  begun_guards = guards_since z root d old old n0 (Ephe 10 1) r0 p0 (prefix_same old) (λ e. (begun e).looks.respects)

  pub begun_guarded : (new : List Entry) → IsPrefix n0 new → OwnQuiet z d n0 new → Guards z root d old old new
  begun_guarded new grows quiet = guards_twice z root d old old n0 new grows begun_guards (guards_quiet z root d old n0 new quiet)

  module _ (n1 : List Entry) (r1 : Reply) (item : ℕ) (few_item : item < 8) (some : held_by z d old item ≢ Nothing) (p1 : PerformedBy z d n0 n1 (SetData 10 item) r1) where
    g0 : IsPrefix old n0
    g0 = grows_by z d old n0 (Ephe 10 1) r0 p0

    g1 : IsPrefix n0 n1
    g1 = grows_by z d n0 n1 (SetData 10 item) r1 p1

    filled : OthersRespect z root d old n1 → GoesOn z root d old n1
    filled e = (leaf_filled z limits root d old n0 r0 map p0 other (respects_within z root d old n1 old n0 (prefix_same old) g1 e) n1 r1 item few_item some p1 (respects_within z root d old n1 n0 n1 g0 (prefix_same n1) e)).0

    pub filled_stops : (new : List Entry) → IsPrefix n1 new → OwnQuiet z d n1 new → OthersRespect z root d old new → GoesOn z root d old new
    filled_stops new grows quiet respects = goes_over z root d old n1 new (filled (respects_within z root d old new old n1 (prefix_same old) grows respects)) grows quiet respects

    pub filled_guarded : (new : List Entry) → IsPrefix n1 new → OwnQuiet z d n1 new → Guards z root d old old new
    filled_guarded new grows quiet =
        guards_twice z root d old old n0 new (prefix_trans n0 n1 new g1 grows) begun_guards
        (guards_twice z root d old n0 n1 new grows (guards_since z root d old n0 n1 (SetData 10 item) r1 p1 g0 (λ e. (filled e).looks.respects)) (guards_quiet z root d old n1 new quiet))
