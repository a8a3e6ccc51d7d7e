-- What the make of a map leaves, whether it is made or put off.
use Rattle.std.proofs.Common.{◌≡◌, ℕ, ◌+◌, ◌<◌, List, Option, Some, None, arith}
use Rattle.std.specs.Option.{IfSome}
use Rattle.model_core.specs.declared.command.Command.TheVariants.{Alloc}
use Rattle.model_core.specs.declared.entry.Entry.{Entry}
use Rattle.model_core.specs.declared.reply.Reply.{Reply}
use Rattle.model_core.specs.declared.state.Sizes.{Sizes}
use Rattle.model_core.specs.Domains.{IsWithinLimits}
use Rattle.model_core.specs.Fronts.{IsFrontOf}
use Rattle.model_core.specs.History.{IsPrefix}
use Rattle.weak_laws.specs.Tables.Performing.{full_of, is_spared}
use Rattle.weak_maps.specs.Beside.{Refuses, Writes}
use Rattle.weak_maps.specs.Returns.{MakeReturns}
use Rattle.weak_maps.proofs.CountLemmas.{gives_one, refuses_one, writes_one}
use Rattle.weak_maps.proofs.GetLemmas.{grows_by}
use Rattle.weak_maps.proofs.MakeLemmas.{made_map}
use Rattle.weak_direct.specs.Frames.{MakesMap, PutsOff}
use Rattle.weak_direct.specs.Tries.{TriedBy, labels_by}

module _ {M : Type 0} (z : M → Sizes) (d : M → ℕ) (front : M → List Entry) (labels_left : M → ℕ) (old new : M) (dst : ℕ) where
  pub map_made : IsWithinLimits (z old) → dst < 8 → (o : Option Reply) → TriedBy (z old) (d old) (front old) (front new) (Alloc dst 0 512) o → labels_left old ≡ labels_left new + labels_by (Alloc dst 0 512) o → IfSome o (MakesMap z d front labels_left old new dst)
  map_made limits few None f same = tt
  map_made limits few (Some r) p same = record {
    labels = (let gives = gives_one (z old) (d old) (front old) (front new) (Alloc dst 0 512) r p in omega (arith, same, gives));
    refused = refuses_one (z old) (d old) (front old) (front new) (Alloc dst 0 512) r p;
    written = writes_one (z old) (d old) (front old) (front new) (Alloc dst 0 512) r p;
    made = made_map (z old) limits (d old) (front old) (front new) r dst few p;
  }

  pub map_off : (o : Option Reply) → TriedBy (z old) (d old) (front old) (front new) (Alloc dst 0 512) o → labels_left old ≡ labels_left new + labels_by (Alloc dst 0 512) o → o ≡ None → PutsOff d front labels_left old new
  map_off None f same none = record { left = omega (arith, same); front_is = f }
  map_off (Some r) p same none = cc
