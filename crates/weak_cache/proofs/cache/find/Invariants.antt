use Rattle.std.proofs.Common.{◌≡◌, List, length}
use Rattle.model_core.specs.declared.entry.Entry.{Entry}
use Rattle.model_core.specs.declared.label.Label.{Label}
use Rattle.model_core.specs.declared.graph.Value.{Value}
use Rattle.weak_cache.specs.Caches.{OthersSpare}
use Rattle.weak_cache.specs.Passes.{Finding, KeepsBeside}
use Rattle.weak_maps.specs.Frames.{Leaves}
use Rattle.weak_cache.proofs.cache.find.Given as goal

abbrev pub invariant-slots : goal.invariant-slots
invariant-slots g l = record {
  leaves : Leaves g.M.Machine.sizes g.M.Machine.domain g.M.Machine.heap g.M.Machine.front g.M.Machine.labels_left g.M.Machine.ephes_room l.fn.m l.m;
  walk : (first : List Entry) (c : Label) (fs : List Value) → OthersSpare (g.M.Machine.sizes l.fn.m) c (g.M.Machine.domain l.fn.m) first (g.M.Machine.front l.m) → length fs ≡ l.size → Finding (g.M.Machine.sizes l.fn.m) (g.M.Machine.domain l.fn.m) first (g.M.Machine.front l.fn.m) c l.label fs 0
      → Finding (g.M.Machine.sizes l.fn.m) (g.M.Machine.domain l.fn.m) first (g.M.Machine.front l.m) c l.label fs l.index × KeepsBeside (g.M.Machine.sizes l.fn.m) (g.M.Machine.domain l.fn.m) (g.M.Machine.front l.fn.m) (g.M.Machine.front l.m);
}
