use Rattle.std.proofs.Common.{◌≡◌, List, length}
use Rattle.model_core.specs.declared.entry.Entry.{Entry}
use Rattle.model_core.specs.declared.label.Label.{Label}
use Rattle.model_core.specs.declared.graph.Value.{Value}
use Rattle.weak_cache.specs.Caches.{OthersSpare}
use Rattle.weak_cache.specs.Passes.{KeepsBeside, Moving}
use Rattle.weak_maps.specs.Frames.{Leaves}
use Rattle.weak_cache.proofs.cache.put_first.Given as goal

abbrev pub invariant-slots : goal.invariant-slots
invariant-slots g l = record {
  leaves : Leaves g.M.Machine.sizes g.M.Machine.domain g.M.Machine.heap g.M.Machine.front g.M.Machine.labels_left g.M.Machine.ephes_room l.fn.m l.m;
  walk : (first : List Entry) (c b : Label) (v : Value) (fs : List Value) → OthersSpare (g.M.Machine.sizes l.fn.m) c (g.M.Machine.domain l.fn.m) first (g.M.Machine.front l.m) → length fs ≡ l.size → Moving (g.M.Machine.sizes l.fn.m) (g.M.Machine.domain l.fn.m) first (g.M.Machine.front l.fn.m) c l.label b v fs 0
      → Moving (g.M.Machine.sizes l.fn.m) (g.M.Machine.domain l.fn.m) first (g.M.Machine.front l.m) c l.label b v fs l.index × KeepsBeside (g.M.Machine.sizes l.fn.m) (g.M.Machine.domain l.fn.m) (g.M.Machine.front l.fn.m) (g.M.Machine.front l.m);
}
