use Rattle.std.proofs.Common.{◌≡◌, List, length}
use Rattle.model_core.specs.declared.entry.Entry.{Entry}
use Rattle.model_core.specs.declared.label.Label.{Label}
use Rattle.model_core.specs.declared.graph.Value.{Value}
use Rattle.weak_cache.specs.Caches.{OthersSpare}
use Rattle.weak_cache.specs.Passes.{Keeping, KeepsBeside, drawn}
use Rattle.weak_maps.specs.Frames.{Leaves}
use Rattle.weak_cache.proofs.cache.draw_behind.Given as goal

abbrev pub invariant-behind : goal.invariant-behind
invariant-behind g l = record {
  leaves : Leaves g.M.Machine.sizes g.M.Machine.domain g.M.Machine.heap g.M.Machine.front g.M.Machine.labels_left g.M.Machine.ephes_room l.fn.m l.m;
  walk : (first : List Entry) (c k : Label) (fs : List Value) → OthersSpare (g.M.Machine.sizes l.fn.m) c (g.M.Machine.domain l.fn.m) first (g.M.Machine.front l.m) → length fs ≡ l.size → Keeping (g.M.Machine.sizes l.fn.m) (g.M.Machine.domain l.fn.m) first (g.M.Machine.front l.fn.m) c k fs fs
      → Keeping (g.M.Machine.sizes l.fn.m) (g.M.Machine.domain l.fn.m) first (g.M.Machine.front l.m) c k fs (drawn l.from l.passed fs) × KeepsBeside (g.M.Machine.sizes l.fn.m) (g.M.Machine.domain l.fn.m) (g.M.Machine.front l.fn.m) (g.M.Machine.front l.m);
}
