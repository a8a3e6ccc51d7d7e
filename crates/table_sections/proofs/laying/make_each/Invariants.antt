use Rattle.std.proofs.Common.{◌≤◌, List, drop}
use Rattle.std.specs.List.{AllByRecursion}
use Rattle.model_core.specs.declared.entry.Entry.{Entry}
use Rattle.weak_maps.specs.Frames.{Stays}
use Rattle.table_sections.specs.Places.{IsQuiet, MakesEach}
use Rattle.table_sections.proofs.laying.make_each.Given as goal

abbrev pub invariant-commands : goal.invariant-commands
invariant-commands g l = record {
  stays : Stays g.M.Machine.sizes g.M.Machine.domain g.M.Machine.heap l.fn.m l.m;
  labels : g.M.Machine.labels_left l.fn.m ≤ g.M.Machine.labels_left l.m;
  room : g.M.Machine.ephes_room l.fn.m ≤ g.M.Machine.ephes_room l.m;
  quiet : AllByRecursion IsQuiet (drop l.command-index l.commands);
  made : (last : List Entry) → MakesEach (g.M.Machine.sizes l.fn.m) (g.M.Machine.domain l.fn.m) (g.M.Machine.front l.m) (drop l.command-index l.commands) last
      → MakesEach (g.M.Machine.sizes l.fn.m) (g.M.Machine.domain l.fn.m) (g.M.Machine.front l.fn.m) l.commands last;
}
