use Rattle.std.proofs.Common.{◌≡◌, ◌-◌, List}
use Rattle.model_core.specs.declared.label.Label.{Label}
use Rattle.model_core.specs.declared.entry.Entry.{Entry}
use Rattle.weak_laws.specs.Tables.Performing.{refusals}
use Rattle.weak_tables.specs.Frames.{Spends}
use Rattle.weak_tables.specs.Walks.{Filled}
use Rattle.weak_tables.proofs.making.fill.Given as goal

abbrev pub invariant-slots : goal.invariant-slots
invariant-slots g l = record {
  spends : Spends g.M.Machine.sizes g.M.Machine.labels_left g.M.Machine.ephes_room l.index l.index l.fn.m l.m;
  given : refusals (g.M.Machine.front l.m) ≡ refusals (g.M.Machine.front l.fn.m);
  filled : (first : List Entry) (root : Label) → Filled (g.M.Machine.sizes l.fn.m) first (g.M.Machine.front l.fn.m) root 0 l.slots → Filled (g.M.Machine.sizes l.fn.m) first (g.M.Machine.front l.m) root l.index (l.slots - l.index);
}
