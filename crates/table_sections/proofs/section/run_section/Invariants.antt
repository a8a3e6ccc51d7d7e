use Rattle.std.proofs.Common.{◌≡◌, ◌≤◌, ◌+◌, ◌*◌, ◌++◌, List, length}
use Rattle.std.specs.Prelude.{vec_capacity}
use Rattle.std.specs.List.{AllByRecursion}
use Rattle.std.specs.Vec.Iter.{into_iter_items, into_iter_len}
use Rattle.model_core.specs.declared.entry.Entry.{Entry}
use Rattle.model_core.specs.declared.label.Label.{Label}
use Rattle.model_core.specs.History.{IsPrefix}
use Rattle.table_text.specs.declared.machine.reply.LineReply.{LineReply}
use Rattle.weak_laws.specs.Maps.Steps.{OthersRespect}
use Rattle.weak_maps.specs.Frames.{Stays}
use Rattle.table_sections.specs.Lines.{HasRoomFor, IsSharedLine}
use Rattle.table_sections.specs.Sections.{OnMap, SectionGuards, SectionRuns}
use Rattle.table_sections.proofs.section.run_section.Given as goal

abbrev pub invariant-lines : goal.invariant-lines
invariant-lines g l = record {
  stays : Stays g.M.Machine.sizes g.M.Machine.domain g.M.Machine.heap l.fn.m l.m;
  grows : IsPrefix (g.M.Machine.front l.fn.m) (g.M.Machine.front l.m);
  fits : AllByRecursion IsSharedLine (into_iter_items l.line-iterator);
  len : into_iter_len l.line-iterator ≡ length (into_iter_items l.line-iterator);
  capacity : length l.replies.items + length (into_iter_items l.line-iterator) ≤ vec_capacity l.replies;
  spare : HasRoomFor (length (into_iter_items l.line-iterator)) (g.M.Machine.labels_left l.m) (g.M.Machine.ephes_room l.m);
  given : g.M.Machine.labels_left l.fn.m + 7 * length (into_iter_items l.line-iterator) ≤ g.M.Machine.labels_left l.m + 7 * length (into_iter_items l.initial.line-iterator);
  taken : g.M.Machine.ephes_room l.fn.m + length (into_iter_items l.line-iterator) ≤ g.M.Machine.ephes_room l.m + length (into_iter_items l.initial.line-iterator);
  guards : SectionGuards (g.M.Machine.sizes l.fn.m) (g.M.Machine.domain l.fn.m) (g.M.Machine.front l.fn.m) (g.M.Machine.front l.m);
  stands : (root : Label) → OnMap (g.M.Machine.sizes l.fn.m) root (g.M.Machine.domain l.fn.m) (g.M.Machine.front l.fn.m) → OthersRespect (g.M.Machine.sizes l.fn.m) root (g.M.Machine.domain l.fn.m) (g.M.Machine.front l.fn.m) (g.M.Machine.front l.m)
      → OnMap (g.M.Machine.sizes l.fn.m) root (g.M.Machine.domain l.fn.m) (g.M.Machine.front l.m);
  runs : (rest : List LineReply) (last : List Entry) → SectionRuns (g.M.Machine.sizes l.fn.m) (g.M.Machine.domain l.fn.m) (g.M.Machine.front l.m) (into_iter_items l.line-iterator) rest last
      → SectionRuns (g.M.Machine.sizes l.fn.m) (g.M.Machine.domain l.fn.m) (g.M.Machine.front l.fn.m) (into_iter_items l.initial.line-iterator) (l.replies.items ++ rest) last;
}
