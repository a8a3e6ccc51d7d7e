use Rattle.std.proofs.Common.{◌≡◌, List, ◌++◌, length, map}
use Rattle.std.specs.Vec.Iter.{into_iter_items, into_iter_len}
use Rattle.table_sections.specs.Preparing.{AllTasks}
use Rattle.table_sections.specs.declared.running.Task.{Task}
use Rattle.table_sections.proofs.running.tasks_of.Given as goal

abbrev pub invariant-sections : goal.invariant-sections
invariant-sections l = record {
  many : length l.ready.items ≡ length (into_iter_items l.lines-iterator);
  len : into_iter_len l.lines-iterator ≡ length (into_iter_items l.lines-iterator);
  gathered : (more : List Task) → AllTasks l.ready.items (map (λ ls. ls.items) (into_iter_items l.lines-iterator)) more
      → AllTasks l.initial.ready.items (map (λ ls. ls.items) (into_iter_items l.initial.lines-iterator)) (l.tasks.items ++ more);
}
