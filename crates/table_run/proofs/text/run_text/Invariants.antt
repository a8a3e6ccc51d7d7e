use Rattle.std.proofs.Common.{◌≡◌, ◌+◌, ◌≤◌, length, take, vec_capacity}
use Rattle.table_text.specs.Machine.Machine.{all_made}
use Rattle.table_run.specs.Running.{RanTo, HasGiven, all_rooms}
use Rattle.table_run.proofs.text.run_text.Given as goal

abbrev pub invariant-lines : goal.invariant-lines
invariant-lines g l = record {
  same : g.M.Machine.sizes l.m.machine ≡ g.M.Machine.sizes l.fn.m.machine;
  answered : length l.replies.items ≡ l.i;
  capacity : vec_capacity l.replies ≡ vec_capacity l.fn.room;
  ran : RanTo l.fn.text.version (g.M.Machine.sizes l.fn.m.machine) (take l.i l.text.lines) l.replies.items (g.M.Machine.front l.m.machine);
  given : HasGiven l.fn.text.version (g.M.Machine.labels_left l.m.machine) (take l.i l.text.lines);
  labels : all_made l.fn.text.version l.text.lines ≤ g.M.Machine.labels_left l.m.machine + all_made l.fn.text.version (take l.i l.text.lines);
  room : all_rooms l.text.lines ≤ g.M.Machine.ephes_room l.m.machine + all_rooms (take l.i l.text.lines);
}
