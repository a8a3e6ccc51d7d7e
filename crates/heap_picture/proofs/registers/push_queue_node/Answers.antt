use Rattle.std.proofs.Common.{ℕ, List, ◌++◌, string_bytes}
use Rattle.std.specs.Prelude.{codes}
use Rattle.heap_picture.specs.Text.{placed, pending_cell}
use Rattle.heap_picture.proofs.Pushes.{joined, joined_ok}
use Rattle.heap_picture.proofs.registers.push_queue_node.Goals as goal

pub returns : goal.returns
returns c =
    let s0 = string_bytes c.args.out.now in
    let s1 = string_bytes c.push_text.new.out in
    let s2 = string_bytes c.push_pending_cells.new.out in
    let s3 = string_bytes c.push_text-2.new.out in
    let head : List ℕ = codes "  queue [label=\"queue" in
    let cells : List ℕ = placed pending_cell 0 c.args.queue.now in
    let front = joined s0 s1 s2 head cells c.in_ok-push_text.ensures c.in_ok-push_pending_cells.ensures in
    joined_ok c.push_text-2.result s0 s2 s3 (head ++ cells) (codes "\"];\n") front c.push_text-2.ensures
