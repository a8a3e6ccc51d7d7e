use Rattle.std.proofs.Common.{◌≡◌, arith, Some}
use Rattle.std.specs.Prelude.{Option}
use Rattle.heap_rule.specs.Ending.{EndedHeap}
use Rattle.heap_rule.specs.Limits.{sizes_in}
use Rattle.camlheap_run.proofs.TableLemmas.{RanTable, few_labels, few_lines, few_rooms, opened_labels, opened_room, opened_sizes, writes_table, writes_table_front}
use Rattle.camlheap_run.proofs.table.alone.run_table.Goals as goal

pub run_text-replies-requires-clause-labels : goal.run_text-replies-requires-clause-labels
run_text-replies-requires-clause-labels g c =
    let none = opened_labels c.args.sizes.now c.args.text.now c.in-Ok.opened c.in-Ok.ensures in
    let few = few_labels c.args.text.now.version c.args.text.now.lines in
    let lines = few_lines c.args.text.now.version in
    omega (arith, none, few, lines, c.requires.few)

pub run_text-replies-requires-clause-ephemerons : goal.run_text-replies-requires-clause-ephemerons
run_text-replies-requires-clause-ephemerons g c =
    let room = opened_room c.args.sizes.now c.args.text.now c.in-Ok.opened c.in-Ok.ensures in
    let few = few_rooms c.args.text.now.lines in
    omega (arith, room, few)

pub returns-in-Ok-write_answers-clause-done : goal.returns-in-Ok-write_answers-clause-done
returns-in-Ok-write_answers-clause-done g c = λ ended is.
    let last : ◌≡◌ {A = Option EndedHeap} (Some c.stop.result) ended = cc in
    let heap = opened_sizes c.args.sizes.now c.args.text.now c.in-Ok.opened c.requires.sizes c.in-Ok.ensures in
    let ran : RanTable c.args.sizes.now (sizes_in c.in-Ok.opened.session.config) (sizes_in c.run_text-replies.new.m.machine.config) c.args.text.now c.run_text-replies.result.items c.run_text-replies.new.m.machine.front c.stop.result =
    record { heap = heap; same = c.run_text-replies.ensures.sizes; runs = c.run_text-replies.ensures.runs; sizes = c.stop.ensures.sizes; stops = c.stop.ensures.stops } in
    writes_table _ _ _ _ _ c.deref.result.now _ _ ended _ _ ran c.deref.ensures.value last c.in-Ok-write_answers.ensures.bytes

pub returns-clause-cut : goal.returns-clause-cut
returns-clause-cut g c = λ ended is.
    let last : ◌≡◌ {A = Option EndedHeap} (Some c.stop.result) ended = cc in
    let heap = opened_sizes c.args.sizes.now c.args.text.now c.in-Ok.opened c.requires.sizes c.in-Ok.ensures in
    let ran : RanTable c.args.sizes.now (sizes_in c.in-Ok.opened.session.config) (sizes_in c.run_text-replies.new.m.machine.config) c.args.text.now c.run_text-replies.result.items c.run_text-replies.new.m.machine.front c.stop.result =
    record { heap = heap; same = c.run_text-replies.ensures.sizes; runs = c.run_text-replies.ensures.runs; sizes = c.stop.ensures.sizes; stops = c.stop.ensures.stops } in
    writes_table_front _ _ _ _ _ c.deref.result.now _ _ ended _ _ ran c.deref.ensures.value last c.in-Err-write_answers.ensures.bytes
