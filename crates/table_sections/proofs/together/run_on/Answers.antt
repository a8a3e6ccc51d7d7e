use Rattle.std.proofs.Common.{◌≡◌, ◌<◌, List, length, map, Vec, Global, ◌∙◌, arith}
use Rattle.table_text.specs.declared.line.TableLine.{TableLine}
use Rattle.table_text.specs.declared.machine.reply.LineReply.{LineReply}
use Rattle.table_sections.proofs.Ending.{all_may, all_run, back_here, back_length, lists_length, ran_here, ran_length, section_room, some_section, tasks_length}
use Rattle.table_sections.proofs.together.run_on.Goals as goal

abbrev lines_of : List (Vec TableLine Global) → List (List TableLine)
lines_of lss = map (λ ls. ls.items) lss

abbrev replies_of : List (Vec LineReply Global) → List (List LineReply)
replies_of rss = map (λ rs. rs.items) rss

pub prepare_all-requires-clause-room : goal.prepare_all-requires-clause-room
prepare_all-requires-clause-room g c = section_room c.args.config (lines_of c.args.sections.items) c.requires.inside c.requires.fits

pub run_all-requires-clause-may : goal.run_all-requires-clause-may
run_all-requires-clause-may g c κs within =
    all_may c.args.config (lines_of c.args.sections.items) c.requires.inside c.requires.fits c.args.seats c.requires.config c.in_ok-_places._places c.in_ok-_places.ready.items c.in_ok-tasks.tasks.items c.in_ok-_places.ensures.ready c.in_ok-tasks.ensures.tasks

pub resume_all-replies-requires-clause-capacity : goal.resume_all-replies-requires-clause-capacity
resume_all-replies-requires-clause-capacity g c =
    let lss : List (List TableLine) = lines_of c.args.sections.items in
    let ran : length c.in_ok-ran.ran.items ≡ length c.in_ok-tasks.tasks.items = ran_length c.args.seats c.in_ok-tasks.tasks.items c.in_ok-ran.ran.items c.in_ok-ran.ensures.ran in
    let tasks : length c.in_ok-tasks.tasks.items ≡ length lss = tasks_length c.in_ok-_places.ready.items lss c.in_ok-tasks.tasks.items c.in_ok-tasks.ensures.tasks in
    let many : length c.in_ok-ran.ran.items ≡ length c.args.sections.items = ran ∙ (tasks ∙ lists_length c.args.sections.items) in
    let long = c.args.sections.ok.0 in
    let one = c.len.ensures in
    let other = c.len-2.ensures in
    let replies_room = c.in_ok-replies.ensures.capacity in
    let back_room = c.in_ok-back.ensures.capacity in
    (omega (arith, many, long, one, replies_room), omega (arith, many, long, other, back_room))

pub resume_all-replies-requires-clause-here : goal.resume_all-replies-requires-clause-here
resume_all-replies-requires-clause-here g c = ran_here c.args.seats c.in_ok-tasks.tasks.items c.in_ok-ran.ran.items c.in_ok-ran.ensures.ran

pub stop-requires-clause-here : goal.stop-requires-clause-here
stop-requires-clause-here g c = back_here c.args.seats c.in_ok-ran.ran.items (replies_of c.resume_all-replies.result.0.items) c.resume_all-replies.result.1.items c.resume_all-replies.ensures.back

pub stop-requires-clause-some : goal.stop-requires-clause-some
stop-requires-clause-some g c =
    let lss : List (List TableLine) = lines_of c.args.sections.items in
    let back : length c.resume_all-replies.result.1.items ≡ length c.in_ok-ran.ran.items = back_length c.args.seats c.in_ok-ran.ran.items (replies_of c.resume_all-replies.result.0.items) c.resume_all-replies.result.1.items c.resume_all-replies.ensures.back in
    let ran : length c.in_ok-ran.ran.items ≡ length c.in_ok-tasks.tasks.items = ran_length c.args.seats c.in_ok-tasks.tasks.items c.in_ok-ran.ran.items c.in_ok-ran.ensures.ran in
    let tasks : length c.in_ok-tasks.tasks.items ≡ length lss = tasks_length c.in_ok-_places.ready.items lss c.in_ok-tasks.tasks.items c.in_ok-tasks.ensures.tasks in
    let some : 0 < length lss = some_section c.args.config lss c.requires.inside c.requires.fits in
    omega (arith, back, ran, tasks, some)

pub returns-clause-runs : goal.returns-clause-runs
returns-clause-runs g c =
    all_run c.args.config (lines_of c.args.sections.items) c.requires.inside c.requires.fits c.args.seats c.requires.config c.in_ok-_places._places c.in_ok-_places.ready.items c.in_ok-tasks.tasks.items c.in_ok-_places.ensures.ready c.in_ok-tasks.ensures.tasks
    c.in_ok-ran.ran.items (replies_of c.resume_all-replies.result.0.items) c.resume_all-replies.result.1.items c.in_ok-ended.ended.sizes c.in_ok-ended.ended.history
    c.in_ok-ran.ensures.ran c.resume_all-replies.ensures.back c.in_ok-ended.ensures.sizes c.in_ok-ended.ensures.legal c.in_ok-ended.ensures.stops
