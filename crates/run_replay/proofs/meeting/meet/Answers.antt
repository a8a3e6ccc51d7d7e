use Rattle.std.proofs.Common.{◌∙◌, ◌<◌, None, ap, length, length-set, subst, sym}
use Rattle.std.specs.Prelude.{vec_capacity}
use Rattle.run_turns.specs.Meeting.{AllRunsMet, AreHere}
use Rattle.run_replay.specs.Leveled.{Leveled}
use Rattle.run_replay.proofs.LevelLemmas.{alone_leveled, leveled_all, others_here}
use Rattle.run_replay.proofs.meeting.meet.Goals as goal

pub take_run-first-requires : goal.take_run-first-requires
take_run-first-requires c = record { there = c.requires.here.filled 0 c.requires.some }

pub meet_all-first-requires-clause-here : goal.meet_all-first-requires-clause-here
meet_all-first-requires-clause-here c = c.requires.here.here 0 c.take_run-first.result c.take_run-first.ensures.taken

pub meet_all-first-requires-clause-others : goal.meet_all-first-requires-clause-others
meet_all-first-requires-clause-others c = subst (AreHere c.args.heap.now) (sym c.take_run-first.ensures.rest) (others_here c.args.heap.now c.args.runs.now 0 c.requires.here)

pub meet_all-first-requires-clause-fits : goal.meet_all-first-requires-clause-fits
meet_all-first-requires-clause-fits c = subst (λ n. n < vec_capacity c.args.room.now) (sym (ap length c.take_run-first.ensures.rest ∙ length-set c.args.runs.now 0 None)) c.requires.fits

pub returns-clause-leveled : goal.returns-clause-leveled
returns-clause-leveled c =
    let m = subst (λ rs. AllRunsMet c.args.heap.now c.take_run-first.result c.meet_all-first.result rs c.meet_all-first.new.others) c.take_run-first.ensures.rest c.meet_all-first.ensures.met in
    subst (Leveled c.args.runs.now) (sym c.put_run.ensures) (leveled_all c.args.heap.now c.args.runs.now c.meet_all-first.new.others 0 c.take_run-first.result c.meet_all-first.result c.requires.here c.take_run-first.ensures.taken m)

pub returns-then-runs-eq1-clause-leveled : goal.returns-then-runs-eq1-clause-leveled
returns-then-runs-eq1-clause-leveled c =
    let f = c.requires.here.filled 0 c.requires.some in
    alone_leveled c.args.heap.now c.args.runs.now c.requires.here c.if-runs-eq1.true f.0 f.1 (c.requires.running c.if-runs-eq1.true f.0 f.1)
