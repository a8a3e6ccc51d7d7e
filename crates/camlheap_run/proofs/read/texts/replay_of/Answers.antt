use Rattle.text_script.specs.Schedule.Text.Replays.{HasFault}
use Rattle.camlheap_run.proofs.ReadingLemmas.{replay_not_refused, told_fault, told_replay}
use Rattle.camlheap_run.proofs.read.texts.replay_of.Goals as goal

pub returns-clause-only_faults : goal.returns-clause-only_faults
returns-clause-only_faults g c = λ r f told refused.
    let read = rw (← c.deref.ensures.value) at c.in-Ok.ensures.bytes in
    replay_not_refused r c.in-Err.fault f c.no_replay.result c.no_replay.ensures (cc) (c.in-Err.ensures.only r (told_replay c.args.sizes.now _ _ _ r read told))

pub returns-in-Ok-read_replay-clause-only_replays : goal.returns-in-Ok-read_replay-clause-only_replays
returns-in-Ok-read_replay-clause-only_replays g c = λ f told.
    let read = rw (← c.deref.ensures.value) at c.in-Ok.ensures.bytes in
    let given = c.in-Ok-read_replay.ensures.refused f (told_fault (HasFault c.args.sizes.now.domains c.args.sizes.now.pools) _ _ _ f read told) in cc given
