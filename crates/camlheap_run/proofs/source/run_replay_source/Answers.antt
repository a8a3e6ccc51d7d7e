use Rattle.std.proofs.Common.{◌≡◌, sym, ap, inl, subst, ◌∙◌}
use Rattle.text_script.specs.declared.schedule.text.replay.ReplayFault.TheVariants.{Script as ScriptOf}
use Rattle.text_script.specs.Schedule.Text.Replays.{HasFault}
use Rattle.text_script.proofs.OfSchedule.OfText.ReplayLemmas.{one_fault}
use Rattle.camlheap_run.specs.Reading.{ReadsReplayFault}
use Rattle.camlheap_run.specs.Replaying.{fault_status}
use Rattle.camlheap_run.proofs.ReadingLemmas.{told_fault}
use Rattle.camlheap_run.proofs.ReplayLemmas.{script_fault_is, small_domains, status_script}
use Rattle.camlheap_run.proofs.source.run_replay_source.Goals as goal

pub returns-in-Ok-clause-done : goal.returns-in-Ok-clause-done
returns-in-Ok-clause-done g c = λ ended done. record { replay = c.in-Ok.replay; reads = c.in-Ok.ensures.replay; writes = c.run_replay.ensures.done ended done }

pub returns-in-Ok-clause-cut : goal.returns-in-Ok-clause-cut
returns-in-Ok-clause-cut g c = λ ended stopped. record { replay = c.in-Ok.replay; reads = c.in-Ok.ensures.replay; writes = c.run_replay.ensures.cut ended stopped }

pub returns-in-Err-Refused-clause-script : goal.returns-in-Err-Refused-clause-script
returns-in-Err-Refused-clause-script g c = λ f is.
    let status : c.refused.result ≡ fault_status c.in-Err-Refused.fault = rw c.in-Err-Refused.field-0-is at c.refused.ensures in
    let reads = c.in-Err-Refused.ensures.refused c.in-Err-Refused.fault (cc c.in-Err-Refused.field-0-is) in
    let same : c.in-Err-Refused.fault ≡ ScriptOf f = status_script c.in-Err-Refused.fault f (sym status ∙ is) in
    let here = subst (ReadsReplayFault c.args.sizes.now (g.S.Source.left c.args.src.now) (g.S.Source.left c.replay_of.new.src)) same reads in
    (record { bytes = here.bytes; are_read = here.are_read; first = here.first }, script_fault_is c.args.sizes.now.domains c.args.sizes.now.pools here.bytes f (small_domains c.args.sizes.now c.requires) here.first)

pub returns-in-Err-Refused-clause-complete : goal.returns-in-Err-Refused-clause-complete
returns-in-Err-Refused-clause-complete g c = λ r told sure written. absurd (c.in-Err-Refused.ensures.only_faults r c.in-Err-Refused.fault told (cc c.in-Err-Refused.field-0-is))

pub returns-in-Err-Refused-clause-refused : goal.returns-in-Err-Refused-clause-refused
returns-in-Err-Refused-clause-refused g c = λ f told sure.
    let status : c.refused.result ≡ fault_status c.in-Err-Refused.fault = rw c.in-Err-Refused.field-0-is at c.refused.ensures in
    let reads = c.in-Err-Refused.ensures.refused c.in-Err-Refused.fault (cc c.in-Err-Refused.field-0-is) in
    let first = told_fault (HasFault c.args.sizes.now.domains c.args.sizes.now.pools) _ _ reads.bytes f reads.are_read told in
    let same : c.in-Err-Refused.fault ≡ f = one_fault c.args.sizes.now.domains c.args.sizes.now.pools reads.bytes (small_domains c.args.sizes.now c.requires) c.in-Err-Refused.fault f reads.first first in
    inl (status ∙ ap fault_status same)
