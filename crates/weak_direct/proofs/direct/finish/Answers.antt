use Rattle.std.proofs.Common.{ℕ, List, refl, arith}
use Rattle.model_core.specs.declared.entry.Entry.{Entry}
use Rattle.model_core.specs.declared.state.Sizes.{Sizes}
use Rattle.weak_direct.proofs.FrameLemmas.{ends_made, reads_last, reads_off}
use Rattle.weak_direct.proofs.StepLemmas.{none_full, off_passes}
use Rattle.weak_direct.proofs.direct.finish.Goals as goal

pub returns-in_err-reply-clause-stopped : goal.returns-in_err-reply-clause-stopped
returns-in_err-reply-clause-stopped g c = λ none. off_passes _ _ _ _ c.in_err-reply.ensures.tried

pub returns-in_err-reply-clause-reads : goal.returns-in_err-reply-clause-reads
returns-in_err-reply-clause-reads g c = reads_off _ _ _ _ _ c.in_err-reply.ensures.tried

pub returns-clause-reads : goal.returns-clause-reads
returns-clause-reads g c = reads_last c.perform.ensures.stays c.clear_read.ensures.looks c.args.c c.requires.last c.perform.result c.perform.ensures.tried

pub returns-clause-granted : goal.returns-clause-granted
returns-clause-granted g c = none_full (g.M.Direct.sizes c.args.m.now) (g.M.Direct.domain c.args.m.now) _ _ c.args.c c.requires.last c.in_ok-reply.reply c.in_ok-reply.ensures.tried

pub returns-clause-ends : goal.returns-clause-ends
returns-clause-ends g c = ends_made c.perform.ensures.stays c.clear_read.ensures.looks c.in_ok-reply.ensures.tried
