use Rattle.std.proofs.Common.{◌++◌, ◌∷◌, [], ◌+◌, ap, ◌∙◌}
use Rattle.judge_plain.specs.Scheduled.Wipes.{label_at, wipes_of}
use Rattle.judge_plain.proofs.OfScheduled.TakeLemmas.{wipes_more}
use Rattle.judge_plain.proofs.scheduled.keys.push_domain.Goals as goal

pub serials-preserved : goal.serials-preserved
serials-preserved c =
    c.in_ok-push_keys.ensures
    ∙ ap (λ t. t ++ wipes_of c.args.state.now (label_at c.args.domain (c.serials.before + 1) ∷ [])) c.serials.invariant
    ∙ wipes_more c.args.state.now c.args.entries.now.items c.args.domain c.serials.before
