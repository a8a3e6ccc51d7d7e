use Rattle.std.proofs.Common.{◌≡◌, ◌<◌, false, length, replicate, ap, sym, ◌∙◌, subst, rules}
use Rattle.model_core.specs.declared.entry.Entry.TheVariants.{Ran}
use Rattle.model_core.specs.Domains.{domain_at}
use Rattle.model_traces.specs.Schedules.Scheduled.{Played, with_entries}
use Rattle.judge_plain.proofs.OfScheduled.TurnLemmas.{inside, next_legal}
use Rattle.judge_plain.proofs.scheduled.turns.take_turn.Goals as goal

pub make_next-requires-clause-inside : goal.make_next-requires-clause-inside
make_next-requires-clause-inside c =
    let below : c.args.domain < length c.args.run.now.state.domains = search rules in
    subst (λ (p : Played). c.args.domain < length p.left) (sym c.in_ok-run_finalisers.ensures) (inside c.args.run.now c.args.domain c.requires below)

pub make_next-requires-clause-legal : goal.make_next-requires-clause-legal
make_next-requires-clause-legal c =
    let running : (domain_at c.args.run.now.state c.args.domain).ended ≡ false = search rules in
    let count : c.len-count.result ≡ length (domain_at c.args.run.now.state c.args.domain).queue = search rules in
    next_legal c.args.run.now c.run_finalisers.new.self c.args.domain c.requires running
    (c.in_ok-run_finalisers.ensures ∙ ap (λ n. with_entries c.args.run.now (replicate n (Ran c.args.domain))) count)
