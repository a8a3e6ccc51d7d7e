use Rattle.std.proofs.Common.{[], ◌∷◌, ap, sym, ◌∙◌, subst}
use Rattle.model_core.specs.declared.entry.Entry.TheVariants.{Seal, Collected}
use Rattle.model_core.specs.Entries.{CollectedAllowed, DoneAllowed, SealAllowed}
use Rattle.model_core.specs.History.{LegalFrom}
use Rattle.model_traces.specs.Schedules.Scheduled.{Played, all_lasts, all_queued, all_wiped, with_entries}
use Rattle.judge_plain.proofs.OfScheduled.EntryLemmas.{stages}
use Rattle.judge_plain.proofs.scheduled.run.Run.collect.Goals as goal

pub queue_finals-requires-clause-legal : goal.queue_finals-requires-clause-legal
queue_finals-requires-clause-legal c =
    let legal = stages c.args.self.now.state c.args.answered.items c.requires in
    let e1 = c.in_ok-make.ensures in
    subst (λ (p : Played). LegalFrom p.state (all_queued p.state)) (sym e1) legal.queues

pub make-requires-2 : goal.make-requires-2
make-requires-2 c =
    let legal = stages c.args.self.now.state c.args.answered.items c.requires in
    let e1 = c.in_ok-make.ensures in
    let e2 = c.in_ok-queue_finals.ensures ∙ ap (λ (p : Played). with_entries p (all_queued p.state)) e1 in
    subst (λ (p : Played). SealAllowed p.state) (sym e2) legal.seals

pub empty_keys-requires : goal.empty_keys-requires
empty_keys-requires c =
    let legal = stages c.args.self.now.state c.args.answered.items c.requires in
    let e1 = c.in_ok-make.ensures in
    let e2 = c.in_ok-queue_finals.ensures ∙ ap (λ (p : Played). with_entries p (all_queued p.state)) e1 in
    let e3 = c.in_ok-make-2.ensures ∙ ap (λ (p : Played). with_entries p (Seal ∷ [])) e2 in
    subst (λ (p : Played). LegalFrom p.state (all_wiped p.state)) (sym e3) legal.wipes

pub queue_lasts-requires : goal.queue_lasts-requires
queue_lasts-requires c =
    let legal = stages c.args.self.now.state c.args.answered.items c.requires in
    let e1 = c.in_ok-make.ensures in
    let e2 = c.in_ok-queue_finals.ensures ∙ ap (λ (p : Played). with_entries p (all_queued p.state)) e1 in
    let e3 = c.in_ok-make-2.ensures ∙ ap (λ (p : Played). with_entries p (Seal ∷ [])) e2 in
    let e4 = c.in_ok-empty_keys.ensures ∙ ap (λ (p : Played). with_entries p (all_wiped p.state)) e3 in
    subst (λ (p : Played). LegalFrom p.state (all_lasts p.state)) (sym e4) legal.takes

pub make-requires-3 : goal.make-requires-3
make-requires-3 c =
    let legal = stages c.args.self.now.state c.args.answered.items c.requires in
    let e1 = c.in_ok-make.ensures in
    let e2 = c.in_ok-queue_finals.ensures ∙ ap (λ (p : Played). with_entries p (all_queued p.state)) e1 in
    let e3 = c.in_ok-make-2.ensures ∙ ap (λ (p : Played). with_entries p (Seal ∷ [])) e2 in
    let e4 = c.in_ok-empty_keys.ensures ∙ ap (λ (p : Played). with_entries p (all_wiped p.state)) e3 in
    let e5 = c.in_ok-queue_lasts.ensures ∙ ap (λ (p : Played). with_entries p (all_lasts p.state)) e4 in
    subst (λ (p : Played). CollectedAllowed p.state) (sym e5) legal.collects

pub make-requires-4 : goal.make-requires-4
make-requires-4 c =
    let legal = stages c.args.self.now.state c.args.answered.items c.requires in
    let e1 = c.in_ok-make.ensures in
    let e2 = c.in_ok-queue_finals.ensures ∙ ap (λ (p : Played). with_entries p (all_queued p.state)) e1 in
    let e3 = c.in_ok-make-2.ensures ∙ ap (λ (p : Played). with_entries p (Seal ∷ [])) e2 in
    let e4 = c.in_ok-empty_keys.ensures ∙ ap (λ (p : Played). with_entries p (all_wiped p.state)) e3 in
    let e5 = c.in_ok-queue_lasts.ensures ∙ ap (λ (p : Played). with_entries p (all_lasts p.state)) e4 in
    let e6 = c.in_ok-make-3.ensures ∙ ap (λ (p : Played). with_entries p (Collected ∷ [])) e5 in
    let e7 = c.in_ok-make_all.ensures ∙ ap (λ (p : Played). with_entries p c.args.answered.items) e6 in
    subst (λ (p : Played). DoneAllowed p.state) (sym e7) legal.ends
