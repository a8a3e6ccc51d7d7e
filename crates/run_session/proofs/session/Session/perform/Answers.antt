use Rattle.std.proofs.Common.{ℕ, ◌<◌, ap, subst, sym, ◌≡◌, ◌≤◌, ◌+◌, ◌++◌, ◌∷◌, [], Option, length}
use Rattle.model_core.specs.Counts.Counts.{ephemerons_given, labels_given}
use Rattle.model_core.specs.History.{commands, replies}
use Rattle.heap_rule.specs.Limits.{sizes_in}
use Rattle.run_turns.specs.Tries.{registrations_of}
use Rattle.run_turns.proofs.Handed.{performed_commands, performed_replies}
use Rattle.run_session.specs.Driving.{session_of}
use Rattle.run_session.specs.Sessions.{PerformsIn, SessionView, most_arrivals, most_spent, ran_since}
use Rattle.run_session.proofs.Driven.{makes_arrivals, makes_config, makes_finals, makes_labels, makes_performed, makes_rests, makes_room, may_arrive, may_submit}
use Rattle.run_session.proofs.session.Session.perform.Goals as goal

pub perform_on-requires-clause-may : goal.perform_on-requires-clause-may
perform_on-requires-clause-may c = may_submit c.self.inside.heap c.self.inside.run c.args.self.now c.args.command c.self.invariant.0 c.self.view_is c.requires.may

pub perform_on-requires-clause-few : goal.perform_on-requires-clause-few
perform_on-requires-clause-few c = may_arrive c.self.inside.heap c.self.inside.run c.args.self.now c.args.command c.self.invariant.0 c.self.view_is c.requires.may

pub returns-clause-performed : goal.returns-clause-performed
returns-clause-performed c =
    let h = c.self.inside.heap in
    let p = c.perform_on.new.run in
    subst (λ (v : SessionView). PerformsIn v (session_of h.config p) c.args.command c.perform_on.result) c.self.view_is
    (makes_performed h c.self.inside.run p c.args.command c.perform_on.result c.config-limits.ensures.limits c.self.invariant.0 c.perform_on.ensures.makes)

pub returns-clause-commands : goal.returns-clause-commands
returns-clause-commands c =
    let h = c.self.inside.heap in
    let old = session_of h.config c.self.inside.run in
    let new = session_of h.config c.perform_on.new.run in
    subst (λ (v : SessionView). commands new.front 0 ≡ commands v.front 0 ++ c.args.command ∷ []) c.self.view_is
    (performed_commands (sizes_in old.config) 0 old.front new.front c.args.command (ran_since old new) c.perform_on.result (makes_performed h c.self.inside.run c.perform_on.new.run c.args.command c.perform_on.result c.config-limits.ensures.limits c.self.invariant.0 c.perform_on.ensures.makes).performed)

pub returns-clause-replies : goal.returns-clause-replies
returns-clause-replies c =
    let h = c.self.inside.heap in
    let old = session_of h.config c.self.inside.run in
    let new = session_of h.config c.perform_on.new.run in
    subst (λ (v : SessionView). replies (sizes_in v.config) new.front 0 ≡ replies (sizes_in v.config) v.front 0 ++ (ran_since v new ++ c.perform_on.result ∷ [])) c.self.view_is
    (performed_replies (sizes_in old.config) 0 old.front new.front c.args.command (ran_since old new) c.perform_on.result (makes_performed h c.self.inside.run c.perform_on.new.run c.args.command c.perform_on.result c.config-limits.ensures.limits c.self.invariant.0 c.perform_on.ensures.makes).performed)

pub returns-clause-config : goal.returns-clause-config
returns-clause-config c = subst (λ (v : SessionView). (session_of c.self.inside.heap.config c.perform_on.new.run).config ≡ v.config) c.self.view_is
    (makes_config c.self.inside.heap c.self.inside.run c.perform_on.new.run c.args.command c.perform_on.result c.config-limits.ensures.limits c.self.invariant.0 c.perform_on.ensures.makes)

pub returns-clause-labels : goal.returns-clause-labels
returns-clause-labels c = subst (λ (v : SessionView). (session_of c.self.inside.heap.config c.perform_on.new.run).labels ≡ v.labels + labels_given c.args.command c.perform_on.result) c.self.view_is
    (makes_labels c.self.inside.heap c.self.inside.run c.perform_on.new.run c.args.command c.perform_on.result c.config-limits.ensures.limits c.self.invariant.0 c.perform_on.ensures.makes)

pub returns-clause-room : goal.returns-clause-room
returns-clause-room c = subst (λ (v : SessionView). v.room ≤ (session_of c.self.inside.heap.config c.perform_on.new.run).room + ephemerons_given c.args.command c.perform_on.result) c.self.view_is
    (makes_room c.self.inside.heap c.self.inside.run c.perform_on.new.run c.args.command c.perform_on.result c.config-limits.ensures.limits c.self.invariant.0 c.perform_on.ensures.makes)

pub returns-clause-finals : goal.returns-clause-finals
returns-clause-finals c =
    let new = session_of c.self.inside.heap.config c.perform_on.new.run in
    subst (λ (v : SessionView). v.finals ≤ new.finals + registrations_of c.args.command) c.self.view_is
    (makes_finals c.self.inside.heap c.self.inside.run c.perform_on.new.run c.args.command c.perform_on.result c.config-limits.ensures.limits c.self.invariant.0 c.perform_on.ensures.makes)

pub returns-clause-arrivals : goal.returns-clause-arrivals
returns-clause-arrivals c = subst (λ (v : SessionView). (session_of c.self.inside.heap.config c.perform_on.new.run).stats.arrivals ≤ v.stats.arrivals + most_spent) c.self.view_is
    (makes_arrivals c.self.inside.heap c.self.inside.run c.perform_on.new.run c.args.command c.perform_on.result c.config-limits.ensures.limits c.self.invariant.0 c.perform_on.ensures.makes)

pub invariant_of-self : goal.invariant_of-self
invariant_of-self c = (
  makes_rests c.self.inside.heap c.self.inside.run c.perform_on.new.run c.args.command c.perform_on.result c.config-limits.ensures.limits c.self.invariant.0 c.perform_on.ensures.makes
      (subst (λ (v : SessionView). v.stats.arrivals + most_spent ≤ most_arrivals) (sym c.self.view_is) c.requires.may.arrivals),
  c.perform_on.ensures.room.0,
  subst (λ (n : ℕ). 1 < n) (sym c.perform_on.ensures.room.1) c.self.invariant.2,
)
