use Rattle.std.proofs.Common.{refl, sym, subst, ◌∙◌}
use Rattle.std.specs.Prelude.{Option}
use Rattle.model_core.specs.declared.reply.Reply.{Reply}
use Rattle.heap_rule.specs.Limits.{sizes_in}
use Rattle.run_turns.specs.Runs.{IsHandedIn}
use Rattle.run_turns.specs.Singly.Driving.{AwaitAnswers}
use Rattle.run_turns.proofs.Adding.{adds_nowhere, adds_on, turn_adds}
use Rattle.run_turns.proofs.singly.waiting.await_reply.Goals as goal

pub returns-in-Some-reply-clause-answered : goal.returns-in-Some-reply-clause-answered
returns-in-Some-reply-clause-answered g c = λ start command awaits. subst (λ (o : Option Reply). AwaitAnswers c.args.heap.now start command c.await_turn-came.new.run o) c.in-Some-reply.is (c.await_turn-came.ensures.answers start command (c.turns.invariant.1 start command awaits))

pub turns-init : goal.turns-init
turns-init g c = (c.requires.here, (λ start command awaits. awaits), (λ handed. adds_nowhere (sizes_in c.args.heap.now.config) c.args.run.now), refl, c.requires.fits, refl)

pub turns-preserved : goal.turns-preserved
turns-preserved g c =
    let supply = c.turns.invariant.3 in (
      c.await_turn-came.ensures.here,
      (λ start command awaits. subst (λ (o : Option Reply). AwaitAnswers c.args.heap.now start command c.await_turn-came.new.run o) c.in_default.is (c.await_turn-came.ensures.answers start command (c.turns.invariant.1 start command awaits))),
      (λ handed. adds_on (sizes_in c.args.heap.now.config) c.args.run.now c.turns.run c.await_turn-came.new.run (c.turns.invariant.2 handed) (turn_adds (sizes_in c.args.heap.now.config) c.turns.run c.await_turn-came.new.run (subst IsHandedIn (sym supply) handed) c.await_turn-came.ensures.goes_on c.await_turn-came.ensures.stretch)),
      c.await_turn-came.ensures.goes_on.supply ∙ supply,
      c.behind_turn.ensures.fits,
      c.behind_turn.ensures.same ∙ c.turns.invariant.5,
    )

pub returns-in-Some-reply-clause-ran : goal.returns-in-Some-reply-clause-ran
returns-in-Some-reply-clause-ran g c = λ handed.
    adds_on (sizes_in c.args.heap.now.config) c.args.run.now c.turns.run c.await_turn-came.new.run (c.turns.invariant.2 handed) (turn_adds (sizes_in c.args.heap.now.config) c.turns.run c.await_turn-came.new.run (subst IsHandedIn (sym c.turns.invariant.3) handed) c.await_turn-came.ensures.goes_on c.await_turn-came.ensures.stretch)
