use Rattle.std.proofs.Common.{◌≡◌, ◌≢◌, ◌⊎◌, ◌∙◌, None, ap, subst, sym}
use Rattle.heap_rule.specs.Token.{IsIn}
use Rattle.run_turns.specs.Runs.{IsRun, RunView, halted}
use Rattle.run_alone.specs.Lone.{IsPausing}
use Rattle.run_alone.proofs.Served.{begins, serves_on}
use Rattle.run_alone.proofs.serving.serve.Goals as goal

pub returns-clause-serves : goal.returns-clause-serves
returns-clause-serves c =
    let q : c.halt.new.self ≡ halted c.args.run = c.halt.ensures.run ∙ ap halted c.look_at_queue.ensures.same in
    serves_on c.args.heap.now c.args.complete c.args.run c.pause.result c.config-limits.ensures.limits c.requires.lone c.requires.runs c.requires.wants
    (subst (λ (x : RunView). IsIn x.token c.args.heap.now) q c.halt.ensures.here) c.look_at_queue.ensures.queue
    (subst (λ (x : RunView). IsPausing c.args.heap.now c.args.complete x c.pause.result) q c.pause.ensures.paused)
    (subst (λ (x : RunView). (c.pause.result.next ≢ x.next) ⊎ (c.pause.result.left ≡ None)) q c.pause.ensures.ends)

pub pause-requires-clause-begun : goal.pause-requires-clause-begun
pause-requires-clause-begun c =
    let q : c.halt.new.self ≡ halted c.args.run = c.halt.ensures.run ∙ ap halted c.look_at_queue.ensures.same in
    subst (λ (x : RunView). IsPausing c.args.heap.now c.args.complete x x) (sym q)
    (begins c.args.heap.now c.args.complete c.args.run c.requires.lone c.requires.runs (subst (λ (x : RunView). IsIn x.token c.args.heap.now) q c.halt.ensures.here) (subst IsRun q c.shows_faithful.ensures))
