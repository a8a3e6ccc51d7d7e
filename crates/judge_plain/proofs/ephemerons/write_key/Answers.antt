use Rattle.std.proofs.Common.{set, ap, sym, ◌∙◌}
use Rattle.model_core.specs.Commands.{at_ephe, key_set}
use Rattle.judge_plain.proofs.CommandLemmas.{found_block, agrees_key}
use Rattle.judge_plain.proofs.ephemerons.write_key.Goals as goal

pub returns-clause-state : goal.returns-clause-state
returns-clause-state c =
    let x = c.index_mut-block.result.now in
    let found = found_block c.args.state.now c.args.d c.args.ephe c.in-Some.i x c.in-Some.ensures (rw c.graph.view_is at c.index_mut-block.ensures.value) in
    let agrees = agrees_key c.args.state.now x.0 c.in-Some.i found.place x.1 found.here c.args.index c.args.key in
    (λ j. record c.args.state.now { graph = set (c.graph.view_is j) c.in-Some.i (x.0, c.write_key_in.ensures.node j) }) ∙ agrees.state ∙ ap (λ b. (at_ephe c.args.state.now b (key_set c.args.state.now c.args.index c.args.key)).state) (sym found.block)
