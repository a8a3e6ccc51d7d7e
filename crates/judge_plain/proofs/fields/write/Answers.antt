use Rattle.std.proofs.Common.{set, ap, sym, ◌∙◌}
use Rattle.judge_plain.specs.Writes.{written_field}
use Rattle.judge_plain.proofs.CommandLemmas.{found_block, agrees_written}
use Rattle.judge_plain.proofs.fields.write.Goals as goal

pub returns-clause-reply : goal.returns-clause-reply
returns-clause-reply c =
    let x = c.index_mut-block.result.now in
    let found = found_block c.args.state.now c.args.d c.args.block c.in-Some.i x c.in-Some.ensures (rw c.graph.view_is at c.index_mut-block.ensures.value) in
    let agrees = agrees_written c.args.state.now x.0 c.in-Some.i found.place x.1 found.here c.args.index c.args.value c.requires.full c.args.expected c.requires.expects in
    c.write_field.ensures.reply ∙ agrees.reply ∙ ap (λ b. (written_field c.args.state.now c.args.index b c.args.value c.args.expected).reply) (sym found.block)

pub returns-clause-state : goal.returns-clause-state
returns-clause-state c =
    let x = c.index_mut-block.result.now in
    let found = found_block c.args.state.now c.args.d c.args.block c.in-Some.i x c.in-Some.ensures (rw c.graph.view_is at c.index_mut-block.ensures.value) in
    let agrees = agrees_written c.args.state.now x.0 c.in-Some.i found.place x.1 found.here c.args.index c.args.value c.requires.full c.args.expected c.requires.expects in
    (λ j. record c.args.state.now { graph = set (c.graph.view_is j) c.in-Some.i (x.0, c.write_field.ensures.node j) }) ∙ agrees.state ∙ ap (λ b. (written_field c.args.state.now c.args.index b c.args.value c.args.expected).state) (sym found.block)
