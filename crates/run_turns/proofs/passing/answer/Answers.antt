use Rattle.run_turns.proofs.PassingLemmas.{counts_goes_on, counts_paid}
use Rattle.run_turns.proofs.passing.answer.Goals as goal

pub answer_live-requires-clause-goes_on : goal.answer_live-requires-clause-goes_on
answer_live-requires-clause-goes_on c = counts_goes_on c.args.heap.now.config c.args.dom.now.view c.live_blocks_load-blocks.new.dom.view c.live_blocks_load-blocks.result c.live_blocks_load-blocks.ensures.told (c.requires.goes_on c.if-live.true)

pub answer_live-requires-clause-paid : goal.answer_live-requires-clause-paid
answer_live-requires-clause-paid c = counts_paid c.args.heap.now.config c.args.dom.now.view c.live_blocks_load-blocks.new.dom.view c.live_blocks_load-blocks.result c.live_blocks_load-blocks.ensures.told (c.requires.paid c.if-live.true)
