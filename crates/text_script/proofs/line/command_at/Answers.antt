use Rattle.std.proofs.Common.{rules, drop, take, length}
use Rattle.text_script.specs.Spawning.{place_in}
use Rattle.text_script.proofs.LineLemmas.{range_read, command_read}
use Rattle.text_script.proofs.line.command_at.Goals as goal

pub returns-in-Some-first_out_of_range-clause-fault : goal.returns-in-Some-first_out_of_range-clause-fault
returns-in-Some-first_out_of_range-clause-fault c =
    range_read c.args.grammar.now.version c.args.grammar.now.domains _ (place_in c.args.script.now.sections) c.args.word (drop c.args.at c.args.bytes.now) c.operands_of-operands.result.now (take (length c.operands_of-operands.result.now) c.in-Some.row.numbers) (drop c.in-Some.row.next c.args.bytes.now) _
    c.operands_of-operands.ensures c.in-Some.ensures.value (search rules) (search rules) c.in-Some-first_out_of_range.ensures

pub returns-in-None-clause-says : goal.returns-in-None-clause-says
returns-in-None-clause-says c =
    command_read c.args.grammar.now.version c.args.grammar.now.domains c.args.word (drop c.args.at c.args.bytes.now) c.operands_of-operands.result.now c.in-Some.row.numbers (drop c.in-Some.row.next c.args.bytes.now) _ _ c.operands_of-operands.ensures c.in-Some.ensures.four
    c.in-Some.ensures.value (search rules) (search rules) c.in-None.ensures c.make.ensures
