use Rattle.std.proofs.Common.{rules, ◌+◌, length, drop}
use Rattle.text_script.specs.Steps.{row_said, Says}
use Rattle.text_script.proofs.LineLemmas.{command_read}
use Rattle.text_script.proofs.CommonLemmas.{first_taken, first_known}
use Rattle.text_script.proofs.line.row_command.Goals as goal

says : (c : goal.After-make) → Says c.args.grammar.now.version c.args.grammar.now.domains (row_said c.args.word (drop (c.args.at + length c.text_of-text.result.now) c.args.bytes.now)) (drop c.in_ok-row.row.next c.args.bytes.now) c.args.script.now.sections c.args.word c.make.result
says c =
    command_read c.args.grammar.now.version c.args.grammar.now.domains c.args.word (drop (c.args.at + length c.text_of-text.result.now) c.args.bytes.now) c.operands_of-operands.result.now c.in_ok-row.row.numbers (drop c.in_ok-row.row.next c.args.bytes.now) _ _ c.operands_of-operands.ensures c.in_ok-row.ensures.four
    c.in_ok-row.ensures.value (search rules) c.requires.room (search rules) c.make.ensures

pub returns-in-None-clause-takes : goal.returns-in-None-clause-takes
returns-in-None-clause-takes c =
    first_taken c.args.grammar.now.version c.args.grammar.now.domains c.args.word c.args.at c.args.bytes.now c.text_of-text.result.now _ c.args.script.now.sections c.make.result c.text_of-text.ensures.text c.requires.first (search rules) (says c)

pub returns-in-None-clause-knows : goal.returns-in-None-clause-knows
returns-in-None-clause-knows c = λ named own known.
    first_known c.args.grammar.now.version c.args.grammar.now.domains c.args.word _ _ c.args.script.now.sections c.make.result named own c.requires.first (says c) known
