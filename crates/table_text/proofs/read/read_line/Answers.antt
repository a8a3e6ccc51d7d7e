use Rattle.std.proofs.Common.{rules, ◌≡◌, ◌+◌, List, ℤ, sym, subst, Some, IfErr}
use Rattle.std.specs.Prelude.{Option}
use Rattle.text_script.specs.declared.fault.ScriptFault.{ScriptFault}
use Rattle.table_text.specs.Texts.{most_lines}
use Rattle.table_text.specs.Faults.{SaysRow}
use Rattle.table_text.proofs.LineLemmas.{line_read, row_fault}
use Rattle.table_text.proofs.read.read_line.Goals as goal

row : (c : goal.After-line_of_row) → SaysRow c.args.text.now c.in-Some.word c.as_slice.result.now
row c = subst (λ (ns : List ℤ). SaysRow c.args.text.now c.in-Some.word ns) (sym c.as_slice.ensures.value) c.in-Some.ensures.row

pub returns-in-Some-clause-text : goal.returns-in-Some-clause-text
returns-in-Some-clause-text c =
    line_read c.line_of_row.result c.args.text.now c.in-Some.word c.as_slice.result.now (most_lines c.args.version) (c.args.before + 2) c.args.before (row c) (search rules) (search rules) (search rules)

pub returns-in-Some-clause-fault : goal.returns-in-Some-clause-fault
returns-in-Some-clause-fault c =
    let same = row_fault c.args.text.now c.in-Some.word c.as_slice.result.now (most_lines c.args.version) (c.args.before + 2) c.args.before (row c) in
    subst (λ (o : Option ScriptFault). IfErr c.line_of_row.result (λ e. o ≡ Some e)) (sym same) (search rules)
