use Rattle.std.proofs.Common.{◌≡◌, sym, ◌∙◌, arith, subst, IfErr, Some, None}
use Rattle.std.specs.Prelude.{Option}
use Rattle.text_script.specs.declared.fault.ScriptFault.{ScriptFault}
use Rattle.text_script.specs.Faults.{IsFaultUnlessMemory}
use Rattle.table_text.specs.Faults.{version_of}
use Rattle.table_text.proofs.ReadLemmas.{no_line, wrong_first_line, first_read, all_read}
use Rattle.table_text.proofs.read.text_or_fault.Goals as goal

pub returns-in_default-clause-fault : goal.returns-in_default-clause-fault
returns-in_default-clause-fault c = no_line c.args.bytes.now (omega arith) c.in_default.ensures.value

pub returns-in_default-version_of-clause-fault : goal.returns-in_default-version_of-clause-fault
returns-in_default-version_of-clause-fault c =
    let other : version_of c.in-Some.first.now ≡ None = sym c.version_of.ensures ∙ c.in_default-version_of.is in
    wrong_first_line c.args.bytes.now c.in-Some.first.now c.in-Some.behind.now (omega arith) c.in-Some.ensures.value other

pub returns-clause-found : goal.returns-clause-found
returns-clause-found c =
    let named : version_of c.in-Some.first.now ≡ Some c.in-Some-version_of.version = sym c.version_of.ensures ∙ c.in-Some-version_of.is in
    let read = first_read c.in-Some-version_of.version c.args.bytes.now c.in-Some.first.now c.in-Some.behind.now (omega arith) c.in-Some.ensures.value named in
    all_read c.in-Some-version_of.version c.args.bytes.now c.in-Some.behind.now c.read_lines.result (omega arith) read.0 c.read_lines.ensures.found c.read_lines.ensures.writable c.read_lines.ensures.few

pub returns-clause-fault : goal.returns-clause-fault
returns-clause-fault c =
    let named : version_of c.in-Some.first.now ≡ Some c.in-Some-version_of.version = sym c.version_of.ensures ∙ c.in-Some-version_of.is in
    let read = first_read c.in-Some-version_of.version c.args.bytes.now c.in-Some.first.now c.in-Some.behind.now (omega arith) c.in-Some.ensures.value named in
    subst (λ (o : Option ScriptFault). IfErr c.read_lines.result (λ e. IsFaultUnlessMemory e o)) (sym read.1) c.read_lines.ensures.fault
