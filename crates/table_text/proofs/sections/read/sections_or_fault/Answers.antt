use Rattle.std.proofs.Common.{◌≡◌, false, true, arith, rules, subst, sym, IfErr}
use Rattle.std.specs.Prelude.{Option, bytes_eq}
use Rattle.text_script.specs.declared.fault.ScriptFault.{ScriptFault}
use Rattle.text_script.specs.Faults.{IsFaultUnlessMemory}
use Rattle.table_text.specs.declared.version.Version.TheVariants.{Two}
use Rattle.table_text.specs.Spelling.{first_line}
use Rattle.table_text.proofs.OfSections.ReadLemmas.{all_read, first_read, no_line, wrong_first_line}
use Rattle.table_text.proofs.sections.read.sections_or_fault.Goals as goal

pub returns-in_default-clause-fault : goal.returns-in_default-clause-fault
returns-in_default-clause-fault c = no_line c.args.domains c.args.bytes.now (omega arith) c.in_default.ensures.value

pub returns-then-ne-clause-fault : goal.returns-then-ne-clause-fault
returns-then-ne-clause-fault c =
    let other : bytes_eq c.in-Some.first.now (first_line Two) ≡ false = search rules in
    wrong_first_line c.args.domains c.args.bytes.now c.in-Some.first.now c.in-Some.behind.now (omega arith) c.in-Some.ensures.value other

pub returns-clause-found : goal.returns-clause-found
returns-clause-found c =
    let same : bytes_eq c.in-Some.first.now (first_line Two) ≡ true = search rules in
    let read = first_read c.args.domains c.args.bytes.now c.in-Some.first.now c.in-Some.behind.now (omega arith) c.in-Some.ensures.value same in
    all_read c.args.domains c.args.bytes.now c.in-Some.behind.now c.read_behind.result (omega arith) read.0 c.read_behind.ensures.found

pub returns-clause-fault : goal.returns-clause-fault
returns-clause-fault c =
    let same : bytes_eq c.in-Some.first.now (first_line Two) ≡ true = search rules in
    let read = first_read c.args.domains c.args.bytes.now c.in-Some.first.now c.in-Some.behind.now (omega arith) c.in-Some.ensures.value same in
    subst (λ (o : Option ScriptFault). IfErr c.read_behind.result (λ e. IsFaultUnlessMemory e o)) (sym read.1) c.read_behind.ensures.fault
