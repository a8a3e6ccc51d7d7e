use Rattle.std.proofs.Common.{arith, ◌∙◌, ap, drop, length, length-append, ◌∷◌, []}
use Rattle.std.proofs.lemmas.List.{length-drop}
use Rattle.text_script.specs.Spelling.{script_lines}
use Rattle.text_script.proofs.ReadLemmas.{said_taken, said_fault}
use Rattle.text_script.proofs.read.read_on.Goals as goal

pub returns-in-Err-clause-fault : goal.returns-in-Err-clause-fault
returns-in-Err-clause-fault c = λ whole said.
    let i = c.lines.invariant in
    said_fault c.args.grammar.now.version c.args.grammar.now.domains c.lines.line c.lines.script.sections whole (drop c.lines.at c.args.behind.now) c.in-Err.fault c.requires.domains i.is_written (said ∙ i.spelled) i.number
    (omega (arith, length-drop c.lines.at c.args.behind.now, c.lines-test.true)) c.in-Err.ensures.fault

pub lines-preserved : goal.lines-preserved
lines-preserved c =
    let i = c.lines.invariant in
    let taken = said_taken c.args.grammar.now.version c.args.grammar.now.domains c.lines.script.sections c.take_line.new.script.sections _ (drop c.lines.at c.args.behind.now) _ c.requires.domains i.is_written i.spelled c.in-Ok.ensures.ok in
    record {
      version = c.in-Ok.ensures.version ∙ i.version;
      spelled = taken.2;
      is_written = taken.1.is_written;
      number = omega (arith, ap length taken.1.lines, length-append (script_lines c.args.grammar.now.version c.lines.script.sections) (taken.0 ∷ []), i.number);
      knows = c.in-Ok.ensures.knows;
      few = omega (arith, i.few, c.in-Ok.ensures.further);
      inside = c.in-Ok.ensures.within;
    }
