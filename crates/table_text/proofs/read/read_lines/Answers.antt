use Rattle.std.proofs.Common.{◌≡◌, ap, sym, ◌∙◌, ◌++◌, ◌∷◌, [], arith, rules, length, length-append}
use Rattle.std.specs.Prelude.{List}
use Rattle.std.specs.List.{list_all}
use Rattle.table_text.specs.declared.line.TableLine.{TableLine}
use Rattle.table_text.specs.Forms.{is_writable}
use Rattle.table_text.specs.Texts.{most_lines}
use Rattle.table_text.specs.Spelling.{spelled}
use Rattle.table_text.proofs.ReadLemmas.{moved_on, faults_on, fault_read, end_read}
use Rattle.table_text.proofs.WritableLemmas.{writable-push}
use Rattle.table_text.proofs.read.read_lines.Goals as goal

pub returns-in-Err-clause-fault : goal.returns-in-Err-clause-fault
returns-in-Err-clause-fault c = fault_read (most_lines c.args.version) c.lines.before _ c.lines.rest.now c.in-Some.text.now c.in-Some.tail.now c.in-Err.fault c.lines.invariant.faults c.in-Some.ensures.value c.in-Err.ensures.fault

pub lines-preserved : goal.lines-preserved
lines-preserved c =
    let v = c.args.version in
    let i = c.lines.invariant in
    let l = c.in-Ok.line in
    let pushed : c.push.new.self.lines ≡ c.lines.lines.lines ++ l ∷ [] = search rules in
    let kept : c.push.new.self.version ≡ c.lines.lines.version = c.push.ensures.version in
    record {
      same = kept ∙ i.same;
      text = moved_on v _ c.lines.rest.now c.in-Some.text.now c.in-Some.tail.now c.lines.lines.lines l i.text c.in-Some.ensures.value c.in-Ok.ensures.text ∙ ap (λ (ls : List TableLine). spelled v ls ++ c.in-Some.tail.now) (sym pushed);
      writable = ap (list_all is_writable) pushed ∙ writable-push c.lines.lines.lines l i.writable c.in-Ok.ensures.fits;
      number = omega (arith, i.number, ap length pushed, length-append c.lines.lines.lines (l ∷ []));
      few = omega (arith, c.in-Ok.ensures.few);
      faults = i.faults ∙ faults_on (most_lines v) c.lines.before c.lines.rest.now c.in-Some.text.now c.in-Some.tail.now l c.in-Some.ensures.value c.in-Ok.ensures.text c.in-Ok.ensures.fits c.in-Ok.ensures.few;
    }

pub returns-else-is_empty-clause-fault : goal.returns-else-is_empty-clause-fault
returns-else-is_empty-clause-fault c = end_read (most_lines c.args.version) c.lines.before _ c.lines.rest.now c.lines.invariant.faults c.in_default.ensures.value c.if-is_empty.ensures
