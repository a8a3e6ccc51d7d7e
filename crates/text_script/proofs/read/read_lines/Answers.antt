use Rattle.std.proofs.Common.{◌≡◌, ◌≤◌, ◌∷◌, [], ℕ, Some, sym, ap, ◌∙◌, subst}
use Rattle.text_script.specs.declared.version.Version.{Version}
use Rattle.text_script.specs.Forms.{version_number, first_line}
use Rattle.text_script.specs.Script.{Scripted}
use Rattle.text_script.specs.Spelling.{IsWritten, spelling}
use Rattle.std.specs.Prelude.{Option, ◌==◌}
use Rattle.std.specs.List.{slice_split}
use Rattle.std.proofs.lemmas.Result.{IfOk-weaker}
use Rattle.text_script.specs.declared.fault.ScriptFault.{ScriptFault}
use Rattle.text_script.specs.Faults.{fault_from, IsFaultUnlessMemory, read_version}
use Rattle.text_script.proofs.ReadLemmas.{no_line, wrong_first_line, first_read}
use Rattle.text_script.proofs.read.read_lines.Goals as goal

pub returns-in_default-clause-fault : goal.returns-in_default-clause-fault
returns-in_default-clause-fault c = no_line c.args.newest c.args.domains c.args.bytes.now c.requires c.in_default.ensures.value

pub returns-in_default-read_version-clause-fault : goal.returns-in_default-read_version-clause-fault
returns-in_default-read_version-clause-fault c = wrong_first_line c.args.newest c.args.domains c.args.bytes.now c.in-Some.first.now c.in-Some.behind.now c.requires c.in-Some.ensures.value (sym c.in_default-read_version.ensures)

pub returns-in-Ok-clause-found : goal.returns-in-Ok-clause-found
returns-in-Ok-clause-found c =
    let ver = c.new-grammar.result.version in
    let named : read_version c.args.newest c.in-Some.first.now ≡ Some ver = sym c.in-Some-read_version.ensures ∙ ap Some (sym c.new-grammar.ensures.version) in
    let first = first_read c.args.newest ver c.args.domains c.args.bytes.now c.in-Some.first.now c.in-Some.behind.now c.requires c.in-Some.ensures.value named in
    IfOk-weaker c.with_all_sections.result _ _ (λ s e.
    let same : ver ≡ s.version = sym (ap (λ (t : Scripted). t.version) e ∙ c.in-Ok.ensures.version) in
    record {
      is_read = subst (λ (v : Version). version_number v ≤ version_number c.args.newest) same first.0;
      written = c.in-Ok.script.sections;
      is_written = subst (λ (v : Version). IsWritten v c.args.domains c.in-Ok.script.sections) same (subst (λ (d : ℕ). IsWritten ver d c.in-Ok.script.sections) c.new-grammar.ensures.domains c.in-Ok.ensures.written);
      bytes_are = first.1 ∙ c.in-Ok.ensures.found ∙ ap (λ (v : Version). spelling v c.in-Ok.script.sections) same;
      few_bytes = c.requires;
      script_is = ap (λ (t : Scripted). t.sections) e;
    }) c.with_all_sections.ensures.ok

pub returns-in-Err-clause-fault : goal.returns-in-Err-clause-fault
returns-in-Err-clause-fault c =
    let ver = c.new-grammar.result.version in
    let named : read_version c.args.newest c.in-Some.first.now ≡ Some ver = sym c.in-Some-read_version.ensures ∙ ap Some (sym c.new-grammar.ensures.version) in
    let first = first_read c.args.newest ver c.args.domains c.args.bytes.now c.in-Some.first.now c.in-Some.behind.now c.requires c.in-Some.ensures.value named in
    subst (λ (o : Option ScriptFault). IsFaultUnlessMemory c.in-Err.fault o) (sym first.2)
    (subst (λ (d : ℕ). IsFaultUnlessMemory c.in-Err.fault (fault_from ver d (first_line ver ∷ []) (slice_split (λ b. b == 10) c.in-Some.behind.now))) c.new-grammar.ensures.domains c.in-Err.ensures.fault)
