use Rattle.std.proofs.Common.{◌≡◌, ◌++◌, [], arith}
use Rattle.model_core.specs.Output.{line}
use Rattle.text_script.specs.declared.section.NoSection.TheVariants.{Refused}
use Rattle.text_script.specs.Spawning.{start}
use Rattle.text_script.specs.Spelling.{heading_text}
use Rattle.text_script.proofs.SoleLemmas.{sole_read, sole_alone, sole_sound, sole_whole}
use Rattle.text_script.proofs.section.read_section.Goals as goal

pub read_on-requires-clause-knows : goal.read_on-requires-clause-knows
read_on-requires-clause-knows c = rw c.in_ok-script.ensures.sections (c.open.ensures start c.new-spawns.ensures)

pub returns-in-Some-clause-found : goal.returns-in-Some-clause-found
returns-in-Some-clause-found c =
    let written = rw (c.new-grammar.ensures.version, c.new-grammar.ensures.domains) at c.in-Ok.ensures.written in
    let found = rw (c.new-grammar.ensures.version, c.in_ok-script.ensures.sections) at c.in-Ok.ensures.found in
    sole_read c.args.version c.args.domains c.args.lines.now c.in-Ok.script.sections c.in-Some.section.items written found c.in-Some.ensures.one

pub returns-in-Err-clause-only : goal.returns-in-Err-clause-only
returns-in-Err-clause-only c = λ cs refused text.
    let is : c.no_section.result ≡ Refused = cc in
    let fault = rw (c.new-grammar.ensures.version, c.new-grammar.ensures.domains, c.in_ok-script.ensures.sections) at c.in-Err.ensures.fault in
    sole_sound c.args.version c.args.domains c.args.lines.now c.in-Err.fault cs (omega arith) (c.no_section.ensures.refused is)
    (fault ((line (heading_text 0) ++ []) ++ c.args.lines.now) (sole_whole c.args.version c.args.lines.now)) text

pub returns-in-None-clause-only : goal.returns-in-None-clause-only
returns-in-None-clause-only c = λ cs refused text.
    let written = rw (c.new-grammar.ensures.version, c.new-grammar.ensures.domains) at c.in-Ok.ensures.written in
    let found = rw (c.new-grammar.ensures.version, c.in_ok-script.ensures.sections) at c.in-Ok.ensures.found in
    c.in-None.ensures.others (sole_alone c.args.version c.args.domains c.args.lines.now c.in-Ok.script.sections cs (omega arith) written found text)
