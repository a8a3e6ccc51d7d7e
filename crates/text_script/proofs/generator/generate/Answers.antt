use Rattle.std.proofs.Common.{◌≡◌, ap, sym, subst, ◌∙◌, arith}
use Rattle.text_script.specs.declared.version.Version.TheVariants.{One}
use Rattle.text_script.specs.Script.{Scripted}
use Rattle.text_script.specs.Spelling.{Spells, spelling}
use Rattle.text_script.specs.Generated.{generated}
use Rattle.text_script.proofs.GeneratedLemmas.{room_for_section, section_added, generated_written, generated_spelled}
use Rattle.text_script.proofs.generator.generate.Goals as goal

pub push_section-requires : goal.push_section-requires
push_section-requires c = record {
  room = room_for_section c.args.base c.loop-domain.domain c.args.domains c.args.commands c.loop-domain.script.sections c.in_ok-section.field-0.items (omega arith) c.requires.commands (ap (λ (t : Scripted). t.sections) c.loop-domain.invariant) c.in_ok-section.ensures;
}

pub loop-domain-preserved : goal.loop-domain-preserved
loop-domain-preserved c =
    let sections = section_added c.args.base c.loop-domain.domain c.args.commands c.loop-domain.script.sections c.in_ok-section.field-0.items (ap (λ (t : Scripted). t.sections) c.loop-domain.invariant) c.in_ok-section.ensures (ap (λ (t : Scripted). t.sections) c.in_ok-push_section.ensures) in
    let version = ap (λ (t : Scripted). t.version) c.in_ok-push_section.ensures ∙ ap (λ (t : Scripted). t.version) c.loop-domain.invariant in
    λ i. record { version = version i; sections = sections i }

all_sections : (c : goal.After-loop-domain) → c.loop-domain.script.sections ≡ generated c.args.base c.args.domains c.args.commands
all_sections c = ap (λ (t : Scripted). t.sections) c.loop-domain.invariant ∙ ap (λ n. generated c.args.base n c.args.commands) (omega arith)

pub returns-clause-written : goal.returns-clause-written
returns-clause-written c = generated_written c.args.base c.args.domains c.args.commands c.loop-domain.script.sections (omega arith) c.requires.domains.0 (omega arith) c.requires.commands (all_sections c)

pub returns-clause-spelled : goal.returns-clause-spelled
returns-clause-spelled c = λ newest. subst (λ (t : Scripted). Spells newest c.args.domains t (spelling One c.loop-domain.script.sections)) (λ i. record { version = sym (ap (λ (t : Scripted). t.version) c.loop-domain.invariant) i; sections = c.loop-domain.script.sections })
    (generated_spelled newest c.args.base c.args.domains c.args.commands c.loop-domain.script.sections (omega arith) c.requires.domains.0 (omega arith) c.requires.commands (all_sections c))
