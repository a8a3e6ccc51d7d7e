use Rattle.std.proofs.Common.{rules, ◌∙◌, ap, sym, subst}
use Rattle.text_script.specs.Script.{Scripted}
use Rattle.text_script.specs.Spawning.{place_in}
use Rattle.text_script.specs.Steps.{Knows}
use Rattle.text_script.proofs.PlaceLemmas.{place-opened}
use Rattle.text_script.proofs.HeadingLemmas.{order_read, early_read, heading_taken}
use Rattle.text_script.proofs.line.take_heading.Goals as goal

pub returns-then-unsigned_abs-sections-clause-fault : goal.returns-then-unsigned_abs-sections-clause-fault
returns-then-unsigned_abs-sections-clause-fault c =
    order_read c.args.grammar.now.version c.args.grammar.now.domains c.args.line (place_in c.args.script.now.sections) _ _ _ c.requires.domains (search rules) c.in-Some.ensures.said (search rules)

pub returns-then-not-may_begin-clause-fault : goal.returns-then-not-may_begin-clause-fault
returns-then-not-may_begin-clause-fault c =
    early_read c.args.grammar.now.version c.args.grammar.now.domains c.args.line (place_in c.args.script.now.sections) _ _ _ c.requires.domains (search rules) c.in-Some.ensures.said (search rules) (search rules)

pub returns-in-Ok-clause-ok : goal.returns-in-Ok-clause-ok
returns-in-Ok-clause-ok c =
    heading_taken c.args.grammar.now.version c.args.grammar.now.domains _ _ _ c.args.script.now.sections _ c.requires.domains (search rules) c.in-Some.ensures.said (search rules) (search rules) (ap (λ (t : Scripted). t.sections) c.in-Ok.ensures)

pub returns-in-Ok-clause-knows : goal.returns-in-Ok-clause-knows
returns-in-Ok-clause-knows c =
    subst (Knows _ _) (place-opened c.args.script.now.sections ∙ ap (λ (t : Scripted). place_in t.sections) (sym c.in-Ok.ensures)) (c.open.ensures (place_in c.args.script.now.sections) c.requires.knows)
