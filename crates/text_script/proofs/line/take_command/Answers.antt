use Rattle.std.proofs.Common.{◌∙◌, ap, sym, subst}
use Rattle.text_script.specs.Script.{Scripted}
use Rattle.text_script.specs.Spawning.{place_in}
use Rattle.text_script.specs.Steps.{Knows}
use Rattle.text_script.proofs.PlaceLemmas.{place-called}
use Rattle.text_script.proofs.line.take_command.Goals as goal

pub returns-in-Ok-push-clause-knows : goal.returns-in-Ok-push-clause-knows
returns-in-Ok-push-clause-knows c =
    subst (Knows _ _) (place-called c.args.script.now.sections _ c.in-Ok.ensures.says.begun ∙ ap (λ (t : Scripted). place_in t.sections) (sym c.in-Ok-push.ensures)) (c.call.ensures (place_in c.args.script.now.sections) c.requires.knows)
