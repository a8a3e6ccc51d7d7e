use Rattle.std.proofs.Common.{ap, sym, subst}
use Rattle.text_script.specs.Script.{Scripted}
use Rattle.text_script.specs.Spawning.{place_in}
use Rattle.text_script.specs.Steps.{Knows}
use Rattle.text_script.proofs.line.take_rare.Goals as goal

pub returns-in-Ok-clause-knows : goal.returns-in-Ok-clause-knows
returns-in-Ok-clause-knows c =
    subst (Knows c.args.spawns.now.named c.args.spawns.now.own) (ap (λ (t : Scripted). place_in t.sections) (sym c.in-Ok.ensures)) (c.in-Some.ensures.knows c.args.spawns.now.named c.args.spawns.now.own c.requires.knows)
