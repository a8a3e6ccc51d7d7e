use Rattle.std.proofs.Common.{sym, subst, List, None}
use Rattle.model_core.specs.declared.command.Command as model
use Rattle.model_core.specs.declared.reply.Reply.{Reply}
use Rattle.run_plays.specs.Playing.{IsPlayed}
use Rattle.run_plays.proofs.Logs.{begins}
use Rattle.run_plays.proofs.player.Player.of.Goals as goal

pub invariant_of-result : goal.invariant_of-result
invariant_of-result c = subst (λ (w : List (model.Command × Reply) × List Reply). IsPlayed (record { shared = c.args.run; made = w.0; told = w.1; awaits = None })) (λ i. (sym c.new.ensures.items i, sym c.new-2.ensures.items i)) (begins c.args.run c.requires.new)
