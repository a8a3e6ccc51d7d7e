use Rattle.std.proofs.Common.{refl}
use Rattle.model_core.specs.declared.command.Command.TheVariants.{Copy}
use Rattle.model_core.specs.declared.reply.Applied.TheVariants.{Replied}
use Rattle.model_laws.proofs.OfReach.WalkSteps.{walks_once}
use Rattle.model_laws.proofs.OfReach.LoadSteps.{walk_copy}
use Rattle.model_laws.proofs.reach.exploring.take_up.Goals as goal

pub returns-in-Some-clause-copied : goal.returns-in-Some-clause-copied
returns-in-Some-clause-copied g c = λ walked. walk_copy (g.M.Walker.sizes c.args.m.now) (g.M.Walker.number c.args.m.now) (g.M.Walker.front c.args.m.now) (g.M.Walker.front c.perform.new.self) c.args.src c.in-Some.field-0 c.shows_limits.ensures.limits c.in-Some.ensures.made walked

pub returns-in-Some-clause-on : goal.returns-in-Some-clause-on
returns-in-Some-clause-on g c = record {
  home = c.perform.ensures.home;
  sizes = c.perform.ensures.sizes;
  number = c.perform.ensures.number;
  walks = walks_once (g.M.Walker.sizes c.args.m.now) (g.M.Walker.number c.args.m.now) (g.M.Walker.front c.args.m.now) (g.M.Walker.front c.perform.new.self) (Copy 14 c.args.src) (Replied c.in-Some.field-0) refl refl c.in-Some.ensures.made;
}
