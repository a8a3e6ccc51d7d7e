use Rattle.std.proofs.Common.{refl}
use Rattle.model_core.specs.declared.command.Command.TheVariants.{Load}
use Rattle.model_core.specs.declared.reply.Applied.TheVariants.{Replied}
use Rattle.model_laws.proofs.OfReach.WalkSteps.{walks_once}
use Rattle.model_laws.proofs.OfReach.LoadSteps.{walk_load}
use Rattle.model_laws.proofs.reach.exploring.load.Goals as goal

pub returns-in-Some-clause-loaded : goal.returns-in-Some-clause-loaded
returns-in-Some-clause-loaded g c = λ walked. walk_load (g.M.Walker.sizes c.args.m.now) (g.M.Walker.number c.args.m.now) (g.M.Walker.front c.args.m.now) (g.M.Walker.front c.perform.new.self) c.args.dst c.args.index c.in-Some.reply c.shows_limits.ensures.limits c.requires.hand c.in-Some.ensures.made walked

pub returns-in-Some-clause-on : goal.returns-in-Some-clause-on
returns-in-Some-clause-on g c = record {
  home = c.perform.ensures.home;
  sizes = c.perform.ensures.sizes;
  number = c.perform.ensures.number;
  walks = walks_once (g.M.Walker.sizes c.args.m.now) (g.M.Walker.number c.args.m.now) (g.M.Walker.front c.args.m.now) (g.M.Walker.front c.perform.new.self) (Load c.args.dst 14 c.args.index) (Replied c.in-Some.reply) c.requires.hand refl c.in-Some.ensures.made;
}
