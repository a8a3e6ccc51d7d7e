use Rattle.run_plays.specs.Playing.{PlayerView}
use Rattle.run_plays.proofs.Logs.{closed_as}
use Rattle.run_plays.proofs.player.Player.close.Goals as goal

pub invariant_of-self : goal.invariant_of-self
invariant_of-self c =
    let p : PlayerView = record { shared = c.self.inside.run; made = c.self.inside.made.items; told = c.self.inside.told.items; awaits = c.self.inside.awaits } in
    closed_as p c.close.new.self c.close.result c.self.invariant c.close.ensures.may c.close.ensures.closed c.close.ensures.same
