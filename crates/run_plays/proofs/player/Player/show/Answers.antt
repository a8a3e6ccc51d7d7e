use Rattle.run_plays.specs.Playing.{PlayerView}
use Rattle.run_plays.proofs.Logs.{shown_as}
use Rattle.run_plays.proofs.player.Player.show.Goals as goal

pub invariant_of-self : goal.invariant_of-self
invariant_of-self c =
    let p : PlayerView = record { shared = c.self.inside.run; made = c.self.inside.made.items; told = c.self.inside.told.items; awaits = c.self.inside.awaits } in
    shown_as p c.show.new.self c.show.result c.self.invariant c.show.ensures.heap c.show.ensures.looked c.show.ensures.same
