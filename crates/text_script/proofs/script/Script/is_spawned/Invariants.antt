use Rattle.std.proofs.Common.{◌≡◌, drop}
use Rattle.text_script.specs.Spawning.{is_spawned}
use Rattle.text_script.proofs.script.Script.is_spawned.Given as goal

-- no section before the place has such a spawn
abbrev pub invariant-loop-at : goal.invariant-loop-at
invariant-loop-at l = is_spawned l.self.sections l.d ≡ is_spawned (drop l.at l.self.sections) l.d
