use Rattle.std.proofs.Common.{◌+◌, ◌<◌, ◌≤◌, ◌^◌, ℕ, arith}
use Rattle.heap_rule.specs.Pools.{blocks_of}
use Rattle.heap_rule.proofs.Classes.{some_block}
use Rattle.step_pools.proofs.walking.PassingPlace.passed.Goals as goal

pub overflow_add-self : goal.overflow_add-self
overflow_add-self c =
    let n : ℕ = blocks_of c.args.self.class in
    let few : n ≤ 1024 = (some_block c.args.self.class c.requires.class).1 in
    let low : c.args.self.slot < n = c.requires.slot in
    let g : c.args.self.slot + 1 < 2 ^ 32 = omega arith in record { fits = g }
