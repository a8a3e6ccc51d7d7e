use Rattle.std.proofs.Common.{◌≡◌, ◌++◌, map, take}
use Rattle.model_core.specs.Commands.{key_value}
use Rattle.judge_plain.proofs.opened.add_keys.Given as goal

-- the values so far
abbrev pub invariant-loop-key : goal.invariant-loop-key
invariant-loop-key l = l.values.items ≡ l.fn.values.items ++ map key_value (take l.key-index l.keys)
