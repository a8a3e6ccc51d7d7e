use Rattle.std.proofs.Common.{◌≡◌, take, map}
use Rattle.judge_outputs.specs.Texts.Keys.{left_at}
use Rattle.judge_outputs.proofs.texts.places.without_key.Given as goal

abbrev pub invariant-loop-place : goal.invariant-loop-place
invariant-loop-place l = l.left.items ≡ map (left_at l.fn.key) (take l.place-index l.places)
