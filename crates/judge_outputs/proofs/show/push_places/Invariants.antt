use Rattle.std.proofs.Common.{◌≡◌, ◌++◌, take}
use Rattle.judge_outputs.specs.Show.{places_text}
use Rattle.judge_outputs.proofs.show.push_places.Given as goal

abbrev pub invariant-loop-place : goal.invariant-loop-place
invariant-loop-place l = l.text.items ≡ l.fn.text.items ++ places_text (take l.place-index l.place-items)
