use Rattle.std.proofs.Common.{◌≡◌, ◌+◌, ◌-◌, length, take, drop}
use Rattle.std.specs.Prelude.{bytes_eq}
use Rattle.text_script.proofs.text.stands_at.Given as goal

-- what is left to compare decides
abbrev pub invariant-loop-place : goal.invariant-loop-place
invariant-loop-place l = bytes_eq (take (length l.text) (drop l.at l.bytes)) l.text ≡ bytes_eq (take (length l.text - l.place) (drop (l.at + l.place) l.bytes)) (drop l.place l.text)
