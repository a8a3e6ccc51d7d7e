use Rattle.std.proofs.Common.{◌≡◌, ◌++◌, ◌≤◌, drop, length, map, reverse}
use Rattle.model_core.specs.declared.entry.Entry.TheVariants.{Last}
use Rattle.judge_plain.proofs.scheduled.lasts.push_lasts.Given as goal

-- the registrations at the greatest places stand there
abbrev pub invariant-left : goal.invariant-left
invariant-left l = (l.entries.items ≡ l.fn.entries.items ++ map (λ p. Last l.domain p) (reverse (drop l.left l.places))) × (l.left ≤ length l.places)

abbrev pub decreases-left : goal.decreases-left
decreases-left l = l.left
