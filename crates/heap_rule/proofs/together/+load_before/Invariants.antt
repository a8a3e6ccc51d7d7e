use Rattle.std.proofs.Common.{length}
use Rattle.heap_rule.proofs.together.+load_before.Given as goal

abbrev pub decreases-load_before : goal.decreases-load_before
decreases-load_before g l = length l.domains.now.items
