use Rattle.std.proofs.Common.{length}
use Rattle.text_script.proofs.OfSchedule.OfText.ReadingLemmas.{ReadTo}
use Rattle.text_script.proofs.schedule.text.reading.read_items.Given as goal

-- what was read is spelled as the items so far, and none of its lines is wrong
abbrev pub invariant-lines : goal.invariant-lines
invariant-lines l = ReadTo l.domains l.bytes l.behind l.list.items l.rest

abbrev pub decreases-lines : goal.decreases-lines
decreases-lines l = length l.rest
