use Rattle.std.proofs.Common.{◌≡◌, ◌++◌, map, take}
use Rattle.heap_picture.specs.Sections.{stands_for}
use Rattle.heap_picture.proofs.sections.push_section.Given as goal

-- what is added so far
abbrev pub invariant-loop-command : goal.invariant-loop-command
invariant-loop-command l = l.made.items ≡ l.fn.made.items ++ map stands_for (take l.command-index l.commands)
