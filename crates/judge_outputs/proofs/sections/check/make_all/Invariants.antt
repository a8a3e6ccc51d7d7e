use Rattle.std.proofs.Common.{◌≡◌, ℕ, ◌<◌, List, map, slice_get, Some}
use Rattle.table_text.specs.declared.line.TableLine.{TableLine}
use Rattle.judge_outputs.specs.Sections.Turns.{lines_of}
use Rattle.judge_outputs.proofs.sections.check.make_all.Given as goal

abbrev pub invariant-loop-domain : goal.invariant-loop-domain
invariant-loop-domain l = (d : ℕ) (lines : List TableLine) → d < l.domain → slice_get (map (λ v. v.items) l.sections) d ≡ Some lines → lines_of d l.turns ≡ lines
