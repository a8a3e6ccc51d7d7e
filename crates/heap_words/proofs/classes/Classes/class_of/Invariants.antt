use Rattle.std.proofs.Common.{◌<◌, ℕ}
use Rattle.std.specs.Prelude.{slice_index}
use Rattle.heap_words.proofs.classes.Classes.class_of.Given as goal

abbrev pub invariant-loop-class : goal.invariant-loop-class
invariant-loop-class g l = (j : ℕ) → j < l.class → slice_index l.self.sizes j < l.words
