use Rattle.std.proofs.Common.{◌≡◌, ◌++◌, length, map}
use Rattle.std.specs.Vec.Iter.{into_iter_items, into_iter_len}
use Rattle.camlheap_run.specs.Readers.{read_of, whole}
use Rattle.camlheap_run.proofs.read.threads.sections_of.Given as goal

-- the sections so far, and what is still to come
abbrev pub invariant-readers : goal.invariant-readers
invariant-readers l = record {
  read : map whole l.sections.items ++ map read_of (into_iter_items l.reader-iterator) ≡ map read_of (into_iter_items l.initial.reader-iterator);
  len : into_iter_len l.reader-iterator ≡ length (into_iter_items l.reader-iterator);
}
