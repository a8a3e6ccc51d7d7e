use Rattle.std.proofs.Common.{◌≡◌, ◌≤◌, ◌++◌, length, map, sum_by}
use Rattle.std.specs.Vec.Iter.{into_iter_items, into_iter_len}
use Rattle.text_script.proofs.section.join_sections.Given as goal

-- the sections so far, and those that are still to come
abbrev pub invariant-loop-section : goal.invariant-loop-section
invariant-loop-section l = record {
  version : l.script.version ≡ l.fn.version;
  joined : l.script.sections ++ map (λ v. v.items) (into_iter_items l.section-iterator) ≡ map (λ v. v.items) (into_iter_items l.initial.section-iterator);
  few : sum_by length l.script.sections ≤ 200000;
  len : into_iter_len l.section-iterator ≡ length (into_iter_items l.section-iterator);
}
