use Rattle.std.proofs.Common.{inl, inr, refl}
use Rattle.gc_mark.proofs.Addresses.{no_place}
use Rattle.gc_mark.proofs.looking.slot_at.Goals.{then-at-first-ne0-via-then-at-first-ne0, then-at-first-ne0-via-else-at-first-ne0+then-slot-class_blocks}
use Rattle.gc_mark.proofs.looking.slot_at.Goals as goal

pub returns-then-at-first-ne0 : goal.returns-then-at-first-ne0
returns-then-at-first-ne0 c = elim c.then-at-first-ne0.branch [
  | then-at-first-ne0-via-then-at-first-ne0 w ↦ no_place c.args.at c.args.pool c.args.class c.class_size-size.result _ c.class_size-size.ensures.value c.class_size-size.ensures.some.0 refl (inl w.if-at-first-ne0.true)
  | then-at-first-ne0-via-else-at-first-ne0+then-slot-class_blocks w ↦ no_place c.args.at c.args.pool c.args.class c.class_size-size.result w.class_blocks.result c.class_size-size.ensures.value c.class_size-size.ensures.some.0 w.class_blocks.ensures.value (inr w.if-slot-class_blocks.true)
]
