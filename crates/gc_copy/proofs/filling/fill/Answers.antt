use Rattle.std.proofs.Common.{ℕ, ◌+◌, ◌-◌, ◌^◌, ◌<◌, sym, subst, arith}
use Rattle.step_promote.specs.Promotion.{FillMay}
use Rattle.gc_copy.proofs.Meeting.{met_inside}
use Rattle.gc_copy.proofs.Fills.{progress_start, words_large, source_inside, source_small, value_grown, value_stands, progress_forwarded, fill_may, progress_on, ended}
use Rattle.gc_copy.proofs.filling.fill.Goals as goal

pub young_head_load-requires-clause-inside : goal.young_head_load-requires-clause-inside
young_head_load-requires-clause-inside c =
    let s = (c.requires.works.pairs c.args.i c.pending_at-copy.result (sym c.pending_at-copy.ensures)).same in
    met_inside c.args.heap.now.config c.args.dom.now.view c.pending_at-copy.result.copy s.to c.requires.works.fit s.there

pub loop-place-init : goal.loop-place-init
loop-place-init c = record {
  here = c.young_head_load.ensures.here;
  progress = progress_start c.args.heap.now.config c.args.i c.pending_at-copy.result c.args.dom.now.view c.young_head_load.new.dom.view c.young_head_load.result c.words_of-size.result c.config-limits.ensures.limits c.requires.works c.requires.tied (sym c.pending_at-copy.ensures) c.young_head_load.ensures.told c.words_of-size.ensures;
}

pub overflow_add-source : goal.overflow_add-source
overflow_add-source c =
    let a : ℕ = c.pending_at-copy.result.source in
    let n : ℕ = c.loop-place.place in
    let h : a + 2 + n < 2 ^ 32 = source_small c.args.heap.now.config c.args.i c.pending_at-copy.result c.args.dom.now.view (c.words_of-size.result - 2) c.loop-place.place c.loop-place.dom.view c.loop-place.invariant.progress c.config-limits.ensures.limits c.loop-place-test.true in
    let g : a + 2 < 2 ^ 32 = omega arith in record { fits = g }

pub overflow_add-source-in-loop-place : goal.overflow_add-source-in-loop-place
overflow_add-source-in-loop-place c = record { fits = source_small c.args.heap.now.config c.args.i c.pending_at-copy.result c.args.dom.now.view (c.words_of-size.result - 2) c.loop-place.place c.loop-place.dom.view c.loop-place.invariant.progress c.config-limits.ensures.limits c.loop-place-test.true }

pub forwarded-value-requires-clause-works : goal.forwarded-value-requires-clause-works
forwarded-value-requires-clause-works c =
    (value_grown c.args.heap.now.config c.args.i c.pending_at-copy.result c.args.dom.now.view (c.words_of-size.result - 2) c.loop-place.place c.loop-place.dom.view c.loop-place.invariant.progress c.loop-place-test.true
    c.young_field_load-word.result c.young_field_load-word.new.dom.view c.young_field_load-word.ensures.told).works

pub forwarded-value-requires-clause-stands : goal.forwarded-value-requires-clause-stands
forwarded-value-requires-clause-stands c =
    value_stands c.args.heap.now.config c.args.i c.pending_at-copy.result c.args.dom.now.view (c.words_of-size.result - 2) c.loop-place.place c.loop-place.dom.view c.loop-place.invariant.progress c.loop-place-test.true
    c.young_field_load-word.result c.young_field_load-word.new.dom.view c.young_field_load-word.ensures.told c.read_as.result c.read_as.ensures

pub copy_store-requires-clause-may : goal.copy_store-requires-clause-may
copy_store-requires-clause-may c =
    subst (FillMay c.args.heap.now.config c.forwarded-value.new.dom.view (c.pending_at-copy.result.copy + 2 + c.loop-place.place)) (sym c.pack_value.ensures)
    (fill_may c.args.heap.now.config c.args.i c.pending_at-copy.result c.args.dom.now.view (c.words_of-size.result - 2) c.loop-place.place c.loop-place.dom.view c.loop-place.invariant.progress c.loop-place-test.true
    c.young_field_load-word.result c.young_field_load-word.new.dom.view c.young_field_load-word.ensures.told c.read_as.result c.read_as.ensures c.forwarded-value.new.dom.view c.forwarded-value.result c.forwarded-value.ensures.forwarded)

pub loop-place-preserved : goal.loop-place-preserved
loop-place-preserved c = record {
  here = c.copy_store.ensures.here;
  progress = progress_on c.args.heap.now.config c.args.i c.pending_at-copy.result c.args.dom.now.view (c.words_of-size.result - 2) c.loop-place.place c.forwarded-value.new.dom.view
      (progress_forwarded c.args.heap.now.config c.args.i c.pending_at-copy.result c.args.dom.now.view (c.words_of-size.result - 2) c.loop-place.place c.loop-place.dom.view c.loop-place.invariant.progress c.loop-place-test.true
      c.young_field_load-word.result c.young_field_load-word.new.dom.view c.young_field_load-word.ensures.told c.read_as.result c.read_as.ensures c.forwarded-value.new.dom.view c.forwarded-value.result c.forwarded-value.ensures.forwarded)
      c.pack_value.result c.copy_store.new.dom.view c.copy_store.ensures.told;
}

pub returns-clause-filled : goal.returns-clause-filled
returns-clause-filled c =
    ended c.args.heap.now.config c.args.i c.pending_at-copy.result c.args.dom.now.view (c.words_of-size.result - 2) c.loop-place.place c.loop-place.dom.view c.loop-place.invariant.progress c.copy_end.result c.copy_end.new.dom.view c.copy_end.ensures.told

pub young_field_load-word-requires-clause-inside : goal.young_field_load-word-requires-clause-inside
young_field_load-word-requires-clause-inside c =
    source_inside c.args.heap.now.config c.args.i c.pending_at-copy.result c.args.dom.now.view (c.words_of-size.result - 2) c.loop-place.place c.loop-place.dom.view c.loop-place.invariant.progress c.loop-place-test.true

pub overflow_sub-size : goal.overflow_sub-size
overflow_sub-size c = words_large c.args.heap.now.config c.args.i c.pending_at-copy.result c.args.dom.now.view c.young_head_load.new.dom.view c.young_head_load.result c.words_of-size.result c.requires.works (sym c.pending_at-copy.ensures) c.young_head_load.ensures.told c.words_of-size.ensures
