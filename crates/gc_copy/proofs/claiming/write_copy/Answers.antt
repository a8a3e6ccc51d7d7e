use Rattle.std.proofs.Common.{ℕ, ◌+◌, ◌^◌, ◌<◌, ◌≤◌, arith}
use Rattle.heap_rule.specs.Layout.{heap_words}
use Rattle.heap_rule.proofs.Sizes.{heap_small}
use Rattle.gc_copy.proofs.Meeting.{met_label_inside}
use Rattle.gc_copy.proofs.Preparing.{place_inside, place_label_inside}
use Rattle.gc_copy.proofs.claiming.write_copy.Goals as goal

pub overflow_add-young : goal.overflow_add-young
overflow_add-young c =
    let k = c.args.heap.now.config in
    let m = c.requires.met in
    let i = met_label_inside k c.args.dom.now.view c.args.young m.place c.requires.works.fit m.met in
    let w : ℕ = heap_words k in
    let s : w < 2 ^ 24 = heap_small k c.config-limits.ensures.limits in
    let a : ℕ = c.args.young in
    let h : a + 1 ≤ w = i.1 in
    let g : a + 1 < 2 ^ 32 = omega arith in record { fits = g }

pub young_label_load-label-requires-clause-inside : goal.young_label_load-label-requires-clause-inside
young_label_load-label-requires-clause-inside c = let m = c.requires.met in met_label_inside c.args.heap.now.config c.args.dom.now.view c.args.young m.place c.requires.works.fit m.met

pub overflow_add-copy : goal.overflow_add-copy
overflow_add-copy c =
    let k = c.args.heap.now.config in
    let i = place_label_inside k c.args.class c.args.copy c.requires.class (c.requires.works.placed c.args.class c.args.copy c.requires.class c.requires.prepared) in
    let w : ℕ = heap_words k in
    let s : w < 2 ^ 24 = heap_small k c.config-limits.ensures.limits in
    let a : ℕ = c.args.copy in
    let h : a + 1 ≤ w = i.1 in
    let g : a + 1 < 2 ^ 32 = omega arith in record { fits = g }

pub prepare_label-requires-clause-inside : goal.prepare_label-requires-clause-inside
prepare_label-requires-clause-inside c = place_label_inside c.args.heap.now.config c.args.class c.args.copy c.requires.class (c.requires.works.placed c.args.class c.args.copy c.requires.class c.requires.prepared)

pub prepare_head-requires-clause-inside : goal.prepare_head-requires-clause-inside
prepare_head-requires-clause-inside c = place_inside c.args.heap.now.config c.args.class c.args.copy c.requires.class (c.requires.works.placed c.args.class c.args.copy c.requires.class c.requires.prepared)
