use Rattle.std.proofs.Common.{◌≡◌, ℕ, ◌+◌, ◌^◌, ◌<◌, subst, arith}
use Rattle.heap_rule.specs.Standing.{IsInHeap}
use Rattle.do_alloc.proofs.OfPools.Writing.{word_inside}
use Rattle.do_alloc.proofs.pools.words.write_words.Goals as goal

pub overflow_add-at : goal.overflow_add-at
overflow_add-at c =
    let n : ℕ = c.args.count in
    record { fits = (word_inside c.args.heap.now.config c.args.dom.now.view c.args.at (n + 2) 1 c.config-limits.ensures.limits c.requires.room (omega arith)).1 }

pub fill_store-requires-clause-inside : goal.fill_store-requires-clause-inside
fill_store-requires-clause-inside c =
    let n : ℕ = c.args.count in
    (word_inside c.args.heap.now.config c.args.dom.now.view c.args.at (n + 2) 1 c.config-limits.ensures.limits c.requires.room (omega arith)).0

pub overflow_add-at-in-loop-i : goal.overflow_add-at-in-loop-i
overflow_add-at-in-loop-i c =
    let n : ℕ = c.args.count in
    let below : c.loop-i.i < n = c.loop-i-test.true in
    record { fits = (word_inside c.args.heap.now.config c.args.dom.now.view c.args.at (n + 2) 2 c.config-limits.ensures.limits c.requires.room (omega arith)).1 }

pub overflow_add-at-in-loop-i-2 : goal.overflow_add-at-in-loop-i-2
overflow_add-at-in-loop-i-2 c =
    let n : ℕ = c.args.count in
    let i : ℕ = c.loop-i.i in
    let at : ℕ = c.args.at in
    let below : i < n = c.loop-i-test.true in
    let same : at + (2 + i) ≡ at + 2 + i = omega arith in
    record { fits = subst (λ (m : ℕ). m < 2 ^ 32) same (word_inside c.args.heap.now.config c.args.dom.now.view c.args.at (n + 2) (2 + i) c.config-limits.ensures.limits c.requires.room (omega arith)).1 }

pub fill_store-requires-in-loop-i-clause-inside : goal.fill_store-requires-in-loop-i-clause-inside
fill_store-requires-in-loop-i-clause-inside c =
    let n : ℕ = c.args.count in
    let i : ℕ = c.loop-i.i in
    let at : ℕ = c.args.at in
    let below : i < n = c.loop-i-test.true in
    let same : at + (2 + i) ≡ at + 2 + i = omega arith in
    subst (IsInHeap c.args.heap.now.config) same (word_inside c.args.heap.now.config c.args.dom.now.view c.args.at (n + 2) (2 + i) c.config-limits.ensures.limits c.requires.room (omega arith)).0
