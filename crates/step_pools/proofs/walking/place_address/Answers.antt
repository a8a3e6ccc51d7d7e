use Rattle.std.proofs.Common.{ℕ, ◌≤◌, ◌<◌, ◌+◌, ◌*◌, ◌^◌, ap, arith, sym, subst}
use Rattle.heap_rule.proofs.Classes.{slot_inside}
use Rattle.step_pools.proofs.walking.place_address.Goals as goal

pub returns-clause-value : goal.returns-clause-value
returns-clause-value c = ap (λ (z : ℕ). c.args.pool * 4096 + c.args.slot * z + 1) c.class_size.ensures.value

pub returns-clause-inside : goal.returns-clause-inside
returns-clause-inside c =
    let z : ℕ = c.class_size.result in
    let s : c.args.slot * z + z ≤ 4096 = subst (λ (n : ℕ). c.args.slot * n + n ≤ 4096) (sym c.class_size.ensures.value) (slot_inside c.args.class c.args.slot c.requires.class c.requires.slot) in
    let y : ℕ = c.args.slot * z in
    let l : 4 ≤ z = c.class_size.ensures.some.0 in
    omega arith

pub overflow_mul-result-2 : goal.overflow_mul-result-2
overflow_mul-result-2 c =
    let z : ℕ = c.class_size.result in
    let s : c.args.slot * z + z ≤ 4096 = subst (λ (n : ℕ). c.args.slot * n + n ≤ 4096) (sym c.class_size.ensures.value) (slot_inside c.args.class c.args.slot c.requires.class c.requires.slot) in
    let y : ℕ = c.args.slot * z in
    let p : c.args.pool < 2048 = c.requires.pool in
    let g : y < 2 ^ 32 = omega arith in record { fits = g }

pub overflow_add-result : goal.overflow_add-result
overflow_add-result c =
    let z : ℕ = c.class_size.result in
    let s : c.args.slot * z + z ≤ 4096 = subst (λ (n : ℕ). c.args.slot * n + n ≤ 4096) (sym c.class_size.ensures.value) (slot_inside c.args.class c.args.slot c.requires.class c.requires.slot) in
    let y : ℕ = c.args.slot * z in
    let p : c.args.pool < 2048 = c.requires.pool in
    let g : c.args.pool * 4096 + y < 2 ^ 32 = omega arith in record { fits = g }

pub overflow_add-result-2 : goal.overflow_add-result-2
overflow_add-result-2 c =
    let z : ℕ = c.class_size.result in
    let s : c.args.slot * z + z ≤ 4096 = subst (λ (n : ℕ). c.args.slot * n + n ≤ 4096) (sym c.class_size.ensures.value) (slot_inside c.args.class c.args.slot c.requires.class c.requires.slot) in
    let y : ℕ = c.args.slot * z in
    let p : c.args.pool < 2048 = c.requires.pool in
    let g : c.args.pool * 4096 + y + 1 < 2 ^ 32 = omega arith in record { fits = g }
