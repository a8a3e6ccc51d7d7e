use Rattle.std.proofs.Common.{◌≡◌, ◌∙◌, ℕ, ◌+◌, ◌*◌, ◌/◌, ◌%◌, ◌≤◌, ◌++◌, List, replicate, arith, ap, sym}
use Rattle.std.proofs.lemmas.List.{replicate-append-replicate, take-replicate}
use Rattle.heap_rule.proofs.layout.zeros.Goals as goal

-- zeros and some more are zeros
more : (xs ys : List ℕ) (n m k : ℕ) → ys ≡ xs ++ replicate m 0 → xs ≡ replicate n 0 → k ≡ n + m → ys ≡ replicate k 0
more xs ys n m k e f g = e ∙ (ap (λ (zs : List ℕ). zs ++ replicate m 0) f ∙ (replicate-append-replicate n m 0 ∙ ap (λ (i : ℕ). replicate i 0) (sym g)))

pub loop-init : goal.loop-init
loop-init c = c.in_ok-words.ensures.items

pub loop-preserved : goal.loop-preserved
loop-preserved c = more _ _ (c.loop.counter * 512) 512 _ c.in_ok-extend_from_slice.ensures.items c.loop.invariant (grind (arith))

pub returns : goal.returns
returns c =
    let few : c.args.count % 512 ≤ 512 = grind (arith) in
    let ended : c.loop.counter ≡ c.args.count / 512 = (let a = c.loop.auto.counter-end in let b = c.loop-test.false in grind (arith)) in
    more _ _ (c.loop.counter * 512) (c.args.count % 512) _
    (c.in_ok-extend_from_slice-2.ensures.items ∙ ap (λ (zs : List ℕ). c.loop.words.items ++ zs) (take-replicate (c.args.count % 512) 512 0 few))
    c.loop.invariant (grind (arith))
