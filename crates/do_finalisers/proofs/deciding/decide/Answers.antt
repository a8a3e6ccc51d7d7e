use Rattle.std.proofs.Common.{◌≡◌, ℕ, suc, ◌+◌, ◌-◌, Some, slice_get, sym, subst, arith}
use Rattle.do_finalisers.proofs.Looking.{FinalsLooked, final_inside, final_looked, final_may}
use Rattle.do_finalisers.proofs.deciding.decide.Goals as goal

pub final_look-requires : goal.final_look-requires
final_look-requires c =
    let k = c.args.heap.now.config in
    let colours = c.colours_now-colours.result in
    let left : ℕ = c.finals_len-count.result - 1 - c.loop-looked.looked in
    let more : c.finals_len-count.result - c.loop-looked.looked ≡ suc left = omega arith in
    let x = c.args.dom.now.view in
    let y = c.loop-looked.dom.view in
    let l : FinalsLooked k colours (suc left) x y = subst (λ (n : ℕ). FinalsLooked k colours n x y) more c.loop-looked.invariant.looked in
    let got : slice_get y.own.finalisers.finals.items left ≡ Some c.final_at-registered.result = sym c.final_at-registered.ensures in
    record {
      here = c.loop-looked.invariant.here;
      inside = final_inside k colours left x y c.requires.stage c.colours_now-colours.ensures.inside l c.final_at-registered.result got;
      may = final_may k colours left x y c.requires.stage c.colours_now-colours.ensures.inside l c.final_at-registered.result got;
    }

pub loop-looked-preserved : goal.loop-looked-preserved
loop-looked-preserved c =
    let k = c.args.heap.now.config in
    let colours = c.colours_now-colours.result in
    let left : ℕ = c.finals_len-count.result - 1 - c.loop-looked.looked in
    let more : c.finals_len-count.result - c.loop-looked.looked ≡ suc left = omega arith in
    let less : left ≡ c.finals_len-count.result - (c.loop-looked.looked + 1) = omega arith in
    let x = c.args.dom.now.view in
    let y = c.loop-looked.dom.view in
    let z = c.final_look.new.dom.view in
    let l : FinalsLooked k colours (suc left) x y = subst (λ (n : ℕ). FinalsLooked k colours n x y) more c.loop-looked.invariant.looked in
    let got : slice_get y.own.finalisers.finals.items left ≡ Some c.final_at-registered.result = sym c.final_at-registered.ensures in
    let after : FinalsLooked k colours left x z = final_looked k colours left x y c.requires.stage c.colours_now-colours.ensures.inside l c.final_at-registered.result got c.final_look.result z c.final_look.ensures.told in
    record { here = c.final_look.ensures.here; looked = subst (λ (n : ℕ). FinalsLooked k colours n x z) less after }
