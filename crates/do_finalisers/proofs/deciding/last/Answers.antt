use Rattle.std.proofs.Common.{◌≡◌, ℕ, suc, ◌+◌, ◌-◌, Some, slice_get, sym, subst, arith}
use Rattle.do_finalisers.proofs.Looking.{LastsLooked, last_inside, last_looked, last_may}
use Rattle.do_finalisers.proofs.deciding.last.Goals as goal

pub last_look-requires : goal.last_look-requires
last_look-requires c =
    let k = c.args.heap.now.config in
    let colours = c.colours_now-colours.result in
    let left : ℕ = c.lasts_len-count.result - 1 - c.loop-looked.looked in
    let more : c.lasts_len-count.result - c.loop-looked.looked ≡ suc left = omega arith in
    let x = c.args.dom.now.view in
    let y = c.loop-looked.dom.view in
    let l : LastsLooked k colours (suc left) x y = subst (λ (n : ℕ). LastsLooked k colours n x y) more c.loop-looked.invariant.looked in
    let got : slice_get y.own.finalisers.lasts.items left ≡ Some c.last_at-registered.result = sym c.last_at-registered.ensures in
    record {
      here = c.loop-looked.invariant.here;
      inside = last_inside k colours left x y c.requires.stage c.colours_now-colours.ensures.inside l c.last_at-registered.result got;
      may = last_may k colours left x y c.requires.stage c.colours_now-colours.ensures.inside l c.last_at-registered.result got;
    }

pub loop-looked-preserved : goal.loop-looked-preserved
loop-looked-preserved c =
    let k = c.args.heap.now.config in
    let colours = c.colours_now-colours.result in
    let left : ℕ = c.lasts_len-count.result - 1 - c.loop-looked.looked in
    let more : c.lasts_len-count.result - c.loop-looked.looked ≡ suc left = omega arith in
    let less : left ≡ c.lasts_len-count.result - (c.loop-looked.looked + 1) = omega arith in
    let x = c.args.dom.now.view in
    let y = c.loop-looked.dom.view in
    let z = c.last_look.new.dom.view in
    let l : LastsLooked k colours (suc left) x y = subst (λ (n : ℕ). LastsLooked k colours n x y) more c.loop-looked.invariant.looked in
    let got : slice_get y.own.finalisers.lasts.items left ≡ Some c.last_at-registered.result = sym c.last_at-registered.ensures in
    let after : LastsLooked k colours left x z = last_looked k colours left x y c.requires.stage c.colours_now-colours.ensures.inside l c.last_at-registered.result got c.last_look.result z c.last_look.ensures.told in
    record { here = c.last_look.ensures.here; looked = subst (λ (n : ℕ). LastsLooked k colours n x z) less after }
