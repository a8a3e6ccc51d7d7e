use Rattle.std.proofs.Common.{◌≡◌, ◌+◌, length, ap, sym, ◌∙◌, arith}
use Rattle.judge_plain.proofs.PlaceLemmas.{rising_end}
use Rattle.judge_plain.proofs.queueing.is_rising.Goals as goal

pub returns : goal.returns
returns c =
    let ps = c.args.places.now in
    let list : length c.places.inside.items.items ≡ length ps = ap length c.places.view_is in
    let last : c.loop-i.i + 1 ≡ length ps = omega (arith, c.places.inside.items.ok.0) in
    sym (rising_end ps c.loop-i.i last) ∙ c.loop-i.invariant
