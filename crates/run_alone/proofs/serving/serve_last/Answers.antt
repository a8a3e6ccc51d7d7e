use Rattle.std.proofs.Common.{◌≡◌, ◌∙◌, arith, refl, sym}
use Rattle.run_alone.proofs.Telling.{tells_on}
use Rattle.run_alone.proofs.serving.serve_last.Goals as goal

pub returns-clause-tells : goal.returns-clause-tells
returns-clause-tells c =
    let s = c.serve-run.ensures.serves in
    let same : c.serve-run.result.next ≡ c.args.run.next = (let no = c.if-next.false in let now = c.next.ensures.next in let was = c.next-next.ensures.next in omega (arith, no, now, was)) in
    tells_on c.args.heap.now c.args.run c.serve-run.result c.try_on.new.run s.commands same s.tells c.try_on.ensures.tries.tells

pub returns-clause-made : goal.returns-clause-made
returns-clause-made c =
    let s = c.serve-run.ensures.serves in
    let same : c.serve-run.result.next ≡ c.args.run.next = (let no = c.if-next.false in let now = c.next.ensures.next in let was = c.next-next.ensures.next in omega (arith, no, now, was)) in
    λ e. c.try_on.ensures.tries.made (s.served same) (s.full refl same) (s.counts refl same) (e ∙ sym same)
