use Rattle.std.proofs.Common.{◌≡◌, ◌∙◌, arith}
use Rattle.run_alone.proofs.Telling.{tells_on}
use Rattle.run_alone.proofs.serving.serve_first.Goals as goal

pub returns-then-next-2-clause-tells : goal.returns-then-next-2-clause-tells
returns-then-next-2-clause-tells c =
    let s = c.serve-run.ensures.serves in
    let same : c.serve-run.result.next ≡ c.args.run.next = (let no = c.if-next.false in let now = c.next.ensures.next in let was = c.next-next.ensures.next in omega (arith, no, now, was)) in
    tells_on c.args.heap.now c.args.run c.serve-run.result c.try_on.new.run s.commands same s.tells c.try_on.ensures.tries.tells

pub returns-clause-tells : goal.returns-clause-tells
returns-clause-tells c =
    let s = c.serve-run.ensures.serves in
    let t = c.try_on.ensures.tries in
    let same : c.serve-run.result.next ≡ c.args.run.next = (let no = c.if-next.false in let now = c.next.ensures.next in let was = c.next-next.ensures.next in omega (arith, no, now, was)) in
    let still : c.try_on.new.run.next ≡ c.args.run.next = (let no = c.if-next-2.false in let now = c.next-2.ensures.next in let was = c.next-next.ensures.next in omega (arith, no, now, was)) in
    tells_on c.args.heap.now c.args.run c.try_on.new.run c.serve_last.result (t.commands ∙ s.commands) still (tells_on c.args.heap.now c.args.run c.serve-run.result c.try_on.new.run s.commands same s.tells t.tells) c.serve_last.ensures.tells
