use Rattle.std.proofs.Common.{◌≡◌, arith}
use Rattle.run_alone.proofs.Telling.{tells_on}
use Rattle.run_alone.proofs.serving.make_on.Goals as goal

pub returns-clause-tells : goal.returns-clause-tells
returns-clause-tells c =
    let t = c.try_on.ensures.tries in
    let same : c.try_on.new.run.next ≡ c.args.run.next = (let no = c.if-next.false in let now = c.next.ensures.next in let was = c.next-next.ensures.next in omega (arith, no, now, was)) in
    tells_on c.args.heap.now c.args.run c.try_on.new.run c.serve_first.result t.commands same t.tells c.serve_first.ensures.tells
