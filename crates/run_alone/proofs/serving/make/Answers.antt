use Rattle.std.proofs.Common.{◌≡◌, ◌∙◌, arith}
use Rattle.run_alone.proofs.Telling.{tells_on}
use Rattle.run_alone.proofs.serving.make.Goals as goal

pub returns-then-wants-clause-tells : goal.returns-then-wants-clause-tells
returns-then-wants-clause-tells c =
    let f = c.look_first.ensures.looks in
    let same : c.look_first.new.run.next ≡ c.args.run.next = (let no = c.if-next.false in let now = c.next.ensures.next in let was = c.next-next.ensures.next in omega (arith, no, now, was)) in
    tells_on c.args.heap.now c.args.run c.look_first.new.run c.serve_first.result f.commands same f.tells c.serve_first.ensures.tells

pub returns-clause-tells : goal.returns-clause-tells
returns-clause-tells c =
    let f = c.look_first.ensures.looks in
    let same : c.look_first.new.run.next ≡ c.args.run.next = (let no = c.if-next.false in let now = c.next.ensures.next in let was = c.next-next.ensures.next in omega (arith, no, now, was)) in
    let b = c.come_back-run.ensures.back in
    tells_on c.args.heap.now c.args.run c.come_back-run.result c.make_on.result (b.commands ∙ f.commands) (b.next ∙ same) (tells_on c.args.heap.now c.args.run c.look_first.new.run c.come_back-run.result f.commands same f.tells b.tells) c.make_on.ensures.tells
