use Rattle.std.proofs.Common.{ap, arith, length}
use Rattle.model_core.specs.declared.command.Command.TheVariants.{FinaliseLast}
use Rattle.example_handles.specs.Handling.{HandlesView}
use Rattle.example_handles.proofs.Calls.{later_both, opens_both}
use Rattle.example_handles.proofs.handles.Handles.open.Goals as goal

pub returns-clause-seat : goal.returns-clause-seat
returns-clause-seat g c = later_both c.args.self.now.seat c.make_handle.new.self.seat c.register.new.self.seat c.if-not-make_handle.ensures.seat c.register.ensures.seat

pub returns-clause-answers : goal.returns-clause-answers
returns-clause-answers g c =
    let many = ap (λ (h : HandlesView). length h.resources) c.self.view_is in
    let most = ap (λ (h : HandlesView). h.most) c.self.view_is in
    let number = c.len-number.ensures in
    let few = c.if-number-self.false in (
      omega (arith, number, many),
      omega (arith, few, most),
      opens_both c.args.self.now c.make_handle.new.self c.register.new.self c.args.dst (FinaliseLast c.args.dst c.len-number.result) c.if-not-make_handle.ensures.seat c.register.ensures.seat c.if-not-make_handle.ensures.answers c.register.ensures.opens,
    )
