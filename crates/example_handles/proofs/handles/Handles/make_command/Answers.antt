use Rattle.std.proofs.Common.{List, arith, subst, sym}
use Rattle.example_handles.specs.declared.resource.Resource.{Resource}
use Rattle.example_handles.specs.Handling.{HandlesView, IsHandles, Performs, Settles, parted}
use Rattle.example_handles.proofs.Calls.{changed, settles_performed, still_performed, stored}
use Rattle.example_handles.proofs.handles.Handles.make_command.Goals as goal

pub invariant_of-self : goal.invariant_of-self
invariant_of-self g c =
    let old : HandlesView = record { seat = c.self.inside.seat; resources = c.self.inside.resources.items; most = c.self.inside.most } in
    let new = changed c.self.inside.resources.len c.self.inside.resources.items c.perform_closing.new.resources c.deref_mut.ensures.value (omega (arith, c.deref_mut.ensures.len)) (omega (arith, c.perform_closing.auto.resources)) in
    let performs = subst (λ (ys : List Resource). Performs old.seat c.perform_closing.new.seat ys c.perform_closing.new.resources c.args.command c.perform_closing.result) c.deref_mut.ensures.value c.perform_closing.ensures.performs in
    (subst (λ (ys : List Resource). IsHandles (parted old c.perform_closing.new.seat ys)) (sym new.items) (still_performed old c.perform_closing.new.seat c.perform_closing.new.resources c.args.command c.perform_closing.result c.self.invariant.0 performs c.requires.quiet new.count), c.self.invariant.1)

pub returns-clause-settles : goal.returns-clause-settles
returns-clause-settles g c =
    let old : HandlesView = record { seat = c.self.inside.seat; resources = c.self.inside.resources.items; most = c.self.inside.most } in
    let new = changed c.self.inside.resources.len c.self.inside.resources.items c.perform_closing.new.resources c.deref_mut.ensures.value (omega (arith, c.deref_mut.ensures.len)) (omega (arith, c.perform_closing.auto.resources)) in
    let performs = subst (λ (ys : List Resource). Performs old.seat c.perform_closing.new.seat ys c.perform_closing.new.resources c.args.command c.perform_closing.result) c.deref_mut.ensures.value c.perform_closing.ensures.performs in
    subst (λ (h : HandlesView). Settles h (parted old c.perform_closing.new.seat (stored c.self.inside.resources.len c.self.inside.resources.items c.perform_closing.new.resources))) c.self.view_is
    (subst (λ (ys : List Resource). Settles old (parted old c.perform_closing.new.seat ys)) (sym new.items) (settles_performed old c.perform_closing.new.seat c.perform_closing.new.resources c.args.command c.perform_closing.result c.self.invariant.0 performs c.requires.quiet new.count))

pub perform_closing-requires-clause-taken : goal.perform_closing-requires-clause-taken
perform_closing-requires-clause-taken g c = c.self.invariant.0.taken

pub returns-clause-performs : goal.returns-clause-performs
returns-clause-performs g c =
    let old : HandlesView = record { seat = c.self.inside.seat; resources = c.self.inside.resources.items; most = c.self.inside.most } in
    let new = changed c.self.inside.resources.len c.self.inside.resources.items c.perform_closing.new.resources c.deref_mut.ensures.value (omega (arith, c.deref_mut.ensures.len)) (omega (arith, c.perform_closing.auto.resources)) in
    let performs = subst (λ (ys : List Resource). Performs old.seat c.perform_closing.new.seat ys c.perform_closing.new.resources c.args.command c.perform_closing.result) c.deref_mut.ensures.value c.perform_closing.ensures.performs in
    subst (λ (h : HandlesView). Performs h.seat c.perform_closing.new.seat h.resources (stored c.self.inside.resources.len c.self.inside.resources.items c.perform_closing.new.resources) c.args.command c.perform_closing.result) c.self.view_is
    (subst (λ (ys : List Resource). Performs old.seat c.perform_closing.new.seat old.resources ys c.args.command c.perform_closing.result) (sym new.items) performs)
