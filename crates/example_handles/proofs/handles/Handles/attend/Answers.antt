use Rattle.std.proofs.Common.{List, arith, subst, sym}
use Rattle.example_handles.specs.declared.resource.Resource.{Resource}
use Rattle.example_handles.specs.Handling.{Attends, HandlesView, IsHandles, Settles, parted}
use Rattle.example_handles.proofs.Calls.{changed, settles_along, still_along, stored}
use Rattle.example_handles.proofs.handles.Handles.attend.Goals as goal

pub invariant_of-self : goal.invariant_of-self
invariant_of-self g c =
    let old : HandlesView = record { seat = c.self.inside.seat; resources = c.self.inside.resources.items; most = c.self.inside.most } in
    let new = changed c.self.inside.resources.len c.self.inside.resources.items c.attend_closing.new.resources c.deref_mut.ensures.value (omega (arith, c.deref_mut.ensures.len)) (omega (arith, c.attend_closing.auto.resources)) in
    let attends = subst (λ (ys : List Resource). Attends old.seat c.attend_closing.new.seat ys c.attend_closing.new.resources) c.deref_mut.ensures.value c.attend_closing.ensures.attends in
    (subst (λ (ys : List Resource). IsHandles (parted old c.attend_closing.new.seat ys)) (sym new.items) (still_along old c.attend_closing.new.seat c.attend_closing.new.resources c.self.invariant.0 attends new.count), c.self.invariant.1)

pub returns-clause-settles : goal.returns-clause-settles
returns-clause-settles g c =
    let old : HandlesView = record { seat = c.self.inside.seat; resources = c.self.inside.resources.items; most = c.self.inside.most } in
    let new = changed c.self.inside.resources.len c.self.inside.resources.items c.attend_closing.new.resources c.deref_mut.ensures.value (omega (arith, c.deref_mut.ensures.len)) (omega (arith, c.attend_closing.auto.resources)) in
    let attends = subst (λ (ys : List Resource). Attends old.seat c.attend_closing.new.seat ys c.attend_closing.new.resources) c.deref_mut.ensures.value c.attend_closing.ensures.attends in
    subst (λ (h : HandlesView). Settles h (parted old c.attend_closing.new.seat (stored c.self.inside.resources.len c.self.inside.resources.items c.attend_closing.new.resources))) c.self.view_is
    (subst (λ (ys : List Resource). Settles old (parted old c.attend_closing.new.seat ys)) (sym new.items) (settles_along old c.attend_closing.new.seat c.attend_closing.new.resources c.self.invariant.0 attends new.count))

pub attend_closing-requires-clause-taken : goal.attend_closing-requires-clause-taken
attend_closing-requires-clause-taken g c = c.self.invariant.0.taken
