use Rattle.std.proofs.Common.{List, arith, subst, sym}
use Rattle.example_handles.specs.declared.resource.Resource.{Resource}
use Rattle.example_handles.specs.Handling.{GoesBy, HandlesView, IsHandles, IsLater, Settles, parted}
use Rattle.example_handles.specs.Resources.{Settled}
use Rattle.example_handles.proofs.Calls.{attended, changed, settles_along, still_along, stored}
use Rattle.example_handles.proofs.resting.RestingHandles.resume.Goals as goal

pub invariant_of-result : goal.invariant_of-result
invariant_of-result g c =
    let old : HandlesView = record { seat = c.self.inside.seat; resources = c.self.inside.resources.items; most = c.self.inside.most } in
    let got = c.close_waiting.new.seat in
    let new = changed c.self.inside.resources.len c.self.inside.resources.items c.close_waiting.new.resources c.deref_mut.ensures.value (omega (arith, c.deref_mut.ensures.len)) (omega (arith, c.close_waiting.auto.resources)) in
    let a = attended old.seat c.resume-seat.result got old.resources c.close_waiting.new.resources c.self.invariant.0.taken c.resume-seat.ensures.same c.resume-seat.ensures.along c.close_waiting.ensures.taken c.close_waiting.ensures.finals (subst (λ (ys : List Resource). Settled ys c.resume-seat.result.ran c.close_waiting.new.resources) c.deref_mut.ensures.value c.close_waiting.ensures.settled) in
    (subst (λ (ys : List Resource). IsHandles (parted old got ys)) (sym new.items) (still_along old got c.close_waiting.new.resources c.self.invariant.0 a new.count), c.self.invariant.1)

pub returns-clause-settles : goal.returns-clause-settles
returns-clause-settles g c =
    let old : HandlesView = record { seat = c.self.inside.seat; resources = c.self.inside.resources.items; most = c.self.inside.most } in
    let got = c.close_waiting.new.seat in
    let new = changed c.self.inside.resources.len c.self.inside.resources.items c.close_waiting.new.resources c.deref_mut.ensures.value (omega (arith, c.deref_mut.ensures.len)) (omega (arith, c.close_waiting.auto.resources)) in
    let a = attended old.seat c.resume-seat.result got old.resources c.close_waiting.new.resources c.self.invariant.0.taken c.resume-seat.ensures.same c.resume-seat.ensures.along c.close_waiting.ensures.taken c.close_waiting.ensures.finals (subst (λ (ys : List Resource). Settled ys c.resume-seat.result.ran c.close_waiting.new.resources) c.deref_mut.ensures.value c.close_waiting.ensures.settled) in
    subst (λ (h : HandlesView). Settles h (parted old got (stored c.self.inside.resources.len c.self.inside.resources.items c.close_waiting.new.resources))) c.self.view_is
    (subst (λ (ys : List Resource). Settles old (parted old got ys)) (sym new.items) (settles_along old got c.close_waiting.new.resources c.self.invariant.0 a new.count))

pub returns-clause-along : goal.returns-clause-along
returns-clause-along g c =
    let old : HandlesView = record { seat = c.self.inside.seat; resources = c.self.inside.resources.items; most = c.self.inside.most } in
    let got = c.close_waiting.new.seat in
    let a = attended old.seat c.resume-seat.result got old.resources c.close_waiting.new.resources c.self.invariant.0.taken c.resume-seat.ensures.same c.resume-seat.ensures.along c.close_waiting.ensures.taken c.close_waiting.ensures.finals (subst (λ (ys : List Resource). Settled ys c.resume-seat.result.ran c.close_waiting.new.resources) c.deref_mut.ensures.value c.close_waiting.ensures.settled) in
    subst (λ (h : HandlesView). GoesBy h.seat got) c.self.view_is a.along

pub returns-clause-seat : goal.returns-clause-seat
returns-clause-seat g c =
    let old : HandlesView = record { seat = c.self.inside.seat; resources = c.self.inside.resources.items; most = c.self.inside.most } in
    let got = c.close_waiting.new.seat in
    let a = attended old.seat c.resume-seat.result got old.resources c.close_waiting.new.resources c.self.invariant.0.taken c.resume-seat.ensures.same c.resume-seat.ensures.along c.close_waiting.ensures.taken c.close_waiting.ensures.finals (subst (λ (ys : List Resource). Settled ys c.resume-seat.result.ran c.close_waiting.new.resources) c.deref_mut.ensures.value c.close_waiting.ensures.settled) in
    subst (λ (h : HandlesView). IsLater h.seat got) c.self.view_is a.same
