use Rattle.std.proofs.Common.{List, arith, subst, sym}
use Rattle.std.specs.List.{AllByRecursion}
use Rattle.example_handles.specs.declared.resource.Resource.{Resource}
use Rattle.example_handles.specs.Handling.{IsHandles, IsUnused}
use Rattle.example_handles.proofs.Calls.{none_kept}
use Rattle.example_handles.proofs.resting.with_none.Goals as goal

pub invariant_of-push : goal.invariant_of-push
invariant_of-push c = (
  subst (λ (xs : List Resource). IsHandles (record { seat = c.in-Some.seat; resources = xs; most = c.args.most })) (sym c.in_ok-resources.ensures.items)
      (none_kept c.args.most c.in-Some.seat (subst (AllByRecursion (IsUnused c.args.most)) c.in-Some.ensures.steps.0 c.seats.invariant.unused).0),
  let room = c.in_ok-resources.ensures.exact in omega (arith, room),
)
