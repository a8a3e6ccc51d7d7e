use Rattle.std.proofs.Common.{◌≡◌, ◌∙◌, ◌<◌, ℕ, List, [], ◌∷◌, ◌++◌, ap, arith, length, subst, sym}
use Rattle.model_core.specs.declared.command.Command.TheVariants.{FinaliseLast}
use Rattle.example_handles.specs.declared.resource.Resource.{Resource}
use Rattle.example_handles.specs.declared.resource.Resource.TheVariants.{Open}
use Rattle.example_handles.specs.Handling.{HandlesView, HoldsLatest, IsHandles, Opens, Performs, parted}
use Rattle.example_handles.proofs.Calls.{changed, open_still, opened}
use Rattle.example_handles.proofs.handles.Handles.register.Goals as goal

pub invariant_of-self : goal.invariant_of-self
invariant_of-self g c =
    let old : HandlesView = record { seat = c.self.inside.seat; resources = c.self.inside.resources.items; most = c.self.inside.most } in
    let got = c.perform_closing.new.seat in
    let others : List Resource = c.perform_closing.new.resources in
    let new = changed c.self.inside.resources.len c.self.inside.resources.items others c.deref_mut.ensures.value (omega (arith, c.deref_mut.ensures.len)) (omega (arith, c.perform_closing.auto.resources)) in
    let same : c.args.number ≡ length old.resources = c.requires.number ∙ ap (λ (h : HandlesView). length h.resources) (sym c.self.view_is) in
    let performs = subst (λ (w : ℕ × List Resource). Performs old.seat got w.1 others (FinaliseLast c.args.dst w.0) c.perform_closing.result) (λ i. (same i, c.deref_mut.ensures.value i)) c.perform_closing.ensures.performs in
    let below : length old.resources < old.most = let few = c.requires.below in let most = ap (λ (h : HandlesView). h.most) c.self.view_is in omega (arith, few, same, most) in
    let held = subst (λ (h : HandlesView). HoldsLatest h c.args.dst) (sym c.self.view_is) c.requires.held in
    let pushes : c.push_reserved.new.self.items ≡ others ++ Open ∷ [] = c.push_reserved.ensures.items ∙ ap (λ (xs : List Resource). xs ++ Open ∷ []) new.items in
    (subst (λ (xs : List Resource). IsHandles (parted old got xs)) (sym pushes) (open_still old got others c.args.dst c.perform_closing.result c.self.invariant.0 performs below held new.count), let room = c.self.invariant.1 in let same_room = c.push_reserved.ensures.capacity in omega (arith, room, same_room))

pub returns-clause-opens : goal.returns-clause-opens
returns-clause-opens g c =
    let old : HandlesView = record { seat = c.self.inside.seat; resources = c.self.inside.resources.items; most = c.self.inside.most } in
    let got = c.perform_closing.new.seat in
    let others : List Resource = c.perform_closing.new.resources in
    let new = changed c.self.inside.resources.len c.self.inside.resources.items others c.deref_mut.ensures.value (omega (arith, c.deref_mut.ensures.len)) (omega (arith, c.perform_closing.auto.resources)) in
    let same : c.args.number ≡ length old.resources = c.requires.number ∙ ap (λ (h : HandlesView). length h.resources) (sym c.self.view_is) in
    let performs = subst (λ (w : ℕ × List Resource). Performs old.seat got w.1 others (FinaliseLast c.args.dst w.0) c.perform_closing.result) (λ i. (same i, c.deref_mut.ensures.value i)) c.perform_closing.ensures.performs in
    let below : length old.resources < old.most = let few = c.requires.below in let most = ap (λ (h : HandlesView). h.most) c.self.view_is in omega (arith, few, same, most) in
    let held = subst (λ (h : HandlesView). HoldsLatest h c.args.dst) (sym c.self.view_is) c.requires.held in
    let pushes : c.push_reserved.new.self.items ≡ others ++ Open ∷ [] = c.push_reserved.ensures.items ∙ ap (λ (xs : List Resource). xs ++ Open ∷ []) new.items in
    subst (λ (h : HandlesView). Opens (FinaliseLast c.args.dst c.args.number ∷ []) 0 h (parted old got c.push_reserved.new.self.items) c.args.dst) c.self.view_is
    (subst (λ (w : ℕ × List Resource). Opens (FinaliseLast c.args.dst w.0 ∷ []) 0 old (parted old got w.1) c.args.dst) (λ i. (sym same i, sym pushes i)) (opened old got others c.args.dst c.perform_closing.result c.self.invariant.0 performs below held new.count))

pub perform_closing-requires-clause-taken : goal.perform_closing-requires-clause-taken
perform_closing-requires-clause-taken g c = c.self.invariant.0.taken
