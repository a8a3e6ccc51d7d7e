use Rattle.std.proofs.Common.{◌≡◌, ◌∙◌, ℕ, suc, ◌+◌, List, [], ◌∷◌, ◌++◌, length, length-append, refl, sym, ap, subst, arith}
use Rattle.std.specs.Prelude.{remove}
use Rattle.std.specs.Vec.Iter.{into_iter_items}
use Rattle.run_seats.specs.Seating.{SeatView, SeatsView}
use Rattle.table_sections.specs.Preparing.{AllFresh, AllReady, IsReady}
use Rattle.table_sections.specs.declared.laying.Places.{Places}
use Rattle.table_sections.proofs.Seating.{others_fresh, ready_and_one}
use Rattle.table_sections.proofs.preparing.prepare_all.Goals as goal

pub others-init : goal.others-init
others-init g c =
    let s : SeatsView = c.args.seats.now in
    let p : Places = c.in-Some.places in
    let all : List SeatView = c.args.all.items in
    let first : SeatView = c.in-Some.first in
    let given = c.into_iter-resting-iterator.ensures.into_iter_gives in
    let some = c.requires.some in
    let are : c.push.new.self.items ≡ first ∷ [] = c.in_ok-push.ensures.items ∙ ap (λ (xs : List SeatView). xs ++ first ∷ []) c.in_ok-ready.ensures.items in
    let one : length c.push.new.self.items ≡ 1 = ap (λ (xs : List SeatView). length xs) are in
    let left : into_iter_items c.into_iter-resting-iterator.result ≡ remove all 0 = given.0 ∙ c.remove.ensures.items in
    let many = ap (λ (xs : List SeatView). length xs) given.0 in
    let fewer = c.remove.ensures.len in
    record {
      left = subst (λ (w : ℕ × List SeatView). AllFresh s w.0 w.1) (λ i. (sym one i, sym left i)) (others_fresh s all some c.requires.fresh);
      len = given.1 ∙ (c.remove.new.self.ok.0 ∙ sym many);
      some = omega (arith, one);
      ready = subst (AllReady s p 0) (sym are) (c.in-Some.ensures.ready (first, p) refl, tt);
      many = let before = c.args.all.ok.0 in let after = c.remove.new.self.ok.0 in omega (arith, one, many, fewer, before, after);
    }

pub others-preserved : goal.others-preserved
others-preserved g c =
    let s : SeatsView = c.args.seats.now in
    let p : Places = c.in-Some.places in
    let v = c.others.invariant in
    let x : SeatView = c.in-Some-resting.resting in
    let new : SeatView = c.in-Some-prepare_other.resting in
    let old : List SeatView = c.others.ready.items in
    let n : ℕ = length old in
    let steps = c.in-Some-resting.ensures.steps in
    let many = ap (λ (xs : List SeatView). length xs) steps.0 in
    let grown : c.push-in-others.new.self.items ≡ old ++ new ∷ [] = c.in_ok-push-2.ensures.items in
    let longer : length (old ++ new ∷ []) ≡ n + 1 = length-append old (new ∷ []) in
    let long : length c.push-in-others.new.self.items ≡ suc n = (let a = ap (λ (xs : List SeatView). length xs) grown in omega (arith, a, longer)) in
    let fresh : AllFresh s n (x ∷ into_iter_items c.next.new.self) = subst (AllFresh s n) steps.0 v.left in
    let same : n ≡ 0 + n = omega arith in
    let one : IsReady s p (0 + n) new = subst (λ (m : ℕ). IsReady s p m new) (fresh.0.number ∙ same) (c.in-Some-prepare_other.ensures.ready new refl) in
    record {
      left = subst (λ (m : ℕ). AllFresh s m (into_iter_items c.next.new.self)) (sym long) fresh.1;
      len = let before = v.len in let next = steps.1 in omega (arith, before, next, many);
      some = omega (arith, long);
      ready = subst (AllReady s p 0) (sym grown) (ready_and_one s p 0 old new v.ready one);
      many = let before = v.many in omega (arith, before, long, many);
    }
