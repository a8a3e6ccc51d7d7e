-- A domain that comes to know that a cycle goes on.
use Rattle.std.proofs.Common.{◌≡◌, ◌≢◌, ℕ, Bool, true, Some, inr, sym, ap, subst, ⊎_elim}
use mathlib.Core.Logic.{dite}
use native.Mathlib.Decide.{ℕ_discrete}
use Rattle.heap_rule.specs.declared.config.Config.{Config}
use Rattle.heap_rule.specs.declared.phase.Kind.TheVariants.{Run}
use Rattle.heap_rule.specs.declared.phase.Stage.TheVariants.{In}
use Rattle.heap_rule.specs.declared.view.DomainView.{DomainView}
use Rattle.heap_rule.specs.Standing.{FieldMay}
use Rattle.step_marks.specs.Marking.Arming.{knowing_armed}
use Rattle.step_marks.specs.Beside.Marking.{DarkenTold, OfRegister, ReadMay, Reason, StillFound, TargetTold, darkened_at, learning, marked_at}

-- once a domain knows that a cycle goes on, the field into which it is to store may be read
pub read_after : (k : Config) (x y : DomainView) (b : Bool) (at block register field : ℕ) → y ≡ knowing_armed x b → b ≡ true → x.seen.stage ≡ In Run → (may : FieldMay k x at register field) × (may.address ≡ block) → ReadMay k y at block field (OfRegister register)
read_after k x y b at block register field is goes runs may = subst (λ (v : DomainView). ReadMay k v at block field (OfRegister register)) (sym is) (let m = may.0 in record {
  beside = record { runs = runs; armed = ap Some goes };
  reads = (record { address = m.address; size = m.size; block = record { few = m.block.few; holds = m.block.holds }; field = m.field; known = m.known; inside = m.inside }, may.1);
})

-- what a domain has found it has still found so, after a look at a block that is to be marked
pub target_found : (at : ℕ) (reason : Reason) (x : DomainView) (found : ℕ) (y : DomainView) → TargetTold at reason x found y → StillFound x y
target_found at reason x found y t = ⊎_elim
    (λ u. subst (StillFound x) (sym u.1) (λ a head s. inr (tt, s)))
    (λ u. subst (StillFound x) (sym u.1) (λ a head s. inr (tt, s)))
    t.told

-- and after the exchange
pub darken_found : (old at : ℕ) (reason : Reason) (x : DomainView) (found : ℕ) (y : DomainView) → DarkenTold old at reason x found y → StillFound x y
darken_found old at reason x found y t = dite (ℕ_discrete found old)
    (λ (e : found ≡ old). subst (StillFound x) (sym (t.won e)) (λ a head s. inr (tt, inr (tt, s))))
    (λ (d : found ≢ old). subst (StillFound x) (sym (t.lost d)) (λ a head s. inr (tt, s)))

pub both_found : (x y z : DomainView) → StillFound x y → StillFound y z → StillFound x z
both_found x y z f g = λ a head s. g a head (f a head s)
