-- What is asked and told of the armed word.
use Rattle.std.specs.Prelude.{◌≡◌, ℕ, ◌⊎◌, Bool, true, false, Some}
use Rattle.heap_rule.specs.declared.phase.Kind.TheVariants.{Roots, Lasts, Answer}
use Rattle.heap_rule.specs.declared.phase.Stage.TheVariants.{Leads}
use Rattle.heap_rule.specs.declared.view.DomainView.{DomainView}
use Rattle.heap_rule.specs.Phases.{flag}
use Rattle.step_marks.specs.Marking.Looks.{with_share}

-- it knows whether a cycle goes on beside running domains
abbrev pub knowing_armed : DomainView → Bool → DomainView
knowing_armed x armed = with_share x (record x.seen.share { armed = Some armed })

-- the word tells whether it does
pub record ArmedTold (x : DomainView) (found : ℕ) (y : DomainView) : Type 0 where
  pub armed : Bool
  pub word : found ≡ flag armed
  pub view : y ≡ knowing_armed x armed

-- domain 0 acts in an odd phase, and hasn't named the next kind: the roots are darkened, and the cycle will go on beside running domains; or a collection is over, and no cycle goes on
pub record ArmMay (x : DomainView) (armed : Bool) : Type 0 where
  pub leads : x.own.number ≡ 0
  pub stage : ((x.seen.stage ≡ Leads Roots) × (armed ≡ true)) ⊎ (((x.seen.stage ≡ Leads Lasts) ⊎ (x.seen.stage ≡ Leads Answer)) × (armed ≡ false))
