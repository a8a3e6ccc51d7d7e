-- What domain 0 asks and is told of the changed word in an odd phase.
use Rattle.std.specs.Prelude.{◌≡◌, ℕ, Some}
use Rattle.heap_rule.specs.declared.phase.Kind.{Kind}
use Rattle.heap_rule.specs.declared.phase.Kind.TheVariants.{Mark}
use Rattle.heap_rule.specs.declared.phase.Note.TheVariants.{Changed}
use Rattle.heap_rule.specs.declared.phase.Stage.TheVariants.{Leads, Led}
use Rattle.heap_rule.specs.declared.view.DomainView.{DomainView}
use Rattle.heap_rule.specs.Standing.{noted}
use Rattle.step_marks.specs.Marking.Looks.{with_share}

-- domain 0 acts in an odd phase, and hasn't named the next kind
pub record FindMay (x : DomainView) : Type 0 where
  pub leads : x.own.number ≡ 0
  pub last : Kind
  pub stage : x.seen.stage ≡ Leads last

-- it knows what the changed word is, and notes it
abbrev pub FindTold : DomainView → ℕ → DomainView → Type 0
FindTold x found y = y ≡ noted (with_share x (record x.seen.share { changed = Some found })) (Changed found)

-- domain 0 has named a phase in which blocks are marked
pub record ForgetMay (x : DomainView) : Type 0 where
  pub leads : x.own.number ≡ 0
  pub stage : x.seen.stage ≡ Led Mark

-- it knows that the changed word is 0
abbrev pub ForgetTold : DomainView → ℕ → DomainView → Type 0
ForgetTold x new y = y ≡ with_share x (record x.seen.share { changed = Some 0 })
