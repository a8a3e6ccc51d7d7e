-- What a domain's stage says of the phase, and what the phase says of the pools.
use Rattle.std.proofs.Common.{◌≡◌, ℕ, ◌+◌, ◌*◌, false, List, sym, ap, ◌∙◌, subst, ⊎_elim}
use mathlib.Core.Option.{some}
use lib.ListN.{get_elem?}
use Rattle.model_core.specs.declared.entry.Entry.{Entry}
use Rattle.heap_rule.specs.declared.config.Config.{Config}
use Rattle.heap_rule.specs.declared.phase.Kind.{Kind}
use Rattle.heap_rule.specs.declared.phase.Kind.TheVariants.{Run, Promote}
use Rattle.heap_rule.specs.declared.phase.Stage.TheVariants.{In}
use Rattle.heap_rule.specs.declared.view.DomainView.{DomainView}
use Rattle.heap_rule.specs.Copies.{Promoting}
use Rattle.heap_rule.specs.Phases.{AtStage, Pause}
use Rattle.heap_rule.specs.Pools.{KeepsReserve}
use Rattle.heap_rule.specs.Rule.{Rule}
use Rattle.heap_rule.specs.Views.{one}
use Rattle.heap_rule.proofs.Keeps.{Words, mine, my_good}
use Rattle.heap_rule.proofs.PauseFacts.{half_same, not_both}

-- while young blocks are copied the reserve may be drawn
pub copying_keeps : (t : Pause) → Promoting t → KeepsReserve t → ⊥
copying_keeps t p keeps = ⊎_elim
    (λ (even : t.phase ≡ keeps.0 * 2). let clash : Run ≡ Promote = sym keeps.2 ∙ (ap t.kinds (half_same keeps.0 p.0 t.phase even p.1) ∙ p.2) in cc)
    (λ (odd : t.phase ≡ keeps.0 * 2 + 1). not_both t.phase (p.0, p.1) (keeps.0, odd))
    keeps.1

-- a domain that acts in an even phase hasn't arrived
pub waits_in : (k : Config) (s : Words) (r : Rule k s) (id : ℕ) (hist : List Entry) (x : DomainView) → get_elem? s.views id ≡ some (one k hist x) → (kind : Kind) → x.seen.stage ≡ In kind → r.account.cycling.shares.arrived x.own.number ≡ false
waits_in k s r id hist x at kind is =
    let staged = (my_good k s r id hist x at).staged in
    let a = subst (AtStage r.account.pause x.own.number x.own.arrivals) is staged.stage in
    ((r.whole.cycle.told.even a.1.0 a.1.1).1 x.own.number (mine k s r id hist x at).inside).waits (sym staged.arrivals ∙ a.0)
