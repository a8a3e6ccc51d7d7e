-- A token's own data after the changes of a step.
use Rattle.std.proofs.Common.{◌≡◌, ◌+◌, ◌<◌, ◌≤◌, ℕ, List, length, refl, sym, ap, ◌∙◌, subst, inr}
use Rattle.model_core.specs.declared.entry.Entry.{Entry}
use Rattle.model_core.specs.declared.reply.Applied.{Applied}
use Rattle.heap_words.specs.declared.value.Value.{Value}
use Rattle.heap_words.specs.declared.value.Value.TheVariants.{Nothing}
use Rattle.heap_rule.specs.declared.change.Change.{Change}
use Rattle.heap_rule.specs.declared.change.Reading.TheVariants.{Unread}
use Rattle.heap_rule.specs.declared.config.Config.{Config}
use Rattle.heap_rule.specs.declared.view.Own.{Own}
use Rattle.heap_rule.specs.declared.view.DomainView.{DomainView}
use Rattle.heap_rule.specs.Changes.{changed, FitChanges}
use Rattle.heap_rule.specs.Finalisers.{FinalisersFit}
use Rattle.heap_rule.specs.Raw.{StepsOnce, CanChange, Changes, Written, Closes}
use Rattle.heap_rule.specs.Standing.{Entered, with_front, with_own, with_registers}
use Rattle.heap_rule.specs.Token.{AllInHeap, Holds, LooksWithin, OwnFits, SweptWithin}
use Rattle.heap_rule.proofs.ChangeLemmas.{changed_only}
use Rattle.heap_rule.proofs.Fits.{registers_fit}

-- what fits a token fits it after the changes, where the registers then hold what registers may hold
pub fits_changed : (k : Config) (own own' : Own) (read : Value) (changes : List Change) → own' ≡ changed read changes own → OwnFits k own → Holds k own'.registers → OwnFits k own'
fits_changed k own own' read changes is fits holds =
    let only : own' ≡ record own { registers = (changed read changes own).registers } = is ∙ changed_only read changes own in
    subst (OwnFits k) (sym only) (registers_fit k own (changed read changes own).registers own.finalisers (subst (λ (o : Own). Holds k o.registers) only holds) fits.finalisers fits)

pub entered_own : (k : Config) (e : Entry) (answer : Applied) (read : Value) (changes : List Change) (x y : DomainView) → Entered k e answer read changes x y → y.own ≡ changed read changes x.own
entered_own k e answer read changes x y says = ap (λ (z : DomainView). z.own) says.view

-- and the view is as it was but for the front and the registers
pub entered_rest : (k : Config) (e : Entry) (answer : Applied) (read : Value) (changes : List Change) (x y : DomainView) → Entered k e answer read changes x y → y ≡ with_front (with_registers x (changed read changes x.own).registers) y.seen.front
entered_rest k e answer read changes x y says = says.view ∙ ap (λ (own : Own). with_front (with_own x own) y.seen.front) (changed_only read changes x.own)

-- an entry stands at the step
pub enters_once : (k : Config) (e : Entry) (answer : Applied) (read : Value) (changes : List Change) (x y : DomainView) → Entered k e answer read changes x y → StepsOnce k x y
enters_once k e answer read changes x y says _ = inr (record { entry = e; answer = answer; answers = says.answers })

-- where no value is read, the changes are made with none
pub changed_unread : (k : Config) (x y : DomainView) (found : ℕ) (changes : List Change) → FitChanges changes → OwnFits k x.own → y.own ≡ changed Nothing changes x.own → Holds k y.own.registers → StepsOnce k x y
    → Written k x y (λ own. CanChange Unread found changes) (λ own after. Changes Unread found changes own after)
changed_unread k x y found changes fit fits own holds once = record {
  can_write = (fit, (Nothing, refl));
  written = λ after wrote. own ∙ (ap (λ (u : Value). changed u changes x.own) (sym wrote.1) ∙ sym wrote.2);
  fits = fits_changed k x.own y.own Nothing changes own fits holds;
  once = once;
}

-- a step at which an entry stands, and which reads no value, closes
pub entered_closes : (k : Config) (x : DomainView) (found : ℕ) (e : Entry) (answer : Applied) (changes : List Change) → FitChanges changes
    → Closes k x found (λ y _ z. Entered k e answer Nothing changes y z) (λ own. CanChange Unread found changes) (λ own after. Changes Unread found changes own after)
entered_closes k x found e answer changes fit y fits told = changed_unread k x y found changes fit fits (entered_own k e answer Nothing changes x y told) told.holds (enters_once k e answer Nothing changes x y told)
