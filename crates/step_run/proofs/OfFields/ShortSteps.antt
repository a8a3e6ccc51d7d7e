-- A look by a domain that is short of pools keeps the rule.
use Rattle.std.proofs.Common.{ℕ, List, [], set, refl, inr}
use Rattle.atomic_table.specs.Table.{keeps, Allows}
use Rattle.model_core.specs.declared.entry.Entry.{Entry}
use Rattle.heap_rule.specs.declared.config.Config.{Config}
use Rattle.heap_rule.specs.declared.view.DomainView.{DomainView}
use Rattle.heap_rule.specs.Raw.{MayStep}
use Rattle.heap_rule.specs.Rule.{Rule}
use Rattle.heap_rule.specs.Standing.{with_front}
use Rattle.heap_rule.specs.Views.{one, Tells}
use Rattle.heap_rule.proofs.Keeps.{looks, mine, my_good, unmoved}
use Rattle.step_run.specs.Fields.Shortage.{IsShort, ShortTold}
use Rattle.step_run.proofs.OfFields.FullSteps.{many_made}

shortages : (k : Config) (slots id word : ℕ) (hist : List Entry) (x : DomainView) → IsShort k x → Allows (Rule k) slots id (one k hist x, []) word (λ n. n) (Tells (ShortTold k) (one k hist x, []))
shortages k slots id word hist x may s r _ at _ = (
  one k hist (with_front x r.account.log),
  keeps,
  tt,
  unmoved k s word (set s.views id (one k hist (with_front x r.account.log))) (looks k s r id hist x at r.account.log (inr refl)),
  (
    record {
      looked = record { seen = (mine k s r id hist x at).front; calls = (my_good k s r id hist x at).still.1 may.acts.runs; legal = r.whole.legal; view = refl };
      made = many_made k s r id hist x at may.acts may.free may.found may.few;
    },
    refl,
  ),
)

pub short_may : (k : Config) (word : ℕ) (x : DomainView) → IsShort k x → MayStep k x word (λ n. n) (ShortTold k)
short_may k word x may fits slots id h = shortages k slots id word h x may
