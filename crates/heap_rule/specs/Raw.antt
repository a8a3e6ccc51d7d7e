-- What a step call asks of the calls that it stands on: that the rule allows its step, and that what the step tells of the token's plain data is what its changes make of it.
use Rattle.std.specs.Prelude.{◌≡◌, ℕ, List, [], ◌∷◌, ◌⊎◌}
use Rattle.atomic_table.specs.Table.{Allows}
use Rattle.model_core.specs.declared.entry.Entry.{Entry}
use Rattle.model_core.specs.declared.reply.Applied.{Applied}
use Rattle.model_core.specs.Fronts.{IsFrontOf, Answers}
use Rattle.heap_words.specs.declared.value.Value.{Value}
use Rattle.heap_rule.specs.declared.change.Change.{Change}
use Rattle.heap_rule.specs.declared.change.Reading.{Reading}
use Rattle.heap_rule.specs.declared.config.Config.{Config}
use Rattle.heap_rule.specs.declared.view.Own.{Own}
use Rattle.heap_rule.specs.declared.view.DomainView.{DomainView}
use Rattle.heap_rule.specs.declared.phase.Kind.TheVariants.{Run}
use Rattle.heap_rule.specs.declared.phase.Stage.TheVariants.{In}
use Rattle.heap_rule.specs.Changes.{changed, FitChanges}
use Rattle.heap_rule.specs.Limits.{sizes_in}
use Rattle.heap_rule.specs.Reads.{Reads}
use Rattle.heap_rule.specs.Rule.{Rule}
use Rattle.heap_rule.specs.Token.{OwnFits}
use Rattle.heap_rule.specs.Views.{one, several, Tells, TellsAll}

-- whatever seat stands for this domain alone, whose own data fits, the rule allows it a step at which the word becomes f of what it was, and which then tells so
abbrev pub MayStep : Config → DomainView → ℕ → (ℕ → ℕ) → (DomainView → ℕ → DomainView → Type 0) → Type 0
MayStep k x word f tells = OwnFits k x.own → (slots id : ℕ) (h : List Entry) → Allows (Rule k) slots id (one k h x, []) word f (Tells tells (one k h x, []))

-- and so a store, which tells of the word that it wrote
abbrev pub MayStore : Config → DomainView → ℕ → ℕ → (DomainView → ℕ → DomainView → Type 0) → Type 0
MayStore k x word new tells = OwnFits k x.own → (slots id : ℕ) (h : List Entry) → Allows (Rule k) slots id (one k h x, []) word (λ _. new) (λ _. Tells tells (one k h x, []) new)

-- whatever seat stands for these domains, the rule allows it a load that tells so of them
abbrev pub MayLoadAll : Config → List DomainView → ℕ → (List DomainView → ℕ → List DomainView → Type 0) → Type 0
MayLoadAll k xs word tells = (slots id : ℕ) (h : List Entry) → Allows (Rule k) slots id (several k h xs, []) word (λ n. n) (TellsAll tells (several k h xs, []))

-- each of these domains has the plain data that it had
abbrev pub SameOwn : List DomainView → List DomainView → Type 0
SameOwn [] [] = Unit {0}
SameOwn (x ∷ xs) (y ∷ ys) = (y.own ≡ x.own) × SameOwn xs ys
SameOwn _ _ = ⊥

-- a load that tells so leaves the plain data of each
abbrev pub LeavesAll : List DomainView → (List DomainView → ℕ → List DomainView → Type 0) → Type 0
LeavesAll xs tells = (found : ℕ) (ys : List DomainView) → tells xs found ys → SameOwn xs ys

-- the changes can be made with what the word is read as
abbrev pub CanChange : Reading → ℕ → List Change → Type 0
CanChange reading found changes = FitChanges changes × ((v : Value) × Reads reading found v)

-- and they are made
abbrev pub Changes : Reading → ℕ → List Change → Own → Own → Type 0
Changes reading found changes own after = (v : Value) × Reads reading found v × (after ≡ changed v changes own)

-- the plain data can always be left as it is, and it is left
abbrev pub CanLeave : Own → Type 0
CanLeave own = Unit {0}

abbrev pub Leaves : Own → Own → Type 0
Leaves own after = after ≡ own

-- no entry of the domain stands at the step, which makes no block and leaves the registers
pub record Unentered (x y : DomainView) : Type 0 where
  pub front : IsFrontOf x.own.number y.seen.front x.seen.front
  pub registers : y.own.registers ≡ x.own.registers
  pub used : y.own.used ≡ x.own.used
  pub serial : y.own.serial ≡ x.own.serial

-- one entry of the domain stands at the step, the last of its front
pub record EntersOnce (k : Config) (x y : DomainView) : Type 0 where
  pub entry : Entry
  pub answer : Applied
  pub answers : Answers (sizes_in k) x.own.number x.seen.front y.seen.front entry answer

-- a running domain makes at most one entry at a step, and nothing happens to its registers and its blocks without one
abbrev pub StepsOnce : Config → DomainView → DomainView → Type 0
StepsOnce k x y = x.seen.stage ≡ In Run → Unentered x y ⊎ EntersOnce k x y

-- the plain data can be written, whatever is written is what is told of it, and that fits a token. The step is one of a running domain's
pub record Written (k : Config) (x y : DomainView) (can : Own → Type 0) (writes : Own → Own → Type 0) : Type 0 where
  pub can_write : can x.own
  pub written : (own : Own) → writes x.own own → y.own ≡ own
  pub fits : OwnFits k y.own
  pub once : StepsOnce k x y

-- what the step tells where it finds this word is what is written
abbrev pub Closes : Config → DomainView → ℕ → (DomainView → ℕ → DomainView → Type 0) → (Own → Type 0) → (Own → Own → Type 0) → Type 0
Closes k x found tells can writes = (y : DomainView) → OwnFits k x.own → tells x found y → Written k x y can writes
