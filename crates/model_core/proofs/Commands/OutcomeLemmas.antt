-- What holds of each answer that a command may come to holds of the command: where an index is looked for, a question is answered, or an ephemeron is wanted.
use Rattle.std.proofs.Common.{◌≡◌, ℕ, Bool, true, false, List, Option, Some, None, refl}
use Rattle.model_core.specs.declared.label.Label.{Label}
use Rattle.model_core.specs.declared.graph.Value.{Value}
use Rattle.model_core.specs.declared.graph.Node.{Node}
use Rattle.model_core.specs.declared.graph.Node.TheVariants.{Plain, Raw, Ephe}
use Rattle.model_core.specs.declared.reply.Reply.TheVariants.{BadType, BadIndex, Yes, No}
use Rattle.model_core.specs.declared.state.State.{State}
use Rattle.model_core.specs.Commands.{Outcome, at_ephe, block_in, in_bounds, only_replies, tells}

module _ (Q : Outcome → Type 0) (s : State) where
  pub bounds_each : Q (only_replies s BadIndex) → {A : Type 0} (o : Option A) (f : A → Outcome) → ((a : A) → o ≡ Some a → Q (f a)) → Q (in_bounds s o f)
  bounds_each outside None f each = outside
  bounds_each outside (Some a) f each = each a refl

  pub tells_each : Q (only_replies s Yes) → Q (only_replies s No) → (b : Bool) → Q (tells s b)
  tells_each told denied true = told
  tells_each told denied false = denied

  pub ephe_each : Q (only_replies s BadType) → (d r : ℕ) (f : Label → List (Option Label) → Value → Outcome)
      → ((k : Label) (keys : List (Option Label)) (datum : Value) → block_in s d r ≡ Some (k, Ephe keys datum) → Q (f k keys datum)) → Q (at_ephe s (block_in s d r) f)
  ephe_each other d r f each = go (block_in s d r) refl
    where
      go : (b : Option (Label × Node)) → block_in s d r ≡ b → Q (at_ephe s b f)
      go None e = other
      go (Some (k, Plain tag fields)) e = other
      go (Some (k, Raw tag fields)) e = other
      go (Some (k, Ephe keys datum)) e = each k keys datum e
