-- A step at which the entry of a command stands makes the call of that command.
use Rattle.std.proofs.Common.{◌≡◌, ◌∙◌, ℕ, List, ap, subst}
use Rattle.model_core.specs.declared.command.Command.{Command}
use Rattle.model_core.specs.declared.entry.Entry.{Entry}
use Rattle.model_core.specs.declared.reply.Reply.{Reply}
use Rattle.model_core.specs.declared.reply.Applied.{Applied}
use Rattle.model_core.specs.declared.reply.Applied.TheVariants.{Replied}
use Rattle.model_core.specs.Fronts.{Answers}
use Rattle.heap_words.specs.declared.value.Value.{Value}
use Rattle.heap_rule.specs.declared.change.Change.{Change}
use Rattle.heap_rule.specs.declared.view.DomainView.{DomainView}
use Rattle.heap_rule.specs.Limits.{sizes_in}
use Rattle.heap_rule.specs.Standing.{Entered, Looked}
use Rattle.heap_rule.specs.Token.{Token, SharedHeap, IsIn}
use Rattle.heap_rule.specs.Running.{Runs, Did}
use Rattle.heap_rule.specs.Running.{own_entry}
use Rattle.heap_rule.proofs.Calls.{front_stays, look_stays, stays_trans, answered_did}
use Rattle.model_core.proofs.Histories.FrontLemmas.{answers_after}
use Rattle.heap_rule.proofs.Plain.{entered_rest}

-- a step at which the entry of the command stands
pub entered_did : (h : SharedHeap) (old new : Token) (c : Command) (e : Entry) (r : Reply) (a : Applied) (read : Value) (changes : List Change) → e ≡ own_entry old c → a ≡ Replied r → Runs h old → IsIn new h
    → Entered h.config e a read changes old.view new.view → Did h old new c r
entered_did h old new c e r a read changes is answer runs here entered =
    answered_did h old new c r runs here (ap (λ (x : DomainView). x.own.number) (entered_rest _ _ _ _ _ _ _ entered)) (ap (λ (x : DomainView). x.seen.hunt) (entered_rest _ _ _ _ _ _ _ entered) ∙ runs.at_rest) (ap (λ (x : DomainView). x.seen.made) (entered_rest _ _ _ _ _ _ _ entered) ∙ runs.idle)
    (front_stays old.view new.view _ _ (entered_rest _ _ _ _ _ _ _ entered))
    (subst (λ (x : Entry). Answers (sizes_in h.config) old.view.own.number old.view.seen.front new.view.seen.front x (Replied r)) is
    (subst (λ (b : Applied). Answers (sizes_in h.config) old.view.own.number old.view.seen.front new.view.seen.front e b) answer entered.answers))

-- a step that looked, and one behind it at which the entry stands
pub looked_did : (h : SharedHeap) (old new : Token) (y : DomainView) (c : Command) (e : Entry) (r : Reply) (read : Value) (changes : List Change) → e ≡ own_entry old c → Runs h old → IsIn new h → Looked h.config old.view y
    → Entered h.config e (Replied r) read changes y new.view → Did h old new c r
looked_did h old new y c e r read changes is runs here look entered =
    let rest = entered_rest _ _ _ _ _ _ _ entered in
    let number : y.own.number ≡ old.view.own.number = ap (λ (x : DomainView). x.own.number) look.view in
    let answers : Answers (sizes_in h.config) old.view.own.number y.seen.front new.view.seen.front (own_entry old c) (Replied r) =
    subst (λ (x : Entry). Answers (sizes_in h.config) old.view.own.number y.seen.front new.view.seen.front x (Replied r)) is
    (subst (λ (n : ℕ). Answers (sizes_in h.config) n y.seen.front new.view.seen.front e (Replied r)) number entered.answers) in
    answered_did h old new c r runs here (ap (λ (x : DomainView). x.own.number) rest ∙ number)
    (ap (λ (x : DomainView). x.seen.hunt) rest ∙ ap (λ (x : DomainView). x.seen.hunt) look.view ∙ runs.at_rest)
    (ap (λ (x : DomainView). x.seen.made) rest ∙ ap (λ (x : DomainView). x.seen.made) look.view ∙ runs.idle)
    (stays_trans old.view y new.view (look_stays old.view y _ look.view) (front_stays y new.view _ _ rest))
    (answers_after (sizes_in h.config) old.view.own.number old.view.seen.front y.seen.front new.view.seen.front _ _ look.seen (λ _. look.calls) answers)
