-- A store to a field whose block was looked at before.
use Rattle.std.proofs.Common.{◌≡◌, ◌∙◌, ℕ, Bool, List, sym, ap, subst}
use Rattle.model_core.specs.declared.command.Command.{Command}
use Rattle.model_core.specs.declared.entry.Entry.{Entry}
use Rattle.model_core.specs.declared.reply.Reply.{Reply}
use Rattle.model_core.specs.declared.reply.Applied.TheVariants.{Replied}
use Rattle.model_core.specs.Fronts.{Answers}
use Rattle.heap_words.specs.declared.value.Value.{Value}
use Rattle.heap_words.specs.declared.value.Value.TheVariants.{Nothing}
use Rattle.heap_rule.specs.declared.change.Change.{Change}
use Rattle.heap_rule.specs.declared.config.Config.{Config}
use Rattle.heap_rule.specs.declared.view.DomainView.{DomainView}
use Rattle.heap_rule.specs.declared.view.Own.{Own}
use Rattle.do_fields.specs.Darkening.Aware.{Learnt}
use Rattle.heap_rule.specs.Changes.{changed}
use Rattle.heap_rule.specs.Limits.{sizes_in}
use Rattle.heap_rule.specs.Standing.{Looked, with_front, with_own, with_registers, Entered}
use Rattle.step_run.specs.Fields.Stores.{with_field, remembering, WroteTold}
use Rattle.heap_rule.specs.Token.{Token, SharedHeap, IsIn}
use Rattle.heap_rule.specs.Running.{Runs, Stays, Did}
use Rattle.heap_rule.specs.Running.{own_entry}
use Rattle.heap_rule.proofs.Calls.{front_stays, look_stays, stays_trans, answered_did}
use Rattle.heap_rule.proofs.Plain.{entered_rest}
use Rattle.model_core.proofs.Histories.FrontLemmas.{answers_after}
use Rattle.heap_rule.proofs.ChangeLemmas.{changed_only}

-- the domain after a store, by its registers
stored_rest : (k : Config) (e : Entry) (at : ℕ) (remembers : Bool) (changes : List Change) (reply : Reply) (x y : DomainView) → WroteTold k e at remembers changes reply x y → y ≡ with_front (remembering remembers at (with_registers x (changed Nothing changes x.own).registers)) y.seen.front
stored_rest k e at remembers changes reply x y told = told.view ∙ ap (λ (own : Own). with_front (remembering remembers at (with_own x own)) y.seen.front) (changed_only Nothing changes x.own)

-- it stands where it stood
store_stays : (x y : DomainView) (at : ℕ) (remembers : Bool) (registers : List Value) (front : List Entry) → y ≡ with_front (remembering remembers at (with_registers x registers)) front → Stays x y
store_stays x y at remembers registers front is = record {
  arrivals = ap (λ (z : DomainView). z.own.arrivals) is;
  stage = ap (λ (z : DomainView). z.seen.stage) is;
  notes = ap (λ (z : DomainView). z.seen.notes) is;
  copying = ap (λ (z : DomainView). z.seen.copying) is;
  queue = ap (λ (z : DomainView). z.own.finalisers.queue) is;
  weak = ap (λ (z : DomainView). z.seen.share.weak) is;
  progress = ap (λ (z : DomainView). z.seen.share.progress) is;
  remembers = λ all. ap (λ (z : DomainView). z.seen.remembered) is ∙ (ap (with_field remembers at) all ∙ ap (λ (z : DomainView). z.own.remembered.items) (sym is));
}

-- and so it does where it came to know more of blocks
learnt_stays : (x y : DomainView) → Learnt x y → y.seen.share.weak ≡ x.seen.share.weak → Stays x y
learnt_stays x y learnt weak = let is = learnt.view in record {
  arrivals = ap (λ (z : DomainView). z.own.arrivals) is;
  stage = ap (λ (z : DomainView). z.seen.stage) is;
  notes = ap (λ (z : DomainView). z.seen.notes) is;
  copying = ap (λ (z : DomainView). z.seen.copying) is;
  queue = ap (λ (z : DomainView). z.own.finalisers.queue) is;
  weak = weak;
  progress = ap (λ (z : DomainView). z.seen.share.progress) is;
  remembers = λ all. ap (λ (z : DomainView). z.seen.remembered) is ∙ (all ∙ ap (λ (z : DomainView). z.own.remembered.items) (sym is));
}

-- a call that looked, marked what the field refers to, and then stored
pub stored_did : (h : SharedHeap) (old new : Token) (y z : DomainView) (c : Command) (e : Entry) (at : ℕ) (remembers : Bool) (changes : List Change) (reply : Reply) → e ≡ own_entry old c → Runs h old → IsIn new h
    → Looked h.config old.view y → Learnt y z → z.seen.share.weak ≡ y.seen.share.weak → WroteTold h.config e at remembers changes reply z new.view → Did h old new c reply
stored_did h old new y z c e at remembers changes reply is runs here look learnt weak told =
    let number : z.own.number ≡ old.view.own.number = ap (λ (x : DomainView). x.own.number) learnt.view ∙ ap (λ (x : DomainView). x.own.number) look.view in
    let front : z.seen.front ≡ y.seen.front = ap (λ (x : DomainView). x.seen.front) learnt.view in
    let rest = stored_rest h.config e at remembers changes reply z new.view told in
    let answers : Answers (sizes_in h.config) old.view.own.number y.seen.front new.view.seen.front (own_entry old c) (Replied reply) =
    subst (λ (x : Entry × List Entry). Answers (sizes_in h.config) old.view.own.number x.1 new.view.seen.front x.0 (Replied reply)) (λ i. (is i, front i))
    (subst (λ (n : ℕ). Answers (sizes_in h.config) n z.seen.front new.view.seen.front e (Replied reply)) number told.answers) in
    answered_did h old new c reply runs here (ap (λ (x : DomainView). x.own.number) rest ∙ number)
    (ap (λ (x : DomainView). x.seen.hunt) rest ∙ ap (λ (x : DomainView). x.seen.hunt) learnt.view ∙ ap (λ (x : DomainView). x.seen.hunt) look.view ∙ runs.at_rest)
    (ap (λ (x : DomainView). x.seen.made) rest ∙ ap (λ (x : DomainView). x.seen.made) learnt.view ∙ ap (λ (x : DomainView). x.seen.made) look.view ∙ runs.idle)
    (stays_trans old.view y new.view (look_stays old.view y _ look.view) (stays_trans y z new.view (learnt_stays y z learnt weak) (store_stays z new.view at remembers _ _ rest)))
    (answers_after (sizes_in h.config) old.view.own.number old.view.seen.front y.seen.front new.view.seen.front _ _ look.seen (λ _. look.calls) answers)

-- a call that looked, marked what it expects in the field, and found another there
pub lost_did : (h : SharedHeap) (old new : Token) (y z : DomainView) (c : Command) (e : Entry) (read : Value) (changes : List Change) (reply : Reply) → e ≡ own_entry old c → Runs h old → IsIn new h
    → Looked h.config old.view y → Learnt y z → z.seen.share.weak ≡ y.seen.share.weak → Entered h.config e (Replied reply) read changes z new.view → Did h old new c reply
lost_did h old new y z c e read changes reply is runs here look learnt weak told =
    let number : z.own.number ≡ old.view.own.number = ap (λ (x : DomainView). x.own.number) learnt.view ∙ ap (λ (x : DomainView). x.own.number) look.view in
    let front : z.seen.front ≡ y.seen.front = ap (λ (x : DomainView). x.seen.front) learnt.view in
    let rest = entered_rest _ _ _ _ _ _ _ told in
    let answers : Answers (sizes_in h.config) old.view.own.number y.seen.front new.view.seen.front (own_entry old c) (Replied reply) =
    subst (λ (x : Entry × List Entry). Answers (sizes_in h.config) old.view.own.number x.1 new.view.seen.front x.0 (Replied reply)) (λ i. (is i, front i))
    (subst (λ (n : ℕ). Answers (sizes_in h.config) n z.seen.front new.view.seen.front e (Replied reply)) number told.answers) in
    answered_did h old new c reply runs here (ap (λ (x : DomainView). x.own.number) rest ∙ number)
    (ap (λ (x : DomainView). x.seen.hunt) rest ∙ ap (λ (x : DomainView). x.seen.hunt) learnt.view ∙ ap (λ (x : DomainView). x.seen.hunt) look.view ∙ runs.at_rest)
    (ap (λ (x : DomainView). x.seen.made) rest ∙ ap (λ (x : DomainView). x.seen.made) learnt.view ∙ ap (λ (x : DomainView). x.seen.made) look.view ∙ runs.idle)
    (stays_trans old.view y new.view (look_stays old.view y _ look.view) (stays_trans y z new.view (learnt_stays y z learnt weak) (front_stays z new.view _ _ rest)))
    (answers_after (sizes_in h.config) old.view.own.number old.view.seen.front y.seen.front new.view.seen.front _ _ look.seen (λ _. look.calls) answers)
