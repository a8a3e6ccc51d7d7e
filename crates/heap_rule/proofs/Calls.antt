-- A call of a running domain whose front ends with the entry of its command.
use Rattle.std.proofs.Common.{◌≡◌, ◌∙◌, ℕ, Bool, List, [], false, sym, ap, subst}
use Rattle.model_core.specs.declared.entry.Entry.{Entry}
use Rattle.heap_words.specs.declared.value.Value.{Value}
use Rattle.heap_rule.specs.declared.view.DomainView.{DomainView}
use Rattle.heap_rule.specs.Standing.{with_front, with_registers}
use Rattle.model_core.specs.declared.command.Command.{Command}
use Rattle.model_core.specs.declared.entry.Entry.TheVariants.{Command as CommandOf}
use Rattle.model_core.specs.declared.reply.Reply.{Reply}
use Rattle.model_core.specs.declared.reply.Applied.{Applied}
use Rattle.model_core.specs.declared.reply.Applied.TheVariants.{Replied}
use Rattle.model_core.specs.Domains.{domain_at}
use Rattle.model_core.specs.Fronts.{Answers}
use Rattle.model_core.proofs.Histories.AnswerLemmas.{acts_after}
use Rattle.heap_rule.specs.declared.config.Config.{Config}
use Rattle.heap_words.specs.Remembered.Bounded.{Bounded}
use Rattle.heap_rule.specs.declared.view.Waiting.{Waiting}
use Rattle.heap_rule.specs.declared.view.Hunt.TheVariants.{Rests}
use Rattle.heap_rule.specs.Limits.{sizes_in}
use Rattle.heap_rule.specs.Rule.{state_of}
use Rattle.heap_rule.specs.Running.{RemembersAll, Runs, Stays, Did, own_entry}
use Rattle.heap_rule.specs.Standing.{Acts}
use Rattle.heap_rule.specs.Token.{Token, SharedHeap, IsIn}

-- a step that changes registers and the front alone
pub front_stays : (x y : DomainView) (registers : List Value) (front : List Entry) → y ≡ with_front (with_registers x registers) front → Stays x y
front_stays x y registers front is = record { arrivals = ap (λ (z : DomainView). z.own.arrivals) is; stage = ap (λ (z : DomainView). z.seen.stage) is; notes = ap (λ (z : DomainView). z.seen.notes) is; copying = ap (λ (z : DomainView). z.seen.copying) is; queue = ap (λ (z : DomainView). z.own.finalisers.queue) is; weak = ap (λ (z : DomainView). z.seen.share.weak) is; progress = ap (λ (z : DomainView). z.seen.share.progress) is; remembers = λ all. ap (λ (z : DomainView). z.seen.remembered) is ∙ (all ∙ ap (λ (z : DomainView). z.own.remembered.items) (sym is)) }

-- a step that changes the front alone
pub look_stays : (x y : DomainView) (front : List Entry) → y ≡ with_front x front → Stays x y
look_stays x y front is = record { arrivals = ap (λ (z : DomainView). z.own.arrivals) is; stage = ap (λ (z : DomainView). z.seen.stage) is; notes = ap (λ (z : DomainView). z.seen.notes) is; copying = ap (λ (z : DomainView). z.seen.copying) is; queue = ap (λ (z : DomainView). z.own.finalisers.queue) is; weak = ap (λ (z : DomainView). z.seen.share.weak) is; progress = ap (λ (z : DomainView). z.seen.share.progress) is; remembers = λ all. ap (λ (z : DomainView). z.seen.remembered) is ∙ (all ∙ ap (λ (z : DomainView). z.own.remembered.items) (sym is)) }

pub stays_trans : (x y z : DomainView) → Stays x y → Stays y z → Stays x z
stays_trans x y z a b = record { arrivals = b.arrivals ∙ a.arrivals; stage = b.stage ∙ a.stage; notes = b.notes ∙ a.notes; copying = b.copying ∙ a.copying; queue = b.queue ∙ a.queue; weak = b.weak ∙ a.weak; progress = b.progress ∙ a.progress; remembers = λ all. b.remembers (a.remembers all) }

-- the domain runs on
pub acting_runs : (h : SharedHeap) (old new : Token) (c : Command) (full : Bool) (a : Applied) → IsIn old h → Acts old.config old.view → RemembersAll old.view → IsIn new h → new.view.own.number ≡ old.view.own.number → new.view.seen.hunt ≡ Rests → new.view.seen.made ≡ [] → Stays old.view new.view
    → Answers (sizes_in old.config) old.view.own.number old.view.seen.front new.view.seen.front (CommandOf old.view.own.number c full) a → Runs h new
acting_runs h old new c full a was acts all here number at_rest idle stays answers =
    let same : new.config ≡ old.config = here.1 ∙ sym was.1 in
    let after = acts_after (sizes_in old.config) old.view.own.number old.view.seen.front new.view.seen.front c full a answers acts.goes_on in
    record {
      here = here;
      acts = record {
        goes_on = subst (λ (k : Config). (domain_at (state_of k new.view.seen.front) new.view.own.number).ended ≡ false) (sym same)
            (subst (λ (n : ℕ). (domain_at (state_of old.config new.view.seen.front) n).ended ≡ false) (sym number) after);
        runs = stays.stage ∙ acts.runs;
        paid = stays.weak ∙ acts.paid;
        unqueued = ap (λ (q : Bounded Waiting). q.items) stays.queue ∙ acts.unqueued;
      };
      idle = idle;
      at_rest = at_rest;
      remembers = stays.remembers all;
    }

pub answered_runs : (h : SharedHeap) (old new : Token) (c : Command) (full : Bool) (a : Applied) → Runs h old → IsIn new h → new.view.own.number ≡ old.view.own.number → new.view.seen.hunt ≡ Rests → new.view.seen.made ≡ [] → Stays old.view new.view
    → Answers (sizes_in old.config) old.view.own.number old.view.seen.front new.view.seen.front (CommandOf old.view.own.number c full) a → Runs h new
answered_runs h old new c full a runs here number at_rest idle stays answers = acting_runs h old new c full a runs.here runs.acts runs.remembers here number at_rest idle stays answers

-- and has made the command
pub acting_did : (h : SharedHeap) (old new : Token) (c : Command) (r : Reply) → IsIn old h → Acts old.config old.view → RemembersAll old.view → IsIn new h → new.view.own.number ≡ old.view.own.number → new.view.seen.hunt ≡ Rests → new.view.seen.made ≡ [] → Stays old.view new.view
    → Answers (sizes_in h.config) old.view.own.number old.view.seen.front new.view.seen.front (own_entry old c) (Replied r) → Did h old new c r
acting_did h old new c r was acts all here number at_rest idle stays answers =
    let mine : Answers (sizes_in old.config) old.view.own.number old.view.seen.front new.view.seen.front (own_entry old c) (Replied r) =
    subst (λ (k : Config). Answers (sizes_in k) old.view.own.number old.view.seen.front new.view.seen.front (own_entry old c) (Replied r)) (sym was.1) answers in
    record {
      runs = acting_runs h old new c false (Replied r) was acts all here number at_rest idle stays mine;
      answers = mine;
      heap = (here.0 ∙ sym was.0, here.1 ∙ sym was.1);
      stays = stays;
    }

pub answered_did : (h : SharedHeap) (old new : Token) (c : Command) (r : Reply) → Runs h old → IsIn new h → new.view.own.number ≡ old.view.own.number → new.view.seen.hunt ≡ Rests → new.view.seen.made ≡ [] → Stays old.view new.view
    → Answers (sizes_in h.config) old.view.own.number old.view.seen.front new.view.seen.front (own_entry old c) (Replied r) → Did h old new c r
answered_did h old new c r runs here number at_rest idle stays answers = acting_did h old new c r runs.here runs.acts runs.remembers here number at_rest idle stays answers
