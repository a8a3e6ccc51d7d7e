-- A registration makes the call of its command.
use Rattle.std.proofs.Common.{◌≡◌, ℕ, refl, sym, ap, ◌∙◌}
use Rattle.model_core.specs.declared.command.Command.{Command}
use Rattle.model_core.specs.declared.command.Command.TheVariants.{Finalise, FinaliseLast}
use Rattle.model_core.specs.declared.reply.Applied.TheVariants.{Replied}
use Rattle.model_core.specs.declared.reply.Reply.TheVariants.{Done, BadType}
use Rattle.model_core.specs.Fronts.{Answers}
use Rattle.heap_words.specs.declared.value.Value.{Value}
use Rattle.heap_words.specs.declared.value.Value.TheVariants.{Int, Ref, Nothing}
use Rattle.heap_rule.specs.declared.view.DomainView.{DomainView}
use Rattle.heap_rule.specs.declared.view.Own.{Own}
use Rattle.heap_rule.specs.declared.view.Registered.{Registered}
use Rattle.heap_rule.specs.declared.view.RegisteredLast.{RegisteredLast}
use Rattle.heap_rule.specs.Limits.{sizes_in}
use Rattle.heap_rule.specs.Places.{IsNoBlock}
use Rattle.heap_rule.specs.Running.{Did, Runs, own_entry}
use Rattle.heap_rule.specs.Standing.{with_front, with_own}
use Rattle.heap_rule.specs.Token.{IsIn, SharedHeap, Token}
use Rattle.heap_rule.proofs.Calls.{answered_did}
use Rattle.heap_words.specs.Remembered.Bounded.{Bounded}
use Rattle.step_finalisers.specs.Registering.{FinalTold, LastTold, with_final, with_last}
use Rattle.do_finalisers.specs.Registering.{own_finalised, own_finalised_last, registering_reply}

-- a step that changes the front and the domain's own data, but for what a call that makes an entry leaves
own_did : (h : SharedHeap) (old new : Token) (c : Command) (own : Own) → Runs h old → IsIn new h → new.view ≡ with_front (with_own old.view own) new.view.seen.front → own.number ≡ old.view.own.number → own.arrivals ≡ old.view.own.arrivals → own.finalisers.queue ≡ old.view.own.finalisers.queue → own.remembered ≡ old.view.own.remembered
    → Answers (sizes_in h.config) old.view.own.number old.view.seen.front new.view.seen.front (own_entry old c) (Replied Done) → Did h old new c Done
own_did h old new c own runs here is number arrivals queue remembered answers =
    answered_did h old new c Done runs here (ap (λ (x : DomainView). x.own.number) is ∙ number) (ap (λ (x : DomainView). x.seen.hunt) is ∙ runs.at_rest) (ap (λ (x : DomainView). x.seen.made) is ∙ runs.idle)
    (record {
      arrivals = ap (λ (x : DomainView). x.own.arrivals) is ∙ arrivals;
      stage = ap (λ (x : DomainView). x.seen.stage) is;
      notes = ap (λ (x : DomainView). x.seen.notes) is;
      copying = ap (λ (x : DomainView). x.seen.copying) is;
      queue = ap (λ (x : DomainView). x.own.finalisers.queue) is ∙ queue;
      weak = ap (λ (x : DomainView). x.seen.share.weak) is;
      progress = ap (λ (x : DomainView). x.seen.share.progress) is;
      remembers = λ all. ap (λ (x : DomainView). x.seen.remembered) is ∙ (all ∙ sym (ap (λ (x : DomainView). x.own.remembered.items) is ∙ ap (λ (b : Bounded ℕ). b.items) remembered));
    })
    answers

pub final_did : (h : SharedHeap) (old new : Token) (item : ℕ) (r : Registered) → Runs h old → IsIn new h → FinalTold h.config item r old.view new.view → Did h old new (Finalise item r.number r.register) Done
final_did h old new item r runs here told = own_did h old new (Finalise item r.number r.register) (with_final r old.view.own) runs here told.view refl refl refl refl told.answers

pub last_did : (h : SharedHeap) (old new : Token) (item : ℕ) (r : RegisteredLast) → Runs h old → IsIn new h → LastTold h.config item r old.view new.view → Did h old new (FinaliseLast item r.number) Done
last_did h old new item r runs here told = own_did h old new (FinaliseLast item r.number) (with_last r old.view.own) runs here told.view refl refl refl refl told.answers

-- where the register holds no block nothing is registered
pub own_unfinalised : (v : Value) (number register : ℕ) (own : Own) → IsNoBlock v → own_finalised v number register own ≡ own
own_unfinalised (Int z) number register own none = refl
own_unfinalised (Ref a) number register own none = absurd none
own_unfinalised Nothing number register own none = refl

pub own_unfinalised_last : (v : Value) (number : ℕ) (own : Own) → IsNoBlock v → own_finalised_last v number own ≡ own
own_unfinalised_last (Int z) number own none = refl
own_unfinalised_last (Ref a) number own none = absurd none
own_unfinalised_last Nothing number own none = refl

pub reply_bad : (v : Value) → IsNoBlock v → registering_reply v ≡ BadType
reply_bad (Int z) none = refl
reply_bad (Ref a) none = absurd none
reply_bad Nothing none = refl
