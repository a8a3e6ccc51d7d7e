-- What a domain that has run a finaliser knows.
use Rattle.std.proofs.Common.{◌≡◌, ℕ, zero, suc, ◌<◌, false, List, [], ◌∷◌, ◌++◌, length, get_or, set, refl, sym, ap, ◌∙◌, subst, arith, length-set, get_or-set_same}
use Rattle.std.specs.Prelude.{slice_get, Some}
use Rattle.model_core.specs.declared.entry.Entry.{Entry}
use Rattle.model_core.specs.declared.entry.Entry.TheVariants.{Ran as RanEntry}
use Rattle.model_core.specs.declared.graph.Value as model
use Rattle.model_core.specs.declared.graph.Value.TheVariants.{Block, Nothing as NothingValue}
use Rattle.model_core.specs.declared.label.Label.{Label}
use Rattle.model_core.specs.declared.reply.Applied.{Applied}
use Rattle.model_core.specs.declared.reply.Applied.TheVariants.{Replied}
use Rattle.model_core.specs.declared.reply.Reply.TheVariants.{Fin as FinReply, Last as LastReply}
use Rattle.model_core.specs.declared.state.DomainState.{DomainState}
use Rattle.model_core.specs.declared.state.Pending.{Pending}
use Rattle.model_core.specs.declared.state.Pending.TheVariants.{Fin as FinPending, Last as LastPending}
use Rattle.model_core.specs.declared.state.Sizes.{Sizes}
use Rattle.model_core.specs.declared.state.State.{State}
use Rattle.model_core.specs.Domains.{domain_at, no_domain, opening, register, with_domain, IsWithinLimits}
use Rattle.model_core.specs.Entries.{after_run, next, without_first}
use Rattle.model_core.specs.Fronts.{Answers}
use Rattle.model_core.specs.History.{state_after}
use Rattle.model_core.proofs.Commands.FrameLemmas.{inside_running}
use Rattle.model_core.proofs.Histories.AnswerLemmas.{before_entry}
use Rattle.model_core.proofs.Histories.FrontLemmas.{keeps_front}
use Rattle.model_core.proofs.Histories.HistoryLemmas.{state_after-push}
use Rattle.model_core.proofs.Histories.ShapeAfterLemmas.{shaped-history}
use Rattle.heap_words.specs.declared.value.Value.{Value}
use Rattle.heap_words.specs.declared.value.Value.TheVariants.{Ref, Nothing}
use Rattle.heap_rule.specs.declared.config.Config.{Config}
use Rattle.heap_rule.specs.declared.view.DomainView.{DomainView}
use Rattle.heap_rule.specs.declared.view.Waiting.{Waiting}
use Rattle.heap_rule.specs.declared.view.Waiting.TheVariants.{Fin, Last}
use Rattle.heap_rule.specs.Changes.{value_at}
use Rattle.heap_rule.specs.Limits.{sizes_in}
use Rattle.heap_rule.specs.Places.{Shows}
use Rattle.heap_rule.specs.Rule.{state_of}
use Rattle.heap_rule.specs.Running.{Continues}
use Rattle.heap_rule.specs.Standing.{GoesOn, with_front, with_own}
use Rattle.heap_rule.specs.Token.{IsIn, SharedHeap, Token}
use Rattle.step_finalisers.specs.Running.{AnswersRun, RunTold, ran_own, registers_after}
use Rattle.do_finalisers.specs.declared.running.Ran.TheVariants.{Fin as FinRan, Last as LastRan}
use Rattle.do_finalisers.specs.Running.{RanFirst}

-- a run ends no trace
ended_run : (s : State) (d : ℕ) (queue : List Pending) → d < length s.domains → (domain_at (after_run s d queue) d).ended ≡ (domain_at s d).ended
ended_run s d [] inside = refl
ended_run s d (LastPending number ∷ rest) inside = ap (λ (x : DomainState). x.ended) (get_or-set_same s.domains d (without_first (domain_at s d) rest) no_domain inside)
ended_run s d (FinPending number l r ∷ rest) inside =
    let ran : State = with_domain s d (without_first (domain_at s d) rest) in
    let v : DomainState = record (domain_at ran d) { registers = set (domain_at ran d).registers r (Block l) } in
    let still : d < length ran.domains = subst (λ (n : ℕ). d < n) (sym (length-set s.domains d (without_first (domain_at s d) rest))) inside in
    ap (λ (x : DomainState). x.ended) (get_or-set_same ran.domains d v no_domain still) ∙ ap (λ (x : DomainState). x.ended) (get_or-set_same s.domains d (without_first (domain_at s d) rest) no_domain inside)

-- so a domain that runs a finaliser goes on
goes_after : (z : Sizes) (d : ℕ) (old new : List Entry) (a : Applied) → Answers z d old new (RanEntry d) a → (domain_at (state_after (opening z) old) d).ended ≡ false → (domain_at (state_after (opening z) new) d).ended ≡ false
goes_after z d old new a x running =
    let s : State = state_after (opening z) (old ++ x.between) in
    let here : state_after (opening z) new ≡ next s (RanEntry d) = ap (state_after (opening z)) x.appends ∙ state_after-push (opening z) (old ++ x.between) _ in
    let still : (domain_at s d).ended ≡ false = (keeps_front (opening z) d (old ++ x.between) old (before_entry z d old new _ a x)).ended ∙ running in
    ap (λ (t : State). (domain_at t d).ended) here ∙ (ended_run s d (domain_at s d).queue (inside_running s.domains d still) ∙ still)

module _ (h : SharedHeap) (old new : Token) (first : Waiting) (goes : Continues h old) (here : IsIn new h) (told : RunTold h.config first old.view new.view) where
  is : new.view ≡ with_front (with_own old.view (ran_own first old.view.own)) new.view.seen.front
  is = told.view

  number : new.view.own.number ≡ old.view.own.number
  number = ap (λ (x : DomainView). x.own.number) is

  before : GoesOn h.config old.view
  before = subst (λ (k : Config). GoesOn k old.view) goes.here.1 goes.goes_on

  running : (domain_at (state_of h.config new.view.seen.front) new.view.own.number).ended ≡ false
  running = ap (λ (n : ℕ). (domain_at (state_of h.config new.view.seen.front) n).ended) number ∙ goes_after (sizes_in h.config) old.view.own.number old.view.seen.front new.view.seen.front told.answer told.answers before.goes_on

  after : GoesOn h.config new.view
  after = record { goes_on = running; runs = ap (λ (x : DomainView). x.seen.stage) is ∙ before.runs; paid = ap (λ (x : DomainView). x.seen.share.weak) is ∙ before.paid }

  pub ran_continues : Continues h new
  ran_continues = record {
    here = here;
    goes_on = subst (λ (k : Config). GoesOn k new.view) (sym here.1) after;
    idle = ap (λ (x : DomainView). x.seen.made) is ∙ goes.idle;
    at_rest = ap (λ (x : DomainView). x.seen.hunt) is ∙ goes.at_rest;
    remembers = ap (λ (x : DomainView). x.seen.remembered) is ∙ (goes.remembers ∙ ap (λ (x : DomainView). x.own.remembered.items) (sym is));
  }

  -- what it tells of one of `finalise`
  module _ (address n r : ℕ) (named : first ≡ Fin address n r) (limits : IsWithinLimits (sizes_in h.config)) where
    says : AnswersRun h.config (Fin address n r) new.view told.answer
    says = subst (λ (w : Waiting). AnswersRun h.config w new.view told.answer) named told.says

    pub ran_block : (l : Label) × (register (state_of h.config new.view.seen.front) new.view.own.number r ≡ Block l)
    ran_block = (says.0, says.1)

    -- the registers that hold something are sixteen
    pub ran_few : r < 16
    ran_few =
        let s : State = state_of h.config new.view.seen.front in
        let inside : new.view.own.number < length s.domains = inside_running s.domains new.view.own.number running in
        let wide : length (domain_at s new.view.own.number).registers ≡ 16 = (shaped-history (sizes_in h.config) new.view.seen.front limits).register_count new.view.own.number inside in
        let low : r < length (domain_at s new.view.own.number).registers = held_low (domain_at s new.view.own.number).registers r says.0 says.1 in
        subst (λ (m : ℕ). r < m) wide low
      where
        held_low : (xs : List model.Value) (i : ℕ) (l : Label) → get_or xs i NothingValue ≡ Block l → i < length xs
        held_low [] i l e = cc
        held_low (x ∷ xs) zero l e = omega arith
        held_low (x ∷ xs) (suc i) l e = let rest = held_low xs i l e in omega arith

    holds_address : value_at new.view.own.registers r ≡ Ref address
    holds_address =
        let after_registers : new.view.own.registers ≡ set old.view.own.registers r (Ref address) = ap (λ (x : DomainView). x.own.registers) is ∙ ap (λ (w : Waiting). registers_after w old.view.own.registers) named in
        let wide : length (set old.view.own.registers r (Ref address)) ≡ 16 = ap length (sym after_registers) ∙ told.holds.wide in
        let few : r < 16 = ran_few in
        let m : ℕ = length old.view.own.registers in
        let same : length (set old.view.own.registers r (Ref address)) ≡ m = length-set old.view.own.registers r (Ref address) in
        let inside : r < m = omega arith in
        ap (λ (xs : List Value). value_at xs r) after_registers ∙ get_or-set_same old.view.own.registers r (Ref address) Nothing inside

    pub ran_shows : Shows (value_at new.view.own.registers r) (register (state_of h.config new.view.seen.front) new.view.own.number r)
    ran_shows = subst (λ (p : Value × model.Value). Shows p.0 p.1) (λ i. (sym holds_address i, sym says.1 i)) tt

    pub ran_fin : (l : Label) → slice_get old.view.own.finalisers.queue.items 0 ≡ Some first → register (state_of h.config new.view.seen.front) new.view.own.number r ≡ Block l → RanFirst h.config (FinRan n l) old.view new.view
    ran_fin l is_first holds =
        let same : says.0 ≡ l = let both : Block says.0 ≡ Block l = sym says.1 ∙ holds in cc in
        record {
          first = first;
          is_first = is_first;
          answers = subst (λ (a : Applied). Answers (sizes_in h.config) old.view.own.number old.view.seen.front new.view.seen.front (RanEntry old.view.own.number) a) (says.2 ∙ ap (λ (q : Label). Replied (FinReply n q)) same) told.answers;
          view = is;
          holds = told.holds;
          due = told.due;
        }

  -- and of one of `finalise_last`
  pub ran_last : (n : ℕ) → first ≡ Last n → slice_get old.view.own.finalisers.queue.items 0 ≡ Some first → RanFirst h.config (LastRan n) old.view new.view
  ran_last n named is_first =
      let says : told.answer ≡ Replied (LastReply n) = subst (λ (w : Waiting). AnswersRun h.config w new.view told.answer) named told.says in
      record {
        first = first;
        is_first = is_first;
        answers = subst (λ (a : Applied). Answers (sizes_in h.config) old.view.own.number old.view.seen.front new.view.seen.front (RanEntry old.view.own.number) a) says told.answers;
        view = is;
        holds = told.holds;
        due = told.due;
      }

-- a token with the same view goes on too
pub continues_as : (h : SharedHeap) (old new : Token) → IsIn new h → new.view ≡ old.view → Continues h old → Continues h new
continues_as h old new here same goes = record {
  here = here;
  goes_on = subst (λ (p : Config × DomainView). GoesOn p.0 p.1) (λ i. ((goes.here.1 ∙ sym here.1) i, sym same i)) goes.goes_on;
  idle = ap (λ (x : DomainView). x.seen.made) same ∙ goes.idle;
  at_rest = ap (λ (x : DomainView). x.seen.hunt) same ∙ goes.at_rest;
  remembers = ap (λ (x : DomainView). x.seen.remembered) same ∙ (goes.remembers ∙ ap (λ (x : DomainView). x.own.remembered.items) (sym same));
}
