-- The steps of a run of a heap's only domain that has no command to make.
use Rattle.std.proofs.Common.{◌≡◌, ◌∙◌, ℕ, ◌<◌, Bool, true, false, List, [], ◌∷◌, ◌++◌, length, refl, sym, ap, subst, arith}
use Rattle.std.proofs.lemmas.Option.{slice_get_within}
use Rattle.model_core.specs.declared.command.Command as model
use Rattle.model_core.specs.declared.entry.Entry.{Entry}
use Rattle.model_core.specs.declared.entry.Entry.TheVariants.{End, Ran}
use Rattle.model_core.specs.declared.reply.Reply.{Reply}
use Rattle.model_core.specs.declared.reply.Applied.TheVariants.{Replied, Silent}
use Rattle.model_core.specs.declared.state.Sizes.{Sizes}
use Rattle.model_core.specs.Fronts.{IsFrontOf}
use Rattle.heap_rule.specs.Limits.{sizes_in}
use Rattle.heap_rule.specs.Token.{SharedHeap, IsIn}
use Rattle.run_turns.specs.declared.supply.Supply.{Supply}
use Rattle.run_turns.specs.declared.supply.Supply.TheVariants.{Listed, Section, Open, Closed}
use Rattle.run_turns.specs.Runs.{RunView, Appended, GoesOn, IsHandedIn, IsRun, Stretches, ran_with}
use Rattle.run_turns.specs.Runs.Stretches.{ByOthers, ByCommand, ByFinaliser, ByEnd, BySection}
use Rattle.run_turns.proofs.Handed.{finalised_more, finalised_none, finalised_others}
use Rattle.run_turns.proofs.OfSingly.Driven.{none_fits}
use Rattle.run_alone.specs.Idling.{IdleAnswers, Idles}

-- a finaliser's reply is kept apart where commands are handed in
ran_apart : (s : Supply) → IsHandedIn s → (ran : List Reply) (r : Reply) → ran_with s ran r ≡ ran ++ r ∷ []
ran_apart Listed handed ran r = absurd handed
ran_apart Section handed ran r = absurd handed
ran_apart Open handed ran r = refl
ran_apart Closed handed ran r = refl

-- one step
pub idles_on : (h : SharedHeap) (front : List Entry) (old new : RunView) → Idles h front old → IsIn new.token h → Stretches (sizes_in h.config) old new → GoesOn old new → IsRun new → IdleAnswers h front new new.ended
idles_on h front old new a here s g is = by s
  where
    z : Sizes
    z = sizes_in h.config

    number : new.token.view.own.number ≡ 0
    number = g.number ∙ a.number

    handed : IsHandedIn new.supply
    handed = subst IsHandedIn (sym g.supply) a.handed

    by : Stretches z old new → IdleAnswers h front new new.ended
    by (ByOthers m) =
        let running : new.ended ≡ false = m.ended ∙ a.running in
        let later : IsFrontOf 0 new.token.view.seen.front old.token.view.seen.front = subst (λ (d : ℕ). IsFrontOf d new.token.view.seen.front old.token.view.seen.front) a.number m.front in
        subst (IdleAnswers h front new) (sym running) (record {
          here = here;
          number = number;
          handed = handed;
          done = m.next ∙ (a.done ∙ sym (ap (λ (cs : List model.Command). length cs) g.commands));
          running = running;
          ran = a.ran;
          finalised = finalised_others z 0 front old.token.view.seen.front new.token.view.seen.front a.ran a.finalised later;
          none = a.none;
        })
    by (ByCommand m) = absurd (let below : old.next < length old.commands = slice_get_within old.commands old.next m.command m.here in let done : old.next ≡ length old.commands = a.done in omega (arith, below, done))
    by (ByFinaliser m) =
        let running : new.ended ≡ false = m.ended ∙ a.running in
        let ran : new.ran ≡ old.ran ++ m.reply ∷ [] = m.ran ∙ ran_apart old.supply a.handed old.ran m.reply in
        let last : Appended z 0 old.token.view.seen.front new.token.view.seen.front (Ran 0) (Replied m.reply) = subst (λ (d : ℕ). Appended z d old.token.view.seen.front new.token.view.seen.front (Ran d) (Replied m.reply)) a.number m.front in
        subst (IdleAnswers h front new) (sym running) (record {
          here = here;
          number = number;
          handed = handed;
          done = m.next ∙ (a.done ∙ sym (ap (λ (cs : List model.Command). length cs) g.commands));
          running = running;
          ran = a.ran ++ m.reply ∷ [];
          finalised = finalised_more z 0 front old.token.view.seen.front new.token.view.seen.front a.ran m.reply a.finalised last;
          none = λ no_room. absurd (none_fits h old new m.reply handed here no_room is ran);
        })
    by (BySection m) = absurd (subst IsHandedIn m.sectioned a.handed)
    by (ByEnd m) =
        let last : Appended z 0 old.token.view.seen.front new.token.view.seen.front (End 0) Silent =
        subst (λ (d : ℕ). Appended z d old.token.view.seen.front new.token.view.seen.front (End d) Silent) a.number m.front in
        let before : List Entry = old.token.view.seen.front ++ last.between in
        subst (IdleAnswers h front new) (sym m.ended) (record {
          here = here;
          number = number;
          ended = m.ended;
          before = before;
          ran = a.ran;
          finalised = finalised_others z 0 front old.token.view.seen.front before a.ran a.finalised (record { rest = last.between; appends = refl; others = last.others });
          none = a.none;
          front = last.appends;
        })

-- a run that gets more commands hasn't ended
pub going : (r : RunView) → IsRun r → r.supply ≡ Open → r.ended ≡ false
going r is more = by r.ended refl where
  by : (b : Bool) → r.ended ≡ b → r.ended ≡ false
  by true ended = absurd (is.shut ended more)
  by false ended = ended

-- so it still has none to make
pub idles_still : (h : SharedHeap) (front : List Entry) (old new : RunView) → Idles h front old → IsIn new.token h → Stretches (sizes_in h.config) old new → GoesOn old new → IsRun new → new.supply ≡ Open → Idles h front new
idles_still h front old new a here s g is more = subst (IdleAnswers h front new) (going new is more) (idles_on h front old new a here s g is)

-- one whose last command is done
pub idles_now : (h : SharedHeap) (r : RunView) → IsIn r.token h → r.token.view.own.number ≡ 0 → IsRun r → r.supply ≡ Open → r.next ≡ length r.commands → Idles h r.token.view.seen.front r
idles_now h r here number is more done = record {
  here = here;
  number = number;
  handed = subst IsHandedIn (sym more) tt;
  done = done;
  running = going r is more;
  ran = [];
  finalised = finalised_none (sizes_in h.config) 0 r.token.view.seen.front;
  none = λ _. refl;
}

-- and that gets no more
pub idles_closed : (h : SharedHeap) (front : List Entry) (r new : RunView) → Idles h front r → new ≡ record r { supply = Closed } → Idles h front new
idles_closed h front r new a is = subst (λ (x : RunView). Idles h front x) (sym is) (record { here = a.here; number = a.number; handed = tt; done = a.done; running = a.running; ran = a.ran; finalised = a.finalised; none = a.none })
