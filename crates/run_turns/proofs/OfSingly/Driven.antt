-- A turn of a run whose commands are handed in.
use Rattle.std.proofs.Common.{◌≡◌, ◌∙◌, ℕ, ◌+◌, ◌≤◌, List, [], ◌∷◌, ◌++◌, length, length-append, slice_get, Some, None, Option, refl, sym, ap, subst, arith}
use Rattle.model_core.specs.declared.command.Command as model
use Rattle.model_core.specs.declared.entry.Entry.TheVariants.{Command, Ran}
use Rattle.model_core.specs.declared.reply.Reply.{Reply}
use Rattle.model_core.specs.declared.reply.Applied.TheVariants.{Replied}
use Rattle.model_core.specs.declared.state.Sizes.{Sizes}
use Rattle.model_core.specs.Fronts.{IsFrontOf}
use Rattle.model_core.proofs.Histories.FrontLemmas.{front_whole}
use Rattle.heap_rule.specs.Limits.{sizes_in}
use Rattle.heap_rule.specs.Token.{SharedHeap, IsIn}
use Rattle.run_turns.specs.declared.supply.Supply.{Supply}
use Rattle.run_turns.specs.declared.supply.Supply.TheVariants.{Section, Open, Closed}
use Rattle.run_turns.specs.Runs.{RunView, Appended, GoesOn, IsHandedIn, IsRun, Stretches, Takes, answer_of, first_reply, said_with}
use Rattle.run_turns.specs.Runs.Stretches.{ByOthers, ByCommand, ByFinaliser, ByEnd, BySection}
use Rattle.run_turns.proofs.Handed.{finalised_more, finalised_others, performed_on}
use Rattle.run_turns.proofs.Taking.{takes_none, takes_on}
use Rattle.run_turns.specs.Tries.{registrations_of}
use Rattle.run_turns.proofs.Turning.{apart_few}
use Rattle.heap_rule.specs.declared.config.Config.{Config}
use Rattle.step_finalisers.specs.Registering.{count_of}
use Rattle.run_turns.specs.Driving.{goes_nowhere}
use Rattle.run_turns.specs.Singly.Driving.{AwaitAnswers, Awaits}
use Rattle.model_core.specs.Counts.Counts.{ephemerons_given, labels_given}
use Rattle.heap_rule.specs.declared.view.DomainView.{DomainView}

-- no turn at all
pub still_stretches : (z : Sizes) (r : RunView) → Stretches z r r
still_stretches z r = ByOthers (record { next = refl; replies = refl; ran = refl; ended = refl; front = front_whole r.token.view.own.number r.token.view.seen.front; listed = refl; takes = takes_none r.token.view r.token.view refl refl })

pub still_goes : (r : RunView) → GoesOn r r
still_goes r = goes_nowhere r

pub open_handed : (s : Supply) → s ≡ Open → IsHandedIn s
open_handed s is = subst IsHandedIn (sym is) tt

pub closed_handed : (s : Supply) → s ≡ Closed → IsHandedIn s
closed_handed s is = subst IsHandedIn (sym is) tt

-- where there is no room for finalisers none has run
pub none_fits : (h : SharedHeap) (old new : RunView) (r : Reply) → IsHandedIn new.supply → IsIn new.token h → h.config.finals ≡ 0 → IsRun new → new.ran ≡ old.ran ++ r ∷ [] → ⊥
none_fits h old new r handed here none is more =
    let spare : new.spare ≡ 0 = is.spares ∙ (ap (λ (k : Config). k.finals) here.1 ∙ none) in
    let few = apart_few new is handed in
    let count : length new.ran ≡ length old.ran + 1 = ap (λ (rs : List Reply). length rs) more ∙ length-append old.ran (r ∷ []) in
    omega (arith, spare, few, count)

-- a turn of a run that has a command to make
pub awaits_turn : (h : SharedHeap) (start : DomainView) (c : model.Command) (old new : RunView) → Awaits h start c old → IsIn new.token h → Stretches (sizes_in h.config) old new → GoesOn old new → AwaitAnswers h start c new (answer_of new)
awaits_turn h start c old new a here s g = by s
  where
    z : Sizes
    z = sizes_in h.config

    d : ℕ
    d = start.own.number

    number : new.token.view.own.number ≡ d
    number = g.number ∙ a.number

    more : new.supply ≡ Open
    more = g.supply ∙ a.more

    by : Stretches z old new → AwaitAnswers h start c new (answer_of new)
    by (ByOthers m) =
        let replies : new.replies ≡ [] = m.replies ∙ a.replies in
        let none : answer_of new ≡ None = λ i. first_reply (more i) (replies i) in
        let later : IsFrontOf d new.token.view.seen.front old.token.view.seen.front = subst (λ (n : ℕ). IsFrontOf n new.token.view.seen.front old.token.view.seen.front) a.number m.front in
        subst (AwaitAnswers h start c new) (sym none) (record {
          here = here;
          number = number;
          more = more;
          commands = g.commands ∙ a.commands;
          next = m.next ∙ a.next;
          replies = replies;
          ran = a.ran;
          finalised = finalised_others z d start.seen.front old.token.view.seen.front new.token.view.seen.front a.ran a.finalised later;
          listed = (λ i. m.listed i + length a.ran) ∙ a.listed;
          takes = takes_on 0 0 start old.token.view new.token.view a.takes m.takes;
        })
    by (ByCommand m) =
        let replies : new.replies ≡ m.reply ∷ [] = m.replies ∙ ap (λ (rs : List Reply). rs ++ m.reply ∷ []) a.replies in
        let some : answer_of new ≡ Some m.reply = λ i. first_reply (more i) (replies i) in
        let at : ◌≡◌ {A = Option model.Command} (Some c) (Some m.command) = subst (λ (w : List model.Command × ℕ). slice_get w.0 w.1 ≡ Some m.command) (λ i. (a.commands i, a.next i)) m.here in
        let same : m.command ≡ c = cc in
        let last : Appended z d old.token.view.seen.front new.token.view.seen.front (Command d c m.full) (Replied m.reply) =
        subst (λ (w : ℕ × model.Command). Appended z w.0 old.token.view.seen.front new.token.view.seen.front (Command w.0 w.1 m.full) (Replied m.reply)) (λ i. (a.number i, same i)) m.front in
        subst (AwaitAnswers h start c new) (sym some) (record {
          here = here;
          number = number;
          more = more;
          done = m.next ∙ (ap (λ (n : ℕ). n + 1) a.next ∙ sym (ap (λ (cs : List model.Command). length cs) (g.commands ∙ a.commands)));
          ran = a.ran;
          performed = performed_on z d start.seen.front old.token.view.seen.front new.token.view.seen.front c m.full a.ran m.reply a.finalised last;
          listed =
              let few : count_of new.token.view.own.finalisers ≤ count_of old.token.view.own.finalisers + registrations_of c = subst (λ (d : model.Command). count_of new.token.view.own.finalisers ≤ count_of old.token.view.own.finalisers + registrations_of d) same m.listed in
              let before = a.listed in
              omega (arith, few, before);
          takes = takes_on (labels_given c m.reply) (ephemerons_given c m.reply) start old.token.view new.token.view a.takes (subst (λ (d : model.Command). Takes (labels_given d m.reply) (ephemerons_given d m.reply) old.token.view new.token.view) same m.takes);
        })
    by (ByFinaliser m) =
        let replies : new.replies ≡ [] = m.replies ∙ ((λ i. said_with (a.more i) (a.replies i) m.reply)) in
        let none : answer_of new ≡ None = λ i. first_reply (more i) (replies i) in
        let last : Appended z d old.token.view.seen.front new.token.view.seen.front (Ran d) (Replied m.reply) = subst (λ (n : ℕ). Appended z n old.token.view.seen.front new.token.view.seen.front (Ran n) (Replied m.reply)) a.number m.front in
        subst (AwaitAnswers h start c new) (sym none) (record {
          here = here;
          number = number;
          more = more;
          commands = g.commands ∙ a.commands;
          next = m.next ∙ a.next;
          replies = replies;
          ran = a.ran ++ m.reply ∷ [];
          finalised = finalised_more z d start.seen.front old.token.view.seen.front new.token.view.seen.front a.ran m.reply a.finalised last;
          listed =
              let less = m.listed in
              let before = a.listed in
              let one = length-append a.ran (m.reply ∷ []) in
              omega (arith, less, before, one);
          takes = takes_on 0 0 start old.token.view new.token.view a.takes m.takes;
        })
    by (ByEnd m) = absurd (m.shut a.more)
    by (BySection m) = absurd (let clash : Open ≡ Section = sym a.more ∙ m.sectioned in cc)
