-- A turn of a run that gets no more command, and the end of a heap.
use Rattle.std.proofs.Common.{◌≡◌, ◌∙◌, ℕ, ◌<◌, List, [], ◌∷◌, ◌++◌, append-nil, length, sym, ap, subst, arith}
use Rattle.std.proofs.lemmas.Option.{slice_get_within}
use Rattle.model_core.specs.declared.reply.Reply.{Reply}
use Rattle.model_core.specs.History.{commands, replies}
use Rattle.heap_rule.specs.Limits.{sizes_in}
use Rattle.heap_rule.specs.declared.config.Config.{Config}
use Rattle.heap_rule.specs.Token.{SharedHeap, IsIn}
use Rattle.run_turns.specs.declared.supply.Supply.TheVariants.{Section, Closed}
use Rattle.run_turns.specs.Runs.{AddsRan, RunView, GoesOn, Stretches}
use Rattle.run_turns.specs.Runs.Stretches.{ByOthers, ByCommand, ByFinaliser, ByEnd, BySection}
use Rattle.run_turns.proofs.Adding.{turn_adds}
use Rattle.run_turns.proofs.OfSingly.Driven.{closed_handed}
use Rattle.run_seats.specs.Stopping.{IsClosedIn, StaysClosed}
use Rattle.run_seats.proofs.Growing.{end_commands, end_replies, front_commands, front_replies, ran_commands, ran_replies}

module _ (h : SharedHeap) (old new : RunView) (closed : IsClosedIn h old) (here : IsIn new.token h) (g : GoesOn old new) where
  abbrev d : ℕ
  d = old.token.view.own.number

  shut : new.supply ≡ Closed
  shut = g.supply ∙ closed.closed

  closed_as : new.next ≡ old.next → IsClosedIn h new
  closed_as same = record { here = here; closed = shut; done = same ∙ (closed.done ∙ sym (ap (λ cs. length cs) g.commands)) }

  stays : AddsRan (sizes_in h.config) old new → (more : List Reply) → commands new.token.view.seen.front d ≡ commands old.token.view.seen.front d → replies (sizes_in h.config) new.token.view.seen.front d ≡ replies (sizes_in h.config) old.token.view.seen.front d ++ more → StaysClosed old new
  stays adds more made given = record {
    config = here.1 ∙ sym closed.here.1;
    number = g.number;
    front = g.front;
    commands_are = made;
    adds = subst (λ (k : Config). AddsRan (sizes_in k) old new) (sym closed.here.1) adds;
    more = more;
    replies_are = subst (λ (k : Config). replies (sizes_in k) new.token.view.seen.front d ≡ replies (sizes_in k) old.token.view.seen.front d ++ more) (sym closed.here.1) given;
  }

  none : replies (sizes_in h.config) new.token.view.seen.front d ≡ replies (sizes_in h.config) old.token.view.seen.front d → replies (sizes_in h.config) new.token.view.seen.front d ≡ replies (sizes_in h.config) old.token.view.seen.front d ++ []
  none same = same ∙ sym (append-nil (replies (sizes_in h.config) old.token.view.seen.front d))

  adds : Stretches (sizes_in h.config) old new → AddsRan (sizes_in h.config) old new
  adds s = turn_adds (sizes_in h.config) old new (closed_handed old.supply closed.closed) g s

  pub closed_turn : Stretches (sizes_in h.config) old new → IsClosedIn h new × StaysClosed old new
  closed_turn (ByOthers m) = (closed_as m.next, stays (adds (ByOthers m)) [] (front_commands d new.token.view.seen.front old.token.view.seen.front m.front) (none (front_replies (sizes_in h.config) d new.token.view.seen.front old.token.view.seen.front m.front)))
  closed_turn (ByCommand m) = absurd (let below : old.next < length old.commands = slice_get_within old.commands old.next m.command m.here in let done : old.next ≡ length old.commands = closed.done in omega (arith, below, done))
  closed_turn (ByFinaliser m) = (closed_as m.next, stays (adds (ByFinaliser m)) (m.reply ∷ []) (ran_commands (sizes_in h.config) d old.token.view.seen.front new.token.view.seen.front _ m.front) (ran_replies (sizes_in h.config) d old.token.view.seen.front new.token.view.seen.front m.reply m.front))
  closed_turn (ByEnd m) = (closed_as m.next, stays (adds (ByEnd m)) [] (end_commands (sizes_in h.config) d old.token.view.seen.front new.token.view.seen.front m.front) (none (end_replies (sizes_in h.config) d old.token.view.seen.front new.token.view.seen.front m.front)))
  closed_turn (BySection m) = absurd (let clash : Closed ≡ Section = sym closed.closed ∙ m.sectioned in cc)
