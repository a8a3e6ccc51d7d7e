-- A run of which a look at the barrier came to something is a run still.
use Rattle.std.proofs.Common.{◌≡◌, ◌∙◌, ◌+◌, ◌∷◌, ◌++◌, ◌&&◌, ◌^◌, ◌<◌, [], ℕ, Bool, true, false, List, Option, Some, None, length, refl, sym, ap, inl, inr, subst}
use Rattle.model_core.specs.declared.command.Command.TheVariants.{FullMajor}
use Rattle.model_core.specs.declared.reply.Reply.{Reply}
use Rattle.model_core.specs.declared.entry.Entry.{Entry}
use Rattle.model_core.specs.Domains.{domain_at}
use Rattle.heap_rule.specs.declared.config.Config.{Config}
use Rattle.heap_rule.specs.declared.view.DomainView.{DomainView}
use Rattle.heap_rule.specs.declared.phase.Kind.{Kind}
use Rattle.heap_rule.specs.declared.phase.Kind.TheVariants.{Answer}
use Rattle.heap_rule.specs.declared.phase.Note.TheVariants.{Barrier}
use Rattle.heap_rule.specs.declared.phase.Progress.{Progress}
use Rattle.heap_rule.specs.Phases.{Pause, Staged}
use Rattle.heap_rule.specs.Rule.{state_of}
use Rattle.heap_rule.specs.Standing.{noted}
use Rattle.heap_rule.specs.Token.{Token, SharedHeap, IsIn}
use Rattle.gc_mark.specs.Decks.{DeckCounts, StaysDeck}
use Rattle.gc_pause.specs.declared.phases.decider.Decider.{Decider}
use Rattle.gc_pause.specs.Stops.Looks.{LookAnswers}
use Rattle.gc_pause.specs.declared.stops.answer.Look.{Look}
use Rattle.gc_pause.specs.declared.stops.answer.Look.TheVariants.{NotAll}
use Rattle.run_turns.specs.declared.passing.LookOutcome.{LookOutcome}
use Rattle.run_turns.specs.declared.passing.LookOutcome.TheVariants.{Waits, Arrived, Answered, Runs}
use Rattle.run_turns.specs.LookOutcomes.{CameOf, Looked, PassAnswers, PassHints, PastAnswers, asked_after, collected_after, due_after, left_after, next_after, replies_after, run_after}
use Rattle.run_turns.specs.Meeting.{StandsBehind}
use Rattle.run_turns.specs.declared.turned.Turned.TheVariants.{Did}
use Rattle.run_turns.specs.Pausing.{HasLeft, KnowsProgress, due_of}
use Rattle.run_turns.specs.Runs.{RunView, IsRun, PassesOn, StandsAt, WaitsForAnswer, is_asked, lets_refuse, run_seeing}
use Rattle.run_turns.proofs.Moving.{token_is}
use Rattle.run_turns.proofs.PassingLemmas.{arrived_is_run, gives_is_run, waits_is_run, runs_is_run}
use Rattle.run_turns.proofs.Turning.{asked_going, answered_is_run, next_replies, next_running}

module _ (decider : Decider) (h : SharedHeap) (r : RunView) (new : Token) (last : Kind) (live : Bool) (progress : Progress) (hints : DeckCounts) where
  pub after_is_run : (past : LookOutcome) → StaysDeck r.hints hints → IsRun r → r.left ≡ Some last → IsIn r.token h → IsIn new h → PassAnswers h.config decider r.token.view new.view last live past → (live ≡ true → WaitsForAnswer r) → KnowsProgress progress new.view → IsRun (run_after h.config r new past last progress hints)
  after_is_run (Waits b) stays is left was here says waits knows = waits_is_run h r new last b progress hints stays is left was here says.1 knows
  after_is_run (Arrived kind) stays is left was here says waits knows = arrived_is_run decider h r new last kind progress hints stays is left was here says knows
  after_is_run (Answered blocks None) stays is left was here says waits knows = gives_is_run h r new (is_asked r.asked && lets_refuse h.config blocks) progress hints stays is was here says.1 knows
  after_is_run (Answered blocks (Some reply)) stays is left was here says waits knows =
      let waits = waits says.0 in
      answered_is_run h r new reply progress hints stays is (next_running r is FullMajor waits.next) waits.next (asked_going r is waits.wished) was here says.1 knows
  after_is_run Runs stays is left was here says waits knows = runs_is_run h r new progress hints stays is was here says.0 says.1 says.2 says.3 knows

  -- and what it came to
  pub after_answers : (past : LookOutcome) → r.left ≡ Some last → IsIn r.token h → IsIn new h → PassAnswers h.config decider r.token.view new.view last live past → PassHints r.token.view past r.hints hints → (live ≡ true → WaitsForAnswer r) → (live ≡ false → WaitsForAnswer r → ⊥) → PastAnswers h decider r (run_after h.config r new past last progress hints) past
  after_answers (Waits b) left was here says same waits rests =
      let token = token_is h r.token new (noted r.token.view (Barrier b)) was here says.1 in record {
        arrived = (last, left);
        below = says.0;
        run = λ i. record r { token = token i; left = sym left i; progress = progress; hints = same i };
      }
  after_answers (Arrived kind) left was here says same waits rests =
      let token = token_is h r.token new new.view was here refl in record {
        last = last;
        arrived = left;
        kind = kind;
        passes = says;
        hints = same;
        run = λ i. record r { token = token i; left = Some kind; progress = progress; hints = hints };
      }
  after_answers (Answered blocks None) left was here says same waits rests =
      let token = token_is h r.token new new.view was here refl in
      let count = says.2 in record {
        last = last;
        arrived = left;
        none = rests says.0;
        gives = says.1;
        run = λ i. record r { token = token i; left = Some Answer; collected = is_asked r.asked && lets_refuse h.config (count i); progress = progress; hints = same i };
      }
  after_answers (Answered blocks (Some reply)) left was here says same waits rests =
      let token = token_is h r.token new new.view was here refl in record {
        last = last;
        arrived = left;
        waited = waits says.0;
        reply = reply;
        answers = says.1;
        run = λ i. record r { token = token i; next = r.next + 1; replies = r.replies ++ reply ∷ []; left = Some Answer; asked = None; collected = false; progress = progress; due = length new.view.own.finalisers.queue.items; hints = same i };
      }
  after_answers Runs left was here says same waits rests =
      let token = token_is h r.token new new.view was here refl in record {
        arrived = (last, left, says.4);
        even = says.2;
        passed = says.0;
        runs = says.1;
        collected = says.3;
        run = λ i. record r { token = token i; left = None; progress = progress; hints = same i };
      }

  -- it didn't wait, and stood in the pause in which it looked
  pub after_passes : (pause : Pause) (begun : DomainView) (found : Look) (past : LookOutcome) → ((b : ℕ) → found ≡ NotAll b → ⊥) → Staged pause begun → r.left ≡ Some last → IsIn r.token h → IsIn new h → (says : PassAnswers h.config decider r.token.view new.view last live past) → CameOf h.config decider r.token.view new.view last live past says found begun → PassHints r.token.view past r.hints hints → (live ≡ true → WaitsForAnswer r) → (live ≡ false → WaitsForAnswer r → ⊥)
      → (passes : PassesOn h decider r (run_after h.config r new past last progress hints) Did) × StandsBehind h decider pause r (run_after h.config r new past last progress hints) passes
  unfolding after_answers
  after_passes pause begun found (Waits b) moves staged left was here says at same waits rests = absurd (moves b at)
  after_passes pause begun found (Arrived kind) moves staged left was here says at same waits rests = (inl (after_answers (Arrived kind) left was here says same waits rests), subst (Staged pause) (sym at) staged)
  after_passes pause begun found (Answered blocks None) moves staged left was here says at same waits rests = (inr (inr (inl (after_answers (Answered blocks None) left was here says same waits rests))), subst (Staged pause) (sym at) staged)
  after_passes pause begun found (Answered blocks (Some reply)) moves staged left was here says at same waits rests = (inr (inl (after_answers (Answered blocks (Some reply)) left was here says same waits rests)), subst (Staged pause) (sym at) staged)
  after_passes pause begun found Runs moves staged left was here says at same waits rests = (inr (inr (inr (after_answers Runs left was here says same waits rests))), subst (Staged pause) (sym at) staged)

-- what a run shows of its domain, which looks at the barrier
pub looked_of : (h : SharedHeap) (r : RunView) (y : DomainView) (last : Kind) (live : Bool) (found : Look) → IsRun r → IsIn r.token h → r.left ≡ Some last → r.token.view.own.arrivals < 2 ^ 60 → (live ≡ true → WaitsForAnswer r) → LookAnswers h.config r.token.view y found → Looked h.config r.token.view y last live r.progress found
looked_of h r y last live found is here left few waits looked =
    let running = λ (w : WaitsForAnswer r). next_running r is FullMajor w.next in record {
      inside = subst (λ (k : Config). r.token.view.own.number < k.domains) here.1 is.inside;
      gone = subst (λ (l : Option Kind). StandsAt l r.token.view.seen.stage) left is.between.stands;
      at_rest = is.at_rest;
      idle = is.idle;
      few = few;
      quiet = is.between.quiet;
      left = subst (λ (k : Config). HasLeft k last r.token.view) here.1 (is.between.has_left last left);
      knows = is.between.knows;
      goes_on = λ e. subst (λ (k : Config). (domain_at (state_of k r.token.view.seen.front) r.token.view.own.number).ended ≡ false) here.1 (is.goes_on (running (waits e)));
      paid = λ e. subst (λ (k : Config). due_of k r.token.view ≡ 0) here.1 (is.owes (running (waits e)) ∙ (waits e).paid);
      looked = looked;
    }

-- a run whose domain has seen more waits for the same answer
pub waits_seeing : (r : RunView) (history : List Entry) → WaitsForAnswer r → WaitsForAnswer (run_seeing r history)
waits_seeing r history w = record { next = w.next; paid = w.paid; wished = w.wished }

pub waited_seeing : (r : RunView) (history : List Entry) → WaitsForAnswer (run_seeing r history) → WaitsForAnswer r
waited_seeing r history w = record { next = w.next; paid = w.paid; wished = w.wished }

-- there is room for the reply
pub keeps_reply : (decider : Decider) (h : SharedHeap) (r : RunView) (x y : DomainView) (last : Kind) (live : Bool) (past : LookOutcome) (blocks : ℕ) (reply : Reply) → IsRun r → (live ≡ true → WaitsForAnswer r) → PassAnswers h.config decider x y last live past → past ≡ Answered blocks (Some reply) → length r.replies < length r.commands + length r.commands
keeps_reply decider h r x y last live past blocks reply is waits says came =
    let answered = subst (λ (p : LookOutcome). PassAnswers h.config decider x y last live p) came says in
    next_replies r is FullMajor (waits answered.0).next

-- the run by what the pass left of its parts
pub kept_run : (k : Config) (r : RunView) (new : Token) (past : LookOutcome) (last : Kind) (progress : Progress) (hints : DeckCounts) (next queued due : ℕ) (replies : List Reply) (left : Option Kind) (asked : Option ℕ) (collected : Bool)
    → next ≡ next_after past r.next → replies ≡ replies_after past r.replies → left ≡ left_after past last → asked ≡ asked_after past r.asked → collected ≡ collected_after k past r.asked r.collected → due ≡ due_after past queued r.due → queued ≡ length new.view.own.finalisers.queue.items
    → record r { token = new; next = next; replies = replies; left = left; asked = asked; collected = collected; progress = progress; due = due; hints = hints } ≡ run_after k r new past last progress hints
kept_run k r new past last progress hints next queued due replies left asked collected is_next is_replies is_left is_asked is_collected is_due is_queued =
    let owes = is_due ∙ ap (λ (n : ℕ). due_after past n r.due) is_queued in
    λ i. record r { token = new; next = is_next i; replies = is_replies i; left = is_left i; asked = is_asked i; collected = is_collected i; progress = progress; due = owes i; hints = hints }
