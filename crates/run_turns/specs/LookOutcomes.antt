-- What a domain that has arrived does in a turn.
use Rattle.std.specs.Prelude.{◌≡◌, ◌+◌, ◌*◌, ◌^◌, ◌<◌, ◌&&◌, ℕ, Bool, true, false, List, [], ◌∷◌, ◌++◌, length, Option, Some, None}
use Rattle.model_core.specs.declared.reply.Reply.{Reply}
use Rattle.model_core.specs.Domains.{domain_at}
use Rattle.heap_rule.specs.declared.phase.Progress.{Progress}
use Rattle.heap_rule.specs.declared.view.Hunt.TheVariants.{Rests}
use Rattle.heap_rule.specs.Rule.{state_of}
use Rattle.heap_rule.specs.declared.config.Config.{Config}
use Rattle.heap_rule.specs.declared.view.DomainView.{DomainView}
use Rattle.heap_rule.specs.declared.phase.Kind.{Kind}
use Rattle.heap_rule.specs.declared.phase.Stage.TheVariants.{In, Gone}
use Rattle.heap_rule.specs.declared.phase.Kind.TheVariants.{Run, Answer}
use Rattle.heap_rule.specs.declared.phase.Note.TheVariants.{Barrier}
use Rattle.heap_rule.specs.Phases.{Comes, IsEven}
use Rattle.heap_rule.specs.Token.{Token, SharedHeap}
use Rattle.heap_rule.specs.Standing.{noted}
use Rattle.gc_mark.specs.Decks.{DeckCounts}
use Rattle.gc_pause.specs.declared.phases.decider.Decider.{Decider}
use Rattle.gc_pause.specs.Stops.Looks.{LookAnswers, PassedBarrier}
use Rattle.gc_pause.specs.declared.stops.answer.Look.{Look}
use Rattle.gc_pause.specs.declared.stops.answer.Look.TheVariants.{NotAll}
use Rattle.run_turns.specs.declared.passing.LookOutcome.{LookOutcome}
use Rattle.run_turns.specs.declared.passing.LookOutcome.TheVariants.{Waits, Arrived, Answered, Runs}
use Rattle.run_turns.specs.Pausing.{HasLeft, HasNothingPending, IsCollected, GivesBack, AnswersLive, KnowsProgress, blocks_left, due_of}
use Rattle.run_turns.specs.Runs.{RunView, Passes, PassesHints, GoesBy, IsAnswered, SeesAnswer, Waits as RunWaits, Resumes, is_asked, lets_refuse}

-- a domain that has arrived, with a phase whose kind it keeps, looked at the barrier, and found this. `live`: it waits for the answer of a `full_major`, before which it owes no finaliser
pub record Looked (k : Config) (x y : DomainView) (last : Kind) (live : Bool) (progress : Progress) (found : Look) : Type 0 where
  pub inside : x.own.number < k.domains
  pub gone : x.seen.stage ≡ Gone last
  pub at_rest : x.seen.hunt ≡ Rests
  pub idle : x.seen.made ≡ []
  pub few : x.own.arrivals < 2 ^ 60
  pub quiet : HasNothingPending x
  pub left : HasLeft k last x
  pub knows : KnowsProgress progress x
  pub goes_on : live ≡ true → (domain_at (state_of k x.seen.front) x.own.number).ended ≡ false
  pub paid : live ≡ true → due_of k x ≡ 0
  pub looked : LookAnswers k x y found

-- what a look at the barrier came to, for a domain that arrived from a phase whose last even kind is `known`, and waits for the answer of a `full_major` or doesn't
abbrev pub PassAnswers : Config → Decider → DomainView → DomainView → Kind → Bool → LookOutcome → Type 0
PassAnswers k decider x y known live (Waits b) = (b < x.own.arrivals * k.domains) × (y ≡ noted x (Barrier b))
PassAnswers k decider x y known live (Arrived kind) = Passes k decider x y known kind
PassAnswers k decider x y known live (Answered blocks None) = (live ≡ false) × GivesBack k x y × (blocks ≡ blocks_left k y)
PassAnswers k decider x y known live (Answered blocks (Some reply)) = (live ≡ true) × AnswersLive k x y reply
PassAnswers k decider x y known live Runs = PassedBarrier k x y × (y.seen.stage ≡ In Run) × IsEven x.own.arrivals × IsCollected k y × Comes x.own.number known Run

-- by what the look found: it waits where not all had arrived, and where a phase had begun it stood so then
abbrev pub CameOf : (k : Config) (decider : Decider) (x y : DomainView) (known : Kind) (live : Bool) (past : LookOutcome) → PassAnswers k decider x y known live past → Look → DomainView → Type 0
CameOf k decider x y known live (Waits b) says found begun = found ≡ NotAll b
CameOf k decider x y known live (Arrived kind) says found begun = says.begun ≡ begun
CameOf k decider x y known live (Answered blocks None) says found begun = says.1.begun ≡ begun
CameOf k decider x y known live (Answered blocks (Some reply)) says found begun = says.1.begun ≡ begun
CameOf k decider x y known live Runs says found begun = y ≡ begun

-- what becomes of the domain's hints: where it goes through no phase they stay as they are
abbrev pub PassHints : DomainView → LookOutcome → DeckCounts → DeckCounts → Type 0
PassHints x (Arrived kind) l m = PassesHints x kind l m
PassHints x past l m = m ≡ l

-- the kind of the last even phase that it then knows of
abbrev pub left_after : LookOutcome → Kind → Option Kind
left_after (Waits b) known = Some known
left_after (Arrived kind) known = Some kind
left_after (Answered blocks reply) known = Some Answer
left_after Runs known = None

-- what the run then keeps of its commands: where its `full_major` was answered, that is done
abbrev pub next_after : LookOutcome → ℕ → ℕ
next_after (Answered blocks (Some reply)) next = next + 1
next_after past next = next

abbrev pub replies_after : LookOutcome → List Reply → List Reply
replies_after (Answered blocks (Some reply)) replies = replies ++ reply ∷ []
replies_after past replies = replies

abbrev pub asked_after : LookOutcome → Option ℕ → Option ℕ
asked_after (Answered blocks (Some reply)) asked = None
asked_after past asked = asked

-- whether the next command may be answered `full`, where a collection was answered that left so many blocks
abbrev pub collected_after : Config → LookOutcome → Option ℕ → Bool → Bool
collected_after k (Answered blocks (Some reply)) asked collected = false
collected_after k (Answered blocks None) asked collected = is_asked asked && lets_refuse k blocks
collected_after k past asked collected = collected

-- and what it owes, where so many finalisers wait
abbrev pub due_after : LookOutcome → ℕ → ℕ → ℕ
due_after (Answered blocks (Some reply)) queued due = queued
due_after past queued due = due

-- the whole run
abbrev pub run_after : Config → RunView → Token → LookOutcome → Kind → Progress → DeckCounts → RunView
run_after k r t past last progress hints = record r { token = t; next = next_after past r.next; replies = replies_after past r.replies; left = left_after past last; asked = asked_after past r.asked; collected = collected_after k past r.asked r.collected; progress = progress; due = due_after past (length t.view.own.finalisers.queue.items) r.due; hints = hints }

-- the same of its run
abbrev pub PastAnswers : SharedHeap → Decider → RunView → RunView → LookOutcome → Type 0
PastAnswers h decider old new (Waits b) = RunWaits h old new b
PastAnswers h decider old new (Arrived kind) = GoesBy h decider old new
PastAnswers h decider old new (Answered blocks None) = SeesAnswer h old new
PastAnswers h decider old new (Answered blocks (Some reply)) = IsAnswered h old new
PastAnswers h decider old new Runs = Resumes h old new
