-- What a domain has, remembers and holds as it goes through the phases of a pause.
use Rattle.std.specs.Prelude.{◌≡◌, ◌≢◌, ◌⊎◌, Bool, true, false, ℕ, List, [], length, Option, Some, None}
use Rattle.model_core.specs.declared.entry.Entry.{Entry}
use Rattle.model_core.specs.declared.entry.Entry.TheVariants.{Command as CommandOf}
use Rattle.model_core.specs.declared.command.Command.TheVariants.{FullMajor}
use Rattle.model_core.specs.declared.reply.Reply.{Reply}
use Rattle.model_core.specs.declared.reply.Reply.TheVariants.{Live}
use Rattle.model_core.specs.declared.reply.Applied.TheVariants.{Replied}
use Rattle.model_core.specs.declared.state.Mode.TheVariants.{Answer as Answered}
use Rattle.model_core.specs.Domains.{domain_at, reach}
use Rattle.model_core.specs.Fronts.{Answers, IsFrontOf}
use Rattle.model_core.specs.History.{Legal}
use Rattle.model_core.specs.Controls.Led.{IsLed}
use Rattle.heap_rule.specs.declared.config.Config.{Config}
use Rattle.heap_rule.specs.declared.view.DomainView.{DomainView}
use Rattle.heap_rule.specs.declared.phase.Kind.{Kind}
use Rattle.heap_rule.specs.declared.phase.Kind.TheVariants.{Run, Promote, Reset, Sweep, Answer}
use Rattle.heap_rule.specs.declared.phase.Stage.TheVariants.{In}
use Rattle.heap_rule.specs.Copies.{nothing_copied, HoldsOld, IsEmptying}
use Rattle.heap_rule.specs.Limits.{sizes_in}
use Rattle.heap_rule.specs.Phases.{Comes, Follows, IsEven, IsOdd}
use Rattle.heap_rule.specs.Rule.{state_of}
use Rattle.heap_rule.specs.Running.{RemembersAll}
use Rattle.heap_rule.specs.Standing.{with_front}
use Rattle.heap_rule.specs.Views.{voided}
use Rattle.step_pauses.specs.Pauses.{arrived_view, kind_in}
use Rattle.gc_pause.specs.Stops.Looks.{PassedBarrier}
use Rattle.step_promote.specs.Promotion.{reset_view}
use Rattle.gc_copy.specs.Sharing.{Unprepared, Shared}
use Rattle.step_sweep.specs.Answering.{LiveBlocksTold}
use Rattle.heap_rule.specs.declared.phase.Progress.{Progress}
use Rattle.gc_pause.specs.Phases.Sharing.{SharesIn, gave_back}
use Rattle.gc_pause.specs.Phases.Leading.{LeadsOn}
use Rattle.gc_pause.specs.declared.phases.decider.Decider.{Decider}
use Rattle.run_turns.specs.Tries.{IsFresh}

-- no block was met, no copy is listed, no place is prepared for one, and no darkening is owed
pub record HasNothingPending (x : DomainView) : Type 0 where
  pub quiet : x.seen.copying ≡ nothing_copied
  pub no_copies : x.own.pending.items ≡ []
  pub unprepared : Unprepared x
  pub paid : x.seen.share.weak ≡ None

-- where a collection may have been answered since, the domain has made no entry since it was
abbrev pub KnowsAnswer : Config → DomainView → Type 0
KnowsAnswer k x = (state_of k x.seen.front).mode ≡ Answered → IsFresh k x

-- the domain has gone through an even phase of this kind. After Run it remembers the fields of its list, and after the others none, and no register holds an address of a minor area. After Reset its minor area and its list are empty. It has forgotten what it knew of the phase
pub record IsPast (k : Config) (kind : Kind) (x : DomainView) : Type 0 where
  pub remembers : kind ≡ Run → RemembersAll x
  pub looked_through : kind ≢ Run → x.seen.remembered ≡ []
  pub holds_old : kind ≢ Run → HoldsOld k x
  pub emptied : IsEmptying kind → x.own.used ≡ 0
  pub forgotten : IsEmptying kind → x.own.remembered.items ≡ []
  pub void : x.seen.share ≡ voided x.seen.share
  pub answer : kind ≡ Sweep → KnowsAnswer k x

-- the domain has gone through the phase before one of this kind
pub record IsReady (k : Config) (kind : Kind) (x : DomainView) : Type 0 where
  pub before : Kind
  pub follows : Follows before kind
  pub past : IsPast k before x
  pub fresh : kind ≡ Answer → IsFresh k x

-- the domain has arrived, and knew this kind when it did: it has gone through a phase of this kind, or, where domain 0 has named the kind, through the one before
pub record HasLeft (k : Config) (known : Kind) (x : DomainView) : Type 0 where
  pub past : IsOdd x.own.arrivals ⊎ (x.own.number ≢ 0) → IsPast k known x
  pub ready : IsEven x.own.arrivals → x.own.number ≡ 0 → IsReady k known x

-- domain 0 keeps how far a collection has come
abbrev pub KnowsProgress : Progress → DomainView → Type 0
KnowsProgress p x = x.own.number ≡ 0 → p ≡ x.seen.share.progress

-- the domain did its share of Promote, and arrived
pub record LeavesPromote (k : Config) (x y : DomainView) : Type 0 where
  pub done : DomainView
  pub shared : Shared k x done
  pub view : y ≡ arrived_view done

-- the domain emptied its minor area in Reset, into which none of its registers and lists of finalisers led, and arrived
pub record LeavesReset (k : Config) (x y : DomainView) : Type 0 where
  pub view : y ≡ arrived_view (reset_view x)
  pub holds_old : HoldsOld k x

-- what a domain does in an even phase of a pause in which no collection is answered
abbrev pub LeavesEven : Config → Kind → DomainView → DomainView → Type 0
LeavesEven k Run x y = ⊥
LeavesEven k Promote x y = LeavesPromote k x y
LeavesEven k Reset x y = LeavesReset k x y
LeavesEven k Answer x y = ⊥
LeavesEven k kind x y = SharesIn k kind x y

-- how a domain leaves an odd phase: domain 0 finds which kind comes next, by the domains' wishes or by what its caller says, and names it
abbrev pub LeavesOdd : Config → Decider → DomainView → DomainView → Kind → Kind → Type 0
LeavesOdd k decider x y last kind = ((x.own.number ≡ 0) × LeadsOn k decider x y last kind) ⊎ ((x.own.number ≢ 0) × (kind ≡ last) × (y ≡ arrived_view x))

-- a look found that the phase has begun in which a collection is answered, which domain 0 named
pub record ComesToAnswer (k : Config) (x begun : DomainView) : Type 0 where
  pub passed : PassedBarrier k x begun
  pub stage : begun.seen.stage ≡ In Answer
  pub even : IsEven x.own.arrivals
  pub named : Comes x.own.number (kind_in x.seen.stage) Answer
  pub ready : IsReady k Answer begun

-- how many blocks live in the state after the domain's front
abbrev pub blocks_left : Config → DomainView → ℕ
blocks_left k x = length (reach (state_of k x.seen.front))

-- the domain saw the whole history so far, in which a collection is answered, gave back its pools in which nothing is left, and arrived
pub record GivesBack (k : Config) (x y : DomainView) : Type 0 where
  pub begun : DomainView
  pub comes : ComesToAnswer k x begun
  pub seen : IsFrontOf begun.own.number y.seen.front begun.seen.front
  pub led : IsLed begun.own.number y.seen.front begun.seen.front
  pub legal : Legal (sizes_in k) y.seen.front
  pub answers : (state_of k y.seen.front).mode ≡ Answered
  pub view : y ≡ gave_back (with_front begun y.seen.front) y

-- how many finalisers the domain owes before its next `full_major`
abbrev pub due_of : Config → DomainView → ℕ
due_of k x = (domain_at (state_of k x.seen.front) x.own.number).due

-- the domain made the entry of its `full_major` where so many blocks live, and the reply tells what lives. It owes what its queue holds
pub record LivesAs (k : Config) (x y : DomainView) (blocks : ℕ) (reply : Reply) : Type 0 where
  pub words : ℕ
  pub reply_is : reply ≡ Live blocks words
  pub answers : Answers (sizes_in k) x.own.number x.seen.front y.seen.front (CommandOf x.own.number FullMajor false) (Replied reply)
  pub led : IsLed x.own.number y.seen.front x.seen.front
  pub view : y ≡ with_front x y.seen.front
  pub due : due_of k y ≡ length y.own.finalisers.queue.items

-- and then it arrived, if it waited for one, or it arrived at once
abbrev pub AnswersFrom : Config → DomainView → DomainView → Bool → ℕ → Option Reply → Type 0
AnswersFrom k x y live blocks None = (live ≡ false) × (y ≡ gave_back x y)
AnswersFrom k x y live blocks (Some reply) = (live ≡ true) × ((between : DomainView) × LivesAs k x between blocks reply × (y ≡ gave_back between y))

-- before that it had found that so many blocks live
abbrev pub CountsAndAnswers : Config → DomainView → DomainView → Bool → ℕ → Option Reply → Type 0
CountsAndAnswers k x y live blocks reply = (counted : DomainView) × LiveBlocksTold k x blocks counted × AnswersFrom k counted y live blocks reply

-- before that it made the entry of its `full_major`, with its minor area empty: the reply tells what lives
pub record AnswersLive (k : Config) (x y : DomainView) (reply : Reply) : Type 0 where
  pub begun : DomainView
  pub comes : ComesToAnswer k x begun
  pub emptied : begun.own.used ≡ 0
  pub blocks : ℕ
  pub words : ℕ
  pub reply_is : reply ≡ Live blocks words
  pub front : List Entry
  pub answers : Answers (sizes_in k) x.own.number begun.seen.front front (CommandOf x.own.number FullMajor false) (Replied reply)
  pub led : IsLed x.own.number front begun.seen.front
  pub view : y ≡ gave_back (with_front begun front) y
  pub due : due_of k y ≡ length y.own.finalisers.queue.items

-- what a pause leaves of a domain: its minor area is empty, it remembers no field, and no register holds an address of a minor area
pub record IsCollected (k : Config) (x : DomainView) : Type 0 where
  pub emptied : x.own.used ≡ 0
  pub forgotten : x.own.remembered.items ≡ []
  pub looked_through : x.seen.remembered ≡ []
  pub holds_old : HoldsOld k x
