-- A domain's trace on the shared heap, and what a turn does to it.
use Rattle.std.specs.Prelude.{◌≡◌, ◌≢◌, ◌==◌, ◌&&◌, ◌||◌, ℕ, ◌+◌, ◌*◌, ◌%◌, ◌^◌, ◌<◌, ◌≤◌, ◌⊎◌, ◌↔◌, nat_lt, nat_le, Option, None, Bool, true, false, List, [], ◌∷◌, ◌++◌, length, take, drop, replicate, pos, slice_get, Some, IsTrue}
use Rattle.std.specs.List.{list_any}
use Rattle.model_core.specs.declared.command.Command as model
use Rattle.model_core.specs.declared.entry.Entry.{Entry}
use Rattle.model_core.specs.declared.entry.Entry.TheVariants.{End, Command as CommandOf, Ran as RanOf}
use Rattle.model_core.specs.declared.reply.Reply.{Reply}
use Rattle.model_core.specs.declared.reply.Applied.{Applied}
use Rattle.model_core.specs.declared.reply.Applied.TheVariants.{Replied, Silent}
use Rattle.model_core.specs.declared.state.Sizes.{Sizes}
use Rattle.model_core.specs.Entries.{reply as reply_to}
use Rattle.model_core.specs.History.{IsPrefix, Legal, commands, replies, state_after}
use Rattle.model_core.specs.Fronts.{Answers, IsFrontOf, NoneOf}
use Rattle.model_core.specs.Commands.{shown}
use Rattle.model_core.specs.Domains.{class_count, domain_at, opening, register, reserve}
use Rattle.model_core.specs.declared.command.Command.TheVariants.{Minor, Major, FullMajor, Poll, Load, Join}
use Rattle.heap_rule.specs.declared.config.Config.{Config}
use Rattle.heap_rule.specs.declared.view.DomainView.{DomainView}
use Rattle.heap_rule.specs.declared.phase.Kind.{Kind}
use Rattle.heap_rule.specs.declared.phase.Kind.TheVariants.{Run, Answer}
use Rattle.heap_rule.specs.declared.phase.Stage.{Stage}
use Rattle.heap_rule.specs.declared.phase.Stage.TheVariants.{In, Leads, Gone}
use Rattle.heap_rule.specs.declared.phase.Note.{Note}
use Rattle.heap_rule.specs.declared.phase.Note.TheVariants.{Want, Asked, Barrier, Ended}
use Rattle.heap_rule.specs.Phases.{IsEven, IsOdd, Comes}
use Rattle.heap_rule.specs.Copies.{nothing_copied}
use Rattle.heap_words.specs.Remembered.Bounded.{Bounded}
use Rattle.heap_rule.specs.Running.{ChangesRegisters, RemembersAll}
use Rattle.step_pauses.specs.Pauses.{arrived_view, ended_own, IsModeOf}
use Rattle.do_fields.specs.Darkening.Aware.{Learnt, darkened_in, scanned_in, vain_in}
use Rattle.step_marks.specs.Marking.Arming.{knowing_armed}
use Rattle.gc_sweep.specs.Sweeping.{Swept}
use Rattle.heap_rule.specs.declared.phase.Progress.{Progress}
use Rattle.heap_rule.specs.Views.{no_collection}
use Rattle.gc_mark.specs.Decks.{AllMissed, DeckCounts, HasNoted, HasTaken, NotesNoMore, NotesOn, last_count}
use Rattle.gc_mark.specs.Slices.{IsDeckOf}
use Rattle.step_finalisers.specs.Registering.{count_of}
use Rattle.do_finalisers.specs.declared.running.Ran.{Ran}
use Rattle.do_finalisers.specs.Running.{RanFirst, reply_of}
use Rattle.heap_rule.specs.Rule.{state_of}
use Rattle.gc_pause.specs.Phases.Sharing.{HintsIn}
use Rattle.gc_pause.specs.declared.phases.decider.Decider.{Decider}
use Rattle.gc_pause.specs.declared.phases.decider.Decider.TheVariants.{Wishes as ByWishes}
use Rattle.gc_pause.specs.Stops.Looks.{PassedBarrier, bit_of}
use Rattle.gc_pause.specs.declared.stops.answer.Want as wish
use Rattle.gc_pause.specs.declared.stops.answer.Want.TheVariants.{Finish, Full}
use Rattle.gc_pause.specs.declared.stops.answer.Want.TheVariants.{Minor as Young}
use Rattle.model_traces.specs.Spawns.Printed.{printed_replies}
use Rattle.model_traces.specs.Spawns.Hidden.{hidden, prelude, result_of}
use Rattle.model_traces.specs.Spawns.Expansion.{AreFitting, Step, finish_commands, steps_from}
use Rattle.do_spawn.specs.Expanding.{ChangesWords, Expands, LooksAt, MakesAll, MakesOne}
use Rattle.run_turns.specs.declared.place.Place.{Place}
use Rattle.run_turns.specs.declared.place.Place.TheVariants.{AsEver, Before, Within, Behind}
use Rattle.run_turns.specs.Sections.{AllFitIn, IsInSection, IsOrdinary, IsTold, awaited, awaited_flag, is_spawned_at}
use Rattle.run_turns.specs.declared.turned.Turned.{Turned}
use Rattle.run_turns.specs.declared.supply.Supply.{Supply}
use Rattle.run_turns.specs.declared.supply.Supply.TheVariants.{Listed, Open, Section}
use Rattle.run_turns.specs.declared.turned.Turned.TheVariants.{Did, Waiting, Hungry, Held, Idle}
use Rattle.run_turns.specs.declared.turned.Turned.TheVariants.{Ended as Over}
use Rattle.heap_rule.specs.declared.view.Hunt.TheVariants.{Rests as AtRest}
use Rattle.heap_rule.specs.Limits.{sizes_in}
use Rattle.heap_rule.specs.Meeting.{seeing}
use Rattle.heap_rule.specs.Standing.{noted, Acts, with_front}
use Rattle.heap_rule.specs.Token.{Token, SharedHeap, IsIn}
use Rattle.run_turns.specs.Pausing.{HasNothingPending, HasLeft, KnowsProgress, LeavesEven, LeavesOdd, GivesBack, AnswersLive, IsCollected, blocks_left, due_of}
use Rattle.run_turns.specs.Kept.{answers, finalised}
use Rattle.run_turns.specs.Tries.{FitsHeap, IsFresh, NeedsPause, Refused, Tried, ephemerons_given, ephemerons_of, labels_given, labels_of, registrations_of, wish_of}

-- a run: the domain's token, its commands, the place of the next one, its replies, whether its trace has ended, where the domain has arrived from which kind of phase, how often it had arrived when it asked for a pause for the next command, whether the last pause since then was a complete collection that left so many blocks that they may use up the pools, how far, for domain 0, a collection has come, how many finalisers the domain owes before its next `full_major`, what its deck of hints has counted, where its commands come from, how far it has come in its section, how many finalisers the domain has room for, and, where commands are handed in, the replies of those that ran and weren't taken so far
pub record RunView : Type 0 where
  pub token : Token
  pub commands : List model.Command
  pub next : ℕ
  pub replies : List Reply
  pub ended : Bool
  pub left : Option Kind
  pub asked : Option ℕ
  pub collected : Bool
  pub progress : Progress
  pub due : ℕ
  pub hints : DeckCounts
  pub supply : Supply
  pub place : Place
  pub spare : ℕ
  pub ran : List Reply

-- whether an entry is the end of domain d
abbrev pub is_end_of : ℕ → Entry → Bool
is_end_of d (End k) = k == d
is_end_of d _ = false

-- each command runs on the shared heap, with its numbers in their ranges
abbrev pub AllFit : List model.Command → Type 0
AllFit cs = (i : ℕ) (c : model.Command) → slice_get cs i ≡ Some c → FitsHeap c

-- how many ephemerons the commands make, if none is answered `full`
abbrev pub ephemerons_in : List model.Command → ℕ
ephemerons_in [] = 0
ephemerons_in (c ∷ cs) = ephemerons_of c + ephemerons_in cs

-- and how many finalisers they register at most
abbrev pub registrations_in : List model.Command → ℕ
registrations_in [] = 0
registrations_in (c ∷ cs) = registrations_of c + registrations_in cs

-- and how many labels they give out at most
abbrev pub labels_in : List model.Command → ℕ
labels_in [] = 0
labels_in (c ∷ cs) = labels_of c + labels_in cs

-- what a front has of a run: exactly this where all its commands were listed, and where they are handed in this behind what came of earlier commands. Of a section `IsInSection` says it
abbrev pub EndsIn : {A : Type 0} → Supply → List A → List A → Type 0
EndsIn Listed whole last = whole ≡ last
EndsIn Section whole last = Unit {0}
EndsIn _ whole last = (past : List _) × (whole ≡ past ++ last)

-- and what it has of its replies: these where all commands were listed, and where they are handed in that of the last command and, apart from it, those of the finalisers that ran and weren't taken so far
abbrev pub AreKept : Supply → Sizes → List Entry → ℕ → List Reply → List Reply → Type 0
AreKept Listed z front d said ran = (replies z front d ≡ said) × (ran ≡ [])
AreKept Section z front d said ran = ran ≡ []
AreKept s z front d said ran = EndsIn s (answers z front d) said × EndsIn s (finalised z front d) ran

-- one more reply of a finaliser: among those of the commands, and apart from them where these are handed in
abbrev pub said_with : Supply → List Reply → Reply → List Reply
said_with Listed said reply = said ++ reply ∷ []
said_with Section said reply = said ++ reply ∷ []
said_with _ said reply = said

abbrev pub ran_with : Supply → List Reply → Reply → List Reply
ran_with Listed ran reply = ran
ran_with Section ran reply = ran
ran_with _ ran reply = ran ++ reply ∷ []

-- the commands are handed in one by one
abbrev pub IsHandedIn : Supply → Type 0
IsHandedIn Listed = ⊥
IsHandedIn Section = ⊥
IsHandedIn _ = Unit {0}

-- labels are left for the commands to come: by the number of commands where all were given at once, and else by those that each gives out at most
abbrev pub HasLabels : Supply → ℕ → ℕ → List model.Command → Type 0
HasLabels Listed serial next cs = serial ≤ 4000000000 + next
HasLabels Section serial next cs = serial ≤ 4000000000 + next
HasLabels _ serial next cs = serial + labels_in (drop next cs) < 2 ^ 32

-- a pause began and ended since the domain asked: it has arrived since
abbrev pub served_since : Option ℕ → ℕ → Bool
served_since None arrivals = false
served_since (Some at) arrivals = nat_lt at arrivals

-- a run before its first turn
abbrev pub standing : Token → List model.Command → DeckCounts → Supply → Place → RunView
standing t cs hints supply place = record { token = t; commands = cs; next = 0; replies = []; ended = false; left = None; asked = None; collected = false; progress = no_collection; due = 0; hints = hints; supply = supply; place = place; spare = t.config.finals; ran = [] }

abbrev pub unturned : Token → List model.Command → DeckCounts → Supply → RunView
unturned t cs hints supply = standing t cs hints supply AsEver

-- a domain is ready for these commands: it runs, in the middle of no pause, and knows of no collection. It has room for the ephemerons that they make and the finalisers that they register, and none is registered so far
pub record StandsReady (t : Token) (cs : List model.Command) : Type 0 where
  pub inside : t.view.own.number < t.config.domains
  pub acts : Acts t.config t.view
  pub idle : t.view.seen.made ≡ []
  pub at_rest : t.view.seen.hunt ≡ AtRest
  pub few : length cs ≤ 200000
  pub room : ephemerons_in cs ≤ t.view.own.ephemerons.room
  pub enlists : registrations_in cs ≤ t.config.finals
  pub none_listed : count_of t.view.own.finalisers ≡ 0
  pub owes : due_of t.config t.view ≡ 0
  pub labels : t.view.own.serial ≤ 4000000000
  pub even : t.view.own.arrivals % 2 ≡ 0
  pub remembers : RemembersAll t.view
  pub quiet : t.view.seen.copying ≡ nothing_copied
  pub no_copies : t.view.own.pending.items ≡ []
  pub unprepared : t.view.own.prepared ≡ replicate class_count None
  pub none_began : t.view.seen.share.progress ≡ no_collection

-- a domain without an entry so far may begin these commands
pub record CanBegin (t : Token) (cs : List model.Command) : Type 0 where
  pub ready : StandsReady t cs
  pub no_commands : commands t.view.seen.front t.view.own.number ≡ []
  pub no_replies : replies (sizes_in t.config) t.view.seen.front t.view.own.number ≡ []
  pub fit : AllFit cs

-- a domain to which the hidden block was handed may begin the commands of its section. Behind the entries by which the block was made no entry of the domain stands in what it has seen
pub record CanBeginSection (t : Token) (cs : List model.Command) : Type 0 where
  pub ready : StandsReady t cs
  pub few_domains : t.config.domains ≤ 8
  pub behind : List Entry
  pub begins : t.view.seen.front ≡ prelude t.config.domains ++ behind
  pub others : NoneOf t.view.own.number behind
  pub fit : AllFitIn Section cs
  pub fitting : AreFitting t.view.own.number cs

-- where a section stands before its first turn: a spawn begins it, or it may go on at once
abbrev pub first_place : Bool → Place
first_place true = Before
first_place false = AsEver

-- the domain runs, or it has arrived
abbrev pub StandsAt : Option Kind → Stage → Type 0
StandsAt None stage = stage ≡ In Run
StandsAt (Some kind) stage = stage ≡ Gone kind

-- how a domain stands between two turns: it runs, and its minor area is empty where a pause has come since it asked for one, or it has arrived. Where the last pause was a complete collection for the next command it has made no entry since
pub record IsBetween (left : Option Kind) (asked : Option ℕ) (collected : Bool) (progress : Progress) (t : Token) : Type 0 where
  pub stands : StandsAt left t.view.seen.stage
  pub quiet : HasNothingPending t.view
  pub even : left ≡ None → IsEven t.view.own.arrivals
  pub remembers : left ≡ None → RemembersAll t.view
  pub emptied : left ≡ None → served_since asked t.view.own.arrivals ≡ true → t.view.own.used ≡ 0
  pub has_left : (known : Kind) → left ≡ Some known → HasLeft t.config known t.view
  pub fresh : collected ≡ true → IsFresh t.config t.view
  pub knows : KnowsProgress progress t.view

-- what else is true of a run whose commands are handed in: it holds one at most, whose reply is kept once it is done
pub record HoldsOne (r : RunView) : Type 0 where
  pub one : length r.commands ≤ 1
  pub answered : length r.replies ≡ r.next

-- how many replies of finalisers a run keeps at most: one of each that its commands register, and where they are handed in one of each for which the domain has room
abbrev pub most_ran : Supply → ℕ → ℕ → ℕ
most_ran Listed registered finals = registered
most_ran Section registered finals = registered
most_ran _ registered finals = finals

-- what is true of a run between any two turns: the domain's commands in its front are those before the next, each once and in order, and the replies are those of its entries, with what came of earlier commands before them where commands are handed in, and by the rules of sections where they are one. It has room for the ephemerons that the others make and for the finalisers that they register. Each finaliser that it has may still answer once
pub record IsRun (r : RunView) : Type 0 where
  pub inside : r.token.view.own.number < r.token.config.domains
  pub made : EndsIn r.supply (commands r.token.view.seen.front r.token.view.own.number) (take r.next r.commands)
  pub answered : AreKept r.supply (sizes_in r.token.config) r.token.view.seen.front r.token.view.own.number r.replies r.ran
  pub replied : length r.replies + length r.ran + (count_of r.token.view.own.finalisers + registrations_in (drop r.next r.commands)) ≤ r.next + most_ran r.supply (registrations_in r.commands) r.spare
  pub within : r.next ≤ length r.commands
  pub few : length r.commands ≤ 200000
  pub fit : AllFitIn r.supply r.commands
  pub room : ephemerons_in (drop r.next r.commands) ≤ r.token.view.own.ephemerons.room
  pub enlists : count_of r.token.view.own.finalisers + registrations_in (drop r.next r.commands) ≤ r.token.config.finals
  pub idle : r.token.view.seen.made ≡ []
  pub at_rest : r.token.view.seen.hunt ≡ AtRest
  pub goes_on : r.ended ≡ false → (domain_at (state_of r.token.config r.token.view.seen.front) r.token.view.own.number).ended ≡ false
  pub owes : r.ended ≡ false → due_of r.token.config r.token.view ≡ r.due
  pub between : IsBetween r.left r.asked r.collected r.progress r.token
  pub labels : HasLabels r.supply r.token.view.own.serial r.next r.commands
  pub deck : IsDeckOf r.token.config r.token.view r.hints
  pub done : r.ended ≡ true → r.next ≡ length r.commands
  pub over : r.ended ≡ true → IsTrue (list_any (is_end_of r.token.view.own.number) r.token.view.seen.front)
  pub shut : r.ended ≡ true → r.supply ≢ Open
  pub one : IsHandedIn r.supply → HoldsOne r
  pub section : r.supply ≡ Section → IsInSection r.token.config r.token.view.own.number r.token.view.seen.front r.place r.commands r.next r.replies
  pub as_ever : r.supply ≢ Section → r.place ≡ AsEver
  pub unasked : r.place ≡ Before → r.asked ≡ None
  pub told : r.ended ≡ true → IsTold r.place
  pub spares : r.spare ≡ r.token.config.finals

-- how many replies fit into a queue in all
abbrev pub places_in : Bounded Reply → ℕ
places_in q = length q.items + q.room

-- the room that a run has reserved, for commands and for replies: each command answers once, and so does each finaliser that it registers. Where commands are handed in there is room for one, and for the replies of as many finalisers as the domain has room for
pub record HasReserved (supply : Supply) (count spare commands replies ran : ℕ) : Type 0 where
  pub answers : count + count ≤ replies
  pub one : IsHandedIn supply → (1 ≤ commands) × (2 ≤ replies)
  pub apart : IsHandedIn supply → spare ≤ ran

-- an open run whose last command is done may be given this one: it fits, and there are room and a label for what it makes, and room for what it registers, which each finaliser takes until its reply was taken
pub record MaySubmit (r : RunView) (c : model.Command) : Type 0 where
  pub more : r.supply ≡ Open
  pub done : r.next ≡ length r.commands
  pub fits : FitsHeap c
  pub enlists : length r.ran + (count_of r.token.view.own.finalisers + registrations_of c) ≤ r.spare
  pub room : ephemerons_of c ≤ r.token.view.own.ephemerons.room
  pub labels : r.token.view.own.serial + labels_of c < 2 ^ 32

-- the first of the replies, where commands are handed in
abbrev pub first_reply : Supply → List Reply → Option Reply
first_reply Listed replies = None
first_reply Section replies = None
first_reply _ replies = slice_get replies 0

-- the reply to the command that was handed in last, once it is done
abbrev pub answer_of : RunView → Option Reply
answer_of r = first_reply r.supply r.replies

-- no command was handed in, or the last one isn't done
abbrev pub IsUnanswered : RunView → Type 0
IsUnanswered r = (r.supply ≡ Listed) ⊎ ((r.supply ≡ Section) ⊎ ((r.commands ≡ []) ⊎ (r.next < length r.commands)))

-- this is the last reply to a command of the domain in its front
abbrev pub IsLastReply : RunView → Reply → Type 0
IsLastReply r a = (past : List Reply) × (answers (sizes_in r.token.config) r.token.view.seen.front r.token.view.own.number ≡ past ++ a ∷ [])

-- and these are the last replies of finalisers of the domain
abbrev pub AreLastRan : RunView → List Reply → Type 0
AreLastRan r rs = (past : List Reply) × (finalised (sizes_in r.token.config) r.token.view.seen.front r.token.view.own.number ≡ past ++ rs)

-- the domain after the end of its trace, with this front: its registers hold nothing, and it has forgotten what was registered
abbrev pub left_with : DomainView → List Entry → DomainView
left_with x front = record { own = ended_own x.own; seen = record x.seen { front = front } }

-- no finaliser waits in the domain's queue
abbrev pub IsUnqueued : Token → Type 0
IsUnqueued t = t.view.own.finalisers.queue.items ≡ []

-- the entry of the domain's end was made
pub record HasEnded (h : SharedHeap) (old new : Token) : Type 0 where
  pub here : IsIn new h
  pub answers : Answers (sizes_in old.config) old.view.own.number old.view.seen.front new.view.seen.front (End old.view.own.number) Silent
  pub heap : (new.table ≡ old.table) × (new.config ≡ old.config)
  pub view : new.view ≡ left_with old.view new.view.seen.front

-- a turn ran the finaliser that had waited longest in the domain's queue, and its reply was kept
pub record RunsFinaliser (h : SharedHeap) (start : Token) (old new : RunView) : Type 0 where
  pub ran : Ran
  pub first : RanFirst h.config ran start.view new.token.view
  pub here : IsIn new.token h
  pub run : new ≡ record old { token = new.token; replies = said_with old.supply old.replies (reply_of ran); ran = ran_with old.supply old.ran (reply_of ran); due = length new.token.view.own.finalisers.queue.items }

-- a turn tried the command where no finaliser waited, and its reply was kept. No pause had to come first, and a `minor` or a `major` finds the minor area empty
pub record TriesCommand (h : SharedHeap) (start : Token) (old new : RunView) (c : model.Command) : Type 0 where
  pub next : slice_get old.commands old.next ≡ Some c
  pub unqueued : IsUnqueued start
  pub ready : NeedsPause h.config start.view.own (served_since old.asked old.token.view.own.arrivals) c → ⊥
  pub emptied : (c ≡ Minor) ⊎ (c ≡ Major) → start.view.own.used ≡ 0
  pub reply : Reply
  pub tried : Tried h start new.token c old.collected reply
  pub run : new ≡ record old { token = new.token; next = old.next + 1; replies = old.replies ++ reply ∷ []; asked = None; collected = false; due = 0 }

-- a turn ended the trace, where no finaliser waited and no command may come any more
pub record EndsTrace (h : SharedHeap) (start : Token) (old new : RunView) : Type 0 where
  pub shut : old.supply ≢ Open
  pub past : length old.commands ≤ old.next
  pub told : IsTold old.place
  pub unqueued : IsUnqueued start
  pub ended : HasEnded h start new.token
  pub run : new ≡ record old { token = new.token; ended = true; collected = false }

-- a turn asked for the pause that the next command needs first, where no finaliser waited
pub record Asks (h : SharedHeap) (start : Token) (old new : RunView) : Type 0 where
  pub command : model.Command
  pub next : slice_get old.commands old.next ≡ Some command
  pub unqueued : IsUnqueued start
  pub needs : NeedsPause h.config start.view.own (served_since old.asked old.token.view.own.arrivals) command
  pub run : new ≡ record old { token = record start { view = noted start.view (Asked (bit_of (wish_of command))) }; asked = Some old.token.view.own.arrivals }

-- or the next command is an allocation that was refused in this turn, without a complete collection for it before that left much, and the turn asked for one
pub record AsksFull (h : SharedHeap) (start : Token) (old new : RunView) : Type 0 where
  pub command : model.Command
  pub next : slice_get old.commands old.next ≡ Some command
  pub unqueued : IsUnqueued start
  pub ready : NeedsPause h.config start.view.own (served_since old.asked old.token.view.own.arrivals) command → ⊥
  pub searched : Token
  pub refused : Refused h start searched command old.collected
  pub run : new ≡ record old { token = record searched { view = noted searched.view (Asked (bit_of Full)) }; asked = Some old.token.view.own.arrivals }

-- what the try of the next command came to: it was made, a pause that it needs must come first, or it was refused and a complete collection must
abbrev pub TrialAnswers : SharedHeap → RunView → RunView → model.Command → Option wish.Want → Type 0
TrialAnswers h old new c None = TriesCommand h old.token old new c
TrialAnswers h old new c (Some want) =
    ((new ≡ old) × NeedsPause h.config old.token.view.own (served_since old.asked old.token.view.own.arrivals) c × (want ≡ wish_of c))
    ⊎ ((new ≡ record old { token = new.token }) × Refused h old.token new.token c old.collected × (NeedsPause h.config old.token.view.own (served_since old.asked old.token.view.own.arrivals) c → ⊥) × (want ≡ Full))

-- the token whose domain has noted one thing more
abbrev pub noted_token : Token → Note → Token
noted_token t note = record t { view = noted t.view note }

-- how marking in a poll ended: each domain was found without a hint of a block to be scanned, or the domain has scanned 256 blocks, or has taken 8192 hints
abbrev pub MarkingEnds : DomainView → DomainView → DeckCounts → DeckCounts → Bool → Type 0
MarkingEnds x y l m true = AllMissed l m
MarkingEnds x y l m false = (scanned_in y.seen.share.known ≡ scanned_in x.seen.share.known + 256) ⊎ HasTaken 8192 l m

-- at each hint that was taken the domain has looked: it has scanned the block that begins there, or has found none to be scanned
abbrev pub LooksAtAll : DomainView → DomainView → DeckCounts → DeckCounts → Type 0
LooksAtAll x y l m = m.taken + (scanned_in x.seen.share.known + vain_in x.seen.share.known) ≤ l.taken + (scanned_in y.seen.share.known + vain_in y.seen.share.known)

-- for each such look a hint was taken, unless their count stands still
abbrev pub TakesForEach : DomainView → DomainView → DeckCounts → DeckCounts → Type 0
TakesForEach x y l m = (l.taken + (scanned_in y.seen.share.known + vain_in y.seen.share.known) ≤ m.taken + (scanned_in x.seen.share.known + vain_in x.seen.share.known)) ⊎ (last_count ≤ m.taken)

-- the domain has scanned fewer than 256 blocks, and has looked in vain at fewer than 8192 hints
abbrev pub MayGoOn : DomainView → DomainView → Type 0
MayGoOn x y = (scanned_in y.seen.share.known < scanned_in x.seen.share.known + 256) × (vain_in y.seen.share.known < vain_in x.seen.share.known + 8192)

-- the domain found that a collection goes on beside running domains, and has marked blocks. Each block that it has darkened it has noted
pub record MarksBeside (h : SharedHeap) (old new : RunView) (spent : Bool) : Type 0 where
  pub here : IsIn new.token h
  pub learnt : Learnt old.token.view new.token.view
  pub owes : new.token.view.seen.share.weak ≡ old.token.view.seen.share.weak
  pub knows : new.token.view.seen.share.armed ≡ Some true
  pub marks : MarkingEnds old.token.view new.token.view old.hints new.hints spent
  pub few : scanned_in new.token.view.seen.share.known ≤ scanned_in old.token.view.seen.share.known + 256
  pub let_go : vain_in new.token.view.seen.share.known ≤ vain_in old.token.view.seen.share.known + 8192
  pub ends : (spent ≡ true) ↔ MayGoOn old.token.view new.token.view
  pub looked : LooksAtAll old.token.view new.token.view old.hints new.hints
  pub took : TakesForEach old.token.view new.token.view old.hints new.hints
  pub noted : HasNoted (darkened_in old.token.view.seen.share.known) (darkened_in new.token.view.seen.share.known) old.hints new.hints
  pub no_more : NotesNoMore (darkened_in old.token.view.seen.share.known) (darkened_in new.token.view.seen.share.known) old.hints new.hints
  pub notes : NotesOn old.hints new.hints
  pub run : new ≡ record old { token = new.token; hints = new.hints }

-- the domain found that none goes on, and has swept so many places of its own pools: 256, or else none is left to be swept
pub record SweepsBeside (h : SharedHeap) (old new : RunView) (count : ℕ) : Type 0 where
  pub here : IsIn new.token h
  pub swept : Swept h.config 256 count (knowing_armed old.token.view false) new.token.view
  pub run : new ≡ record old { token = new.token }

-- it has marked blocks, or swept, by whether a collection goes on
abbrev pub WorksBeside : SharedHeap → RunView → RunView → Bool → Type 0
WorksBeside h old new spent = MarksBeside h old new spent ⊎ (((count : ℕ) × SweepsBeside h old new count) × (spent ≡ false))

-- a run that asks for the end of the collection that goes on beside running domains, or doesn't
abbrev pub asking_end : Bool → RunView → RunView
asking_end false r = r
asking_end true r = record r { token = noted_token r.token (Asked (bit_of Finish)) }

-- a turn made the entry of a poll, where no finaliser waited. Before it the domain marked beside the others, where a collection goes on, and swept else. Where it marked and found no hint of a block more it asked for the end of the collection
pub record Polls (h : SharedHeap) (old new : RunView) : Type 0 where
  pub spent : Bool
  pub worked : RunView
  pub works : WorksBeside h old worked spent
  pub made : RunView
  pub tried : TriesCommand h worked.token worked made Poll
  pub view : made.token.view ≡ with_front worked.token.view made.token.view.seen.front
  pub run : new ≡ asking_end spent made

-- a turn found that a spawn has begun the domain's section
pub record SeesStart (h : SharedHeap) (start : Token) (old new : RunView) : Type 0 where
  pub sectioned : old.supply ≡ Section
  pub goes_on : old.ended ≡ false
  pub was : old.place ≡ Before
  pub unqueued : IsUnqueued start
  pub looked : LooksAt h start new.token start.view.own.number (pos 1) true
  pub rest : ChangesRegisters start new.token
  pub run : new ≡ record old { token = new.token; collected = false; due = 0; place = Within }

-- a turn found that it hasn't, or that the section that a join waits for hasn't told its end
pub record HeldBack (h : SharedHeap) (start : Token) (old new : RunView) (section : ℕ) : Type 0 where
  pub sectioned : old.supply ≡ Section
  pub goes_on : old.ended ≡ false
  pub waits : awaited old.place start.view.own.number (slice_get old.commands old.next) ≡ Some section
  pub unqueued : IsUnqueued start
  pub looked : LooksAt h start new.token section (awaited_flag old.place) false
  pub rest : ChangesRegisters start new.token
  pub run : new ≡ record old { token = new.token; collected = false; due = 0 }

-- a turn made the rest of the steps of a join: its flag was found to be 2, and then the result was loaded
pub record TakesResult (h : SharedHeap) (old new : Token) (dst section : ℕ) (reply : Reply) : Type 0 where
  pub between : Token
  pub looked : LooksAt h old between section (pos 2) true
  pub takes : MakesOne h between new (Load dst hidden (result_of section)) reply

-- the look of a join came to the result of the section, or to nothing
abbrev pub TakeAnswers : SharedHeap → Token → Token → ℕ → ℕ → Option Reply → Type 0
TakeAnswers h old new dst section None = LooksAt h old new section (pos 2) false
TakeAnswers h old new dst section (Some reply) = TakesResult h old new dst section reply

-- the steps of one of the four commands were made
abbrev pub Completes : SharedHeap → Token → Token → model.Command → Reply → Type 0
Completes h old new (Join dst section) reply = TakesResult h old new dst section reply
Completes h old new c reply = Expands h old new c reply

-- a turn made one of the four commands, and the reply of its last step was kept
pub record MakesCommand (h : SharedHeap) (start : Token) (old new : RunView) (c : model.Command) : Type 0 where
  pub sectioned : old.supply ≡ Section
  pub goes_on : old.ended ≡ false
  pub going : old.place ≢ Before
  pub four : IsOrdinary c → ⊥
  pub next : slice_get old.commands old.next ≡ Some c
  pub unqueued : IsUnqueued start
  pub ready : NeedsPause h.config start.view.own (served_since old.asked old.token.view.own.arrivals) c → ⊥
  pub reply : Reply
  pub completes : Completes h start new.token c reply
  pub rest : ChangesWords start new.token
  pub run : new ≡ record old { token = new.token; next = old.next + 1; replies = old.replies ++ reply ∷ []; asked = None; collected = false; due = 0 }

-- a turn told the end of the domain's section, whose commands are all made
pub record TellsEnd (h : SharedHeap) (start : Token) (old new : RunView) : Type 0 where
  pub sectioned : old.supply ≡ Section
  pub goes_on : old.ended ≡ false
  pub was : old.place ≡ Within
  pub past : length old.commands ≤ old.next
  pub unqueued : IsUnqueued start
  pub ready : start.view.own.remembered.room < 1 → ⊥
  pub makes : MakesAll h start new.token (finish_commands start.view.own.number)
  pub rest : ChangesWords start new.token
  pub run : new ≡ record old { token = new.token; asked = None; collected = false; due = 0; place = Behind }

-- or it asked for the pause that must come first: no more field can be remembered
pub record AsksToTell (old new : RunView) : Type 0 where
  pub sectioned : old.supply ≡ Section
  pub was : old.place ≡ Within
  pub past : length old.commands ≤ old.next
  pub unqueued : IsUnqueued old.token
  pub needs : old.token.view.own.remembered.room < 1
  pub run : new ≡ record old { token = record old.token { view = noted old.token.view (Asked (bit_of Young)) }; asked = Some old.token.view.own.arrivals }

-- what a running domain does in a turn that found no wish
pub data CalmDid (h : SharedHeap) (old new : RunView) : Type 0 where
  Finalises : RunsFinaliser h old.token old new → CalmDid h old new
  Wishes : Asks h old.token old new → CalmDid h old new
  Refuses : AsksFull h old.token old new → CalmDid h old new
  Tries : (c : model.Command) → (c ≢ Poll) → TriesCommand h old.token old new c → CalmDid h old new
  Works : Polls h old new → CalmDid h old new
  Ends : EndsTrace h old.token old new → CalmDid h old new
  Sees : SeesStart h old.token old new → CalmDid h old new
  Makes : (c : model.Command) → MakesCommand h old.token old new c → CalmDid h old new
  Tells : TellsEnd h old.token old new → CalmDid h old new
  WishesToTell : AsksToTell old new → CalmDid h old new

-- a trace that had ended, and n traces that a load found to have ended
pub record Rests (old new : RunView) (n : ℕ) : Type 0 where
  pub over : old.ended ≡ true
  pub run : new ≡ record old { token = noted_token old.token (Ended n) }

abbrev pub RestAnswers : SharedHeap → RunView → RunView → Turned → Type 0
RestAnswers h old new (Idle n) = Rests old new n × (n < h.config.domains)
RestAnswers h old new Over = Rests old new h.config.domains
RestAnswers h old new _ = ⊥

-- no command is left of an open run, no finaliser waits, and nothing has changed
pub record Hungers (old new : RunView) : Type 0 where
  pub more : old.supply ≡ Open
  pub past : length old.commands ≤ old.next
  pub unqueued : IsUnqueued old.token
  pub run : new ≡ old

-- what such a turn answers
abbrev pub CalmAnswers : SharedHeap → RunView → RunView → Turned → Type 0
CalmAnswers h old new Did = CalmDid h old new
CalmAnswers h old new Hungry = Hungers old new
CalmAnswers h old new (Held section) = HeldBack h old.token old new section
CalmAnswers h old new a = RestAnswers h old new a

-- the domain has looked at the want word, and nothing else has changed
pub record HasLooked (old new : RunView) : Type 0 where
  pub found : ℕ
  pub run : new ≡ record old { token = noted_token old.token (Want found) }

-- the run whose domain has found this want word
abbrev pub wanting : RunView → ℕ → RunView
wanting r w = record r { token = noted_token r.token (Want w) }

-- a running domain found a wish, and arrived
pub record Stops (old new : RunView) : Type 0 where
  pub found : ℕ
  pub wanted : found ≢ 0
  pub run : new ≡ record old { token = record old.token { view = arrived_view (noted old.token.view (Want found)) }; left = Some Run; collected = false }

-- what the turn of a running domain answers: it found a wish and arrived, or it found none
abbrev pub RunAnswers : SharedHeap → RunView → RunView → Turned → Type 0
RunAnswers h old new Did = Stops old new ⊎ CalmAnswers h (wanting old 0) new Did
RunAnswers h old new a = CalmAnswers h (wanting old 0) new a

-- the domain had arrived, and a look found that all have and that it runs, as domain 0 named: a collection is done
pub record Resumes (h : SharedHeap) (old start : RunView) : Type 0 where
  pub arrived : (last : Kind) × (old.left ≡ Some last) × Comes old.token.view.own.number last Run
  pub even : IsEven old.token.view.own.arrivals
  pub passed : PassedBarrier h.config old.token.view start.token.view
  pub runs : start.token.view.seen.stage ≡ In Run
  pub collected : IsCollected h.config start.token.view
  pub run : start ≡ record old { token = record old.token { view = start.token.view }; left = None; progress = start.progress }

-- where the running part of a turn starts
abbrev pub Starts : SharedHeap → RunView → RunView → Type 0
Starts h old start = ((old.left ≡ None) × (start ≡ old)) ⊎ Resumes h old start

-- a look found that all have arrived: the domain did its share of the phase that had begun, and arrived
pub record Passes (k : Config) (decider : Decider) (x y : DomainView) (last kind : Kind) : Type 0 where
  pub begun : DomainView
  pub passed : PassedBarrier k x begun
  pub share : (IsEven x.own.arrivals × (begun.seen.stage ≡ In kind) × Comes x.own.number last kind × IsModeOf kind (state_of k begun.seen.front).mode × LeavesEven k kind begun y) ⊎ (IsOdd x.own.arrivals × (begun.seen.stage ≡ Leads last) × LeavesOdd k decider begun y last kind)

-- what becomes of the hints of a domain that goes through a phase: in an odd one they stay as they are
abbrev pub PassesHints : DomainView → Kind → DeckCounts → DeckCounts → Type 0
PassesHints x kind l m = (IsEven x.own.arrivals × HintsIn kind (length x.own.finalisers.queue.items) l m) ⊎ (IsOdd x.own.arrivals × (m ≡ l))

-- the domain had arrived, and went through the phase that had begun since
pub record GoesBy (h : SharedHeap) (decider : Decider) (old new : RunView) : Type 0 where
  pub last : Kind
  pub arrived : old.left ≡ Some last
  pub kind : Kind
  pub passes : Passes h.config decider old.token.view new.token.view last kind
  pub hints : PassesHints old.token.view kind old.hints new.hints
  pub run : new ≡ record old { token = record old.token { view = new.token.view }; left = Some kind; progress = new.progress; hints = new.hints }

-- whether the domain has asked for a pause for the next command
abbrev pub is_asked : Option ℕ → Bool
is_asked None = false
is_asked (Some at) = true

-- the next command is a `full_major`, for which the domain has asked for a pause, and it owes no finaliser before it
pub record WaitsForAnswer (r : RunView) : Type 0 where
  pub next : slice_get r.commands r.next ≡ Some FullMajor
  pub paid : r.due ≡ 0
  pub wished : is_asked r.asked ≡ true

-- the domain had arrived, and a collection was answered, by the reply of its next command among others: it is `full_major`, before which it owed no finaliser. It then owes those that wait in its queue
pub record IsAnswered (h : SharedHeap) (old new : RunView) : Type 0 where
  pub last : Kind
  pub arrived : old.left ≡ Some last
  pub waited : WaitsForAnswer old
  pub reply : Reply
  pub answers : AnswersLive h.config old.token.view new.token.view reply
  pub run : new ≡ record old { token = record old.token { view = new.token.view }; next = old.next + 1; replies = old.replies ++ reply ∷ []; left = Some Answer; asked = None; collected = false; progress = new.progress; due = length new.token.view.own.finalisers.queue.items }

-- whether so many blocks may use up the pools: where each has one to itself, no more pools are free than the reserve of promotion
abbrev pub may_use_up : Config → ℕ → Bool
may_use_up k blocks = nat_le k.pools (blocks + reserve (sizes_in k))

-- whether a complete collection that left so many lets an allocation be answered `full` that is refused behind it: they may use up the pools, or nobody else is there who may have used up what it freed
abbrev pub lets_refuse : Config → ℕ → Bool
lets_refuse k blocks = k.domains == 1 || may_use_up k blocks

-- or its next command is none, or it hasn't asked for a pause for it, or it owes finalisers before it. A complete collection has come for it where it had been tried, and counts where it left so many blocks that they may use up the pools, or where no other domain is there
pub record SeesAnswer (h : SharedHeap) (old new : RunView) : Type 0 where
  pub last : Kind
  pub arrived : old.left ≡ Some last
  pub none : WaitsForAnswer old → ⊥
  pub gives : GivesBack h.config old.token.view new.token.view
  pub run : new ≡ record old { token = record old.token { view = new.token.view }; left = Some Answer; collected = is_asked old.asked && lets_refuse h.config (blocks_left h.config new.token.view); progress = new.progress }

-- not all have arrived: the barrier word b, found in this turn, is below the end of the domain's turn
pub record Waits (h : SharedHeap) (old new : RunView) (b : ℕ) : Type 0 where
  pub arrived : (last : Kind) × (old.left ≡ Some last)
  pub below : b < old.token.view.own.arrivals * h.config.domains
  pub run : new ≡ record old { token = noted_token old.token (Barrier b); progress = new.progress }

-- what a turn answers
abbrev pub TurnAnswers : SharedHeap → RunView → RunView → Turned → Type 0
TurnAnswers h old new (Waiting b) = Waits h old new b
TurnAnswers h old new Did = GoesBy h ByWishes old new ⊎ (IsAnswered h old new ⊎ (SeesAnswer h old new ⊎ ((start : RunView) × Starts h old start × RunAnswers h start new Did)))
TurnAnswers h old new Hungry = (start : RunView) × Starts h old start × RunAnswers h start new Hungry
TurnAnswers h old new (Held section) = (start : RunView) × Starts h old start × RunAnswers h start new (Held section)
TurnAnswers h old new (Idle n) = (start : RunView) × Starts h old start × RunAnswers h start new (Idle n)
TurnAnswers h old new Over = (start : RunView) × Starts h old start × RunAnswers h start new Over

-- what a domain that had arrived did in a turn that ends where it runs again: it waits, went through the phase that had begun, or came back
abbrev pub PassesOn : SharedHeap → Decider → RunView → RunView → Turned → Type 0
PassesOn h decider old new (Waiting b) = Waits h old new b
PassesOn h decider old new Did = GoesBy h decider old new ⊎ (IsAnswered h old new ⊎ (SeesAnswer h old new ⊎ Resumes h old new))
PassesOn h decider old new _ = ⊥

-- the run of a domain that has seen this history
abbrev pub run_seeing : RunView → List Entry → RunView
run_seeing r history = record r { token = seeing r.token history }

-- the front has grown by entries of others, and then by this one of the domain, to which the answer is that of the state before it
pub record Appended (z : Sizes) (d : ℕ) (old new : List Entry) (e : Entry) (answer : Applied) : Type 0 where
  pub between : List Entry
  pub others : NoneOf d between
  pub appends : new ≡ old ++ between ++ e ∷ []
  pub legal : Legal z new
  pub replies : reply_to (state_after (opening z) (old ++ between)) e ≡ answer

-- the domain has given out so many labels, and has room for so many ephemerons fewer at most: it has room for more only where ephemerons were swept
pub record Takes (labels ephemerons : ℕ) (x y : DomainView) : Type 0 where
  pub labels_are : y.own.serial ≡ x.own.serial + labels
  pub room : x.own.ephemerons.room ≤ y.own.ephemerons.room + ephemerons

-- a turn made no entry of the domain, which has as many finalisers registered as before
pub record MadeNone (old new : RunView) : Type 0 where
  pub next : new.next ≡ old.next
  pub replies : new.replies ≡ old.replies
  pub ran : new.ran ≡ old.ran
  pub ended : new.ended ≡ old.ended
  pub front : IsFrontOf old.token.view.own.number new.token.view.seen.front old.token.view.seen.front
  pub listed : count_of new.token.view.own.finalisers ≡ count_of old.token.view.own.finalisers
  pub takes : Takes 0 0 old.token.view new.token.view

-- or the entry of its next command, whose reply was kept. Only that may register one more
pub record MadeNext (z : Sizes) (old new : RunView) : Type 0 where
  pub command : model.Command
  pub full : Bool
  pub reply : Reply
  pub here : slice_get old.commands old.next ≡ Some command
  pub next : new.next ≡ old.next + 1
  pub replies : new.replies ≡ old.replies ++ reply ∷ []
  pub ran : new.ran ≡ old.ran
  pub ended : new.ended ≡ old.ended
  pub front : Appended z old.token.view.own.number old.token.view.seen.front new.token.view.seen.front (CommandOf old.token.view.own.number command full) (Replied reply)
  pub listed : count_of new.token.view.own.finalisers ≤ count_of old.token.view.own.finalisers + registrations_of command
  pub takes : Takes (labels_given command reply) (ephemerons_given command reply) old.token.view new.token.view

-- or that of a finaliser, which is registered no more, and whose reply was kept
pub record MadeRun (z : Sizes) (old new : RunView) : Type 0 where
  pub reply : Reply
  pub next : new.next ≡ old.next
  pub replies : new.replies ≡ said_with old.supply old.replies reply
  pub ran : new.ran ≡ ran_with old.supply old.ran reply
  pub ended : new.ended ≡ old.ended
  pub front : Appended z old.token.view.own.number old.token.view.seen.front new.token.view.seen.front (RanOf old.token.view.own.number) (Replied reply)
  pub listed : count_of new.token.view.own.finalisers + 1 ≡ count_of old.token.view.own.finalisers
  pub takes : Takes 0 0 old.token.view new.token.view

-- or that of its end
pub record MadeEnd (z : Sizes) (old new : RunView) : Type 0 where
  pub shut : old.supply ≢ Open
  pub next : new.next ≡ old.next
  pub replies : new.replies ≡ old.replies
  pub ran : new.ran ≡ old.ran
  pub ended : new.ended ≡ true
  pub front : Appended z old.token.view.own.number old.token.view.seen.front new.token.view.seen.front (End old.token.view.own.number) Silent
  pub takes : Takes 0 0 old.token.view new.token.view

-- or some steps of a section
pub record MadeSteps (z : Sizes) (old new : RunView) : Type 0 where
  pub sectioned : old.supply ≡ Section
  pub steps : List Step
  pub ended : new.ended ≡ old.ended
  pub front : IsPrefix old.token.view.seen.front new.token.view.seen.front
  pub legal : Legal z new.token.view.seen.front
  pub grows : steps_from (opening z) new.token.view.seen.front old.token.view.own.number ≡ steps_from (opening z) old.token.view.seen.front old.token.view.own.number ++ steps
  pub takes : Takes 0 0 old.token.view new.token.view

-- how the domain's front grew in a turn: by entries of others, and by one of the domain at most, which comes last, or by the steps of a section; and what labels and room it took
pub data Stretches (z : Sizes) (old new : RunView) : Type 0 where
  ByOthers : MadeNone old new → Stretches z old new
  ByCommand : MadeNext z old new → Stretches z old new
  ByFinaliser : MadeRun z old new → Stretches z old new
  ByEnd : MadeEnd z old new → Stretches z old new
  BySection : MadeSteps z old new → Stretches z old new

-- what waits to be taken is kept, and behind it come the replies of the domain's finalisers that ran since, in order, as its front tells them
pub record AddsRan (z : Sizes) (old new : RunView) : Type 0 where
  pub number : new.token.view.own.number ≡ old.token.view.own.number
  pub more : List Reply
  pub waits : new.ran ≡ old.ran ++ more
  pub told : finalised z new.token.view.seen.front old.token.view.own.number ≡ finalised z old.token.view.seen.front old.token.view.own.number ++ more

-- an open run with this token that keeps neither a command nor its reply
abbrev pub cleared : RunView → Token → RunView
cleared r t = record r { token = t; commands = []; next = 0; replies = []; asked = None; collected = false; due = 0 }

-- what the try of a command without a turn came to: it was made, and the run keeps neither it nor its reply, or a pause that it needs must come first, or it was refused
abbrev pub TriesNow : SharedHeap → RunView → RunView → model.Command → Option Reply → Type 0
TriesNow h old new c (Some reply) = (new ≡ cleared old new.token) × Tried h old.token new.token c false reply × (NeedsPause h.config old.token.view.own false c → ⊥)
TriesNow h old new c None =
    ((new ≡ old) × NeedsPause h.config old.token.view.own false c)
    ⊎ ((new ≡ record old { token = new.token }) × Refused h old.token new.token c false × (NeedsPause h.config old.token.view.own false c → ⊥))

-- a command was made at once: the domain runs, no finaliser waits, no pause is wanted, and it is none before which the domain works for the collector
pub record MakesNow (h : SharedHeap) (old new : RunView) (c : model.Command) (reply : Reply) : Type 0 where
  pub runs : old.left ≡ None
  pub unqueued : IsUnqueued old.token
  pub other : c ≢ Poll
  pub made : TriesNow h (wanting old 0) new c (Some reply)

-- or why it wasn't, and what that left of the run
pub data PutsOff (h : SharedHeap) (old new : RunView) (c : model.Command) : Type 0 where
  HasArrived : (old.left ≢ None) → (new ≡ old) → PutsOff h old new c
  OwesFinaliser : (IsUnqueued old.token → ⊥) → (new ≡ old) → PutsOff h old new c
  WorksFirst : (c ≡ Poll) → (new ≡ old) → PutsOff h old new c
  IsWanted : (found : ℕ) → (found ≢ 0) → (new ≡ wanting old found) → PutsOff h old new c
  IsTried : TriesNow h (wanting old 0) new c None → PutsOff h old new c

-- by the reply, if there is one
abbrev pub NowAnswers : SharedHeap → RunView → RunView → model.Command → Option Reply → Type 0
NowAnswers h old new c (Some reply) = MakesNow h old new c reply
NowAnswers h old new c None = PutsOff h old new c

-- once the trace has ended it stays so, and no reply comes
pub record StaysOver (old new : RunView) : Type 0 where
  pub ended : new.ended ≡ true
  pub next : new.next ≡ old.next
  pub replies : new.replies ≡ old.replies

-- the same domain's run of the same commands, from the same supply, begun by a spawn or not: what the domain saw of the history is a front part of what it sees now, and once its trace has ended it stays as it is
pub record GoesOn (old new : RunView) : Type 0 where
  pub commands : new.commands ≡ old.commands
  pub supply : new.supply ≡ old.supply
  pub spawned : is_spawned_at new.place ≡ is_spawned_at old.place
  pub number : new.token.view.own.number ≡ old.token.view.own.number
  pub front : IsPrefix old.token.view.seen.front new.token.view.seen.front
  pub over : old.ended ≡ true → StaysOver old new

-- a run with this command to make, which forgets the one before and its reply
abbrev pub submitted : RunView → model.Command → RunView
submitted r c = record r { commands = c ∷ []; next = 0; replies = []; asked = None; collected = false }

-- a run whose domain has arrived, wanted or not
abbrev pub halted : RunView → RunView
halted r = record r { token = record r.token { view = arrived_view r.token.view }; left = Some Run; collected = false }

-- the finalisers of these replies were registered with those that are
abbrev pub FinalisersFit : RunView → List Reply → Type 0
FinalisersFit r ran = length ran + count_of r.token.view.own.finalisers ≤ r.token.config.finals

-- the domain's commands in its part of the history are those before the next one, each once and in order
abbrev pub HasMade : RunView → Type 0
HasMade r = commands r.token.view.seen.front r.token.view.own.number ≡ take r.next r.commands

-- its section has come as far as its place says
abbrev pub IsAlong : RunView → Type 0
IsAlong r = IsInSection r.token.config r.token.view.own.number r.token.view.seen.front r.place r.commands r.next r.replies

-- the replies are those of the domain's entries in its part of the history
abbrev pub HasReplies : RunView → Type 0
HasReplies r = r.replies ≡ replies (sizes_in r.token.config) r.token.view.seen.front r.token.view.own.number

-- or those that it prints of its section
abbrev pub HasPrinted : RunView → Type 0
HasPrinted r = r.replies ≡ printed_replies (sizes_in r.token.config) r.token.view.seen.front r.token.view.own.number

-- the reply that shows what a register of a domain holds, by the history as the domain sees it
abbrev pub shown_in : Config → Token → ℕ → Reply
shown_in k t r = shown (register (state_of k t.view.seen.front) t.view.own.number r)

-- as many finalisers wait in the domain's queue as in the state after its part of the history
abbrev pub KnowsQueue : Config → Token → Type 0
KnowsQueue k t = length (domain_at (state_of k t.view.seen.front) t.view.own.number).queue ≡ length t.view.own.finalisers.queue.items

-- an answer that says so comes once the trace has ended
pub record EndsWith (told : Turned) (r : RunView) : Type 0 where
  pub ended : told ≡ Over → r.ended ≡ true
  pub idle : (n : ℕ) → told ≡ Idle n → r.ended ≡ true
