-- Seats as their owners see them.
use Rattle.std.specs.Prelude.{◌≡◌, ℕ, zero, suc, ◌+◌, ◌-◌, List, [], ◌∷◌, ◌++◌, drop, length, Option, Some, None}
use Rattle.std.specs.List.{AllByRecursion}
use Rattle.atomic_table.specs.Seated.{TableId}
use Rattle.model_core.specs.declared.command.Command as model
use Rattle.model_core.specs.declared.entry.Entry.{Entry}
use Rattle.model_core.specs.declared.reply.Reply.{Reply}
use Rattle.model_core.specs.Commands.{shown}
use Rattle.model_core.specs.Domains.{register}
use Rattle.model_core.specs.History.{commands, replies}
use Rattle.heap_rule.specs.Limits.{sizes_in}
use Rattle.heap_rule.specs.Rule.{state_of}
use Rattle.heap_rule.specs.Token.{SharedHeap}
use Rattle.run_turns.specs.declared.supply.Supply.TheVariants.{Open}
use Rattle.run_turns.specs.Runs.{RunView}
use Rattle.run_turns.specs.Handed.{Finalised, PerformedOn}
use Rattle.run_turns.specs.Singly.Counting.{no_stats, stats_of}
use Rattle.run_turns.specs.Singly.Refusing.{Takes}
use Rattle.run_turns.specs.declared.singly.counting.Stats.{Stats}
use Rattle.run_seats.specs.Pool.Keeping.{KeeperView}
use Rattle.run_seats.specs.declared.idle.Idle.{Idle}
use Rattle.run_seats.specs.Shared.Idling.{finals_of}
use Rattle.run_seats.specs.Idling.{KeepsHeap}

-- a heap with seats: the heap, and the pool in which they rest
pub record SeatsView : Type 0 where
  pub heap : SharedHeap
  pub pool : TableId

-- a seat: its heap, the pool, the domain's number, what the domain has seen of the history, how many labels were given out, how many more ephemerons and finalisers fit, what the domain counts, and the replies of the finalisers that ran and weren't taken so far
pub record SeatView : Type 0 where
  pub heap : SharedHeap
  pub pool : TableId
  pub number : ℕ
  pub front : List Entry
  pub labels : ℕ
  pub room : ℕ
  pub finals : ℕ
  pub stats : Stats
  pub ran : List Reply

-- the heap of a run
abbrev pub heap_of : RunView → SharedHeap
heap_of r = record { table = r.token.table; config = r.token.config }

abbrev pub seat_with : TableId → RunView → SeatView
seat_with pool r = record { heap = heap_of r; pool = pool; number = r.token.view.own.number; front = r.token.view.seen.front; labels = r.token.view.own.serial; room = r.token.view.own.ephemerons.room; finals = finals_of r; stats = stats_of r.token.view.own; ran = r.ran }

-- the seat of a run, and one of no heap
abbrev pub no_table : TableId
no_table = record { words = 0; slots = 0; views_name = 0; atom = 0; block = 0; offset = 0; slot_names = [] }

abbrev pub no_seat : TableId → SeatView
no_seat pool = record { heap = record { table = no_table; config = record { domains = 0; minor_words = 0; pools = 0; finals = 0; ephes = 0 } }; pool = pool; number = 0; front = []; labels = 0; room = 0; finals = 0; stats = no_stats; ran = [] }

abbrev pub seat_of : TableId → Option Idle → SeatView
seat_of pool None = no_seat pool
seat_of pool (Some i) = seat_with pool i.run

-- its run waits for the next command, and its keeper has put runs of the same heap to rest
pub record IsSeat (r : RunView) (k : KeeperView Idle) : Type 0 where
  pub more : r.supply ≡ Open
  pub done : r.next ≡ length r.commands
  pub keeps : KeepsHeap (heap_of r) k.rests

-- its run was put to rest
pub record IsResting (k : KeeperView Idle) : Type 0 where
  pub keeps : KeepsHeap (seat_of k.pool k.rests).heap k.rests

-- it is one of these
pub record IsSeatOf (s : SeatsView) (x : SeatView) : Type 0 where
  pub heap : x.heap ≡ s.heap
  pub pool : x.pool ≡ s.pool

abbrev pub AllSeatsOf : SeatsView → List SeatView → Type 0
AllSeatsOf s xs = AllByRecursion (IsSeatOf s) xs

-- a seat may make this command: it fits the shared heap, and there are room for the ephemeron that it makes and the finaliser that it registers, and a label for a block
abbrev pub MayPerform : SeatView → model.Command → Type 0
MayPerform s c = Takes s.room s.finals (4294967295 - s.labels) c

-- it is the same seat: what it has seen, its labels, its room, its counts and the replies of its finalisers may be others
abbrev pub IsSameSeat : SeatView → SeatView → Type 0
IsSameSeat old new = new ≡ record old { front = new.front; labels = new.labels; room = new.room; finals = new.finals; stats = new.stats; ran = new.ran }

-- the same, and no label was given out
abbrev pub IsSameUnlabelled : SeatView → SeatView → Type 0
IsSameUnlabelled old new = new ≡ record old { front = new.front; room = new.room; finals = new.finals; stats = new.stats; ran = new.ran }

-- the replies that wait behind those that did
abbrev pub ran_since : SeatView → SeatView → List Reply
ran_since old new = drop (length old.ran) new.ran

-- a command was made on a seat, once, behind the finalisers that ran since, and this is its reply. Theirs wait behind those that did
pub record PerformsOn (old new : SeatView) (c : model.Command) (r : Reply) : Type 0 where
  pub waits : new.ran ≡ old.ran ++ ran_since old new
  pub performed : PerformedOn (sizes_in old.heap.config) old.number old.front new.front c (ran_since old new) r

-- the domain's commands have grown by this one, and its replies by those of the finalisers and then by this one
pub record Records (old new : SeatView) (c : model.Command) (r : Reply) : Type 0 where
  pub commands_are : commands new.front old.number ≡ commands old.front old.number ++ c ∷ []
  pub replies_are : replies (sizes_in old.heap.config) new.front old.number ≡ replies (sizes_in old.heap.config) old.front old.number ++ (ran_since old new ++ r ∷ [])

-- the reply that shows what a register of a seat's domain holds
abbrev pub shown_in : SeatView → ℕ → Reply
shown_in s r = shown (register (state_of s.heap.config s.front) s.number r)

-- a seat has made no command since: what the domain has seen has grown by entries of others and by runs of its finalisers. Their replies wait behind those that did, and there is room for as many finalisers
pub record GoesAlong (old new : SeatView) : Type 0 where
  pub more : List Reply
  pub ran : new.ran ≡ old.ran ++ more
  pub finalised : Finalised (sizes_in old.heap.config) old.number old.front new.front more
  pub finals : new.finals ≡ old.finals
  pub commands_are : commands new.front old.number ≡ commands old.front old.number
  pub replies_are : replies (sizes_in old.heap.config) new.front old.number ≡ replies (sizes_in old.heap.config) old.front old.number ++ more

-- the seats of a heap that has just started, from this number on
abbrev pub fresh_seats : SeatsView → ℕ → ℕ → List SeatView
fresh_seats s from zero = []
fresh_seats s from (suc n) = record { heap = s.heap; pool = s.pool; number = from; front = []; labels = 0; room = s.heap.config.ephes; finals = s.heap.config.finals; stats = no_stats; ran = [] } ∷ fresh_seats s (from + 1) n
