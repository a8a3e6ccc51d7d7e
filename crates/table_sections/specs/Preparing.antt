-- The seats of a table's domains, from the start of the heap to its end.
use Rattle.std.specs.Prelude.{◌≡◌, ◌≤◌, ◌+◌, ◌*◌, ℕ, suc, List, [], ◌∷◌, length, vec_capacity}
use Rattle.std.specs.List.{AllByRecursion, AllZip}
use Rattle.model_core.specs.declared.command.Command.TheVariants.{Poll}
use Rattle.model_core.specs.declared.entry.Entry.{Entry}
use Rattle.model_core.specs.declared.reply.Reply.TheVariants.{Done}
use Rattle.heap_rule.specs.Limits.{sizes_in}
use Rattle.run_seats.specs.Seating.{GoesAlong, IsSeatOf, SeatView, SeatsView}
use Rattle.run_session.specs.Domains.Seated.{Stands}
use Rattle.table_text.specs.declared.line.TableLine.{TableLine}
use Rattle.table_text.specs.declared.machine.reply.LineReply.{LineReply}
use Rattle.weak_laws.specs.Maps.Calls.{PerformedBy}
use Rattle.table_sections.specs.Lines.{IsSharedLine}
use Rattle.table_sections.specs.Sections.{SectionDone}
use Rattle.table_sections.specs.Prepared.{IsPrepared}
use Rattle.table_sections.specs.declared.laying.Places.{Places}
use Rattle.table_sections.specs.declared.running.Ran.{Ran}
use Rattle.table_sections.specs.declared.running.Task.{Task}

-- a seat of the heap, on which no command was made
pub record IsFresh (s : SeatsView) (d : ℕ) (x : SeatView) : Type 0 where
  pub here : IsSeatOf s x
  pub stands : Stands x
  pub number : x.number ≡ d
  pub front : x.front ≡ []
  pub labels : x.labels ≡ 0
  pub room : x.room ≡ s.heap.config.ephes

-- those of the domains from this one on
abbrev pub AllFresh : SeatsView → ℕ → List SeatView → Type 0
AllFresh s d [] = Unit {0}
AllFresh s d (x ∷ xs) = IsFresh s d x × AllFresh s (suc d) xs

-- the seat of a prepared domain, which has labels and room for its section
pub record IsReady (s : SeatsView) (p : Places) (d : ℕ) (x : SeatView) : Type 0 where
  pub here : IsSeatOf s x
  pub stands : Stands x
  pub number : x.number ≡ d
  pub labels : x.labels ≤ 4
  pub room : s.heap.config.ephes ≤ x.room + 3
  pub prepared : IsPrepared (sizes_in s.heap.config) p d x.front

abbrev pub AllReady : SeatsView → Places → ℕ → List SeatView → Type 0
AllReady s p d [] = Unit {0}
AllReady s p d (x ∷ xs) = IsReady s p d x × AllReady s p (suc d) xs

-- a section that waits for its thread: the seat, the lines, and room for the replies
pub record IsTask (x : SeatView) (lines : List TableLine) (t : Task) : Type 0 where
  pub resting_is : t.resting ≡ x
  pub lines_are : t.lines.items ≡ lines
  pub none : t.room.items ≡ []
  pub capacity : length lines ≤ vec_capacity t.room

abbrev pub AllTasks : List SeatView → List (List TableLine) → List Task → Type 0
AllTasks [] [] [] = Unit {0}
AllTasks (x ∷ xs) (ls ∷ lss) (t ∷ ts) = IsTask x ls t × AllTasks xs lss ts
AllTasks _ _ _ = ⊥

-- its seat is one of these, and has labels and room for the lines
pub record MayRun (s : SeatsView) (t : Task) : Type 0 where
  pub here : IsSeatOf s t.resting
  pub stands : Stands t.resting
  pub fits : AllByRecursion IsSharedLine t.lines.items
  pub labels : t.resting.labels + 7 * length t.lines.items ≤ 4294967295
  pub few : length t.lines.items ≤ t.resting.room
  pub none : t.room.items ≡ []
  pub capacity : length t.lines.items ≤ vec_capacity t.room

-- what its thread ends with: the section was made behind a `poll`
pub record HasRunTask (s : SeatsView) (t : Task) (r : Ran) : Type 0 where
  pub here : IsSeatOf s r.resting
  pub number : r.resting.number ≡ t.resting.number
  pub old : List Entry
  pub polled : PerformedBy (sizes_in s.heap.config) t.resting.number t.resting.front old Poll Done
  pub done : SectionDone (sizes_in s.heap.config) t.resting.number old t.lines.items r.replies.items r.resting.front

abbrev pub AllRan : SeatsView → List Task → List Ran → Type 0
AllRan s ts rs = AllZip (HasRunTask s) ts rs

-- the seat was resumed since, and these are the replies
pub record IsBack (s : SeatsView) (r : Ran) (replies : List LineReply) (x : SeatView) : Type 0 where
  pub replies_are : r.replies.items ≡ replies
  pub here : IsSeatOf s x
  pub number : x.number ≡ r.resting.number
  pub along : GoesAlong r.resting x

abbrev pub AllBack : SeatsView → List Ran → List (List LineReply) → List SeatView → Type 0
AllBack s [] [] [] = Unit {0}
AllBack s (r ∷ rs) (a ∷ more) (x ∷ xs) = IsBack s r a x × AllBack s rs more xs
AllBack s _ _ _ = ⊥
