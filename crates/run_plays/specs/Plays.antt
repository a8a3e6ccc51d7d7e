-- Plays of all domains of a heap, and the one history that has what all of them were told.
use Rattle.std.specs.Prelude.{◌≡◌, ℕ, zero, suc, ◌+◌, List, [], ◌∷◌, slice_get, Some}
use Rattle.std.specs.List.{AllByRecursion}
use Rattle.model_core.specs.declared.command.Command as model
use Rattle.model_core.specs.declared.entry.Entry.{Entry}
use Rattle.model_core.specs.declared.reply.Reply.{Reply}
use Rattle.model_core.specs.declared.state.Sizes.{Sizes}
use Rattle.model_core.specs.History.{Legal}
use Rattle.heap_rule.specs.declared.config.Config.{Config}
use Rattle.heap_rule.specs.Limits.{sizes_in}
use Rattle.heap_rule.specs.Token.{SharedHeap}
use Rattle.run_turns.specs.declared.supply.Supply.TheVariants.{Open}
use Rattle.run_seats.specs.Shared.Sharing.{SharedView}
use Rattle.run_ledgers.specs.Ledgers.{IsLedger}
use Rattle.run_plays.specs.Playing.{PlayerView, number_of}

-- a domain that has made no entry
pub record IsNew (s : SharedView) : Type 0 where
  pub front : s.run.token.view.seen.front ≡ []
  pub ran : s.run.ran ≡ []
  pub commands : s.run.commands ≡ []
  pub next : s.run.next ≡ 0
  pub more : s.run.supply ≡ Open

abbrev pub AreNew : List SharedView → Type 0
AreNew ss = AllByRecursion IsNew ss

-- where a domain sits: its heap, and its number there
abbrev pub Seat : Type 0
Seat = SharedHeap × ℕ

abbrev pub seat_of : PlayerView → Seat
seat_of p = (p.shared.heap, number_of p)

abbrev pub run_seat : SharedView → Seat
run_seat s = (s.heap, s.run.token.view.own.number)

-- so many seats of a heap, whose numbers count from one on
abbrev pub seats_from : SharedHeap → ℕ → ℕ → List Seat
seats_from h n zero = []
seats_from h n (suc more) = (h, n) ∷ seats_from h (n + 1) more

-- these are all seats of a heap of this size, in order
pub record AreSeatsOf (k : Config) (seats : List Seat) : Type 0 where
  pub heap : SharedHeap
  pub size : heap.config ≡ k
  pub are : seats ≡ seats_from heap 0 k.domains

-- these are all seats of some heap
abbrev pub AreSeats : List Seat → Type 0
AreSeats seats = (k : Config) × AreSeatsOf k seats

-- the numbers are those of the heap whose seats these are
abbrev pub AreSizesOf : List Seat → Sizes → Type 0
AreSizesOf seats z = (k : Config) → AreSeatsOf k seats → z ≡ sizes_in k

-- what a domain's player has in its log at the end: the commands that it made with the replies that were read, and the finalisers that were told
pub record LogView : Type 0 where
  pub made : List (model.Command × Reply)
  pub told : List Reply

-- a domain's front has of it just what a log says
abbrev pub IsLogOf : LogView → SharedView → Type 0
IsLogOf l s = IsLedger (sizes_in s.heap.config) s.run.token.view.own.number s.run.token.view.seen.front (record { made = l.made; ran = l.told })

-- these logs are those of these domains, in order
abbrev pub AreLogsOf : List LogView → List SharedView → Type 0
AreLogsOf [] [] = Unit {0}
AreLogsOf (l ∷ ls) (s ∷ ss) = IsLogOf l s × AreLogsOf ls ss
AreLogsOf _ _ = ⊥

-- what a play leaves: the heap's numbers, the history of all domains, and the log of each
pub record PlayedView : Type 0 where
  pub sizes : Sizes
  pub history : List Entry
  pub logs : List LogView

-- the one history has of each domain just what its log says
pub record IsOneHistory (p : PlayedView) : Type 0 where
  pub legal : Legal p.sizes p.history
  pub each : (d : ℕ) (l : LogView) → slice_get p.logs d ≡ Some l → IsLedger p.sizes d p.history (record { made = l.made; ran = l.told })
