-- A seat whose domain a map is used on.
use Rattle.std.specs.Prelude.{◌≡◌, ◌<◌, []}
use Rattle.model_core.specs.declared.command.Command.TheVariants as command
use Rattle.model_core.specs.declared.reply.Reply.TheVariants as reply
use Rattle.model_core.specs.Domains.{IsWithinLimits, domain_at, opening}
use Rattle.model_core.specs.History.{Legal}
use Rattle.model_core.specs.Registrations.{all_registered}
use Rattle.heap_rule.specs.Limits.{sizes_in}
use Rattle.heap_rule.specs.Rule.{state_of}
use Rattle.run_seats.specs.Seating.{IsSeatOf, SeatView, SeatsView}
use Rattle.weak_laws.specs.Maps.Calls.{PerformedBy}

-- its domain is one of its heap's, whose numbers are within their limits, what the domain has seen is legal and registers no finaliser of it, and so many labels were given out as it says
pub record Stands (s : SeatView) : Type 0 where
  pub inside : s.number < s.heap.config.domains
  pub limits : IsWithinLimits (sizes_in s.heap.config)
  pub legal : Legal (sizes_in s.heap.config) s.front
  pub unregistered : all_registered s.number (opening (sizes_in s.heap.config)) s.front ≡ []
  pub labels : (domain_at (state_of s.heap.config s.front) s.number).serial ≡ s.labels

-- a seat has made a `poll`, which was answered that it is done
abbrev pub Polls : SeatView → SeatView → Type 0
Polls old new = PerformedBy (sizes_in old.heap.config) old.number old.front new.front command.Poll reply.Done

-- a seat on which no command was made, of a heap within its limits
pub record IsUnused (s : SeatView) : Type 0 where
  pub inside : s.number < s.heap.config.domains
  pub limits : IsWithinLimits (sizes_in s.heap.config)
  pub front : s.front ≡ []
  pub labels : s.labels ≡ 0

-- a seat with the heap that it is a seat of
pub record SeatedView : Type 0 where
  pub seats : SeatsView
  pub seat : SeatView

-- it is one of these seats, and stands
pub record IsSeated (s : SeatedView) : Type 0 where
  pub here : IsSeatOf s.seats s.seat
  pub stands : Stands s.seat
