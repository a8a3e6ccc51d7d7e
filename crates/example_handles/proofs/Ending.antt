-- The start and the end of a heap, seat by seat.
use Rattle.std.proofs.Common.{◌≡◌, ◌∙◌, ℕ, zero, suc, ◌+◌, List, [], ◌∷◌, ◌++◌, append-nil, length, slice_get, refl, sym, ap, subst, arith, Option, Some, None}
use Rattle.std.specs.List.{AllByRecursion}
use Rattle.model_core.specs.declared.command.Command as model
use Rattle.model_core.specs.declared.command.Command.TheVariants.{FullMajor, Poll}
use Rattle.model_core.specs.declared.entry.Entry.{Entry}
use Rattle.model_core.specs.declared.entry.Entry.TheVariants.{Command}
use Rattle.model_core.specs.declared.reply.Reply.{Reply}
use Rattle.model_core.specs.declared.state.Sizes.{Sizes}
use Rattle.model_core.specs.History.{commands}
use Rattle.heap_rule.specs.Limits.{first_outside, sizes_in}
use Rattle.heap_rule.proofs.Sizes.{within}
use Rattle.run_turns.proofs.Handed.{performed_commands}
use Rattle.run_turns.proofs.OfSingly.Finalising.{finalised_on}
use Rattle.run_seats.specs.Seating.{AllSeatsOf, IsSeatOf, SeatView, SeatsView, fresh_seats}
use Rattle.run_seats.specs.Stopping.{Stops, StopsEach}
use Rattle.example_handles.specs.declared.resource.Resource.{Resource}
use Rattle.example_handles.specs.Handling.{AllHandlesOf, Did, EachDid, GoesBy, HandlesView, IsHandles, IsLater, IsUnused, Made, Makes, Parts, PartsEach, Settles, StopLeaves, LeavesEach, parted, ran_by}
use Rattle.example_handles.specs.Resources.{names}
use Rattle.example_handles.proofs.Calls.{later_both, makes_both, open_held, performed_from, settles_both}
use Rattle.example_handles.proofs.Histories.{prefix_on}
use Rattle.example_handles.proofs.Settling.{was_open}

-- no number is outside its limit where none is named
pub none_outside : (o : Option ℕ) → ((k : ℕ) → o ≡ Some k → ⊥) → o ≡ None
none_outside None never = refl
none_outside (Some k) never = absurd (never k refl)

-- the seats of a heap that has just started
pub unused_seats : (s : SeatsView) (most from n : ℕ) → first_outside s.heap.config ≡ None → s.heap.config.finals ≡ most → AllByRecursion (IsUnused most) (fresh_seats s from n)
unused_seats s most from zero fits same = tt
unused_seats s most from (suc n) fits same = (record { limits = within s.heap.config fits; front = refl; ran = refl; room = omega (arith, same) }, unused_seats s most (from + 1) n fits same)

-- a seat that was taken up, without a command
along_makes : (old mid : HandlesView) → GoesBy old.seat mid.seat → Settles old mid → Makes [] old mid
along_makes old mid along settles = record { made_are = along.commands_are ∙ sym (append-nil (commands old.seat.front old.seat.number)); settles = settles }

-- and then made one
pub did_one : (old mid new : HandlesView) (c : model.Command) (r : Reply) → IsLater old.seat mid.seat → mid.most ≡ old.most → GoesBy old.seat mid.seat → Settles old mid → IsLater mid.seat new.seat → new.most ≡ mid.most
    → Made mid new c r → Settles mid new → IsHandles new → Did c old new
did_one old mid new c r first most along settled then still made settles kept =
    let z : Sizes = sizes_in old.seat.heap.config in
    let d : ℕ = old.seat.number in
    let p = performed_from old mid new c made.ran r first made.performed in
    record {
      seat = later_both old.seat mid.seat new.seat first then;
      most = still ∙ most;
      settles = settles_both old mid new then settled settles;
      kept = kept;
      reply = r;
      made = record {
        ran = along.ran ++ made.ran;
        performed = record {
          before = p.before;
          finalised = finalised_on z d old.seat.front mid.seat.front p.before along.ran made.ran along.finalised p.finalised;
          full = p.full;
          appends = p.appends;
          legal = p.legal;
          replies = p.replies;
        };
      };
    }

did_makes : (c : model.Command) (old new : HandlesView) → Did c old new → Makes (c ∷ []) old new
did_makes c old new did = record {
  made_are = performed_commands (sizes_in old.seat.heap.config) old.seat.number old.seat.front new.seat.front c did.made.ran did.reply did.made.performed;
  settles = did.settles;
}

pub parts_one : (old new : HandlesView) → IsLater old.seat new.seat → new.most ≡ old.most → GoesBy old.seat new.seat → Settles old new → IsHandles new → Parts old new.seat new.resources
parts_one old new later most along settles kept = record { seat = later; makes = subst (Makes [] old) same (along_makes old new along settles); kept = subst IsHandles same kept }
  where
    same : new ≡ parted old new.seat new.resources
    same = (λ i. record { seat = new.seat; resources = new.resources; most = most i })

-- they are of the same heap still
pub still_of : (s : SeatsView) (x y : SeatView) → IsLater x y → IsSeatOf s x → IsSeatOf s y
still_of s x y later here = subst (IsSeatOf s) (sym later) (record { heap = here.heap; pool = here.pool })

pub here_each : (s : SeatsView) (made : model.Command) (xs ys : List HandlesView) → EachDid made xs ys → AllHandlesOf s xs → AllHandlesOf s ys
here_each s made [] [] each here = tt
here_each s made [] (y ∷ ys) each here = absurd each
here_each s made (x ∷ xs) [] each here = absurd each
here_each s made (x ∷ xs) (y ∷ ys) each here = (still_of s x.seat y.seat each.0.seat here.0, here_each s made xs ys each.1 here.1)

pub length_each : (made : model.Command) (xs ys : List HandlesView) → EachDid made xs ys → length ys ≡ length xs
length_each made [] [] each = refl
length_each made [] (y ∷ ys) each = absurd each
length_each made (x ∷ xs) [] each = absurd each
length_each made (x ∷ xs) (y ∷ ys) each = ap suc (length_each made xs ys each.1)

pub seats_here : (s : SeatsView) (hs : List HandlesView) (ss : List SeatView) (rss : List (List Resource)) → PartsEach hs ss rss → AllHandlesOf s hs → AllSeatsOf s ss
seats_here s [] [] [] each here = tt
seats_here s (h ∷ hs) (x ∷ ss) (rs ∷ rss) each here = (still_of s h.seat x each.0.seat here.0, seats_here s hs ss rss each.1 here.1)
seats_here s [] [] (rs ∷ rss) each here = absurd each
seats_here s [] (x ∷ ss) rss each here = absurd each
seats_here s (h ∷ hs) [] rss each here = absurd each
seats_here s (h ∷ hs) (x ∷ ss) [] each here = absurd each

pub seats_length : (hs : List HandlesView) (ss : List SeatView) (rss : List (List Resource)) → PartsEach hs ss rss → length ss ≡ length hs
seats_length [] [] [] each = refl
seats_length (h ∷ hs) (x ∷ ss) (rs ∷ rss) each = ap suc (seats_length hs ss rss each.1)
seats_length [] [] (rs ∷ rss) each = absurd each
seats_length [] (x ∷ ss) rss each = absurd each
seats_length (h ∷ hs) [] rss each = absurd each
seats_length (h ∷ hs) (x ∷ ss) [] each = absurd each

-- what the end of the heap makes of each
stop_one : (z : Sizes) (history : List Entry) (old first then : HandlesView) (s : SeatView) (rs : List Resource) → Did FullMajor old first → Did Poll first then → Parts then s rs → Stops z history s → StopLeaves z history old rs
stop_one z history old first then s rs a b parts stops = record {
  new = parted then s rs;
  seat = later_both old.seat then.seat s both parts.seat;
  collects = makes_both old then (parted then s rs) (FullMajor ∷ Poll ∷ []) [] both parts.seat (makes_both old first then (FullMajor ∷ []) (Poll ∷ []) a.seat b.seat (did_makes FullMajor old first a) (did_makes Poll first then b)) parts.makes;
  kept = parts.kept;
  held = λ k is.
      let w = open_held old first then a.seat b.seat a.made.ran b.made.ran a.reply b.reply a.made.performed b.made.performed b.kept k
      (was_open (slice_get then.resources k) (names (ran_by (parted then s rs)) k) (sym (parts.makes.settles.settled k) ∙ is)) in
      record { front = w.front; full = w.full; since = w.since; collected = prefix_on (w.front ++ Command old.seat.number FullMajor w.full ∷ []) then.seat.front s.front w.collected parts.makes.settles.grows; held = w.held };
  stops = stops;
  resources_are = refl;
}
  where
    both : IsLater old.seat then.seat
    both = later_both old.seat first.seat then.seat a.seat b.seat

pub stop_each : (z : Sizes) (history : List Entry) (olds firsts thens : List HandlesView) (ss : List SeatView) (rss : List (List Resource))
    → EachDid FullMajor olds firsts → EachDid Poll firsts thens → PartsEach thens ss rss → StopsEach z history ss → LeavesEach z history olds rss
stop_each z history [] [] [] [] [] a b parts stops = tt
stop_each z history (o ∷ os) (f ∷ fs) (t ∷ ts) (s ∷ ss) (rs ∷ rss) a b parts stops = (stop_one z history o f t s rs a.0 b.0 parts.0 stops.0, stop_each z history os fs ts ss rss a.1 b.1 parts.1 stops.1)
stop_each z history [] (f ∷ fs) ts ss rss a b parts stops = absurd a
stop_each z history (o ∷ os) [] ts ss rss a b parts stops = absurd a
stop_each z history [] [] (t ∷ ts) ss rss a b parts stops = absurd b
stop_each z history (o ∷ os) (f ∷ fs) [] ss rss a b parts stops = absurd b
stop_each z history [] [] [] [] (rs ∷ rss) a b parts stops = absurd parts
stop_each z history [] [] [] (s ∷ ss) rss a b parts stops = absurd parts
stop_each z history (o ∷ os) (f ∷ fs) (t ∷ ts) [] rss a b parts stops = absurd parts
stop_each z history (o ∷ os) (f ∷ fs) (t ∷ ts) (s ∷ ss) [] a b parts stops = absurd parts

pub none_left : {A : Type 0} (l : List A) → length l ≡ 0 → l ≡ []
none_left [] none = refl
none_left (x ∷ xs) none = cc
