-- The end of a heap: what its history has of each seat.
use Rattle.std.proofs.Common.{◌≡◌, ◌∙◌, ℕ, zero, suc, Bool, true, false, List, [], ◌∷◌, ◌++◌, length, map, refl, sym, ap, subst, append_assoc, arith, Some}
use Rattle.std.specs.Prelude.{◌||◌, IsTrue, slice_get}
use Rattle.std.specs.List.{AllByRecursion, list_any}
use Rattle.model_core.specs.declared.entry.Entry.{Entry}
use Rattle.model_core.specs.Fronts.{IsFrontOf}
use Rattle.model_core.specs.History.{commands, replies}
use Rattle.heap_rule.specs.Limits.{sizes_in}
use Rattle.heap_rule.specs.declared.config.Config.{Config}
use Rattle.heap_rule.specs.Ending.{AllBegin, AllIn}
use Rattle.heap_rule.specs.Token.{SharedHeap}
use Rattle.model_core.specs.declared.reply.Reply.{Reply}
use Rattle.run_turns.specs.Kept.{finalised, is_run_of}
use Rattle.run_turns.proofs.Kept.{picked_front, picks_runs}
use Rattle.run_turns.specs.Runs.{IsRun, RunView, is_end_of}
use Rattle.run_threads.specs.Driven.{Driven}
use Rattle.run_seats.specs.declared.closing.Closing.{Closing}
use Rattle.run_turns.specs.declared.supply.Supply.TheVariants.{Closed}
use Rattle.run_seats.specs.Pool.Keeping.{KeeperView}
use Rattle.run_seats.specs.declared.idle.Idle.{Idle}
use Rattle.run_seats.specs.Seating.{AllSeatsOf, IsSeat, SeatView, SeatsView, heap_of, seat_with}
use Rattle.run_seats.specs.Stopping.{AreClosedFrom, IsClosedIn, IsClosedOf, IsOver, StaysClosed, Stops, StopsEach, Tells, TellsEach, ran_of, token_of}
use Rattle.run_seats.proofs.Growing.{front_commands, front_replies}

any_more : (a b c : Bool) → IsTrue (a || b) → (IsTrue b → IsTrue c) → IsTrue (a || c)
any_more true b c h f = refl
any_more false b c h f = f h

any_front : (p : Entry → Bool) (xs ys : List Entry) → IsTrue (list_any p xs) → IsTrue (list_any p (xs ++ ys))
any_front p [] ys h = cc
any_front p (x ∷ xs) ys h = any_more (p x) (list_any p xs) (list_any p (xs ++ ys)) h (any_front p xs ys)

-- one seat
stops_one : (k : Config) (history : List Entry) (s : SeatView) (r q : RunView) → s.heap.config ≡ k → IsClosedOf s r → StaysClosed r q → IsOver q → IsRun q → IsFrontOf q.token.view.own.number history q.token.view.seen.front → Stops (sizes_in k) history s
stops_one k history s r q config closed stays over is begins =
    let same : q.token.view.own.number ≡ s.number = stays.number ∙ closed.number in
    let front : IsFrontOf s.number history q.token.view.seen.front = subst (λ (n : ℕ). IsFrontOf n history q.token.view.seen.front) same begins in
    let sizes : r.token.config ≡ k = ap (λ (h : SharedHeap). h.config) closed.heap ∙ config in
    let made : commands q.token.view.seen.front s.number ≡ commands s.front s.number = subst (λ (w : ℕ × List Entry). commands q.token.view.seen.front w.0 ≡ commands w.1 w.0) (λ i. (closed.number i, closed.front i)) stays.commands_are in
    let given : replies (sizes_in k) q.token.view.seen.front s.number ≡ replies (sizes_in k) s.front s.number ++ stays.more = subst (λ (w : Config × (ℕ × List Entry)). replies (sizes_in w.0) q.token.view.seen.front w.1.0 ≡ replies (sizes_in w.0) w.1.1 w.1.0 ++ stays.more) (λ i. (sizes i, (closed.number i, closed.front i))) stays.replies_are in
    record {
      front = record {
        rest = stays.front.rest ++ begins.rest;
        appends = begins.appends ∙ (ap (λ (l : List Entry). l ++ begins.rest) (stays.front.appends ∙ ap (λ (l : List Entry). l ++ stays.front.rest) closed.front) ∙ append_assoc s.front stays.front.rest begins.rest);
      };
      commands_are = front_commands s.number history q.token.view.seen.front front ∙ made;
      ran = stays.more;
      replies_are = front_replies (sizes_in k) s.number history q.token.view.seen.front front ∙ given;
      ended = subst (λ (w : ℕ × List Entry). IsTrue (list_any (is_end_of w.0) w.1)) (λ i. (same i, sym begins.appends i)) (any_front (is_end_of q.token.view.own.number) q.token.view.seen.front begins.rest (is.over over));
    }

-- each
stops_all : (h : SeatsView) (history : List Entry) (seats : List SeatView) (old new : List Closing) → AllSeatsOf h seats → AreClosedFrom seats old → length new ≡ length old → ((i : ℕ) (r q : Closing) → slice_get old i ≡ Some r → slice_get new i ≡ Some q → StaysClosed r.run q.run)
    → ((i : ℕ) (q : Closing) → slice_get new i ≡ Some q → IsOver q.run) → AllByRecursion (λ (t : Closing). IsRun t.run) new → AllBegin history (map token_of new) → StopsEach (sizes_in h.heap.config) history seats
stops_all h history [] old new ofs closed count further over is begins = tt
stops_all h history (s ∷ ss) [] new ofs closed count further over is begins = absurd closed
stops_all h history (s ∷ ss) (r ∷ rs) [] ofs closed count further over is begins = cc
stops_all h history (s ∷ ss) (r ∷ rs) (q ∷ qs) ofs closed count further over is begins = (
  stops_one h.heap.config history s r.run q.run (ap (λ (x : SharedHeap). x.config) ofs.0.heap) closed.0 (further 0 r q refl refl) (over 0 q refl) is.0 begins.0,
  stops_all h history ss rs qs ofs.1 closed.1 (let many = count in omega (arith, many)) (λ i a b x y. further (suc i) a b x y) (λ i b y. over (suc i) b y) is.1 begins.1,
)

pub stops_each : (h : SeatsView) (history : List Entry) (seats : List SeatView) (old new : List Closing) → AllSeatsOf h seats → AreClosedFrom seats old → Driven (λ (x : SharedHeap) (t : Closing). IsClosedIn x t.run) (λ (t u : Closing). StaysClosed t.run u.run) (λ (t : Closing). IsOver t.run) h.heap old new
    → AllByRecursion (λ (t : Closing). IsRun t.run) new → AllBegin history (map token_of new) → StopsEach (sizes_in h.heap.config) history seats
stops_each h history seats old new ofs closed driven is begins = stops_all h history seats old new ofs closed driven.count driven.further driven.over is begins

-- what each told
tells_one : (k : Config) (history : List Entry) (s : SeatView) (r q : RunView) → s.heap.config ≡ k → IsClosedOf s r → StaysClosed r q → IsFrontOf q.token.view.own.number history q.token.view.seen.front → Tells (sizes_in k) history s q.ran
tells_one k history s r q config closed stays begins =
    let same : q.token.view.own.number ≡ s.number = stays.number ∙ closed.number in
    let front : IsFrontOf s.number history q.token.view.seen.front = subst (λ (n : ℕ). IsFrontOf n history q.token.view.seen.front) same begins in
    let sizes : r.token.config ≡ k = ap (λ (h : SharedHeap). h.config) closed.heap ∙ config in
    record {
      more = stays.adds.more;
      waits = stays.adds.waits ∙ ap (λ (rs : List Reply). rs ++ stays.adds.more) closed.ran;
      told = picked_front s.number (is_run_of s.number) (picks_runs s.number) (sizes_in k) history q.token.view.seen.front front
          ∙ subst (λ (w : Config × (ℕ × List Entry)). finalised (sizes_in w.0) q.token.view.seen.front w.1.0 ≡ finalised (sizes_in w.0) w.1.1 w.1.0 ++ stays.adds.more) (λ i. (sizes i, (closed.number i, closed.front i))) stays.adds.told;
    }

tells_all : (h : SeatsView) (history : List Entry) (seats : List SeatView) (old new : List Closing) → AllSeatsOf h seats → AreClosedFrom seats old → length new ≡ length old → ((i : ℕ) (r q : Closing) → slice_get old i ≡ Some r → slice_get new i ≡ Some q → StaysClosed r.run q.run)
    → AllBegin history (map token_of new) → TellsEach (sizes_in h.heap.config) history seats (map ran_of new)
tells_all h history [] [] [] ofs closed count further begins = tt
tells_all h history [] [] (q ∷ qs) ofs closed count further begins = cc
tells_all h history [] (r ∷ rs) new ofs closed count further begins = absurd closed
tells_all h history (s ∷ ss) [] new ofs closed count further begins = absurd closed
tells_all h history (s ∷ ss) (r ∷ rs) [] ofs closed count further begins = cc
tells_all h history (s ∷ ss) (r ∷ rs) (q ∷ qs) ofs closed count further begins = (
  tells_one h.heap.config history s r.run q.run (ap (λ (x : SharedHeap). x.config) ofs.0.heap) closed.0 (further 0 r q refl refl) begins.0,
  tells_all h history ss rs qs ofs.1 closed.1 (let many = count in omega (arith, many)) (λ i a b x y. further (suc i) a b x y) begins.1,
)

pub tells_each : (h : SeatsView) (history : List Entry) (seats : List SeatView) (old new : List Closing) → AllSeatsOf h seats → AreClosedFrom seats old → Driven (λ (x : SharedHeap) (t : Closing). IsClosedIn x t.run) (λ (t u : Closing). StaysClosed t.run u.run) (λ (t : Closing). IsOver t.run) h.heap old new
    → AllBegin history (map token_of new) → TellsEach (sizes_in h.heap.config) history seats (map ran_of new)
tells_each h history seats old new ofs closed driven begins = tells_all h history seats old new ofs closed driven.count driven.further begins

-- the runs of seats that are closed are the heap's
pub closed_in : (h : SeatsView) (seats : List SeatView) (old : List Closing) → AllSeatsOf h seats → AreClosedFrom seats old → (i : ℕ) (t : Closing) → slice_get old i ≡ Some t → IsClosedIn h.heap t.run
closed_in h [] [] ofs closed i t at = cc
closed_in h [] (r ∷ rs) ofs closed i t at = absurd closed
closed_in h (s ∷ ss) [] ofs closed i t at = absurd closed
closed_in h (s ∷ ss) (r ∷ rs) ofs closed zero t at =
    let is : r ≡ t = cc in
    let same : heap_of r.run ≡ h.heap = closed.0.heap ∙ ofs.0.heap in
    subst (λ (x : Closing). IsClosedIn h.heap x.run) is (record { here = (ap (λ (x : SharedHeap). x.table) same, ap (λ (x : SharedHeap). x.config) same); closed = closed.0.closed; done = closed.0.done })
closed_in h (s ∷ ss) (r ∷ rs) ofs closed (suc i) t at = closed_in h ss rs ofs.1 closed.1 i t at

-- what holds at each place holds of each
pub all_from_each : {A : Type 0} (P : A → Type 0) (xs : List A) → ((i : ℕ) (x : A) → slice_get xs i ≡ Some x → P x) → AllByRecursion P xs
all_from_each P [] each = tt
all_from_each P (x ∷ xs) each = (each 0 x refl, all_from_each P xs (λ i y at. each (suc i) y at))

pub all_in : (h : SharedHeap) (ts : List Closing) → AllByRecursion (λ (t : Closing). IsClosedIn h t.run) ts → AllIn h (map token_of ts)
all_in h [] here = tt
all_in h (t ∷ ts) here = (here.0.here, all_in h ts here.1)

pub closed_length : (seats : List SeatView) (old : List Closing) → AreClosedFrom seats old → length old ≡ length seats
closed_length [] [] closed = refl
closed_length [] (r ∷ rs) closed = absurd closed
closed_length (s ∷ ss) [] closed = absurd closed
closed_length (s ∷ ss) (r ∷ rs) closed = ap suc (closed_length ss rs closed.1)

-- the run of a seat, which gets no more command
pub closed_of : (r n : RunView) (k : KeeperView Idle) (s : SeatView) → IsSeat r k → seat_with k.pool r ≡ s → n ≡ record r { supply = Closed } → IsClosedOf s n
closed_of r n k s seat is closed = subst (λ (w : RunView × SeatView). IsClosedOf w.1 w.0) (λ i. (sym closed i, is i)) (record { heap = refl; number = refl; front = refl; ran = refl; closed = refl; done = seat.done })

pub none_left : {A : Type 0} (l : List A) → length l ≡ 0 → l ≡ []
none_left [] none = refl
none_left (x ∷ xs) none = cc

pub token_length : (ts : List Closing) → length (map token_of ts) ≡ length ts
token_length [] = refl
token_length (t ∷ ts) = ap suc (token_length ts)
