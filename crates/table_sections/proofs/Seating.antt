-- The seats of the domains, from the start of the heap to its end.
use Rattle.std.proofs.Common.{◌≡◌, ℕ, zero, suc, ◌+◌, ◌-◌, ◌≤◌, ◌<◌, List, [], ◌∷◌, ◌++◌, length, slice_index_or, refl, ap, sym, ◌∙◌, subst, arith}
use Rattle.std.specs.Prelude.{remove}
use Rattle.std.specs.List.{AllByRecursion}
use Rattle.model_core.specs.declared.command.Command.TheVariants.{Poll}
use Rattle.model_core.specs.declared.entry.Entry.{Entry}
use Rattle.model_core.specs.declared.reply.Reply.TheVariants.{Done}
use Rattle.model_core.specs.declared.state.Sizes.{Sizes}
use Rattle.model_core.specs.Domains.{IsWithinLimits}
use Rattle.model_core.specs.History.{commands}
use Rattle.heap_rule.specs.Limits.{sizes_in}
use Rattle.heap_rule.specs.Token.{SharedHeap}
use Rattle.run_seats.specs.Seating.{IsSameUnlabelled, IsSeatOf, SeatView, SeatsView, fresh_seats}
use Rattle.run_seats.specs.Stopping.{Stops, StopsEach}
use Rattle.run_session.specs.Domains.Seated.{Polls, Stands}
use Rattle.run_session.proofs.OfDomains.Seats.{unused}
use Rattle.table_text.specs.declared.line.TableLine.{TableLine}
use Rattle.table_text.specs.declared.machine.reply.LineReply.{LineReply}
use Rattle.weak_laws.specs.Maps.Calls.{PerformedBy}
use Rattle.weak_laws.proofs.OfMaps.FrontLemmas.{prefix_trans}
use Rattle.table_sections.specs.Sections.{SectionDone}
use Rattle.table_sections.specs.Places.{Finds, LaysOut}
use Rattle.table_sections.specs.Prepared.{Prepares}
use Rattle.table_sections.specs.Preparing.{AllBack, AllFresh, AllRan, AllReady, AllTasks, HasRunTask, IsBack, IsFresh, IsReady, IsTask, MayRun}
use Rattle.table_sections.specs.Together.{SectionFits}
use Rattle.table_sections.specs.declared.laying.Places.{Places}
use Rattle.table_sections.specs.declared.running.Ran.{Ran}
use Rattle.table_sections.specs.declared.running.Task.{Task}
use Rattle.table_sections.proofs.Standing.{AllOver, IsOver}

-- the seats of a heap that has just started
fresh_from : (s : SeatsView) → IsWithinLimits (sizes_in s.heap.config) → (from n : ℕ) → from + n ≤ s.heap.config.domains → AllFresh s from (fresh_seats s from n)
fresh_from s limits from zero few = tt
fresh_from s limits from (suc n) few =
    let next : from + 1 ≡ suc from = omega arith in (
      record { here = record { heap = refl; pool = refl }; stands = unused _ (record { inside = omega (arith, few); limits = limits; front = refl; labels = refl }); number = refl; front = refl; labels = refl; room = refl },
      subst (λ (m : ℕ). AllFresh s m (fresh_seats s (from + 1) n)) next (fresh_from s limits (from + 1) n (omega (arith, few))),
    )

pub all_fresh : (s : SeatsView) (xs : List SeatView) → IsWithinLimits (sizes_in s.heap.config) → xs ≡ fresh_seats s 0 s.heap.config.domains → AllFresh s 0 xs
all_fresh s xs limits are = subst (AllFresh s 0) (sym are) (fresh_from s limits 0 s.heap.config.domains (omega arith))

fresh_length : (s : SeatsView) (from n : ℕ) → length (fresh_seats s from n) ≡ n
fresh_length s from zero = refl
fresh_length s from (suc n) = ap suc (fresh_length s (from + 1) n)

pub all_length : (s : SeatsView) (xs : List SeatView) → xs ≡ fresh_seats s 0 s.heap.config.domains → length xs ≡ s.heap.config.domains
all_length s xs are = ap (λ (ys : List SeatView). length ys) are ∙ fresh_length s 0 s.heap.config.domains

-- a domain behind the first prepares by finding what is shared
pub prepares_other : (z : Sizes) (p : Places) (d : ℕ) (old new : List Entry) → 0 < d → Finds z d old new p → Prepares z p d old new
prepares_other z p zero old new some x = absurd (omega (arith, some))
prepares_other z p (suc d) old new some x = x

-- a seat that was resumed is of the same heap
sizes_of : (s : SeatsView) (d : ℕ) (x mid : SeatView) → IsFresh s d x → IsSameUnlabelled x mid → sizes_in mid.heap.config ≡ sizes_in s.heap.config
sizes_of s d x mid fresh same = ap (λ (v : SeatView). sizes_in v.heap.config) same ∙ ap (λ (h : SharedHeap). sizes_in h.config) fresh.here.heap

-- a seat that was prepared
pub ready_at : (s : SeatsView) (p : Places) (d : ℕ) (x mid new : SeatView) → IsFresh s d x → IsSameUnlabelled x mid → x.room ≤ mid.room → Polls x mid → IsSeatOf s new → Stands new → new.number ≡ mid.number
    → 4294967295 - mid.labels ≤ (4294967295 - new.labels) + 4 → mid.room ≤ new.room + 3 → Prepares (sizes_in s.heap.config) p d mid.front new.front → IsReady s p d new
ready_at s p d x mid new fresh same room polled here stands number labels left prepares =
    let config : sizes_in x.heap.config ≡ sizes_in s.heap.config = ap (λ (h : SharedHeap). sizes_in h.config) fresh.here.heap in
    let none : mid.labels ≡ 0 = ap (λ (v : SeatView). v.labels) same ∙ fresh.labels in
    let all : x.room ≡ s.heap.config.ephes = fresh.room in
    record {
      here = here;
      stands = stands;
      number = number ∙ (ap (λ (v : SeatView). v.number) same ∙ fresh.number);
      labels = omega (arith, none, labels);
      room = omega (arith, all, room, left);
      prepared = record {
        begun = mid.front;
        polled = subst (λ (w : Sizes × ℕ × List Entry). PerformedBy w.0 w.1 w.2 mid.front Poll Done) (λ i. (config i, fresh.number i, fresh.front i)) polled;
        prepares = prepares;
      };
    }

-- the first domain's seat, once what all share is laid out and the seat rests
pub first_ready : (s : SeatsView) (p : Places) (x mid new rest : SeatView) → IsFresh s 0 x → IsSameUnlabelled x mid → x.room ≤ mid.room → Polls x mid → rest ≡ new → IsSeatOf s rest → Stands rest → new.number ≡ mid.number
    → 4294967295 - mid.labels ≤ (4294967295 - new.labels) + 4 → mid.room ≤ new.room + 3 → LaysOut (sizes_in mid.heap.config) mid.number mid.front new.front p → IsReady s p 0 rest
first_ready s p x mid new rest fresh same room polled is here stands number labels left laid =
    let sizes : sizes_in mid.heap.config ≡ sizes_in s.heap.config = sizes_of s 0 x mid fresh same in
    let own : mid.number ≡ 0 = ap (λ (v : SeatView). v.number) same ∙ fresh.number in
    let prepares : LaysOut (sizes_in s.heap.config) 0 mid.front new.front p = subst (λ (w : Sizes × ℕ). LaysOut w.0 w.1 mid.front new.front p) (λ i. (sizes i, own i)) laid in
    subst (IsReady s p 0) (sym is) (ready_at s p 0 x mid new fresh same room polled (subst (IsSeatOf s) is here) (subst Stands is stands) number labels left prepares)

-- another domain's, once it has found that
pub other_ready : (s : SeatsView) (p : Places) (x mid new rest : SeatView) → IsFresh s x.number x → 0 < x.number → IsSameUnlabelled x mid → x.room ≤ mid.room → Polls x mid → rest ≡ new → IsSeatOf s rest → Stands rest → new.number ≡ mid.number
    → 4294967295 - mid.labels ≤ 4294967295 - new.labels → mid.room ≤ new.room → Finds (sizes_in mid.heap.config) mid.number mid.front new.front p → IsReady s p x.number rest
other_ready s p x mid new rest fresh some same room polled is here stands number labels left found =
    let d : ℕ = x.number in
    let sizes : sizes_in mid.heap.config ≡ sizes_in s.heap.config = sizes_of s d x mid fresh same in
    let own : mid.number ≡ d = ap (λ (v : SeatView). v.number) same in
    let finds : Finds (sizes_in s.heap.config) d mid.front new.front p = subst (λ (w : Sizes × ℕ). Finds w.0 w.1 mid.front new.front p) (λ i. (sizes i, own i)) found in
    subst (IsReady s p d) (sym is)
    (ready_at s p d x mid new fresh same room polled (subst (IsSeatOf s) is here) (subst Stands is stands) number (omega (arith, labels)) (omega (arith, left)) (prepares_other (sizes_in s.heap.config) p d mid.front new.front some finds))

-- of seats of which none was used, the first and the others
pub first_fresh : (s : SeatsView) (xs : List SeatView) (x : SeatView) → 0 < length xs → x ≡ slice_index_or xs 0 x → AllFresh s 0 xs → IsFresh s 0 x
first_fresh s [] x some is all = absurd (omega (arith, some))
first_fresh s (y ∷ ys) x some is all = subst (IsFresh s 0) (sym is) all.0

pub others_fresh : (s : SeatsView) (xs : List SeatView) → 0 < length xs → AllFresh s 0 xs → AllFresh s 1 (remove xs 0)
others_fresh s [] some all = absurd (omega (arith, some))
others_fresh s (y ∷ ys) some all = all.1

-- where seats are prepared, and one more is, they all are
pub ready_and_one : (s : SeatsView) (p : Places) (d : ℕ) (xs : List SeatView) (x : SeatView) → AllReady s p d xs → IsReady s p (d + length xs) x → AllReady s p d (xs ++ x ∷ [])
ready_and_one s p d [] x all one = let same : d + 0 ≡ d = omega arith in (subst (λ (n : ℕ). IsReady s p n x) same one, tt)
ready_and_one s p d (y ∷ ys) x all one = let same : d + length (y ∷ ys) ≡ suc d + length ys = omega arith in (all.0, ready_and_one s p (suc d) ys x all.1 (subst (λ (n : ℕ). IsReady s p n x) same one))

-- a section whose seat is ready may run
may_one : (s : SeatsView) (p : Places) (d : ℕ) (x : SeatView) (ls : List TableLine) (t : Task) → s.heap.config.ephes ≤ 200000 → IsReady s p d x → IsTask x ls t → SectionFits s.heap.config ls → MayRun s t
may_one s p d x ls t most ready task fits =
    let many : length t.lines.items ≡ length ls = ap (λ (us : List TableLine). length us) task.lines_are in
    let labels : t.resting.labels ≡ x.labels = ap (λ (v : SeatView). v.labels) task.resting_is in
    let room : t.resting.room ≡ x.room = ap (λ (v : SeatView). v.room) task.resting_is in
    let few = ready.labels in
    let left = ready.room in
    let long = fits.room in
    let wide = task.capacity in
    record {
      here = subst (IsSeatOf s) (sym task.resting_is) ready.here;
      stands = subst Stands (sym task.resting_is) ready.stands;
      fits = subst (AllByRecursion _) (sym task.lines_are) fits.lines_fit;
      labels = omega (arith, many, labels, few, long, most);
      few = omega (arith, many, room, left, long);
      none = task.none;
      capacity = omega (arith, many, wide);
    }

pub may_each : (s : SeatsView) (p : Places) (d : ℕ) (xs : List SeatView) (lss : List (List TableLine)) (ts : List Task) → s.heap.config.ephes ≤ 200000 → AllReady s p d xs → AllTasks xs lss ts → AllByRecursion (SectionFits s.heap.config) lss → AllByRecursion (MayRun s) ts
may_each s p d [] [] [] most ready tasks fits = tt
may_each s p d [] [] (t ∷ ts) most ready tasks fits = absurd tasks
may_each s p d [] (ls ∷ lss) ts most ready tasks fits = absurd tasks
may_each s p d (x ∷ xs) [] ts most ready tasks fits = absurd tasks
may_each s p d (x ∷ xs) (ls ∷ lss) [] most ready tasks fits = absurd tasks
may_each s p d (x ∷ xs) (ls ∷ lss) (t ∷ ts) most ready tasks fits = (may_one s p d x ls t most ready.0 tasks.0 fits.0, may_each s p (suc d) xs lss ts most ready.1 tasks.1 fits.1)

-- the run of one domain, whose heap has ended
over_one : (s : SeatsView) (p : Places) (h : List Entry) (d : ℕ) (x : SeatView) (ls : List TableLine) (t : Task) (r : Ran) (a : List LineReply) (y : SeatView) → SectionFits s.heap.config ls → IsReady s p d x → IsTask x ls t → HasRunTask s t r → IsBack s r a y → Stops (sizes_in s.heap.config) h y → IsOver (sizes_in s.heap.config) p h d ls a
over_one s p h d x ls t r a y fits ready task ran back stops =
    let z : Sizes = sizes_in s.heap.config in
    let number : t.resting.number ≡ d = ap (λ (v : SeatView). v.number) task.resting_is ∙ ready.number in
    let front : t.resting.front ≡ x.front = ap (λ (v : SeatView). v.front) task.resting_is in
    let own : r.resting.number ≡ d = ran.number ∙ number in
    let last : commands h d ≡ commands r.resting.front d = subst (λ (m : ℕ). commands h m ≡ commands y.front m) (back.number ∙ own) stops.commands_are ∙ subst (λ (m : ℕ). commands y.front m ≡ commands r.resting.front m) own back.along.commands_are in
    record {
      fits = fits.lines_fit;
      new = r.resting.front;
      run = record {
        ready = x.front;
        prepared = ready.prepared;
        old = ran.old;
        polled = subst (λ (w : ℕ × List Entry). PerformedBy z w.0 w.1 ran.old Poll Done) (λ i. (number i, front i)) ran.polled;
        done = subst (λ (w : ℕ × List TableLine × List LineReply). SectionDone z w.0 ran.old w.1 w.2 r.resting.front) (λ i. (number i, task.lines_are i, back.replies_are i)) ran.done;
      };
      until = prefix_trans r.resting.front y.front h (record { rest = back.along.finalised.rest; appends = back.along.finalised.appends }) stops.front;
      last = last;
    }

pub over_each : (s : SeatsView) (p : Places) (h : List Entry) (d : ℕ) (xs : List SeatView) (lss : List (List TableLine)) (ts : List Task) (rs : List Ran) (more : List (List LineReply)) (ys : List SeatView) → AllByRecursion (SectionFits s.heap.config) lss → AllReady s p d xs → AllTasks xs lss ts → AllRan s ts rs → AllBack s rs more ys
    → StopsEach (sizes_in s.heap.config) h ys → AllOver (sizes_in s.heap.config) p h d lss more
over_each s p h d [] [] [] [] [] ys fits ready tasks ran back stops = tt
over_each s p h d [] [] [] [] (a ∷ more) ys fits ready tasks ran back stops = absurd back
over_each s p h d [] [] [] (r ∷ rs) more ys fits ready tasks ran back stops = absurd ran
over_each s p h d [] [] (t ∷ ts) rs more ys fits ready tasks ran back stops = absurd tasks
over_each s p h d [] (ls ∷ lss) ts rs more ys fits ready tasks ran back stops = absurd tasks
over_each s p h d (x ∷ xs) [] ts rs more ys fits ready tasks ran back stops = absurd tasks
over_each s p h d (x ∷ xs) (ls ∷ lss) [] rs more ys fits ready tasks ran back stops = absurd tasks
over_each s p h d (x ∷ xs) (ls ∷ lss) (t ∷ ts) [] more ys fits ready tasks ran back stops = absurd ran
over_each s p h d (x ∷ xs) (ls ∷ lss) (t ∷ ts) (r ∷ rs) [] ys fits ready tasks ran back stops = absurd back
over_each s p h d (x ∷ xs) (ls ∷ lss) (t ∷ ts) (r ∷ rs) (a ∷ more) [] fits ready tasks ran back stops = absurd back
over_each s p h d (x ∷ xs) (ls ∷ lss) (t ∷ ts) (r ∷ rs) (a ∷ more) (y ∷ ys) fits ready tasks ran back stops = (
  over_one s p h d x ls t r a y fits.0 ready.0 tasks.0 ran.0 back.0 stops.0,
  over_each s p h (suc d) xs lss ts rs more ys fits.1 ready.1 tasks.1 ran.1 back.1 stops.1,
)
