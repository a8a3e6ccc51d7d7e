-- A seat and its run.
use Rattle.std.proofs.Common.{◌≡◌, ◌∙◌, ◌+◌, ◌≤◌, List, [], ◌∷◌, ◌++◌, drop, length, length-append, Some, refl, sym, ap, subst, arith}
use Rattle.std.specs.Prelude.{Option}
use Rattle.atomic_table.specs.Seated.{TableId}
use Rattle.model_core.specs.declared.command.Command as model
use Rattle.model_core.specs.declared.reply.Reply.{Reply}
use Rattle.model_core.specs.History.{commands, replies}
use Rattle.heap_rule.specs.Limits.{sizes_in}
use Rattle.heap_rule.specs.declared.config.Config.{Config}
use Rattle.heap_rule.specs.Token.{SharedHeap, IsIn}
use Rattle.run_turns.specs.Handed.{PerformedOn}
use Rattle.run_turns.specs.Runs.{AddsRan, RunView}
use Rattle.run_turns.specs.Tries.{registrations_of}
use Rattle.run_turns.proofs.Adding.{performed_adds}
use Rattle.run_turns.proofs.Handed.{finalised_commands, finalised_replies, performed_commands, performed_replies}
use Rattle.run_seats.specs.Pool.Keeping.{KeeperView}
use Rattle.run_seats.specs.declared.idle.Idle.{Idle}
use Rattle.run_turns.specs.Singly.Counting.{stats_of}
use Rattle.run_turns.specs.Singly.Driving.{Answered}
use Rattle.run_seats.specs.Shared.Idling.{IsIdleIn, StaysIdle, finals_of}
use Rattle.run_seats.specs.Idling.{KeepsHeap}
use Rattle.run_seats.specs.Seating.{GoesAlong, IsResting, IsSeat, IsSeatOf, SeatView, SeatsView, heap_of, seat_of, seat_with}

pub behind : {X : Type 0} → (xs ys : List X) → drop (length xs) (xs ++ ys) ≡ ys
behind [] ys = cc
behind (x ∷ xs) ys = behind xs ys

-- a seat of these seats: its run is in their heap, and its keeper is one of their pool
pub record Sits (heap : SharedHeap) (pool : TableId) (r : RunView) (k : KeeperView Idle) : Type 0 where
  pub here : IsIn r.token heap
  pub same : heap_of r ≡ heap
  pub in_pool : k.pool ≡ pool
  pub keeps : KeepsHeap heap k.rests
  pub idle : IsIdleIn heap r

pub sits : (heap : SharedHeap) (pool : TableId) (r : RunView) (k : KeeperView Idle) (x : SeatView) (s : SeatsView) → IsSeat r k → seat_with k.pool r ≡ x → ◌≡◌ {A = SeatsView} (record { heap = heap; pool = pool }) s → IsSeatOf s x → Sits heap pool r k
sits heap pool r k x s seat is seats of =
    let same : heap_of r ≡ heap = ap (λ (v : SeatView). v.heap) is ∙ (of.heap ∙ sym (ap (λ (v : SeatsView). v.heap) seats)) in
    let here : IsIn r.token heap = (ap (λ (h : SharedHeap). h.table) same, ap (λ (h : SharedHeap). h.config) same) in record {
      here = here;
      same = same;
      in_pool = ap (λ (v : SeatView). v.pool) is ∙ (of.pool ∙ sym (ap (λ (v : SeatsView). v.pool) seats));
      keeps = subst (λ (h : SharedHeap). KeepsHeap h k.rests) same seat.keeps;
      idle = record { here = here; more = seat.more; done = seat.done };
    }

-- what is the same of a run further on
pub seat_after : (h : SharedHeap) (pool : TableId) (r n : RunView) → IsIn r.token h → IsIn n.token h → n.token.view.own.number ≡ r.token.view.own.number
    → seat_with pool n ≡ record (seat_with pool r) { front = n.token.view.seen.front; labels = n.token.view.own.serial; room = n.token.view.own.ephemerons.room; finals = finals_of n; stats = stats_of n.token.view.own; ran = n.ran }
seat_after h pool r n was is number =
    let table = is.0 ∙ sym was.0 in
    let config = is.1 ∙ sym was.1 in
    (λ i. record { heap = record { table = table i; config = config i }; pool = pool; number = number i; front = n.token.view.seen.front; labels = n.token.view.own.serial; room = n.token.view.own.ephemerons.room; finals = finals_of n; stats = stats_of n.token.view.own; ran = n.ran })

-- and where it made no entry
pub idle_after : (h : SharedHeap) (pool : TableId) (r n : RunView) → IsIn r.token h → IsIn n.token h → StaysIdle r n
    → seat_with pool n ≡ record (seat_with pool r) { front = n.token.view.seen.front; room = n.token.view.own.ephemerons.room; finals = finals_of n; stats = stats_of n.token.view.own; ran = n.ran }
idle_after h pool r n was is stays =
    let table = is.0 ∙ sym was.0 in
    let config = is.1 ∙ sym was.1 in
    let number = stays.number in
    let labels : n.token.view.own.serial ≡ r.token.view.own.serial = let more = stays.takes.labels_are in omega (arith, more) in
    (λ i. record { heap = record { table = table i; config = config i }; pool = pool; number = number i; front = n.token.view.seen.front; labels = labels i; room = n.token.view.own.ephemerons.room; finals = finals_of n; stats = stats_of n.token.view.own; ran = n.ran })

-- it keeps runs of its heap, and waits
pub seat_again : (h : SharedHeap) (n : RunView) (k : KeeperView Idle) → IsIdleIn h n → KeepsHeap h k.rests → IsSeat n k
seat_again h n k idle keeps =
    let same : h ≡ heap_of n = (λ i. record { table = sym idle.here.0 i; config = sym idle.here.1 i }) in
    record { more = idle.more; done = idle.done; keeps = subst (λ (x : SharedHeap). KeepsHeap x k.rests) same keeps }

pub answered_idle : (h : SharedHeap) (r n : RunView) (c : model.Command) (reply : Reply) → Answered h r.token.view c reply n → IsIdleIn h n
answered_idle h r n c reply a = record { here = a.here; more = a.more; done = a.done }

-- a command that was made
module _ (h : SharedHeap) (r n : RunView) (c : model.Command) (reply : Reply) (was : IsIn r.token h) (a : Answered h r.token.view c reply n) (adds : AddsRan (sizes_in h.config) r n) where
  waits : n.ran ≡ r.ran ++ a.ran
  waits = performed_adds (sizes_in h.config) r n c a.ran reply a.performed adds

  since : drop (length r.ran) n.ran ≡ a.ran
  since = ap (drop (length r.ran)) waits ∙ behind r.ran a.ran

  pub waits_behind : n.ran ≡ r.ran ++ drop (length r.ran) n.ran
  waits_behind = waits ∙ ap (λ (rs : List Reply). r.ran ++ rs) (sym since)

  pub performs : PerformedOn (sizes_in r.token.config) r.token.view.own.number r.token.view.seen.front n.token.view.seen.front c (drop (length r.ran) n.ran) reply
  performs = subst (λ (w : Config × List Reply). PerformedOn (sizes_in w.0) r.token.view.own.number r.token.view.seen.front n.token.view.seen.front c w.1 reply) (λ i. (sym was.1 i, sym since i)) a.performed

  pub made : commands n.token.view.seen.front r.token.view.own.number ≡ commands r.token.view.seen.front r.token.view.own.number ++ c ∷ []
  made = performed_commands (sizes_in r.token.config) r.token.view.own.number r.token.view.seen.front n.token.view.seen.front c (drop (length r.ran) n.ran) reply performs

  pub given : replies (sizes_in r.token.config) n.token.view.seen.front r.token.view.own.number ≡ replies (sizes_in r.token.config) r.token.view.seen.front r.token.view.own.number ++ (drop (length r.ran) n.ran ++ reply ∷ [])
  given = performed_replies (sizes_in r.token.config) r.token.view.own.number r.token.view.seen.front n.token.view.seen.front c (drop (length r.ran) n.ran) reply performs

  pub finals_left : finals_of r ≤ finals_of n + registrations_of c
  finals_left =
      let same : n.token.config.finals ≡ r.token.config.finals = ap (λ (k : Config). k.finals) (a.here.1 ∙ sym was.1) in
      let listed = a.listed in
      let grown = ap (λ (rs : List Reply). length rs) waits ∙ length-append r.ran a.ran in
      omega (arith, same, listed, grown)

-- a run that made no command
pub along : (pool other : TableId) (r n : RunView) → StaysIdle r n → GoesAlong (seat_with pool r) (seat_with other n)
along pool other r n s = record {
  more = s.more;
  ran = s.ran;
  finalised = s.finalised;
  finals = s.finals;
  commands_are = finalised_commands (sizes_in r.token.config) r.token.view.own.number r.token.view.seen.front n.token.view.seen.front s.more s.finalised;
  replies_are = finalised_replies (sizes_in r.token.config) r.token.view.own.number r.token.view.seen.front n.token.view.seen.front s.more s.finalised;
}

-- a keeper whose run was put to rest
pub resting_of : (heap : SharedHeap) (pool : TableId) (r : RunView) (k n : KeeperView Idle) → Sits heap pool r k → n ≡ record k { rests = Some (record { run = r }) } → IsResting n
resting_of heap pool r k n s is = subst IsResting (sym is) (record { keeps = (record { run = r }, refl, record { here = (refl, refl); more = s.idle.more; done = s.idle.done }) })

-- a seat that rests, of these seats: the run that was put to rest
pub record Dozes (heap : SharedHeap) (pool : TableId) (k : KeeperView Idle) (x : SeatView) : Type 0 where
  pub last : Idle
  pub rests : k.rests ≡ Some last
  pub idle : IsIdleIn heap last.run
  pub in_pool : k.pool ≡ pool
  pub seat : seat_with k.pool last.run ≡ x

pub dozes : (heap : SharedHeap) (pool : TableId) (k : KeeperView Idle) (x : SeatView) (s : SeatsView) → IsResting k → seat_of k.pool k.rests ≡ x → ◌≡◌ {A = SeatsView} (record { heap = heap; pool = pool }) s → IsSeatOf s x → Dozes heap pool k x
dozes heap pool k x s resting is seats of =
    let y : Idle = resting.keeps.0 in
    let e : k.rests ≡ Some y = resting.keeps.1 in
    let seat : seat_with k.pool y.run ≡ x = ap (seat_of k.pool) (sym e) ∙ is in
    let same : heap_of y.run ≡ heap = ap (λ (v : SeatView). v.heap) seat ∙ (of.heap ∙ sym (ap (λ (v : SeatsView). v.heap) seats)) in
    record {
      last = y;
      rests = e;
      idle = record { here = (ap (λ (h : SharedHeap). h.table) same, ap (λ (h : SharedHeap). h.config) same); more = resting.keeps.2.more; done = resting.keeps.2.done };
      in_pool = ap (λ (v : SeatView). v.pool) seat ∙ (of.pool ∙ sym (ap (λ (v : SeatsView). v.pool) seats));
      seat = seat;
    }

pub resting_idle : (h : SharedHeap) (r : RunView) (k n : KeeperView Idle) → IsIdleIn h r → n ≡ record k { rests = Some (record { run = r }) } → IsResting n
resting_idle h r k n idle is = subst IsResting (sym is) (record { keeps = (record { run = r }, refl, record { here = (refl, refl); more = idle.more; done = idle.done }) })

pub resting_as : (h : SharedHeap) (r : RunView) (k : KeeperView Idle) → IsIdleIn h r → k.rests ≡ Some (record { run = r }) → IsResting k
resting_as h r k idle e = record { keeps = subst (λ (o : Option Idle). KeepsHeap (seat_of k.pool o).heap o) (sym e) (record { run = r }, refl, record { here = (refl, refl); more = idle.more; done = idle.done }) }
