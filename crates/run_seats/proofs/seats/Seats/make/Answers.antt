use Rattle.std.proofs.Common.{◌≡◌, ◌∙◌, ◌-◌, ◌≤◌, Bool, true, not, List, ◌∷◌, Some, ap, length, map, sym, subst, arith}
use Rattle.std.proofs.lemmas.Result.{err_from_is_err_and}
use Rattle.std.specs.List.{AllByRecursion}
use Rattle.std.specs.Prelude.{cond, insert, is_ok}
use Rattle.heap_rule.specs.Token.{SharedHeap}
use Rattle.run_turns.specs.Runs.{RunView}
use Rattle.run_seats.specs.Shared.Idling.{IsIdleIn}
use Rattle.run_turns.specs.Singly.Opening.{opened}
use Rattle.run_seats.specs.Seating.{SeatsView, seat_of, seat_with}
use Rattle.run_seats.proofs.Opening.{all_seats, idle_each, opened_length, parted}
use Rattle.run_seats.proofs.Seated.{resting_as}
use Rattle.run_seats.specs.declared.idle.Idle.{Idle}
use Rattle.run_seats.specs.Pool.Keeping.{KeeperView}
use Rattle.heap_rule.specs.declared.config.Config.{Config}
use Rattle.heap_rule.specs.Opening.{opening_tokens}
use Rattle.run_seats.proofs.seats.Seats.make.Goals as goal

pub returns-in_err-heap-clause-outside : goal.returns-in_err-heap-clause-outside
returns-in_err-heap-clause-outside g c k =
    let o = c.in_err-heap.ensures.outside k in
    let r = err_from_is_err_and c.from_residual.result c.from_residual.ensures.1 in
    let same = r.2 in
    let is = r.1 in
    (λ e. o.0 (let q = sym is ∙ e in cc), λ f. let q = o.1 f in is ∙ cc)

pub returns-in_err-room-clause-outside : goal.returns-in_err-room-clause-outside
returns-in_err-room-clause-outside g c k =
    let o = c.in_ok-heap.ensures.outside k in
    let r = err_from_is_err_and c.from_residual-in_err-room.result c.from_residual-in_err-room.ensures.1 in
    let same = r.2 in
    (λ e. let q = sym r.1 ∙ e in cc, λ f. let q = o.1 f in cc)

pub returns-in_err-pool-clause-outside : goal.returns-in_err-pool-clause-outside
returns-in_err-pool-clause-outside g c k =
    let o = c.in_ok-heap.ensures.outside k in
    let r = err_from_is_err_and c.from_residual-in_err-pool.result c.from_residual-in_err-pool.ensures.1 in
    let same = r.2 in
    (λ e. let q = sym r.1 ∙ e in cc, λ f. let q = o.1 f in cc)

pub returns-clause-outside : goal.returns-clause-outside
returns-clause-outside g c k =
    let o = c.in_ok-heap.ensures.outside k in
    (λ e. cc, λ f. let q = o.1 f in cc)

pub remove-requires : goal.remove-requires
remove-requires g c =
    let h : SharedHeap = c.in_ok-heap.heap in
    let k : Config = c.args.config in
    let same : h.config ≡ k = c.in_ok-heap.ensures.heap in
    let limits = c.config-limits.ensures.limits in
    let some : 1 ≤ k.domains = subst (λ (x : Config). 1 ≤ x.domains) same limits.some_domain in
    let few : k.domains ≤ 8 = subst (λ (x : Config). x.domains ≤ 8) same limits.domains in
    let runs : c.in_ok-heap.runs.items ≡ map opened (opening_tokens h.table k 0 k.domains) = c.in_ok-heap.ensures.runs ∙ ap (λ (x : Config). map opened (opening_tokens h.table x 0 x.domains)) same in
    let many = ap (λ (rs : List RunView). length rs) runs ∙ opened_length h k 0 k.domains in
    let len = c.in_ok-heap.runs.ok.0 in
    omega (arith, many, len, some)

pub rest_all-resting-requires-clause-keeps : goal.rest_all-resting-requires-clause-keeps
rest_all-resting-requires-clause-keeps g c =
    let h : SharedHeap = c.in_ok-heap.heap in
    let k : Config = c.args.config in
    let same : h.config ≡ k = c.in_ok-heap.ensures.heap in
    let limits = c.config-limits.ensures.limits in
    let some : 1 ≤ k.domains = subst (λ (x : Config). 1 ≤ x.domains) same limits.some_domain in
    let few : k.domains ≤ 8 = subst (λ (x : Config). x.domains ≤ 8) same limits.domains in
    let runs : c.in_ok-heap.runs.items ≡ map opened (opening_tokens h.table k 0 k.domains) = c.in_ok-heap.ensures.runs ∙ ap (λ (x : Config). map opened (opening_tokens h.table x 0 x.domains)) same in
    let p = parted h k k.domains c.in_ok-heap.runs.items c.remove.new.self.items c.remove.result some runs c.remove.ensures.value c.remove.ensures.items in
    let idle : IsIdleIn h c.remove.result = subst (IsIdleIn h) (sym p.0) (idle_each h k 0 1 same).0 in
    let rests : c.in_ok-pool.maker.rests ≡ Some (record { run = c.remove.result }) = ap (λ (v : KeeperView Idle). v.rests) c.in_ok-pool.ensures in
    (record { run = c.remove.result }, rests, idle)

pub rest_all-resting-requires-clause-idle : goal.rest_all-resting-requires-clause-idle
rest_all-resting-requires-clause-idle g c =
    let h : SharedHeap = c.in_ok-heap.heap in
    let k : Config = c.args.config in
    let same : h.config ≡ k = c.in_ok-heap.ensures.heap in
    let limits = c.config-limits.ensures.limits in
    let some : 1 ≤ k.domains = subst (λ (x : Config). 1 ≤ x.domains) same limits.some_domain in
    let few : k.domains ≤ 8 = subst (λ (x : Config). x.domains ≤ 8) same limits.domains in
    let runs : c.in_ok-heap.runs.items ≡ map opened (opening_tokens h.table k 0 k.domains) = c.in_ok-heap.ensures.runs ∙ ap (λ (x : Config). map opened (opening_tokens h.table x 0 x.domains)) same in
    let p = parted h k k.domains c.in_ok-heap.runs.items c.remove.new.self.items c.remove.result some runs c.remove.ensures.value c.remove.ensures.items in
    subst (λ (rs : List RunView). AllByRecursion (IsIdleIn h) rs) (sym p.1) (idle_each h k 1 (k.domains - 1) same)

pub rest_all-resting-requires-clause-few : goal.rest_all-resting-requires-clause-few
rest_all-resting-requires-clause-few g c =
    let h : SharedHeap = c.in_ok-heap.heap in
    let k : Config = c.args.config in
    let same : h.config ≡ k = c.in_ok-heap.ensures.heap in
    let limits = c.config-limits.ensures.limits in
    let some : 1 ≤ k.domains = subst (λ (x : Config). 1 ≤ x.domains) same limits.some_domain in
    let few : k.domains ≤ 8 = subst (λ (x : Config). x.domains ≤ 8) same limits.domains in
    let runs : c.in_ok-heap.runs.items ≡ map opened (opening_tokens h.table k 0 k.domains) = c.in_ok-heap.ensures.runs ∙ ap (λ (x : Config). map opened (opening_tokens h.table x 0 x.domains)) same in
    let p = parted h k k.domains c.in_ok-heap.runs.items c.remove.new.self.items c.remove.result some runs c.remove.ensures.value c.remove.ensures.items in
    let many = ap (λ (rs : List RunView). length rs) p.1 ∙ opened_length h k 1 (k.domains - 1) in
    omega (arith, many, few)

pub invariant_of-insert : goal.invariant_of-insert
invariant_of-insert g c =
    let h : SharedHeap = c.in_ok-heap.heap in
    let k : Config = c.args.config in
    let same : h.config ≡ k = c.in_ok-heap.ensures.heap in
    let limits = c.config-limits.ensures.limits in
    let some : 1 ≤ k.domains = subst (λ (x : Config). 1 ≤ x.domains) same limits.some_domain in
    let few : k.domains ≤ 8 = subst (λ (x : Config). x.domains ≤ 8) same limits.domains in
    let runs : c.in_ok-heap.runs.items ≡ map opened (opening_tokens h.table k 0 k.domains) = c.in_ok-heap.ensures.runs ∙ ap (λ (x : Config). map opened (opening_tokens h.table x 0 x.domains)) same in
    let p = parted h k k.domains c.in_ok-heap.runs.items c.remove.new.self.items c.remove.result some runs c.remove.ensures.value c.remove.ensures.items in
    let idle : IsIdleIn h c.remove.result = subst (IsIdleIn h) (sym p.0) (idle_each h k 0 1 same).0 in
    let rests : c.in_ok-pool.maker.rests ≡ Some (record { run = c.remove.result }) = ap (λ (v : KeeperView Idle). v.rests) c.in_ok-pool.ensures in
    let same_rests = ap (λ (v : KeeperView Idle). v.rests) c.rest_all-resting.ensures.maker in
    resting_as h c.remove.result c.rest_all-resting.new.maker idle (same_rests ∙ rests)

pub returns-clause-seats : goal.returns-clause-seats
returns-clause-seats g c =
    let h : SharedHeap = c.in_ok-heap.heap in
    let k : Config = c.args.config in
    let same : h.config ≡ k = c.in_ok-heap.ensures.heap in
    let limits = c.config-limits.ensures.limits in
    let some : 1 ≤ k.domains = subst (λ (x : Config). 1 ≤ x.domains) same limits.some_domain in
    let few : k.domains ≤ 8 = subst (λ (x : Config). x.domains ≤ 8) same limits.domains in
    let runs : c.in_ok-heap.runs.items ≡ map opened (opening_tokens h.table k 0 k.domains) = c.in_ok-heap.ensures.runs ∙ ap (λ (x : Config). map opened (opening_tokens h.table x 0 x.domains)) same in
    let p = parted h k k.domains c.in_ok-heap.runs.items c.remove.new.self.items c.remove.result some runs c.remove.ensures.value c.remove.ensures.items in
    let rests : c.in_ok-pool.maker.rests ≡ Some (record { run = c.remove.result }) = ap (λ (v : KeeperView Idle). v.rests) c.in_ok-pool.ensures in
    let s : SeatsView = record { heap = h; pool = c.in_ok-pool.pool } in
    let maker : c.rest_all-resting.new.maker.rests ≡ Some (record { run = c.remove.result }) = ap (λ (v : KeeperView Idle). v.rests) c.rest_all-resting.ensures.maker ∙ rests in
    let pool : c.rest_all-resting.new.maker.pool ≡ c.in_ok-pool.pool = ap (λ (v : KeeperView Idle). v.pool) c.rest_all-resting.ensures.maker ∙ ap (λ (v : KeeperView Idle). v.pool) c.in_ok-pool.ensures in
    let ok : is_ok c.insert.result ≡ true = c.is_err.ensures.negation ∙ ap not c.if-is_err.false in
    let first : seat_of c.rest_all-resting.new.maker.pool c.rest_all-resting.new.maker.rests ≡ seat_with s.pool c.remove.result = (λ i. seat_of (pool i) (maker i)) in
    let inserted : c.insert.new.self.items ≡ seat_of c.rest_all-resting.new.maker.pool c.rest_all-resting.new.maker.rests ∷ c.rest_all-resting.result.items =
    c.insert.ensures.items ∙ ap (λ (b : Bool). cond b (insert c.rest_all-resting.result.items 0 (seat_of c.rest_all-resting.new.maker.pool c.rest_all-resting.new.maker.rests)) c.rest_all-resting.result.items) ok in
    inserted ∙ ((λ i. first i ∷ c.rest_all-resting.ensures.resting i) ∙ all_seats s k k.domains c.remove.result c.remove.new.self.items some same p.0 p.1)
