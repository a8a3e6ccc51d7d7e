-- What the steps ask and tell by which a domain looks at its registrations in a collection, each from the last on: those of `finalise` in Decide, those of `finalise_last` in Lasts (the OCaml manual's module `Gc`).
use Rattle.std.specs.Prelude.{◌≡◌, ℕ, ◌+◌, ◌-◌, ◌≤◌, ◌⊎◌, List, [], ◌∷◌, ◌++◌, length, remove, slice_get, Some}
use Rattle.model_core.specs.declared.entry.Entry.{Entry}
use Rattle.model_core.specs.declared.entry.Entry.TheVariants.{Queue, Last}
use Rattle.model_core.specs.Fronts.{IsFrontOf}
use Rattle.model_core.specs.History.{Legal}
use Rattle.model_core.specs.Controls.Led.{IsLed}
use Rattle.heap_words.specs.declared.colours.Colours.{Colours}
use Rattle.heap_rule.specs.declared.config.Config.{Config}
use Rattle.heap_rule.specs.declared.phase.Kind.TheVariants.{Decide, Lasts}
use Rattle.heap_rule.specs.declared.phase.Stage.TheVariants.{In}
use Rattle.heap_rule.specs.declared.view.DomainView.{DomainView}
use Rattle.heap_rule.specs.declared.view.Own.{Own}
use Rattle.heap_rule.specs.declared.view.Registered.{Registered}
use Rattle.heap_rule.specs.declared.view.RegisteredLast.{RegisteredLast}
use Rattle.heap_rule.specs.declared.view.Waiting.TheVariants.{Fin, Last as LastWaiting}
use Rattle.heap_rule.specs.Limits.{sizes_in}
use Rattle.heap_rule.specs.Standing.{with_front, with_own}
use Rattle.step_marks.specs.Marking.Looks.{with_share}
use Rattle.step_sweep.specs.Freeing.{IsColoured}
use Rattle.step_finalisers.specs.Registering.{with_finalisers}

-- in Decide, a load of the head of the block of the last registration of `finalise` at which the domain hasn't looked
pub record FinalLookMay (x : DomainView) (at i marked : ℕ) (r : Registered) : Type 0 where
  pub stage : x.seen.stage ≡ In Decide
  pub registered : slice_get x.own.finalisers.finals.items i ≡ Some r
  pub next : i + 1 + x.seen.share.kept ≡ length x.own.finalisers.finals.items
  pub address : at ≡ r.address
  pub colours : Colours
  pub known : x.seen.share.colours ≡ Some colours
  pub means : marked ≡ colours.marked

-- in Lasts, one of the block of the last registration of `finalise_last`, likewise
pub record LastLookMay (x : DomainView) (at i marked : ℕ) (r : RegisteredLast) : Type 0 where
  pub stage : x.seen.stage ≡ In Lasts
  pub registered : slice_get x.own.finalisers.lasts.items i ≡ Some r
  pub next : i + 1 + x.seen.share.kept ≡ length x.own.finalisers.lasts.items
  pub address : at ≡ r.address
  pub colours : Colours
  pub known : x.seen.share.colours ≡ Some colours
  pub means : marked ≡ colours.marked

-- the registration at a place leaves its list for the end of the queue
abbrev pub queued_final : ℕ → Registered → Own → Own
queued_final i r own = with_finalisers (record own.finalisers {
  finals = record { items = remove own.finalisers.finals.items i; room = own.finalisers.finals.room + 1 };
  queue = record { items = own.finalisers.queue.items ++ Fin r.address r.number r.register ∷ []; room = own.finalisers.queue.room - 1 };
}) own

abbrev pub queued_last : ℕ → RegisteredLast → Own → Own
queued_last i r own = with_finalisers (record own.finalisers {
  lasts = record { items = remove own.finalisers.lasts.items i; room = own.finalisers.lasts.room + 1 };
  queue = record { items = own.finalisers.queue.items ++ LastWaiting r.number ∷ []; room = own.finalisers.queue.room - 1 };
}) own

-- the domain has looked at one registration more, and keeps it
abbrev pub keeping : DomainView → DomainView
keeping x = with_share x (record x.seen.share { kept = x.seen.share.kept + 1 })

-- an entry of the collector stands at the step: the front ends with it, and the token's own data is this
pub record Queues (k : Config) (e : Entry) (own : Own) (x y : DomainView) : Type 0 where
  pub before : List Entry
  pub front : y.seen.front ≡ before ++ e ∷ []
  pub seen : IsFrontOf x.own.number before x.seen.front
  pub led : IsLed x.own.number before x.seen.front
  pub legal : Legal (sizes_in k) y.seen.front
  pub view : y ≡ with_front (with_own x own) y.seen.front

-- the block is marked, and the registration is kept; or it isn't, and the registration is queued
pub record FinalLookTold (k : Config) (i marked : ℕ) (r : Registered) (x : DomainView) (found : ℕ) (y : DomainView) : Type 0 where
  pub told : (IsColoured marked found × (y ≡ keeping x)) ⊎ ((IsColoured marked found → ⊥) × Queues k (Queue x.own.number (i ∷ [])) (queued_final i r x.own) x y)

pub record LastLookTold (k : Config) (i marked : ℕ) (r : RegisteredLast) (x : DomainView) (found : ℕ) (y : DomainView) : Type 0 where
  pub told : (IsColoured marked found × (y ≡ keeping x)) ⊎ ((IsColoured marked found → ⊥) × Queues k (Last x.own.number i) (queued_last i r x.own) x y)

-- the registration is there, and the queue has room
abbrev pub CanQueueFinal : ℕ → Registered → Own → Type 0
CanQueueFinal i r own = (slice_get own.finalisers.finals.items i ≡ Some r) × (1 ≤ own.finalisers.queue.room)

abbrev pub CanQueueLast : ℕ → RegisteredLast → Own → Type 0
CanQueueLast i r own = (slice_get own.finalisers.lasts.items i ≡ Some r) × (1 ≤ own.finalisers.queue.room)

-- it is queued where the head hasn't the colour of marked blocks
abbrev pub QueuesFinal : ℕ → Registered → ℕ → ℕ → Own → Own → Type 0
QueuesFinal i r marked found own after = (IsColoured marked found × (after ≡ own)) ⊎ ((IsColoured marked found → ⊥) × (after ≡ queued_final i r own))

abbrev pub QueuesLast : ℕ → RegisteredLast → ℕ → ℕ → Own → Own → Type 0
QueuesLast i r marked found own after = (IsColoured marked found × (after ≡ own)) ⊎ ((IsColoured marked found → ⊥) × (after ≡ queued_last i r own))
