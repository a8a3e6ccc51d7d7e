-- What a domain has decided of its registrations in a collection.
use Rattle.std.specs.Prelude.{◌≡◌, ◌⊎◌, List, [], ◌∷◌, ◌++◌, length}
use Rattle.model_core.specs.Fronts.{IsFrontOf}
use Rattle.model_core.specs.History.{Legal}
use Rattle.model_core.specs.Controls.Led.{IsLed}
use Rattle.heap_rule.specs.declared.config.Config.{Config}
use Rattle.heap_rule.specs.declared.view.DomainView.{DomainView}
use Rattle.heap_rule.specs.declared.view.Finalisers.{Finalisers}
use Rattle.heap_rule.specs.declared.view.Registered.{Registered}
use Rattle.heap_rule.specs.declared.view.RegisteredLast.{RegisteredLast}
use Rattle.heap_rule.specs.declared.view.Waiting.{Waiting}
use Rattle.heap_rule.specs.declared.view.Waiting.TheVariants.{Fin, Last}
use Rattle.heap_rule.specs.Limits.{sizes_in}
use Rattle.heap_rule.specs.Standing.{with_front, with_own}
use Rattle.step_marks.specs.Marking.Looks.{with_share}
use Rattle.step_finalisers.specs.Registering.{with_finalisers}

-- Each item of the first list stays, or else is queued, and no item does both. Those that stay stand in the order in which they stood, and of those that are queued the last one comes first
abbrev pub Splits : {A B : Type 0} → (A → B) → List A → List A → List B → Type 0
Splits f [] stays queued = (stays ≡ []) × (queued ≡ [])
Splits {A} {B} f (r ∷ rs) stays queued = ((rest : List A) × (stays ≡ r ∷ rest) × Splits f rs rest queued) ⊎ ((before : List B) × (queued ≡ before ++ f r ∷ []) × Splits f rs stays before)

-- a registration as it stands in the queue
abbrev pub as_waiting : Registered → Waiting
as_waiting r = Fin r.address r.number r.register

abbrev pub as_waiting_last : RegisteredLast → Waiting
as_waiting_last r = Last r.number

-- the domain with other lists of finalisers, and with the front, the colours and the count of what it has looked at as another has them
abbrev pub deciding : DomainView → Finalisers → DomainView → DomainView
deciding x lists y = with_front (with_share (with_own x (with_finalisers lists x.own)) (record x.seen.share { colours = y.seen.share.colours; kept = y.seen.share.kept })) y.seen.front

-- Of the registrations of `finalise` some stay and the others are queued, behind all that waited before. The domain has looked at each. Its front has grown by the entries of others and of the collector, and is legal if it was
pub record AllDecided (k : Config) (x y : DomainView) : Type 0 where
  pub seen : IsFrontOf x.own.number y.seen.front x.seen.front
  pub led : IsLed x.own.number y.seen.front x.seen.front
  pub legal : Legal (sizes_in k) x.seen.front → Legal (sizes_in k) y.seen.front
  pub done : y.seen.share.kept ≡ length y.own.finalisers.finals.items
  pub view : y ≡ deciding x (record x.own.finalisers { finals = y.own.finalisers.finals; queue = y.own.finalisers.queue }) y
  pub queued : List Waiting
  pub queue : y.own.finalisers.queue.items ≡ x.own.finalisers.queue.items ++ queued
  pub splits : Splits as_waiting x.own.finalisers.finals.items y.own.finalisers.finals.items queued

-- and so of those of `finalise_last`
pub record AllLastsDecided (k : Config) (x y : DomainView) : Type 0 where
  pub seen : IsFrontOf x.own.number y.seen.front x.seen.front
  pub led : IsLed x.own.number y.seen.front x.seen.front
  pub legal : Legal (sizes_in k) x.seen.front → Legal (sizes_in k) y.seen.front
  pub done : y.seen.share.kept ≡ length y.own.finalisers.lasts.items
  pub view : y ≡ deciding x (record x.own.finalisers { lasts = y.own.finalisers.lasts; queue = y.own.finalisers.queue }) y
  pub queued : List Waiting
  pub queue : y.own.finalisers.queue.items ≡ x.own.finalisers.queue.items ++ queued
  pub splits : Splits as_waiting_last x.own.finalisers.lasts.items y.own.finalisers.lasts.items queued
