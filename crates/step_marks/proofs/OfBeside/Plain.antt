-- What the steps of marking beside running domains tell of a token's own data: it stays.
use Rattle.std.proofs.Common.{◌≡◌, ◌≢◌, ℕ, ◌∷◌, ⊎_elim}
use mathlib.Core.Logic.{dite}
use native.Mathlib.Decide.{ℕ_discrete}
use Rattle.heap_rule.specs.declared.config.Config.{Config}
use Rattle.heap_rule.specs.declared.view.DomainView.{DomainView}
use Rattle.heap_rule.specs.declared.view.Known.TheVariants.{Pool, Marked, Found, Shape as Shaped, Darkened, Scanned, Vain}
use Rattle.heap_rule.specs.Raw.{CanLeave, Closes, Leaves}
use Rattle.step_marks.proofs.OfMarking.Plain.{share_closes}
use Rattle.step_marks.specs.Beside.Marking.{DarkenTold, PlaceTold, PoolTold, ReadTold, Reason, ScannedTold, TargetTold, read_as, weak_on}

pub pool_closes : (k : Config) (x : DomainView) (found a pool : ℕ) → Closes k x found (PoolTold a pool) CanLeave Leaves
pool_closes k x found a pool = share_closes k x found (PoolTold a pool) (λ y t. ⊎_elim (λ u. (record x.seen.share { known = Pool pool u.1 ∷ x.seen.share.known }, u.5)) (λ u. (record x.seen.share { known = Vain a ∷ x.seen.share.known }, u.1)) t.told)

pub place_closes : (k : Config) (x : DomainView) (found a : ℕ) → Closes k x found (PlaceTold a) CanLeave Leaves
place_closes k x found a = share_closes k x found (PlaceTold a) (λ y t. ⊎_elim (λ u. (record x.seen.share { known = Vain a ∷ x.seen.share.known }, u.1)) (λ u. (record x.seen.share { known = Shaped a found ∷ x.seen.share.known }, u.1)) t.told)

pub read_closes : (k : Config) (x : DomainView) (found block field : ℕ) → Closes k x found (ReadTold k block field) CanLeave Leaves
read_closes k x found block field = share_closes k x found (ReadTold k block field) (λ y t. (record x.seen.share { known = read_as k block field t.value ∷ x.seen.share.known }, t.view))

pub target_closes : (k : Config) (x : DomainView) (found a : ℕ) (reason : Reason) → Closes k x found (TargetTold a reason) CanLeave Leaves
target_closes k x found a reason = share_closes k x found (TargetTold a reason) (λ y t. ⊎_elim (λ u. (record x.seen.share { known = Found a found ∷ x.seen.share.known }, u.1))
    (λ u. (record x.seen.share { known = Marked a ∷ x.seen.share.known; weak = weak_on reason x.seen.share.weak }, u.1)) t.told)

pub darken_closes : (k : Config) (x : DomainView) (found a old : ℕ) (reason : Reason) → Closes k x found (DarkenTold old a reason) CanLeave Leaves
darken_closes k x found a old reason = share_closes k x found (DarkenTold old a reason) (λ y t. dite (ℕ_discrete found old)
    (λ (e : found ≡ old). (record x.seen.share { known = Darkened a ∷ Marked a ∷ x.seen.share.known; weak = weak_on reason x.seen.share.weak }, t.won e))
    (λ (e : found ≢ old). (record x.seen.share { known = Marked a ∷ x.seen.share.known; weak = weak_on reason x.seen.share.weak }, t.lost e)))

pub scanned_closes : (k : Config) (x : DomainView) (new a : ℕ) → Closes k x new (ScannedTold a) CanLeave Leaves
scanned_closes k x new a = share_closes k x new (ScannedTold a) (λ y t. (record x.seen.share { known = Scanned a ∷ x.seen.share.known }, t))
