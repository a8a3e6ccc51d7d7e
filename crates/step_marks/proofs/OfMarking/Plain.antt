-- What the steps of a collection tell of a token's own data: it stays.
use Rattle.std.proofs.Common.{◌≡◌, ℕ, [], ◌∷◌, Some, ap, ⊎_elim, ◌+◌, false}
use mathlib.Core.Logic.{dite}
use native.Mathlib.Decide.{ℕ_discrete}
use Rattle.heap_rule.specs.declared.config.Config.{Config}
use Rattle.heap_rule.specs.declared.view.DomainView.{DomainView}
use Rattle.heap_rule.specs.declared.view.Scan.TheVariants.{Idle}
use Rattle.heap_rule.specs.declared.view.Share.{Share}
use Rattle.heap_rule.specs.Raw.{CanLeave, Closes, Leaves}
use Rattle.heap_rule.proofs.Closes.{front_same, leaves_closes}
use Rattle.step_marks.specs.Marking.Looks.{ColoursTold, with_share}
use Rattle.step_marks.specs.Marking.Marking.{ChangedTold, DarkenTold, TargetTold, GreyTold, MarkTold, OwnTold, Reason, ScanTold, ScannedTold, begun, behind, darkening, moved_on, scanned_on, settled, Site, places_seen_on, walk_on}
use Rattle.step_marks.specs.Marking.Arming.{ArmedTold}
use Rattle.step_marks.specs.Marking.Changed.{FindTold, ForgetTold}

-- a step that tells of the share alone
pub share_closes : (k : Config) (x : DomainView) (found : ℕ) (tells : DomainView → ℕ → DomainView → Type 0) → ((y : DomainView) → tells x found y → (share : Share) × (y ≡ with_share x share)) → Closes k x found tells CanLeave Leaves
share_closes k x found tells says = leaves_closes k x found tells (λ y told. ap (λ (z : DomainView). z.own) (says y told).1) (λ y told. front_same x y (ap (λ (z : DomainView). z.seen.front) (says y told).1))

pub colours_closes : (k : Config) (x : DomainView) (found : ℕ) → Closes k x found (ColoursTold k) CanLeave Leaves
colours_closes k x found = share_closes k x found (ColoursTold k) (λ y t. (record x.seen.share { colours = Some t.colours }, t.view))

pub target_closes : (k : Config) (x : DomainView) (found a : ℕ) (reason : Reason) → Closes k x found (TargetTold a reason) CanLeave Leaves
target_closes k x found a reason = share_closes k x found (TargetTold a reason) (λ y t. ⊎_elim (λ u. (record x.seen.share { found_head = Some (record { address = a; word = found }) }, u.1)) (λ u. (moved_on reason a x.seen.share, u.1)) t.told)

pub darken_closes : (k : Config) (x : DomainView) (found a old : ℕ) (reason : Reason) → Closes k x found (DarkenTold k old a reason) CanLeave Leaves
darken_closes k x found a old reason = share_closes k x found (DarkenTold k old a reason) (λ y t. dite (ℕ_discrete found old)
    (λ e. (darkening t.kind reason a x.seen.share, t.won e))
    (λ e. (moved_on reason a x.seen.share, t.lost e)))

pub own_closes : (k : Config) (x : DomainView) (found pool : ℕ) → Closes k x found (OwnTold pool) CanLeave Leaves
own_closes k x found pool = share_closes k x found (OwnTold pool) (λ y t. ⊎_elim (λ u. (record x.seen.share { own_pool = Some (record { pool = pool; class = u.0 }) }, u.3)) (λ u. (record x.seen.share { walk = record { pool = pool + 1; slot = 0 } }, u.1)) t.told)

pub mark_closes : (k : Config) (x : DomainView) (found a pool class slot : ℕ) → Closes k x found (MarkTold a pool class slot) CanLeave Leaves
mark_closes k x found a pool class slot = share_closes k x found (MarkTold a pool class slot) (λ y t. ⊎_elim (λ u. (record x.seen.share { places_seen = a ∷ x.seen.share.places_seen; walk = behind pool class slot }, u.1)) (λ u. (begun a u.0.block.shape found x.seen.share, u.1)) t.told)

pub grey_closes : (k : Config) (x : DomainView) (found a : ℕ) → Closes k x found (GreyTold a) CanLeave Leaves
grey_closes k x found a = share_closes k x found (GreyTold a) (λ y t. ⊎_elim (λ u. (record x.seen.share { account = settled a x.seen.share.account }, u.1)) (λ u. (begun a u.0.block.shape found x.seen.share, u.1)) t.told)

pub scan_closes : (k : Config) (x : DomainView) (found : ℕ) → Closes k x found (ScanTold k) CanLeave Leaves
scan_closes k x found = share_closes k x found (ScanTold k) (λ y t. (record x.seen.share { scan = scanned_on x.seen.share.scan t.value }, t.view))

pub scanned_closes : (k : Config) (x : DomainView) (new a : ℕ) (site : Site) → Closes k x new (ScannedTold a site) CanLeave Leaves
scanned_closes k x new a site = share_closes k x new (ScannedTold a site) (λ y t. (record x.seen.share { scan = Idle; account = settled a x.seen.share.account; places_seen = places_seen_on site a x.seen.share.places_seen; walk = walk_on site x.seen.share.walk }, t))

pub changed_closes : (k : Config) (x : DomainView) → Closes k x 1 ChangedTold CanLeave Leaves
changed_closes k x = share_closes k x 1 ChangedTold (λ y t. (record x.seen.share { owes = false; account = [] }, t))

pub find_closes : (k : Config) (x : DomainView) (found : ℕ) → Closes k x found FindTold CanLeave Leaves
find_closes k x found = leaves_closes k x found FindTold (λ y t. ap (λ (z : DomainView). z.own) t) (λ y t. front_same x y (ap (λ (z : DomainView). z.seen.front) t))

pub forget_closes : (k : Config) (x : DomainView) → Closes k x 0 ForgetTold CanLeave Leaves
forget_closes k x = share_closes k x 0 ForgetTold (λ y t. (record x.seen.share { changed = Some 0 }, t))

pub armed_closes : (k : Config) (x : DomainView) (found : ℕ) → Closes k x found ArmedTold CanLeave Leaves
armed_closes k x found = share_closes k x found ArmedTold (λ y t. (record x.seen.share { armed = Some t.armed }, t.view))
