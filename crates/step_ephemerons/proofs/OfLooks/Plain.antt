-- What the looks at ephemerons tell of a token's own data: it stays.
use Rattle.std.proofs.Common.{ℕ, ⊎_elim}
use Rattle.heap_rule.specs.declared.config.Config.{Config}
use Rattle.heap_rule.specs.declared.view.DomainView.{DomainView}
use Rattle.heap_rule.specs.Raw.{Closes, CanLeave, Leaves}
use Rattle.step_ephemerons.specs.Looks.Rounding.{DatumTold, EphemeronTold, KeyLookTold, KeyTold, datum_on, key_on, next_key, place_seen, looked_through}
use Rattle.step_marks.proofs.OfMarking.Plain.{share_closes}
use Rattle.heap_rule.specs.declared.view.Scan.TheVariants.{Keys}
use Rattle.step_ephemerons.specs.Looks.Emptying.{CleanEndTold, CleanKeyTold, CleanLabelTold, CleanLookTold, CleanTold, cleaned, cleaning_on, cleaning_from, key_passed, key_read, labelled}
use Rattle.heap_rule.specs.declared.view.NextKey.TheVariants.{Dead}

pub ephemeron_closes : (k : Config) (x : DomainView) (found a : ℕ) → Closes k x found (EphemeronTold k a) CanLeave Leaves
ephemeron_closes k x found a = share_closes k x found (EphemeronTold k a) (λ y t. ⊎_elim (λ u. (place_seen a x.seen.share, u.1)) (λ u. (record x.seen.share { scan = Keys a 0 u.0 }, u.3)) t.told)

pub key_closes : (k : Config) (x : DomainView) (found : ℕ) → Closes k x found (KeyTold k) CanLeave Leaves
key_closes k x found = share_closes k x found (KeyTold k) (λ y t. (record x.seen.share { scan = key_on x.seen.share.scan t.value }, t.view))

pub key_look_closes : (k : Config) (x : DomainView) (found : ℕ) → Closes k x found KeyLookTold CanLeave Leaves
key_look_closes k x found = share_closes k x found KeyLookTold (λ y t. ⊎_elim (λ u. (record x.seen.share { scan = next_key x.seen.share.scan }, u.1)) (λ u. (looked_through x.seen.share, u.1)) t.told)

pub datum_closes : (k : Config) (x : DomainView) (found : ℕ) → Closes k x found (DatumTold k) CanLeave Leaves
datum_closes k x found = share_closes k x found (DatumTold k) (λ y t. (datum_on x.seen.share t.value, t.view))

pub clean_closes : (k : Config) (x : DomainView) (found a : ℕ) → Closes k x found (CleanTold k a) CanLeave Leaves
clean_closes k x found a = share_closes k x found (CleanTold k a) (λ y t. ⊎_elim (λ u. (place_seen a x.seen.share, u.1)) (λ u. (cleaning_on (cleaning_from a u.0) x.seen.share, u.3)) t.told)

pub clean_key_closes : (k : Config) (x : DomainView) (found : ℕ) → Closes k x found (CleanKeyTold k) CanLeave Leaves
clean_key_closes k x found = share_closes k x found (CleanKeyTold k) (λ y t. (cleaning_on (key_read t.value t.cleaning) x.seen.share, t.view))

pub clean_look_closes : (k : Config) (x : DomainView) (found : ℕ) → Closes k x found CleanLookTold CanLeave Leaves
clean_look_closes k x found = share_closes k x found CleanLookTold (λ y t. ⊎_elim (λ u. (cleaning_on (key_passed t.cleaning) x.seen.share, u.1)) (λ u. (cleaning_on (record t.cleaning { next = Dead }) x.seen.share, u.1)) t.told)

pub clean_label_closes : (k : Config) (x : DomainView) (found : ℕ) → Closes k x found CleanLabelTold CanLeave Leaves
clean_label_closes k x found = share_closes k x found CleanLabelTold (λ y t. (cleaning_on (labelled t.label t.cleaning) x.seen.share, t.view))

pub clean_end_closes : (k : Config) (x : DomainView) (found : ℕ) → Closes k x found CleanEndTold CanLeave Leaves
clean_end_closes k x found = share_closes k x found CleanEndTold (λ y t. (cleaned t.cleaning.block x.seen.share, t.view))
