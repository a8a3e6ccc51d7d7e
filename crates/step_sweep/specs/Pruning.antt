-- What the step asks and tells by which a domain takes garbage off its list of ephemerons, before it frees any.
use Rattle.std.specs.Prelude.{◌≡◌, ℕ, ◌+◌, ◌⊎◌, slice_get, Some}
use Rattle.std.specs.List.{swap_remove}
use Rattle.heap_words.specs.declared.colours.Colours.{Colours}
use Rattle.heap_rule.specs.declared.view.DomainView.{DomainView}
use Rattle.heap_rule.specs.declared.view.Own.{Own}
use Rattle.step_sweep.specs.Freeing.{Frees, IsColoured}

-- a load of the head of the next listed ephemeron to be swept
pub record PruneMay (x : DomainView) (at i garbage : ℕ) : Type 0 where
  pub stage : Frees x.seen.stage
  pub listed : slice_get x.own.ephemerons.items i ≡ Some at
  pub next : x.own.swept.listed ≡ i
  pub colours : Colours
  pub known : x.seen.share.colours ≡ Some colours
  pub means : garbage ≡ colours.garbage

-- the i-th ephemeron of the list isn't garbage, so that none up to it is
abbrev pub pruned_to : ℕ → Own → Own
pruned_to i own = record own { swept = record own.swept { listed = i + 1 } }

-- the list without it: the last one is at its place, and there is room for one more
abbrev pub unlisted : ℕ → ℕ → Own → Own
unlisted at i own = record own { ephemerons = record { items = swap_remove own.ephemerons.items i at; room = own.ephemerons.room + 1 } }

-- the ephemeron lives, so that none up to it is garbage; or it is garbage, and is listed no more
pub record PruneTold (at i garbage : ℕ) (x : DomainView) (found : ℕ) (y : DomainView) : Type 0 where
  pub told : ((IsColoured garbage found → ⊥) × (y ≡ record x { own = pruned_to i x.own })) ⊎ (IsColoured garbage found × (y ≡ record x { own = unlisted at i x.own }))

-- the ephemeron is listed, and is the next to be swept
abbrev pub CanPrune : ℕ → ℕ → Own → Type 0
CanPrune at i own = (slice_get own.ephemerons.items i ≡ Some at) × (own.swept.listed ≡ i)

-- it is taken off the list where its head has the colour of garbage
abbrev pub Prunes : ℕ → ℕ → ℕ → ℕ → Own → Own → Type 0
Prunes at i garbage found own after = ((IsColoured garbage found → ⊥) × (after ≡ pruned_to i own)) ⊎ (IsColoured garbage found × (after ≡ unlisted at i own))
