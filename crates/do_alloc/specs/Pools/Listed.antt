-- The list of free pools, while domain 0 looks at it or writes it anew.
use Rattle.std.specs.Prelude.{◌≡◌, ℕ, List, length, Some, None}
use Rattle.heap_rule.specs.declared.phase.Note.TheVariants.{Listed}
use Rattle.heap_rule.specs.declared.view.DomainView.{DomainView}
use Rattle.heap_rule.specs.Standing.{noted}
use Rattle.step_pools.specs.Listings.{with_listing, noted_set_back, free_pools, IsLeader}

-- so many owner words were looked at, and the list, of which no pool is listed yet, names the pools among these that are nobody's: so many
pub record HasListed (x : DomainView) (pools count : ℕ) : Type 0 where
  pub leader : IsLeader x
  pub owners : List ℕ
  pub all : length owners ≡ pools
  pub count_is : length (free_pools owners) ≡ count
  pub listing : x.seen.listing ≡ Some (record { owners = owners; names = free_pools owners; cursor = None; listed = 0 })

-- the domain notes that it has set the cursor back, and holds and knows all else but how many pools are listed as before
abbrev pub SetsBack : DomainView → DomainView → Type 0
SetsBack x y = y ≡ noted_set_back (with_listing x y.seen.listing)

-- the domain has seen to a list of so many free pools, notes that, and holds and knows all else as before
abbrev pub ListsFree : ℕ → DomainView → DomainView → Type 0
ListsFree count x y = y ≡ noted (with_listing x y.seen.listing) (Listed count)

-- the domain holds and knows all else as before
abbrev pub Relisted : DomainView → DomainView → Type 0
Relisted x y = y ≡ with_listing x y.seen.listing
