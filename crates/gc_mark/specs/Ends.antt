-- How a slice of the marking beside running domains ends before it has scanned enough.
use Rattle.std.specs.Prelude.{◌≡◌, ℕ, ◌+◌, ◌<◌, ◌≤◌, ◌⊎◌, ◌↔◌}
use Rattle.heap_rule.specs.declared.view.DomainView.{DomainView}
use Rattle.gc_mark.specs.declared.slices.Scanned.{Scanned}
use Rattle.gc_mark.specs.declared.slices.Why.{Why}
use Rattle.gc_mark.specs.declared.slices.Why.TheVariants.{Enough, NoneFound, Stale}
use Rattle.do_fields.specs.Darkening.Aware.{darkened_in, scanned_in, vain_in}
use Rattle.gc_mark.specs.Decks.{AllMissed, DeckCounts, HasTaken, NotesEach, NotesOn, last_count}
use Rattle.gc_mark.specs.Slices.{Went}

-- no domain had a hint any more, before so many were let go, or as many were let go as the slice may let go
abbrev pub EndsSlice : Why → ℕ → ℕ → DomainView → DomainView → DeckCounts → DeckCounts → Type 0
EndsSlice why left gone x y l m = ((why ≡ NoneFound) × (gone < left) × Went 0 gone gone x y l m × AllMissed l m) ⊎ ((why ≡ Stale) × (gone ≡ left) × Went 0 gone gone x y l m)

-- for each block that was scanned, and each look in vain, a hint was taken, unless their count stands still
abbrev pub HasLooked : ℕ → DomainView → DomainView → DeckCounts → DeckCounts → Type 0
HasLooked scans x y l m = (l.taken + scans + vain_in y.seen.share.known ≤ m.taken + vain_in x.seen.share.known) ⊎ (last_count ≤ m.taken)

-- how many of so many blocks a slice has scanned, at how many addresses it has looked in vain, and so why it has ended
pub record ScansUpTo (most : ℕ) (scanned : Scanned) (x y : DomainView) : Type 0 where
  pub few : scanned.count ≤ most
  pub enough : (scanned.why ≡ Enough) ↔ (scanned.count ≡ most)
  pub scanned_is : scanned_in y.seen.share.known ≡ scanned_in x.seen.share.known + scanned.count
  pub let_go : vain_in y.seen.share.known ≤ vain_in x.seen.share.known + 8192
  pub ends : (scanned.why ≡ Stale) ↔ (vain_in y.seen.share.known ≡ vain_in x.seen.share.known + 8192)

-- what its deck has counted then
pub record CountsSlice (scanned : Scanned) (x y : DomainView) (l m : DeckCounts) : Type 0 where
  pub none : scanned.why ≡ NoneFound → AllMissed l m
  pub stale : scanned.why ≡ Stale → HasTaken 8192 l m
  pub taken : m.taken + vain_in x.seen.share.known ≤ l.taken + scanned.count + vain_in y.seen.share.known
  pub looked : HasLooked scanned.count x y l m
  pub noted : NotesEach (darkened_in x.seen.share.known) (darkened_in y.seen.share.known) l m
  pub notes : NotesOn l m
  pub own_first : m.early ≡ l.early
