-- What the domains know while each does its share of a phase, and what follows once all have arrived.
use Rattle.std.specs.Prelude.{◌≡◌, ◌⊎◌, ℕ, ◌<◌, Bool, true, false, cond, not, ◌&&◌, ◌||◌, ◌==◌, IsTrue, Option, Some}
use Rattle.model_core.specs.declared.label.Label.{Label}
use Rattle.model_core.specs.Graph.{Graph}
use Rattle.model_cycle.specs.Marks.{Marks, KeysMarked, DataMarked}

-- where blocks lie in the pools: the label of the block that lives at a place, and the domain in whose pool the place lies
pub record Layout : Type 0 where
  pub live : ℕ → Option Label
  pub owner : ℕ → Option ℕ

-- each block lies at one place
abbrev pub OnePlaceEach : Layout → Type 0
OnePlaceEach y = (a b : ℕ) (l : Label) → y.live a ≡ Some l → y.live b ≡ Some l → a ≡ b

-- how far each domain is in its share of a phase
pub record Shares : Type 0 where
  -- the changed word: whether somebody has darkened what another phase must look at
  pub changed : Bool
  -- whether a domain still owes its store of the changed word
  pub owes : ℕ → Bool
  -- the places of the blocks that a domain has darkened in Mark, and doesn't know to be scanned since
  pub follows : ℕ → ℕ → Bool
  -- whether a domain has done its share
  pub arrived : ℕ → Bool
  -- the own places at which a domain has found what the phase asks
  pub seen : ℕ → ℕ → Bool

-- a function with another value at one domain, or at one place
abbrev pub at_domain : {A : Type 0} → (ℕ → A) → ℕ → A → ℕ → A
at_domain f d v k = cond (k == d) v (f k)

-- the start of a phase: nobody has done anything, and the changed word is as it was left
abbrev pub reset_shares : Bool → Shares
reset_shares changed = record { changed = changed; owes = λ d. false; follows = λ d a. false; arrived = λ d. false; seen = λ d a. false }

-- the start of a phase with a changed word of 0
abbrev pub no_shares : Shares
no_shares = reset_shares false

-- a domain has darkened a block: it owes a store of the changed word
abbrev pub owing : Shares → ℕ → Shares
owing w d = record w { owes = at_domain w.owes d true }

-- a domain has darkened the block at a place in Mark: it follows it too
abbrev pub following : Shares → ℕ → ℕ → Shares
following w d a = record (owing w d) { follows = at_domain w.follows d (λ b. b == a || w.follows d b) }

-- a domain knows that the block at a place is scanned
abbrev pub settles : Shares → ℕ → ℕ → Shares
settles w d a = record w { follows = at_domain w.follows d (λ b. w.follows d b && not (b == a)) }

-- a domain has stored the changed word: it owes nothing more, and follows nothing
abbrev pub stored_changed : Shares → ℕ → Shares
stored_changed w d = record w { changed = true; owes = at_domain w.owes d false; follows = at_domain w.follows d (λ a. false) }

-- a domain has found at an own place what the phase asks
abbrev pub sees : Shares → ℕ → ℕ → Shares
sees w d a = record w { seen = at_domain w.seen d (λ b. b == a || w.seen d b) }

-- a domain has arrived
abbrev pub arrives : Shares → ℕ → Shares
arrives w d = record w { arrived = at_domain w.arrived d true }

-- the changed word is 0 and nobody owes a store of it, so nothing was darkened that has to be looked at again
pub record IsQuiet (n : ℕ) (w : Shares) : Type 0 where
  pub unchanged : w.changed ≡ false
  pub paid : (d : ℕ) → d < n → w.owes d ≡ false

-- each domain has arrived
abbrev pub AllArrived : ℕ → Shares → Type 0
AllArrived n w = (d : ℕ) → d < n → IsTrue (w.arrived d)

-- each marked block lies in a pool of some domain, which will look at it
abbrev pub AllOwned : ℕ → Layout → (Label → Bool) → Type 0
AllOwned n y marked = (l : Label) → IsTrue (marked l) → (d : ℕ) × (a : ℕ) × (d < n) × (y.live a ≡ Some l) × (y.owner a ≡ Some d)

-- what holds in each phase: a domain has seen own places alone, and one that has arrived has seen all its places
pub record AreShares (y : Layout) (w : Shares) : Type 0 where
  pub own : (d a : ℕ) → IsTrue (w.seen d a) → y.owner a ≡ Some d
  pub all : (d a : ℕ) → IsTrue (w.arrived d) → y.owner a ≡ Some d → IsTrue (w.seen d a)

-- some domain follows the block at a place
abbrev pub IsFollowed : ℕ → Shares → ℕ → Type 0
IsFollowed n w a = (d : ℕ) × (d < n) × IsTrue (w.follows d a)

-- in Mark: while nothing was changed, a block that its domain has seen is grey only where some domain follows it; and one that has arrived follows nothing
pub record InMark (n : ℕ) (y : Layout) (m : Marks) (w : Shares) : Type 0 where
  pub shares : AreShares y w
  pub owned : AllOwned n y m.marked
  pub followed : (d a : ℕ) → IsTrue (w.arrived d) → w.follows d a ≡ false
  pub not_grey : w.changed ≡ false → (d a : ℕ) (l : Label) → IsTrue (w.seen d a) → y.live a ≡ Some l → IsTrue (m.marked l) → IsTrue (m.scanned l) ⊎ IsFollowed n w a

-- in Rounds: what was marked before has been scanned, and nothing more is marked while nothing was changed and nobody owes; one that has arrived owes nothing; an ephemeron that its domain has seen has marked data if it and its full keys were marked before
pub record InRounds (n : ℕ) (y : Layout) (g : Graph) (before : Label → Bool) (m : Marks) (w : Shares) : Type 0 where
  pub shares : AreShares y w
  pub owned : AllOwned n y m.marked
  pub paid : (d : ℕ) → IsTrue (w.arrived d) → w.owes d ≡ false
  pub stays : (l : Label) → IsTrue (before l) → IsTrue (m.marked l)
  pub scanned : (l : Label) → IsTrue (before l) → IsTrue (m.scanned l)
  pub same : IsQuiet n w → (l : Label) → IsTrue (m.marked l) → IsTrue (before l)
  pub data_marked : (d a : ℕ) (l : Label) → IsTrue (w.seen d a) → y.live a ≡ Some l → IsTrue (before l) → KeysMarked g before l → DataMarked g m.marked l
