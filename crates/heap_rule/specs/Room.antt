-- Room for copies: while blocks live in minor areas, so many pools are kept free that all of these blocks find a place in pools.
use Rattle.std.specs.Prelude.{◌≡◌, ℕ, zero, suc, ◌+◌, ◌*◌, ◌<◌, ◌≤◌, Bool, true, if◌then◌else◌, List, Some}
use Rattle.model_core.specs.Domains.{class_count, reserve}
use Rattle.heap_rule.specs.declared.config.Config.{Config}
use Rattle.heap_rule.specs.declared.phase.Kind.TheVariants.{Run, Promote}
use Rattle.heap_rule.specs.Limits.{sizes_in}
use Rattle.heap_rule.specs.Layout.{heap_words, listed, cursor}
use Rattle.heap_rule.specs.Places.{Place, Live, span}
use Rattle.heap_rule.specs.Copies.{Promoting}
use Rattle.heap_rule.specs.Phases.{Pause, sum_of}
use Rattle.heap_rule.specs.Pools.{Stock, no_stock, size_of, blocks_of, limit_of}

-- how many numbers below n have a property
abbrev pub count : (ℕ → Bool) → ℕ → ℕ
count f zero = 0
count f (suc n) = count f n + (if f n then 1 else 0)

-- the pools that all domains have drawn, and the words of all copies
abbrev pub drawn_in_all : Config → Stock → ℕ
drawn_in_all k s = sum_of (λ d. sum_of (s.drawn d) class_count) k.domains

abbrev pub copied_words : Stock → ℕ → ℕ
copied_words s d = sum_of (λ c. s.copies d c * size_of c) class_count

-- the word at an address is one of a block that was copied
pub record IsClaimed (k : Config) (live : Live) (x : ℕ) : Type 0 where
  pub block : ℕ
  pub copy : ℕ
  pub place : Place
  pub lives : live block ≡ Some place
  pub forwards : place.forward ≡ Some copy
  pub young : k.pools * 4096 < block
  pub from : block ≤ x
  pub to : x < block + span place.shape

-- Room: each domain has made as many copies of a class as the pools that it drew for it have places, but for those of one pool. The copies have no more words than the blocks that were copied, and where blocks live in minor areas as many pools are free as the reserve and the pools drawn since allow
pub record Room (k : Config) (live : Live) (p : Pause) (s : Stock) (words : List ℕ) : Type 0 where
  pub fills : (d c : ℕ) → s.drawn d c * blocks_of c ≤ s.copies d c + blocks_of c
  pub fit : sum_of (copied_words s) k.domains ≤ count s.claimed (heap_words k + 1)
  pub claims : (x : ℕ) → s.claimed x ≡ true → IsClaimed k live x
  pub listed_copies : (d : ℕ) → s.claims d ≤ sum_of (s.copies d) class_count
  pub left : Promoting p → (a : ℕ) (q : Place) → live a ≡ Some q → k.pools * 4096 < a → cursor words + reserve (sizes_in k) ≤ listed words + drawn_in_all k s

-- nothing is used, whatever pools were drawn last
abbrev pub spent_stock : Stock → Stock
spent_stock s = record no_stock { latest = s.latest; used = s.used }

-- while no blocks are copied nothing is used
abbrev pub IsUnused : Pause → Stock → Type 0
IsUnused p s = (Promoting p → ⊥) → s ≡ spent_stock s

-- where a block lives in a minor area, the reserve is listed
abbrev pub Opened : Config → Live → List ℕ → Type 0
Opened k live words = (a : ℕ) (q : Place) → live a ≡ Some q → k.pools * 4096 < a → reserve (sizes_in k) ≤ listed words

-- once domain 0 has named the next phase, the cursor isn't in the reserve where domains run or copy next
pub record Drawable (k : Config) (p : Pause) (words : List ℕ) : Type 0 where
  pub to_run : (j : ℕ) → p.phase ≡ j * 2 + 1 → p.led ≡ true → p.kinds (j + 1) ≡ Run → cursor words ≤ limit_of k (listed words)
  pub to_copy : (j : ℕ) → p.phase ≡ j * 2 + 1 → p.led ≡ true → p.kinds (j + 1) ≡ Promote → cursor words ≤ limit_of k (listed words)
