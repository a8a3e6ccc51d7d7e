-- What the steps on pools write into a token's own data.
use Rattle.model_core.specs.Domains.{class_count}
use Rattle.std.specs.Prelude.{◌≡◌, ◌≢◌, ℕ, ◌+◌, ◌^◌, ◌<◌, ◌≤◌, if◌then◌else◌, nat_lt, true, List, slice_set}
use Rattle.heap_words.specs.declared.value.Value.TheVariants.{Nothing}
use Rattle.heap_rule.specs.declared.change.Change.{Change}
use Rattle.heap_rule.specs.declared.view.Own.{Own}
use Rattle.heap_rule.specs.declared.view.Search.{Search}
use Rattle.heap_rule.specs.Changes.{changed, FitChanges}
use Rattle.heap_rule.specs.Pools.{blocks_of, owned, owner_word, search_at}

-- where a walk over own pools goes on behind a pool: in the next one, or behind the last one of the heap, where no own pool is left
abbrev pub pool_after : ℕ → ℕ → ℕ → ℕ
pool_after pools top pool = if nat_lt (pool + 1) top then pool + 1 else pools

-- the top, below which own pools lie, once this pool is one of them
abbrev pub top_above : ℕ → ℕ → ℕ
top_above top pool = if nat_lt pool top then top else pool + 1

-- how far the domain has looked once no place of this pool is free from a place on that it has passed: behind the last pool of the heap, if only this pool could have had one, else where a walk over own pools goes on
abbrev pub pool_behind : ℕ → ℕ → ℕ → Search → Search
pool_behind pools top pool s = record { pool = if s.only then pools else pool_after pools top pool; slot = 0; only = s.only }

-- so far it has looked for places of the class
abbrev pub looking : Own → ℕ → Search → Own
looking own class s = record own { looked = slice_set own.looked class s }

-- the pool and the class exist
abbrev pub CanLook : ℕ → ℕ → Type 0
CanLook pool class = (pool < 2048) × (class < class_count)

-- the pool is the domain's own, and the places are looked at from it on: none of another pool is free
abbrev pub owning : Own → ℕ → ℕ → Own
owning own class pool = record own { looked = slice_set own.looked class (record { pool = pool; slot = 0; only = true }); swept = record own.swept { top = top_above own.swept.top pool } }

abbrev pub LooksFrom : ℕ → ℕ → Own → Own → Type 0
LooksFrom pool class own after = after ≡ owning own class pool

-- the pool is passed where its owner word isn't the domain's, and so are those behind it that aren't the domain's own
pub record PassesPool (pools pool class found : ℕ) (own after : Own) : Type 0 where
  pub own_pool : found ≡ owner_word (owned own.number class) → after ≡ own
  pub other : found ≢ owner_word (owned own.number class) → after ≡ looking own class (pool_behind pools own.swept.top pool (search_at own.looked class))

-- the place is passed where its head isn't Free
pub record PassesPlace (pools pool class slot found : ℕ) (own after : Own) : Type 0 where
  pub free : found ≡ 0 → after ≡ own
  pub full : found ≢ 0 → slot + 1 < blocks_of class → after ≡ looking own class (record { pool = pool; slot = slot + 1; only = (search_at own.looked class).only })
  pub last : found ≢ 0 → blocks_of class ≤ slot + 1 → after ≡ looking own class (pool_behind pools own.swept.top pool (search_at own.looked class))

-- the changes are made, and the label is counted
abbrev pub CanLabel : List Change → Own → Type 0
CanLabel changes own = FitChanges changes × (own.serial + 1 < 2 ^ 32)

abbrev pub Labels : List Change → Own → Own → Type 0
Labels changes own after = after ≡ record (changed Nothing changes own) { serial = own.serial + 1 }
