-- What the steps of copying write into a token's own data.
use Rattle.std.specs.Prelude.{◌≡◌, ◌≢◌, ℕ, ◌+◌, ◌<◌, ◌≤◌, [], length, slice_set, Some, None}
use Rattle.model_core.specs.Domains.{class_count}
use Rattle.heap_words.specs.declared.value.Value.TheVariants.{Ref}
use Rattle.heap_rule.specs.declared.view.Held.{Held}
use Rattle.heap_rule.specs.declared.view.Own.{Own}
use Rattle.heap_rule.specs.Finalisers.{held_at}
use Rattle.heap_rule.specs.Pools.{search_at, freed_at}
use Rattle.step_promote.specs.Claims.{preparing, pushed}
use Rattle.step_promote.specs.Promotion.{with_held}

-- the class exists, and the place is prepared for it
abbrev pub CanPrepare : ℕ → Type 0
CanPrepare class = class < class_count

abbrev pub Prepares : ℕ → ℕ → Own → Own → Type 0
Prepares class at own after = after ≡ preparing own class (Some at)

-- where the claim is won there is room for the copy in the list
abbrev pub CanClaim : ℕ → ℕ → ℕ → Own → Type 0
CanClaim class old found own = (class < class_count) × (found ≡ old → 1 ≤ own.pending.room)

-- it is put there, and the place is no longer prepared
pub record Claims (class copy source old found : ℕ) (own after : Own) : Type 0 where
  pub won : found ≡ old → after ≡ preparing (pushed own copy source) class None
  pub lost : found ≢ old → after ≡ own

-- the place is given back, and is free for the search
abbrev pub Frees : ℕ → ℕ → ℕ → Own → Own → Type 0
Frees pool class slot own after = after ≡ record (preparing own class None) { looked = slice_set own.looked class (freed_at pool slot (search_at own.looked class)) }

-- the register gets the copy's address
abbrev pub CanMove : ℕ → Type 0
CanMove register = register < 16

abbrev pub Moves : ℕ → ℕ → Own → Own → Type 0
Moves register copy own after = after ≡ record own { registers = slice_set own.registers register (Ref copy) }

-- a place of the lists of finalisers that has an address gets the copy's
abbrev pub CanMoveHeld : Held → Own → Type 0
CanMoveHeld held own = (a : ℕ) × (held_at own.finalisers held ≡ Some a)

abbrev pub MovesHeld : Held → ℕ → Own → Own → Type 0
MovesHeld held copy own after = after ≡ record own { finalisers = with_held own.finalisers held copy }

-- no word of the area is used, and no field is remembered
abbrev pub Resets : Own → Own → Type 0
Resets own after = after ≡ record own { used = 0; remembered = record { items = []; room = own.remembered.room + length own.remembered.items } }
