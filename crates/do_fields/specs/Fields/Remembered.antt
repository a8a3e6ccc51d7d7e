-- What a store leaves of the fields that a domain remembers.
use Rattle.std.specs.Prelude.{◌≡◌, ℕ, ◌+◌, ◌-◌, [], ◌∷◌, ◌++◌}
use Rattle.model_core.specs.declared.reply.Reply.{Reply}
use Rattle.model_core.specs.declared.reply.Reply.TheVariants.{Done, Yes}
use Rattle.heap_words.specs.declared.value.Value.{Value}
use Rattle.heap_words.specs.declared.value.Value.TheVariants.{Ref}
use Rattle.heap_words.specs.Remembered.Bounded.{Bounded}
use Rattle.heap_rule.specs.declared.config.Config.{Config}
use Rattle.heap_rule.specs.Changes.{value_at}
use Rattle.heap_rule.specs.Token.{Token}
use Rattle.step_run.specs.Fields.Stores.{MustRemember}

-- what the domain owns is as before, but for the fields that it remembers
pub record ChangesRemembered (old new : Token) : Type 0 where
  pub own : new.view.own ≡ record old.view.own { remembered = new.view.own.remembered }

-- the store is made, and puts a block of a minor area into a block of a pool
abbrev pub PutsYoung : Config → Reply → Value → Value → Type 0
PutsYoung k reply block value = (reply ≡ Done) × MustRemember k block value

-- the same of a compare-and-set
abbrev pub SetsYoung : Config → Reply → Value → Value → Type 0
SetsYoung k reply block value = (reply ≡ Yes) × MustRemember k block value

-- the address of a field of the block that the value is
abbrev pub field_of : Value → ℕ → ℕ
field_of (Ref a) i = a + 2 + i
field_of _ i = 0

-- the remembered fields, and one more behind them
abbrev pub one_more : ℕ → Bounded ℕ → Bounded ℕ
one_more at b = record { items = b.items ++ at ∷ []; room = b.room - 1 }

-- of what the domain owns only the fields that it remembers may change: where it puts a block of a minor area into the field at an address of a block of a pool, that field is one more
pub record Remembers (puts : Type 0) (at : ℕ) (old new : Token) : Type 0 where
  pub rest : ChangesRemembered old new
  pub remembered : puts → new.view.own.remembered ≡ one_more at old.view.own.remembered
  pub unremembered : (puts → ⊥) → new.view.own.remembered ≡ old.view.own.remembered
  pub registers : new.view.own.registers ≡ old.view.own.registers

-- so it is with a store of what a register holds into a field of the block in another
abbrev pub StoreRemembers : Config → Reply → ℕ → ℕ → ℕ → Token → Token → Type 0
StoreRemembers k reply block index item old new = Remembers
    (PutsYoung k reply (value_at old.view.own.registers block) (value_at old.view.own.registers item))
    (field_of (value_at old.view.own.registers block) index) old new

-- and with a compare-and-set
abbrev pub CasRemembers : Config → Reply → ℕ → ℕ → ℕ → Token → Token → Type 0
CasRemembers k reply block index item old new = Remembers
    (SetsYoung k reply (value_at old.view.own.registers block) (value_at old.view.own.registers item))
    (field_of (value_at old.view.own.registers block) index) old new
