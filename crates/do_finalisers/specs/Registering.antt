-- What a registration leaves of the token's own data, and what it answers.
use Rattle.std.specs.Prelude.{ℕ}
use Rattle.model_core.specs.declared.reply.Reply.{Reply}
use Rattle.model_core.specs.declared.reply.Reply.TheVariants.{Done, BadType}
use Rattle.heap_words.specs.declared.value.Value.{Value}
use Rattle.heap_words.specs.declared.value.Value.TheVariants.{Ref}
use Rattle.heap_rule.specs.declared.view.Own.{Own}
use Rattle.heap_rule.specs.Changes.{value_at}
use Rattle.step_finalisers.specs.Registering.{with_final, with_last}

-- the block in a register is registered for `finalise`, the newest of all. Where the register holds none, nothing is
abbrev pub own_finalised : Value → ℕ → ℕ → Own → Own
own_finalised (Ref address) number register own = with_final (record { address = address; number = number; register = register }) own
own_finalised _ number register own = own

-- and so for `finalise_last`
abbrev pub own_finalised_last : Value → ℕ → Own → Own
own_finalised_last (Ref address) number own = with_last (record { address = address; number = number }) own
own_finalised_last _ number own = own

-- what the domain owns with the block in a register of its own registered so, with this number
abbrev pub finalising : ℕ → ℕ → ℕ → Own → Own
finalising item number register own = own_finalised (value_at own.registers item) number register own

abbrev pub finalising_last : ℕ → ℕ → Own → Own
finalising_last item number own = own_finalised_last (value_at own.registers item) number own

-- a registration is done exactly where its register holds a block
abbrev pub registering_reply : Value → Reply
registering_reply (Ref address) = Done
registering_reply _ = BadType
