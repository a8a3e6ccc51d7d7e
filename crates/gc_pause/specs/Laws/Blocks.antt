-- How many blocks a history has made at most, and what a domain owes before its next `full_major`.
use Rattle.std.specs.Prelude.{ℕ, ◌+◌, ◌≤◌, Bool, true, false, List, [], ◌∷◌, length}
use Rattle.model_core.specs.declared.entry.Entry.{Entry}
use Rattle.model_core.specs.declared.entry.Entry.TheVariants.{Command as CommandOf}
use Rattle.model_core.specs.declared.state.State.{State}
use Rattle.model_core.specs.Commands.{is_allocation}
use Rattle.model_core.specs.Domains.{domain_at}

abbrev pub one_if : Bool → ℕ
one_if true = 1
one_if false = 0

-- an allocation makes one block at most
abbrev pub makes_of : Entry → ℕ
makes_of (CommandOf d c full) = one_if (is_allocation c)
makes_of _ = 0

abbrev pub made_by : List Entry → ℕ
made_by [] = 0
made_by (e ∷ h) = makes_of e + made_by h

-- no domain owes more finalisers than wait
abbrev pub OwesFew : State → Type 0
OwesFew s = (d : ℕ) → (domain_at s d).due ≤ length (domain_at s d).queue
