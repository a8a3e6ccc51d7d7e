-- What a register of a domain holds, and what the domain's entries do besides.
use Rattle.std.specs.Prelude.{◌≡◌, ◌≤◌, ℕ, ◌+◌, cond, List, [], ◌∷◌}
use Rattle.model_core.specs.declared.entry.Entry.{Entry}
use Rattle.model_core.specs.declared.graph.Value.{Value}
use Rattle.model_core.specs.declared.state.Sizes.{Sizes}
use Rattle.model_core.specs.Domains.{register}
use Rattle.model_core.specs.History.{is_entry_of}
use Rattle.weak_laws.specs.Tables.Thinning.{state_of}
use Rattle.weak_laws.specs.Tables.Performing.{refused, written}

-- what a register of domain d holds after a history
abbrev pub held_by : Sizes → ℕ → List Entry → ℕ → Value
held_by z d h r = register (state_of z h) d r

-- how many commands of domain d were answered `full`
abbrev pub refusals_by : ℕ → List Entry → ℕ
refusals_by d [] = 0
refusals_by d (e ∷ h) = cond (is_entry_of d e) (refused e) 0 + refusals_by d h

-- how many entries of domain d write one of its registers 1 to 7
abbrev pub writings_by : ℕ → List Entry → ℕ
writings_by d [] = 0
writings_by d (e ∷ h) = cond (is_entry_of d e) (written e) 0 + writings_by d h

-- so many commands more of a domain were answered `full`, so many entries more of it write one of those registers, and at most so many
abbrev pub Refuses : ℕ → List Entry → List Entry → ℕ → Type 0
Refuses d old new n = refusals_by d new ≡ refusals_by d old + n

abbrev pub Writes : ℕ → List Entry → List Entry → ℕ → Type 0
Writes d old new n = writings_by d new ≡ writings_by d old + n

abbrev pub WritesAtMost : ℕ → List Entry → List Entry → ℕ → Type 0
WritesAtMost d old new n = writings_by d new ≤ writings_by d old + n
