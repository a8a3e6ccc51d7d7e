-- What each profile allows.
use Rattle.std.specs.Prelude.{ℕ, Bool, true, false, not, ◌==◌, ◌&&◌, nat_lt, Option, Some, None}
use Rattle.model_core.specs.declared.command.Command.{Command}
use Rattle.model_core.specs.declared.command.Command.TheVariants.{PutInt, Copy, Forget, Load, Store, Ephe, SetData, UnsetData, GetData, CheckData, FullMajor, Finalise}
use Rattle.judge_profiles.specs.declared.act.Act.{Act}
use Rattle.judge_profiles.specs.declared.act.Act.TheVariants.{Made, Ran}
use Rattle.judge_profiles.specs.declared.profile.Profile.{Profile}
use Rattle.judge_profiles.specs.declared.profile.Profile.TheVariants.{Ocaml5, WeakNone, NoFinaliseFirst}

-- a register that is neither of the two that a store reads
abbrev pub is_apart : ℕ → ℕ → ℕ → Bool
is_apart dst block item = not (dst == block) && not (dst == item)

-- a command that may be made before a store that stands in front of it: it leaves the store's registers, and reads no field of that index
abbrev pub passes : Command → ℕ → ℕ → ℕ → Bool
passes (Load dst src other) block index item = not (other == index) && is_apart dst block item
passes (PutInt dst value) block index item = is_apart dst block item
passes (Copy dst src) block index item = is_apart dst block item
passes (Forget dst) block index item = is_apart dst block item
passes _ block index item = false

abbrev pub is_full_major : Command → Bool
is_full_major FullMajor = true
is_full_major _ = false

-- a command that may be made before another one in front of which it stands
abbrev pub passes_command : Command → Command → Bool
passes_command c (Store block index item) = passes c block index item
passes_command c _ = false

-- two neighbours may be shown the other way round: a finaliser that runs behind `full_major` before its reply, and a store before a command that was made before it
abbrev pub swaps : Act → Act → Bool
swaps (Made c r) (Ran q) = is_full_major c
swaps (Made c r) (Made store q) = passes_command c store
swaps (Ran r) second = false

abbrev pub may_swap : Profile → Act → Act → Bool
may_swap Ocaml5 first second = swaps first second
may_swap _ first second = false

abbrev pub is_forget : Command → Bool
is_forget (Forget dst) = true
is_forget _ = false

-- what need not be shown, by what stands behind it: a complete collection before another one, and at the end of a domain a finaliser, which another domain runs, and that a register lets go
abbrev pub drops : Act → Option Act → Bool
drops (Made c r) (Some (Made d q)) = is_full_major c && is_full_major d
drops (Made c r) (Some (Ran q)) = false
drops (Made c r) None = is_forget c
drops (Ran r) (Some act) = false
drops (Ran r) None = true

abbrev pub may_drop : Profile → Act → Option Act → Bool
may_drop Ocaml5 act behind = drops act behind
may_drop _ act behind = false

-- what a runtime hasn't
abbrev pub lacks : Profile → Command → Bool
lacks WeakNone (Ephe dst keys) = nat_lt 1 keys
lacks WeakNone (SetData ephe item) = true
lacks WeakNone (UnsetData ephe) = true
lacks WeakNone (GetData dst ephe) = true
lacks WeakNone (CheckData ephe) = true
lacks NoFinaliseFirst (Finalise item number dst) = true
lacks _ _ = false
