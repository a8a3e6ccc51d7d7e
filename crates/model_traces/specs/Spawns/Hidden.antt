-- The hidden block, through which sections pass values to one another: which register holds it, what its fields are for, and the entries by which a run makes it before any section begins.
use Rattle.std.specs.Prelude.{ℕ, ◌+◌, ◌-◌, Bool, false, nat_lt, pos, List, [], ◌∷◌, ◌++◌, map}
use Rattle.std.specs.List.{list_all, range_with_len}
use Rattle.model_core.specs.declared.label.Label.{Label}
use Rattle.model_core.specs.declared.command.Command as declared_command
use Rattle.model_core.specs.declared.command.Command.TheVariants.{PutInt, Copy, Forget, Alloc, AllocMaj, Load, Store, Raw, Cas, Ephe, SetKey, UnsetKey, GetKey, CheckKey, SetData, UnsetData, GetData, CheckData, Finalise, FinaliseLast, Poll, Minor, Major, FullMajor, Spawn, Argument, PutResult, Join}
use Rattle.model_core.specs.declared.entry.Entry.{Entry}
use Rattle.model_core.specs.declared.entry.Entry.TheVariants.{Command}

-- the first block that domain 0 makes
abbrev pub hidden_label : Label
hidden_label = record { domain = 0; serial = 1 }

-- the register that holds the hidden block, in each domain
abbrev pub hidden : ℕ
hidden = 15

-- the register that the expansions use besides
abbrev pub scratch : ℕ
scratch = 14

-- its fields: for each section a flag, which is 0 before its spawn, 1 from then on and 2 from its end on
abbrev pub flag_of : ℕ → ℕ
flag_of section = section

-- its argument
abbrev pub argument_of : ℕ → ℕ
argument_of section = 8 + section

-- and its result
abbrev pub result_of : ℕ → ℕ
result_of section = 16 + section

-- how many fields it has
abbrev pub hidden_fields : ℕ
hidden_fields = 24

abbrev run : ℕ → declared_command.Command → Entry
run d c = Command d c false

-- domain 0 makes the hidden block and lays it into the shared block, each other domain takes it from there, and domain 0 empties that field again
abbrev pub prelude : ℕ → List Entry
prelude domains =
    run 0 (AllocMaj hidden 0 hidden_fields) ∷ run 0 (Store 0 15 hidden)
    ∷ map (λ d. run d (Load hidden 0 15)) (range_with_len 1 (domains - 1))
    ++ run 0 (PutInt scratch (pos 0)) ∷ run 0 (Store 0 15 scratch) ∷ run 0 (Forget scratch) ∷ []

-- the registers that a command names
abbrev pub registers_of : declared_command.Command → List ℕ
registers_of (PutInt dst value) = dst ∷ []
registers_of (Copy dst src) = dst ∷ src ∷ []
registers_of (Forget dst) = dst ∷ []
registers_of (Alloc dst tag fields) = dst ∷ []
registers_of (AllocMaj dst tag fields) = dst ∷ []
registers_of (Load dst src index) = dst ∷ src ∷ []
registers_of (Store block index item) = block ∷ item ∷ []
registers_of (Raw dst tag fields) = dst ∷ []
registers_of (Cas block index expected item) = block ∷ expected ∷ item ∷ []
registers_of (Ephe dst keys) = dst ∷ []
registers_of (SetKey ephe index item) = ephe ∷ item ∷ []
registers_of (UnsetKey ephe index) = ephe ∷ []
registers_of (GetKey dst ephe index) = dst ∷ ephe ∷ []
registers_of (CheckKey ephe index) = ephe ∷ []
registers_of (SetData ephe item) = ephe ∷ item ∷ []
registers_of (UnsetData ephe) = ephe ∷ []
registers_of (GetData dst ephe) = dst ∷ ephe ∷ []
registers_of (CheckData ephe) = ephe ∷ []
registers_of (Finalise item number dst) = item ∷ dst ∷ []
registers_of (FinaliseLast item number) = item ∷ []
registers_of Poll = []
registers_of Minor = []
registers_of Major = []
registers_of FullMajor = []
registers_of (Spawn section item) = item ∷ []
registers_of (Argument dst) = dst ∷ []
registers_of (PutResult item) = item ∷ []
registers_of (Join dst section) = dst ∷ []

-- whether a command names registers of scripts alone: those below the two that the expansions use
abbrev pub is_plain : declared_command.Command → Bool
is_plain c = list_all (λ r. nat_lt r scratch) (registers_of c)
