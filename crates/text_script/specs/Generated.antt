-- The generator's script. Commands come in groups of ten: that of domain d at place k, from 0, is row k mod 10 of group k / 10.
-- A law of it, which is not proved here: domain d alone writes field d of the shared block. So where no allocation is answered `full`, in every schedule a group loads one integer, the one that it stored.
-- Of 10 * n commands, domain d loads n integers, whose sum is n * (base + d) + 3 * n * (n - 1) / 2.
use Rattle.std.specs.Prelude.{ℕ, ◌+◌, ◌*◌, ◌/◌, ◌%◌, ◌==◌, if◌then◌else◌, pos, List, map}
use Rattle.std.specs.List.{range_with_len}
use Rattle.model_core.specs.declared.command.Command.{Command}
use Rattle.model_core.specs.declared.command.Command.TheVariants.{PutInt, Copy, Alloc, Load, Store, Ephe, SetKey, CheckKey, SetData, CheckData, Finalise, FinaliseLast, Poll, Minor, FullMajor}

-- row 3 of group j: the new block is linked to the block before, and each twentieth begins a chain
abbrev pub chain_row : ℕ → Command
chain_row j = if j % 20 == 0 then PutInt 3 (pos 0) else Store 1 1 3

-- row 8 of group j: ephemerons and finalisers
abbrev pub ephemeron_row : ℕ → Command
ephemeron_row j =
    if j % 8 == 0 then Ephe 6 1
    else if j % 8 == 1 then SetKey 6 0 1
    else if j % 8 == 2 then SetData 6 3
    else if j % 8 == 3 then FinaliseLast 1 j
    else if j % 8 == 4 then CheckKey 6 0
    else if j % 8 == 5 then Finalise 1 j 7
    else if j % 8 == 6 then CheckData 6
    else Poll

-- row 9 of group j: collections
abbrev pub collection_row : ℕ → Command
collection_row j =
    if j % 50 == 24 then Minor
    else if j % 50 == 49 then FullMajor
    else Poll

-- row p of group j of domain d
abbrev pub row_of : ℕ → ℕ → ℕ → ℕ → Command
row_of base d j p =
    if p == 0 then Alloc 1 (j % 246) (2 + (base + j) % 125)
    else if p == 1 then PutInt 2 (pos (base + 3 * j + d))
    else if p == 2 then Store 1 0 2
    else if p == 3 then chain_row j
    else if p == 4 then Copy 3 1
    else if p == 5 then Store 0 d 1
    else if p == 6 then Load 4 0 d
    else if p == 7 then Load 5 4 0
    else if p == 8 then ephemeron_row j
    else collection_row j

-- the command of domain d at place k
abbrev pub command_at : ℕ → ℕ → ℕ → Command
command_at base d k = row_of base d (k / 10) (k % 10)

-- the first commands of domain d
abbrev pub section_of : ℕ → ℕ → ℕ → List Command
section_of base commands d = map (command_at base d) (range_with_len 0 commands)

-- the script: so many commands for each domain
abbrev pub generated : ℕ → ℕ → ℕ → List (List Command)
generated base domains commands = map (section_of base commands) (range_with_len 0 domains)
