-- How many pools the runs of a schedule may own.
use Rattle.std.specs.Prelude.{ℕ, ◌+◌, ◌*◌, List, sum_by, count_by}
use Rattle.model_core.specs.declared.command.Command.{Command}
use Rattle.model_core.specs.Commands.{is_allocation}
use Rattle.model_core.specs.Domains.{class_count}

-- how many blocks these commands of all domains make, if no allocation is answered `full`
abbrev pub allocations : List (List Command) → ℕ
allocations script = sum_by (count_by is_allocation) script

-- how many pools they may own at most: each holds one of their blocks or the shared one, or is one that a domain has begun for a size class
abbrev pub pools_of : ℕ → List (List Command) → ℕ
pools_of domains script = allocations script + 1 + class_count * domains
