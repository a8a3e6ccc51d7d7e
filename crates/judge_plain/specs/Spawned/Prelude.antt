-- The entries by which the hidden block is made, in parts.
use Rattle.std.specs.Prelude.{ℕ, ◌-◌, false, List, [], ◌∷◌, map, pos}
use Rattle.std.specs.List.{range_with_len}
use Rattle.model_core.specs.declared.command.Command.TheVariants.{PutInt, Forget, Load, Store}
use Rattle.model_core.specs.declared.entry.Entry.{Entry}
use Rattle.model_core.specs.declared.entry.Entry.TheVariants.{Command}
use Rattle.model_traces.specs.Spawns.Hidden.{hidden, scratch}

-- a domain's load of the hidden block
abbrev pub load_of : ℕ → Entry
load_of d = Command d (Load hidden 0 15) false

-- each other domain takes it from the shared block
abbrev pub loads : ℕ → List Entry
loads domains = map load_of (range_with_len 1 (domains - 1))

-- domain 0 empties that field again
abbrev pub hiding : List Entry
hiding = Command 0 (PutInt scratch (pos 0)) false ∷ Command 0 (Store 0 15 scratch) false ∷ Command 0 (Forget scratch) false ∷ []
