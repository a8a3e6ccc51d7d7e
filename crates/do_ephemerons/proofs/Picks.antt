-- The commands of calls, by what they pass on.
use Rattle.std.proofs.Common.{ℕ, Option, Some, None}
use Rattle.model_core.specs.declared.command.Command.{Command}
use Rattle.model_core.specs.declared.command.Command.TheVariants.{SetKey, UnsetKey, GetKey, CheckKey, SetData, UnsetData, GetData, CheckData}

abbrev pub get_of : ℕ → ℕ → Option ℕ → Command
get_of dst ephe None = GetData dst ephe
get_of dst ephe (Some i) = GetKey dst ephe i

abbrev pub check_of : ℕ → Option ℕ → Command
check_of ephe None = CheckData ephe
check_of ephe (Some i) = CheckKey ephe i

abbrev pub change_of : ℕ → Option ℕ → Option ℕ → Command
change_of ephe None None = UnsetData ephe
change_of ephe None (Some r) = SetData ephe r
change_of ephe (Some i) None = UnsetKey ephe i
change_of ephe (Some i) (Some r) = SetKey ephe i r
