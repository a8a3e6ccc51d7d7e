-- A command of a map is one of a table's machine.
use Rattle.model_core.specs.declared.command.Command.{Command}
use Rattle.model_core.specs.declared.command.Command.TheVariants.{PutInt, Copy, Forget, Alloc, Load, Store, Cas, Ephe, SetKey, GetKey, SetData, GetData, FullMajor}
use Rattle.weak_tables.specs.Commands.{IsCallCommand}
use Rattle.weak_maps.specs.Commands.{IsMapCommand}

pub call_command : (c : Command) → IsMapCommand c → IsCallCommand c
call_command (PutInt dst value) is = is
call_command (Copy dst src) is = is
call_command (Forget dst) is = is
call_command (Alloc dst tag fields) is = is
call_command (Load dst src index) is = is
call_command (Store block index item) is = is
call_command (Cas block index expected item) is = is
call_command (Ephe dst keys) is = is
call_command (SetKey ephe index item) is = is
call_command (GetKey dst ephe index) is = is
call_command (SetData ephe item) is = is
call_command (GetData dst ephe) is = is
call_command FullMajor is = is
call_command _ is = absurd is
