-- What a map's commands register.
use Rattle.std.proofs.Common.{◌≡◌, refl}
use Rattle.model_core.specs.declared.command.Command as model
use Rattle.model_core.specs.declared.command.Command.TheVariants.{PutInt, Copy, Forget, Alloc, Load, Store, Cas, Ephe, SetKey, GetKey, SetData, GetData, FullMajor}
use Rattle.run_turns.specs.Tries.{registrations_of}
use Rattle.weak_maps.specs.Commands.{IsMapCommand}

-- the commands of the maps register no finaliser
pub registers_none : (c : model.Command) → IsMapCommand c → registrations_of c ≡ 0
registers_none (PutInt dst value) is = refl
registers_none (Copy dst src) is = refl
registers_none (Forget dst) is = refl
registers_none (Alloc dst tag fields) is = refl
registers_none (Load dst src index) is = refl
registers_none (Store block index item) is = refl
registers_none (Cas block index expected item) is = refl
registers_none (Ephe dst keys) is = refl
registers_none (SetKey ephe index item) is = refl
registers_none (GetKey dst ephe index) is = refl
registers_none (SetData ephe item) is = refl
registers_none (GetData dst ephe) is = refl
registers_none FullMajor is = refl
registers_none _ is = absurd is
