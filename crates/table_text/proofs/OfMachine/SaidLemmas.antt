-- The reply of a call, and of a line.
use Rattle.std.proofs.Common.{◌≡◌, refl}
use Rattle.model_core.specs.declared.reply.Reply.{Reply}
use Rattle.model_core.specs.declared.reply.Reply.TheVariants as given
use Rattle.weak_laws.specs.Tables.Performing.{full_of}
use Rattle.table_text.specs.Machine.Said.{full_in, said}

-- a line is answered `full` exactly where its call is
pub said_full : (r : Reply) → full_in (said r) ≡ full_of r
said_full given.Done = refl
said_full (given.Int v) = refl
said_full (given.Block l) = refl
said_full given.BadType = refl
said_full given.BadIndex = refl
said_full given.Empty = refl
said_full given.Yes = refl
said_full given.No = refl
said_full given.Full = refl
said_full (given.Live blocks words) = refl
said_full (given.Fin number label) = refl
said_full (given.Last number) = refl
