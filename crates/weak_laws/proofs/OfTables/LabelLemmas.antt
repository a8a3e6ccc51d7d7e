-- How many labels a command gives out.
use Rattle.std.proofs.Common.{◌≡◌, ◌+◌, List, ◌++◌, ap, arith}
use Rattle.model_core.specs.Counts.Counts.{labels_given}
use Rattle.model_core.specs.declared.command.Command.{Command}
use Rattle.model_core.specs.declared.entry.Entry.{Entry}
use Rattle.model_core.specs.declared.reply.Reply.{Reply}
use Rattle.model_core.specs.declared.state.Sizes.{Sizes}
use Rattle.model_core.specs.declared.state.State.{State}
use Rattle.model_core.specs.Domains.{IsWithinLimits}
use Rattle.model_core.proofs.Commands.SerialLemmas.{serial_next, serial_of}
use Rattle.weak_laws.specs.Tables.Thinning.{state_of}
use Rattle.weak_laws.specs.Tables.Performing.{Performed}
use Rattle.weak_laws.proofs.OfTables.StepLemmas.{inside, kept, left_is}

-- a command gives out a label exactly where it is an allocation that wasn't answered `full`
pub performed_labels : (z : Sizes) (limits : IsWithinLimits z) (old new : List Entry) (c : Command) (r : Reply) → Performed z old new c r
    → serial_of 0 (state_of z new) ≡ serial_of 0 (state_of z old) + labels_given c r
performed_labels z limits old new c r p =
    let s : State = state_of z (old ++ p.between) in
    let step = serial_next 0 s (inside z limits old new c r p) c p.full r p.replies in
    omega (arith, ap (serial_of 0) (left_is z limits old new c r p), (kept z limits old new c r p).serial, step)
