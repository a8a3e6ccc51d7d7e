-- Commands, replies and answers as C has them.
use Rattle.std.specs.Prelude.{ℕ, pos, ◌==◌, Option, Some, None, if◌then◌else◌}
use Rattle.model_core.specs.declared.command.Command.{Command}
use Rattle.model_core.specs.declared.command.Command.TheVariants as op
use Rattle.model_core.specs.declared.reply.Reply.{Reply}
use Rattle.model_core.specs.declared.reply.Reply.TheVariants.{Done, Int, Block, BadType, BadIndex, Empty, Yes, No, Full, Live, Fin, Last}
use Rattle.run_turns.specs.declared.singly.counting.Stats.{Stats}
use Rattle.run_turns.specs.declared.singly.turning.Came.{Came}
use Rattle.run_turns.specs.declared.singly.turning.Came.TheVariants as came
use Rattle.run_turns.specs.declared.singly.refusing.Refusal.TheVariants as lacks
use Rattle.run_seats.specs.declared.shared.shared.Refused.{Refused}
use Rattle.run_seats.specs.declared.shared.shared.Refused.TheVariants.{Closed, Busy, Unfit}
use Rattle.camlheap_c.specs.declared.crossing.CamlheapCommand.{CamlheapCommand}
use Rattle.camlheap_c.specs.declared.crossing.CamlheapReply.{CamlheapReply}
use Rattle.camlheap_c.specs.declared.crossing.CamlheapStats.{CamlheapStats}

-- the command that these numbers stand for: the operation says which of them count
abbrev pub command_as : CamlheapCommand → Option Command
command_as c =
    if c.op == 0 then Some (op.PutInt c.dst c.value) else
    if c.op == 1 then Some (op.Copy c.dst c.a) else
    if c.op == 2 then Some (op.Forget c.dst) else
    if c.op == 3 then Some (op.Alloc c.dst c.tag c.n) else
    if c.op == 4 then Some (op.AllocMaj c.dst c.tag c.n) else
    if c.op == 5 then Some (op.Raw c.dst c.tag c.n) else
    if c.op == 6 then Some (op.Load c.dst c.a c.n) else
    if c.op == 7 then Some (op.Store c.a c.n c.b) else
    if c.op == 8 then Some (op.Cas c.a c.n c.dst c.b) else
    if c.op == 9 then Some (op.Ephe c.dst c.n) else
    if c.op == 10 then Some (op.SetKey c.a c.n c.b) else
    if c.op == 11 then Some (op.UnsetKey c.a c.n) else
    if c.op == 12 then Some (op.GetKey c.dst c.a c.n) else
    if c.op == 13 then Some (op.CheckKey c.a c.n) else
    if c.op == 14 then Some (op.SetData c.a c.b) else
    if c.op == 15 then Some (op.UnsetData c.a) else
    if c.op == 16 then Some (op.GetData c.dst c.a) else
    if c.op == 17 then Some (op.CheckData c.a) else
    if c.op == 18 then Some op.Poll else
    if c.op == 19 then Some op.Minor else
    if c.op == 20 then Some op.Major else
    if c.op == 21 then Some op.FullMajor else
    if c.op == 22 then Some (op.Finalise c.a c.number c.dst) else
    if c.op == 23 then Some (op.FinaliseLast c.a c.number) else
    None

-- a reply of this kind with no number
abbrev pub plain : ℕ → CamlheapReply
plain kind = record { kind = kind; domain = 0; serial = 0; number = 0; value = pos 0; blocks = 0; words = 0 }

-- what C reads of a reply: its kind, and the numbers of that kind; the others are 0
abbrev pub reply_form : Reply → CamlheapReply
reply_form Done = plain 0
reply_form (Int v) = record (plain 1) { value = v }
reply_form (Block l) = record (plain 2) { domain = l.domain; serial = l.serial }
reply_form BadType = plain 3
reply_form BadIndex = plain 4
reply_form Empty = plain 5
reply_form Yes = plain 6
reply_form No = plain 7
reply_form Full = plain 8
reply_form (Live blocks words) = record (plain 9) { blocks = blocks; words = words }
reply_form (Fin number label) = record (plain 10) { number = number; domain = label.domain; serial = label.serial }
reply_form (Last number) = record (plain 11) { number = number }

-- how far a turn came, as a number
abbrev pub came_form : Came → ℕ
came_form came.On = 1
came_form came.Nowhere = 2
came_form came.Done = 3
came_form came.Ended = 4

-- why a command isn't taken, as a number
abbrev pub refused_form : Refused → ℕ
refused_form Closed = 17
refused_form Busy = 18
refused_form (Unfit lacks.Shape) = 19
refused_form (Unfit lacks.NoEphemeron) = 20
refused_form (Unfit lacks.NoFinaliser) = 21
refused_form (Unfit lacks.NoLabel) = 22

-- what a domain counts, as C reads it
abbrev pub stats_form : Stats → CamlheapStats
stats_form s = record { labels = s.labels; young_words = s.young_words; remembered = s.remembered; ephemerons = s.ephemerons; finals = s.finals; lasts = s.lasts; waiting = s.waiting; arrivals = s.arrivals }
