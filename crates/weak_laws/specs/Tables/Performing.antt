-- One command of the one domain of a heap, with the collector's entries that come before it.
use Rattle.std.specs.Prelude.{◌≡◌, ℕ, ◌+◌, Bool, true, cond, ◌&&◌, nat_le, List, [], ◌∷◌, ◌++◌, Option, Some}
use Rattle.model_core.specs.declared.label.Label.{Label}
use Rattle.model_core.specs.declared.command.Command as declared_command
use Rattle.model_core.specs.declared.command.Command.TheVariants.{PutInt, Copy, Forget, Alloc, AllocMaj, Load, Raw as NewRaw, Ephe as NewEphe, GetKey, GetData}
use Rattle.model_core.specs.declared.entry.Entry.{Entry}
use Rattle.model_core.specs.declared.entry.Entry.TheVariants.{Command, End, Ran}
use Rattle.model_core.specs.declared.graph.Value.{Value}
use Rattle.model_core.specs.declared.graph.Node.TheVariants.{Ephe}
use Rattle.model_core.specs.declared.reply.Reply.{Reply}
use Rattle.model_core.specs.declared.reply.Reply.TheVariants.{Full}
use Rattle.model_core.specs.declared.reply.Applied.TheVariants.{Replied}
use Rattle.model_core.specs.declared.state.Sizes.{Sizes}
use Rattle.model_core.specs.Domains.{domain_at}
use Rattle.model_core.specs.Commands.{is_allocation}
use Rattle.model_core.specs.Entries.{reply}
use Rattle.model_core.specs.History.{IsPrefix, Legal}
use Rattle.weak_laws.specs.Tables.Thinning.{AllCollector, Changes, Thin, Went, state_of}

-- the front has grown by entries of the collector and then by this command, and the reply is that of the state before it
pub record Performed (z : Sizes) (old new : List Entry) (c : declared_command.Command) (r : Reply) : Type 0 where
  pub between : List Entry
  pub collector : AllCollector between
  pub full : Bool
  pub appends : new ≡ old ++ between ++ Command 0 c full ∷ []
  pub legal : Legal z new
  pub replies : reply (state_of z (old ++ between)) (Command 0 c full) ≡ Replied r

-- whether an entry is a command that was answered `full`, as a number
abbrev pub refused : Entry → ℕ
refused (Command d c true) = 1
refused _ = 0

-- how many commands of a history were answered `full`
abbrev pub refusals : List Entry → ℕ
refusals [] = 0
refusals (e ∷ h) = refused e + refusals h

-- 1 for the reply `full`
abbrev pub full_of : Reply → ℕ
full_of Full = 1
full_of _ = 0

-- how many refusals a command and its reply are: only an allocation may be refused
abbrev pub refused_by : declared_command.Command → Reply → ℕ
refused_by c r = cond (is_allocation c) (full_of r) 0

-- whether a register is one that a call writes only where it is told to: 1 to 7, as a number
abbrev pub is_spared : ℕ → ℕ
is_spared r = cond (nat_le 1 r && nat_le r 7) 1 0

-- whether a command writes one of these, as a number
abbrev pub writes : declared_command.Command → ℕ
writes (PutInt dst value) = is_spared dst
writes (Copy dst src) = is_spared dst
writes (Forget dst) = is_spared dst
writes (Alloc dst tag fields) = is_spared dst
writes (AllocMaj dst tag fields) = is_spared dst
writes (Load dst src index) = is_spared dst
writes (NewRaw dst tag fields) = is_spared dst
writes (NewEphe dst keys) = is_spared dst
writes (GetKey dst ephe index) = is_spared dst
writes (GetData dst ephe) = is_spared dst
writes _ = 0

-- and an entry: the end of a trace and a run of a finaliser may write any
abbrev pub written : Entry → ℕ
written (Command d c full) = writes c
written (End d) = 1
written (Ran d) = 1
written _ = 0

-- how many entries of a history write one of these
abbrev pub writings : List Entry → ℕ
writings [] = 0
writings (e ∷ h) = written e + writings h

-- what the registers hold after a history
abbrev pub registers_of : Sizes → List Entry → List Value
registers_of z h = (domain_at (state_of z h) 0).registers

-- the front has grown legally. All blocks but these are as they were, or emptied by the collector, and the registers hold these values
pub record After (z : Sizes) (old new : List Entry) (own : List Label) (registers : List Value) : Type 0 where
  pub legal : Legal z new
  pub grows : IsPrefix old new
  pub changes : Changes (Went z old new) own (state_of z old).graph (state_of z new).graph
  pub registers_are : registers_of z new ≡ registers

-- what an ephemeron of one key still has, once the collector's entries have been made
pub record Remains (z : Sizes) (old new : List Entry) (key : Option Label) (datum : Value) : Type 0 where
  pub key_now : Option Label
  pub datum_now : Value
  pub left : Thin (Went z old new) (Ephe (key ∷ []) datum) (Some (Ephe (key_now ∷ []) datum_now))
