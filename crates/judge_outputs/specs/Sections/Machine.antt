-- The machine of several domains: that of one whose registers are those of all. Register r of domain d is register 5 d + r there, so a key goes only where no domain's register holds it.
use Rattle.std.specs.Prelude.{◌≡◌, ◌⊎◌, ℕ, ◌+◌, ◌*◌, [], replicate, None}
use Rattle.table_text.specs.declared.version.Version.TheVariants.{Two}
use Rattle.table_text.specs.declared.line.TableLine.{TableLine}
use Rattle.table_text.specs.declared.line.TableLine.TheVariants.{Key, Forget, Put, Get, Del, SetWeak, GetWeak, Count, FullMajor}
use Rattle.table_text.specs.declared.machine.reply.LineReply.{LineReply}
use Rattle.table_text.specs.declared.machine.reply.LineReply.TheVariants.{Full}
use Rattle.table_text.specs.Machine.Machine.{TableState, MayGo, Effect, HasItsKey, made_by}

-- a line of a domain, as the machine has its registers, which a text numbers 1 to 5
abbrev pub placed : ℕ → TableLine → TableLine
placed d (Key r) = Key (5 * d + r)
placed d (Forget r) = Forget (5 * d + r)
placed d (Put r v) = Put (5 * d + r) v
placed d (Get r) = Get (5 * d + r)
placed d (Del r) = Del (5 * d + r)
placed d (SetWeak i r) = SetWeak i (5 * d + r)
placed d (GetWeak r i) = GetWeak (5 * d + r) i
placed d Count = Count
placed d FullMajor = FullMajor

-- before the first line nothing holds a key
abbrev pub opened_by : ℕ → TableState
opened_by domains = record { registers = replicate (5 * domains) None; bindings = []; slots = replicate 16 None }

-- when a line may be answered `full`: it makes a block, and has the key that it binds. No sizes are asked: the domains share the pools, and what one leaves of them another takes
pub record MayBeFull (l : TableLine) (s : TableState) : Type 0 where
  pub allocates : made_by Two l ≡ 0 → ⊥
  pub key : HasItsKey s l

-- a line, as it is placed, is answered and leaves this state. `full` changes nothing
pub record SharedStep (l : TableLine) (s : TableState) (a : LineReply) (t : TableState) : Type 0 where
  pub left : TableState
  pub goes : MayGo s left
  pub does : Effect left l a t ⊎ ((a ≡ Full) × (t ≡ left) × MayBeFull l left)
