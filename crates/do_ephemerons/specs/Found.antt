-- What a command on an ephemeron finds before it reads or writes a word.
use Rattle.std.specs.Prelude.{◌≡◌, ℕ, Option, Some, None}
use Rattle.model_core.specs.declared.command.Command.{Command}
use Rattle.model_core.specs.declared.reply.Reply.{Reply}
use Rattle.model_core.specs.declared.reply.Reply.TheVariants.{BadType, BadIndex}
use Rattle.model_core.specs.Fronts.{Shape, PlainShape, RawShape, EpheShape}
use Rattle.heap_rule.specs.Running.{Did}
use Rattle.heap_rule.specs.Standing.{IsAt}
use Rattle.heap_rule.specs.Token.{Token, SharedHeap, Holds, IsIn}
use Rattle.step_ephemerons.specs.Commands.Heads.{ephemeron_in, key_in, HasItem, HasKey, CountedKeys}

-- the number of keys of an ephemeron
abbrev pub keys_of : Shape → Option ℕ
keys_of (PlainShape size tag) = None
keys_of (RawShape size tag) = None
keys_of (EpheShape keys) = Some keys

-- `type` or `bounds`
abbrev pub IsRefusal : Reply → Type 0
IsRefusal BadType = Unit {0}
IsRefusal BadIndex = Unit {0}
IsRefusal _ = ⊥

-- the command is done, by a reply that says why nothing is read or written
pub record Refused (h : SharedHeap) (old new : Token) (c : Command) (r : Reply) : Type 0 where
  pub did : Did h old new c r
  pub refusal : IsRefusal r
  pub own : new.view.own ≡ old.view.own
  pub holds : Holds h.config new.view.own.registers

-- the block at the address is an ephemeron, has the key that the command names, and the command has what it sets. Its entry doesn't stand yet
pub record Found (h : SharedHeap) (old new : Token) (c : Command) (a : ℕ) : Type 0 where
  pub keys : ℕ
  pub here : IsIn new h
  pub block : IsAt old.view (ephemeron_in c) a
  pub counted : CountedKeys h.config a (ephemeron_in c) keys old.view new.view
  pub has : HasKey (key_in c) keys
  pub item : HasItem old.view c
