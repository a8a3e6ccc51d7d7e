-- Loads of the heads of ephemerons.
use Rattle.std.specs.Prelude.{◌≡◌, ◌≢◌, ℕ, ◌+◌, ◌<◌, ◌≤◌, false, Option, Some, None, []}
use Rattle.model_core.specs.declared.command.Command as model
use Rattle.model_core.specs.declared.command.Command.TheVariants.{SetKey, UnsetKey, GetKey, CheckKey, SetData, UnsetData, GetData, CheckData}
use Rattle.model_core.specs.declared.entry.Entry.{Entry}
use Rattle.model_core.specs.declared.entry.Entry.TheVariants.{Command}
use Rattle.model_core.specs.declared.reply.Reply.TheVariants.{BadType, BadIndex}
use Rattle.model_core.specs.declared.reply.Applied.TheVariants.{Replied}
use Rattle.model_core.specs.Fronts.{Shape, PlainShape, RawShape, EpheShape, HoldsShape}
use Rattle.heap_words.specs.declared.value.Value.{Value}
use Rattle.heap_words.specs.declared.value.Value.TheVariants.{Ref, Nothing}
use Rattle.heap_rule.specs.declared.config.Config.{Config}
use Rattle.heap_rule.specs.declared.view.DomainView.{DomainView}
use Rattle.heap_rule.specs.Layout.{heap_words}
use Rattle.heap_rule.specs.Places.{IsHeadOf}
use Rattle.heap_rule.specs.Changes.{value_at}
use Rattle.heap_rule.specs.Rule.{state_of}
use Rattle.heap_rule.specs.Standing.{Acts, IsAt, Entered, Looked}

-- the register of the ephemeron that a command looks into
abbrev pub ephemeron_in : model.Command → ℕ
ephemeron_in (SetKey ephe i item) = ephe
ephemeron_in (UnsetKey ephe i) = ephe
ephemeron_in (GetKey dst ephe i) = ephe
ephemeron_in (CheckKey ephe i) = ephe
ephemeron_in (SetData ephe item) = ephe
ephemeron_in (UnsetData ephe) = ephe
ephemeron_in (GetData dst ephe) = ephe
ephemeron_in (CheckData ephe) = ephe
ephemeron_in _ = 0

-- which key it names. A command on the datum names none
abbrev pub key_in : model.Command → Option ℕ
key_in (SetKey ephe i item) = Some i
key_in (UnsetKey ephe i) = Some i
key_in (GetKey dst ephe i) = Some i
key_in (CheckKey ephe i) = Some i
key_in _ = None

-- the address of a block
abbrev pub IsBlockValue : Value → Type 0
IsBlockValue (Ref a) = Unit {0}
IsBlockValue _ = ⊥

-- a command on an ephemeron that has what it sets: a key that is set is a block, and a datum that is set is something
abbrev pub HasItem : DomainView → model.Command → Type 0
HasItem x (SetKey ephe i item) = (item < 16) × IsBlockValue (value_at x.own.registers item)
HasItem x (UnsetKey ephe i) = Unit {0}
HasItem x (GetKey dst ephe i) = Unit {0}
HasItem x (CheckKey ephe i) = Unit {0}
HasItem x (SetData ephe item) = (item < 16) × (value_at x.own.registers item ≢ Nothing)
HasItem x (UnsetData ephe) = Unit {0}
HasItem x (GetData dst ephe) = Unit {0}
HasItem x (CheckData ephe) = Unit {0}
HasItem x _ = ⊥

-- an own command on an ephemeron that looks into the block at the address
abbrev pub EpheHeadEntry : DomainView → ℕ → Entry → Type 0
EpheHeadEntry x a (Command d c false) = (d ≡ x.own.number) × IsAt x (ephemeron_in c) a × HasItem x c
EpheHeadEntry x a _ = ⊥

-- what a head load asks
pub record EpheHeadMay (k : Config) (x : DomainView) (a : ℕ) (e : Entry) : Type 0 where
  pub acts : Acts k x
  pub entry : EpheHeadEntry x a e

-- an ephemeron with so many keys has the key that is named, if one is
abbrev pub HasKey : Option ℕ → ℕ → Type 0
HasKey None keys = Unit {0}
HasKey (Some i) keys = i < keys

-- and it has no such key
abbrev pub LacksKey : Option ℕ → ℕ → Type 0
LacksKey None keys = ⊥
LacksKey (Some i) keys = keys ≤ i

-- the register's block is an ephemeron with so many keys, which lie in the heap
pub record CountedKeys (k : Config) (a r keys : ℕ) (x y : DomainView) : Type 0 where
  pub looked : Looked k x y
  pub knows : HoldsShape (state_of k y.seen.front) x.own.number r (EpheShape keys)
  pub inside : a + keys + 2 ≤ heap_words k

-- the entry stands at the step exactly where its key is past the end of the keys
pub record KeysTold (k : Config) (a : ℕ) (e : Entry) (r : ℕ) (key : Option ℕ) (keys : ℕ) (x y : DomainView) : Type 0 where
  pub below : HasKey key keys → CountedKeys k a r keys x y
  pub past : LacksKey key keys → Entered k e (Replied BadIndex) Nothing [] x y

-- the register and the key of an entry
abbrev pub subject : Entry → ℕ
subject (Command d c full) = ephemeron_in c
subject _ = 0

abbrev pub key_of : Entry → Option ℕ
key_of (Command d c full) = key_in c
key_of _ = None

-- and where the block is no ephemeron
abbrev pub EpheHeadCase : Config → ℕ → Entry → Shape → DomainView → DomainView → Type 0
EpheHeadCase k a e (PlainShape size tag) x y = Entered k e (Replied BadType) Nothing [] x y
EpheHeadCase k a e (RawShape size tag) x y = Entered k e (Replied BadType) Nothing [] x y
EpheHeadCase k a e (EpheShape keys) x y = KeysTold k a e (subject e) (key_of e) keys x y

-- a head load tells the shape of the block
pub record EpheHeadTold (k : Config) (a : ℕ) (e : Entry) (x : DomainView) (found : ℕ) (y : DomainView) : Type 0 where
  pub shape : Shape
  pub head : IsHeadOf shape found
  pub told : EpheHeadCase k a e shape x y
