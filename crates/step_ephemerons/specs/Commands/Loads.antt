-- Loads of keys and data.
use Rattle.std.specs.Prelude.{◌≡◌, ℕ, ◌+◌, ◌*◌, ◌<◌, Bool, true, false, cond, nat_le, List, Option, Some, None, slice_set}
use Rattle.model_core.specs.declared.command.Command as command
use Rattle.model_core.specs.declared.command.Command.TheVariants.{GetKey, CheckKey, GetData, CheckData}
use Rattle.model_core.specs.declared.entry.Entry.{Entry}
use Rattle.model_core.specs.declared.entry.Entry.TheVariants.{Command}
use Rattle.model_core.specs.declared.graph.Value as model
use Rattle.model_core.specs.declared.graph.Value.TheVariants.{Nothing}
use Rattle.model_core.specs.declared.label.Label.{Label}
use Rattle.model_core.specs.declared.reply.Reply.{Reply}
use Rattle.model_core.specs.declared.reply.Reply.TheVariants.{Yes, No, BadType}
use Rattle.model_core.specs.declared.reply.Applied.TheVariants.{Replied}
use Rattle.model_core.specs.declared.state.State.{State}
use Rattle.model_core.specs.Commands.{shown, key_value}
use Rattle.model_core.specs.Domains.{register}
use Rattle.model_core.specs.Fronts.{EpheShape, HoldsShape}
use Rattle.heap_words.specs.declared.value.Value.{Value}
use Rattle.heap_words.specs.declared.value.Value.TheVariants.{Ref}
use Rattle.heap_words.specs.Values.{IsPackable, value_word}
use Rattle.heap_rule.specs.declared.change.Change.{Change}
use Rattle.heap_rule.specs.declared.config.Config.{Config}
use Rattle.heap_rule.specs.declared.view.DomainView.{DomainView}
use Rattle.heap_rule.specs.declared.view.Share.{Share}
use Rattle.heap_rule.specs.Places.{Shows}
use Rattle.heap_rule.specs.Changes.{changed, FitChanges}
use Rattle.heap_rule.specs.Rule.{state_of}
use Rattle.heap_rule.specs.Standing.{Acts, IsAt, Entered}
use Rattle.step_ephemerons.specs.Commands.Heads.{ephemeron_in, key_in, key_of, HasKey}

-- where an ephemeron at an address has its datum or a key
abbrev pub word_of : Option ℕ → ℕ → ℕ
word_of None a = a + 2
word_of (Some i) a = a + 3 + i

-- the datum, or the key that is named, of the ephemeron in register r, whose number of keys is known
pub record WeakMay (k : Config) (x : DomainView) (at r : ℕ) (key : Option ℕ) : Type 0 where
  pub address : ℕ
  pub keys : ℕ
  pub block : IsAt x r address
  pub word : at ≡ word_of key address
  pub known : HoldsShape (state_of k x.seen.front) x.own.number r (EpheShape keys)
  pub inside : HasKey key keys

-- a command that looks at a key or at the datum
abbrev pub IsLook : command.Command → Type 0
IsLook (GetKey dst ephe i) = Unit {0}
IsLook (CheckKey ephe i) = Unit {0}
IsLook (GetData dst ephe) = Unit {0}
IsLook (CheckData ephe) = Unit {0}
IsLook _ = ⊥

-- the register that it writes, if it writes one
abbrev pub target_in : command.Command → Option ℕ
target_in (GetKey dst ephe i) = Some dst
target_in (GetData dst ephe) = Some dst
target_in _ = None

-- the changes put what is read into this register, or leave the token's own data as it is
abbrev pub Puts : DomainView → List Change → Option ℕ → Type 0
Puts x changes None = (v : Value) → changed v changes x.own ≡ x.own
Puts x changes (Some dst) = (dst < 16) × ((v : Value) → changed v changes x.own ≡ record x.own { registers = slice_set x.own.registers dst v })

-- a command that writes a register has to know whether a cycle goes on beside running domains
abbrev pub KnowsArmed : DomainView → Option ℕ → Bool → Type 0
KnowsArmed x None armed = Unit {0}
KnowsArmed x (Some dst) armed = x.seen.share.armed ≡ Some armed

-- what a load asks: its entry is an own command that looks at this word
pub record WeakLoadMay (k : Config) (x : DomainView) (at : ℕ) (changes : List Change) (d : ℕ) (c : command.Command) : Type 0 where
  pub own : d ≡ x.own.number
  pub acts : Acts k x
  pub looks : IsLook c
  pub reads : WeakMay k x at (ephemeron_in c) (key_in c)
  pub puts : Puts x changes (target_in c)
  pub armed : Bool
  pub known_armed : KnowsArmed x (target_in c) armed
  pub fits : FitChanges changes

-- the same of the entry that is told
abbrev pub WeakLoadEntry : Config → DomainView → ℕ → List Change → Entry → Type 0
WeakLoadEntry k x at changes (Command d c false) = WeakLoadMay k x at changes d c
WeakLoadEntry k x at changes _ = ⊥

-- what a command answers that checks whether a value is full
abbrev pub full_reply : model.Value → Reply
full_reply Nothing = No
full_reply _ = Yes

-- what a command answers where its word holds this value
abbrev pub look_reply : command.Command → model.Value → Reply
look_reply (GetKey dst ephe i) held = shown held
look_reply (CheckKey ephe i) held = full_reply held
look_reply (GetData dst ephe) held = shown held
look_reply (CheckData ephe) held = full_reply held
look_reply _ held = BadType

abbrev pub weak_reply : Entry → model.Value → Reply
weak_reply (Command d c full) held = look_reply c held
weak_reply _ held = BadType

-- the register that an entry writes, if it writes one
abbrev pub target_of : Entry → Option ℕ
target_of (Command d c full) = target_in c
target_of _ = None

-- a key is a block or empty
abbrev pub MayHold : Option ℕ → model.Value → Type 0
MayHold None held = Unit {0}
MayHold (Some i) held = (label : Option Label) × (held ≡ key_value label)

-- the register that was written holds the value
abbrev pub Gets : State → ℕ → Option ℕ → model.Value → Type 0
Gets s d None held = Unit {0}
Gets s d (Some dst) held = register s d dst ≡ held

-- a block of the pools that a weak read brings while a cycle goes on beside is still to be darkened
abbrev pub weak_on : Config → Bool → ℕ → Value → Option ℕ
weak_on k true dst (Ref a) = cond (nat_le a (k.pools * 4096)) (Some dst) None
weak_on k _ dst _ = None

-- whether it is known that a cycle goes on beside running domains
abbrev pub is_armed : Option Bool → Bool
is_armed (Some armed) = armed
is_armed None = false

-- the register that is still to be darkened when the value has been put into this register, if it is put into one
abbrev pub weak_after : Config → Share → Option ℕ → Value → Option ℕ
weak_after k share None value = share.weak
weak_after k share (Some dst) value = weak_on k (is_armed share.armed) dst value

-- the domain then owes the darkening of what that register holds
abbrev pub owing_after : Config → Option ℕ → Value → DomainView → DomainView
owing_after k target value x = record x { seen = record x.seen { share = record x.seen.share { weak = weak_after k x.seen.share target value } } }

-- a load tells the key or the datum at its entry, and what it owes then
pub record WeakRead (k : Config) (e : Entry) (changes : List Change) (x : DomainView) (found : ℕ) (y : DomainView) : Type 0 where
  pub value : Value
  pub packable : IsPackable value
  pub word : found ≡ value_word value
  pub held : model.Value
  pub shows : Shows value held
  pub key : MayHold (key_of e) held
  pub register_is : Gets (state_of k y.seen.front) x.own.number (target_of e) held
  pub entered : Entered k e (Replied (weak_reply e held)) value changes (owing_after k (target_of e) value x) y
