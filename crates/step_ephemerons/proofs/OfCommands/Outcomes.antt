-- What a command on an ephemeron answers and leaves: one law for each case.
use Rattle.std.proofs.Common.{◌≡◌, ◌≢◌, ℕ, ◌<◌, false, List, [], length, set, slice_get, is_some, Option, Some, None, sym, refl, ap, ◌∙◌}
use Rattle.std.proofs.lemmas.Option.{slice_get_past}
use Rattle.model_core.specs.declared.label.Label.{Label}
use Rattle.model_core.specs.declared.command.Command.{Command}
use Rattle.model_core.specs.declared.command.Command.TheVariants.{SetKey, UnsetKey, GetKey, CheckKey, SetData, UnsetData, GetData, CheckData}
use Rattle.model_core.specs.declared.entry.Entry.TheVariants.{Command as CommandOf}
use Rattle.model_core.specs.declared.reply.Reply.TheVariants.{BadType, BadIndex}
use Rattle.model_core.specs.declared.reply.Applied.TheVariants.{Replied}
use Rattle.model_core.specs.declared.graph.Value.{Value}
use Rattle.model_core.specs.declared.graph.Value.TheVariants.{Int, Block, Nothing}
use Rattle.model_core.specs.declared.graph.Node.{Node}
use Rattle.model_core.specs.declared.graph.Node.TheVariants.{Plain, Raw, Ephe}
use Rattle.model_core.specs.declared.state.State.{State}
use Rattle.model_core.specs.declared.state.Mode.TheVariants.{Open}
use Rattle.model_core.specs.Graph.{label_of}
use Rattle.model_core.specs.Domains.{domain_at, with_block, register, label_in}
use Rattle.model_core.specs.Commands.{Outcome, only_replies, done_with, in_bounds, read_into, tells, block_in, at_ephe, key_set, key_stored, datum_set, key_value, is_full_value, outcome, FitsMode}
use Rattle.model_core.proofs.Commands.LeavesLemmas.{Leaves, leaves_reply, leaves_read}
use Rattle.model_core.proofs.Commands.MoveLemmas.{registers_one}
use Rattle.heap_rule.specs.declared.view.DomainView.{DomainView}
use Rattle.step_run.proofs.OfFields.EphemeronEntries.{some_stored}
use Rattle.step_ephemerons.specs.Commands.Heads.{ephemeron_in, key_in, HasItem, LacksKey}
use Rattle.step_ephemerons.specs.Commands.Loads.{IsLook, target_in, full_reply, look_reply}

-- what the datum or the key that is named holds
abbrev pub Held : Option ℕ → List (Option Label) → Value → Value → Type 0
Held None keys datum v = v ≡ datum
Held (Some i) keys datum v = (key : Option Label) × (slice_get keys i ≡ Some key) × (v ≡ key_value key)

-- an ephemeron with another datum, or with another key
abbrev pub stored_node : Option ℕ → List (Option Label) → Value → Value → Node
stored_node None keys datum v = Ephe keys v
stored_node (Some i) keys datum v = Ephe (set keys i (label_of v)) datum

-- the registers with a value in the one that is named, if one is
abbrev pub put_in : Option ℕ → Value → List Value → List Value
put_in None v registers = registers
put_in (Some dst) v registers = set registers dst v

tells_key : (s : State) (key : Option Label) → tells s (is_some key) ≡ only_replies s (full_reply (key_value key))
tells_key s None = refl
tells_key s (Some l) = refl

tells_datum : (s : State) (v : Value) → tells s (is_full_value v) ≡ only_replies s (full_reply v)
tells_datum s (Int z) = refl
tells_datum s (Block l) = refl
tells_datum s Nothing = refl

-- such a command registers no finaliser, and waits for what most commands wait for
pub unregistering_item : (x : DomainView) (c : Command) → HasItem x c → registers_one c ≡ false
unregistering_item x (SetKey ephe i item) has = refl
unregistering_item x (UnsetKey ephe i) has = refl
unregistering_item x (GetKey dst ephe i) has = refl
unregistering_item x (CheckKey ephe i) has = refl
unregistering_item x (SetData ephe item) has = refl
unregistering_item x (UnsetData ephe) has = refl
unregistering_item x (GetData dst ephe) has = refl
unregistering_item x (CheckData ephe) has = refl
unregistering_item x _ has = absurd has

pub look_item : (x : DomainView) (c : Command) → IsLook c → HasItem x c
look_item x (GetKey dst ephe i) looks = tt
look_item x (CheckKey ephe i) looks = tt
look_item x (GetData dst ephe) looks = tt
look_item x (CheckData ephe) looks = tt
look_item x _ looks = absurd looks

module _ (s : State) (d : ℕ) where
  pub fits_item : (x : DomainView) (c : Command) → HasItem x c → (s.mode ≡ Open) × ((domain_at s d).queue ≡ []) → FitsMode s d c
  fits_item x (SetKey ephe i item) has fits = fits
  fits_item x (UnsetKey ephe i) has fits = fits
  fits_item x (GetKey dst ephe i) has fits = fits
  fits_item x (CheckKey ephe i) has fits = fits
  fits_item x (SetData ephe item) has fits = fits
  fits_item x (UnsetData ephe) has fits = fits
  fits_item x (GetData dst ephe) has fits = fits
  fits_item x (CheckData ephe) has fits = fits
  fits_item x _ has fits = absurd has

  -- the registers of the state have what the command sets
  abbrev pub Brings : Command → Type 0
  Brings (SetKey ephe i item) = (l : Label) × (register s d item ≡ Block l)
  Brings (UnsetKey ephe i) = Unit {0}
  Brings (GetKey dst ephe i) = Unit {0}
  Brings (CheckKey ephe i) = Unit {0}
  Brings (SetData ephe item) = register s d item ≢ Nothing
  Brings (UnsetData ephe) = Unit {0}
  Brings (GetData dst ephe) = Unit {0}
  Brings (CheckData ephe) = Unit {0}
  Brings _ = ⊥

  -- what a command does with its ephemeron
  abbrev pub does : Command → Label → List (Option Label) → Value → Outcome
  does (SetKey ephe i item) = key_set s i (label_in s d item)
  does (UnsetKey ephe i) = key_set s i None
  does (GetKey dst ephe i) = λ l keys datum. in_bounds s (slice_get keys i) (λ k. read_into s d dst (key_value k))
  does (CheckKey ephe i) = λ l keys datum. in_bounds s (slice_get keys i) (λ k. tells s (is_some k))
  does (SetData ephe item) = datum_set s (register s d item)
  does (UnsetData ephe) = datum_set s Nothing
  does (GetData dst ephe) = λ l keys datum. read_into s d dst datum
  does (CheckData ephe) = λ l keys datum. tells s (is_full_value datum)
  does _ = λ l keys datum. only_replies s BadType

  outcome_is : (c : Command) → Brings c → outcome s d c ≡ at_ephe s (block_in s d (ephemeron_in c)) (does c)
  outcome_is (SetKey ephe i item) has = let e : label_in s d item ≡ Some has.0 = ap label_of has.1 in
      ap (λ o. key_stored s i o (block_in s d ephe)) e ∙ sym (ap (λ o. at_ephe s (block_in s d ephe) (key_set s i o)) e)
  outcome_is (UnsetKey ephe i) has = refl
  outcome_is (GetKey dst ephe i) has = refl
  outcome_is (CheckKey ephe i) has = refl
  outcome_is (SetData ephe item) has = some_stored s (block_in s d ephe) (register s d item) has
  outcome_is (UnsetData ephe) has = refl
  outcome_is (GetData dst ephe) has = refl
  outcome_is (CheckData ephe) has = refl
  outcome_is _ has = absurd has

  -- a plain block is no ephemeron
  pub plain_outcome : (c : Command) (l : Label) (tag : ℕ) (fields : List Value) → Brings c → block_in s d (ephemeron_in c) ≡ Some (l, Plain tag fields) → outcome s d c ≡ only_replies s BadType
  plain_outcome c l tag fields has block = outcome_is c has ∙ ap (λ b. at_ephe s b (does c)) block

  -- nor is a raw one
  pub raw_outcome : (c : Command) (l : Label) (tag : ℕ) (fields : List Value) → Brings c → block_in s d (ephemeron_in c) ≡ Some (l, Raw tag fields) → outcome s d c ≡ only_replies s BadType
  raw_outcome c l tag fields has block = outcome_is c has ∙ ap (λ b. at_ephe s b (does c)) block

  past_is : (c : Command) (l : Label) (keys : List (Option Label)) (datum : Value) → Brings c → LacksKey (key_in c) (length keys) → does c l keys datum ≡ only_replies s BadIndex
  past_is (SetKey ephe i item) l keys datum has past = ap (λ o. in_bounds s o (λ _. done_with (with_block s l (Ephe (set keys i (label_in s d item)) datum)))) (slice_get_past keys i past)
  past_is (UnsetKey ephe i) l keys datum has past = ap (λ o. in_bounds s o (λ _. done_with (with_block s l (Ephe (set keys i None) datum)))) (slice_get_past keys i past)
  past_is (GetKey dst ephe i) l keys datum has past = ap (λ o. in_bounds s o (λ k. read_into s d dst (key_value k))) (slice_get_past keys i past)
  past_is (CheckKey ephe i) l keys datum has past = ap (λ o. in_bounds s o (λ k. tells s (is_some k))) (slice_get_past keys i past)
  past_is (SetData ephe item) l keys datum has past = absurd past
  past_is (UnsetData ephe) l keys datum has past = absurd past
  past_is (GetData dst ephe) l keys datum has past = absurd past
  past_is (CheckData ephe) l keys datum has past = absurd past
  past_is _ l keys datum has past = absurd has

  -- nor does an ephemeron have a key past the end of its keys
  pub past_outcome : (c : Command) (l : Label) (keys : List (Option Label)) (datum : Value) → Brings c → LacksKey (key_in c) (length keys) → block_in s d (ephemeron_in c) ≡ Some (l, Ephe keys datum) → outcome s d c ≡ only_replies s BadIndex
  past_outcome c l keys datum has past block = outcome_is c has ∙ (ap (λ b. at_ephe s b (does c)) block ∙ past_is c l keys datum has past)

  -- what a command that looks leaves and answers
  pub leaves_look : d < length s.domains → (c : Command) (l : Label) (keys : List (Option Label)) (datum v : Value) → IsLook c → block_in s d (ephemeron_in c) ≡ Some (l, Ephe keys datum) → Held (key_in c) keys datum v
      → Leaves s (CommandOf d c false) d s.graph (put_in (target_in c) v (domain_at s d).registers) (domain_at s d).serial (Replied (look_reply c v))
  leaves_look inside (GetKey dst ephe i) l keys datum v looks block held = let e = held.2 in leaves_read s d inside (GetKey dst ephe i) dst v
      (ap (λ b. at_ephe s b (does (GetKey dst ephe i))) block ∙ (ap (λ o. in_bounds s o (λ k. read_into s d dst (key_value k))) held.1 ∙ ap (read_into s d dst) (sym e)))
  leaves_look inside (CheckKey ephe i) l keys datum v looks block held = let e = held.2 in leaves_reply s d (CheckKey ephe i) (full_reply v)
      (ap (λ b. at_ephe s b (does (CheckKey ephe i))) block ∙ (ap (λ o. in_bounds s o (λ k. tells s (is_some k))) held.1 ∙ (tells_key s held.0 ∙ ap (λ z. only_replies s (full_reply z)) (sym e))))
  leaves_look inside (GetData dst ephe) l keys datum v looks block held = leaves_read s d inside (GetData dst ephe) dst v
      (ap (λ b. at_ephe s b (does (GetData dst ephe))) block ∙ ap (read_into s d dst) (sym held))
  leaves_look inside (CheckData ephe) l keys datum v looks block held = leaves_reply s d (CheckData ephe) (full_reply v)
      (ap (λ b. at_ephe s b (does (CheckData ephe))) block ∙ (tells_datum s datum ∙ ap (λ z. only_replies s (full_reply z)) (sym held)))
  leaves_look inside _ l keys datum v looks block held = absurd looks

  -- a command that sets the key
  pub set_outcome : (c : Command) (l : Label) (keys : List (Option Label)) (datum : Value) (i : ℕ) (key old : Option Label) → Brings c → does c l keys datum ≡ key_set s i key l keys datum → slice_get keys i ≡ Some old
      → block_in s d (ephemeron_in c) ≡ Some (l, Ephe keys datum) → outcome s d c ≡ done_with (with_block s l (Ephe (set keys i key) datum))
  set_outcome c l keys datum i key old has sets there block = outcome_is c has ∙ (ap (λ b. at_ephe s b (does c)) block ∙ (sets ∙ ap (λ o. in_bounds s o (λ _. done_with (with_block s l (Ephe (set keys i key) datum)))) there))

  -- and one that sets the datum
  pub datum_outcome : (c : Command) (l : Label) (keys : List (Option Label)) (datum v : Value) → Brings c → does c l keys datum ≡ datum_set s v l keys datum → block_in s d (ephemeron_in c) ≡ Some (l, Ephe keys datum)
      → outcome s d c ≡ done_with (with_block s l (Ephe keys v))
  datum_outcome c l keys datum v has sets block = outcome_is c has ∙ (ap (λ b. at_ephe s b (does c)) block ∙ sets)
