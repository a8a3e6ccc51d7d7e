-- What a command on an ephemeron of one key answers and leaves.
use Rattle.std.proofs.Common.{◌≡◌, ◌≢◌, ℕ, ◌<◌, false, List, [], ◌∷◌, set, slice_get, length, is_some, option_and_then, option_map, Option, Some, None, refl, ap, ◌∙◌, get_or-set_same}
use Rattle.model_core.specs.declared.label.Label.{Label}
use Rattle.model_core.specs.declared.command.Command.{Command}
use Rattle.model_core.specs.declared.command.Command.TheVariants.{SetKey, UnsetKey, GetKey, CheckKey, SetData, UnsetData, GetData, FullMajor}
use Rattle.model_core.specs.declared.entry.Entry.TheVariants.{Command as CommandOf}
use Rattle.model_core.specs.declared.reply.Reply.{Reply}
use Rattle.model_core.specs.declared.reply.Reply.TheVariants.{Done, BadType, Yes, No}
use Rattle.model_core.specs.declared.reply.Applied.TheVariants.{Replied}
use Rattle.model_core.specs.declared.graph.Value.{Value}
use Rattle.model_core.specs.declared.graph.Value.TheVariants.{Int, Block, Nothing}
use Rattle.model_core.specs.declared.graph.Node.{Node}
use Rattle.model_core.specs.declared.graph.Node.TheVariants.{Plain, Ephe}
use Rattle.model_core.specs.declared.state.DomainState.{DomainState}
use Rattle.model_core.specs.declared.state.State.{State}
use Rattle.model_core.specs.Graph.{node_at, with_node, block_at, label_of}
use Rattle.model_core.specs.Domains.{domain_at, no_domain, with_block, register}
use Rattle.model_core.specs.Commands.{Outcome, only_replies, done_with, read_into, shown, tells, in_bounds, block_in, at_ephe, key_set, key_stored, datum_set, datum_stored, key_value, live_reply, outcome}
use Rattle.model_core.proofs.Commands.FrameLemmas.{part_set}
use Rattle.model_core.proofs.Commands.LeavesLemmas.{Leaves, leaves_block, leaves_read, leaves_reply}

-- what `check_key` answers
abbrev pub full_reply : Option Label → Reply
full_reply None = No
full_reply (Some k) = Yes

module _ (s : State) (d : ℕ) where
  abbrev mine : DomainState
  mine = domain_at s d

  pub leaves_full_major : Leaves s (CommandOf d FullMajor false) d s.graph mine.registers mine.serial (Replied (live_reply s))
  leaves_full_major = leaves_reply s d FullMajor (live_reply s) refl

  block_is : (r : ℕ) (l : Label) (n : Node) → register s d r ≡ Block l → node_at s.graph l ≡ Some n → block_in s d r ≡ Some (l, n)
  block_is r l n held node = ap (λ v. option_and_then (block_at s.graph) (label_of v)) held ∙ ap (option_map (λ m. (l, m))) node

  tells_key : (key : Option Label) → tells s (is_some key) ≡ only_replies s (full_reply key)
  tells_key None = refl
  tells_key (Some k) = refl

  stored_datum : (b : Option (Label × Node)) (v : Value) → v ≢ Nothing → datum_stored s b v ≡ at_ephe s b (datum_set s v)
  stored_datum b (Int z) some = refl
  stored_datum b (Block l) some = refl
  stored_datum b Nothing some = absurd (some refl)

  -- no label, so no key is set
  pub leaves_set_key_type : (ephe item : ℕ) → label_of (register s d item) ≡ None → Leaves s (CommandOf d (SetKey ephe 0 item) false) d s.graph mine.registers mine.serial (Replied BadType)
  leaves_set_key_type ephe item none = leaves_reply s d (SetKey ephe 0 item) BadType (ap (λ o. key_stored s 0 o (block_in s d ephe)) none)

  -- a plain block has no key
  pub leaves_get_key_plain : (dst ephe : ℕ) (l : Label) (tag : ℕ) (fields : List Value) → register s d ephe ≡ Block l → node_at s.graph l ≡ Some (Plain tag fields) → Leaves s (CommandOf d (GetKey dst ephe 0) false) d s.graph mine.registers mine.serial (Replied BadType)
  leaves_get_key_plain dst ephe l tag fields holds node = leaves_reply s d (GetKey dst ephe 0) BadType
      (ap (λ b. at_ephe s b (λ m keys datum. in_bounds s (slice_get keys 0) (λ k. read_into s d dst (key_value k)))) (block_is ephe l (Plain tag fields) holds node))

  -- an ephemeron of one key in a register
  module _ (ephe : ℕ) (l : Label) (key : Option Label) (datum : Value) (holds : register s d ephe ≡ Block l) (node : node_at s.graph l ≡ Some (Ephe (key ∷ []) datum)) where
    found : (f : Label → List (Option Label) → Value → Outcome) → at_ephe s (block_in s d ephe) f ≡ f l (key ∷ []) datum
    found f = ap (λ b. at_ephe s b f) (block_is ephe l (Ephe (key ∷ []) datum) holds node)

    pub leaves_get_key : d < length s.domains → (dst : ℕ) → Leaves s (CommandOf d (GetKey dst ephe 0) false) d s.graph (set mine.registers dst (key_value key)) mine.serial (Replied (shown (key_value key)))
    leaves_get_key inside dst = leaves_read s d inside (GetKey dst ephe 0) dst (key_value key) (found (λ l keys datum. in_bounds s (slice_get keys 0) (λ k. read_into s d dst (key_value k))))

    pub leaves_check_key : Leaves s (CommandOf d (CheckKey ephe 0) false) d s.graph mine.registers mine.serial (Replied (full_reply key))
    leaves_check_key = leaves_reply s d (CheckKey ephe 0) (full_reply key) (found (λ l keys datum. in_bounds s (slice_get keys 0) (λ k. tells s (is_some k))) ∙ tells_key key)

    pub leaves_get_data : d < length s.domains → (dst : ℕ) → Leaves s (CommandOf d (GetData dst ephe) false) d s.graph (set mine.registers dst datum) mine.serial (Replied (shown datum))
    leaves_get_data inside dst = leaves_read s d inside (GetData dst ephe) dst datum (found (λ l keys datum. read_into s d dst datum))

    pub leaves_set_key : (item : ℕ) (k : Label) → register s d item ≡ Block k → Leaves s (CommandOf d (SetKey ephe 0 item) false) d (with_node s.graph l (Ephe (Some k ∷ []) datum)) mine.registers mine.serial (Replied Done)
    leaves_set_key item k is = leaves_block s d (SetKey ephe 0 item) l (Ephe (Some k ∷ []) datum) (ap (λ v. key_stored s 0 (label_of v) (block_in s d ephe)) is ∙ found (key_set s 0 (Some k)))

    pub leaves_unset_key : Leaves s (CommandOf d (UnsetKey ephe 0) false) d (with_node s.graph l (Ephe (None ∷ []) datum)) mine.registers mine.serial (Replied Done)
    leaves_unset_key = leaves_block s d (UnsetKey ephe 0) l (Ephe (None ∷ []) datum) (found (key_set s 0 None))

    pub leaves_set_data : (item : ℕ) (v : Value) → register s d item ≡ v → v ≢ Nothing → Leaves s (CommandOf d (SetData ephe item) false) d (with_node s.graph l (Ephe (key ∷ []) v)) mine.registers mine.serial (Replied Done)
    leaves_set_data item v is some = leaves_block s d (SetData ephe item) l (Ephe (key ∷ []) v) (ap (datum_stored s (block_in s d ephe)) is ∙ (stored_datum (block_in s d ephe) v some ∙ found (datum_set s v)))

    pub leaves_unset_data : Leaves s (CommandOf d (UnsetData ephe) false) d (with_node s.graph l (Ephe (key ∷ []) Nothing)) mine.registers mine.serial (Replied Done)
    leaves_unset_data = leaves_block s d (UnsetData ephe) l (Ephe (key ∷ []) Nothing) (found (datum_set s Nothing))
