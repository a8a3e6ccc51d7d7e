-- What each command answers, and the state that it leaves.
use Rattle.std.specs.Prelude.{◌≡◌, ℕ, ◌+◌, ◌*◌, ◌≤◌, Bool, true, false, is_some, List, [], ◌∷◌, ◌++◌, length, replicate, sum_by, slice_get, slice_set, option_and_then, pos, Option, Some, None}
use Rattle.std.specs.List.{list_all}
use Rattle.std.specs.Ordering.{int_eq}
use Rattle.model_core.specs.declared.label.Label.{Label}
use Rattle.model_core.specs.declared.command.Command.{Command}
use Rattle.model_core.specs.declared.command.Command.TheVariants.{PutInt, Copy, Forget, Alloc, AllocMaj, Load, Store, Raw as NewRaw, Cas, Ephe as NewEphe, SetKey, UnsetKey, GetKey, CheckKey, SetData, UnsetData, GetData, CheckData, Finalise, FinaliseLast, Poll, Minor, Major, FullMajor, Spawn, Argument, PutResult, Join}
use Rattle.model_core.specs.declared.reply.Reply.{Reply}
use Rattle.model_core.specs.declared.reply.Reply.TheVariants.{Done, Int, Block, BadType, BadIndex, Empty, Yes, No, Full, Live}
use Rattle.model_core.specs.declared.graph.Value.{Value}
use Rattle.model_core.specs.declared.graph.Value.TheVariants.{Int as IntValue, Block as BlockValue, Nothing}
use Rattle.model_core.specs.declared.graph.Node.{Node}
use Rattle.model_core.specs.declared.graph.Node.TheVariants.{Plain, Raw, Ephe}
use Rattle.model_core.specs.declared.state.Mode.TheVariants.{Open, Answer}
use Rattle.model_core.specs.declared.state.Finaliser.{Finaliser}
use Rattle.model_core.specs.declared.state.LastFinaliser.{LastFinaliser}
use Rattle.model_core.specs.declared.state.State.{State}
use Rattle.model_core.specs.Graph.{same_label, block_at, words_at, IsPlaceOf}
use Rattle.model_core.specs.Domains.{domain_at, with_domain, register, with_register, label_in, with_block, reach, reserve}

-- what a command answers, and the state that it leaves
pub record Outcome : Type 0 where
  pub reply : Reply
  pub state : State

-- a reply that leaves the state as it is
abbrev pub only_replies : State → Reply → Outcome
only_replies s r = record { reply = r; state = s }

-- the reply `ok`, with a new state
abbrev pub done_with : State → Outcome
done_with s = record { reply = Done; state = s }

-- the reply that shows a value
abbrev pub shown : Value → Reply
shown (IntValue z) = Int z
shown (BlockValue l) = Block l
shown Nothing = Empty

-- the value goes into a register, and is shown
abbrev pub read_into : State → ℕ → ℕ → Value → Outcome
read_into s d dst v = record { reply = shown v; state = with_register s d dst v }

-- yes or no
abbrev pub tells : State → Bool → Outcome
tells s true = only_replies s Yes
tells s false = only_replies s No

-- a value that may be missing: past the end of the fields or keys
abbrev pub in_bounds : {A : Type 0} → State → Option A → (A → Outcome) → Outcome
in_bounds s None f = only_replies s BadIndex
in_bounds s (Some a) f = f a

-- a new block with the domain's next label, which register dst then holds
abbrev pub allocated : State → ℕ → ℕ → Node → Outcome
allocated s d dst n =
    let serial = (domain_at s d).serial + 1 in
    let l : Label = record { domain = d; serial = serial } in
    let made = with_domain s d (record (domain_at s d) { serial = serial }) in
    record {
      reply = Block l;
      state = with_register (record made { graph = s.graph ++ (l, n) ∷ []; kept = s.kept + 1 }) d dst (BlockValue l);
    }

-- a plain block at the start: each field is 0
abbrev pub new_plain : ℕ → ℕ → Node
new_plain tag fields = Plain tag (replicate fields (IntValue (pos 0)))

-- a raw block at the start: each field is 0
abbrev pub new_raw : ℕ → ℕ → Node
new_raw tag fields = Raw tag (replicate fields (IntValue (pos 0)))

-- the block in a register: its label and its node
abbrev pub block_in : State → ℕ → ℕ → Option (Label × Node)
block_in s d r = option_and_then (block_at s.graph) (label_in s d r)

-- where the block in a register stands in the graph
pub record IsPlaceInRegister (s : State) (d r i : ℕ) : Type 0 where
  pub label : Label
  pub held : register s d r ≡ BlockValue label
  pub place : IsPlaceOf s.graph label i

-- `load`, by the block in the source register
abbrev pub loaded : State → ℕ → ℕ → ℕ → Option (Label × Node) → Outcome
loaded s d dst index (Some (l, Plain tag fields)) = in_bounds s (slice_get fields index) (read_into s d dst)
loaded s d dst index (Some (l, Raw tag fields)) = in_bounds s (slice_get fields index) (read_into s d dst)
loaded s d dst index (Some (l, Ephe keys datum)) = only_replies s BadType
loaded s d dst index None = only_replies s BadType

-- what a command does with a field of a block: its label, the block with v in the field, and what the field holds. A plain block takes any value but nothing, a raw block only integers
abbrev pub at_field : State → ℕ → Option (Label × Node) → Value → (Label → Node → Value → Outcome) → Outcome
at_field s index None v f = only_replies s BadType
at_field s index (Some (l, Ephe keys datum)) v f = only_replies s BadType
at_field s index (Some (l, Plain tag fields)) Nothing f = only_replies s BadType
at_field s index (Some (l, Plain tag fields)) v f = in_bounds s (slice_get fields index) (f l (Plain tag (slice_set fields index v)))
at_field s index (Some (l, Raw tag fields)) (IntValue z) f = in_bounds s (slice_get fields index) (f l (Raw tag (slice_set fields index (IntValue z))))
at_field s index (Some (l, Raw tag fields)) _ f = only_replies s BadType

-- a block is replaced, whatever the field held
abbrev pub written_over : State → Label → Node → Value → Outcome
written_over s l new held = done_with (with_block s l new)

-- `store`, by the block in the register and the value to be stored
abbrev pub stored : State → ℕ → Option (Label × Node) → Value → Outcome
stored s index block v = at_field s index block v (written_over s)

-- whether two values are the same integer or the same block
abbrev pub same_value : Value → Value → Bool
same_value (IntValue a) (IntValue b) = int_eq a b
same_value (BlockValue a) (BlockValue b) = same_label a b
same_value _ _ = false

-- a block is replaced where the field held what was expected
abbrev pub written_where : State → Label → Node → Bool → Outcome
written_where s l new true = record { reply = Yes; state = with_block s l new }
written_where s l new false = only_replies s No

-- `cas`, by the block in the register, the value that is expected and the value to be stored
abbrev pub exchanged : State → ℕ → Option (Label × Node) → Value → Value → Outcome
exchanged s index block Nothing v = only_replies s BadType
exchanged s index block expected v = at_field s index block v (λ l new held. written_where s l new (same_value held expected))

-- what a command does with the ephemeron in a register: its label, its keys and its data
abbrev pub at_ephe : State → Option (Label × Node) → (Label → List (Option Label) → Value → Outcome) → Outcome
at_ephe s (Some (l, Ephe keys datum)) f = f l keys datum
at_ephe s (Some (l, Plain tag fields)) f = only_replies s BadType
at_ephe s (Some (l, Raw tag fields)) f = only_replies s BadType
at_ephe s None f = only_replies s BadType

-- an ephemeron's key index is set
abbrev pub key_set : State → ℕ → Option Label → Label → List (Option Label) → Value → Outcome
key_set s index key l keys datum =
    in_bounds s (slice_get keys index) (λ _. done_with (with_block s l (Ephe (slice_set keys index key) datum)))

-- `set_key`, by the label to be set
abbrev pub key_stored : State → ℕ → Option Label → Option (Label × Node) → Outcome
key_stored s index None block = only_replies s BadType
key_stored s index (Some k) block = at_ephe s block (key_set s index (Some k))

-- an ephemeron's data is set
abbrev pub datum_set : State → Value → Label → List (Option Label) → Value → Outcome
datum_set s v l keys datum = done_with (with_block s l (Ephe keys v))

-- `set_data`, by the value to be set
abbrev pub datum_stored : State → Option (Label × Node) → Value → Outcome
datum_stored s block Nothing = only_replies s BadType
datum_stored s block v = at_ephe s block (datum_set s v)

-- the value that a key is
abbrev pub key_value : Option Label → Value
key_value None = Nothing
key_value (Some l) = BlockValue l

-- whether a value is full
abbrev pub is_full_value : Value → Bool
is_full_value Nothing = false
is_full_value _ = true

-- whether a value is an integer
abbrev pub is_int_value : Value → Bool
is_int_value (IntValue z) = true
is_int_value _ = false

-- whether the fields of a block hold what they may: a plain block's any value but nothing, a raw block's integers
abbrev pub has_full_fields : Node → Bool
has_full_fields (Plain tag fields) = list_all is_full_value fields
has_full_fields (Raw tag fields) = list_all is_int_value fields
has_full_fields (Ephe keys datum) = true

-- a registration is added
abbrev pub with_final : State → ℕ → Finaliser → State
with_final s d f = with_domain s d (record (domain_at s d) { finals = (domain_at s d).finals ++ f ∷ [] })

abbrev pub with_last : State → ℕ → LastFinaliser → State
with_last s d f = with_domain s d (record (domain_at s d) { lasts = (domain_at s d).lasts ++ f ∷ [] })

-- `finalise`, by the label to be registered
abbrev pub finalised : State → ℕ → ℕ → ℕ → Option Label → Outcome
finalised s d number dst None = only_replies s BadType
finalised s d number dst (Some l) = done_with (with_final s d (record { number = number; label = l; register = dst }))

-- `finalise_last`, by the label to be registered
abbrev pub finalised_last : State → ℕ → ℕ → Option Label → Outcome
finalised_last s d number None = only_replies s BadType
finalised_last s d number (Some l) = done_with (with_last s d (record { number = number; label = l }))

-- what `full_major` answers: the number of reachable blocks, and the sum of their words
abbrev pub live_reply : State → Reply
live_reply s = Live (length (reach s)) (sum_by (words_at s.graph) (reach s))

-- what a command of domain d answers, and the state that it leaves. The last four stand for several others and are never allowed: here they do nothing
abbrev pub outcome : State → ℕ → Command → Outcome
outcome s d (PutInt dst value) = done_with (with_register s d dst (IntValue value))
outcome s d (Copy dst src) = done_with (with_register s d dst (register s d src))
outcome s d (Forget dst) = done_with (with_register s d dst Nothing)
outcome s d (Alloc dst tag fields) = allocated s d dst (new_plain tag fields)
outcome s d (AllocMaj dst tag fields) = allocated s d dst (new_plain tag fields)
outcome s d (Load dst src index) = loaded s d dst index (block_in s d src)
outcome s d (Store block index item) = stored s index (block_in s d block) (register s d item)
outcome s d (NewRaw dst tag fields) = allocated s d dst (new_raw tag fields)
outcome s d (Cas block index expected item) = exchanged s index (block_in s d block) (register s d expected) (register s d item)
outcome s d (NewEphe dst keys) = allocated s d dst (Ephe (replicate keys None) Nothing)
outcome s d (SetKey ephe index item) = key_stored s index (label_in s d item) (block_in s d ephe)
outcome s d (UnsetKey ephe index) = at_ephe s (block_in s d ephe) (key_set s index None)
outcome s d (GetKey dst ephe index) =
    at_ephe s (block_in s d ephe) (λ l keys datum. in_bounds s (slice_get keys index) (λ k. read_into s d dst (key_value k)))
outcome s d (CheckKey ephe index) =
    at_ephe s (block_in s d ephe) (λ l keys datum. in_bounds s (slice_get keys index) (λ k. tells s (is_some k)))
outcome s d (SetData ephe item) = datum_stored s (block_in s d ephe) (register s d item)
outcome s d (UnsetData ephe) = at_ephe s (block_in s d ephe) (datum_set s Nothing)
outcome s d (GetData dst ephe) = at_ephe s (block_in s d ephe) (λ l keys datum. read_into s d dst datum)
outcome s d (CheckData ephe) = at_ephe s (block_in s d ephe) (λ l keys datum. tells s (is_full_value datum))
outcome s d (Finalise item number dst) = finalised s d number dst (label_in s d item)
outcome s d (FinaliseLast item number) = finalised_last s d number (label_in s d item)
outcome s d Poll = only_replies s Done
outcome s d Minor = only_replies s Done
outcome s d Major = only_replies s Done
outcome s d FullMajor = only_replies s (live_reply s)
outcome s d (Spawn section item) = only_replies s Done
outcome s d (Argument dst) = only_replies s Done
outcome s d (PutResult item) = only_replies s Done
outcome s d (Join dst section) = only_replies s Done

-- whether a command allocates a block
abbrev pub is_allocation : Command → Bool
is_allocation (Alloc dst tag fields) = true
is_allocation (AllocMaj dst tag fields) = true
is_allocation (NewRaw dst tag fields) = true
is_allocation (NewEphe dst keys) = true
is_allocation _ = false

-- when domain d may answer a command with `full`: only at an allocation, after a complete collection since the domain's last command, and where so much was kept by it or made since that the pools may be used up
pub record MayBeFull (s : State) (d : ℕ) (c : Command) : Type 0 where
  pub allocates : is_allocation c ≡ true
  pub fresh : (domain_at s d).fresh ≡ true
  pub kept_enough : s.sizes.pools ≤ s.kept + reserve s.sizes + s.sizes.classes * s.sizes.domains

-- the reply `full` is given only where it may be
abbrev pub FullOnlyWhereAllowed : State → ℕ → Command → Bool → Type 0
FullOnlyWhereAllowed s d c true = MayBeFull s d c
FullOnlyWhereAllowed s d c false = Unit {0}

-- the mode and the queue in which a command may stand: `full_major` waits for the finalisers that its domain owes, and the four that stand for several others fit none
abbrev pub FitsMode : State → ℕ → Command → Type 0
FitsMode s d (Spawn section item) = ⊥
FitsMode s d (Argument dst) = ⊥
FitsMode s d (PutResult item) = ⊥
FitsMode s d (Join dst section) = ⊥
FitsMode s d FullMajor = (s.mode ≡ Answer) × ((domain_at s d).due ≡ 0)
FitsMode s d _ = (s.mode ≡ Open) × ((domain_at s d).queue ≡ [])

-- whether domain d may make the entry of a command
pub record CommandAllowed (s : State) (d : ℕ) (c : Command) (full : Bool) : Type 0 where
  pub running : (domain_at s d).ended ≡ false
  pub fits : FitsMode s d c
  pub full_fits : FullOnlyWhereAllowed s d c full

-- what the entry of a command answers and leaves, before the domain's helpers change
abbrev pub command_outcome : State → ℕ → Command → Bool → Outcome
command_outcome s d c true = only_replies s Full
command_outcome s d c false = outcome s d c

-- domain d has made the entry of a command: its last complete collection isn't fresh any more, and it owes what its queue holds
abbrev pub after_command : State → ℕ → State
after_command s d = with_domain s d (record (domain_at s d) { fresh = false; due = length (domain_at s d).queue })
